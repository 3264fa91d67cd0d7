use Rattle.std.proofs.Common.{◌≡◌, ◌⊎◌, List, ℕ, OnOk, ◌∙◌, subst}
use Rattle.std.proofs.lemmas.Result.{err_from_is_err_and}
use Rattle.xet_core_structures.specs.declared.error.CoreError.TheVariants.{InvalidArguments, OutOfMemory}
use Rattle.xet_core_structures.specs.Ends.{HasHeaderAndFooter}
use Rattle.xet_core_structures.specs.Layout.{layout_of}
use Rattle.xet_core_structures.specs.TwoShards.ByteResults.{LoadRefusal}
use Rattle.xet_shards.specs.Read.SectionsBehindHeader.{options_of}
use Rattle.placed_shards.specs.Content.{Content, HasFilesIn, content_layout}
use Rattle.shard_bytes.specs.Steps.CheckingSteps.{Compares}
use Rattle.shard_bytes.proofs.Checking.{footer_read, never_refused, written_unless, xorbs_fit}
use Rattle.shard_bytes.proofs.check.push_differences.Goals as goal
use Rattle.shard_bytes.proofs.check.push_differences.Goals.{In_ok-written}

pub returns-in_err-written-clause-causes : goal.returns-in_err-written-clause-causes
returns-in_err-written-clause-causes c =
    let e = c.in_err-written.field-0.0 in
    let p = err_from_is_err_and c.from_residual.result c.from_residual.ensures.1 in
    rw (p.1, p.2) (written_unless c.args.bytes.now c.args.info.now c.args.shard.now.files.items c.args.shard.now.xorbs.items c.requires.read e
    (subst (λ (made : Content). (e ≡ OutOfMemory) ⊎ ((e ≡ InvalidArguments) × (¬ HasFilesIn made.options.version made))) c.requires.made c.in_err-written.ensures))

-- the library wrote these bytes
written_is : (c : In_ok-written) (written : List ℕ) → written ≡ c.in_ok-written.written.items → written ≡ layout_of c.args.shard.now.files.items c.args.shard.now.xorbs.items (options_of c.args.info.now)
written_is c written is = is ∙ c.in_ok-written.ensures.1 ∙ (λ i. content_layout (c.requires.made i).options.version (c.requires.made i))

pub returns-in_err-footer-clause-causes : goal.returns-in_err-footer-clause-causes
returns-in_err-footer-clause-causes c =
    let e = c.in_err-footer.field-0.0 in
    let p = err_from_is_err_and c.from_residual-in_err-footer.result c.from_residual-in_err-footer.ensures.1 in
    let written = written_is (goal.at.returns-in_err-footer-clause-causes c).In_ok-written c.as_slice-written.result.now c.as_slice-written.ensures.value in
    absurd (never_refused c.args.bytes.now c.args.info.now c.args.shard.now.files.items c.args.shard.now.xorbs.items c.requires.read e (subst (λ bs. LoadRefusal bs e) written c.in_err-footer.ensures))

pub compare-requires : goal.compare-requires
compare-requires c =
    let bytes = c.args.bytes.now in
    let info = c.args.info.now in
    let files = c.args.shard.now.files.items in
    let xorbs = c.args.shard.now.xorbs.items in
    let written = written_is (goal.at.compare-requires c).In_ok-written c.as_slice-written.result.now c.as_slice-written.ensures.value in
    record {
      files = files;
      xorbs = xorbs;
      options = options_of info;
      xorbs_fit = xorbs_fit bytes info files xorbs c.requires.read;
      bytes_are = written;
      footer_is = footer_read bytes info files xorbs c.requires.read c.in_ok-footer.field-0 (subst (λ bs. HasHeaderAndFooter bs c.in_ok-footer.field-0) written c.in_ok-footer.ensures);
    }

pub returns-clause-added : goal.returns-clause-added
returns-clause-added c =
    let bytes = c.args.bytes.now in
    let info = c.args.info.now in
    let files = c.args.shard.now.files.items in
    let xorbs = c.args.shard.now.xorbs.items in
    let written = written_is (goal.at.returns-clause-added c).In_ok-written c.as_slice-written.result.now c.as_slice-written.ensures.value in
    let footer = footer_read bytes info files xorbs c.requires.read c.in_ok-footer.field-0 (subst (λ bs. HasHeaderAndFooter bs c.in_ok-footer.field-0) written c.in_ok-footer.ensures) in
    subst (λ p. p) (λ i. OnOk c.compare.result (Compares bytes info (written i) (footer i) c.args.findings.now.items c.compare.new.findings.items)) c.compare.ensures.added
