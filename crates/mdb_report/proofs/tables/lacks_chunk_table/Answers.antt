use Rattle.std.proofs.Common.{◌≡◌, inr, All, ap, ◌∙◌, subst}
use Rattle.std.proofs.lemmas.Result.{err_from_is_err_and}
use Rattle.xet_core_structures.specs.Ends.{HasHeaderAndFooter}
use Rattle.xet_core_structures.specs.Source.{Source}
use Rattle.mdb_report.specs.LookupTables.{HaveChunks, HasNoChunks}
use Rattle.mdb_report.proofs.Reading.{outcome_in_memory}
use Rattle.mdb_report.proofs.tables.lacks_chunk_table.Goals as goal

pub returns-in_err-xorbs-clause-refused : goal.returns-in_err-xorbs-clause-refused
returns-in_err-xorbs-clause-refused c =
    let info = c.in_ok-info.info in
    let x : c.new-source.result.bytes.now ≡ c.args.bytes.now = ap (λ (s : Source). s.bytes) c.new-source.ensures in
    let ends = subst (λ bytes. HasHeaderAndFooter bytes info) x c.in_ok-info.ensures.read.ends in
    let p = err_from_is_err_and c.from_residual-in_err-xorbs.result c.from_residual-in_err-xorbs.ensures.1 in
    rw (p.1, p.2) (inr (outcome_in_memory c.args.bytes.now info c.load_from_reader.new.source c.read_all_xorb_blocks.new.source ends (c.in_ok-info.ensures.read.bytes ∙ x) c.in_err-xorbs.ensures.read))

pub returns-clause-lacks : goal.returns-clause-lacks
returns-clause-lacks c = λ yes.
    let info = c.in_ok-info.info in
    let x : c.new-source.result.bytes.now ≡ c.args.bytes.now = ap (λ (s : Source). s.bytes) c.new-source.ensures in
    let ends = subst (λ bytes. HasHeaderAndFooter bytes info) x c.in_ok-info.ensures.read.ends in
    record {
      info = info;
      ends = ends;
      no_rows = c.if-info-ne0.false;
      xorbs = c.in_ok-xorbs.xorbs.items;
      held = outcome_in_memory c.args.bytes.now info c.load_from_reader.new.source c.read_all_xorb_blocks.new.source ends (c.in_ok-info.ensures.read.bytes ∙ x) c.in_ok-xorbs.ensures.read;
      some = subst HaveChunks c.as_slice.ensures.value (c.any_has_chunks.ensures.some yes);
    }

pub returns-clause-has : goal.returns-clause-has
returns-clause-has c = λ no.
    let info = c.in_ok-info.info in
    let x : c.new-source.result.bytes.now ≡ c.args.bytes.now = ap (λ (s : Source). s.bytes) c.new-source.ensures in
    let ends = subst (λ bytes. HasHeaderAndFooter bytes info) x c.in_ok-info.ensures.read.ends in
    inr (
      c.in_ok-xorbs.xorbs.items,
      outcome_in_memory c.args.bytes.now info c.load_from_reader.new.source c.read_all_xorb_blocks.new.source ends (c.in_ok-info.ensures.read.bytes ∙ x) c.in_ok-xorbs.ensures.read,
      subst (All HasNoChunks) c.as_slice.ensures.value (c.any_has_chunks.ensures.none no),
    )
