-- A part of a shard that is added after a header.
use Rattle.std.proofs.Common.{List, ℕ, ◌≡◌, ◌+◌, ◌-◌, ◌/◌, ◌<◌, ◌^◌, Option, inl, inr, true, ap, subst, sym, ◌∙◌, slice_range}
use Rattle.std.specs.Io.KnownBytes.{Appends}
use Rattle.xet_base.specs.declared.error.CoreError.{CoreError}
use Rattle.xet_shards.specs.declared.shard_format.ends.footer.MDBShardFileFooter.{MDBShardFileFooter}
use Rattle.mdb_assembly.specs.Assembly.{AddsSums, BeginsPart, FitFiles, FitRows, FitTable, FitXorbs, HasChunkRows, HasStarts, StepFails, AssemblyState, missing_header, state_of}
use Rattle.mdb_assembly.specs.declared.assembly.Assembly.{Assembly}
use Rattle.mdb_assembly.specs.declared.counts.Counts.{Counts}

-- the header is written and the sums are counted
pub begins_part : {F : Type 0} (contents : F → Option (List ℕ)) (footer : MDBShardFileFooter) (part : List ℕ)
    (old new : Assembly F) (counts : Counts)
    → Appends (contents old.output) (contents new.output) (missing_header old.has_header part)
    → new.has_header ≡ true → new ≡ record old { has_header = new.has_header; output = new.output }
    → AddsSums footer new.counts counts
    → BeginsPart footer part (state_of contents old) (record (state_of contents new) { counts = counts })
begins_part {F} contents footer part old new counts header has_header others sums =
    let begun : AssemblyState = record (state_of contents new) { counts = counts } in
    record {
      header = header;
      counts = subst (λ n. AddsSums footer n counts) (ap (λ (s : Assembly F). s.counts) others) sums;
      others = ap (λ (s : Assembly F). record (state_of contents s) { has_header = begun.has_header; output = begun.output; counts = counts })
          others
          ∙ ap (λ b. record (state_of contents old) { has_header = b; output = begun.output; counts = counts }) has_header;
    }

-- what fails as something does not fit, fails as more does not
pub step_fails : (Fit More : Type 0) (e : CoreError) → (More → Fit) → StepFails Fit e → StepFails More e
step_fails Fit More e fit (inl device) = inl device
step_fails Fit More e fit (inr invalid) = inr (invalid.0, λ more. invalid.1 (fit more))

module _ (footer : MDBShardFileFooter) (part : List ℕ) (old begun : AssemblyState)
    (begins : BeginsPart footer part old begun) where
  waiting : old.waiting ≡ begun.waiting
  waiting = sym (ap (λ w. w.waiting) begins.others)

  -- the header takes no room from the files
  pub fit_files : FitFiles footer part old → FitFiles footer part begun
  fit_files fit =
      let rows : old.counts.file_rows ≡ begun.counts.file_rows = sym (ap (λ n. n.file_rows) begins.counts.others) in
      let files : old.counts.files ≡ begun.counts.files = sym (ap (λ n. n.files) begins.counts.others) in
      record {
        rows = subst (λ n. FitRows part n footer.file_info_offset footer.xorb_info_offset) rows fit.rows;
        table = subst (λ n. FitTable part n footer.file_lookup_offset footer.xorb_lookup_offset) waiting fit.table;
        starts = subst (HasStarts (slice_range part footer.file_lookup_offset footer.xorb_lookup_offset)) rows fit.starts;
        files = subst (λ n. n + (footer.xorb_lookup_offset - footer.file_lookup_offset) / 12 < 2 ^ 32) files fit.files;
      }

  -- nor from the xorbs
  pub fit_xorbs : FitXorbs footer part old → FitXorbs footer part begun
  fit_xorbs fit =
      let size = footer.chunk_lookup_offset - footer.xorb_lookup_offset in
      let rows : old.counts.xorb_rows ≡ begun.counts.xorb_rows = sym (ap (λ n. n.xorb_rows) begins.counts.others) in
      let xorbs : old.counts.xorbs ≡ begun.counts.xorbs = sym (ap (λ n. n.xorbs) begins.counts.others) in
      let chunks : old.counts.chunks ≡ begun.counts.chunks = sym (ap (λ n. n.chunks) begins.counts.others) in
      record {
        rows = subst (λ n. FitRows part n footer.xorb_info_offset footer.file_lookup_offset) rows fit.rows;
        table = subst (λ n. FitTable part n footer.xorb_lookup_offset footer.chunk_lookup_offset) waiting fit.table;
        starts = subst (HasStarts (slice_range part footer.xorb_lookup_offset footer.chunk_lookup_offset)) rows fit.starts;
        xorbs = subst (λ n. n + size / 12 < 2 ^ 32) xorbs fit.xorbs;
        chunk_table = subst (λ n. FitTable part (n + size) footer.chunk_lookup_offset footer.footer_offset) waiting fit.chunk_table;
        chunk_rows = subst (HasChunkRows (slice_range part footer.chunk_lookup_offset footer.footer_offset)) rows fit.chunk_rows;
        chunks = subst (λ n. n + (footer.footer_offset - footer.chunk_lookup_offset) / 16 < 2 ^ 32) chunks fit.chunks;
      }
