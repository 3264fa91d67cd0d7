use Rattle.std.proofs.Common.{◌⊎◌, inl, inr, ℕ, List}
use Rattle.std.proofs.lemmas.Result.{err_from_is_err_and}
use Rattle.std.specs.Prelude.{⊤}
use Rattle.xet_core_structures.specs.declared.error.CoreError.{CoreError}
use Rattle.placed_shards.specs.Findings.{FirstRefusal}
use Rattle.placed_shards.specs.MergedLists.{IsMergeOf, MergeRefusal}
use Rattle.placed_shards.specs.Selections.{all_records}
use Rattle.placed_shards.specs.Strict.{AgreedRefusal, IsJoinedMerge}
use Rattle.xet_records.specs.declared.record_reader.FormatVersion.{FormatVersion}
use Rattle.shard_bytes.specs.Versions.{NotWrittenIn}
use Rattle.mdb_merging.proofs.merge.unite_leniently.Goals as goal

-- what a strict merge refuses for its inputs, or for their union, a lenient one refuses too
lenient_refusal : (version : FormatVersion) (inputs : List (List ℕ)) (e : CoreError)
    → AgreedRefusal all_records inputs (NotWrittenIn version (IsJoinedMerge all_records inputs) (MergeRefusal all_records inputs)) e
    → FirstRefusal all_records (λ c. ⊤) inputs e ⊎ NotWrittenIn version (IsMergeOf all_records inputs) (MergeRefusal all_records inputs) e
lenient_refusal version inputs e (inl (inl none)) = inl (inl none)
lenient_refusal version inputs e (inl (inr u)) =
    inl (inr (record { before = u.before; bytes = u.bytes; after = u.after; inputs_are = u.inputs_are; shards = u.shards; opened = u.opened; hold = λ k shard below. tt; refused = u.refused }))
lenient_refusal version inputs e (inr (agree, inl refused)) = inr (inl refused)
lenient_refusal version inputs e (inr (agree, inr (invalid, (made, joined, lacks)))) = inr (inr (invalid, (made, joined.merge, lacks)))

pub returns-in_err-choice-in-Ok-Malformed : goal.returns-in_err-choice-in-Ok-Malformed
returns-in_err-choice-in-Ok-Malformed g c =
    let p = err_from_is_err_and c.from_residual.result c.from_residual.ensures.1 in
    let (e, refused, no_memory) = c.in_err-choice-in-Ok-Malformed.ensures in
    rw (p.1, p.2) (e, inl refused, no_memory)

pub returns-in-Err : goal.returns-in-Err
returns-in-Err g c = (c.in-Err.error, lenient_refusal _ _ _ c.in-Err.ensures.merged, c.combine_failure_in.ensures)
