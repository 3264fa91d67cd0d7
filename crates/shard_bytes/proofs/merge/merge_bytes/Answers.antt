use Rattle.std.proofs.Common.{◌≡◌, ℕ, List, Bor, inl, length, map, refl, subst, sym}
use Rattle.std.proofs.lemmas.Result.{err_from_is_err_and}
use Rattle.placed_shards.specs.Content.{Content, content}
use Rattle.placed_shards.specs.MergedLists.{IsMergeOf, MergeRefusal, shard_content}
use Rattle.placed_shards.specs.MergedLists.MergeRefusal.{no_memory}
use Rattle.placed_shards.specs.MergeSizes.{IsResultSize}
use Rattle.xet_core_structures.specs.Trees.MergeTrees.{MergeRefused}
use Rattle.placed_shards.proofs.Outcomes.{if_written}
use Rattle.shard_bytes.specs.Versions.{IsWrittenIn, NotWrittenIn}
use Rattle.shard_bytes.proofs.Compositions.{IsWritten, IsNotWritten, written_of, not_written_of}
use Rattle.shard_bytes.proofs.Sizes.{if_made}
use Rattle.shard_bytes.proofs.merge.merge_bytes.Goals as goal

pub returns-in_err-merge-clause-merged : goal.returns-in_err-merge-clause-merged
returns-in_err-merge-clause-merged c =
    let p = err_from_is_err_and c.from_residual.result c.from_residual.ensures.1 in
    rw (p.1, p.2) (inl c.in_err-merge.ensures.any_bytes)

pub returns-in_err-merge-clause-one_byte_string : goal.returns-in_err-merge-clause-one_byte_string
returns-in_err-merge-clause-one_byte_string c = λ key parts join list.
    let p = err_from_is_err_and c.from_residual.result c.from_residual.ensures.1 in
    rw (p.1, p.2) (inl (c.in_err-merge.ensures.one_byte_string key parts join list))

pub returns-clause-merged : goal.returns-clause-merged
returns-clause-merged c =
    let a = c.args in
    let inputs : List (List ℕ) = map (λ (x : Bor (List ℕ)). x.now) a.shards.now in
    let made = content c.in_ok-merge.field-0 in
    let IsMade = IsMergeOf a.selection.now inputs in
    let Refuses = MergeRefusal a.selection.now inputs in
    let is = c.in_ok-merge.ensures.any_bytes.1 in
    if_written (IsWritten a.version made) (IsWrittenIn a.version IsMade) (IsNotWritten a.version made) (NotWrittenIn a.version IsMade Refuses) c.to_bytes.result
    (written_of a.version IsMade made is) (not_written_of a.version IsMade made is Refuses (no_memory refl)) c.to_bytes.ensures

pub returns-clause-one_byte_string : goal.returns-clause-one_byte_string
returns-clause-one_byte_string c = λ key parts join list.
    let a = c.args in
    let made = content c.in_ok-merge.field-0 in
    let IsMade = λ (m : Content). m ≡ shard_content key join in
    let Refuses = MergeRefused join in
    let is = c.in_ok-merge.ensures.one_byte_string key parts join list in
    if_written (IsWritten a.version made) (IsWrittenIn a.version IsMade) (IsNotWritten a.version made) (NotWrittenIn a.version IsMade Refuses) c.to_bytes.result
    (written_of a.version IsMade made is) (not_written_of a.version IsMade made is Refuses (inl refl)) c.to_bytes.ensures

pub returns-clause-size : goal.returns-clause-size
returns-clause-size c =
    let inputs : List (List ℕ) = map (λ (x : Bor (List ℕ)). x.now) c.args.shards.now in
    let says = c.in_ok-merge.ensures.size c.args.version in
    if_made c.to_bytes.result _ _ _ (λ out is. subst (λ zs. IsResultSize inputs (length zs)) (sym is.1) says) c.to_bytes.ensures
