use Rattle.std.proofs.Common.{◌≡◌, Bor, ℕ, List, inl, length, map, refl, subst, sym}
use Rattle.std.proofs.lemmas.Result.{err_from_is_err_and}
use Rattle.xet_core_structures.specs.Trees.MergeTrees.{MergeRefused}
use Rattle.placed_shards.specs.Content.{Content, content}
use Rattle.placed_shards.specs.MergedLists.{IsMergeOf, MergeRefusal, shard_content}
use Rattle.placed_shards.specs.MergedLists.MergeRefusal.{no_memory}
use Rattle.placed_shards.specs.MergeSizes.{IsResultSize}
use Rattle.shard_bytes.specs.Versions.{IsWrittenIn, NotWrittenIn}
use Rattle.shard_bytes.proofs.Compositions.{IsWritten, IsNotWritten, written_of, not_written_of}
use Rattle.xet_c.proofs.Versions.{no_version, refused_in, filled_in, size_filled}
use Rattle.xet_c.proofs.merge.fill.Goals as goal

pub returns-in_err-version-clause-merged : goal.returns-in_err-version-clause-merged
returns-in_err-version-clause-merged c =
    let inputs : List (List ℕ) = map (λ (x : Bor (List ℕ)). x.now) c.args.shards.now in
    let IsMade = IsMergeOf c.args.asked.now inputs in
    let p = err_from_is_err_and c.from_residual.result c.from_residual.ensures.1 in
    rw (p.1, p.2) (no_version c.args.version (λ v. IsWrittenIn v IsMade) (λ v. NotWrittenIn v IsMade (MergeRefusal c.args.asked.now inputs)) _ c.in_err-version.ensures, refl)

pub returns-in_err-version-clause-one_byte_string : goal.returns-in_err-version-clause-one_byte_string
returns-in_err-version-clause-one_byte_string c = λ key parts join list.
    let IsMade = λ (made : Content). made ≡ shard_content key join in
    let p = err_from_is_err_and c.from_residual.result c.from_residual.ensures.1 in
    rw (p.1, p.2) (no_version c.args.version (λ v. IsWrittenIn v IsMade) (λ v. NotWrittenIn v IsMade (MergeRefused join)) _ c.in_err-version.ensures, refl)

pub returns-in_err-merge-clause-merged : goal.returns-in_err-merge-clause-merged
returns-in_err-merge-clause-merged c =
    let inputs : List (List ℕ) = map (λ (x : Bor (List ℕ)). x.now) c.args.shards.now in
    let IsMade = IsMergeOf c.args.asked.now inputs in
    let p = err_from_is_err_and c.from_residual-in_err-merge.result c.from_residual-in_err-merge.ensures.1 in
    rw (p.1, p.2)
    (refused_in c.args.version (λ v. IsWrittenIn v IsMade) (λ v. NotWrittenIn v IsMade (MergeRefusal c.args.asked.now inputs)) c.in_ok-version.version c.in_ok-version.ensures _ (inl c.in_err-merge.ensures.any_bytes), refl)

pub returns-in_err-merge-clause-one_byte_string : goal.returns-in_err-merge-clause-one_byte_string
returns-in_err-merge-clause-one_byte_string c = λ key parts join list.
    let IsMade = λ (made : Content). made ≡ shard_content key join in
    let p = err_from_is_err_and c.from_residual-in_err-merge.result c.from_residual-in_err-merge.ensures.1 in
    rw (p.1, p.2) (
      refused_in c.args.version (λ v. IsWrittenIn v IsMade) (λ v. NotWrittenIn v IsMade (MergeRefused join)) c.in_ok-version.version c.in_ok-version.ensures _
          (inl (c.in_err-merge.ensures.one_byte_string key parts join list)),
      refl,
    )

pub returns-clause-merged : goal.returns-clause-merged
returns-clause-merged c =
    let inputs : List (List ℕ) = map (λ (x : Bor (List ℕ)). x.now) c.args.shards.now in
    let IsMade = IsMergeOf c.args.asked.now inputs in
    let Refuses = MergeRefusal c.args.asked.now inputs in
    let version = c.in_ok-version.version in
    let made = content c.in_ok-merge.field-0 in
    let is = c.in_ok-merge.ensures.any_bytes.1 in
    filled_in c.args.version (λ v. IsWrittenIn v IsMade) (λ v. NotWrittenIn v IsMade Refuses) version c.in_ok-version.ensures made _ _ c.write_into.result (written_of version IsMade made is)
    (not_written_of version IsMade made is Refuses (no_memory refl)) c.write_into.ensures

pub returns-clause-one_byte_string : goal.returns-clause-one_byte_string
returns-clause-one_byte_string c = λ key parts join list.
    let IsMade = λ (made : Content). made ≡ shard_content key join in
    let Refuses = MergeRefused join in
    let version = c.in_ok-version.version in
    let made = content c.in_ok-merge.field-0 in
    let is = c.in_ok-merge.ensures.one_byte_string key parts join list in
    filled_in c.args.version (λ v. IsWrittenIn v IsMade) (λ v. NotWrittenIn v IsMade Refuses) version c.in_ok-version.ensures made _ _ c.write_into.result (written_of version IsMade made is)
    (not_written_of version IsMade made is Refuses (inl refl)) c.write_into.ensures

pub returns-clause-size : goal.returns-clause-size
returns-clause-size c =
    let inputs : List (List ℕ) = map (λ (x : Bor (List ℕ)). x.now) c.args.shards.now in
    let version = c.in_ok-version.version in
    let made = content c.in_ok-merge.field-0 in
    let says = c.in_ok-merge.ensures.size version in
    size_filled (IsWritten version made) (IsNotWritten version made) (IsResultSize inputs) _ _ c.write_into.result (λ out is. subst (λ ys. IsResultSize inputs (length ys)) (sym is.1) says) c.write_into.ensures
