use Rattle.std.proofs.Common.{[], ◌∷◌, inl, refl}
use Rattle.std.proofs.lemmas.Result.{err_from_is_err_and}
use Rattle.placed_shards.specs.Content.{content}
use Rattle.placed_shards.specs.MergeSizes.{IsResultSize}
use Rattle.shard_bytes.specs.declared.combine.Operation.TheVariants.{Difference}
use Rattle.shard_bytes.specs.Combining.{CombinesTo, RefusesCombining}
use Rattle.shard_bytes.specs.Versions.{IsWrittenIn, NotWrittenIn}
use Rattle.shard_bytes.proofs.Combining.{size_of_result}
use Rattle.shard_bytes.proofs.Compositions.{written_of, not_written_of}
use Rattle.xet_c.proofs.Versions.{no_version, refused_in, filled_in, size_filled}
use Rattle.xet_c.proofs.difference.fill.Goals as goal

pub returns-in_err-version-clause-combined : goal.returns-in_err-version-clause-combined
returns-in_err-version-clause-combined c =
    let IsMade = CombinesTo Difference c.args.first.now c.args.second.now in
    let Refuses = RefusesCombining Difference c.args.first.now c.args.second.now in
    let p = err_from_is_err_and c.from_residual.result c.from_residual.ensures.1 in
    rw (p.1, p.2) (no_version c.args.version (λ v. IsWrittenIn v IsMade) (λ v. NotWrittenIn v IsMade Refuses) _ c.in_err-version.ensures, refl)

pub returns-in_err-combined-clause-combined : goal.returns-in_err-combined-clause-combined
returns-in_err-combined-clause-combined c =
    let IsMade = CombinesTo Difference c.args.first.now c.args.second.now in
    let Refuses = RefusesCombining Difference c.args.first.now c.args.second.now in
    let p = err_from_is_err_and c.from_residual-in_err-combined.result c.from_residual-in_err-combined.ensures.1 in
    rw (p.1, p.2) (refused_in c.args.version (λ v. IsWrittenIn v IsMade) (λ v. NotWrittenIn v IsMade Refuses) c.in_ok-version.version c.in_ok-version.ensures _ (inl c.in_err-combined.ensures), refl)

pub returns-clause-combined : goal.returns-clause-combined
returns-clause-combined c =
    let IsMade = CombinesTo Difference c.args.first.now c.args.second.now in
    let Refuses = RefusesCombining Difference c.args.first.now c.args.second.now in
    let version = c.in_ok-version.version in
    let made = content c.in_ok-combined.field-0 in
    let is = c.in_ok-combined.ensures in
    filled_in c.args.version (λ v. IsWrittenIn v IsMade) (λ v. NotWrittenIn v IsMade Refuses) version c.in_ok-version.ensures made _ _ c.write_into.result (written_of version IsMade made is)
    (not_written_of version IsMade made is Refuses (inl refl)) c.write_into.ensures

pub returns-clause-size : goal.returns-clause-size
returns-clause-size c =
    size_filled _ _ (IsResultSize (c.args.second.now ∷ [])) _ _ c.write_into.result (λ out made. size_of_result Difference c.args.first.now c.args.second.now out made.0 made.2) (returns-clause-combined c)
