use Rattle.std.proofs.Common.{◌≡◌, inl, refl, arith}
use Rattle.std.proofs.lemmas.Result.{err_from_is_err_and}
use Rattle.xet_core_structures.specs.declared.error.CoreError.TheVariants.{OutOfMemory}
use Rattle.xet_core_structures.specs.Hash.{IsHash}
use Rattle.xet_core_structures.specs.Records.ShardContents.{HoldsShard}
use Rattle.xet_core_structures.specs.declared.record_reader.FormatVersion.TheVariants.{V3}
use Rattle.placed_shards.specs.Content.{content, content_layout}
use Rattle.shard_bytes.specs.Completing.{Completes, RefusesCompletion}
use Rattle.shard_bytes.specs.ResultSizes.{IsRewriteSize}
use Rattle.shard_bytes.specs.Versions.{LaidOutIn, NotLaidOutIn}
use Rattle.shard_bytes.proofs.Completing.{whole_holds, only_memory_lacks, completes_made, size_completed}
use Rattle.shard_bytes.proofs.Compositions.{made_in, refused_in as not_made_in}
use Rattle.shard_bytes.proofs.InVersions.{not_laid_out_for, size_laid_out}
use Rattle.xet_c.proofs.Completing.{completed_fits}
use Rattle.xet_c.proofs.Versions.{no_version, refused_in, filled_in, size_filled}
use Rattle.xet_c.proofs.complete.fill.Goals as goal

pub returns-in_err-version-clause-completed : goal.returns-in_err-version-clause-completed
returns-in_err-version-clause-completed c =
    let Makes = Completes c.args.key c.args.shard.now in
    let Refuses = RefusesCompletion c.args.shard.now in
    let p = err_from_is_err_and c.from_residual.result c.from_residual.ensures.1 in
    rw (p.1, p.2) (no_version c.args.version (λ v. LaidOutIn v Makes) (λ v. NotLaidOutIn v Makes Refuses) _ c.in_err-version.ensures, refl)

pub returns-in_err-version-clause-of_shard : goal.returns-in_err-version-clause-of_shard
returns-in_err-version-clause-of_shard c = λ s shard follows.
    let Makes = HoldsShard c.args.key s in
    let p = err_from_is_err_and c.from_residual.result c.from_residual.ensures.1 in
    rw (p.1, p.2) (no_version c.args.version (λ v. LaidOutIn v Makes) (λ v. NotLaidOutIn v Makes (λ e. e ≡ OutOfMemory)) _ c.in_err-version.ensures, refl)

pub returns-in_err-completed-clause-completed : goal.returns-in_err-completed-clause-completed
returns-in_err-completed-clause-completed c =
    let Makes = Completes c.args.key c.args.shard.now in
    let Refuses = RefusesCompletion c.args.shard.now in
    let version = c.in_ok-version.version in
    let p = err_from_is_err_and c.from_residual-in_err-completed.result c.from_residual-in_err-completed.ensures.1 in
    rw (p.1, p.2)
    (refused_in c.args.version (λ v. LaidOutIn v Makes) (λ v. NotLaidOutIn v Makes Refuses) version c.in_ok-version.ensures _ (not_laid_out_for Makes Refuses version _ c.in_err-completed.ensures), refl)

pub returns-in_err-completed-clause-of_shard : goal.returns-in_err-completed-clause-of_shard
returns-in_err-completed-clause-of_shard c = λ s shard follows.
    let Makes = HoldsShard c.args.key s in
    let version = c.in_ok-version.version in
    let p = err_from_is_err_and c.from_residual-in_err-completed.result c.from_residual-in_err-completed.ensures.1 in
    rw (p.1, p.2) (
      refused_in c.args.version (λ v. LaidOutIn v Makes) (λ v. NotLaidOutIn v Makes (λ e. e ≡ OutOfMemory)) version c.in_ok-version.ensures _
          (not_laid_out_for Makes (λ e. e ≡ OutOfMemory) version _ (only_memory_lacks s shard c.args.shard.now follows _ c.in_err-completed.ensures)),
      refl,
    )

pub returns-clause-completed : goal.returns-clause-completed
returns-clause-completed c =
    let key = c.args.key in
    let bytes = c.args.shard.now in
    let Makes = Completes key bytes in
    let Refuses = RefusesCompletion bytes in
    let version = c.in_ok-version.version in
    let made = content c.in_ok-completed.field-0 in
    let is = c.in_ok-completed.ensures in
    let makes = completes_made key bytes made (content_layout V3 made) is refl in
    let fits = completed_fits _ bytes made is in
    filled_in c.args.version (λ v. LaidOutIn v Makes) (λ v. NotLaidOutIn v Makes Refuses) version c.in_ok-version.ensures made _ _ c.write_into.result (made_in Makes Refuses version made makes fits)
    (not_made_in Makes Refuses version made makes fits (inl refl)) c.write_into.ensures

pub returns-clause-of_shard : goal.returns-clause-of_shard
returns-clause-of_shard c = λ s shard follows.
    let key = c.args.key in
    let hash : IsHash key = record { word0 = omega arith; word1 = omega arith; word2 = omega arith; word3 = omega arith } in
    let bytes = c.args.shard.now in
    let Makes = HoldsShard key s in
    let version = c.in_ok-version.version in
    let made = content c.in_ok-completed.field-0 in
    let is = c.in_ok-completed.ensures in
    let makes = whole_holds s shard bytes follows key (content_layout V3 made) hash (completes_made key bytes made (content_layout V3 made) is refl) in
    let fits = completed_fits _ bytes made is in
    filled_in c.args.version (λ v. LaidOutIn v Makes) (λ v. NotLaidOutIn v Makes (λ e. e ≡ OutOfMemory)) version c.in_ok-version.ensures made _ _ c.write_into.result
    (made_in Makes (λ e. e ≡ OutOfMemory) version made makes fits) (not_made_in Makes (λ e. e ≡ OutOfMemory) version made makes fits refl) c.write_into.ensures

pub returns-clause-size : goal.returns-clause-size
returns-clause-size c =
    let key = c.args.key in
    let bytes = c.args.shard.now in
    size_filled _ _ (IsRewriteSize bytes) _ _ c.write_into.result (λ out made. size_laid_out made.0 (Completes key bytes) (IsRewriteSize bytes) out (size_completed key bytes) made.2) (returns-clause-completed c)
