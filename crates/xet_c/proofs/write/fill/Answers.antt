use Rattle.std.proofs.Common.{Some, ap, ◌∙◌, refl}
use Rattle.std.proofs.lemmas.Result.{err_from_is_err_and}
use Rattle.placed_shards.specs.Content.{Content, content}
use Rattle.placed_shards.specs.Given.{plain_content, shard_of as given_shard}
use Rattle.shard_bytes.proofs.GivenRecords.{can_given, not_given, records_written, records_refused}
use Rattle.xet_c.specs.ListedRecords.{RefusesListed, WritesListed}
use Rattle.xet_c.proofs.Versions.{no_version, refused_in, filled_in}
use Rattle.xet_c.proofs.WrittenLists.{no_files, no_xorbs, not_written, written}
use Rattle.xet_c.proofs.write.fill.Goals as goal

pub returns-in_err-version : goal.returns-in_err-version
returns-in_err-version c =
    let a = c.args in
    let p = err_from_is_err_and c.from_residual.result c.from_residual.ensures.1 in
    rw (p.1, p.2)
    (no_version a.version (WritesListed a.files.now a.segments.now a.xorbs.now a.chunks.now a.expiry) (RefusesListed a.files.now a.segments.now a.xorbs.now a.chunks.now) _ c.in_err-version.ensures, refl)

pub returns-in_err-files : goal.returns-in_err-files
returns-in_err-files c =
    let a = c.args in
    let version = c.in_ok-version.version in
    let p = err_from_is_err_and c.from_residual-in_err-files.result c.from_residual-in_err-files.ensures.1 in
    rw (p.1, p.2) (
      refused_in a.version (WritesListed a.files.now a.segments.now a.xorbs.now a.chunks.now a.expiry) (RefusesListed a.files.now a.segments.now a.xorbs.now a.chunks.now) version c.in_ok-version.ensures _
          (no_files a.files.now a.segments.now a.xorbs.now a.chunks.now version _ c.in_err-files.ensures),
      refl,
    )

pub returns-in_err-xorbs : goal.returns-in_err-xorbs
returns-in_err-xorbs c =
    let a = c.args in
    let version = c.in_ok-version.version in
    let p = err_from_is_err_and c.from_residual-in_err-xorbs.result c.from_residual-in_err-xorbs.ensures.1 in
    rw (p.1, p.2) (
      refused_in a.version (WritesListed a.files.now a.segments.now a.xorbs.now a.chunks.now a.expiry) (RefusesListed a.files.now a.segments.now a.xorbs.now a.chunks.now) version c.in_ok-version.ensures _
          (no_xorbs a.files.now a.segments.now a.xorbs.now a.chunks.now version _ c.in_err-xorbs.ensures),
      refl,
    )

pub returns-in_err-shard : goal.returns-in_err-shard
returns-in_err-shard c =
    let a = c.args in
    let version = c.in_ok-version.version in
    let fs = c.in_ok-files.files.items in
    let xs = c.in_ok-xorbs.xorbs.items in
    let p = err_from_is_err_and c.from_residual-in_err-shard.result c.from_residual-in_err-shard.ensures.1 in
    rw (p.1, p.2) (
      refused_in a.version (WritesListed a.files.now a.segments.now a.xorbs.now a.chunks.now a.expiry) (RefusesListed a.files.now a.segments.now a.xorbs.now a.chunks.now) version c.in_ok-version.ensures _
          (not_written a.files.now a.segments.now a.xorbs.now a.chunks.now version fs xs c.in_ok-files.ensures c.in_ok-xorbs.ensures _ (not_given fs xs version _ c.in_err-shard.ensures.admitted)),
      refl,
    )

pub returns : goal.returns
returns c =
    let a = c.args in
    let version = c.in_ok-version.version in
    let fs = c.in_ok-files.files.items in
    let xs = c.in_ok-xorbs.xorbs.items in
    let made = content c.with_options-shard.result in
    let is = c.with_options-shard.ensures.content ∙ ap (λ (d : Content). record d { options = c.plain.result }) c.in_ok-shard.ensures.made ∙ (λ i. record (plain_content (given_shard fs xs)) { options = c.plain.ensures i }) in
    let can = (can_given fs xs).1 c.in_ok-shard.ensures.admitted in
    filled_in a.version (WritesListed a.files.now a.segments.now a.xorbs.now a.chunks.now a.expiry) (RefusesListed a.files.now a.segments.now a.xorbs.now a.chunks.now) version c.in_ok-version.ensures made _ _ c.write_into.result
    (λ out is_written. written a.files.now a.segments.now a.xorbs.now a.chunks.now version fs xs c.in_ok-files.ensures c.in_ok-xorbs.ensures a.expiry out can (records_written fs xs (Some a.expiry) version made is out is_written))
    (λ e why. not_written a.files.now a.segments.now a.xorbs.now a.chunks.now version fs xs c.in_ok-files.ensures c.in_ok-xorbs.ensures e (records_refused fs xs (Some a.expiry) version made is e why)) c.write_into.ensures
