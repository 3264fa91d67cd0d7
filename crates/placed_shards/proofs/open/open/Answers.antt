use Rattle.std.proofs.Common.{inr, refl, ap, subst}
use Rattle.std.proofs.lemmas.Result.{err_from_is_err_and}
use Rattle.xet_base.specs.Source.{Source}
use Rattle.xet_shards.specs.Ends.Ends.{HasHeaderAndFooter}
use Rattle.placed_shards.proofs.Opening.{files_refused, shard_opened, xorbs_refused}
use Rattle.placed_shards.proofs.open.open.Goals as goal

pub returns-in_err-files : goal.returns-in_err-files
returns-in_err-files c =
    let bytes = c.args.bytes.now in
    let info = c.in_ok-info.info in
    let ends = subst (λ b. HasHeaderAndFooter b info) (ap (λ (s : Source). s.bytes) c.new-source.ensures) c.in_ok-info.ensures.read.ends in
    let p = err_from_is_err_and c.from_residual-in_err-files.result c.from_residual-in_err-files.ensures.1 in
    rw (p.1, p.2) (inr (info, ends, files_refused bytes info c.of_header-version.result c.bytes_from-from_files.result.now c.of_header-version.ensures c.bytes_from-from_files.ensures _ c.in_err-files.ensures))

pub returns-in_err-xorbs : goal.returns-in_err-xorbs
returns-in_err-xorbs c =
    let bytes = c.args.bytes.now in
    let info = c.in_ok-info.info in
    let ends = subst (λ b. HasHeaderAndFooter b info) (ap (λ (s : Source). s.bytes) c.new-source.ensures) c.in_ok-info.ensures.read.ends in
    let p = err_from_is_err_and c.from_residual-in_err-xorbs.result c.from_residual-in_err-xorbs.ensures.1 in
    rw (p.1, p.2) (inr (
      info,
      ends,
      xorbs_refused bytes info c.of_header-version.result c.bytes_from-from_files.result.now c.of_header-version.ensures c.bytes_from-from_files.ensures c.in_ok-files.files.items c.in_ok-files.ensures.0
          c.in_ok-files.ensures.1 c.bytes_from-from_xorbs.result.now _ c.bytes_from-from_xorbs.ensures c.in_err-xorbs.ensures,
    ))

pub returns : goal.returns
returns c =
    let bytes = c.args.bytes.now in
    let info = c.in_ok-info.info in
    let ends = subst (λ b. HasHeaderAndFooter b info) (ap (λ (s : Source). s.bytes) c.new-source.ensures) c.in_ok-info.ensures.read.ends in (
      refl,
      shard_opened bytes info c.of_header-version.result c.bytes_from-from_files.result.now c.of_header-version.ensures c.bytes_from-from_files.ensures c.in_ok-files.files.items c.in_ok-files.ensures.0 c.in_ok-files.ensures.1
          c.bytes_from-from_xorbs.result.now c.in_ok-xorbs.xorbs.items c.bytes_from-from_xorbs.ensures c.in_ok-xorbs.ensures.0 c.in_ok-xorbs.ensures.1 ends _ c.of_info.ensures,
    )
