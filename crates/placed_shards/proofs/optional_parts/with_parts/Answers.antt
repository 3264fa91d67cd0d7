use Rattle.xet_records.specs.View.{as_kept}
use Rattle.placed_shards.proofs.Kept.{kept_stored, kept_few}
use Rattle.placed_shards.proofs.optional_parts.with_parts.Goals as goal

pub of_bytes-requires : goal.of_bytes-requires
of_bytes-requires c =
    let r = c.args.file.now in
    let kept = c.args.kept in
    let is = c.is_stored.ensures in
    (as_kept kept r, kept_stored kept r is.stored, kept_few kept r is.stored is.rows, c.in_ok-kept_bytes.ensures)

pub returns : goal.returns
returns c = c.of_bytes.ensures (as_kept c.args.kept c.args.file.now) (kept_stored c.args.kept c.args.file.now c.is_stored.ensures.stored) c.in_ok-kept_bytes.ensures
