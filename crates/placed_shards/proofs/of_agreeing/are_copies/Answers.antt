use Rattle.std.proofs.Common.{sym, ap, ◌∙◌}
use Rattle.placed_shards.proofs.Agreeing.{same_bytes}
use Rattle.placed_shards.proofs.of_agreeing.are_copies.Goals as goal

pub returns : goal.returns
returns g c =
    let K = g.P.PlacedRecord.kind in
    let r = c.args.first.now in
    let s = c.args.second.now in (
      λ yes. same_bytes K c.laws.ensures.laws r s c.is_stored.ensures.stored c.is_stored-2.ensures.stored (sym c.bytes.ensures.bytes ∙ c.are_equal.ensures.0 yes ∙ c.bytes-2.ensures.bytes),
      λ same. c.are_equal.ensures.1 (c.bytes.ensures.bytes ∙ ap K.record_bytes same ∙ sym c.bytes-2.ensures.bytes),
    )
