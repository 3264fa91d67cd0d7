use Rattle.std.proofs.Common.{sym, ap, ◌∙◌, subst}
use Rattle.xet_records.specs.XorbRecord.{IsStoredXorb}
use Rattle.xet_shards.specs.Export.KeyedExport.{keyed_xorb}
use Rattle.xet_shards.proofs.Content.KeyedHashes.{keyed_stored}
use Rattle.placed_shards.proofs.keys.keyed.Goals as goal

pub place_xorb-requires : goal.place_xorb-requires
place_xorb-requires c =
    subst IsStoredXorb (sym (c.with_keyed_hashes.ensures ∙ ap (keyed_xorb c.args.key) c.in_ok-record.ensures)) (keyed_stored c.args.key c.args.xorb.now c.is_stored.ensures.stored)
