use Rattle.std.proofs.Common.{◌↔◌, IsTrue, subst}
use Rattle.xet_records.specs.FileRecord.{IsPlainHeader}
use Rattle.placed_shards.proofs.MalformedRecords.{file_formed}
use Rattle.placed_shards.proofs.malformed.PlacedFileRecordRule.is_formed.Goals as goal

pub returns : goal.returns
returns c =
    let formed = file_formed c.args.self.now c.is_stored.ensures.stored c.requires in
    let plain : IsTrue c.is_plain.result ↔ IsPlainHeader c.args.self.now.metadata = subst (λ h. IsTrue c.is_plain.result ↔ IsPlainHeader h) c.header.ensures c.is_plain.ensures in
    (λ yes. formed.0 (plain.0 yes), λ is. plain.1 (formed.1 is))
