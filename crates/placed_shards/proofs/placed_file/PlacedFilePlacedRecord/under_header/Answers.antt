use Rattle.std.proofs.Common.{sym, ◌∙◌}
use Rattle.placed_shards.proofs.Decoded.{file_placed, file_is_stored}
use Rattle.placed_shards.proofs.placed_file.PlacedFilePlacedRecord.under_header.Goals as goal

pub invariant_of-result : goal.invariant_of-result
invariant_of-result c = (file_placed c.args.header.now c.args.bytes.now c.all_bytes.ensures c.requires.begins c.requires.is_record c.requires.few c.requires.size).0

pub returns-clause-stored : goal.returns-clause-stored
returns-clause-stored c = file_is_stored _ c.args.bytes.now (invariant_of-result c)

pub returns-clause-header : goal.returns-clause-header
returns-clause-header c =
    let placed = file_placed c.args.header.now c.args.bytes.now c.all_bytes.ensures c.requires.begins c.requires.is_record c.requires.few c.requires.size in
    placed.0.shows.same_header ∙ sym placed.1

pub returns-clause-bytes : goal.returns-clause-bytes
returns-clause-bytes c = sym (invariant_of-result c).shows.bytes_are
