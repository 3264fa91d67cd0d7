use Rattle.std.proofs.Common.{take, refl}
use Rattle.std.specs.FinMap.{values}
use Rattle.shard_bytes.proofs.Fronts.{places_taken}
use Rattle.xet_c.proofs.Places.{chunks_shown}
use Rattle.xet_c.proofs.part_lookups.places_with.Goals as goal

pub returns-clause-chunks : goal.returns-clause-chunks
returns-clause-chunks c s shard info is cut =
    let count = c.in_ok-count.count in
    let places = c.find_places.new.places in
    let among = places_taken (values s.xorbs) c.args.word count _ places (take count places) (c.in_ok-count.ensures.chunks s shard info is cut) refl in
    chunks_shown (values s.xorbs) c.args.word (take count places) c.places_of.result among c.places_of.ensures.ok c.places_of.ensures.causes
