use Rattle.std.proofs.Common.{◌≡◌, map, take}
use Rattle.xet_c.specs.ShownParts.{c_chunk_place}
use Rattle.xet_c.proofs.part_lookups.places_of.Given as goal

abbrev pub invariant-loop-place : goal.invariant-loop-place
invariant-loop-place l = l.shown.items ≡ map c_chunk_place (take l.place-index l.places)
