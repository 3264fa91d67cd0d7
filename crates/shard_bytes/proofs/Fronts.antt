-- The entries that a lookup put at the front of a list, taken from it.
use Rattle.std.proofs.Common.{◌≡◌, ℕ, ◌≤◌, List, length, map, take, drop, sym, ap, ◌∙◌, subst, arith}
use Rattle.std.proofs.lemmas.List.{length-map, length-take-le, take-append-le, take_all}
use Rattle.xet_core_structures.specs.declared.xorb_structs.MDBXorbInfo.{MDBXorbInfo}
use Rattle.xet_core_structures.specs.Lookup.{AreStarts, StartsAmong}
use Rattle.xet_records.specs.RecordKind.{RecordKind}
use Rattle.xet_shards.specs.Lookup.WrittenChunks.{RowsAmong}
use Rattle.xet_shards.specs.declared.shard_format.write.xorb_writer.ChunkTableRow.{ChunkTableRow}
use Rattle.shard_bytes.specs.PartLookups.{AreStartsWith, ArePlacesAmong}

pub starts_taken : {H R : Type 0} (K : RecordKind H R) (records : List R) (word count : ℕ) (rows items : List ℕ) → StartsAmong K records word rows count → count ≤ length rows → items ≡ take count rows
    → AreStartsWith K records word items
starts_taken K records word count rows items (few, number, are) within taken =
    let size : length items ≡ count = ap length taken ∙ length-take-le count rows within in
    record { few = omega (arith, size, number, few); number = size ∙ number; are_starts = subst (AreStarts K records word) (sym taken) are }

pub places_taken : (xorbs : List MDBXorbInfo) (word count : ℕ) (old new items : List (ℕ × ℕ)) → RowsAmong xorbs word old new count → items ≡ take count new → ArePlacesAmong xorbs word items
places_taken xorbs word count old new items among taken =
    let places = map (λ (p : ChunkTableRow). (p.row, p.index)) among.found in
    let size : length places ≡ count = length-map among.found (λ (p : ChunkTableRow). (p.row, p.index)) ∙ among.number in
    record {
      found = among.found;
      all = among.number ∙ among.all;
      each = among.each;
      distinct = among.distinct;
      places_are = taken ∙ ap (take count) among.written ∙ take-append-le count places (drop count old) (omega (arith, size)) ∙ take_all count places (omega (arith, size));
    }
