use Rattle.std.proofs.Common.{◌≡◌, ap, ◌∙◌, subst}
use Rattle.xet_base.specs.MemorySource.{in_memory}
use Rattle.xet_core_structures.specs.declared.merklehash.DataHash.{DataHash}
use Rattle.xet_core_structures.specs.declared.shard_format.MDBShardFileFooter.{MDBShardFileFooter}
use Rattle.xet_core_structures.specs.KeyedHash.{under_key}
use Rattle.xet_core_structures.specs.Lookup.{IsRowAndIndex, Searches}
use Rattle.xet_core_structures.specs.Source.{Source}
use Rattle.shard_bytes.proofs.InParts.{places_found}
use Rattle.shard_bytes.proofs.part_lookups.search_chunks.Goals as goal

pub returns : goal.returns
returns c =
    let table = c.args.table.now in
    let call = c.get_xorb_info_index_by_chunk in
    let footer = c.default-info.result.metadata in
    let same : c.new-source.result.bytes.now ≡ table = ap (λ (s : Source). s.bytes) c.new-source.ensures in
    let front : footer.chunk_lookup_offset ≡ 0 = ap (λ (f : MDBShardFileFooter). f.chunk_lookup_offset) c.default-info.ensures.1 in
    let word : (under_key footer.chunk_hash_hmac_key c.hash_with_word.result).word0 ≡ c.args.word =
    ap (λ (f : MDBShardFileFooter). (under_key f.chunk_hash_hmac_key c.hash_with_word.result).word0) c.default-info.ensures.1 ∙ ap (λ (h : DataHash). h.word0) c.hash_with_word.ensures in
    let looks = subst (λ p. p) (λ i. Searches (record { bytes = same i; start = front i; rows = c.in_ok-info.ensures.1 i; width = 8 }) (word i) IsRowAndIndex 8 c.args.places.now call.new.dest (in_memory c.new-source.result) (in_memory call.new.source) call.result)
    call.ensures.looks in
    places_found table c.args.word c.args.places.now call.new.dest c.new-source.result call.new.source call.result same c.in_ok-info.ensures.2 c.in_ok-info.ensures.0 looks
