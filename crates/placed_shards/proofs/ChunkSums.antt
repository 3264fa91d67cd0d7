-- The sizes of chunks, added up row by row.
use Rattle.std.proofs.Common.{◌≡◌, ℕ, ◌+◌, ◌*◌, ◌<◌, List, ◌++◌, length, flat_map, take, drop, sym, ap, ◌∙◌, subst, arith}
use Rattle.std.specs.Prelude.{All}
use Rattle.std.proofs.lemmas.List.{take-append-drop}
use Rattle.std.proofs.lemmas.List.Sums.{sum_by-cons}
use Rattle.xet_records.specs.declared.xorb_structs.XorbChunkSequenceEntry.{XorbChunkSequenceEntry}
use Rattle.xet_records.specs.Rows.{ReadsRow}
use Rattle.xet_records.specs.XorbRecord.{total_bytes}
use Rattle.xet_records.specs.XorbRow.{FitsChunk, chunk_row}
use Rattle.xet_records.proofs.Lengths.{length-chunk_row}
use Rattle.xet_records.proofs.XorbUnique.{chunk_row-injective}
use Rattle.placed_shards.proofs.FrontRows.{FirstOf, first_of, none_left}

-- chunks, of which the last are left, and the bytes of the ones before
pub record SumSoFar (chunks : List XorbChunkSequenceEntry) (bytes : ℕ) (rest : List ℕ) : Type 0 where
  pub others : List XorbChunkSequenceEntry
  pub fit : All FitsChunk others
  pub rest_are : rest ≡ flat_map chunk_row others
  pub sum : total_bytes chunks ≡ bytes + total_bytes others

pub sum_at_first : (chunks : List XorbChunkSequenceEntry) (rows : List ℕ) → All FitsChunk chunks → rows ≡ flat_map chunk_row chunks → SumSoFar chunks 0 rows
sum_at_first chunks rows fit are = record { others = chunks; fit = fit; rest_are = are; sum = omega arith }

module _ (chunks : List XorbChunkSequenceEntry) (bytes : ℕ) (rest : List ℕ) (so_far : SumSoFar chunks bytes rest) where
  pub sum_at_last : length rest < 48 → total_bytes chunks ≡ bytes
  sum_at_last short =
      let none = none_left chunk_row FitsChunk (λ c fits. length-chunk_row c) so_far.others so_far.fit (omega (arith, short, ap length so_far.rest_are)) in
      let nothing : total_bytes so_far.others ≡ 0 = ap total_bytes none in
      omega (arith, so_far.sum, nothing)

  module _ (chunk : XorbChunkSequenceEntry) (read : ReadsRow chunk_row FitsChunk (λ c. c) (λ row. row ≡ take 48 (drop (48 * 0) rest)) chunk) where
    next_chunk : FirstOf chunk_row FitsChunk so_far.others chunk (drop 48 rest)
    next_chunk =
        first_of chunk_row FitsChunk (λ c fits. length-chunk_row c) chunk_row-injective so_far.others so_far.fit chunk (subst FitsChunk read.returned read.widths) rest (drop 48 rest) so_far.rest_are
        (sym (take-append-drop 48 rest) ∙ ap (λ bs. bs ++ drop 48 rest) (sym read.taken ∙ ap chunk_row read.returned))

    pub more_bytes : SumSoFar chunks (bytes + chunk.unpacked_segment_bytes) (drop 48 rest)
    more_bytes =
        let more : total_bytes so_far.others ≡ chunk.unpacked_segment_bytes + total_bytes next_chunk.others =
        ap total_bytes next_chunk.rows_are ∙ sum_by-cons (λ (c : XorbChunkSequenceEntry). c.unpacked_segment_bytes) chunk next_chunk.others in
        record { others = next_chunk.others; fit = next_chunk.fit; rest_are = next_chunk.after_are; sum = omega (arith, so_far.sum, more) }
