-- A run that is read after a seek to its first chunk.
use Rattle.std.proofs.Common.{◌≡◌, ◌≢◌, ℕ, ◌+◌, ◌<◌, ◌≤◌, List, [], ◌∷◌, length, take, drop, flat_map, Option, None, Some, refl, sym, ap, ◌∙◌, subst, arith, rules}
use Rattle.std.proofs.lemmas.List.{length-take}
use Rattle.xet_base.specs.declared.merklehash.DataHash.{DataHash}
use Rattle.xet_base.specs.Source.{Source, bytes_left}
use Rattle.xet_base.proofs.Reading.{ReadsBytes-consumes}
use Rattle.xet_records.specs.declared.file_structs.rows.FileDataSequenceEntry.{FileDataSequenceEntry}
use Rattle.xet_records.specs.declared.xorb_structs.XorbChunkSequenceEntry.{XorbChunkSequenceEntry}
use Rattle.xet_records.specs.declared.xorb_structs.XorbChunkSequenceHeader.{XorbChunkSequenceHeader}
use Rattle.xet_records.specs.XorbRow.{chunk_row}
use Rattle.xet_records.specs.XorbRecord.{total_bytes, segment_of}
use Rattle.xet_records.proofs.Lengths.{length-chunk_rows}
use Rattle.xet_shards.specs.ShardInMemory.ChunkQuery.{Run}
use Rattle.xet_shards.specs.Lookup.Lookup.{row_at}
use Rattle.xet_shards.specs.Lookup.RunReading.{QueryAt, chunks_at, chunks_left, IsRun, FoundRun}
use Rattle.xet_shards.specs.Steps.RunSteps.{SeeksToRow, ReadsRun, ReadsRunAt}
use Rattle.xet_shards.proofs.Lookup.Runs.{run_within}

-- the segment of some chunks
segment_is : (h : XorbChunkSequenceHeader) (cs : List XorbChunkSequenceEntry) (from to : ℕ) → 0 < length cs
    → segment_of h cs from to
    ≡ record { xorb_hash = h.xorb_hash; xorb_flags = h.xorb_flags; unpacked_segment_bytes = total_bytes cs; chunk_index_start = from; chunk_index_end = to }
segment_is h [] from to some = absurd (omega (arith, some))
segment_is h (c ∷ cs) from to some = refl

take_none : {X : Type 0} (xs : List X) → take 0 xs ≡ []
take_none [] = refl
take_none (x ∷ xs) = refl

module _ {key : DataHash} {qs : List DataHash} {left : ℕ} {mid new : Source} {n bytes : ℕ} (read : ReadsRun key qs left mid new (n, bytes)) where
  pub run_few : n ≤ left
  run_few = omega (arith, read.count, run_within key qs read.chunks, read.few)

  run_chunks : n ≤ length read.chunks
  run_chunks = omega (arith, read.count, run_within key qs read.chunks)

-- after a seek to the chunk of a query
module _ (q : QueryAt) (header : XorbChunkSequenceHeader) {first : ℕ} (at : first ≡ q.row + 1 + q.index) {old mid : Source} (moves : SeeksToRow q.section first old mid)
    {new : Source} {n bytes : ℕ} (read : ReadsRun q.key q.hashes (chunks_left q header) mid new (n, bytes)) (within : q.index < header.num_entries) where
  run_reads : {answer : Option Run} → FoundRun q header old.bytes answer → ReadsRunAt q header old new answer
  run_reads found = record {
    found = found;
    no_failure = search rules;
    seeks = search rules;
    read = omega (arith, ap (λ (s : Source). s.read) read.taken.after, ap (λ (s : Source). s.read) moves.after, length-chunk_rows read.chunks, read.few);
  }

  left_is : bytes_left mid ≡ chunks_at q old.bytes
  left_is = ap (λ (s : Source). bytes_left s) moves.after ∙ ap (λ n. drop (row_at q.section n) old.bytes) at

  is_run : IsRun q header old.bytes (n, segment_of header (take n read.chunks) q.index (q.index + n))
  is_run = record {
    within = within;
    chunks = read.chunks;
    rest = bytes_left new;
    there = record { fit = read.fit; few = read.few; bytes_are = sym left_is ∙ ReadsBytes-consumes mid new (flat_map chunk_row read.chunks) read.taken };
    decide = read.decide;
    count = read.count;
    segment = refl;
  }

  pub none_read : n ≡ 0 → ReadsRunAt q header old new None
  none_read none =
      run_reads
      (subst (IsRun q header old.bytes)
      ((λ i. (none i, segment_of header (take (none i) read.chunks) q.index (q.index + none i))) ∙ ap (λ cs. (0, segment_of header cs q.index (q.index + 0))) (take_none read.chunks)) is_run)

  pub some_read : n ≢ 0
      → ReadsRunAt q header old new
      (Some (n, record { xorb_hash = header.xorb_hash; xorb_flags = header.xorb_flags; unpacked_segment_bytes = bytes; chunk_index_start = q.index; chunk_index_end = q.index + n }))
  some_read some =
      let size : length (take n read.chunks) ≡ n = omega (arith, length-take n read.chunks, run_chunks read) in
      let positive : 0 < n = omega (arith, some) in
      let segment = segment_is header (take n read.chunks) q.index (q.index + n) (omega (arith, size, positive)) in
      run_reads (
        positive,
        subst (IsRun q header old.bytes)
            (ap (λ (s : FileDataSequenceEntry). (n, s)) segment
            ∙ (λ i. (
              n,
              record { xorb_hash = header.xorb_hash; xorb_flags = header.xorb_flags; unpacked_segment_bytes = sym read.bytes i; chunk_index_start = q.index; chunk_index_end = q.index + n },
            )))
            is_run,
      )
