-- Runs of hashes among chunks that are read one after another.
use Rattle.std.proofs.Common.{◌≡◌, ◌≢◌, inl, inr, ℕ, ◌+◌, ◌^◌, ◌<◌, ◌≤◌, Bool, true, false, not, cond, List, [], ◌∷◌, ◌++◌, length, flat_map, get_or, refl, sym, ap, ◌∙◌, subst, append-nil, arith}
use Rattle.std.specs.Prelude.{All}
use Rattle.std.proofs.lemmas.List.{length-append, nil_from_length}
use Rattle.std.proofs.lemmas.List.Elements.{All-append, All-cons, All-nil}
use Rattle.std.proofs.lemmas.List.Sums.{common_prefix_len-le, sum_by_push}
use Rattle.xet_base.specs.declared.error.CoreError.{CoreError}
use Rattle.xet_base.specs.declared.merklehash.DataHash.{DataHash}
use Rattle.xet_base.specs.Hash.{hash_eq}
use Rattle.xet_base.specs.InputLaws.{ReadsBytes-nil, ReadsBytes-trans}
use Rattle.xet_base.specs.KeyedHash.{under_key}
use Rattle.xet_base.specs.Source.{Source, ReadsBytes, bytes_left}
use Rattle.xet_base.specs.Errors.{IsBareInvalidShard}
use Rattle.xet_base.proofs.Lists.{front_is}
use Rattle.xet_base.proofs.Reading.{ReadsBytes-consumes, lacks_left}
use Rattle.xet_records.specs.declared.xorb_structs.XorbChunkSequenceEntry.{XorbChunkSequenceEntry}
use Rattle.xet_records.specs.Rows.{ReadsRow}
use Rattle.xet_records.specs.XorbRow.{chunk_row, FitsChunk}
use Rattle.xet_records.specs.XorbRecord.{total_bytes}
use Rattle.xet_records.proofs.Lengths.{length-chunk_rows}
use Rattle.xet_shards.specs.ShardInMemory.ChunkQuery.{run_length}
use Rattle.xet_shards.specs.Lookup.RunReading.{DetermineRun}
use Rattle.xet_shards.specs.Steps.RunSteps.{RowFailure, RowNotRead, ReadsRun, RunFailure, ReadRunFails, HasReadRun}
use Rattle.xet_shards.proofs.ShardInMemory.Walks.{flat_map-push}

-- what a test for difference shows
tested_same : (b : Bool) → false ≡ not b → b ≡ true
tested_same b is = grind arith

tested_other : (b : Bool) → true ≡ not b → b ≡ false
tested_other b is = grind arith

module _ (key : DataHash) where
  pub run_within : (qs : List DataHash) (cs : List XorbChunkSequenceEntry) → run_length key qs cs ≤ length cs
  run_within qs cs = (common_prefix_len-le (λ (q : DataHash) (c : XorbChunkSequenceEntry). hash_eq (under_key key q) c.chunk_hash) qs cs).1

  run_of_none : (qs : List DataHash) → run_length key qs [] ≡ 0
  run_of_none qs = omega (arith, run_within qs [])

  -- a run that all chunks are in goes on with the next chunk if that has the next hash
  run_push : (qs : List DataHash) (cs : List XorbChunkSequenceEntry) (c : XorbChunkSequenceEntry) (d : DataHash) → run_length key qs cs ≡ length cs → length cs < length qs
      → run_length key qs (cs ++ c ∷ []) ≡ length cs + cond (hash_eq (under_key key (get_or qs (length cs) d)) c.chunk_hash) 1 0
  run_push [] cs c d same below = absurd (omega (arith, below))
  run_push (q ∷ qs) [] c d same below = grind (arith, run_of_none qs)
  run_push (q ∷ qs) (x ∷ cs) c d same below = grind (arith, run_push qs cs c d)

  -- chunks that decide a run decide it whatever follows
  run_ended : (qs : List DataHash) (cs more : List XorbChunkSequenceEntry) → run_length key qs cs < length cs → run_length key qs (cs ++ more) ≡ run_length key qs cs
  run_ended [] cs more below = refl
  run_ended (q ∷ qs) [] more below = absurd (omega (arith, below))
  run_ended (q ∷ qs) (c ∷ cs) more below = grind (arith, run_ended qs cs more)

  run_of_all : (qs : List DataHash) (cs more : List XorbChunkSequenceEntry) → length cs ≡ length qs → run_length key qs (cs ++ more) ≡ run_length key qs cs
  run_of_all [] cs more many = refl
  run_of_all (q ∷ qs) [] more many = absurd (omega (arith, many))
  run_of_all (q ∷ qs) (c ∷ cs) more many = ap (λ n. cond (hash_eq (under_key key q) c.chunk_hash) (1 + n) 0) (run_of_all qs cs more (omega (arith, many)))

  pub run_decided : (qs : List DataHash) (left : ℕ) (cs more : List XorbChunkSequenceEntry) → DetermineRun key qs left cs → length cs + length more ≡ left
      → run_length key qs (cs ++ more) ≡ run_length key qs cs
  run_decided qs left cs more (inl ended) all = run_ended qs cs more ended
  run_decided qs left cs more (inr (inl hashes)) all = run_of_all qs cs more hashes
  run_decided qs left cs more (inr (inr whole)) all =
      let none : more ≡ [] = nil_from_length more (omega (arith, whole, all)) in
      ap (λ ms. run_length key qs (cs ++ ms)) none ∙ ap (run_length key qs) (append-nil cs)

pub no_run : {key : DataHash} {qs : List DataHash} {left : ℕ} {start : Source} → HasReadRun key qs left start start 0 0
no_run {key} {qs} {left} {start} =
    record { chunks = []; fit = All-nil FitsChunk; many = refl; few = omega arith; taken = ReadsBytes-nil start; same = run_of_none key qs; sum = refl; narrow = omega arith }

-- reading a run, where there are more hashes and more chunks
module _ {key : DataHash} {qs : List DataHash} {left : ℕ} {start now : Source} {n bytes : ℕ} (before : HasReadRun key qs left start now n bytes) {i : ℕ} (at : n ≡ i)
    (below : i < length qs) (more : n ≢ left) where
  -- the next chunk was not read
  pub run_fails : {new : Source} {e : CoreError} → RowNotRead now new e → ReadRunFails key qs left start new e
  run_fails {new} {e} fails = record {
    bytes = fails.bytes ∙ ap (λ (s : Source). s.bytes) before.taken.after;
    seeks = fails.seeks ∙ ap (λ (s : Source). s.seeks) before.taken.after;
    read = omega (arith, fails.read, ap (λ (s : Source). s.read) before.taken.after, length-chunk_rows before.chunks, before.many, before.few, more);
    cause = why fails.cause;
  }
    where
      failures : now.failures ≡ start.failures
      failures = ap (λ (s : Source). s.failures) before.taken.after

      why : RowFailure now new e → RunFailure key qs left (bytes_left start) start new e
      why (inl device) = inl (device.0 ∙ ap (λ k. k + 1) failures, device.1, device.2, device.3)
      why (inr (none, end, short)) = inr (inr (
        none ∙ failures,
        end,
        (
          before.chunks,
          bytes_left now,
          record { fit = before.fit; few = omega (arith, before.many, before.few); bytes_are = ReadsBytes-consumes start now (flat_map chunk_row before.chunks) before.taken },
          before.same,
          omega (arith, before.sum, before.narrow),
          omega (arith, before.many, at, below),
          omega (arith, before.many, before.few, more),
          lacks_left now 48 (omega arith) short,
        ),
      ))

  -- it was, and is tested for the next hash under the key
  module _ {new : Source} {c : XorbChunkSequenceEntry} (read : ReadsRow chunk_row FitsChunk (λ x. x) (ReadsBytes now new) c) {keyed : DataHash} (d : DataHash)
      (is : keyed ≡ under_key key (get_or qs i d)) where
    abbrev chunks : List XorbChunkSequenceEntry
    chunks = before.chunks ++ c ∷ []

    fit : All FitsChunk chunks
    fit = All-append FitsChunk before.chunks (c ∷ []) before.fit (All-cons FitsChunk c [] (subst FitsChunk read.returned read.widths) (All-nil FitsChunk))

    many : length chunks ≡ n + 1
    many = length-append before.chunks (c ∷ []) ∙ ap (λ k. k + 1) before.many

    both_bytes : flat_map chunk_row before.chunks ++ chunk_row read.stored ≡ flat_map chunk_row chunks
    both_bytes = ap (λ x. flat_map chunk_row before.chunks ++ chunk_row x) read.returned ∙ sym (flat_map-push chunk_row before.chunks c)

    taken : ReadsBytes start new (flat_map chunk_row chunks)
    taken = subst (ReadsBytes start new) both_bytes (ReadsBytes-trans start now new (flat_map chunk_row before.chunks) (chunk_row read.stored) before.taken read.taken)

    length_is : run_length key qs chunks ≡ n + cond (hash_eq keyed c.chunk_hash) 1 0
    length_is =
        run_push key qs before.chunks c d before.same (omega (arith, before.many, at, below))
        ∙ (λ k. before.many k + cond (hash_eq (under_key key (get_or qs ((before.many ∙ at) k) d)) c.chunk_hash) 1 0)
        ∙ ap (λ h. n + cond (hash_eq h c.chunk_hash) 1 0) (sym is)

    sum_is : total_bytes chunks ≡ bytes + c.unpacked_segment_bytes
    sum_is = sum_by_push (λ (x : XorbChunkSequenceEntry). x.unpacked_segment_bytes) before.chunks c ∙ ap (λ k. k + c.unpacked_segment_bytes) (sym before.sum)

    -- it ends at a chunk with another hash
    pub run_stops : true ≡ not (hash_eq keyed c.chunk_hash) → ReadsRun key qs left start new (n, bytes)
    run_stops other =
        let short : run_length key qs chunks ≡ n = length_is ∙ ap (λ b. n + cond b 1 0) (tested_other _ other) ∙ omega arith in
        record {
          chunks = chunks;
          fit = fit;
          few = omega (arith, many, before.few, more);
          taken = taken;
          decide = inl (omega (arith, short, many));
          count = sym short;
          bytes = before.sum ∙ ap total_bytes (sym (front_is n chunks before.chunks (c ∷ []) before.many refl));
        }

    -- it goes on with the next hash
    module _ (ne : false ≡ not (hash_eq keyed c.chunk_hash)) where
      goes_on : run_length key qs chunks ≡ length chunks
      goes_on = length_is ∙ ap (λ b. n + cond b 1 0) (tested_same _ ne) ∙ sym many

      pub run_goes_on : {sum : ℕ} → sum ≡ bytes + c.unpacked_segment_bytes → sum < 2 ^ 32 → HasReadRun key qs left start new (n + 1) sum
      run_goes_on added narrow = record {
        chunks = chunks;
        fit = fit;
        many = many;
        few = omega (arith, before.few, more);
        taken = taken;
        same = goes_on;
        sum = added ∙ sym sum_is;
        narrow = narrow;
      }

      -- its bytes pass 32 bits
      pub run_passes : {e : CoreError} → IsBareInvalidShard e → 2 ^ 32 ≤ bytes + c.unpacked_segment_bytes → ReadRunFails key qs left start new e
      run_passes bare past = record {
        bytes = ap (λ (s : Source). s.bytes) taken.after;
        seeks = ap (λ (s : Source). s.seeks) taken.after;
        read = omega (arith, ap (λ (s : Source). s.read) taken.after, length-chunk_rows chunks, many, before.few, more);
        cause = inr (inl (
          ap (λ (s : Source). s.failures) taken.after,
          bare,
          (
            chunks,
            bytes_left new,
            record { fit = fit; few = omega (arith, many, before.few, more); bytes_are = ReadsBytes-consumes start new (flat_map chunk_row chunks) taken },
            goes_on,
            omega (arith, past, sum_is),
          ),
        ));
      }
