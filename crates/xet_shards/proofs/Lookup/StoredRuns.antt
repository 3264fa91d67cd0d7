-- Runs in the bytes of a xorb: what a query reads of them is in the xorb.
use Rattle.std.proofs.Common.{◌≡◌, ◌⊎◌, inl, inr, ◌==◌, ℕ, ◌+◌, ◌-◌, ◌*◌, ◌^◌, ◌<◌, ◌≤◌, List, [], ◌++◌, length, take, drop, flat_map, Option, None, Some, sym, ap, ◌∙◌, subst, append_assoc, arith}
use Rattle.std.proofs.lemmas.Bool.{eq-eqb, ne_eqb, cond-true, cond-false}
use Rattle.std.proofs.lemmas.Grind.{flat_map-append}
use Rattle.std.proofs.lemmas.List.{drop-drop, length-append, length-drop, length-take, take-append-drop, take-append-le}
use Rattle.std.proofs.lemmas.List.Elements.{All-drop, All-take}
use Rattle.std.proofs.lemmas.List.Sums.{sum_by-take-le, sum_by-take-drop}
use Rattle.xet_base.specs.declared.error.CoreError.{CoreError}
use Rattle.xet_base.specs.Source.{Source, DeviceFailure}
use Rattle.xet_base.proofs.Lists.{parts_front, rest_is}
use Rattle.xet_records.specs.declared.xorb_structs.MDBXorbInfo.{MDBXorbInfo}
use Rattle.xet_records.specs.declared.xorb_structs.XorbChunkSequenceEntry.{XorbChunkSequenceEntry}
use Rattle.xet_records.specs.declared.xorb_structs.XorbChunkSequenceHeader.{XorbChunkSequenceHeader}
use Rattle.xet_records.specs.Reading.{BeginsWithHeader}
use Rattle.xet_records.specs.XorbRow.{xorb_header_row, chunk_row, FitsChunk}
use Rattle.xet_records.specs.XorbRecord.{xorb_records, xorb_bookend, xorb_record_bytes, xorb_row_count, size_of_chunks, total_bytes, default_segment, segment_of, IsStoredXorb}
use Rattle.xet_records.proofs.Lengths.{length-chunk_row, length-chunk_rows, length-xorb_header_row}
use Rattle.xet_records.proofs.RecordKinds.{xorb_laws, stored_begins, same_front, bookend_or_header, header_within, not_bookend}
use Rattle.xet_records.proofs.XorbUnique.{chunk_row-injective}
use Rattle.xet_shards.specs.ShardInMemory.ChunkQuery.{Run, run_length, run_at, some_run_at}
use Rattle.xet_shards.specs.Lookup.Lookup.{row_at}
use Rattle.xet_shards.specs.Lookup.RunReading.{HasChunks, RunExceeds, RunIsTruncated, QueryAt, xorb_offset, chunk_offset, xorb_at, chunks_at, chunks_left, IsRun, FoundRun, AnnouncesNoChunk, ExceedsAt, IsTruncatedAt, AnswerAt, RefusedAt}
use Rattle.xet_shards.specs.Lookup.WrittenQueries.{RunInXorb}
use Rattle.xet_shards.proofs.Lookup.Runs.{run_within, run_decided}

module _ {x : MDBXorbInfo} (stored : IsStoredXorb x) (q : QueryAt) (old : Source) (rest : List ℕ)
    (here : xorb_at q old.bytes ≡ xorb_record_bytes x ++ rest) (fits : row_at q.section (q.row + xorb_row_count x) < 2 ^ 64) where
  abbrev at_header : List ℕ
  at_header = xorb_at q old.bytes

  begins : BeginsWithHeader xorb_records at_header x.metadata (flat_map chunk_row x.chunks ++ rest)
  begins = stored_begins xorb_records xorb_laws at_header x rest stored here

  header_is : (h : XorbChunkSequenceHeader) (after : List ℕ) → BeginsWithHeader xorb_records at_header h after → h ≡ x.metadata
  header_is h after other = (same_front xorb_records xorb_laws at_header x.metadata h (flat_map chunk_row x.chunks ++ rest) after begins.widths begins.bytes_are other).0

  -- from the index on
  abbrev from : List XorbChunkSequenceEntry
  from = drop q.index x.chunks

  abbrev rows_left : ℕ
  rows_left = chunks_left q x.metadata

  chunks_are : q.index ≤ length x.chunks → chunks_at q old.bytes ≡ flat_map chunk_row from ++ rest
  chunks_are within =
      let front = xorb_header_row x.metadata ++ flat_map chunk_row (take q.index x.chunks) in
      let location : chunk_offset q ≡ xorb_offset q + 48 * (1 + q.index) = omega arith in
      let size : length front ≡ 48 * (1 + q.index) =
      length-append (xorb_header_row x.metadata) (flat_map chunk_row (take q.index x.chunks))
      ∙ omega (arith, length-xorb_header_row x.metadata, length-chunk_rows (take q.index x.chunks), length-take q.index x.chunks, within) in
      let parts : flat_map chunk_row x.chunks ≡ flat_map chunk_row (take q.index x.chunks) ++ flat_map chunk_row from =
      ap (flat_map chunk_row) (sym (take-append-drop q.index x.chunks)) ∙ flat_map-append chunk_row (take q.index x.chunks) from in
      ap (λ n. drop n old.bytes) location ∙ sym (drop-drop (48 * (1 + q.index)) (xorb_offset q) old.bytes)
      ∙ rest_is (48 * (1 + q.index)) at_header front (flat_map chunk_row from ++ rest) size
      (begins.bytes_are
      ∙ ap (λ bs. xorb_header_row x.metadata ++ (bs ++ rest)) parts
      ∙ ap (λ bs. xorb_header_row x.metadata ++ bs) (append_assoc (flat_map chunk_row (take q.index x.chunks)) (flat_map chunk_row from) rest)
      ∙ sym (append_assoc (xorb_header_row x.metadata) (flat_map chunk_row (take q.index x.chunks)) (flat_map chunk_row from ++ rest)))

  -- chunks that are read there are the xorb's
  module _ (within : q.index ≤ length x.chunks) {cs : List XorbChunkSequenceEntry} {after : List ℕ} (there : HasChunks rows_left (chunks_at q old.bytes) cs after) where
    size_from : length from ≡ rows_left
    size_from = length-drop q.index x.chunks ∙ ap (λ n. n - q.index) stored.count

    same : (cs ≡ take (length cs) from) × (after ≡ flat_map chunk_row (drop (length cs) from) ++ rest)
    same =
        parts_front 48 chunk_row FitsChunk (λ c _. length-chunk_row c) chunk_row-injective cs (take (length cs) from) after (flat_map chunk_row (drop (length cs) from) ++ rest)
        (omega (arith, length-take (length cs) from, size_from, there.few)) there.fit
        (All-take FitsChunk (length cs) from (All-drop FitsChunk q.index x.chunks stored.widths.chunks))
        (sym there.bytes_are ∙ chunks_are within
        ∙ ap (λ ds. flat_map chunk_row ds ++ rest) (sym (take-append-drop (length cs) from))
        ∙ ap (λ bs. bs ++ rest) (flat_map-append chunk_row (take (length cs) from) (drop (length cs) from))
        ∙ append_assoc (flat_map chunk_row (take (length cs) from)) (flat_map chunk_row (drop (length cs) from)) rest)

    pub front_of : from ≡ cs ++ drop (length cs) from
    front_of = sym (take-append-drop (length cs) from) ∙ ap (λ ds. ds ++ drop (length cs) from) (sym same.0)

    bytes_within : total_bytes cs ≤ size_of_chunks x
    bytes_within =
        let size = λ (c : XorbChunkSequenceEntry). c.unpacked_segment_bytes in
        omega (arith, ap total_bytes same.0, sum_by-take-le size from (length cs), sum_by-take-drop size x.chunks q.index)

  run_found : (run : Run) → IsRun q x.metadata old.bytes run → (run_length q.key q.hashes from ≡ run.0) × (run ≡ run_at q.key (x, q.index) q.hashes)
  run_found run is =
      let within : q.index ≤ length x.chunks = omega (arith, is.within, stored.count) in
      let more = drop (length is.chunks) from in
      let front : from ≡ is.chunks ++ more = front_of within is.there in
      let count : run_length q.key q.hashes from ≡ run.0 =
      ap (run_length q.key q.hashes) front
      ∙ run_decided q.key q.hashes rows_left is.chunks more is.decide (omega (arith, length-drop (length is.chunks) from, size_from within is.there, is.there.few))
      ∙ sym is.count in
      let part : take run.0 is.chunks ≡ take run.0 from =
      sym (take-append-le run.0 is.chunks more (omega (arith, is.count, run_within q.key q.hashes is.chunks))) ∙ ap (take run.0) (sym front) in
      let segment = is.segment ∙ ap (λ cs. segment_of x.metadata cs q.index (q.index + run.0)) part
      ∙ ap (λ n. segment_of x.metadata (take n from) q.index (q.index + n)) (sym count) in
      (count, λ i. (sym count i, segment i))

  found_is : (answer : Option Run) → FoundRun q x.metadata old.bytes answer → answer ≡ some_run_at q.key (x, q.index) q.hashes
  found_is (Some run) (some, is) =
      let found = run_found run is in
      ap Some found.1
      ∙ sym (cond-false {A = Option Run} (run_length q.key q.hashes from == 0) None (Some (run_at q.key (x, q.index) q.hashes))
      (ne_eqb (run_length q.key q.hashes from) 0 (λ none. absurd (omega (arith, some, found.0, none)))))
  found_is None is =
      sym (cond-true {A = Option Run} (run_length q.key q.hashes from == 0) None (Some (run_at q.key (x, q.index) q.hashes))
      (eq-eqb (run_length q.key q.hashes from) 0 (run_found (0, default_segment) is).0))

  -- the query gives the run
  pub answers_at : (answer : Option Run) → AnswerAt q old.bytes answer → RunInXorb q.key q.hashes x q.index answer
  answers_at answer (inl (none, nothing)) = (nothing ∙ ap (some_run_at q.key (x, q.index)) (sym none), inl none)
  answers_at answer (inr (some, header, location, found)) =
      let is = header_is header location.rest location.begins in (
        found_is answer (subst (λ h. FoundRun q h old.bytes answer) is found),
        inr (omega (arith, location.within, ap (λ (h : XorbChunkSequenceHeader). h.num_entries) is, stored.count)),
      )

  -- and it is refused only if the device fails or there is no such chunk
  module _ (few : size_of_chunks x ≤ 4294967295) where
    not_past : ¬ ExceedsAt q old.bytes
    not_past (inl past) = omega (arith, past, fits)
    not_past (inr (header, location, past)) =
        let is = header_is header location.rest location.begins in
        let within : q.index < x.metadata.num_entries = omega (arith, location.within, ap (λ (h : XorbChunkSequenceHeader). h.num_entries) is) in
        elim past [
          | inl far ↦ omega (arith, far, fits, within, stored.count)
          | inr passes ↦ within_not_past within (subst (λ (h : XorbChunkSequenceHeader). RunExceeds q.key q.hashes (chunks_left q h) (chunks_at q old.bytes)) is passes)
        ]
      where
        within_not_past : q.index < x.metadata.num_entries → ¬ RunExceeds q.key q.hashes rows_left (chunks_at q old.bytes)
        within_not_past within (cs, after, there, all, past) = omega (arith, few, past, bytes_within (omega (arith, within, stored.count)) there)

    not_cut : ¬ IsTruncatedAt q old.bytes
    not_cut (inl (at, short)) = omega (arith, short, header_within xorb_records xorb_laws at_header x.metadata (flat_map chunk_row x.chunks ++ rest) begins.bytes_are)
    not_cut (inr (header, location, at, cut)) =
        let is = header_is header location.rest location.begins in
        let within : q.index < x.metadata.num_entries = omega (arith, location.within, ap (λ (h : XorbChunkSequenceHeader). h.num_entries) is) in
        within_not_cut within (subst (λ (h : XorbChunkSequenceHeader). RunIsTruncated q.key q.hashes (chunks_left q h) (chunks_at q old.bytes)) is cut)
      where
        within_not_cut : q.index < x.metadata.num_entries → ¬ RunIsTruncated q.key q.hashes rows_left (chunks_at q old.bytes)
        within_not_cut within (cs, after, there, all, fit, more_hashes, more, short) =
            let at : q.index ≤ length x.chunks = omega (arith, within, stored.count) in
            let next = drop (length cs) from in
            omega (
              arith,
              short,
              more,
              ap length (same at there).1,
              length-append (flat_map chunk_row next) rest,
              length-chunk_rows next,
              length-drop (length cs) from,
              size_from at there,
            )

    no_chunk : AnnouncesNoChunk q old.bytes → length x.chunks ≤ q.index
    no_chunk (inl bookend) = absurd (bookend_or_header xorb_records xorb_laws at_header x.metadata (flat_map chunk_row x.chunks ++ rest) bookend begins)
    no_chunk (inr (header, after, other, past)) = omega (arith, past, ap (λ (h : XorbChunkSequenceHeader). h.num_entries) (header_is header after other), stored.count)

    pub refuses_at : (Absent : CoreError → Type 0) (new : Source) (e : CoreError) → RefusedAt Absent q old new e → DeviceFailure old new e ⊎ (Absent e × (length x.chunks ≤ q.index))
    refuses_at Absent new e (some, inl device) = inl device
    refuses_at Absent new e (some, inr (inl (none, bare, passes))) = absurd (not_past passes)
    refuses_at Absent new e (some, inr (inr (inl (none, absent, location)))) = inr (absent, no_chunk location)
    refuses_at Absent new e (some, inr (inr (inr (none, ended, cut)))) = absurd (not_cut cut)

-- where the bookend of the section is, there is no run
module _ (q : QueryAt) (old : Source) (rest : List ℕ) (here : xorb_at q old.bytes ≡ xorb_header_row xorb_bookend ++ rest) (fits : xorb_offset q < 2 ^ 64) where
  no_header : (h : XorbChunkSequenceHeader) (after : List ℕ) → ¬ BeginsWithHeader xorb_records (xorb_at q old.bytes) h after
  no_header h after = not_bookend xorb_records xorb_laws (xorb_at q old.bytes) xorb_bookend h rest after xorb_laws.bookend_fits xorb_laws.bookend_hash here

  pub bookend_answers : (answer : Option Run) → AnswerAt q old.bytes answer → (q.hashes ≡ []) × (answer ≡ None)
  bookend_answers answer (inl none) = none
  bookend_answers answer (inr (some, header, location, found)) = absurd (no_header header location.rest location.begins)

  pub bookend_refuses : (Absent : CoreError → Type 0) (new : Source) (e : CoreError) → RefusedAt Absent q old new e → DeviceFailure old new e ⊎ Absent e
  bookend_refuses Absent new e (some, inl device) = inl device
  bookend_refuses Absent new e (some, inr (inl (none, bare, inl past))) = absurd (omega (arith, past, fits))
  bookend_refuses Absent new e (some, inr (inl (none, bare, inr (header, location, past)))) = absurd (no_header header location.rest location.begins)
  bookend_refuses Absent new e (some, inr (inr (inl (none, absent, location)))) = inr absent
  bookend_refuses Absent new e (some, inr (inr (inr (none, ended, inl (at, short))))) =
      absurd (omega (arith, short, header_within xorb_records xorb_laws (xorb_at q old.bytes) xorb_bookend rest here))
  bookend_refuses Absent new e (some, inr (inr (inr (none, ended, inr (header, location, at, cut))))) = absurd (no_header header location.rest location.begins)
