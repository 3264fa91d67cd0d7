-- The turns of the walk that reads the first words of the chunks' hashes.
use Rattle.std.proofs.Common.{◌≡◌, ◌⊎◌, inl, inr, Ok, Err, drop, flat_map, ℕ, ◌+◌, ◌*◌, ◌<◌, ◌≤◌, List, [], ◌∷◌, ◌++◌, length, map, take, get_or, sym, ap, ◌∙◌, subst, append_assoc, arith, rules}
use Rattle.std.specs.Prelude.{MatchResult}
use Rattle.std.specs.declared.result.Result.{Result}
use Rattle.std.specs.declared.vec.Vec.{Vec}
use Rattle.std.proofs.lemmas.Grind.{common_steps}
use Rattle.std.proofs.lemmas.List.{length-map, map-append, map-id, nil_from_length}
use Rattle.std.proofs.lemmas.List.Sums.{sum_by-append}
use Rattle.std.proofs.lemmas.List.Elements.{All-append, All-cons, All-nil}
use Rattle.xet_base.specs.declared.error.CoreError.{CoreError}
use Rattle.xet_base.specs.Source.{Source, ReadsBytes, after_read, after_seek, bytes_left}
use Rattle.xet_base.proofs.Reading.{ReadsBytes-consumes}
use Rattle.xet_records.specs.declared.xorb_structs.MDBXorbInfo.{MDBXorbInfo}
use Rattle.xet_records.specs.declared.xorb_structs.XorbChunkSequenceEntry.{XorbChunkSequenceEntry}
use Rattle.xet_records.specs.Reading.{ReadsBookend}
use Rattle.xet_records.specs.XorbRecord.{xorb_record_bytes, xorb_row_count, IsStoredXorb, xorb_records}
use Rattle.xet_records.proofs.RecordKinds.{xorb_laws, length-record_bytes}
use Rattle.xet_records.proofs.Lengths.{length-all_record_bytes}
use Rattle.xet_shards.specs.Write.Section.{total_rows}
use Rattle.xet_shards.specs.Write.Tables.{chunk_table_rows_from, chunk_table_rows, chunk_table}
use Rattle.xet_shards.specs.Read.TableReading.{triple_of}
use Rattle.xet_shards.specs.Read.SectionReading.{HoldsRecords, IsSection, rows_left}
use Rattle.xet_shards.specs.Steps.SectionReadingSteps.{RecordFails}
use Rattle.xet_shards.specs.Read.TruncatedHashes.{hashes_of, StartBefore, ReadsHashes, HashesFail}
use Rattle.xet_shards.specs.Steps.TruncatedHashesSteps.{HasReadHashes, ReadsXorbBefore, XorbBeforeFails}
use Rattle.xet_shards.proofs.Write.ChunkTableRows.{chunk_table_rows-push, chunk_table_rows_from-more, chunk_table_row, no_chunk}
use Rattle.xet_records.proofs.SectionRecords.{more_read}
use Rattle.xet_base.specs.InputLaws.{ReadsBytes-trans}
use Rattle.xet_shards.proofs.Read.SectionReading.{offset_after, section_ends, section_failure}
use Rattle.xet_shards.proofs.Read.Readback.{why_not}
use Rattle.xet_shards.proofs.Read.SectionUnique.{first_of_section}
use Rattle.xet_shards.proofs.Read.TableReading.{IsReadAs}
use Rattle.xet_shards.proofs.Write.Tables.{with_fronts-push}
use Rattle.xet_shards.proofs.Write.XorbLayouts.{total_chunks, length-chunk_table_rows, length-chunk_table}

-- one more chunk of a xorb
pub hashes_more : (before : List (ℕ × (ℕ × ℕ))) (start i : ℕ) (chunks : List XorbChunkSequenceEntry) → i < length chunks
    → (before ++ map triple_of (chunk_table_rows_from start (take i chunks))) ++ triple_of (chunk_table_row start i (get_or chunks i no_chunk)) ∷ []
    ≡ before ++ map triple_of (chunk_table_rows_from start (take (i + 1) chunks))
hashes_more before start i chunks below =
    let done = chunk_table_rows_from start (take i chunks) in
    let row = chunk_table_row start i (get_or chunks i no_chunk) in
    append_assoc before (map triple_of done) (triple_of row ∷ [])
    ∙ ap (λ rows. before ++ rows) (sym (map-append triple_of done (row ∷ [])) ∙ ap (map triple_of) (sym (chunk_table_rows_from-more start i chunks no_chunk below)))

-- one more xorb
hashes_of-push : (xorbs : List MDBXorbInfo) (x : MDBXorbInfo) → hashes_of (xorbs ++ x ∷ []) ≡ hashes_of xorbs ++ map triple_of (chunk_table_rows_from (total_rows xorb_records xorbs) x.chunks)
hashes_of-push xorbs x = ap (map triple_of) (chunk_table_rows-push xorbs x) ∙ map-append triple_of _ (chunk_table_rows_from (total_rows xorb_records xorbs) x.chunks)

StartBefore-push : (at stop : ℕ) (xorbs : List MDBXorbInfo) (x : MDBXorbInfo) → StartBefore at stop xorbs → at + 48 * total_rows xorb_records xorbs < stop → StartBefore at stop (xorbs ++ x ∷ [])
StartBefore-push at stop xorbs x before here =
    grind (arith, common_steps, with_fronts-push, All-append, All-cons, All-nil)

-- the next xorb, which starts before the stop, was not read
pub before_fails : (stop left : ℕ) (old new : Source) (e : CoreError) → old.at < stop → RecordFails xorb_records left old new e → XorbBeforeFails stop left old new e
before_fails stop left old new e below fails = search rules

-- one xorb more
pub more_hashes : (stop : ℕ) (start now new : Source) (found : List (ℕ × (ℕ × ℕ))) (left after : ℕ) (next : ℕ × MDBXorbInfo)
    → HasReadHashes stop start now found left → ReadsXorbBefore stop now new left after next
    → HasReadHashes stop start new (found ++ map triple_of (chunk_table_rows_from next.0 next.1.chunks)) after
more_hashes stop start now new found left after next before read =
    let at_is : now.at ≡ start.at + 48 * total_rows xorb_records before.xorbs = offset_after xorb_records xorb_laws start now before.xorbs left before.read in
    let row : next.0 ≡ total_rows xorb_records before.xorbs = omega (arith, read.start, rows_of before) in
    record {
      xorbs = before.xorbs ++ next.1 ∷ [];
      read = more_read xorb_records xorb_laws _ _ _ before.xorbs left after next.1 (ReadsBytes-trans start now new) before.read read.next;
      before = StartBefore-push start.at stop before.xorbs next.1 before.before (omega (arith, read.before, at_is));
      hashes = (λ i. before.hashes i ++ map triple_of (chunk_table_rows_from (row i) next.1.chunks)) ∙ sym (hashes_of-push before.xorbs next.1);
    }
  where
    rows_of : (b : HasReadHashes stop start now found left) → total_rows xorb_records b.xorbs + left ≡ 4294967295
    rows_of b = omega (arith, b.read.rows, ap (total_rows xorb_records) (sym (map-id b.read.stored) ∙ b.read.returned))

-- after the xorbs that were read
module _ (stop : ℕ) (old now : Source) (at : ℕ) (found : List (ℕ × (ℕ × ℕ))) (left : ℕ) (before : HasReadHashes stop (after_seek old at) now found left) where
  -- they are returned as they are
  same_xorbs : before.read.stored ≡ before.xorbs
  same_xorbs = sym (map-id before.read.stored) ∙ before.read.returned

  -- these xorbs are there
  holds : HoldsRecords xorb_records (bytes_left (after_seek old at)) before.xorbs (bytes_left now)
  holds = subst (λ xorbs. HoldsRecords xorb_records (bytes_left (after_seek old at)) xorbs (bytes_left now)) same_xorbs
      (record { are_stored = before.read.are_stored; rows = omega (arith, before.read.rows); bytes_are = ReadsBytes-consumes (after_seek old at) now (flat_map xorb_record_bytes before.read.stored) before.read.taken })

  at_is : now.at ≡ at + 48 * total_rows xorb_records before.xorbs
  at_is = offset_after xorb_records xorb_laws (after_seek old at) now before.xorbs left before.read

  left_is : left ≡ rows_left xorb_records before.xorbs
  left_is = omega (arith, before.read.rows, ap (total_rows xorb_records) same_xorbs)

  -- the bookend, or the stop
  pub hashes_end : (new : Source) → ((now.at < stop) × ReadsBookend xorb_records (ReadsBytes now new)) ⊎ ((stop ≤ now.at) × (new ≡ now)) → ReadsHashes old new at stop found
  hashes_end new (inl (below, last)) =
      let ended = section_ends xorb_records xorb_laws (after_seek old at) now before.xorbs left before.read new last in
      let same : ended.stored ≡ before.xorbs = sym (map-id ended.stored) ∙ ended.returned in
      record {
        xorbs = before.xorbs;
        rest = ended.section.rest;
        records = subst (λ xorbs. HoldsRecords xorb_records (bytes_left (after_seek old at)) xorbs ended.section.rest) same ended.section.records;
        before = before.before;
        end = inl (omega (arith, below, at_is), ended.section.bookend, ended.after ∙ ap (λ xorbs. after_read (after_seek old at) (48 * (total_rows xorb_records xorbs + 1))) same);
        hashes = before.hashes;
      }
  hashes_end new (inr (past, same)) =
      let size = length-all_record_bytes xorb_record_bytes xorb_row_count IsStoredXorb (length-record_bytes xorb_records xorb_laws) before.read.stored before.read.are_stored in
      record {
        xorbs = before.xorbs;
        rest = bytes_left now;
        records = holds;
        before = before.before;
        end = inr (omega (arith, past, at_is), same ∙ before.read.taken.after ∙ ap (after_read (after_seek old at)) (size ∙ ap (λ xorbs. 48 * total_rows xorb_records xorbs) same_xorbs));
        hashes = before.hashes;
      }

  pub hashes_fail : (new : Source) (e : CoreError) → XorbBeforeFails stop left now new e → HashesFail old new at stop e
  hashes_fail new e fails = search (rules, before.read.taken.after, section_failure, holds, at_is, left_is)

-- xorbs without chunks have no hashes
no_chunks_no_hashes : (xorbs : List MDBXorbInfo) → total_chunks xorbs ≡ 0 → hashes_of xorbs ≡ []
no_chunks_no_hashes xorbs none = nil_from_length (hashes_of xorbs) (length-map (chunk_table_rows xorbs) triple_of ∙ length-chunk_table_rows xorbs ∙ none)

-- and so the walk through their section finds none, wherever it stops, unless the device fails or an allocation does
module _ (old new : Source) (at stop : ℕ) (xorbs : List MDBXorbInfo) (section : IsSection xorb_records (drop at old.bytes) xorbs) where
  pub no_hashes_read : {Z : Type 0} (r : Result (Vec (ℕ × (ℕ × ℕ)) Z) CoreError) → total_chunks xorbs ≡ 0
      → MatchResult r (λ found. ReadsHashes old new at stop found.items) (HashesFail old new at stop) → IsReadAs old new (map triple_of (chunk_table xorbs)) r
  no_hashes_read (Ok found) none read =
      let more = first_of_section xorb_records xorb_laws (drop at old.bytes) read.xorbs xorbs read.rest read.records section in
      let chunks : MDBXorbInfo → ℕ = λ x. length x.chunks in
      read.hashes ∙ no_chunks_no_hashes read.xorbs (omega (arith, none, ap total_chunks more.1, sum_by-append chunks read.xorbs more.0))
      ∙ ap (map triple_of) (sym (nil_from_length (chunk_table xorbs) (length-chunk_table xorbs ∙ none)))
  no_hashes_read (Err e) none fails = why_not xorb_records xorb_laws (after_seek old at) new xorbs section e (search (rules, fails.cause))
