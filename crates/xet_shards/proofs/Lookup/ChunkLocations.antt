-- The rows of the chunk table in section order, and the chunks that they are of.
use Rattle.std.proofs.Common.{◌≡◌, inl, inr, ℕ, ◌+◌, ◌-◌, ◌<◌, ◌≤◌, List, [], ◌∷◌, ◌++◌, length, get_or, refl, sym, ap, ◌∙◌, subst, append_assoc, append-nil, arith}
use Rattle.std.specs.Prelude.{Contains}
use Rattle.std.specs.List.{enumerate_from}
use Rattle.std.proofs.lemmas.Bool.{cases_lt}
use Rattle.std.proofs.lemmas.List.{get_or-map, get_or_append_left, get_or-append_right, length-append, length-map}
use Rattle.std.proofs.lemmas.List.Elements.{Contains-append_left, Contains-append_right, Contains-get_or}
use Rattle.std.proofs.lemmas.List.FromFn.{length-enumerate_from, get_or-enumerate_from}
use Rattle.xet_records.specs.declared.xorb_structs.MDBXorbInfo.{MDBXorbInfo}
use Rattle.xet_records.specs.declared.xorb_structs.XorbChunkSequenceEntry.{XorbChunkSequenceEntry}
use Rattle.xet_records.specs.XorbRecord.{xorb_records}
use Rattle.xet_shards.specs.Write.Section.{total_rows}
use Rattle.xet_shards.specs.Write.Tables.{ChunkTableRow, chunk_table_rows_from}
use Rattle.xet_shards.specs.Lookup.WrittenQueries.{all_chunks}
use Rattle.xet_shards.proofs.Write.ChunkTableRows.{chunk_table_row, no_chunk}
use Rattle.xet_shards.proofs.Lookup.ChunkTables.{no_table_row}
use Rattle.xet_shards.proofs.Write.XorbLayouts.{rows_of, table_rows_after}

length-rows_of : (row : ℕ) (cs : List XorbChunkSequenceEntry) → length (chunk_table_rows_from row cs) ≡ length cs
length-rows_of row cs = length-map (enumerate_from 0 cs) (λ (c : ℕ × XorbChunkSequenceEntry). chunk_table_row row c.0 c.1) ∙ length-enumerate_from 0 cs

-- the row of the chunk at an index
row_at_index : (row i : ℕ) (cs : List XorbChunkSequenceEntry) → i < length cs → get_or (chunk_table_rows_from row cs) i no_table_row ≡ chunk_table_row row i (get_or cs i no_chunk)
row_at_index row i cs below =
    let none : 0 + i ≡ i = omega arith in
    let row_of : ℕ × XorbChunkSequenceEntry → ChunkTableRow = λ c. chunk_table_row row c.0 c.1 in
    get_or-map row_of (enumerate_from 0 cs) i (0, no_chunk) no_table_row (omega (arith, below, length-enumerate_from 0 cs))
    ∙ ap row_of (get_or-enumerate_from 0 cs i (0, no_chunk) below)
    ∙ ap (λ n. chunk_table_row row n (get_or cs i no_chunk)) none

-- row i of those of some xorbs that come after others, and chunk i of all, are of the chunk at an index of one of them
pub record IsLocated (front xorbs : List MDBXorbInfo) (i : ℕ) : Type 0 where
  pub before : List MDBXorbInfo
  pub xorb : MDBXorbInfo
  pub after : List MDBXorbInfo
  pub xorbs_are : xorbs ≡ before ++ xorb ∷ after
  pub index : ℕ
  pub within : index < length xorb.chunks
  pub row_is : get_or (table_rows_after front xorbs) i no_table_row ≡ chunk_table_row (total_rows xorb_records (front ++ before)) index (get_or xorb.chunks index no_chunk)
  pub chunk_is : get_or (all_chunks xorbs) i no_chunk ≡ get_or xorb.chunks index no_chunk

pub is_located : (front xorbs : List MDBXorbInfo) (i : ℕ) → i < length (all_chunks xorbs) → IsLocated front xorbs i
is_located front [] i below = absurd (omega (arith, below))
is_located front (x ∷ xs) i below = elim (cases_lt i (length x.chunks)) [
  | inl less ↦ record {
    before = [];
    xorb = x;
    after = xs;
    xorbs_are = refl;
    index = i;
    within = less;
    row_is = get_or_append_left (rows_of (front, x)) (table_rows_after (front ++ x ∷ []) xs) no_table_row i (omega (arith, less, length-rows_of (total_rows xorb_records front) x.chunks))
        ∙ row_at_index (total_rows xorb_records front) i x.chunks less
        ∙ ap (λ rs. chunk_table_row (total_rows xorb_records rs) i (get_or x.chunks i no_chunk)) (sym (append-nil front));
    chunk_is = get_or_append_left x.chunks (all_chunks xs) no_chunk i less;
  }
  | inr past ↦ later past (is_located (front ++ x ∷ []) xs (i - length x.chunks) (omega (arith, below, past, length-append x.chunks (all_chunks xs))))
]
  where
    later : length x.chunks ≤ i → IsLocated (front ++ x ∷ []) xs (i - length x.chunks) → IsLocated front (x ∷ xs) i
    later past rest = record {
      before = x ∷ rest.before;
      xorb = rest.xorb;
      after = rest.after;
      xorbs_are = ap (λ ys. x ∷ ys) rest.xorbs_are;
      index = rest.index;
      within = rest.within;
      row_is = get_or-append_right (rows_of (front, x)) (table_rows_after (front ++ x ∷ []) xs) (length x.chunks) i no_table_row (length-rows_of (total_rows xorb_records front) x.chunks) past
          ∙ rest.row_is
          ∙ ap (λ rs. chunk_table_row (total_rows xorb_records rs) rest.index (get_or rest.xorb.chunks rest.index no_chunk)) (append_assoc front (x ∷ []) rest.before);
      chunk_is = get_or-append_right x.chunks (all_chunks xs) (length x.chunks) i no_chunk refl past ∙ rest.chunk_is;
    }

-- each chunk has its row
pub has_row : (front before : List MDBXorbInfo) (x : MDBXorbInfo) (after : List MDBXorbInfo) (index : ℕ) → index < length x.chunks
    → Contains (table_rows_after front (before ++ x ∷ after)) (chunk_table_row (total_rows xorb_records (front ++ before)) index (get_or x.chunks index no_chunk))
has_row front [] x after index within =
    let row = total_rows xorb_records front in
    let rows = rows_of (front, x) in
    let here : Contains rows (chunk_table_row row index (get_or x.chunks index no_chunk)) =
    subst (Contains rows) (row_at_index row index x.chunks within) (Contains-get_or rows index no_table_row (omega (arith, within, length-rows_of row x.chunks))) in
    subst (λ rs. Contains (table_rows_after front (x ∷ after)) (chunk_table_row (total_rows xorb_records rs) index (get_or x.chunks index no_chunk))) (sym (append-nil front))
    (Contains-append_left rows (table_rows_after (front ++ x ∷ []) after) (chunk_table_row row index (get_or x.chunks index no_chunk)) here)
has_row front (y ∷ before) x after index within =
    let later = table_rows_after (front ++ y ∷ []) (before ++ x ∷ after) in
    Contains-append_right (rows_of (front, y)) later (chunk_table_row (total_rows xorb_records (front ++ y ∷ before)) index (get_or x.chunks index no_chunk))
    (subst (λ rs. Contains later (chunk_table_row (total_rows xorb_records rs) index (get_or x.chunks index no_chunk))) (append_assoc front (y ∷ []) before)
    (has_row (front ++ y ∷ []) before x after index within))
