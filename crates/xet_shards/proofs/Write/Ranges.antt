-- What records that come after others add to a section and to its tables.
use Rattle.std.proofs.Common.{◌≡◌, ℕ, ◌+◌, List, [], ◌∷◌, ◌++◌, map, flat_map, refl, sym, ap, ◌∙◌, append_assoc, append-nil}
use Rattle.std.specs.List.{enumerate_from}
use Rattle.std.proofs.lemmas.List.{map-append}
use Rattle.std.proofs.lemmas.Grind.{flat_map-append}
use Rattle.std.proofs.lemmas.List.Sums.{sum_by-append}
use Rattle.xet_records.specs.RecordKind.{RecordKind}
use Rattle.xet_records.specs.XorbRecord.{xorb_records}
use Rattle.xet_records.specs.declared.xorb_structs.MDBXorbInfo.{MDBXorbInfo}
use Rattle.xet_records.specs.declared.xorb_structs.XorbChunkSequenceEntry.{XorbChunkSequenceEntry}
use Rattle.xet_shards.specs.Write.Section.{with_fronts, total_rows}
use Rattle.xet_shards.specs.Write.Tables.{ChunkTableRow, hash_in, start_of, starts, chunk_table_rows_from, chunk_table_rows}
use Rattle.xet_shards.specs.Write.RaisedRows.{start_later, chunk_row_later}

with_fronts-append : {X : Type 0} (front xs ys : List X) → with_fronts front (xs ++ ys) ≡ with_fronts front xs ++ with_fronts (front ++ xs) ys
with_fronts-append {X} front [] ys = ap (λ (before : List X). with_fronts before ys) (sym (append-nil front))
with_fronts-append {X} front (x ∷ xs) ys =
    ap (λ es. (front, x) ∷ es) (with_fronts-append (front ++ x ∷ []) xs ys
    ∙ ap (λ (before : List X). with_fronts (front ++ x ∷ []) xs ++ with_fronts before ys) (append_assoc front (x ∷ []) xs))

module _ {H R : Type 0} (K : RecordKind H R) where
  starts_later : (front mid ys : List R) → map (start_of K) (with_fronts (front ++ mid) ys) ≡ map (start_later (total_rows K front)) (map (start_of K) (with_fronts mid ys))
  starts_later front mid [] = refl
  starts_later front mid (y ∷ ys) =
      ap (λ n. ((hash_in K y).word0, n) ∷ map (start_of K) (with_fronts ((front ++ mid) ++ y ∷ []) ys)) (sum_by-append K.row_count front mid)
      ∙ ap (λ (before : List R). ((hash_in K y).word0, total_rows K front + total_rows K mid) ∷ map (start_of K) (with_fronts before ys)) (append_assoc front mid (y ∷ []))
      ∙ ap (λ es. ((hash_in K y).word0, total_rows K front + total_rows K mid) ∷ es) (starts_later front (mid ++ y ∷ []) ys)

  pub starts-append : (xs ys : List R) → starts K (xs ++ ys) ≡ starts K xs ++ map (start_later (total_rows K xs)) (starts K ys)
  starts-append xs ys =
      ap (map (start_of K)) (with_fronts-append [] xs ys) ∙ map-append (start_of K) (with_fronts [] xs) (with_fronts xs ys)
      ∙ ap (λ es. starts K xs ++ es) (ap (λ (before : List R). map (start_of K) (with_fronts before ys)) (sym (append-nil xs)) ∙ starts_later xs [] ys)

rows_later : (rows row : ℕ) (es : List (ℕ × XorbChunkSequenceEntry))
    → map (λ (c : ℕ × XorbChunkSequenceEntry). record { word = c.1.chunk_hash.word0; row = rows + row; index = c.0 }) es
    ≡ map (chunk_row_later rows) (map (λ (c : ℕ × XorbChunkSequenceEntry). record { word = c.1.chunk_hash.word0; row = row; index = c.0 }) es)
rows_later rows row [] = refl
rows_later rows row (e ∷ es) = ap (λ later. record { word = e.1.chunk_hash.word0; row = rows + row; index = e.0 } ∷ later) (rows_later rows row es)

abbrev rows_of : List MDBXorbInfo × MDBXorbInfo → List ChunkTableRow
rows_of e = chunk_table_rows_from (total_rows xorb_records e.0) e.1.chunks

chunk_rows_later : (front mid ys : List MDBXorbInfo)
    → flat_map rows_of (with_fronts (front ++ mid) ys) ≡ map (chunk_row_later (total_rows xorb_records front)) (flat_map rows_of (with_fronts mid ys))
chunk_rows_later front mid [] = refl
chunk_rows_later front mid (y ∷ ys) =
    ap (λ n. chunk_table_rows_from n y.chunks ++ flat_map rows_of (with_fronts ((front ++ mid) ++ y ∷ []) ys)) (sum_by-append xorb_records.row_count front mid)
    ∙ ap (λ rows. rows ++ flat_map rows_of (with_fronts ((front ++ mid) ++ y ∷ []) ys))
    (rows_later (total_rows xorb_records front) (total_rows xorb_records mid) (enumerate_from 0 y.chunks))
    ∙ ap (λ (before : List MDBXorbInfo). map (chunk_row_later (total_rows xorb_records front)) (rows_of (mid, y)) ++ flat_map rows_of (with_fronts before ys)) (append_assoc front mid (y ∷ []))
    ∙ ap (λ rows. map (chunk_row_later (total_rows xorb_records front)) (rows_of (mid, y)) ++ rows) (chunk_rows_later front (mid ++ y ∷ []) ys)
    ∙ sym (map-append (chunk_row_later (total_rows xorb_records front)) (rows_of (mid, y)) (flat_map rows_of (with_fronts (mid ++ y ∷ []) ys)))

pub chunk_table_rows-append : (xs ys : List MDBXorbInfo) → chunk_table_rows (xs ++ ys) ≡ chunk_table_rows xs ++ map (chunk_row_later (total_rows xorb_records xs)) (chunk_table_rows ys)
chunk_table_rows-append xs ys =
    ap (flat_map rows_of) (with_fronts-append [] xs ys) ∙ flat_map-append rows_of (with_fronts [] xs) (with_fronts xs ys)
    ∙ ap (λ rows. chunk_table_rows xs ++ rows) (ap (λ (before : List MDBXorbInfo). flat_map rows_of (with_fronts before ys)) (sym (append-nil xs)) ∙ chunk_rows_later xs [] ys)
