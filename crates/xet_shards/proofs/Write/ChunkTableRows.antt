-- Rows of the chunk table, for one chunk or xorb more; and keys that are inserted into a set one after another.
use Rattle.std.proofs.Common.{◌≡◌, ℕ, suc, ◌+◌, ◌<◌, cond, List, [], ◌∷◌, ◌++◌, map, length, flat_map, take, get_or, Some, refl, sym, ap, ◌∙◌, arith}
use Rattle.std.specs.List.{enumerate_from}
use Rattle.std.specs.Ordering.{eq_by_cmp}
use Rattle.std.specs.declared.cmp.Ordering.{Ordering}
use Rattle.std.specs.Map.{keys_of}
use Rattle.std.specs.BTreeMap.{insert_entry}
use Rattle.std.specs.BTreeSet.{insert_key}
use Rattle.std.specs.Cmp.{IsTotalOrder}
use Rattle.std.specs.FinMap.{FinMap, IsAntisymmetric, from_entries, find, insert, entries, keys, same_map, get-insert, get-from_entries}
use Rattle.std.proofs.lemmas.List.{map-append, length-take}
use Rattle.std.proofs.Math.Seq.{take-suc}
use Rattle.xet_records.specs.declared.xorb_structs.XorbChunkSequenceEntry.{XorbChunkSequenceEntry}
use Rattle.xet_records.specs.declared.xorb_structs.MDBXorbInfo.{MDBXorbInfo}
use Rattle.xet_records.specs.XorbRecord.{xorb_records}
use Rattle.xet_shards.specs.Write.Section.{total_rows, with_fronts}
use Rattle.xet_shards.specs.Write.Tables.{ChunkTableRow, chunk_table_row_cmp, ascending_rows, chunk_table_rows_from, chunk_table_rows}
use Rattle.xet_shards.proofs.Content.Maps.{entries-inserted, entries-empty}
use Rattle.xet_shards.proofs.Write.Tables.{with_fronts-push}
use Rattle.xet_shards.proofs.ShardInMemory.Walks.{flat_map-push}

-- a key among the keys of a map

keys-insert_entry : {K X : Type 0} (R : K → K → Ordering) (k : K) (v : X) (es : List (K × X)) → keys_of (insert_entry R es k v) ≡ insert_key R (keys_of es) k
keys-insert_entry R k v [] = refl
keys-insert_entry R k v (e ∷ es) = grind (arith, keys-insert_entry R k v es)

-- a key with nothing under it
abbrev pub key_alone : {K : Type 0} → K → K × Unit {0}
key_alone k = (k, tt)

pub keys-key_alone : {K : Type 0} (ks : List K) → keys_of (map key_alone ks) ≡ ks
keys-key_alone [] = refl
keys-key_alone (k ∷ ks) = ap (λ rest. k ∷ rest) (keys-key_alone ks)

-- the keys of a finite map that has each of a list, in any order
module _ {K : Type 0} (R : K → K → Ordering) (total : IsTotalOrder R) (exact : IsAntisymmetric R) where
  find-push : (q p : K) (ps : List K) → find R q (map key_alone (ps ++ p ∷ [])) ≡ cond (eq_by_cmp R q p) (Some (tt {0})) (find R q (map key_alone ps))
  find-push q p [] = refl
  find-push q p (x ∷ ps) = grind (arith, find-push q p ps)

  -- one more key is inserted in order
  pub keys-push : (ps : List K) (p : K) → insert_key R (keys (from_entries {R = R} (map key_alone ps))) p ≡ keys (from_entries {R = R} (map key_alone (ps ++ p ∷ [])))
  keys-push ps p =
      let m : FinMap R (Unit {0}) = from_entries (map key_alone ps) in
      let more : FinMap R (Unit {0}) = from_entries (map key_alone (ps ++ p ∷ [])) in
      let same : more ≡ insert m p tt = same_map total exact more (insert m p tt) (λ q.
      get-from_entries total (map key_alone (ps ++ p ∷ [])) q ∙ find-push q p ps
      ∙ sym (get-insert total m p tt q ∙ ap (cond (eq_by_cmp R q p) (Some (tt {0}))) (get-from_entries total (map key_alone ps) q))) in
      sym (ap keys same ∙ ap keys_of (entries-inserted total m p tt) ∙ keys-insert_entry R p tt (entries m))

-- the row of one more chunk
pub enumerate_from-push : {X : Type 0} (n : ℕ) (xs : List X) (x : X) → enumerate_from n (xs ++ x ∷ []) ≡ enumerate_from n xs ++ (n + length xs, x) ∷ []
enumerate_from-push n [] x = let same : n ≡ n + 0 = omega arith in ap (λ k. (k, x) ∷ []) same
enumerate_from-push n (y ∷ xs) x =
    let same : n + 1 + length xs ≡ n + length (y ∷ xs) = omega arith in
    ap (λ rest. (n, y) ∷ rest) (enumerate_from-push (n + 1) xs x ∙ ap (λ k. enumerate_from (n + 1) xs ++ (k, x) ∷ []) same)

abbrev pub chunk_table_row : ℕ → ℕ → XorbChunkSequenceEntry → ChunkTableRow
chunk_table_row row index chunk = record { word = chunk.chunk_hash.word0; row = row; index = index }

-- the value of a read past the end
abbrev pub no_chunk : XorbChunkSequenceEntry
no_chunk =
    record { chunk_hash = record { word0 = 0; word1 = 0; word2 = 0; word3 = 0 }; chunk_byte_range_start = 0; unpacked_segment_bytes = 0; flags = 0; _unused = 0 }

pub chunk_table_rows_from-push : (row : ℕ) (cs : List XorbChunkSequenceEntry) (c : XorbChunkSequenceEntry) → chunk_table_rows_from row (cs ++ c ∷ []) ≡ chunk_table_rows_from row cs ++ chunk_table_row row (length cs) c ∷ []
chunk_table_rows_from-push row cs c =
    let none : 0 + length cs ≡ length cs = omega arith in
    ap (map (λ (e : ℕ × XorbChunkSequenceEntry). chunk_table_row row e.0 e.1)) (enumerate_from-push 0 cs c ∙ ap (λ k. enumerate_from 0 cs ++ (k, c) ∷ []) none)
    ∙ map-append (λ (e : ℕ × XorbChunkSequenceEntry). chunk_table_row row e.0 e.1) (enumerate_from 0 cs) ((length cs, c) ∷ [])

pub chunk_table_rows_from-more : (row i : ℕ) (cs : List XorbChunkSequenceEntry) (d : XorbChunkSequenceEntry) → i < length cs
    → chunk_table_rows_from row (take (i + 1) cs) ≡ chunk_table_rows_from row (take i cs) ++ chunk_table_row row i (get_or cs i d) ∷ []
chunk_table_rows_from-more row i cs d below =
    let next : i + 1 ≡ suc i = omega arith in
    let count : length (take i cs) ≡ i = omega (arith, length-take i cs, below) in
    ap (λ n. chunk_table_rows_from row (take n cs)) next ∙ ap (chunk_table_rows_from row) (take-suc cs i d below) ∙ chunk_table_rows_from-push row (take i cs) (get_or cs i d)
    ∙ ap (λ n. chunk_table_rows_from row (take i cs) ++ chunk_table_row row n (get_or cs i d) ∷ []) count

pub ascending_rows-nil : ascending_rows [] ≡ []
ascending_rows-nil = ap (map (λ e. e.0)) (entries-empty (Unit {0}) chunk_table_row_cmp)

-- the rows for one more xorb
pub chunk_table_rows-push : (xorbs : List MDBXorbInfo) (r : MDBXorbInfo) → chunk_table_rows (xorbs ++ r ∷ []) ≡ chunk_table_rows xorbs ++ chunk_table_rows_from (total_rows xorb_records xorbs) r.chunks
chunk_table_rows-push xorbs r =
    let rows_of : List MDBXorbInfo × MDBXorbInfo → List ChunkTableRow = λ e. chunk_table_rows_from (total_rows xorb_records e.0) e.1.chunks in
    ap (flat_map rows_of) (with_fronts-push [] xorbs r) ∙ flat_map-push rows_of (with_fronts [] xorbs) (xorbs, r)
