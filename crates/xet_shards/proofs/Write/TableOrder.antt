-- What the tables of a shard hold: rows for chunks in strictly ascending order, and for each record the rows of those
-- with smaller hashes.
use Rattle.std.proofs.Common.{◌≡◌, ℕ, zero, suc, ◌<◌, Bool, true, false, List, [], ◌∷◌, ◌++◌, length, map, get_or, cond, Some, refl, sym, ap, ◌∙◌, subst, append_assoc, arith}
use Rattle.std.specs.Prelude.{All, Contains, filter}
use Rattle.std.specs.List.{AllByRecursion}
use Rattle.std.specs.List.Sorted.{IsStrictlySortedBy}
use Rattle.std.specs.Ordering.{is_lt, is_eq, ordering_reverse}
use Rattle.std.specs.declared.cmp.Ordering.TheVariants.{Less}
use Rattle.std.specs.Map.{keys_of, values_of}
use Rattle.std.specs.BTreeMap.{is_at}
use Rattle.std.specs.FinMap.{FinMap, from_entries, find, entries, values, entries_sorted, get-entries, get-from_entries}
use Rattle.std.proofs.lemmas.Bool.{cond-true, cond-false}
use Rattle.std.proofs.lemmas.Cmp.{tied_itself}
use Rattle.std.proofs.lemmas.List.{length-map, get_or-map}
use Rattle.std.proofs.lemmas.List.Elements.{All-drop}
use Rattle.xet_base.specs.declared.merklehash.DataHash.{DataHash}
use Rattle.xet_base.specs.Hash.{hash_cmp}
use Rattle.xet_base.proofs.HashOrder.{hash_cmp-IsTotalOrder}
use Rattle.xet_records.specs.declared.xorb_structs.MDBXorbInfo.{MDBXorbInfo}
use Rattle.xet_records.specs.RecordKind.{RecordKind}
use Rattle.xet_shards.specs.Write.Section.{total_rows, with_fronts}
use Rattle.xet_shards.specs.Write.Tables.{ChunkTableRow, chunk_table_row_cmp, chunk_table_rows, chunk_table, hash_in, starts, records_below}
use Rattle.xet_shards.proofs.Content.Maps.{rising_keys}
use Rattle.xet_shards.proofs.Content.Found.{found_entry, entry_found}
use Rattle.xet_shards.proofs.Write.Tables.{chunk_table_row_total, chunk_table_row_exact}
use Rattle.xet_shards.proofs.Write.ChunkTableRows.{key_alone}

-- a row that is in a list is found among its entries
row_found : (p d : ChunkTableRow) (ps : List ChunkTableRow) (i : ℕ) → i < length ps → get_or ps i d ≡ p → find chunk_table_row_cmp p (map key_alone ps) ≡ Some (tt {0})
row_found p d [] i within here = absurd (omega (arith, within))
row_found p d (x ∷ ps) zero within here =
    cond-true (is_at (chunk_table_row_cmp p) x) (Some (tt {0})) (find chunk_table_row_cmp p (map key_alone ps)) (ap (λ q. is_eq (chunk_table_row_cmp p q)) here ∙ ap is_eq (tied_itself chunk_table_row_total p))
row_found p d (x ∷ ps) (suc i) within here = go (is_at (chunk_table_row_cmp p) x) (row_found p d ps i (omega (arith, within)) here)
  where
    go : (b : Bool) → find chunk_table_row_cmp p (map key_alone ps) ≡ Some (tt {0}) → cond b (Some (tt {0})) (find chunk_table_row_cmp p (map key_alone ps)) ≡ Some (tt {0})
    go true later = refl
    go false later = later

module _ (xorbs : List MDBXorbInfo) where
  abbrev table_map : FinMap chunk_table_row_cmp (Unit {0})
  table_map = from_entries (map key_alone (chunk_table_rows xorbs))

  pub chunk_table-sorted : IsStrictlySortedBy chunk_table_row_cmp (chunk_table xorbs)
  chunk_table-sorted = rising_keys chunk_table_row_cmp (entries table_map) (entries_sorted table_map)

  pub in_table_rows : (p : ChunkTableRow) → Contains (chunk_table xorbs) p → Contains (chunk_table_rows xorbs) p
  in_table_rows p (i, below, here) =
      let d = key_alone p in
      let i_in : i < length (entries table_map) = omega (arith, below, length-map (entries table_map) (λ (e : ChunkTableRow × Unit {0}). e.0)) in
      let key : (get_or (entries table_map) i d).0 ≡ p = sym (get_or-map (λ (e : ChunkTableRow × Unit {0}). e.0) (entries table_map) i d p i_in) ∙ here in
      let found = entry_found chunk_table_row_cmp chunk_table_row_total (entries table_map) i p tt d (entries_sorted table_map) i_in (λ k. (key k, tt)) in
      let at = found_entry chunk_table_row_cmp chunk_table_row_exact (map key_alone (chunk_table_rows xorbs)) p tt d
      (sym (get-from_entries chunk_table_row_total (map key_alone (chunk_table_rows xorbs)) p) ∙ get-entries table_map p ∙ found) in
      let at_in : at.0 < length (chunk_table_rows xorbs) = omega (arith, at.1, length-map (chunk_table_rows xorbs) key_alone) in
      (at.0, at_in, ap (λ (e : ChunkTableRow × Unit {0}). e.0) (sym (get_or-map key_alone (chunk_table_rows xorbs) at.0 p d at_in) ∙ at.2))

  pub in_table : (p : ChunkTableRow) → Contains (chunk_table_rows xorbs) p → Contains (chunk_table xorbs) p
  in_table p (i, below, here) =
      let d = key_alone p in
      let found = sym (get-entries table_map p) ∙ get-from_entries chunk_table_row_total (map key_alone (chunk_table_rows xorbs)) p ∙ row_found p p (chunk_table_rows xorbs) i below here in
      let at = found_entry chunk_table_row_cmp chunk_table_row_exact (entries table_map) p tt d found in (
        at.0,
        omega (arith, at.1, length-map (entries table_map) (λ (e : ChunkTableRow × Unit {0}). e.0)),
        get_or-map (λ (e : ChunkTableRow × Unit {0}). e.0) (entries table_map) at.0 d p at.1 ∙ ap (λ (e : ChunkTableRow × Unit {0}). e.0) at.2,
      )

-- of records in strictly ascending order of hashes, those before one are those with smaller hashes
module _ {X : Type 0} (hash_of : X → DataHash) where
  abbrev below : DataHash → List X → List X
  below q xs = filter (λ x. is_lt (hash_cmp (hash_of x) q)) xs

  none_below : (x : X) (rest : List X) → AllByRecursion (λ q. hash_cmp (hash_of x) q ≡ Less) (map hash_of rest) → below (hash_of x) rest ≡ []
  none_below x [] less = refl
  none_below x (y ∷ rest) less =
      cond-false (is_lt (hash_cmp (hash_of y) (hash_of x))) (y ∷ below (hash_of x) rest) (below (hash_of x) rest)
      (ap is_lt (hash_cmp-IsTotalOrder.antisymm (hash_of y) (hash_of x) ∙ ap ordering_reverse less.0))
      ∙ none_below x rest less.1

  less_than : (q : DataHash) (front rest : List X) (x : X) → AllByRecursion (λ k. hash_cmp q k ≡ Less) (map hash_of (front ++ x ∷ rest)) → hash_cmp q (hash_of x) ≡ Less
  less_than q [] rest x less = less.0
  less_than q (y ∷ front) rest x less = less_than q front rest x less.1

  front_is_below : (front rest : List X) (x : X) → IsStrictlySortedBy hash_cmp (map hash_of (front ++ x ∷ rest)) → below (hash_of x) (front ++ x ∷ rest) ≡ front
  unfolding IsStrictlySortedBy
  front_is_below [] rest x sorted =
      cond-false (is_lt (hash_cmp (hash_of x) (hash_of x))) (x ∷ below (hash_of x) rest) (below (hash_of x) rest) (ap is_lt (tied_itself hash_cmp-IsTotalOrder (hash_of x)))
      ∙ none_below x rest sorted.0
  front_is_below (y ∷ front) rest x sorted =
      cond-true (is_lt (hash_cmp (hash_of y) (hash_of x))) (y ∷ below (hash_of x) (front ++ x ∷ rest)) (below (hash_of x) (front ++ x ∷ rest))
      (ap is_lt (less_than (hash_of y) front rest x sorted.0))
      ∙ ap (λ xs. y ∷ xs) (front_is_below front rest x sorted.1)

  abbrev start_after : (List X → ℕ) → List X × X → ℕ × ℕ
  start_after rows e = ((hash_of e.1).word0, rows e.0)

  abbrev start_among : (List X → ℕ) → List X → X → ℕ × ℕ
  start_among rows xs x = ((hash_of x).word0, rows (below (hash_of x) xs))

  -- so the rows before a record are those of the records with smaller hashes
  starts_below : (rows : List X → ℕ) (front xs : List X) → IsStrictlySortedBy hash_cmp (map hash_of (front ++ xs))
      → map (start_after rows) (with_fronts front xs) ≡ map (start_among rows (front ++ xs)) xs
  starts_below rows front [] sorted = refl
  starts_below rows front (x ∷ xs) sorted =
      let same : (front ++ x ∷ []) ++ xs ≡ front ++ x ∷ xs = append_assoc front (x ∷ []) xs in
      let later = starts_below rows (front ++ x ∷ []) xs (subst (λ ys. IsStrictlySortedBy hash_cmp (map hash_of ys)) (sym same) sorted)
      ∙ ap (λ ys. map (start_among rows ys) xs) same in
      λ i. ((hash_of x).word0, rows (sym (front_is_below front xs x sorted) i)) ∷ later i

  hashes_are_keys : (es : List (DataHash × X)) → All (λ e. e.0 ≡ hash_of e.1) es → map hash_of (values_of es) ≡ keys_of es
  hashes_are_keys [] keyed = refl
  hashes_are_keys (e ∷ es) keyed = λ i. sym (keyed 0 e (omega arith)) i ∷ hashes_are_keys es (All-drop (λ (d : DataHash × X). d.0 ≡ hash_of d.1) 1 (e ∷ es) keyed) i

  pub hashes_ascend : (m : FinMap hash_cmp X) → All (λ e. e.0 ≡ hash_of e.1) (entries m) → IsStrictlySortedBy hash_cmp (map hash_of (values m))
  hashes_ascend m keyed = subst (IsStrictlySortedBy hash_cmp) (sym (hashes_are_keys (entries m) keyed)) (rising_keys hash_cmp (entries m) (entries_sorted m))

-- the records of a map under their hashes start after the rows of those with smaller hashes
module _ {H R : Type 0} (K : RecordKind H R) where
  pub records_start : (m : FinMap hash_cmp R) → All (λ e. e.0 ≡ hash_in K e.1) (entries m)
      → starts K (values m) ≡ map (λ r. ((hash_in K r).word0, total_rows K (records_below K (hash_in K r) (values m)))) (values m)
  records_start m keyed = starts_below (hash_in K) (total_rows K) [] (values m) (hashes_ascend (hash_in K) m keyed)
