-- The answer to a lookup among the records of a map is that of the map.
use Rattle.std.proofs.Common.{◌≡◌, ℕ, ◌<◌, length, get_or, Option, None, Some, sym, ap, ◌∙◌, arith}
use Rattle.std.specs.Prelude.{All}
use Rattle.std.specs.FinMap.{FinMap, entries, values, get, get-entries, entries_sorted}
use Rattle.std.proofs.lemmas.List.{get_or-map, length-map}
use Rattle.xet_base.specs.declared.merklehash.DataHash.{DataHash}
use Rattle.xet_base.specs.Hash.{hash_cmp}
use Rattle.xet_base.proofs.HashOrder.{hash_cmp-IsTotalOrder, hash_cmp-IsAntisymmetric}
use Rattle.xet_records.specs.RecordKind.{RecordKind}
use Rattle.xet_shards.specs.Write.Tables.{hash_in}
use Rattle.xet_shards.proofs.Content.Found.{found_entry, entry_found}
use Rattle.xet_shards.proofs.Lookup.TableLookups.{IsAnswer}

-- for records that are each under their hash and are returned as they are
module _ {H R : Type 0} (K : RecordKind H R) (d : R) (m : FinMap hash_cmp R)
    (keyed : All (λ e. e.0 ≡ hash_in K e.1) (entries m)) (unchanged : All (λ r. K.as_read r ≡ r) (values m)) where
  abbrev no_entry : DataHash × R
  no_entry = (hash_in K d, d)

  entry_in : (i : ℕ) → i < length (values m) → i < length (entries m)
  entry_in i within = omega (arith, within, length-map (entries m) (λ (e : DataHash × R). e.1))

  value_of : (i : ℕ) → i < length (values m) → get_or (values m) i d ≡ (get_or (entries m) i no_entry).1
  value_of i within = get_or-map (λ (e : DataHash × R). e.1) (entries m) i no_entry d (entry_in i within)

  hash_of : (i : ℕ) → i < length (values m) → (get_or (entries m) i no_entry).0 ≡ hash_in K (get_or (values m) i d)
  hash_of i within = keyed i no_entry (entry_in i within) ∙ ap (hash_in K) (sym (value_of i within))

  pub map_answers : (hash : DataHash) (answer : Option R) → IsAnswer K d (values m) hash answer → answer ≡ get m hash
  map_answers hash (Some found) (i, within, returned, same) =
      let value : found ≡ get_or (values m) i d = returned ∙ unchanged i d within in
      sym (get-entries m hash
      ∙ entry_found hash_cmp hash_cmp-IsTotalOrder (entries m) i hash found no_entry (entries_sorted m) (entry_in i within)
      (λ k. ((hash_of i within ∙ ap (hash_in K) (sym value) ∙ same) k, (sym (value_of i within) ∙ sym value) k)))
  map_answers hash None others = none_there (get m hash) (λ r found.
      let at = found_entry hash_cmp hash_cmp-IsAntisymmetric (entries m) hash r no_entry (sym (get-entries m hash) ∙ found) in
      let within : at.0 < length (values m) = omega (arith, at.1, length-map (entries m) (λ (e : DataHash × R). e.1)) in
      others at.0 within (sym (hash_of at.0 within) ∙ ap (λ (e : DataHash × R). e.0) at.2))
    where
      none_there : (o : Option R) → ((r : R) → o ≡ Some r → ⊥) → None ≡ o
      none_there o never = grind (arith, never)
