-- Lookups in finite maps.
use Rattle.std.proofs.Common.{inl, inr, ◌≡◌, ℕ, zero, suc, ◌<◌, ◌≤◌, true, List, [], ◌∷◌, length, get_or, Some, T, sym, ap, ◌∙◌, arith}
use Rattle.std.specs.Ordering.{is_eq, nat_cmp, ordering_then, ordering_reverse}
use Rattle.std.specs.declared.cmp.Ordering.{Ordering}
use Rattle.std.specs.declared.cmp.Ordering.TheVariants.{Less, Equal, Greater}
use Rattle.std.specs.Cmp.{IsTotalOrder, nat_cmp_is}
use Rattle.std.specs.Map.{keys_of}
use Rattle.std.specs.BTreeMap.{is_at}
use Rattle.std.specs.FinMap.{IsAntisymmetric, is_sorted, find}
use Rattle.std.proofs.lemmas.Bool.{cases_Bool, cond-true, cond-false}
use Rattle.std.proofs.lemmas.Cmp.{tied_itself}
use Rattle.std.proofs.lemmas.List.{length-map, get_or-map}
use Rattle.std.proofs.lemmas.Option.{none-some, same_Some}
use Rattle.std.proofs.lemmas.Map.Keys.{Less-from_sorted}
use Rattle.xet_base.specs.declared.merklehash.DataHash.{DataHash}
use Rattle.xet_base.specs.Hash.{hash_cmp}
use Rattle.xet_shards.proofs.Content.Maps.{rising_keys, both_right}

is_eq-Equal : (o : Ordering) → is_eq o ≡ true → o ≡ Equal
is_eq-Equal o is = grind arith

-- a comparison by two numbers and then by others
pub first_ascends : (m n : ℕ) (rest : Ordering) → ordering_then (nat_cmp m n) rest ≡ Less → m ≤ n
first_ascends m n rest less = grind (arith, nat_cmp_is m n Greater)

-- so a smaller hash has no greater first word
pub first_words_ascend : (a b : DataHash) → hash_cmp a b ≡ Less → a.word0 ≤ b.word0
first_words_ascend a b less = first_ascends a.word0 b.word0 _ less

module _ {K X : Type 0} (R : K → K → Ordering) where
  -- what is found is among the entries, with its key
  pub found_entry : IsAntisymmetric R → (es : List (K × X)) (q : K) (v : X) (d : K × X) → find R q es ≡ Some v → (i : ℕ) × (i < length es) × (get_or es i d ≡ (q, v))
  found_entry exact [] q v d is = absurd (none-some v is)
  found_entry exact (e ∷ es) q v d is = elim (cases_Bool (is_at (R q) e.0)) [
    | inl at ↦ (0, omega arith, λ k. (sym (exact q e.0 (is_eq-Equal (R q e.0) at)) k, same_Some e.1 v (sym (cond-true _ _ _ at) ∙ is) k))
    | inr apart ↦ let found = found_entry exact es q v d (sym (cond-false _ _ _ apart) ∙ is) in (suc found.0, omega (arith, found.1), found.2)
  ]

  -- and each entry is found
  pub entry_found : IsTotalOrder R → (es : List (K × X)) (i : ℕ) (q : K) (v : X) (d : K × X) → T (is_sorted R es) → i < length es → get_or es i d ≡ (q, v) → find R q es ≡ Some v
  entry_found total [] i q v d sorted within here = absurd (omega (arith, within))
  entry_found total (e ∷ es) zero q v d sorted within here =
      cond-true (is_at (R q) e.0) (Some e.1) (find R q es) (ap (λ k. is_eq (R q k)) (ap (λ (p : K × X). p.0) here) ∙ ap is_eq (tied_itself total q))
      ∙ ap (λ (p : K × X). Some p.1) here
  entry_found total (e ∷ es) (suc i) q v d sorted within here =
      let i_in : i < length es = omega (arith, within) in
      let key : get_or (keys_of es) i q ≡ q = get_or-map (λ (p : K × X). p.0) es i d q i_in ∙ ap (λ (p : K × X). p.0) here in
      let less : R e.0 (get_or (keys_of es) i q) ≡ Less =
      Less-from_sorted R (keys_of (e ∷ es)) 0 (suc i) q (rising_keys R (e ∷ es) sorted) (omega arith) (omega (arith, within, length-map es (λ (p : K × X). p.0))) in
      let greater : R q e.0 ≡ Greater = total.antisymm q e.0 ∙ ap ordering_reverse (ap (R e.0) (sym key) ∙ less) in
      cond-false (is_at (R q) e.0) (Some e.1) (find R q es) (ap is_eq greater)
      ∙ entry_found total es i q v d (both_right _ _ sorted) i_in here
