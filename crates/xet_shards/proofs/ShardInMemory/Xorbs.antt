-- `Rc`s of xorbs, and sums over xorbs.
use Rattle.std.proofs.Common.{T, sym, length, ◌≡◌, ℕ, ◌*◌, ◌^◌, ◌<◌, ◌≤◌, List, [], ◌∷◌, map, refl, ap, ◌∙◌, arith}
use Rattle.std.specs.Prelude.{All, sum_by, option_map}
use Rattle.std.specs.BTreeMap.{is_at}
use Rattle.std.specs.FinMap.{get, from_sorted, is_sorted}
use Rattle.std.specs.Map.{lookup, values_of}
use Rattle.std.specs.declared.rc.Rc.{Rc}
use Rattle.std.proofs.lemmas.List.{length-map}
use Rattle.std.proofs.lemmas.List.Elements.{All-map}
use Rattle.std.proofs.lemmas.List.Sums.{sum_by-cons}
use Rattle.std.proofs.lemmas.Map.Made.{lookup-map_values}
use Rattle.xet_base.specs.declared.merklehash.DataHash.{DataHash}
use Rattle.xet_base.specs.Hash.{hash_cmp}
use Rattle.xet_base.proofs.HashOrder.{hash_cmp-IsTotalOrder, hash_cmp-IsAntisymmetric}
use Rattle.xet_records.specs.declared.xorb_structs.MDBXorbInfo.{MDBXorbInfo}
use Rattle.xet_records.specs.XorbRecord.{xorb_records, xorb_row_count, IsXorb}
use Rattle.xet_shards.specs.Write.Section.{total_rows}
use Rattle.xet_shards.specs.Content.Shard.{AreXorbs}
use Rattle.xet_shards.specs.ShardInMemory.XorbStore.{shown_xorbs}
use Rattle.xet_shards.proofs.ShardInMemory.Files.{sum_bound}
use Rattle.xet_shards.proofs.Content.Maps.{finds_in_map}

module _ {Z : Type 0} where
  abbrev pub owned_xorbs : List (Rc MDBXorbInfo Z) → List MDBXorbInfo
  owned_xorbs owners = map (λ (o : Rc MDBXorbInfo Z). o.value) owners

  pub owned-values : (es : List (DataHash × Rc MDBXorbInfo Z)) → owned_xorbs (values_of es) ≡ values_of (shown_xorbs es)
  owned-values [] = refl
  owned-values (e ∷ es) = ap (λ rs. e.1.value ∷ rs) (owned-values es)

  pub length-shown_entry : (es : List (DataHash × Rc MDBXorbInfo Z)) → length (shown_xorbs es) ≡ length es
  length-shown_entry es = length-map es (λ (e : DataHash × Rc MDBXorbInfo Z). (e.0, e.1.value))

  -- what is found among `Rc`s is found among their xorbs
  pub found_shown : (es : List (DataHash × Rc MDBXorbInfo Z)) (q : DataHash) → T (is_sorted hash_cmp (shown_xorbs es))
      → option_map (λ (o : Rc MDBXorbInfo Z). o.value) (lookup (is_at (hash_cmp q)) es) ≡ get (from_sorted {R = hash_cmp} (shown_xorbs es)) q
  found_shown es q sorted =
      sym (lookup-map_values (λ (o : Rc MDBXorbInfo Z). o.value) (is_at (hash_cmp q)) es) ∙ finds_in_map hash_cmp-IsTotalOrder hash_cmp-IsAntisymmetric (shown_xorbs es) q sorted

-- what holds of a shard's xorbs holds of their list
pub xorb_values : (es : List (DataHash × MDBXorbInfo)) → AreXorbs es → All IsXorb (values_of es)
xorb_values es xorbs = All-map IsXorb (λ (e : DataHash × MDBXorbInfo). e.1) es xorbs.well_formed

-- each xorb has a row, and so no sum of numbers that fit `u32` passes `u64`
pub xorbs_bound : (P : MDBXorbInfo → Type 0) (f : MDBXorbInfo → ℕ) → ((r : MDBXorbInfo) → P r → f r ≤ 4294967295) → (rs : List MDBXorbInfo) → All P rs
    → sum_by f rs ≤ 4294967295 * total_rows xorb_records rs
xorbs_bound P f small rs xorbs = sum_bound P f xorb_row_count (λ r is. omega (arith, small r is)) rs xorbs

-- a sum over their `Rc`s is the sum over the xorbs
pub sum_owned : {Z : Type 0} (f : MDBXorbInfo → ℕ) (es : List (DataHash × Rc MDBXorbInfo Z))
    → sum_by (λ (o : Rc MDBXorbInfo Z). f o.value) (values_of es) ≡ sum_by f (values_of (shown_xorbs es))
sum_owned f [] = refl
sum_owned {Z = Z} f (e ∷ es) =
    omega (arith, sum_by-cons (λ (o : Rc MDBXorbInfo Z). f o.value) e.1 (values_of es), sum_by-cons f e.1.value (values_of (shown_xorbs es)), sum_owned f es)

-- such a sum of numbers that fit `u32` fits `u64`
pub sum_fits : {Z : Type 0} (f : MDBXorbInfo → ℕ) → ((r : MDBXorbInfo) → IsXorb r → f r ≤ 4294967295) → (es : List (DataHash × Rc MDBXorbInfo Z))
    → AreXorbs (shown_xorbs es) → total_rows xorb_records (values_of (shown_xorbs es)) ≤ 4294967295 → sum_by (λ (o : Rc MDBXorbInfo Z). f o.value) (values_of es) < 2 ^ 64
sum_fits f small es xorbs rows = omega (arith, rows, sum_owned f es, xorbs_bound IsXorb f small _ (xorb_values _ xorbs))
