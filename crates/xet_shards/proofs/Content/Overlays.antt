-- Overlays of maps, in which values of the same key are joined, and the union of two shards made of them.
use Rattle.std.proofs.Common.{◌≡◌, ℕ, ◌+◌, ◌≤◌, List, [], ◌∷◌, ◌++◌, Option, None, Some, refl, sym, ap, ◌∙◌, subst, arith, T, map}
use Rattle.std.specs.Prelude.{option_map, unwrap_or, sum_by}
use Rattle.std.specs.Option.{option_or}
use Rattle.std.specs.Map.{values_of}
use Rattle.std.specs.FinMap.{FinMap, is_sorted, get, insert, entries, values, from_sorted, get-insert, get-entries, same_map, same_entries_map, entries-from_sorted, entries_sorted}
use Rattle.std.proofs.lemmas.List.{map-append}
use Rattle.std.proofs.lemmas.List.Sums.{sum_by_push}
use Rattle.xet_base.specs.declared.merklehash.DataHash.{DataHash}
use Rattle.xet_base.specs.Hash.{hash_cmp}
use Rattle.xet_base.proofs.HashOrder.{hash_cmp-IsTotalOrder, hash_cmp-IsAntisymmetric, same_key}
use Rattle.xet_records.specs.declared.file_structs.MDBFileInfo.{MDBFileInfo}
use Rattle.xet_records.specs.declared.xorb_structs.MDBXorbInfo.{MDBXorbInfo}
use Rattle.xet_records.specs.FileRecord.{file_records, row_count}
use Rattle.xet_records.specs.XorbRecord.{xorb_records}
use Rattle.xet_records.specs.Merging.{merged_file}
use Rattle.xet_shards.specs.Write.Section.{total_rows}
use Rattle.xet_shards.specs.Content.Shard.{Shard, FileMap, XorbMap}
use Rattle.xet_shards.specs.Content.Joining.{entry, either_file}
use Rattle.xet_shards.specs.Steps.JoiningSteps.{CanJoinFiles}
use Rattle.xet_shards.specs.Content.SetOperations.{IsUnion, CanUnite}
use Rattle.xet_shards.proofs.Content.Maps.{sum-insert}
use Rattle.xet_shards.proofs.ShardInMemory.Sums.{sum-remove}
use Rattle.xet_shards.proofs.Content.Joining.{entry-append, shown_entry}
use Rattle.xet_shards.proofs.ShardInMemory.FileUnions.{entry-before}
use Rattle.xet_shards.proofs.Content.Unions.{same_shard}

module _ {X : Type 0} (join : X → X → X) where
  -- a value, joined with another if there is one
  abbrev pub with_twin : X → Option X → X
  with_twin x None = x
  with_twin x (Some y) = join x y

  -- the join of two optional values
  abbrev either_joined : Option X → Option X → Option X
  either_joined None p = p
  either_joined (Some x) p = Some (with_twin x p)

  -- entries laid over a map, each value joined with the map's value of its key, if any
  abbrev pub overlay : List (DataHash × X) → FinMap hash_cmp X → FinMap hash_cmp X
  overlay [] m = m
  overlay (e ∷ es) m = insert (overlay es m) e.0 (with_twin e.1 (get m e.0))

  get-overlay : (es : List (DataHash × X)) (m : FinMap hash_cmp X) (q : DataHash) → get (overlay es m) q ≡ either_joined (entry es q) (get m q)
  get-overlay [] m q = refl
  get-overlay (e ∷ es) m q =
      grind (arith, get-insert hash_cmp-IsTotalOrder (overlay es m) e.0 (with_twin e.1 (get m e.0)) q, get-overlay es m q, same_key q e.0)

  -- the overlay is the only map with these values
  is_overlay : (es : List (DataHash × X)) (m c : FinMap hash_cmp X) → ((q : DataHash) → get c q ≡ either_joined (entry es q) (get m q)) → c ≡ overlay es m
  is_overlay es m c is = same_map hash_cmp-IsTotalOrder hash_cmp-IsAntisymmetric c (overlay es m) (λ q. is q ∙ sym (get-overlay es m q))

  module _ (es fs : List (DataHash × X)) (k : DataHash) (x : X) (push : fs ≡ es ++ (k, x) ∷ []) (m : FinMap hash_cmp X) (new : entry es k ≡ None) where
    -- one more entry, with a new key, is an insertion
    overlay-push : overlay fs m ≡ insert (overlay es m) k (with_twin x (get m k))
    overlay-push = same_map hash_cmp-IsTotalOrder hash_cmp-IsAntisymmetric _ _ (λ q. grind (
      arith,
      get-overlay fs m q,
      get-overlay es m q,
      entry-append es k x q,
      get-insert hash_cmp-IsTotalOrder (overlay es m) k (with_twin x (get m k)) q,
      same_key q k,
    ))

    -- and this is what it adds to a sum
    pub sum-overlay : (f : X → ℕ)
        → sum_by f (values (overlay fs m)) + unwrap_or (option_map f (get m k)) 0 ≡ sum_by f (values (overlay es m)) + f (with_twin x (get m k))
    sum-overlay f =
        let before : get (overlay es m) k ≡ get m k = get-overlay es m k ∙ ap (λ o. either_joined o (get m k)) new in
        cc (overlay-push, before, sum-insert hash_cmp-IsTotalOrder hash_cmp-IsAntisymmetric f (overlay es m) k (with_twin x (get m k)))

-- a map is the map of its entries
pub from_sorted-entries : {X : Type 0} (m : FinMap hash_cmp X) (es : List (DataHash × X)) → es ≡ entries m → from_sorted es ≡ m
from_sorted-entries m es is = ap from_sorted is ∙ same_entries_map _ _ (entries-from_sorted hash_cmp (entries m) (entries_sorted m))

-- an iteration over entries with ascending keys comes to a new key each time
pub new_key : {X : Type 0} (front rest all : List (DataHash × X)) (e : DataHash × X) → front ++ e ∷ rest ≡ all → T (is_sorted hash_cmp all) → entry front e.0 ≡ None
new_key front rest all e whole sorted = entry-before front rest e (subst (λ es. T (is_sorted hash_cmp es)) (sym whole) sorted)

-- the same iteration, with a function applied to the values
pub shown_whole : {X Z : Type 0} (f : Z → X) (front rest all : List (DataHash × Z)) (e : DataHash × Z) → front ++ e ∷ rest ≡ all
    → map (shown_entry f) front ++ shown_entry f e ∷ map (shown_entry f) rest ≡ map (shown_entry f) all
shown_whole f front rest all e whole = sym (map-append (shown_entry f) front (e ∷ rest)) ∙ ap (map (shown_entry f)) whole

pub sum-entries : {X : Type 0} (f : X → ℕ) (es fs : List (DataHash × X)) (e : DataHash × X) → fs ≡ es ++ e ∷ [] → sum_by f (values_of fs) ≡ sum_by f (values_of es) + f e.1
sum-entries f es fs e push = ap (λ gs. sum_by f (values_of gs)) push ∙ ap (sum_by f) (map-append (λ d. d.1) es (e ∷ [])) ∙ sum_by_push f (values_of es) e.1

-- of two xorbs with the same hash, the union has the other's
abbrev pub other_xorb : MDBXorbInfo → MDBXorbInfo → MDBXorbInfo
other_xorb own other = other

either_file_is : (o p : Option MDBFileInfo) → either_joined merged_file o p ≡ either_file o p
either_file_is o p = grind arith

either_xorb_is : (o p : Option MDBXorbInfo) → either_joined other_xorb o p ≡ option_or p o
either_xorb_is o p = grind arith

-- the maps of a union
pub are_united_files : (es : List (DataHash × MDBFileInfo)) (b c : FileMap) → ((q : DataHash) → get c q ≡ either_file (entry es q) (get b q)) → c ≡ overlay merged_file es b
are_united_files es b c is = is_overlay merged_file es b c (λ q. is q ∙ sym (either_file_is (entry es q) (get b q)))

pub are_united_xorbs : (es : List (DataHash × MDBXorbInfo)) (b c : XorbMap) → ((q : DataHash) → get c q ≡ option_or (get b q) (entry es q)) → c ≡ overlay other_xorb es b
are_united_xorbs es b c is = is_overlay other_xorb es b c (λ q. is q ∙ sym (either_xorb_is (entry es q) (get b q)))

abbrev united_files : FileMap → FileMap → FileMap
united_files a b = overlay merged_file (entries a) b

abbrev pub united_xorbs : XorbMap → XorbMap → XorbMap
united_xorbs a b = overlay other_xorb (entries a) b

-- each two shards have exactly one union
abbrev pub united_shard : Shard → Shard → Shard
united_shard a b = record { files = united_files a.files b.files; xorbs = united_xorbs a.xorbs b.xorbs }

pub union_exists : (a b : Shard) → IsUnion a b (united_shard a b)
union_exists a b = record {
  files = λ q. cc (get-overlay merged_file (entries a.files) b.files q, get-entries a.files q, either_file_is (get a.files q) (get b.files q));
  xorbs = λ q. cc (get-overlay other_xorb (entries a.xorbs) b.xorbs q, get-entries a.xorbs q, either_xorb_is (get a.xorbs q) (get b.xorbs q));
}

pub union_unique : (a b c d : Shard) → IsUnion a b c → IsUnion a b d → c ≡ d
union_unique a b c d one other = same_shard c d (λ q. one.files q ∙ sym (other.files q)) (λ q. one.xorbs q ∙ sym (other.xorbs q))

-- the files of shards that can be united can be joined
pub can_join_united : (a b : Shard) → CanUnite a b → CanJoinFiles a.files b.files
can_join_united a b can = λ q r s own other.
    let union = union_exists a b in
    let few = can.rows (united_shard a b) union in
    let there : get (united_files a.files b.files) q ≡ Some (merged_file r s) = union.files q ∙ (λ i. either_file (own i) (other i)) in
    record {
      same = can.same q r s own other;
      rows = omega (arith, few.files, sum-remove hash_cmp-IsTotalOrder hash_cmp-IsAntisymmetric row_count (united_files a.files b.files) q (merged_file r s) there);
    }

-- whether shards may be united shows in the rows of their union, however they are counted
module _ (a b : Shard) (es : List (DataHash × MDBFileInfo)) (xs : List (DataHash × MDBXorbInfo)) (files xorbs : ℕ) (es_are : es ≡ entries a.files) (xs_are : xs ≡ entries a.xorbs)
    (files_are : (m : FileMap) → ((q : DataHash) → get m q ≡ either_file (entry es q) (get b.files q)) → files ≡ total_rows file_records (values m))
    (xorbs_are : (m : XorbMap) → ((q : DataHash) → get m q ≡ option_or (get b.xorbs q) (entry xs q)) → xorbs ≡ total_rows xorb_records (values m)) where
  rows_of_union : (c : Shard) → IsUnion a b c → (files ≡ total_rows file_records (values c.files)) × (xorbs ≡ total_rows xorb_records (values c.xorbs))
  rows_of_union c union = (files_are c.files (λ q. cc (union.files q, get-entries a.files q)), xorbs_are c.xorbs (λ q. cc (union.xorbs q, get-entries a.xorbs q)))

  pub unite_if_few : CanJoinFiles a.files b.files → files ≤ 4294967295 → xorbs ≤ 4294967295 → CanUnite a b
  unite_if_few joins few_files few_xorbs = record {
    same = λ q r s own other. (joins q r s own other).same;
    rows = λ c union. let are = rows_of_union c union in record { files = omega arith; xorbs = omega arith };
  }

  pub few_if_unite : CanUnite a b → (files ≤ 4294967295) × (xorbs ≤ 4294967295)
  few_if_unite can =
      let union = union_exists a b in
      let few = can.rows (united_shard a b) union in
      let are = rows_of_union (united_shard a b) union in
      (omega arith, omega arith)
