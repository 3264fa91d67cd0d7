-- Files that are in two stores: whether they can be joined, and the loop that joins them.
use Rattle.std.proofs.Common.{◌≡◌, ◌+◌, length, false, Option, T, List, [], ◌∷◌, ◌++◌, None, Some, refl, sym, ap, ◌∙◌, subst, cond, arith}
use Rattle.std.specs.Prelude.{All, IfSome}
use Rattle.std.specs.Ordering.{eq_by_cmp, is_lt, is_eq, ordering_reverse}
use Rattle.std.specs.FinMap.{FinMap, entries, get-entries, get, insert, from_sorted, is_sorted, get-insert, get-from_sorted}
use Rattle.std.specs.FinMap.Entries.{below_all}
use Rattle.std.proofs.lemmas.List.{length-append, get_or-append-add}
use Rattle.std.proofs.lemmas.List.Elements.{All-push}
use Rattle.xet_base.specs.declared.merklehash.DataHash.{DataHash}
use Rattle.xet_base.specs.Hash.{hash_cmp}
use Rattle.xet_base.proofs.HashOrder.{hash_cmp-IsTotalOrder, hash_cmp-IsAntisymmetric, same_key}
use Rattle.xet_records.specs.declared.file_structs.MDBFileInfo.{MDBFileInfo}
use Rattle.xet_records.specs.FileRecord.{IsWellFormed}
use Rattle.xet_records.specs.Merging.{merged_file}
use Rattle.xet_records.proofs.Merging.{merged_well_formed}
use Rattle.xet_shards.specs.Content.Shard.{FileMap, file_hash_of}
use Rattle.xet_shards.specs.Content.Joining.{entry, either_file}
use Rattle.xet_shards.specs.Steps.JoiningSteps.{CanJoinFile, CanJoinFiles, IsJoinedFile}
use Rattle.xet_shards.proofs.Content.Found.{found_entry, entry_found}
use Rattle.xet_shards.proofs.Content.Maps.{is_lt-Less, both_left, both_right}
use Rattle.xet_shards.proofs.Content.Joining.{entry-append}

less-not_equal : (k q : DataHash) → T (is_lt (hash_cmp k q)) → eq_by_cmp hash_cmp q k ≡ false
less-not_equal k q below = ap is_eq (hash_cmp-IsTotalOrder.antisymm q k ∙ ap ordering_reverse (is_lt-Less (hash_cmp k q) below))

-- entries with ascending keys: a later one is found, and not among those before its index
module _ {X : Type 0} where
  below_front : (k : DataHash) (front rest : List (DataHash × X)) (e : DataHash × X) → T (below_all hash_cmp k (front ++ e ∷ rest)) → T (is_lt (hash_cmp k e.0))
  below_front k [] rest e below = both_left _ _ below
  below_front k (d ∷ front) rest e below = below_front k front rest e (both_right _ _ below)

  pub entry-before : (front rest : List (DataHash × X)) (e : DataHash × X) → T (is_sorted hash_cmp (front ++ e ∷ rest)) → entry front e.0 ≡ None
  entry-before [] rest e sorted = refl
  entry-before (d ∷ front) rest e sorted =
      ap (λ b. cond b (Some d.1) (entry front e.0)) (less-not_equal d.0 e.0 (below_front d.0 front rest e (both_left _ _ sorted)))
      ∙ entry-before front rest e (both_right _ _ sorted)

  entry-here : (front rest : List (DataHash × X)) (e : DataHash × X) → T (is_sorted hash_cmp (front ++ e ∷ rest)) → entry (front ++ e ∷ rest) e.0 ≡ Some e.1
  entry-here front rest e sorted =
      entry_found hash_cmp hash_cmp-IsTotalOrder (front ++ e ∷ rest) (length front + 0) e.0 e.1 e sorted (omega (arith, length-append front (e ∷ rest)))
      (get_or-append-add front (e ∷ rest) 0 e)

  -- what holds of each entry holds of what is found
  pub entry-holds : (P : DataHash × X → Type 0) (es : List (DataHash × X)) (q : DataHash) (x : X) → All P es → entry es q ≡ Some x → P (q, x)
  entry-holds P es q x all found = let at = found_entry hash_cmp hash_cmp-IsAntisymmetric es q x (q, x) found in subst P at.2 (all at.0 (q, x) at.1)

  pub holds_in_map : (P : DataHash × X → Type 0) (m : FinMap hash_cmp X) (q : DataHash) (x : X) → All P (entries m) → get m q ≡ Some x → P (q, x)
  holds_in_map P m q x all at = entry-holds P (entries m) q x all (sym (get-entries m q) ∙ at)

-- each of these entries can be joined with the file in a store, if any
abbrev pub CanJoinEntries : List (DataHash × MDBFileInfo) → FileMap → Type 0
CanJoinEntries es b = All (λ e. (s : MDBFileInfo) → get b e.0 ≡ Some s → CanJoinFile e.1 s) es

pub can_join_entries : (es : List (DataHash × MDBFileInfo)) (b : FileMap) → T (is_sorted hash_cmp es) → CanJoinEntries es b → CanJoinFiles (from_sorted es) b
can_join_entries es b sorted all = λ q r s own other. entry-holds (λ e. (t : MDBFileInfo) → get b e.0 ≡ Some t → CanJoinFile e.1 t) es q r all (sym (get-from_sorted hash_cmp es q sorted) ∙ own) s other

pub entry_of : {X : Type 0} (front rest all : List (DataHash × X)) (e : DataHash × X) → front ++ e ∷ rest ≡ all → T (is_sorted hash_cmp all) → get (from_sorted {R = hash_cmp} all) e.0 ≡ Some e.1
entry_of front rest all e whole sorted =
    get-from_sorted hash_cmp all e.0 sorted ∙ ap (λ es. entry es e.0) (sym whole) ∙ entry-here front rest e (subst (λ es. T (is_sorted hash_cmp es)) (sym whole) sorted)

pub can_join_more : (es fs : List (DataHash × MDBFileInfo)) (e : DataHash × MDBFileInfo) (b : FileMap) → fs ≡ es ++ e ∷ [] → CanJoinEntries es b
    → ((s : MDBFileInfo) → get b e.0 ≡ Some s → CanJoinFile e.1 s) → CanJoinEntries fs b
can_join_more es fs e b push before new = subst (λ gs. CanJoinEntries gs b) (sym push) (All-push (λ d. (s : MDBFileInfo) → get b d.0 ≡ Some s → CanJoinFile d.1 s) es e before new)

-- the record that is put where a store has the file
pub joined_file : (o : Option MDBFileInfo) (own file joined : MDBFileInfo) → Some own ≡ o → joined ≡ merged_file own file → IsWellFormed own → IsWellFormed file → CanJoinFile own file → file_hash_of own ≡ file_hash_of file → IsJoinedFile o file joined
joined_file o own file joined there is own_formed formed can hash =
    record {
      file = ap Some is ∙ ap (λ p. either_file p (Some file)) there;
      hash = ap file_hash_of is ∙ hash;
      well_formed = subst IsWellFormed (sym is) (merged_well_formed own file own_formed formed can.same can.rows);
    }

pub if_some : {X : Type 0} (P : X → Type 0) (o : Option X) → ((x : X) → o ≡ Some x → P x) → IfSome o P
if_some P None holds = tt
if_some P (Some x) holds = holds x refl

pub of_some : {X : Type 0} (P : X → Type 0) (o : Option X) (x : X) → Some x ≡ o → IfSome o P → P x
of_some P o x is holds = subst (λ p. IfSome p P) (sym is) holds

-- the files `m` are those of `a`, joined with the files of these entries
abbrev pub IsJoined : FileMap → FileMap → List (DataHash × MDBFileInfo) → Type 0
IsJoined a m es = (q : DataHash) → get m q ≡ either_file (get a q) (entry es q)

pub either_none : (o : Option MDBFileInfo) → either_file o None ≡ o
either_none None = refl
either_none (Some a) = refl

module _ (front rest : List (DataHash × MDBFileInfo)) (k : DataHash) (v : MDBFileInfo) (a m : FileMap) (sorted : T (is_sorted hash_cmp (front ++ (k, v) ∷ rest))) (before : IsJoined a m front) where
  pub joined_before : get m k ≡ get a k
  joined_before = before k ∙ ap (either_file (get a k)) (entry-before front rest (k, v) sorted) ∙ either_none (get a k)

  pub joined_put : (j : MDBFileInfo) → Some j ≡ either_file (get m k) (Some v) → IsJoined a (insert m k j) (front ++ (k, v) ∷ [])
  joined_put j is = λ q.
      grind (arith, get-insert hash_cmp-IsTotalOrder m k j q, before q, entry-append front k v q, entry-before front rest (k, v) sorted, same_key q k, is ∙ ap (λ o. either_file o (Some v)) joined_before)

  pub joined_kept : get m k ≡ either_file (get m k) (Some v) → IsJoined a m (front ++ (k, v) ∷ [])
  joined_kept is = λ q.
      grind (arith, before q, entry-append front k v q, entry-before front rest (k, v) sorted, same_key q k, is ∙ ap (λ o. either_file o (Some v)) joined_before)
