-- Entries that a loop adds to a map: those that the map lacks, except for the hashes of another map.
use Rattle.std.proofs.Common.{◌≡◌, ◌⊎◌, true, false, List, [], ◌∷◌, ◌++◌, Option, None, Some, refl, sym, ap, ◌∙◌, subst, cond, is_some, map, arith}
use Rattle.std.specs.Prelude.{All}
use Rattle.std.proofs.lemmas.List.{map-append}
use Rattle.std.specs.Option.{option_or}
use Rattle.std.specs.Ordering.{eq_by_cmp}
use Rattle.std.specs.FinMap.{FinMap, get, find, insert, empty, entries, get-insert, get-empty, get-entries, same_map}
use Rattle.xet_base.specs.declared.merklehash.DataHash.{DataHash}
use Rattle.xet_base.specs.Hash.{hash_cmp}
use Rattle.xet_base.proofs.HashOrder.{hash_cmp-IsTotalOrder, hash_cmp-IsAntisymmetric, same_key}
use Rattle.xet_shards.specs.Content.Joining.{unless_in, entry}
use Rattle.xet_shards.proofs.ShardInMemory.Walks.{All-middle}

module _ {X : Type 0} where
  -- the loop has passed the entries `es`: from `f` to `m`
  abbrev pub IsFilled : (f : DataHash → Option X) (except m : FinMap hash_cmp X) (es : List (DataHash × X)) → Type 0
  IsFilled f except m es = (q : DataHash) → get m q ≡ option_or (f q) (unless_in except (entry es) q)

  pub or_none : (o : Option X) → option_or o None ≡ o
  or_none o = grind arith

  pub entry-append : (es : List (DataHash × X)) (k : DataHash) (v : X) (q : DataHash)
      → entry (es ++ (k, v) ∷ []) q ≡ option_or (entry es q) (cond (eq_by_cmp hash_cmp q k) (Some v) None)
  entry-append [] k v q = refl
  entry-append (e ∷ es) k v q = grind (arith, entry-append es k v q)

  -- an iteration that adds nothing, and one that adds an entry
  module _ (f : DataHash → Option X) (except m : FinMap hash_cmp X) (es fs : List (DataHash × X)) (k : DataHash) (v : X) (push : fs ≡ es ++ (k, v) ∷ [])
      (before : IsFilled f except m es) where
    pub filled-skip : (is_some (get m k) ≡ true) ⊎ (is_some (get except k) ≡ true) → IsFilled f except m fs
    filled-skip reason = λ q. grind (arith, before q, entry-append es k v q, same_key q k)

    pub filled-add : (n : FinMap hash_cmp X) → n ≡ insert m k v → is_some (get m k) ≡ false → is_some (get except k) ≡ false → IsFilled f except n fs
    filled-add n put free in_reach = λ q. grind (arith, before q, entry-append es k v q, same_key q k, get-insert hash_cmp-IsTotalOrder m k v q)

  -- a loop over all entries of a map
  module _ (except m n from : FinMap hash_cmp X) (es : List (DataHash × X)) (same : es ≡ entries from) (filled : IsFilled (get m) except n es) where
    entry_is : (q : DataHash) → entry es q ≡ get from q
    entry_is q = ap (find hash_cmp q) same ∙ sym (get-entries from q)

    -- without exceptions, and from the empty map
    pub filled-all : except ≡ empty → (q : DataHash) → get n q ≡ option_or (get m q) (get from q)
    filled-all none q = grind (arith, filled q, get-empty {X = X} hash_cmp q, entry_is q)

    pub filled-new : m ≡ empty → (q : DataHash) → get n q ≡ unless_in except (get from) q
    filled-new none q = grind (arith, filled q, get-empty {X = X} hash_cmp q, entry_is q)

  -- the values of hashes that a map does not have
  pub but_found : (except : FinMap hash_cmp X) (f : DataHash → Option X) (q : DataHash) (v : X) → unless_in except f q ≡ Some v → f q ≡ Some v
  but_found except f q v found = grind arith

  -- one entry and then the rest of a map
  pub inserts_then_fills : (one n from : FinMap hash_cmp X) (k : DataHash) (v : X) → one ≡ insert empty k v → ((q : DataHash) → get n q ≡ option_or (get one q) (get from q)) → n ≡ insert from k v
  inserts_then_fills one n from k v is joined = same_map hash_cmp-IsTotalOrder hash_cmp-IsAntisymmetric n (insert from k v) (λ q.
      grind (arith, joined q, get-insert {X = X} hash_cmp-IsTotalOrder empty k v q, get-empty {X = X} hash_cmp q, get-insert hash_cmp-IsTotalOrder from k v q))

-- entries with `f` applied to their values
module _ {X Z : Type 0} (f : Z → X) where
  abbrev pub shown_entry : DataHash × Z → DataHash × X
  shown_entry e = (e.0, f e.1)

  pub shown_push : {Y : Type 0} (show : Y → DataHash × Z) (before : List Y) (y : Y)
      → map shown_entry (map show (before ++ y ∷ [])) ≡ map shown_entry (map show before) ++ shown_entry (show y) ∷ []
  shown_push show before y = ap (map shown_entry) (map-append show before (y ∷ [])) ∙ map-append shown_entry (map show before) (show y ∷ [])

  pub shown_at : (P : DataHash × X → Type 0) (front rest all : List (DataHash × Z)) (e : DataHash × Z) → front ++ e ∷ rest ≡ all → All P (map shown_entry all) → P (shown_entry e)
  shown_at P front rest all e whole holds = All-middle P (map shown_entry front) (map shown_entry rest) (shown_entry e) (subst (All P) (ap (map shown_entry) (sym whole) ∙ map-append shown_entry front (e ∷ rest)) holds)

pub none_of : {X : Type 0} (o : Option X) → is_some o ≡ false → o ≡ None
none_of o is = grind arith
