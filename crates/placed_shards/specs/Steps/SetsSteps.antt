-- The turns of the loop that unites two lists of records.
use Rattle.std.specs.Prelude.{◌≡◌, ◌⊎◌, ⊤, ℕ, ◌<◌, List, [], ◌∷◌, drop, map, Option, None, Some}
use Rattle.std.specs.declared.cmp.Ordering.TheVariants.{Less}
use Rattle.xet_base.specs.declared.merklehash.DataHash.{DataHash}
use Rattle.xet_base.specs.Hash.{hash_cmp}
use Rattle.xet_records.specs.RecordKind.{RecordKind}
use Rattle.xet_records.specs.Limits.{MAX_ROWS}
use Rattle.xet_core_structures.specs.Records.RecordPairs.{key_of_record, rows_in}
use Rattle.placed_shards.specs.declared.sets.Pass.{Pass}
use Rattle.placed_shards.specs.declared.sets.Pass.TheVariants.{Done, Drops, Leaves}
use Rattle.placed_shards.specs.declared.sets.Turn.{Turn}
use Rattle.placed_shards.specs.declared.sets.Turn.TheVariants.{End, Keep, Nothing}

-- rows are counted exactly, or are more than a section has
abbrev pub CountsRows : ℕ → ℕ → Type 0
CountsRows total counted =
    (counted ≡ total) ⊎ ((MAX_ROWS < total) × (MAX_ROWS < counted))

module _ {H R : Type 0} (K : RecordKind H R) where
  -- a hash is less than that of the first of a list, if there is one
  abbrev pub IsBefore : DataHash → List R → Type 0
  IsBefore k [] = ⊤
  IsBefore k (r ∷ rs) = hash_cmp k (key_of_record K r) ≡ Less

  module _ (makes : Option R → Option R → Option R → Type 0) where
    -- this is made of two records, as reading returns each, under their hash
    abbrev pub MakesRecord : R → R → R → Type 0
    MakesRecord r s t =
        (key_of_record K t ≡ key_of_record K r)
        × makes (Some (K.as_read r)) (Some (K.as_read s)) (Some (K.as_read t))

    -- nothing is made of two records, as reading returns them, that fits a section
    abbrev pub MakesNone : R → R → Type 0
    MakesNone r s =
        (t : Option R) → makes (Some (K.as_read r)) (Some (K.as_read s)) t → MAX_ROWS < rows_in K t

    -- the first of one of two lists is next, or what is made of the first of both, which have one
    -- hash
    pub data KeepsNext (ps qs : List R) (r : R) (xs ys : List R) : Type 0 where
      takes_first : ps ≡ r ∷ xs → qs ≡ ys → IsBefore (key_of_record K r) qs → KeepsNext ps qs r xs ys
      takes_second : qs ≡ r ∷ ys → ps ≡ xs → IsBefore (key_of_record K r) ps → KeepsNext ps qs r xs ys
      takes_both : (g h : R) → ps ≡ g ∷ xs → qs ≡ h ∷ ys → key_of_record K g ≡ key_of_record K h
          → key_of_record K r ≡ key_of_record K g → makes (Some g) (Some h) (Some r)
          → KeepsNext ps qs r xs ys

    -- the first of both lists have one hash, and nothing is made of them that fits a section
    pub record KeepsNone (ps qs : List R) : Type 0 where
      pub one : R
      pub other : R
      pub ones : List R
      pub others : List R
      pub first_is : ps ≡ one ∷ ones
      pub second_is : qs ≡ other ∷ others
      pub same : key_of_record K one ≡ key_of_record K other
      pub never : (t : Option R) → makes (Some one) (Some other) t → MAX_ROWS < rows_in K t

    -- what comes next of the union of two lists, as reading returns their records, of which these
    -- places are reached
    abbrev pub IsTurn : List R → ℕ → List R → ℕ → Turn R → Type 0
    IsTurn xs i ys j End = (drop i (map K.as_read xs) ≡ []) × (drop j (map K.as_read ys) ≡ [])
    IsTurn xs i ys j (Keep r n m) =
        KeepsNext (drop i (map K.as_read xs)) (drop j (map K.as_read ys)) (K.as_read r)
        (drop n (map K.as_read xs)) (drop m (map K.as_read ys))
    IsTurn xs i ys j Nothing = KeepsNone (drop i (map K.as_read xs)) (drop j (map K.as_read ys))

  -- the first of one of two lists is passed, or both firsts, which have one hash; and this is left, the
  -- second's if it was passed alone
  pub data Passes (ps qs : List R) (left : Option R) (xs ys : List R) : Type 0 where
    passes_first : (g : R) → ps ≡ g ∷ xs → qs ≡ ys → IsBefore (key_of_record K g) qs → left ≡ None
        → Passes ps qs left xs ys
    passes_second : (h : R) → qs ≡ h ∷ ys → ps ≡ xs → IsBefore (key_of_record K h) ps
        → left ≡ Some h → Passes ps qs left xs ys
    passes_both : (g h : R) → ps ≡ g ∷ xs → qs ≡ h ∷ ys → key_of_record K g ≡ key_of_record K h
        → left ≡ None → Passes ps qs left xs ys

  -- what comes next of the difference of two lists, as reading returns their records, of which these
  -- places are reached
  abbrev pub IsPass : List R → ℕ → List R → ℕ → Pass R → Type 0
  IsPass xs i ys j Done = (drop i (map K.as_read xs) ≡ []) × (drop j (map K.as_read ys) ≡ [])
  IsPass xs i ys j (Drops n m) =
      Passes (drop i (map K.as_read xs)) (drop j (map K.as_read ys)) None
      (drop n (map K.as_read xs)) (drop m (map K.as_read ys))
  IsPass xs i ys j (Leaves r n m) =
      Passes (drop i (map K.as_read xs)) (drop j (map K.as_read ys)) (Some (K.as_read r))
      (drop n (map K.as_read xs)) (drop m (map K.as_read ys))
