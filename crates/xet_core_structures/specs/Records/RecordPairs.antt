-- Lists of records whose hashes strictly ascend, combined hash by hash.
use Rattle.std.specs.Prelude.{◌≡◌, ◌⊎◌, ℕ, ◌+◌, ◌≤◌, List, map, All, Option, None, Some}
use Rattle.std.specs.List.{AllByRecursion}
use Rattle.std.specs.declared.cmp.Ordering.TheVariants.{Less}
use Rattle.xet_base.specs.Hash.{hash_cmp}
use Rattle.xet_base.specs.declared.merklehash.DataHash.{DataHash}
use Rattle.xet_records.specs.RecordKind.{RecordKind}
use Rattle.xet_shards.specs.Content.Joining.{entry}
use Rattle.xet_shards.specs.Write.WithOptions.{Ascends}

module _ {H R : Type 0} (K : RecordKind H R) where
  -- the hash of a record
  abbrev pub key_of_record : R → DataHash
  key_of_record r = K.hash_of (K.header_of r)

  -- the records of a list, each paired with its hash
  abbrev pub by_hash : List R → List (DataHash × R)
  by_hash rs = map (λ r. (key_of_record r, r)) rs

  -- the record of a list that has this hash
  abbrev pub with_hash : List R → DataHash → Option R
  with_hash rs q = entry (by_hash rs) q

  -- a list has under each hash what is made of the records that two lists have there
  pub record Combines (IsEither : Option R → Option R → Option R → Type 0) (xs ys zs : List R)
      : Type 0 where
    pub ascends : Ascends K zs
    pub each : (q : DataHash) → IsEither (with_hash xs q) (with_hash ys q) (with_hash zs q)
    pub stored : All K.IsStored zs

  -- the records of a list have smaller hashes
  abbrev pub ComeBefore : DataHash → List R → Type 0
  ComeBefore k rs = AllByRecursion (λ r. hash_cmp (key_of_record r) k ≡ Less) rs

  -- the records of two lists have smaller hashes, and so have those that were made of them
  pub record ArePassed (firsts seconds made : List R) (k : DataHash) : Type 0 where
    pub first : ComeBefore k firsts
    pub second : ComeBefore k seconds
    pub combined : ComeBefore k made

  -- the rows of a record, if there is one
  abbrev pub rows_in : Option R → ℕ
  rows_in None = 0
  rows_in (Some r) = K.row_count r

  -- a record that may be stored, with the hash of one of two others, and no more rows than both
  pub record IsMadeOf (a b : Option R) (r : R) : Type 0 where
    pub stored : K.IsStored r
    pub rows : K.row_count r ≤ rows_in a + rows_in b
    pub hash : (x : R) → ((a ≡ Some x) ⊎ (b ≡ Some x)) → key_of_record r ≡ key_of_record x

  -- no record of a list has a smaller hash than this one
  abbrev pub ComeFrom : DataHash → List R → Type 0
  ComeFrom k rs =
      AllByRecursion (λ r. (hash_cmp k (key_of_record r) ≡ Less) ⊎ (key_of_record r ≡ k)) rs

  -- the records of three lists come before a hash, and those of three others do not
  pub record AreApart (xs ys zs us vs ws : List R) (k : DataHash) : Type 0 where
    pub below : ArePassed xs ys zs k
    pub first : ComeFrom k us
    pub second : ComeFrom k vs
    pub combined : ComeFrom k ws
