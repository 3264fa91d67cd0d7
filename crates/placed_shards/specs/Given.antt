-- The shard that is made of lists of records.
use Rattle.std.specs.Prelude.{◌≡◌, ◌⊎◌, ⊤, ◌≤◌, List, [], ◌∷◌, None, All, MatchResult}
use Rattle.std.specs.FinMap.{FinMap, empty, entries, insert, values}
use Rattle.xet_base.specs.declared.error.CoreError.TheVariants.{InvalidArguments, OutOfMemory}
use Rattle.xet_base.specs.Errors.{CoreResult}
use Rattle.xet_base.specs.Hash.{hash_cmp}
use Rattle.xet_records.specs.declared.file_structs.MDBFileInfo.{MDBFileInfo}
use Rattle.xet_records.specs.declared.xorb_structs.MDBXorbInfo.{MDBXorbInfo}
use Rattle.xet_records.specs.FileRecord.{file_records, IsWellFormed}
use Rattle.xet_records.specs.Limits.{MAX_ROWS}
use Rattle.xet_records.specs.RecordKind.{RecordKind}
use Rattle.xet_records.specs.XorbRecord.{xorb_records, IsXorb}
use Rattle.xet_shards.specs.Content.Shard.{Shard}
use Rattle.xet_shards.specs.Write.Layout.{plain_options}
use Rattle.xet_shards.specs.Write.Section.{total_rows}
use Rattle.xet_shards.specs.Write.Tables.{hash_in}
use Rattle.placed_shards.specs.Content.{Content}

module _ {H R : Type 0} (K : RecordKind H R) where
  -- a map with a record inserted or replaced under its hash
  abbrev pub with_record : FinMap hash_cmp R → R → FinMap hash_cmp R
  with_record m r = insert m (hash_in K r) r

  -- a map into which records are inserted one after another; of two with one hash the later counts
  abbrev pub with_records : FinMap hash_cmp R → List R → FinMap hash_cmp R
  with_records m [] = m
  with_records m (r ∷ rs) = with_records (with_record m r) rs

  -- each key is its record's hash, each record is one that a shard may have, and the rows fit `u32`
  pub record HoldsRecords (IsFormed : R → Type 0) (m : FinMap hash_cmp R) : Type 0 where
    pub keyed : All (λ e. e.0 ≡ hash_in K e.1) (entries m)
    pub formed : All (λ e. IsFormed e.1) (entries m)
    pub rows : total_rows K (values m) ≤ MAX_ROWS

  -- records that can be inserted one after another: each is one that a shard may have, and the rows
  -- fit `u32` after each
  abbrev pub CanInsertAll : (R → Type 0) → FinMap hash_cmp R → List R → Type 0
  CanInsertAll IsFormed m [] = ⊤
  CanInsertAll IsFormed m (r ∷ rs) =
      IsFormed r × (total_rows K (values (with_record m r)) ≤ MAX_ROWS)
      × CanInsertAll IsFormed (with_record m r) rs

-- the shard that has these records, of two with one hash the later
abbrev pub shard_of : List MDBFileInfo → List MDBXorbInfo → Shard
shard_of files xorbs =
    record { files = with_records file_records empty files; xorbs = with_records xorb_records empty xorbs }

-- what a shard is written as, with all tables, without a key, with creation 0 and without expiry
abbrev pub plain_content : Shard → Content
plain_content s =
    record { files = values s.files; xorbs = values s.xorbs; options = plain_options None }

-- files and xorbs that can be inserted one after another into the empty shard
abbrev pub CanAddRecords : List MDBFileInfo → List MDBXorbInfo → Type 0
CanAddRecords files xorbs =
    CanInsertAll file_records IsWellFormed empty files × CanInsertAll xorb_records IsXorb empty xorbs

-- the result of a call that inserts records one after another: a value only if they can be
-- inserted, `InvalidArguments` only if not, or `OutOfMemory`, if an allocation fails before that is
-- known
abbrev pub AdmitsAll : {T : Type 0} → Type 0 → CoreResult T → Type 0
AdmitsAll Can result =
    MatchResult result (λ _. Can) (λ e. ((e ≡ InvalidArguments) × (¬ Can)) ⊎ (e ≡ OutOfMemory))
