-- Steps towards the order of records from part to part, which only contracts inside the crate speak of.
use Rattle.std.specs.Prelude.{◌≡◌, Bool, true, List, [], ◌∷◌, ◌++◌, flat_map, All, Option, None, Some}
use Rattle.std.specs.Ordering.{is_lt}
use Rattle.xet_base.specs.declared.merklehash.DataHash.{DataHash}
use Rattle.xet_base.specs.Hash.{hash_cmp}
use Rattle.xet_records.specs.RecordKind.{RecordKind}
use Rattle.shard_concatenation.specs.declared.part_order.EndHashes.{EndHashes}
use Rattle.shard_concatenation.specs.declared.section_parts.SectionPart.{SectionPart}
use Rattle.xet_shards.specs.Read.TableReading.{FitsStart}
use Rattle.xet_shards.specs.Write.Tables.{hash_in, starts, table_bytes}

-- a section holds the rows of these stored records, and their table
pub record PartHoldsRecords {H R : Type 0} (K : RecordKind H R) (section : SectionPart) (records : List R) : Type 0 where
  pub rows : section.rows.now ≡ flat_map K.record_bytes records
  pub table : section.table.now ≡ table_bytes K records
  pub fits : All FitsStart (starts K records)
  pub stored : All K.IsStored records

-- this is the hash of the last record of a list, or none if the list is empty
abbrev pub IsLastHash : {H R : Type 0} → RecordKind H R → List R → Option DataHash → Type 0
IsLastHash K records None = records ≡ []
IsLastHash {H} {R} K records (Some last) =
    (front : List R) × (r : R) × (records ≡ front ++ r ∷ []) × (hash_in K r ≡ last)

-- these are the hashes of the first and of the last record of a list
pub record HasEnds {H R : Type 0} (K : RecordKind H R) (records : List R) (ends : EndHashes) : Type 0 where
  pub first_record : R
  pub rest : List R
  pub records_are : records ≡ first_record ∷ rest
  pub first_is : hash_in K first_record ≡ ends.first
  pub last_is : IsLastHash K records (Some ends.last)

-- whether a hash is above the last hash, if there is one
abbrev pub is_after : Option DataHash → DataHash → Bool
is_after None first = true
is_after (Some last) first = is_lt (hash_cmp last first)
