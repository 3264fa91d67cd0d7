-- Whether shards agree, and where not, and whether they have records that no shard may have.
use Rattle.std.specs.Prelude.{◌≡◌, ◌⊎◌, ℕ, List, ◌∷◌, ◌++◌, length, map, All, Contains, Some, slice_get}
use Rattle.std.specs.List.{AllZip}
use Rattle.std.specs.List.Sorted.{IsStrictlySortedBy}
use Rattle.std.specs.declared.cmp.Ordering.{Ordering}
use Rattle.std.specs.declared.cmp.Ordering.TheVariants.{Less, Greater}
use Rattle.xet_base.specs.declared.error.CoreError.{CoreError}
use Rattle.xet_base.specs.declared.error.CoreError.TheVariants.{OutOfMemory}
use Rattle.xet_base.specs.Hash.{hash_cmp}
use Rattle.xet_records.specs.declared.file_structs.MDBFileInfo.{MDBFileInfo}
use Rattle.xet_records.specs.declared.xorb_structs.MDBXorbInfo.{MDBXorbInfo}
use Rattle.xet_records.specs.FileRecord.{file_records, IsWellFormed}
use Rattle.xet_records.specs.Merging.{Agree}
use Rattle.xet_records.specs.XorbRecord.{xorb_records, IsXorb}
use Rattle.xet_core_structures.specs.Records.RecordPairs.{with_hash}
use Rattle.placed_shards.specs.declared.findings.Disagreement.{Disagreement}
use Rattle.placed_shards.specs.declared.findings.MalformedRecord.{MalformedRecord}
use Rattle.placed_shards.specs.declared.findings.RecordHash.{RecordHash}
use Rattle.placed_shards.specs.declared.findings.RecordHash.TheVariants.{File, Xorb}
use Rattle.placed_shards.specs.declared.selection.Selection.{Selection}
use Rattle.placed_shards.specs.Agreement.{AgreeIfBoth, AreEqual}
use Rattle.placed_shards.specs.Content.{Content}
use Rattle.placed_shards.specs.Selections.{OpensSelected, SelectedRefusal}

-- the records that two shards have under a hash agree, if both have one
abbrev pub AgreeUnder : RecordHash → Content → Content → Type 0
AgreeUnder (File q) c d =
    AgreeIfBoth Agree (with_hash file_records c.files q) (with_hash file_records d.files q)
AgreeUnder (Xorb q) c d =
    AgreeIfBoth AreEqual (with_hash xorb_records c.xorbs q) (with_hash xorb_records d.xorbs q)

-- two shards agree: their records under each hash do
abbrev pub AgreeInAll : Content → Content → Type 0
AgreeInAll c d = (h : RecordHash) → AgreeUnder h c d

-- byte strings have these records that are selected
abbrev pub AreOpened : Selection → List (List ℕ) → List Content → Type 0
AreOpened selection = AllZip (OpensSelected selection)

-- all records are such as a shard may have
pub record HasFormedRecords (c : Content) : Type 0 where
  pub files : All IsWellFormed c.files
  pub xorbs : All IsXorb c.xorbs

-- under a hash there is a record that no shard may have
abbrev pub HasMalformed : Content → RecordHash → Type 0
HasMalformed c (File q) =
    (r : MDBFileInfo) × (with_hash file_records c.files q ≡ Some r) × (¬ IsWellFormed r)
HasMalformed c (Xorb q) =
    (r : MDBXorbInfo) × (with_hash xorb_records c.xorbs q ≡ Some r) × (¬ IsXorb r)

-- files before xorbs, each in the order of their hashes
abbrev pub record_hash_cmp : RecordHash → RecordHash → Ordering
record_hash_cmp (File p) (File q) = hash_cmp p q
record_hash_cmp (File p) (Xorb q) = Less
record_hash_cmp (Xorb p) (File q) = Greater
record_hash_cmp (Xorb p) (Xorb q) = hash_cmp p q

-- two of some shards, by their numbers, have records under a hash that do not agree
pub record DoDisagree (cs : List Content) (d : Disagreement) : Type 0 where
  pub one : Content
  pub other : Content
  pub is_first : slice_get cs d.first ≡ Some one
  pub is_second : slice_get cs d.second ≡ Some other
  pub differ : ¬ AgreeUnder d.record_hash one other

-- where two of some shards disagree, in ascending order and each hash once; the records of any two
-- of them under any other hash agree
pub record HasAllDisagreements (cs : List Content) (found : List Disagreement) : Type 0 where
  pub each : (d : Disagreement) → Contains found d → DoDisagree cs d
  pub in_order : IsStrictlySortedBy record_hash_cmp (map (λ d. d.record_hash) found)
  pub others : (h : RecordHash) → ¬ Contains (map (λ d. d.record_hash) found) h
      → (c e : Content) → Contains cs c → Contains cs e → AgreeUnder h c e

-- no shard is read from one of some byte strings, and a property holds of the shard of each before
-- it
pub record IsFirstUnread (selection : Selection) (Is : Content → Type 0) (inputs : List (List ℕ))
    (e : CoreError) : Type 0 where
  pub before : List (List ℕ)
  pub bytes : List ℕ
  pub after : List (List ℕ)
  pub inputs_are : inputs ≡ before ++ bytes ∷ after
  pub shards : List Content
  pub opened : AreOpened selection before shards
  pub hold : All Is shards
  pub refused : SelectedRefusal selection bytes e

-- why byte strings are not all opened: an allocation failed, or no shard is read from one of them,
-- and a property holds of the shard of each before it
abbrev pub FirstRefusal : Selection → (Content → Type 0) → List (List ℕ) → CoreError → Type 0
FirstRefusal selection Is inputs e = (e ≡ OutOfMemory) ⊎ IsFirstUnread selection Is inputs e

-- the first of some byte strings whose shard has a record that no shard may have, by its number,
-- and the hash of such a record
pub record IsFirstMalformed (selection : Selection) (inputs : List (List ℕ)) (m : MalformedRecord)
    : Type 0 where
  pub before : List (List ℕ)
  pub bytes : List ℕ
  pub after : List (List ℕ)
  pub inputs_are : inputs ≡ before ++ bytes ∷ after
  pub number : length before ≡ m.input
  pub shards : List Content
  pub opened : AreOpened selection before shards
  pub formed : All HasFormedRecords shards
  pub shard : Content
  pub opens : OpensSelected selection bytes shard
  pub malformed : HasMalformed shard m.record_hash
