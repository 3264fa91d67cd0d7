-- Looking up a record by its hash: the table of starts, the records that its rows lead to, and what
-- this costs.
use Rattle.std.specs.Prelude.{◌≡◌, ◌≢◌, ◌⊎◌, ◌==◌, ℕ, ◌+◌, ◌*◌, ◌/◌, ◌^◌, ◌<◌, ◌≤◌, List, ◌++◌, min, length, take, map, filter, flat_map, sum, drop, All, AllPairs, Contains, Option, Some, None, IfOk, IfErr, OnOk, MatchResult, string_bytes, []}
use Rattle.std.specs.List.{AllZip}
use Rattle.std.specs.FinMap.{get, values}
use Rattle.xet_base.specs.declared.error.CoreError.{CoreError}
use Rattle.xet_base.specs.declared.error.CoreError.TheVariants.{InternalError, OutOfMemory, TruncatedHashCollision}
use Rattle.xet_base.specs.declared.merklehash.DataHash.{DataHash}
use Rattle.xet_base.specs.Bytes.{u32_bytes}
use Rattle.xet_base.specs.Errors.{CoreResult, IsBareInvalidShard}
use Rattle.xet_base.specs.Source.{Source, DeviceFailure, NoFailure}
use Rattle.xet_base.specs.Search.Table.{Table, table_at, Hit, IsHit, OtherRow, IsSorted, hits, Finds, FitsTable, SearchIsBounded, IsEven, SearchRefused}
use Rattle.xet_records.specs.declared.file_structs.MDBFileInfo.{MDBFileInfo}
use Rattle.xet_records.specs.RecordKind.{RecordKind}
use Rattle.xet_records.specs.FileRecord.{file_records}
use Rattle.xet_records.specs.Reading.{ReadsRecord}
use Rattle.xet_shards.specs.declared.shard_format.ends.footer.MDBShardFileFooter.{MDBShardFileFooter}
use Rattle.xet_shards.specs.declared.shard_format.ends.info.MDBShardInfo.{MDBShardInfo}
use Rattle.xet_shards.specs.Content.Shard.{Shard}
use Rattle.xet_shards.specs.Write.Tables.{hash_in, starts}
use Rattle.xet_shards.specs.Read.SectionReading.{files_of, MayRead, BeginsWithBookend, BeginsRefused, EndsEarly, SectionFailure}

-- the records whose hashes have this first word
abbrev pub with_first_word : {H R : Type 0} → RecordKind H R → ℕ → List R → List R
with_first_word K word records = filter (λ r. (hash_in K r).word0 == word) records

-- the file table at the offset that a footer gives: the first word of a hash, and four bytes of a
-- row number
abbrev pub file_table : MDBShardFileFooter → Source → Table
file_table footer source = table_at source footer.file_lookup_offset footer.file_lookup_num_entry 4

-- the xorb table at the offset that a footer gives: the first word of a hash, and four bytes of a
-- row number
abbrev pub xorb_table : MDBShardFileFooter → Source → Table
xorb_table footer source = table_at source footer.xorb_lookup_offset footer.xorb_lookup_num_entry 4

-- the chunk table at the offset that a footer gives: the first word of a hash, and four bytes each
-- of a row number and of the index of a chunk
abbrev pub chunk_lookup_table : MDBShardFileFooter → Source → Table
chunk_lookup_table footer source =
    table_at source footer.chunk_lookup_offset footer.chunk_lookup_num_entry 8

-- four bytes spell a number, lowest byte first
abbrev pub IsRowNumber : List ℕ → ℕ → Type 0
IsRowNumber bytes n = (n < 2 ^ 32) × (bytes ≡ u32_bytes n)

-- eight bytes spell two numbers of four bytes each, lowest byte first
abbrev pub IsRowAndIndex : List ℕ → ℕ × ℕ → Type 0
IsRowAndIndex bytes p = (p.0 < 2 ^ 32) × (p.1 < 2 ^ 32) × (bytes ≡ u32_bytes p.0 ++ u32_bytes p.1)

-- the offset of a row of a section
abbrev pub row_at : ℕ → ℕ → ℕ
row_at offset row = offset + 48 * row

-- bytes are at an offset
abbrev pub HasAt : List ℕ → ℕ → List ℕ → Type 0
HasAt bytes offset part = (rest : List ℕ) × (drop offset bytes ≡ part ++ rest)

-- a record that is at an offset is returned as `found`
abbrev pub RecordAt : {H R : Type 0} → RecordKind H R → List ℕ → ℕ → R → Type 0
RecordAt K bytes offset found = ReadsRecord K (HasAt bytes offset) found

-- `InternalError` without a message: there is a bookend where a record should be
abbrev pub IsBareInternalError : CoreError → Type 0
IsBareInternalError (InternalError text) = string_bytes text ≡ []
IsBareInternalError _ = ⊥

-- why the record in front of some bytes was not read: there is a bookend, the device failed, out of
-- memory, its header is refused (it announces more rows than fit `u32`, or the version does not
-- have it), or the bytes are too few
abbrev pub RecordRefusal : {H R : Type 0} → RecordKind H R → List ℕ → Source → Source → CoreError
    → Type 0
RecordRefusal K bytes old new e =
    ((new.failures ≡ old.failures) × IsBareInternalError e × BeginsWithBookend K bytes)
    ⊎ SectionFailure (BeginsRefused K 4294967296) (EndsEarly K 4294967296) bytes old new e

-- why the record at a row was not read: its offset passes 64 bits; or it does not, and the record
-- there was not read
abbrev pub InfoRefusal : {H R : Type 0} → RecordKind H R → ℕ → ℕ → Source → Source → CoreError
    → Type 0
InfoRefusal K offset row old new e =
    ((new.failures ≡ old.failures) × IsBareInvalidShard e × (2 ^ 64 ≤ row_at offset row))
    ⊎ ((row_at offset row < 2 ^ 64)
    × RecordRefusal K (drop (row_at offset row) old.bytes) old new e)

-- the record at a row was read
pub record ReadsInfo {H R : Type 0} (K : RecordKind H R) (offset row : ℕ) (old new : Source)
    (found : R) : Type 0 where
  -- the offset of the row fits 64 bits
  pub within : row_at offset row < 2 ^ 64
  -- the record is at the row, and is returned as `found`
  pub is_at : RecordAt K old.bytes (row_at offset row) found
  -- the device did not fail
  pub no_failure : NoFailure old new
  pub seeks : new.seeks ≡ old.seeks + 1
  -- the number of bytes read
  pub taken : ℕ
  pub read : new.read ≡ old.read + taken
  -- they are at most those of a header, or of the record there
  pub may_take : MayRead K (drop (row_at offset row) old.bytes) taken

-- the record at a row was not read; the source may then be at any offset
pub record ReadInfoFails {H R : Type 0} (K : RecordKind H R) (offset row : ℕ) (old new : Source)
    (e : CoreError) : Type 0 where
  pub bytes : new.bytes ≡ old.bytes
  pub seeks : new.seeks ≤ old.seeks + 1
  -- seeks are counted, never taken back
  pub no_fewer : old.seeks ≤ new.seeks
  -- a bound for the number of bytes read
  pub taken : ℕ
  pub read : new.read ≤ old.read + taken
  -- it is at most the bytes of a header, or of the record there
  pub may_take : MayRead K (drop (row_at offset row) old.bytes) taken
  -- why the record was not read
  pub cause : InfoRefusal K offset row old new e

-- a search in a table for a word, with room for so many values: how many rows were found and that
-- they are all where the table is sorted, that the device did not fail, why it was refused, that
-- the bytes of the source stay, and what it costs where the table is sorted, and where it is even
pub record Searches {V : Type 0} (t : Table) (word : ℕ) (Gives : List ℕ → V → Type 0) (room : ℕ)
    (dest_old dest_new : List V) (old new : Source) (result : CoreResult ℕ) : Type 0 where
  -- the values of different rows with the word were put in front
  pub found : IfOk result (Finds t word Gives dest_old dest_new)
  -- they are all such rows, or as many as there is room for, where the table is sorted
  pub count : IsSorted t → IfOk result (λ n. n ≡ min (hits t word) room)
  -- a search that succeeds met no failure of the device
  pub no_failure : OnOk result (NoFailure old new)
  -- a search that succeeds and has room was in a table that fits 64 bits
  pub fits : OnOk result (0 < room → FitsTable t)
  -- why the search was refused
  pub refused : IfErr result (SearchRefused t old new)
  -- the bytes of the source stay
  pub kept : new.bytes ≡ old.bytes
  -- seeks and bytes are bounded where the table is sorted
  pub bounds : IsSorted t → SearchIsBounded t word old new
  -- there are at most three seeks where the table is even
  pub even : IsEven t → new.seeks ≤ old.seeks + 3

-- different rows of a table with the key, all of them where it is sorted
pub record AreHits (t : Table) (key : ℕ) (found : List (Hit ℕ)) : Type 0 where
  pub each : All (IsHit t key IsRowNumber) found
  pub distinct : AllPairs OtherRow found
  pub all : IsSorted t → length found ≡ hits t key

-- eight rows of a table that fits 64 bits have the key
pub record Collides (t : Table) (key : ℕ) : Type 0 where
  pub fits : FitsTable t
  pub found : List (Hit ℕ)
  pub eight : length found ≡ 8
  pub each : All (IsHit t key IsRowNumber) found
  pub distinct : AllPairs OtherRow found

-- an index lookup was refused: eight rows have the key, or the search was
abbrev pub IndexRefused : Table → ℕ → Source → Source → CoreError → Type 0
IndexRefused t key old new e =
    ((new.failures ≡ old.failures) × (e ≡ TruncatedHashCollision key) × Collides t key)
    ⊎ SearchRefused t old new e

-- the table fits 64 bits, fewer than eight rows have the key, and their row numbers are returned
pub record IndexFinds (t : Table) (key : ℕ) (old new : List ℕ) (count : ℕ) : Type 0 where
  pub fits : FitsTable t
  pub found : List (Hit ℕ)
  pub few : count < 8
  pub number : length found ≡ count
  pub are_hits : AreHits t key found
  pub written : new ≡ map (λ hit. hit.value) found ++ drop count old

-- an index lookup: the row numbers behind a key of a table, or why they are not returned; the
-- bytes of the source stay, and the seeks are bounded where the table is sorted, and where it is
-- even
pub record LooksUpIndex (t : Table) (key : ℕ) (dest_old dest_new : List ℕ) (old new : Source)
    (result : CoreResult ℕ) : Type 0 where
  pub found : IfOk result (IndexFinds t key dest_old dest_new)
  pub no_failure : OnOk result (NoFailure old new)
  pub refused : IfErr result (IndexRefused t key old new)
  pub kept : new.bytes ≡ old.bytes
  pub bounds : IsSorted t → SearchIsBounded t key old new
  pub even : IsEven t → new.seeks ≤ old.seeks + 3

-- a call went to a row, by at most so many seeks, and read at most the record there
pub record Visit {H R : Type 0} (K : RecordKind H R) (most offset row : ℕ) (old new : Source)
    : Type 0 where
  pub bytes : new.bytes ≡ old.bytes
  pub seeks : new.seeks ≤ old.seeks + most
  pub no_fewer : old.seeks ≤ new.seeks
  pub taken : ℕ
  pub read : new.read ≤ old.read + taken
  pub may_take : MayRead K (drop (row_at offset row) old.bytes) taken

-- calls went to these rows, by at most so many seeks each, and read at most the records there
pub record Visits {H R : Type 0} (K : RecordKind H R) (most offset : ℕ) (rows : List ℕ)
    (old new : Source) : Type 0 where
  pub bytes : new.bytes ≡ old.bytes
  pub seeks : new.seeks ≤ old.seeks + most * length rows
  pub no_fewer : old.seeks ≤ new.seeks
  pub taken : List ℕ
  pub may_take : AllZip (λ row n. MayRead K (drop (row_at offset row) old.bytes) n) rows taken
  pub read : new.read ≤ old.read + sum taken

-- calls went to the first few of these rows, by at most so many seeks each, and read at most the
-- records there
abbrev pub VisitsSome : {H R : Type 0} → RecordKind H R → ℕ → ℕ → List ℕ → Source → Source → Type 0
VisitsSome K most offset rows old new = (n : ℕ) × Visits K most offset (take n rows) old new

-- a lookup: the table fits 64 bits, the rows with the first word are found, and records at them
-- read
pub record LooksUp {H R : Type 0} (K : RecordKind H R) (t : Table) (offset key : ℕ)
    (old new : Source) (Answer : List ℕ → Type 0) : Type 0 where
  pub fits : FitsTable t
  -- the rows of the table with the first word
  pub found : List (Hit ℕ)
  -- they are fewer than eight
  pub few : length found < 8
  -- they are all such rows where the table is sorted
  pub are_hits : AreHits t key found
  -- the source after the search
  pub searched : Source
  -- the device did not fail in the search
  pub no_failure : NoFailure old searched
  -- seeks and bytes of the search are bounded where the table is sorted
  pub bounded : IsSorted t → SearchIsBounded t key old searched
  -- calls went to the first few of these rows, by one seek each at most, and read at most the
  -- records there
  pub visits : VisitsSome K 1 offset (map (λ hit. hit.value) found) searched new
  -- what the lookup says of the row numbers found
  pub answer : Answer (map (λ hit. hit.value) found)

-- the first record with the hash at one of the rows, or none where each has another
abbrev pub LookupAnswer : {H R : Type 0} → RecordKind H R → List ℕ → ℕ → DataHash → Option R
    → List ℕ → Type 0
LookupAnswer {R = R} K bytes offset hash (Some found) rows =
    (hash_in K found ≡ hash) × (row : ℕ) × Contains rows row
    × RecordAt K bytes (row_at offset row) found
LookupAnswer {R = R} K bytes offset hash None rows =
    All (λ row. (found : R) × RecordAt K bytes (row_at offset row) found × (hash_in K found ≢ hash))
    rows

-- the record at one of the rows was not read
abbrev pub LookupRefused : {H R : Type 0} → RecordKind H R → ℕ → Source → Source → CoreError
    → List ℕ → Type 0
LookupRefused K offset old new e rows =
    (row : ℕ) × Contains rows row × InfoRefusal K offset row old new e

-- what a lookup of a record by its hash costs at most: the seeks that the search made, and one more
-- for each record that shares the first word; the bytes of the search and the bytes of these
-- records
pub record WithinBounds {H R : Type 0} (K : RecordKind H R) (records : List R) (word : ℕ)
    (old new : Source) : Type 0 where
  pub made : ℕ
  pub more : ℕ
  pub few : made ≤ (length records + 1) / 128 + length (with_first_word K word records) / 4 + 8
  pub few_more : more ≤ length (with_first_word K word records)
  pub seeks : new.seeks ≡ old.seeks + made + more
  pub read : new.read ≤ old.read + (257 + length (with_first_word K word records) + made) * 12
      + length (flat_map K.record_bytes (with_first_word K word records))

-- what a search in a sorted table costs at most, by its rows, how many of them have the key, and
-- the bytes of a row
pub record SearchCosts (rows hits size : ℕ) (old new : Source) : Type 0 where
  pub made : ℕ
  pub few : made ≤ (rows + 1) / 128 + hits / 4 + 8
  pub seeks : new.seeks ≡ old.seeks + made
  pub read : new.read ≤ old.read + (257 + hits + made) * size

-- what the search in a table of these records costs
abbrev pub SearchWithinBounds : {H R : Type 0} → RecordKind H R → List R → ℕ → Source → Source
    → Type 0
SearchWithinBounds K records word old new =
    SearchCosts (length records) (length (with_first_word K word records)) 12 old new

-- a lookup of a record by its hash that gives an answer
abbrev pub FindsRecord : {H R : Type 0} → RecordKind H R → Table → ℕ → DataHash → Source → Source
    → Option R → Type 0
FindsRecord K t offset hash old new answer =
    LooksUp K t offset hash.word0 old new (LookupAnswer K old.bytes offset hash answer)

-- a lookup of a record by its hash that gives no answer: the search was refused, or the record at a
-- row that it found was not read
abbrev pub FindRecordFails : {H R : Type 0} → RecordKind H R → Table → ℕ → DataHash → Source → Source
    → CoreError → Type 0
FindRecordFails K t offset hash old new e =
    (IndexRefused t hash.word0 old new e × (IsSorted t → SearchIsBounded t hash.word0 old new))
    ⊎ LooksUp K t offset hash.word0 old new (LookupRefused K offset old new e)

-- a lookup of a record by its hash: the answer or the error, and the bytes of the source stay
pub record LooksUpRecord {H R : Type 0} (K : RecordKind H R) (t : Table) (offset : ℕ)
    (hash : DataHash) (old new : Source) (result : CoreResult (Option R)) : Type 0 where
  pub read : MatchResult result (FindsRecord K t offset hash old new)
      (FindRecordFails K t offset hash old new)
  pub no_failure : OnOk result (NoFailure old new)
  pub kept : new.bytes ≡ old.bytes

-- a file lookup by this header and footer, on any bytes
abbrev pub LooksUpFile : MDBShardInfo → DataHash → Source → Source → CoreResult (Option MDBFileInfo)
    → Type 0
LooksUpFile info hash old new result =
    LooksUpRecord (files_of info) (file_table info.metadata old) info.metadata.file_info_offset hash
    old new result

-- these rows are the starts of the records that share the first word, in some order
abbrev pub AreStarts : {H R : Type 0} → RecordKind H R → List R → ℕ → List ℕ → Type 0
AreStarts K records word rows =
    ((row : ℕ) → Contains rows row → Contains (starts K records) (word, row))
    × ((row : ℕ) → Contains (starts K records) (word, row) → Contains rows row)

-- an index lookup in written bytes that have these records and their table: the starts, if fewer
-- than eight records share the first word
abbrev pub StartsAmong : {H R : Type 0} → RecordKind H R → List R → ℕ → List ℕ → ℕ → Type 0
StartsAmong K records word rows count =
    (length (with_first_word K word records) < 8) × (count ≡ length (with_first_word K word records))
    × AreStarts K records word (take count rows)

-- why an index lookup in such bytes fails: the device failed; or the collision, if eight or more
-- records share the first word
abbrev pub IndexFailsAmong : {H R : Type 0} → RecordKind H R → List R → ℕ → Source → Source
    → CoreError → Type 0
IndexFailsAmong K records word old new e =
    DeviceFailure old new e
    ⊎ ((e ≡ TruncatedHashCollision word) × (8 ≤ length (with_first_word K word records)))

-- why a record lookup in such bytes fails: the device failed; out of memory, if one to seven
-- records share the first word, since only then a record is read; or the collision, if eight or
-- more do
abbrev pub LookupFailsAmong : {H R : Type 0} → RecordKind H R → List R → DataHash → Source → Source
    → CoreError → Type 0
LookupFailsAmong K records hash old new e =
    DeviceFailure old new e
    ⊎ ((e ≡ OutOfMemory) × (1 ≤ length (with_first_word K hash.word0 records))
    × (length (with_first_word K hash.word0 records) < 8))
    ⊎ ((e ≡ TruncatedHashCollision hash.word0) × (8 ≤ length (with_first_word K hash.word0 records)))

-- one of these records with the hash, as reading returns it, or none if none has the hash
abbrev pub IsOneOf : {H R : Type 0} → RecordKind H R → List R → DataHash → Option R → Type 0
IsOneOf {R = R} K records hash (Some found) =
    (r : R) × Contains records r × (hash_in K r ≡ hash) × (found ≡ K.as_read r)
IsOneOf K records hash None = All (λ r. hash_in K r ≢ hash) records

-- a record lookup in such bytes gave an answer: fewer than eight records share the first word
abbrev pub FoundAmong : {H R : Type 0} → RecordKind H R → List R → DataHash → Option R → Type 0
FoundAmong K records hash answer =
    (length (with_first_word K hash.word0 records) < 8) × IsOneOf K records hash answer

-- a file lookup on the bytes of a shard that gave an answer: fewer than eight files share the first
-- word, and it is the map's
abbrev pub FoundInShard : Shard → DataHash → Option MDBFileInfo → Type 0
FoundInShard s hash answer =
    (length (with_first_word file_records hash.word0 (values s.files)) < 8) × (answer ≡ get s.files hash)

-- an index lookup in such bytes: the starts or why there are none, and its cost
pub record FindsStarts {H R : Type 0} (K : RecordKind H R) (records : List R) (word : ℕ)
    (rows : List ℕ) (old new : Source) (result : CoreResult ℕ) : Type 0 where
  pub answer : MatchResult result (StartsAmong K records word rows)
      (IndexFailsAmong K records word old new)
  pub costs : SearchWithinBounds K records word old new

-- a record lookup in such bytes: the answer or why there is none, its cost, and that of a collision
pub record FindsAmong {H R : Type 0} (K : RecordKind H R) (records : List R)
    (Found : Option R → Type 0) (hash : DataHash) (old new : Source)
    (result : CoreResult (Option R)) : Type 0 where
  pub answer : MatchResult result Found (LookupFailsAmong K records hash old new)
  pub costs : WithinBounds K records hash.word0 old new
  pub collision : IfErr result
      (λ e. e ≡ TruncatedHashCollision hash.word0
      → SearchWithinBounds K records hash.word0 old new)

-- a file lookup among files that are written with layout options
abbrev pub FindsFileAmong : List MDBFileInfo → DataHash → Source → Source
    → CoreResult (Option MDBFileInfo) → Type 0
FindsFileAmong files hash = FindsAmong file_records files (FoundAmong file_records files hash) hash

-- a file lookup on the bytes of a shard
abbrev pub FindsInShard : Shard → DataHash → Source → Source → CoreResult (Option MDBFileInfo)
    → Type 0
FindsInShard s hash = FindsAmong file_records (values s.files) (FoundInShard s hash) hash
