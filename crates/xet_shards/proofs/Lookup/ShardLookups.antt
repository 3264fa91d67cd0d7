-- File lookups on the bytes of a shard answer as its map does.
use Rattle.std.proofs.Common.{◌≡◌, ◌∙◌, Ok, Err, ℕ, List, map, get_or, Option, None, Some, sym, ap, subst}
use Rattle.std.specs.Prelude.{◌≢◌, IfOk, IfSome, MatchResult}
use Rattle.std.specs.FinMap.{entries, values, get}
use Rattle.std.specs.declared.result.Result.{Result}
use Rattle.std.proofs.lemmas.List.{get_or_default}
use Rattle.std.proofs.lemmas.List.Elements.{Contains-get_or}
use Rattle.xet_base.specs.declared.error.CoreError.{CoreError}
use Rattle.xet_base.specs.declared.merklehash.DataHash.{DataHash}
use Rattle.xet_base.specs.Source.{Source}
use Rattle.xet_base.specs.Search.Table.{Table, table_at}
use Rattle.xet_records.specs.declared.file_structs.MDBFileInfo.{MDBFileInfo}
use Rattle.xet_records.specs.RecordKind.{RecordKind, in_version}
use Rattle.xet_records.specs.FileRecord.{file_records, file_records_in, FitsItsHeader}
use Rattle.xet_records.specs.declared.record_reader.FormatVersion.{FormatVersion}
use Rattle.xet_shards.proofs.Write.Sections.{files_laws}
use Rattle.xet_records.proofs.RecordKinds.{KindLaws, file_laws, stored_ever}
use Rattle.xet_shards.specs.Content.Shard.{Shard, IsShard}
use Rattle.xet_shards.specs.Lookup.Lookup.{LooksUpRecord, LookupAnswer, IsOneOf, FoundAmong, FoundInShard, LookupFailsAmong, WithinBounds}
use Rattle.xet_shards.specs.Write.Tables.{hash_in}
use Rattle.xet_shards.proofs.ShardInMemory.Files.{well_formed_values}
use Rattle.xet_shards.proofs.Write.WithOptions.{no_file}
use Rattle.xet_shards.proofs.Lookup.MapAnswers.{map_answers}
use Rattle.xet_shards.proofs.Read.Readback.{one_as_read}
use Rattle.xet_shards.proofs.Lookup.TableLookups.{IsLookedUp, IsAnswer, lookup_answers, not_answered}

-- the answer among records is one of them with the hash, or none has it
one_of : {H R : Type 0} (K : RecordKind H R) (laws : KindLaws K) (d : R) (records : List R) (hash : DataHash) (answer : Option R)
    → IsAnswer K d records hash answer → IsOneOf K records hash answer
one_of K laws d records hash (Some found) (i, within, returned, same) =
    let r = get_or records i d in
    let hash_is : hash_in K r ≡ hash = sym (ap (hash_in K) returned ∙ ap K.hash_of (laws.same_header r)) ∙ same in
    (r, Contains-get_or records i d within, hash_is, returned)
one_of K laws d records hash None others =
    λ i e within. subst (λ r. hash_in K r ≢ hash) (get_or_default records i d e within) (others i within)

-- a lookup of a record among those of any kind that are looked up
module _ {H R : Type 0} (K : RecordKind H R) (laws : KindLaws K) (d : R) (records : List R) (offset start count : ℕ) (old : Source)
    (is : IsLookedUp K d records offset start count old) where
  pub lookup_with_options : (new : Source) (hash : DataHash) (r : Result (Option R) CoreError) → LooksUpRecord K (table_at old start count 4) offset hash old new r
      → MatchResult r (FoundAmong K records hash) (LookupFailsAmong K records hash old new)
  lookup_with_options new hash (Ok answer) looks =
      let found = lookup_answers K laws d records offset start count old is hash new answer looks.read in
      (found.0, one_of K laws d records hash answer found.1)
  lookup_with_options new hash (Err e) looks = not_answered K laws d records offset start count old is hash new e looks.read

-- a file that a lookup returns fits its header
found_fits : (version : FormatVersion) (bytes : List ℕ) (offset : ℕ) (hash : DataHash) (answer : Option MDBFileInfo) (rows : List ℕ)
    → LookupAnswer (file_records_in version) bytes offset hash answer rows → IfSome answer FitsItsHeader
found_fits version bytes offset hash None rows is = tt
found_fits version bytes offset hash (Some found) rows (same, row, among, at) =
    subst FitsItsHeader at.returned (file_laws.as_read_stored at.stored (stored_ever file_records version at.stored at.is_stored)).whole

pub lookup_fits : (version : FormatVersion) (t : Table) (offset : ℕ) (hash : DataHash) (old new : Source) (r : Result (Option MDBFileInfo) CoreError)
    → LooksUpRecord (file_records_in version) t offset hash old new r → IfOk r (λ found. IfSome found FitsItsHeader)
lookup_fits version t offset hash old new (Err e) looks = tt
lookup_fits version t offset hash old new (Ok answer) looks =
    found_fits version old.bytes offset hash answer (map (λ hit. hit.value) looks.read.found) looks.read.answer

-- the bounds of a lookup are those of the kind
pub bounds_ever : {H R : Type 0} (K : RecordKind H R) (version : FormatVersion) (records : List R) (word : ℕ) (old new : Source)
    → WithinBounds (in_version K version) records word old new → WithinBounds K records word old new
bounds_ever K version records word old new bounds =
    record { made = bounds.made; more = bounds.more; few = bounds.few; few_more = bounds.few_more; seeks = bounds.seeks; read = bounds.read }

module _ (s : Shard) (shard : IsShard s) (version : FormatVersion) where
  -- the answer among the files is that of the map
  answers : (hash : DataHash) (answer : Option MDBFileInfo) → IsAnswer (file_records_in version) no_file (values s.files) hash answer → answer ≡ get s.files hash
  answers = map_answers (file_records_in version) no_file s.files shard.files.keyed (λ i d within. one_as_read (get_or (values s.files) i d) (well_formed_values (entries s.files) shard.files i d within))

  pub lookup_written : (offset start count : ℕ) (old : Source) → IsLookedUp (file_records_in version) no_file (values s.files) offset start count old
      → (new : Source) (hash : DataHash) (r : Result (Option MDBFileInfo) CoreError)
      → LooksUpRecord (file_records_in version) (table_at old start count 4) offset hash old new r
      → MatchResult r (FoundInShard s hash) (LookupFailsAmong file_records (values s.files) hash old new)
  lookup_written offset start count old is new hash (Ok answer) looks =
      let found = lookup_answers (file_records_in version) (files_laws version) no_file (values s.files) offset start count old is hash new answer looks.read in
      (found.0, answers hash answer found.1)
  lookup_written offset start count old is new hash (Err e) looks = not_answered (file_records_in version) (files_laws version) no_file (values s.files) offset start count old is hash new e looks.read
