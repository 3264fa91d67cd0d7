-- Files that are read fit their headers, and each gets its report.
use Rattle.std.proofs.Common.{◌≡◌, inl, inr, ℕ, ◌+◌, ◌<◌, ◌≤◌, List, [], ◌∷◌, ◌++◌, take, get_or, Ok, Err, sym, refl, arith, ap, ◌∙◌, subst, length}
use Rattle.std.specs.Prelude.{All, IfOk, IfSome, MatchResult, Option, None, Some}
use Rattle.std.specs.List.{AllZip}
use Rattle.std.proofs.lemmas.List.{take_more}
use Rattle.std.specs.declared.vec.Vec.{Vec}
use Rattle.std.specs.declared.result.Result.{Result}
use Rattle.xet_base.specs.MemorySource.{in_memory}
use Rattle.xet_core_structures.specs.declared.shard_format.MDBShardInfo.{MDBShardInfo}
use Rattle.xet_core_structures.specs.declared.source.MemorySource.{MemorySource}
use Rattle.xet_core_structures.specs.Ends.{HasHeaderAndFooter}
use Rattle.xet_core_structures.specs.Errors.{CoreResult}
use Rattle.xet_core_structures.specs.Source.{Source}
use Rattle.xet_core_structures.specs.FileRecord.{file_records, file_records_in, FitsItsHeader}
use Rattle.xet_core_structures.specs.SectionReading.{ReadsAll, ReadsFiles, ReadsXorbs}
use Rattle.xet_core_structures.specs.declared.file_structs.MDBFileInfo.{MDBFileInfo}
use Rattle.xet_core_structures.specs.XorbRecord.{xorb_records, HasItsChunks}
use Rattle.xet_core_structures.specs.declared.xorb_structs.MDBXorbInfo.{MDBXorbInfo}
use Rattle.xet_core_structures.specs.declared.xorb_structs.XorbChunkSequenceHeader.{XorbChunkSequenceHeader}
use Rattle.xet_records.specs.declared.record_reader.FormatVersion.{FormatVersion}
use Rattle.xet_records.specs.declared.file_structs.header.FileDataSequenceHeader.{FileDataSequenceHeader}
use Rattle.xet_records.specs.Reading.{ReadsNextRecord}
use Rattle.xet_records.specs.RecordKind.{RecordKind, in_version}
use Rattle.shard_bytes.specs.Outcomes.{HasOutcome}
use Rattle.mdb_report.specs.FileReports.{HoldsFiles, FilesNotRead}
use Rattle.mdb_report.specs.LookupTables.{XorbsNotRead}
use Rattle.mdb_report.specs.GarbageReport.{HoldsXorbs}
use Rattle.xet_records.proofs.RecordKinds.{file_laws, xorb_laws, laws_in, stored_ever}
use Rattle.xet_core_structures.proofs.Records.RecordsAsRead.{all_handed}

pub read_files_fit : {Z : Type 0} (version : FormatVersion) (old new : Source) (at : ℕ) (result : CoreResult (Vec MDBFileInfo Z)) → ReadsAll (file_records_in version) old new at result
    → IfOk result (λ files. All FitsItsHeader files.items)
read_files_fit version old new at (Ok files) reads = λ k r below.
    let K : RecordKind FileDataSequenceHeader MDBFileInfo = file_records_in version in
    (stored_ever file_records version _ (all_handed K (laws_in file_records file_laws version) reads.stored files.items reads.section.records.are_stored reads.returned k r below)).whole
read_files_fit version old new at (Err e) reads = tt

-- what a call on a source in memory gives is an outcome over its bytes
pub outcome_in_memory : {Outcome : MDBShardInfo → Source → Source → Type 0} (bytes : List ℕ) (info : MDBShardInfo) (before after : MemorySource) → HasHeaderAndFooter bytes info
    → before.bytes.now ≡ bytes → Outcome info (in_memory before) (in_memory after) → HasOutcome bytes Outcome
outcome_in_memory bytes info before after ends same is =
    record { info = info; ends = ends; before = in_memory before; after = in_memory after; bytes_are = same; works = refl; outcome = is }

-- what is read of a source in memory is what its bytes hold
pub files_in_memory : {Z : Type 0} (bytes : List ℕ) (info : MDBShardInfo) (old new : MemorySource) (result : CoreResult (Vec MDBFileInfo Z)) → HasHeaderAndFooter bytes info → old.bytes.now ≡ bytes
    → ReadsFiles info (in_memory old) (in_memory new) result → MatchResult result (λ files. HoldsFiles bytes files.items) (FilesNotRead bytes)
files_in_memory bytes info old new (Ok files) ends same reads =
    outcome_in_memory bytes info old new ends same reads
files_in_memory bytes info old new (Err e) ends same fails =
    inr (inl (outcome_in_memory bytes info old new ends same fails))

-- one more of each
all_zip_pushed : {A B : Type 0} (R : A → B → Type 0) (xs : List A) (ys : List B) (x : A) (y : B) → AllZip R xs ys → R x y → AllZip R (xs ++ x ∷ []) (ys ++ y ∷ [])
all_zip_pushed R [] [] x y all one = (one, tt)
all_zip_pushed R [] (b ∷ ys) x y all one = absurd all
all_zip_pushed R (a ∷ xs) [] x y all one = absurd all
all_zip_pushed R (a ∷ xs) (b ∷ ys) x y all one = (all.0, all_zip_pushed R xs ys x y all.1 one)

pub one_more_report : {A B : Type 0} (R : A → B → Type 0) (xs : List A) (ys more : List B) (i : ℕ) (x : A) (y : B) → i < length xs → x ≡ get_or xs i x → more ≡ ys ++ y ∷ []
    → AllZip R (take i xs) ys → R x y → AllZip R (take (i + 1) xs) more
one_more_report R xs ys more i x y below at pushed all one =
    subst (λ zs. AllZip R (take (i + 1) xs) zs) (sym pushed)
    (subst (λ zs. AllZip R zs (ys ++ y ∷ [])) (sym (take_more xs i x below ∙ ap (λ z. take i xs ++ z ∷ []) (sym at)))
    (all_zip_pushed R (take i xs) ys x y all one))

-- the next file of a section fits its header, if there is one
pub next_file_fits : (Took : List ℕ → Type 0) (version : FormatVersion) (left after : ℕ) (found : Option MDBFileInfo)
    → ReadsNextRecord (file_records_in version) Took left after found → IfSome found FitsItsHeader
next_file_fits Took version left after None reads = tt
next_file_fits Took version left after (Some file) reads =
    let K : RecordKind FileDataSequenceHeader MDBFileInfo = file_records_in version in
    let read = reads.reads in
    (stored_ever file_records version file (subst K.IsStored read.returned ((laws_in file_records file_laws version).as_read_stored read.stored read.is_stored))).whole

-- and the next xorb has its chunks
pub next_xorb_whole : (Took : List ℕ → Type 0) (version : FormatVersion) (left after : ℕ) (found : Option MDBXorbInfo)
    → ReadsNextRecord (in_version xorb_records version) Took left after found → IfSome found HasItsChunks
next_xorb_whole Took version left after None reads = tt
next_xorb_whole Took version left after (Some xorb) reads =
    let K : RecordKind XorbChunkSequenceHeader MDBXorbInfo = in_version xorb_records version in
    let read = reads.reads in
    (stored_ever xorb_records version xorb (subst K.IsStored read.returned ((laws_in xorb_records xorb_laws version).as_read_stored read.stored read.is_stored))).count

-- what is said of a record that was read is said of the result
pub of_result : {T E : Type 0} (r : Result T E) (P Q : T → Type 0) (Fails : E → Type 0) → ((v : T) → P v → Q v) → MatchResult r P Fails → IfOk r Q
of_result (Ok v) P Q Fails weaker is = weaker v is
of_result (Err e) P Q Fails weaker is = tt

-- no more rows are left than before
pub no_more_rows : {H R : Type 0} (K : RecordKind H R) (Took : List ℕ → Type 0) (left after : ℕ) (found : Option R) → ReadsNextRecord K Took left after found → after ≤ left
no_more_rows K Took left after None reads = omega (arith, reads.stays)
no_more_rows K Took left after (Some found) reads = omega (arith, reads.rows)

-- the same of xorbs
pub read_xorbs_whole : {Z : Type 0} (old new : Source) (at : ℕ) (result : CoreResult (Vec MDBXorbInfo Z)) → ReadsAll xorb_records old new at result → IfOk result (λ xorbs. All HasItsChunks xorbs.items)
read_xorbs_whole old new at (Ok xorbs) reads = λ k r below.
    (all_handed xorb_records xorb_laws reads.stored xorbs.items reads.section.records.are_stored reads.returned k r below).count
read_xorbs_whole old new at (Err e) reads = tt

pub xorbs_in_memory : {Z : Type 0} (bytes : List ℕ) (info : MDBShardInfo) (old new : MemorySource) (result : CoreResult (Vec MDBXorbInfo Z)) → HasHeaderAndFooter bytes info → old.bytes.now ≡ bytes
    → ReadsXorbs info (in_memory old) (in_memory new) result → MatchResult result (λ xorbs. HoldsXorbs bytes xorbs.items) (XorbsNotRead bytes)
xorbs_in_memory bytes info old new (Ok xorbs) ends same reads = outcome_in_memory bytes info old new ends same reads
xorbs_in_memory bytes info old new (Err e) ends same fails = inr (outcome_in_memory bytes info old new ends same fails)
