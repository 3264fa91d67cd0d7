-- The fault that is reported for an error.
use Rattle.std.specs.Prelude.{◌≡◌, ◌≢◌, ⊤, true, ℕ, List}
use Rattle.xet_core_structures.specs.declared.error.CoreError.{CoreError}
use Rattle.xet_core_structures.specs.declared.error.CoreError.TheVariants.{InvalidArguments, TruncatedHashCollision}
use Rattle.xet_core_structures.specs.declared.shard_format.MDBShardInfo.{MDBShardInfo}
use Rattle.xet_core_structures.specs.declared.file_structs.KeptParts.{KeptParts}
use Rattle.xet_core_structures.specs.Ends.{HasHeaderAndFooter}
use Rattle.xet_core_structures.specs.KeyedExport.{ExpiresTooLate}
use Rattle.xet_core_structures.specs.KeyedHash.{no_key}
use Rattle.xet_core_structures.specs.View.{IsIoOther}
use Rattle.shard_bytes.specs.declared.export.Export.{Export}
use Rattle.shard_bytes.specs.declared.check.Finding.{Finding}
use Rattle.shard_bytes.specs.declared.check.Finding.TheVariants.{Malformed, Differs, Reordered, Size}
use Rattle.shard_bytes.specs.Checking.{IsFinding}
use Rattle.mdb_report.specs.declared.fault.Fault.{Fault}
use Rattle.mdb_report.specs.declared.fault.Fault.TheVariants.{OutOfMemory, Bytes, Collision, Other, HasKey, LateExpiry, HasAuxRow, NoVerification}

-- a finding may be the cause of an error: it is more than a record that no shard may have, or another
-- order of rows, over which calls pass
abbrev pub MayBeCause : Finding → Type 0
MayBeCause (Malformed _ _) = ⊥
MayBeCause Reordered = ⊥
MayBeCause _ = ⊤

-- the fault is a finding that is true of the bytes and may be the cause, or the error itself if there
-- is none, or says what the error does, or that memory is lacking
abbrev pub IsFaultOf : List ℕ → CoreError → Fault → Type 0
IsFaultOf bytes error (Bytes finding) = IsFinding bytes finding × MayBeCause finding
IsFaultOf bytes error (Other same) =
    (same ≡ error) × ((f : Finding) → IsFinding bytes f → ¬ MayBeCause f)
IsFaultOf bytes error (Collision word) = error ≡ TruncatedHashCollision word
IsFaultOf bytes error OutOfMemory = ⊤
IsFaultOf bytes error _ = ⊥

-- the same of a call for whose error a record that no shard may have can be the cause
abbrev pub IsFaultOfRecord : List ℕ → CoreError → Fault → Type 0
IsFaultOfRecord bytes error (Bytes finding) = IsFinding bytes finding
IsFaultOfRecord bytes error fault = IsFaultOf bytes error fault

-- the findings that keep a shard from being combined: all but a part or a size that differs, a record
-- that no shard may have, and another order of rows
abbrev pub KeepsFrom : Finding → Type 0
KeepsFrom (Differs _) = ⊥
KeepsFrom (Size _) = ⊥
KeepsFrom (Malformed _ _) = ⊥
KeepsFrom Reordered = ⊥
KeepsFrom _ = ⊤

-- a finding is true of the bytes, and keeps them from being combined
abbrev pub IsBlocking : List ℕ → Finding → Type 0
IsBlocking bytes finding = IsFinding bytes finding × KeepsFrom finding

-- the chunk hashes of a shard's bytes are under a key
abbrev pub IsUnderKey : List ℕ → Type 0
IsUnderKey bytes =
    (info : MDBShardInfo) × HasHeaderAndFooter bytes info × (info.metadata.chunk_hash_hmac_key ≢ no_key)

-- the chunk hashes of a shard's bytes are under no key
abbrev pub IsUnderNoKey : List ℕ → Type 0
IsUnderNoKey bytes =
    (info : MDBShardInfo) × HasHeaderAndFooter bytes info × (info.metadata.chunk_hash_hmac_key ≡ no_key)

-- the fault of an export that is refused: the key that the shard has, or an expiry that is too late,
-- or an auxiliary row that the version does not have, or that of any other error
abbrev pub IsExportFault : Export → List ℕ → CoreError → Fault → Type 0
IsExportFault export bytes error HasKey = (error ≡ InvalidArguments) × IsUnderKey bytes
IsExportFault export bytes error LateExpiry =
    (error ≡ InvalidArguments) × IsUnderNoKey bytes × ExpiresTooLate export.now export.valid_seconds
IsExportFault export bytes error HasAuxRow =
    (error ≡ InvalidArguments) × IsUnderNoKey bytes × (¬ ExpiresTooLate export.now export.valid_seconds)
IsExportFault export bytes error fault = IsFaultOf bytes error fault

-- the fault of a minimal shard that is refused: a file without verification rows, which are to be
-- kept, or an auxiliary row that the version does not have, or that of any other error
abbrev pub IsMinimalFault : KeptParts → List ℕ → CoreError → Fault → Type 0
IsMinimalFault kept bytes error NoVerification = IsIoOther error × (kept.verification ≡ true)
IsMinimalFault kept bytes error HasAuxRow = error ≡ InvalidArguments
IsMinimalFault kept bytes error fault =
    (error ≢ InvalidArguments) × (¬ (IsIoOther error × (kept.verification ≡ true)))
    × IsFaultOf bytes error fault
