-- What a merge of shards writes, and why it does not.
use Rattle.std.specs.Prelude.{ℕ, ◌≡◌, ◌⊎◌, ⊤, List, ◌∷◌, length, slice_get}
use Rattle.std.specs.Borrow.{Bor}
use Rattle.std.specs.Option.{MatchOption}
use Rattle.xet_core_structures.specs.declared.error.CoreError.{CoreError}
use Rattle.xet_core_structures.specs.declared.error.CoreError.TheVariants.{OutOfMemory as no_memory}
use Rattle.placed_shards.specs.declared.findings.Disagreement.{Disagreement}
use Rattle.placed_shards.specs.declared.findings.MalformedRecord.{MalformedRecord}
use Rattle.placed_shards.specs.Content.{Content}
use Rattle.placed_shards.specs.Findings.{AreOpened, FirstRefusal, HasAllDisagreements, IsFirstMalformed}
use Rattle.placed_shards.specs.MergedLists.{IsMergeOf, MergeRefusal}
use Rattle.placed_shards.specs.Selections.{all_records}
use Rattle.placed_shards.specs.Strict.{AreAgreeing, AgreedRefusal, IsJoinedMerge}
use Rattle.xet_records.specs.declared.record_reader.FormatVersion.{FormatVersion}
use Rattle.shard_bytes.specs.Versions.{IsWrittenIn, NotWrittenIn}
use Rattle.mdb_report.specs.declared.fault.Fault.TheVariants.{OutOfMemory, Disagree, Malformed}
use Rattle.mdb_base.specs.declared.failure.Failure.{Failure}
use Rattle.mdb_base.specs.declared.failure.Subject.TheVariants.{File, StandardOutput}
use Rattle.mdb_base.specs.declared.request.Strictness.{Strictness}
use Rattle.mdb_base.specs.declared.request.Strictness.TheVariants.{Lenient, Strict}

-- the bytes of the merge of inputs in a version; of a strict one each input holds a well-formed
-- shard, these agree pairwise, and the bytes are those of their join
abbrev pub UnitesTo : Strictness → FormatVersion → List (List ℕ) → List ℕ → Type 0
UnitesTo Lenient version inputs out = IsWrittenIn version (IsMergeOf all_records inputs) out
UnitesTo Strict version inputs out =
    AreAgreeing all_records inputs × IsWrittenIn version (IsJoinedMerge all_records inputs) out

-- the failure names a record that no shard may have, and the file that has it
abbrev pub SaysMalformed : List (Bor (List ℕ)) → List (List ℕ) → Failure → Type 0
SaysMalformed files inputs failure =
    (m : MalformedRecord) × IsFirstMalformed all_records inputs m
    × (failure.fault ≡ Malformed m.record_hash)
    × MatchOption (slice_get files m.input) (failure.subject ≡ StandardOutput)
    (λ file. failure.subject ≡ File file)

-- the failure counts the hashes with records that disagree, at least one, and names the first
abbrev pub SaysDisagree : List (List ℕ) → Failure → Type 0
SaysDisagree inputs failure =
    (cs : List Content) × AreOpened all_records inputs cs × (first : Disagreement)
    × (others : List Disagreement) × HasAllDisagreements cs (first ∷ others)
    × (failure.fault ≡ Disagree (length (first ∷ others)) first.record_hash)

-- there is an error of such a cause; a lack of memory is reported as such
abbrev pub SaysCause : (CoreError → Type 0) → Failure → Type 0
SaysCause IsCause failure =
    (e : CoreError) × IsCause e × (e ≡ no_memory → failure.fault ≡ OutOfMemory)

-- an input is not read, or the inputs have no merge in a version
abbrev pub SaysNotMerged : FormatVersion → List (List ℕ) → Failure → Type 0
SaysNotMerged version inputs = SaysCause
    (λ e. FirstRefusal all_records (λ c. ⊤) inputs e
    ⊎ NotWrittenIn version (IsMergeOf all_records inputs) (MergeRefusal all_records inputs) e)

-- why inputs have no merge in a version
abbrev pub UnionFails : Strictness → FormatVersion → List (Bor (List ℕ)) → List (List ℕ) → Failure
    → Type 0
UnionFails Lenient version files inputs failure = SaysNotMerged version inputs failure
UnionFails Strict version files inputs failure =
    SaysMalformed files inputs failure ⊎ SaysDisagree inputs failure
    ⊎ SaysCause (AgreedRefusal all_records inputs
    (NotWrittenIn version (IsJoinedMerge all_records inputs) (MergeRefusal all_records inputs))) failure
