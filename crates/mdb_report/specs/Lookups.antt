-- What is reported of lookups.
use Rattle.std.specs.Prelude.{◌≡◌, ◌⊎◌, ⊤, ℕ, ◌-◌, ◌^◌, ◌<◌, Bool, true, List, Option, None, Some, option_map, is_some, IfSome}
use Rattle.xet_core_structures.specs.declared.error.CoreError.{CoreError}
use Rattle.xet_core_structures.specs.declared.error.CoreError.TheVariants.{OutOfMemory}
use Rattle.xet_core_structures.specs.declared.file_structs.FileDataSequenceEntry.{FileDataSequenceEntry}
use Rattle.xet_core_structures.specs.declared.file_structs.MDBFileInfo.{MDBFileInfo}
use Rattle.xet_core_structures.specs.declared.merklehash.DataHash.{DataHash}
use Rattle.xet_core_structures.specs.Lookup.{FindsRecord, FindRecordFails, file_table}
use Rattle.xet_core_structures.specs.SectionReading.{files_of}
use Rattle.xet_core_structures.specs.declared.shard_format.MDBShardInfo.{MDBShardInfo}
use Rattle.xet_core_structures.specs.RunReading.{QueryAnswer}
use Rattle.xet_core_structures.specs.Source.{Source, NoFailure}
use Rattle.shard_bytes.specs.Finding.{RefusesFile}
use Rattle.shard_bytes.specs.Outcomes.{HasOutcome}
use Rattle.shard_bytes.specs.Query.{AnswersQuery}
use Rattle.mdb_report.specs.declared.lookup.Costs.{Costs}
use Rattle.mdb_report.specs.declared.lookup.FoundReport.{FoundReport}
use Rattle.mdb_report.specs.declared.lookup.Run.{Run}
use Rattle.mdb_report.specs.declared.lookup.RunReport.{RunReport}
use Rattle.mdb_records.specs.declared.records.FileReport.{FileReport}
use Rattle.mdb_records.specs.RecordReports.{ReportsFile, segment_report}

-- the seeks made between two states of a source, and the bytes read, as far as they are counted
pub record AreCosts (before after : Source) (costs : Costs) : Type 0 where
  pub seeks : after.seeks < 2 ^ 64 → costs.seeks ≡ after.seeks - before.seeks
  pub read : after.read < 2 ^ 64 → costs.bytes_read ≡ after.read - before.read

-- the report has the record that was found, with its rows, or none
abbrev pub ReportsFound : Option MDBFileInfo → Option FileReport → Type 0
ReportsFound None None = ⊤
ReportsFound (Some file) (Some report) = ReportsFile file true report
ReportsFound _ _ = ⊥

-- what a lookup of the hash finds between two states of a source, and what it costs
abbrev pub FindsIn : MDBShardInfo → DataHash → Source → Source → Option MDBFileInfo → Costs → Type 0
FindsIn info hash before after found costs =
    FindsRecord (files_of info) (file_table info.metadata before) info.metadata.file_info_offset hash
    before after found
    × AreCosts before after costs

-- the report of a lookup of the hash between two states of a source, where no read failed, with its
-- costs if they are wanted, and else without
pub record ReportsFinding (info : MDBShardInfo) (hash : DataHash) (with_costs : Bool)
    (before after : Source) (report : FoundReport) : Type 0 where
  -- what the lookup finds
  pub file : Option MDBFileInfo
  -- what the lookup costs
  pub costs : Costs
  pub finds : FindsIn info hash before after file costs
  pub no_failure : NoFailure before after
  pub looked_up : report.hash.0 ≡ hash
  pub found : ReportsFound file report.found
  -- the report has costs exactly if they are wanted
  pub has_costs : is_some report.costs ≡ with_costs
  -- the costs in the report are those of the lookup
  pub costs_are : IfSome report.costs (λ c. c ≡ costs)

-- the report of a lookup of the hash in the bytes
abbrev pub ReportsLookup : List ℕ → DataHash → Bool → FoundReport → Type 0
ReportsLookup bytes hash with_costs report =
    HasOutcome bytes (λ info before after. ReportsFinding info hash with_costs before after report)

-- why there is no report of a lookup between two states of a source: the lookup is refused, or
-- memory is lacking
abbrev pub FindFileFails : MDBShardInfo → DataHash → Source → Source → CoreError → Type 0
FindFileFails info hash before after e =
    FindRecordFails (files_of info) (file_table info.metadata before) info.metadata.file_info_offset
    hash before after e
    ⊎ (e ≡ OutOfMemory)

-- the report of a run: how many chunks it has, and its segment
abbrev pub run_of : ℕ × FileDataSequenceEntry → Run
run_of run = record { chunks = run.0; segment = segment_report run.1 }

-- the report of what a query of the chunks answers
pub record ReportsQuery (bytes : List ℕ) (hashes : List DataHash) (report : RunReport)
    : Type 0 where
  pub answer : Option (ℕ × FileDataSequenceEntry)
  pub answers : AnswersQuery bytes hashes answer
  pub run : report.run ≡ option_map run_of answer

-- the report of what a query of the chunks answers between two states of a source, where no read
-- failed
pub record ReportsRun (info : MDBShardInfo) (hashes : List DataHash) (before after : Source)
    (report : RunReport) : Type 0 where
  pub answer : Option (ℕ × FileDataSequenceEntry)
  pub answers : QueryAnswer info.metadata hashes before after answer
  pub no_failure : NoFailure before after
  pub run : report.run ≡ option_map run_of answer

-- why there is no report of a lookup: header and footer are not read, the lookup is refused, or
-- memory is lacking
abbrev pub LookupFails : List ℕ → DataHash → CoreError → Type 0
LookupFails bytes hash e = RefusesFile bytes hash e ⊎ (e ≡ OutOfMemory)
