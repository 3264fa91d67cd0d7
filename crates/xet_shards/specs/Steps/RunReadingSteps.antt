-- Steps towards what `RunReading` defines, which only contracts inside the crate speak of.
use Rattle.std.specs.Prelude.{◌≡◌, ℕ, List, [], map, Option, None, Ok, IfOk, IfErr, OnOk}
use Rattle.xet_base.specs.declared.error.CoreError.{CoreError}
use Rattle.xet_base.specs.declared.merklehash.DataHash.{DataHash}
use Rattle.xet_base.specs.Errors.{CoreResult}
use Rattle.xet_base.specs.Source.{Source, NoFailure}
use Rattle.xet_records.specs.XorbRecord.{xorb_records}
use Rattle.xet_shards.specs.declared.shard_format.ends.footer.MDBShardFileFooter.{MDBShardFileFooter}
use Rattle.xet_shards.specs.ShardInMemory.ChunkQuery.{Run}
use Rattle.xet_shards.specs.Lookup.Lookup.{Visit, Visits, VisitsSome}
use Rattle.xet_shards.specs.Lookup.RunReading.{AnswerAt, QueryAt, RefusedAt, TriedAnswer, TriedRefused}

-- the outcome: the answer or why there is none, that without hashes nothing is done, that the
-- device did not fail, and what was read
pub record OutcomeAt (Absent : CoreError → Type 0) (q : QueryAt) (old new : Source)
    (result : CoreResult (Option Run)) : Type 0 where
  pub answer : IfOk result (AnswerAt q old.bytes)
  pub refused : IfErr result (RefusedAt Absent q old new)
  pub nothing : q.hashes ≡ [] → (result ≡ Ok None) × (new ≡ old)
  pub no_failure : OnOk result (NoFailure old new)
  pub visit : Visit xorb_records 2 q.section q.row old new

-- the outcome of queries at some locations, of which the first few are tried
pub record OutcomeOfTries (footer : MDBShardFileFooter) (hashes : List DataHash)
    (locations : List (ℕ × ℕ)) (old new : Source) (result : CoreResult (Option Run)) : Type 0 where
  pub answer : IfOk result (λ answer. TriedAnswer footer hashes old.bytes answer locations)
  pub refused : IfErr result (λ e. TriedRefused footer hashes old new e locations)
  pub no_failure : OnOk result (NoFailure old new)
  pub visits : VisitsSome xorb_records 2 footer.xorb_info_offset
      (map (λ location. location.0) locations) old new

-- the locations at the front were tried, and have no run
pub record NoneTried (footer : MDBShardFileFooter) (hashes : List DataHash)
    (locations : List (ℕ × ℕ)) (old new : Source) : Type 0 where
  pub visits : Visits xorb_records 2 footer.xorb_info_offset
      (map (λ location. location.0) locations) old new
  pub no_failure : NoFailure old new
  pub none : TriedAnswer footer hashes old.bytes None locations
