-- What a chunk query on a shard's bytes returns, and why it is refused.
use Rattle.std.specs.Prelude.{◌≡◌, ◌≢◌, ◌⊎◌, ◌≤◌, ℕ, List, [], length, Option}
use Rattle.xet_core_structures.specs.declared.error.CoreError.{CoreError}
use Rattle.xet_core_structures.specs.declared.error.CoreError.TheVariants.{InvalidArguments}
use Rattle.xet_core_structures.specs.declared.file_structs.FileDataSequenceEntry.{FileDataSequenceEntry}
use Rattle.xet_core_structures.specs.declared.merklehash.DataHash.{DataHash}
use Rattle.xet_core_structures.specs.declared.xorb_structs.MDBXorbInfo.{MDBXorbInfo}
use Rattle.xet_core_structures.specs.Ends.{IsUnsupported, IsTooShort, FormatCase}
use Rattle.xet_core_structures.specs.RunReading.{QueryAnswer, QueryRefused, query_at, AnswerAt, RefusedAt}
use Rattle.xet_core_structures.specs.TwoShards.ByteResults.{LoadRefusal}
use Rattle.shard_bytes.specs.Outcomes.{HasOutcome}
use Rattle.shard_bytes.specs.Walking.{WithEnds}

-- what a query for a run of chunks with these hashes returns
abbrev pub AnswersQuery : List ℕ → List DataHash → Option (ℕ × FileDataSequenceEntry) → Type 0
AnswersQuery bytes hashes answer =
    HasOutcome bytes
    (λ info before after. QueryAnswer info.metadata hashes before after answer)

-- why a query has no answer: the format is unsupported or truncated, or the query is refused
abbrev pub RefusesQuery : List ℕ → List DataHash → CoreError → Type 0
RefusesQuery bytes hashes e =
    FormatCase IsUnsupported IsTooShort bytes e
    ⊎ HasOutcome bytes (λ info before after. QueryRefused info.metadata hashes before after e)

-- the answer to a query for a run that begins at the chunk at an index of the xorb at a row
abbrev pub AnswersQueryAt : List ℕ → List DataHash → (row index : ℕ)
    → Option (ℕ × FileDataSequenceEntry) → Type 0
AnswersQueryAt bytes hashes row index answer =
    WithEnds bytes (λ info. AnswerAt (query_at info.metadata hashes (row, index)) bytes answer)

-- why such a query has no answer: header and footer are not read, or the query is refused
abbrev pub RefusesQueryAt : List ℕ → List DataHash → (row index : ℕ) → CoreError → Type 0
RefusesQueryAt bytes hashes row index e =
    LoadRefusal bytes e
    ⊎ HasOutcome bytes
    (λ info before after. RefusedAt (λ e. e ≡ InvalidArguments)
    (query_at info.metadata hashes (row, index)) before after e)

-- why a query at a chunk of this xorb has no answer: it asks for a hash, and the xorb has no chunk
-- at the index
abbrev pub HasNoChunkAt : List DataHash → MDBXorbInfo → ℕ → CoreError → Type 0
HasNoChunkAt hashes xorb index e =
    (hashes ≢ []) × (e ≡ InvalidArguments) × (length xorb.chunks ≤ index)
