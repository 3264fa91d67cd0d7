-- What clauses say of errors.
use Rattle.std.specs.Prelude.{◌≡◌, ◌≢◌, ◌⊎◌, ℕ, List, [], string_bytes, Option, None, Some, Ok, Err, ⊤, MatchResult}
use Rattle.std.specs.declared.result.Result.{Result}
use Rattle.std.specs.IoError.{error_kind}
use Rattle.std.specs.declared.io.Error.{Error}
use Rattle.std.specs.declared.io.ErrorKind.TheVariants.{OutOfMemory as no_memory, UnexpectedEof}
use Rattle.xet_base.specs.declared.error.CoreError.{CoreError}
use Rattle.xet_base.specs.declared.error.CoreError.TheVariants.{Io, InternalError, Other, TruncatedHashCollision, ShardVersion, BadFilename, ShardNotFound, FileNotFound, QueryFailed, SmudgeQueryPolicy, InvalidShard, InvalidRange, InvalidArguments, MalformedData, HashMismatch, HashParsing, ChunkHeaderParse, OutOfMemory}

-- the number of an error's variant
abbrev pub variant_number : CoreError → ℕ
variant_number (Io _) = 1
variant_number (InternalError _) = 2
variant_number (Other _) = 3
variant_number (TruncatedHashCollision _) = 4
variant_number (ShardVersion _) = 5
variant_number (BadFilename _) = 6
variant_number (ShardNotFound _) = 7
variant_number (FileNotFound _) = 8
variant_number (QueryFailed _) = 9
variant_number (SmudgeQueryPolicy _) = 10
variant_number (InvalidShard _) = 11
variant_number InvalidRange = 12
variant_number InvalidArguments = 13
variant_number (MalformedData _) = 14
variant_number HashMismatch = 15
variant_number (HashParsing _) = 16
variant_number ChunkHeaderParse = 17
variant_number OutOfMemory = 18

-- what a device's error becomes: `OutOfMemory` if that is its kind, else `Io` of it
abbrev pub FromDevice : Error → CoreError → Type 0
FromDevice e OutOfMemory = error_kind e ≡ no_memory
FromDevice e (Io f) = (f ≡ e) × (error_kind e ≢ no_memory)
FromDevice e _ = ⊥

-- `Io` or `OutOfMemory`: an error of a device, the end of the input, or a failed allocation
abbrev pub IsDeviceError : CoreError → Type 0
IsDeviceError OutOfMemory = ⊤
IsDeviceError (Io _) = ⊤
IsDeviceError _ = ⊥

-- the input ended too early
abbrev pub IsEndOfInput : CoreError → Type 0
IsEndOfInput (Io e) = error_kind e ≡ UnexpectedEof
IsEndOfInput _ = ⊥

-- an error that does not say that the input ended
abbrev pub IsNoEnd : Error → Type 0
IsNoEnd e = error_kind e ≢ UnexpectedEof

-- an error of a writer, which never says that the input ended, or a failed allocation
abbrev pub IsWriteError : CoreError → Type 0
IsWriteError e = IsDeviceError e × (¬ IsEndOfInput e)

-- the bytes are not a valid shard
abbrev pub IsInvalidShard : CoreError → Type 0
IsInvalidShard (InvalidShard _) = ⊤
IsInvalidShard _ = ⊥

-- an unsupported tag or version
abbrev pub IsShardVersion : CoreError → Type 0
IsShardVersion (ShardVersion _) = ⊤
IsShardVersion _ = ⊥

-- an unsupported tag or version, without a message
abbrev pub IsBareShardVersion : CoreError → Type 0
IsBareShardVersion (ShardVersion text) = string_bytes text ≡ []
IsBareShardVersion _ = ⊥

-- `InvalidShard` without a message
abbrev pub IsBareInvalidShard : CoreError → Type 0
IsBareInvalidShard (InvalidShard text) = string_bytes text ≡ []
IsBareInvalidShard _ = ⊥

-- `Other` of this text, or out of memory
abbrev pub IsOtherText : List ℕ → CoreError → Type 0
IsOtherText text (Other s) = string_bytes s ≡ text
IsOtherText text OutOfMemory = ⊤
IsOtherText text _ = ⊥

-- `InvalidShard` of this text, or out of memory
abbrev pub IsInvalidShardText : List ℕ → CoreError → Type 0
IsInvalidShardText text (InvalidShard s) = string_bytes s ≡ text
IsInvalidShardText text OutOfMemory = ⊤
IsInvalidShardText text _ = ⊥

-- a result of this project, under a name that no alias of a source file hides
abbrev pub CoreResult : Type 0 → Type 0
CoreResult T = Result T CoreError

-- what `ok_for_format_error` makes of a result: malformed data is no value, other errors stay
abbrev pub WithoutFormatError : {T : Type 0} → CoreResult T → CoreResult (Option T) → Type 0
WithoutFormatError (Ok v) r = r ≡ Ok (Some v)
WithoutFormatError (Err (MalformedData _)) r = r ≡ Ok None
WithoutFormatError (Err e) r = r ≡ Err e

-- the result of a call that checks its arguments first: `InvalidArguments` exactly if they cannot
-- be admitted, and no error but this and `OutOfMemory`
abbrev pub Admits : {T : Type 0} → Type 0 → CoreResult T → Type 0
Admits Can result =
    MatchResult result (λ _. Can)
    (λ e. ((e ≡ InvalidArguments) × (¬ Can)) ⊎ ((e ≡ OutOfMemory) × Can))
