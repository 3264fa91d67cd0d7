use Rattle.std.proofs.Common.{rules, ◌≡◌, ℕ, List, Ok, Err, ap}
use Rattle.std.specs.Prelude.{IfOk, IfSome, MatchResult, Option}
use Rattle.std.specs.declared.result.Result.{Result}
use Rattle.xet_base.specs.MemorySource.{in_memory}
use Rattle.xet_core_structures.specs.declared.error.CoreError.{CoreError}
use Rattle.xet_core_structures.specs.declared.file_structs.MDBFileInfo.{MDBFileInfo}
use Rattle.xet_core_structures.specs.declared.merklehash.DataHash.{DataHash}
use Rattle.xet_core_structures.specs.FileRecord.{FitsItsHeader}
use Rattle.xet_core_structures.specs.Lookup.{FoundInShard}
use Rattle.xet_core_structures.specs.Shard.{Shard}
use Rattle.xet_core_structures.specs.Source.{Source}
use Rattle.xet_core_structures.specs.WrittenShard.{IsBytesOf}
use Rattle.shard_bytes.specs.Finding.{AnswersLookup, RefusesLookup, FindsFile, RefusesFile, NotFoundInShard}
use Rattle.shard_bytes.proofs.Written.{as_written, lookup_in_memory}
use Rattle.shard_bytes.proofs.find.find_file.Goals as goal

answered : (bytes : List ℕ) (hash : DataHash) (r : Result (Option MDBFileInfo) CoreError) → MatchResult r (FindsFile bytes hash) (RefusesFile bytes hash) → IfOk r (λ found. IfSome found FitsItsHeader)
    → IfOk r (λ found. IfSome found (λ file. file.metadata.file_hash ≡ hash)) → ((s : Shard) → IsBytesOf s bytes → MatchResult r (FoundInShard s hash) (NotFoundInShard s hash))
    → MatchResult r (AnswersLookup bytes hash) (RefusesLookup bytes hash)
answered bytes hash (Ok found) any_bytes fits hash_is written = record { any_bytes = any_bytes; fits = fits; hash_is = hash_is; written = written }
answered bytes hash (Err e) any_bytes fits hash_is written = record { any_bytes = any_bytes; written = written }

pub returns : goal.returns
returns c =
    let loaded = c.load_from_reader.new.source in
    let x : c.new-source.result.bytes.now ≡ c.args.bytes.now = ap (λ (s : Source). s.bytes) c.new-source.ensures in
    answered c.args.bytes.now c.args.hash.now c.get_file_reconstruction_info.result (search rules) (search rules) (search rules)
    (λ s is. lookup_in_memory s c.args.hash.now c.get_file_reconstruction_info.result loaded c.get_file_reconstruction_info.new.source
    (c.get_file_reconstruction_info.ensures.written s
    (as_written s c.args.bytes.now (in_memory c.new-source.result) (in_memory loaded) c.in_ok-info.info is x c.in_ok-info.ensures.read)).answer)
