use Rattle.std.proofs.Common.{sym, subst}
use Rattle.std.specs.Prelude.{MatchResult}
use Rattle.shard_bytes.specs.PartLookups.{HasFileIn, RefusesFileIn}
use Rattle.shard_bytes.proofs.InParts.{file_at_place}
use Rattle.shard_bytes.proofs.WrittenParts.{file_read}
use Rattle.shard_bytes.proofs.part_lookups.file_in.Goals as goal

pub returns-clause-in_shard : goal.returns-clause-in_shard
returns-clause-in_shard c shard info row ends same there =
    let bytes = c.args.bytes.now in
    file_at_place shard bytes info row c.read_file.result ends there (subst (λ v. MatchResult c.read_file.result (HasFileIn v bytes) (RefusesFileIn v bytes)) (sym same) c.read_file.ensures)

pub returns-clause-written : goal.returns-clause-written
returns-clause-written c s shard info row file is same starts there enough =
    let bytes = c.args.bytes.now in
    file_read is row file bytes c.read_file.result starts there enough (subst (λ v. MatchResult c.read_file.result (HasFileIn v bytes) (RefusesFileIn v bytes)) (sym same) c.read_file.ensures)
