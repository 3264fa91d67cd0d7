use Rattle.std.proofs.Common.{refl}
use Rattle.xet_shards.proofs.Write.Written.{file_written}
use Rattle.xet_shards.proofs.shard_format.write.written.WrittenFiles.add.Goals as goal

pub returns-clause-written : goal.returns-clause-written
returns-clause-written c = file_written c.args.self.now _ c.args.word c.args.rows c.args.bytes c.in_ok-add.ensures.added refl
