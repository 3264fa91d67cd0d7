use Rattle.std.proofs.Common.{rules, arith, take_all, ◌∙◌}
use Rattle.xet_shards.proofs.Ends.Versions.{other_version}
use Rattle.xet_shards.proofs.shard_format.ends.footer.check_version.Goals as goal

pub returns-then-version-ne-MDB_SHARD_FOOTER_VERSION-clause-err : goal.returns-then-version-ne-MDB_SHARD_FOOTER_VERSION-clause-err
returns-then-version-ne-MDB_SHARD_FOOTER_VERSION-clause-err c =
    let read = c.split_u64-version.ensures in (
      c.new.ensures.bytes,
      λ same. other_version c.args.version.now c.split_u64-version.result.1.now c.split_u64-version.result.0 1 (search rules) (omega arith) read.bytes c.if-version-ne-MDB_SHARD_FOOTER_VERSION.true
          (take_all 8 c.args.version.now (omega arith) ∙ same),
    )
