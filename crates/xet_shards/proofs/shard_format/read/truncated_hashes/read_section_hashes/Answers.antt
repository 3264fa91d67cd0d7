use Rattle.std.proofs.Common.{subst, rules}
use Rattle.xet_shards.specs.Steps.TruncatedHashesSteps.{ReadsBefore}
use Rattle.xet_shards.proofs.Read.TruncatedHashes.{more_hashes, hashes_end, hashes_fail}
use Rattle.xet_shards.proofs.shard_format.read.truncated_hashes.read_section_hashes.Goals as goal

pub returns-in_err-found : goal.returns-in_err-found
returns-in_err-found g c =
    let old = g.S.ShardSource.meaning c.args.source.now in
    let now = g.S.ShardSource.meaning c.loop-hashes.source in
    search (rules, hashes_fail c.args.stop old now c.args.offset _ _ c.loop-hashes.invariant _ _ c.in_err-found.ensures.refused)

pub loop-hashes-preserved : goal.loop-hashes-preserved
loop-hashes-preserved g c =
    let now = g.S.ShardSource.meaning c.loop-hashes.source in
    let new = g.S.ShardSource.meaning c.read_xorb_before.new.source in
    rw (c.in_ok-push_hashes.ensures.pushed, c.as_slice.ensures) (more_hashes c.args.stop _ now new _ _ _ c.in-Some.found c.loop-hashes.invariant
    (subst (ReadsBefore c.args.stop now new c.loop-hashes.rows_left c.read_xorb_before.new.rows_left) c.in-Some.is c.in_ok-found.ensures.read))

pub returns : goal.returns
returns g c =
    let old = g.S.ShardSource.meaning c.args.source.now in
    let now = g.S.ShardSource.meaning c.loop-hashes.source in
    hashes_end c.args.stop old now c.args.offset _ _ c.loop-hashes.invariant _ (search rules)
