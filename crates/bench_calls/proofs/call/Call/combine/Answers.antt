use Rattle.std.proofs.Common.{sym, subst}
use Rattle.xet_core_structures.specs.declared.record_reader.FormatVersion.TheVariants.{V3}
use Rattle.shard_bytes.specs.Combining.{CombinesTo}
use Rattle.shard_bytes.specs.Versions.{IsWrittenIn}
use Rattle.bench_calls.proofs.call.Call.combine.Goals as goal

pub returns : goal.returns
returns c bytes same =
    let Combines = IsWrittenIn V3 (CombinesTo c.args.combination c.args.self.now.first.now c.args.self.now.second.now) in
    subst Combines (sym same) c.in_ok-bytes.ensures.combined
