use Rattle.std.proofs.Common.{arith, refl, rules}
use Rattle.xet_base.proofs.Bytes.{take-bytes, drop-bytes}
use Rattle.xet_base.proofs.Reading.{passed_next}
use Rattle.xet_base.proofs.source.MemorySourceShardSource.pass.Goals as goal

pub returns : goal.returns
returns c =
    passed_next _ _ c.args.count c.args.count refl (λ some. omega arith)
    (take-bytes _ _ (drop-bytes _ _ c.all_bytes.ensures)) (search rules)
