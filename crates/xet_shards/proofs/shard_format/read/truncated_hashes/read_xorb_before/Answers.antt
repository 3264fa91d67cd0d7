use Rattle.std.proofs.Common.{◌<◌, ap, subst, arith, rules}
use Rattle.xet_base.specs.Source.{Source}
use Rattle.xet_records.specs.XorbRecord.{xorb_records}
use Rattle.xet_records.proofs.RecordKinds.{xorb_laws}
use Rattle.xet_shards.specs.Steps.TruncatedHashesSteps.{XorbBeforeFails}
use Rattle.xet_shards.proofs.Read.SectionReading.{record_fails}
use Rattle.xet_shards.proofs.Read.TruncatedHashes.{before_fails}
use Rattle.xet_shards.proofs.shard_format.read.truncated_hashes.read_xorb_before.Goals as goal

pub returns-in_err-xorb-clause-refused : goal.returns-in_err-xorb-clause-refused
returns-in_err-xorb-clause-refused g c =
    let meaning = g.S.ShardSource.meaning in
    let start = meaning c.position.new.self in
    let new = meaning c.read_record.new.input in
    let below : start.at < c.args.stop = omega (arith, c.if-offset-stop.false, c.in_ok-offset.ensures.0, ap (λ (s : Source). s.at) c.in_ok-offset.ensures.1) in
    let fails = record_fails xorb_records xorb_laws meaning _ c.position.new.self _ _ c.in_err-xorb.ensures in
    search (
      rules,
      subst (λ s. XorbBeforeFails c.args.stop c.args.rows_left.now s new c.in_err-xorb.field-0.0) c.in_ok-offset.ensures.1
          (before_fails c.args.stop _ start new _ below fails),
    )
