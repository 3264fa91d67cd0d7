use Rattle.std.proofs.Common.{Some, refl, sym, subst}
use Rattle.xet_core_structures.specs.Steps.MergeJoin.{ReadsOptionalRecord}
use Rattle.xet_core_structures.proofs.set_operations.two_shards.record_operation.pass.Goals as goal

pub returns-in_ok-skip_rows_after-in-Some : goal.returns-in_ok-skip_rows_after-in-Some
returns-in_ok-skip_rows_after-in-Some g c =
    let s = c.in_ok-skip_rows_after-in-Some.ensures in (
      Some s.0,
      subst (λ o. ReadsOptionalRecord g.R.SectionRecord.kind o (g.S.ShardSource.meaning c.args.source.now) (g.S.ShardSource.meaning c.skip_rows_after.new.input) (Some s.0)) (sym c.in-Some.is) (s.0, refl, s.2),
    )
