use Rattle.std.proofs.Common.{[], ◌∷◌, ◌++◌, map, flat_map, sym, ap, ◌∙◌, subst, arith}
use Rattle.std.specs.Prelude.{sum_by}
use Rattle.std.specs.Map.Iter.{deref}
use Rattle.std.specs.Io.KnownBytes.{Appends}
use Rattle.std.proofs.KnownBytes.{Appends-trans}
use Rattle.xet_shards.specs.Write.Section.{section_bytes}
use Rattle.xet_shards.proofs.ShardInMemory.Walks.{entry_turn, entry_turned, mapped_turn, mapped_end, mapped_push, entry_holds, flat_map-push, sum-middle}
use Rattle.xet_shards.proofs.shard_format.write.writer.write_values.Goals as goal

pub write-requires-clause-whole : goal.write-requires-clause-whole
write-requires-clause-whole g c =
    let is_whole = g.S.WrittenSection.is_whole in
    let whole = mapped_turn g.V.HoldsRecord.held _ c.loop-value.yielded _ _ _ c.in-Some.value c.loop-value.invariant.all c.in-Some.is c.next.ensures.steps in
    subst is_whole (sym c.record.ensures) (entry_holds is_whole _ _ _ _ whole c.requires.whole)

pub write-requires-clause-rows : goal.write-requires-clause-rows
write-requires-clause-rows g c =
    let count = g.S.Record.SectionRecord.kind.row_count in
    let held = g.V.HoldsRecord.held in
    let whole = mapped_turn held _ c.loop-value.yielded _ _ _ c.in-Some.value c.loop-value.invariant.all c.in-Some.is c.next.ensures.steps in
    omega (
      arith,
      ap (sum_by count) whole,
      sum-middle count (map held (map deref c.loop-value.yielded)) (map held c.next.new.self) (held c.in-Some.value.now),
      c.requires.rows,
      g.met.S.WrittenSection.counts_rows _ _ c.loop-value.invariant.written,
      ap count c.record.ensures,
    )

pub loop-value-preserved : goal.loop-value-preserved
loop-value-preserved g c =
    let record_bytes = g.S.Record.SectionRecord.kind.record_bytes in
    let held = g.V.HoldsRecord.held in
    let contents = g.W.Write.contents in
    let start = contents c.args.writer.now in
    let end = contents c.write.new.writer in
    let whole = entry_turn deref _ c.loop-value.yielded _ _ _ c.in-Some.value c.loop-value.invariant.all c.in-Some.is c.next.ensures.steps in
    let before = map held (map deref c.loop-value.yielded) in
    let wrote = c.in_ok-write.ensures in
    let next = ap (λ r. before ++ r ∷ []) c.record.ensures ∙ sym (mapped_push held c.loop-value.yielded c.in-Some.value) in
    record {
      can = tt;
      finite = tt;
      all = entry_turned deref _ c.loop-value.yielded _ c.in-Some.value whole;
      written = subst (g.S.WrittenSection.has_written c.write.new.self) next (wrote.written before c.loop-value.invariant.written);
      bytes = subst (λ rs. Appends start end (flat_map record_bytes rs)) next
          (subst (Appends start end) (sym (flat_map-push record_bytes before c.record.result.now))
          (Appends-trans _ (contents c.loop-value.writer) _ _ _ c.loop-value.invariant.bytes wrote.appended));
    }

pub returns-clause-bytes : goal.returns-clause-bytes
unfolding section_bytes
returns-clause-bytes g c =
    let contents = g.W.Write.contents in
    let all = mapped_end g.V.HoldsRecord.held _ c.loop-value.yielded _ _ _ c.loop-value.invariant.all c.in-None.is c.next.ensures.steps in
    let record_bytes = g.S.Record.SectionRecord.kind.record_bytes in
    let records = subst (λ rs. Appends (contents c.args.writer.now) (contents c.loop-value.writer) (flat_map record_bytes rs)) all c.loop-value.invariant.bytes in
    Appends-trans _ (contents c.loop-value.writer) _ _ _ records c.in_ok-write_bookend.ensures.bytes
