use Rattle.std.proofs.Common.{◌≡◌, ◌+◌, ◌∷◌, [], ◌++◌, false, map, take, take_all, sym, ap, refl, subst, arith}
use Rattle.std.specs.Fn.{FnReturnsAt}
use Rattle.std.specs.Io.KnownBytes.{Appends}
use Rattle.std.proofs.KnownBytes.{Appends-trans}
use Rattle.std.proofs.lemmas.List.{map-append}
use Rattle.std.proofs.lemmas.List.Sums.{sum_by_more_le}
use Rattle.xet_records.specs.XorbRecord.{xorb_row_count, IsStoredXorb}
use Rattle.xet_shards.specs.Write.Layout.{if_included}
use Rattle.xet_shards.specs.Write.Section.{section_bytes}
use Rattle.xet_shards.specs.Write.Written.{HasWrittenFor}
use Rattle.xet_shards.specs.StreamingShard.MinimalShard.{has_start, mark_starts, IsKept}
use Rattle.xet_shards.proofs.StreamingShard.MinimalShard.{one_more_item}
use Rattle.xet_shards.proofs.StreamingShard.MinimalWriting.{marked_bytes-append, one_answered, says_at, rows_kept}
use Rattle.xet_shards.proofs.streaming_shard.minimal_writer.write_xorbs.Goals as goal

pub add_if-requires-clause-rows : goal.add_if-requires-clause-rows
add_if-requires-clause-rows g c =
    let starts = has_start c.args.starts.now in
    let xorbs = c.args.xorbs.now in
    let i = c.loop-xorb.xorb-index in
    let inv = c.loop-xorb.invariant in
    omega (
      arith,
      inv.2.table.rows,
      rows_kept (FnReturnsAt g.F.Fn c.args.filter) starts (take i xorbs) inv.0 inv.1,
      sum_by_more_le xorb_row_count xorbs i c.xorb-item.result c.loop-xorb-test.true,
      ap xorb_row_count c.xorb-item.is,
      c.requires.fit.rows,
    )

pub add_if-requires-clause-stored : goal.add_if-requires-clause-stored
add_if-requires-clause-stored g c = subst IsStoredXorb (sym c.xorb-item.is) (c.requires.fit.stored c.loop-xorb.xorb-index c.xorb-item.result c.loop-xorb-test.true)

pub loop-xorb-preserved : goal.loop-xorb-preserved
loop-xorb-preserved g c =
    let starts = has_start c.args.starts.now in
    let answers = FnReturnsAt g.F.Fn c.args.filter in
    let xorbs = c.args.xorbs.now in
    let i = c.loop-xorb.xorb-index in
    let x = c.xorb-item.result in
    let inv = c.loop-xorb.invariant in
    let kept = inv.0 in
    let contents = g.W.Write.contents in
    let more : take (i + 1) xorbs ≡ take i xorbs ++ x ∷ [] = one_more_item xorbs i x c.loop-xorb-test.true c.xorb-item.is in
    let one = if_included c.filter.result (x ∷ []) in (
      kept ++ one,
      subst (λ ys. IsKept answers ys (kept ++ one)) (sym more) (one_answered answers (take i xorbs) kept x c.filter.result inv.1 (says_at g.F.Fn _ _ _ c.filter.result c.filter.ensures refl)),
      subst (HasWrittenFor false c.add_if.new.written) (sym (map-append (mark_starts starts) kept one)) (c.in_ok-add_if.ensures.written (map (mark_starts starts) kept) inv.2),
      subst (Appends (contents c.args.writer.now) (contents c.add_if.new.writer)) (sym (marked_bytes-append starts kept one))
          (Appends-trans _ (contents c.loop-xorb.writer) _ _ _ inv.3 c.in_ok-add_if.ensures.appended),
    )

pub returns-clause-written : goal.returns-clause-written
unfolding section_bytes
returns-clause-written g c =
    let contents = g.W.Write.contents in
    let inv = c.loop-xorb.invariant in
    record {
      kept = inv.0;
      is_kept = subst (λ ys. IsKept (FnReturnsAt g.F.Fn c.args.filter) ys inv.0) (take_all _ _ c.loop-xorb-test.false) inv.1;
      bytes = Appends-trans _ (contents c.loop-xorb.writer) _ _ _ inv.3 c.in_ok-write_bookend.ensures.bytes;
      collected = inv.2;
    }
