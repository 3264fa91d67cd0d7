use Rattle.std.proofs.Common.{[], ◌++◌, take, get_or, flat_map, refl, sym, subst, arith}
use Rattle.std.proofs.lemmas.List.{take_more, take_all}
use Rattle.std.proofs.lemmas.Result.{err_from_is_err_and}
use Rattle.xet_base.specs.InputLaws.{ReadsBytes-nil, ReadsBytes-trans}
use Rattle.xet_records.specs.FileRow.{segment_row}
use Rattle.xet_records.specs.Part.{parts}
use Rattle.xet_records.specs.declared.file_structs.part.OptionalPart.TheVariants.{Verification}
use Rattle.xet_core_structures.specs.TwoShards.Streams.{streams}
use Rattle.xet_core_structures.specs.Steps.MixedFiles.EitherFails.{second_fails}
use Rattle.xet_core_structures.proofs.TwoShards.Mixing.{first_not_copied}
use Rattle.xet_core_structures.proofs.TwoShards.MixWriting.{part_fails, AreMixed, one_more, both_read, next_within, rows_mixed}
use Rattle.xet_core_structures.proofs.TwoShards.OneSection.{serves_same}
use Rattle.xet_core_structures.proofs.set_operations.two_shards.mix.mix_rows.Goals as goal

pub returns-in_err-size : goal.returns-in_err-size
returns-in_err-size g c =
    let one = g.S.ShardSource.meaning in
    let two = g.T.ShardSource.meaning in
    let p = err_from_is_err_and c.from_residual.result c.from_residual.ensures.1 in
    rw (p.1, p.2) (record {
      rows = part_fails c.args.first.now c.args.second.now _ _ (one c.args.r1.now) _ _ (two c.args.r2.now) _ [] [] c.args.first.now.num_entries 0 _ (ReadsBytes-nil _) (ReadsBytes-nil _) (omega arith) (omega arith)
          (first_not_copied one c.args.r1.now c.copy_segments.new.input _ _ _ _ c.in_err-size.ensures.copied);
      bound = tt;
    })

pub returns-in_err-skip_rows : goal.returns-in_err-skip_rows
returns-in_err-skip_rows g c =
    let two = g.T.ShardSource.meaning in
    let s = c.in_ok-size.ensures.copied.1.read in
    let p = err_from_is_err_and c.from_residual-in_err-skip_rows.result c.from_residual-in_err-skip_rows.ensures.1 in
    rw (p.1, p.2) (record {
      rows = part_fails c.args.first.now c.args.second.now _ _ (g.S.ShardSource.meaning c.copy_segments.new.input) _ _ (two c.args.r2.now) _ (flat_map segment_row s.stored) [] 0 c.args.second.now.num_entries _
          s.taken (ReadsBytes-nil _) (omega (arith, s.size)) (omega arith) (second_fails _ refl c.in_err-skip_rows.ensures (serves_same _ _ refl));
      bound = tt;
    })

pub loop-part-init : goal.loop-part-init
unfolding AreMixed
loop-part-init g c = refl

pub loop-part-preserved : goal.loop-part-preserved
loop-part-preserved g c =
    let one = g.S.ShardSource.meaning in
    let two = g.T.ShardSource.meaning in
    let contents = g.W.Write.contents in
    let i = c.loop-part.part-index in
    let now = streams (one c.loop-part.r1) (two c.loop-part.r2) (contents c.loop-part.out) in
    let next = streams (one c.copy_part.new.r1) (two c.copy_part.new.r2) (contents c.copy_part.new.out) in
    subst (λ ps. AreMixed c.args.first.now c.args.second.now ps (streams (one c.copy_segments.new.input) (two c.skip_rows.new.input) (contents c.copy_segments.new.writer)) next)
    (sym (take_more parts i Verification c.loop-part-test.true))
    (one_more c.args.first.now c.args.second.now (take i parts) (get_or parts i Verification) _ now next c.loop-part.invariant c.in_ok-copy_part.ensures)

pub returns-in_err-copy_part : goal.returns-in_err-copy_part
returns-in_err-copy_part g c =
    let one = g.S.ShardSource.meaning in
    let two = g.T.ShardSource.meaning in
    let i = c.loop-part.part-index in
    let s = c.in_ok-size.ensures.copied.1.read in
    let t = c.in_ok-skip_rows.ensures.1 in
    let (xs, ys) = both_read c.args.first.now c.args.second.now (take i parts) _ _ c.loop-part.invariant in
    let p = err_from_is_err_and c.from_residual-in_err-copy_part.result c.from_residual-in_err-copy_part.ensures.1 in
    rw (p.1, p.2) (record {
      rows = part_fails c.args.first.now c.args.second.now _ _ (one c.loop-part.r1) _ _ (two c.loop-part.r2) _ (flat_map segment_row s.stored ++ xs.0) (flat_map segment_row t.stored ++ ys.0) _ _ _
          (ReadsBytes-trans _ (one c.copy_segments.new.input) _ _ _ s.taken xs.1) (ReadsBytes-trans _ (two c.skip_rows.new.input) _ _ _ t.taken ys.1)
          (next_within c.args.first.now i _ xs.0 c.loop-part-test.true s.size xs.2)
          (next_within c.args.second.now i _ ys.0 c.loop-part-test.true t.size ys.2)
          c.in_err-copy_part.ensures;
      bound = tt;
    })

pub returns : goal.returns
returns g c =
    let one = g.S.ShardSource.meaning in
    let two = g.T.ShardSource.meaning in
    let contents = g.W.Write.contents in
    let now = streams (one c.loop-part.r1) (two c.loop-part.r2) (contents c.loop-part.out) in
    let mixed = subst (λ ps. AreMixed c.args.first.now c.args.second.now ps (streams (one c.copy_segments.new.input) (two c.skip_rows.new.input) (contents c.copy_segments.new.writer)) now)
    (take_all c.loop-part.part-index parts c.loop-part-test.false) c.loop-part.invariant in
    record {
      rows = rows_mixed c.args.first.now c.args.second.now (one c.args.r1.now) (one c.copy_segments.new.input) (one c.loop-part.r1)
          (two c.args.r2.now) (two c.skip_rows.new.input) (two c.loop-part.r2) (contents c.args.out.now) (contents c.copy_segments.new.writer) (contents c.loop-part.out)
          c.in_ok-size.ensures.copied.0 c.in_ok-skip_rows.ensures.0 c.in_ok-size.size c.in_ok-size.ensures.copied.1 c.in_ok-size.ensures.copied.2 c.in_ok-skip_rows.ensures.1 mixed;
      bound = c.in_ok-size.ensures.bound;
    }
