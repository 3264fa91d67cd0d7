use Rattle.std.proofs.Common.{map, None, subst}
use Rattle.std.specs.Prelude.{IfOk}
use Rattle.xet_records.specs.View.{as_kept}
use Rattle.xet_shards.specs.StreamingShard.MinimalShard.{minimal_options, WritesKept}
use Rattle.xet_shards.proofs.StreamingShard.MinimalWriting.{all_written}
use Rattle.xet_shards.proofs.streaming_shard.minimal_shard.MDBMinimalShard.serialize_kept.Goals as goal

pub returns-clause-written : goal.returns-clause-written
returns-clause-written g c =
    let m = c.args.self.now in
    let kept = c.args.kept in
    let contents = g.W.Write.contents in
    all_written _ (λ x b answer. answer.says.met) (contents c.args.writer.now) (contents c.write.new.writer) kept c.args.now m c.write.result
    (subst (λ fs. IfOk c.write.result (WritesKept _ (contents c.args.writer.now) (contents c.write.new.writer) (map (as_kept kept) fs) m (minimal_options c.args.now None))) c.files-files.ensures.files
    (subst (λ options. IfOk c.write.result (WritesKept _ (contents c.args.writer.now) (contents c.write.new.writer) (map (as_kept kept) c.files-files.result.now) m options))
    c.minimal-options.ensures c.write.ensures.written))
