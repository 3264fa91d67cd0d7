use Rattle.std.proofs.Common.{ap, ◌∙◌, subst}
use Rattle.std.specs.Io.KnownBytes.{Appends}
use Rattle.xet_shards.specs.Write.Layout.{shard_header_bytes}
use Rattle.xet_shards.specs.StreamingShard.MinimalShard.{has_start, is_start}
use Rattle.xet_shards.proofs.StreamingShard.MinimalWriting.{shard_written, fit_as_kept}
use Rattle.xet_shards.proofs.streaming_shard.minimal_shard.MDBMinimalShard.write.Goals as goal

pub returns-clause-written : goal.returns-clause-written
returns-clause-written g c =
    let contents = g.W.Write.contents in
    let header = subst (λ h. Appends (contents c.args.writer.now) (contents c.serialize.new.writer) (shard_header_bytes h)) c.of_version.ensures c.in_ok-serialize.ensures.bytes in
    shard_written _ c.args.self.now _ c.args.options.now _ (contents c.serialize.new.writer) (contents c.write_files.new.writer) (contents c.write_xorbs.new.writer) _ _ _ _ _ _
    c.requires.options (fit_as_kept c.args.kept c.args.files.now c.requires.files.stored) (ap has_start c.as_slice.ensures.value ∙ c.in_ok-starts.ensures.ok ∙ ap is_start c.files.ensures.files) c.xorbs.ensures.xorbs
    header c.in_ok-files.ensures.bytes c.in_ok-files.ensures.written c.in_ok-xorbs.ensures.written c.in_ok-write_end.ensures.bytes c.size_of-size.ensures
