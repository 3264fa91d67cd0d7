use Rattle.std.proofs.Common.{◌+◌, ap}
use Rattle.xet_shards.proofs.Write.Copying.{file_record_copied}
use Rattle.xet_shards.proofs.shard_format.write.file_writer.WrittenFilesWrittenSection.copy.Goals as goal

pub returns-in-Ok : goal.returns-in-Ok
returns-in-Ok g c =
    file_record_copied _ _ (g.W.Write.contents c.write_copied_row.new.writer) _ c.args.header _ _ c.args.self.now _ c.requires.is_record c.requires.fits
    (ap (λ n. 1 + n) c.rows_after-rows.ensures.rows) c.in_ok-write_copied_row.ensures.appended c.in_ok-size.ensures.copied c.in-Ok.ensures.written
