use Rattle.std.proofs.Common.{◌+◌, ◌++◌, [], ◌∷◌, List, ap}
use Rattle.std.proofs.lemmas.Result.{on_ok_weaker}
use Rattle.xet_records.specs.declared.file_structs.MDBFileInfo.{MDBFileInfo}
use Rattle.xet_records.specs.FileRecord.{file_records}
use Rattle.xet_shards.specs.Write.Written.{IsFileOf, HasWritten}
use Rattle.xet_shards.proofs.Write.Collecting.{segments_first, file_at, read_file_at}
use Rattle.xet_shards.proofs.shard_format.write.file_writer.WrittenFilesWrittenSection.collect.Goals as goal

pub returns-clause-collected : goal.returns-clause-collected
returns-clause-collected c =
    let p = c.args.placed.now in
    on_ok_weaker c.add.result
    (λ (adds : (before : List MDBFileInfo) → (file : MDBFileInfo) → HasWritten c.args.self.now before → IsFileOf p.header.file_hash.word0 (1 + c.rows_after-rows.result) c.size_of_segments-size.result file → HasWritten c.add.new.self (before ++ file ∷ [])) r there front have.
    let is = file_at p r there (1 + c.rows_after-rows.result) c.size_of_segments-size.result (ap (λ n. 1 + n) c.rows_after-rows.ensures.rows) (c.size_of_segments-size.ensures.size r.segments (segments_first p r there)) in
    (adds front r have is, adds front (file_records.as_read r) have (read_file_at p r there _ _ is)))
    c.add.ensures.written
