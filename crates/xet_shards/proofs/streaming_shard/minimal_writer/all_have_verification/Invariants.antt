use Rattle.std.proofs.Common.{◌≡◌, true, take}
use Rattle.std.specs.List.{list_all}
use Rattle.xet_records.specs.declared.file_structs.MDBFileInfo.{MDBFileInfo}
use Rattle.xet_records.specs.FileRecord.{has_verification}
use Rattle.xet_shards.proofs.streaming_shard.minimal_writer.all_have_verification.Given as goal

abbrev pub invariant-loop-file : goal.invariant-loop-file
invariant-loop-file l = list_all (λ (r : MDBFileInfo). has_verification r.metadata.file_flags) (take l.file-index l.files) ≡ true
