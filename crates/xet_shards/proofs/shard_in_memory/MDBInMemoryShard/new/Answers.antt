use Rattle.std.proofs.Common.{sym, ap, ◌∙◌, lit≤}
use Rattle.std.specs.FinMap.{values}
use Rattle.xet_base.specs.Hash.{hash_cmp}
use Rattle.xet_records.specs.declared.file_structs.MDBFileInfo.{MDBFileInfo}
use Rattle.xet_records.specs.declared.xorb_structs.MDBXorbInfo.{MDBXorbInfo}
use Rattle.xet_records.specs.FileRecord.{file_records}
use Rattle.xet_records.specs.XorbRecord.{xorb_records}
use Rattle.xet_shards.specs.Write.Section.{total_rows}
use Rattle.xet_shards.specs.Content.Shard.{FileMap}
use Rattle.xet_shards.specs.Steps.ChunkLookupSteps.{XorbsWithLookup}
use Rattle.xet_shards.proofs.Content.Maps.{values-empty}
use Rattle.xet_shards.proofs.shard_in_memory.MDBInMemoryShard.new.Goals as goal

pub invariant_of-result : goal.invariant_of-result
invariant_of-result c = record {
  file_rows = sym (ap (λ (m : FileMap). total_rows file_records (values m)) c.new.ensures ∙ ap (total_rows file_records) (values-empty MDBFileInfo hash_cmp));
  few_file_rows = lit≤ tt;
  xorb_rows = sym (ap (λ (t : XorbsWithLookup). total_rows xorb_records (values t.xorbs)) c.new-2.ensures ∙ ap (total_rows xorb_records) (values-empty MDBXorbInfo hash_cmp));
  few_xorb_rows = lit≤ tt;
}
