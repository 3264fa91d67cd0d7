use Rattle.std.proofs.Common.{◌⊎◌, inr, ◌∙◌}
use Rattle.std.proofs.lemmas.Result.{err_from_is_err_and}
use Rattle.xet_core_structures.specs.declared.shard_format.MDBShardInfo.{MDBShardInfo}
use Rattle.xet_core_structures.specs.Ends.{HasHeaderAndFooter}
use Rattle.xet_core_structures.specs.KeyedExport.{ExportCase}
use Rattle.xet_core_structures.specs.TwoShards.ByteResults.{LoadRefusal}
use Rattle.placed_shards.specs.StoredFiles.{files_as}
use Rattle.shard_bytes.proofs.MemoryErrors.{not_read_in_memory}
use Rattle.shard_bytes.proofs.version.same_shard.Goals as goal

pub returns-in_err-open_behind_header : goal.returns-in_err-open_behind_header
returns-in_err-open_behind_header c =
    let bytes = c.args.bytes.now in
    let p = err_from_is_err_and c.from_residual-in_err-open_behind_header.result c.from_residual-in_err-open_behind_header.ensures.1 in
    rw (p.1, p.2) (not_read_in_memory bytes (λ e. LoadRefusal bytes e ⊎ ((i : MDBShardInfo) × HasHeaderAndFooter bytes i × ExportCase bytes e)) _
    (λ why. inr (c.in_ok-info.info, c.in_ok-info.ensures, why)) c.in_err-open_behind_header.ensures)

pub returns : goal.returns
returns c =
    let shard = c.in_ok-open_behind_header.field-0 in
    let read = c.in_ok-open_behind_header.ensures in
    record {
      info = c.in_ok-info.info;
      files = shard.files.items;
      xorbs = shard.xorbs.items;
      read = record { ends = c.in_ok-info.ensures; sections = read.0 };
      made_is = c.with_options.ensures.content ∙ (λ i. record { files = files_as (read.1 i) shard.files.items; xorbs = shard.xorbs.items; options = c.of_info.ensures i });
    }
