use Rattle.std.proofs.Common.{◌≡◌, ◌≤◌, List, sym, ap, ◌∙◌, subst}
use Rattle.std.specs.Prelude.{All, IfOk, OnOk}
use Rattle.std.specs.Map.{values_of}
use Rattle.std.specs.Io.KnownBytes.{Appends}
use Rattle.xet_records.specs.declared.file_structs.MDBFileInfo.{MDBFileInfo}
use Rattle.xet_records.specs.declared.xorb_structs.MDBXorbInfo.{MDBXorbInfo}
use Rattle.xet_records.specs.FileRecord.{file_records}
use Rattle.xet_records.specs.Limits.{MAX_ROWS}
use Rattle.xet_records.specs.XorbRecord.{xorb_records, HasItsChunks}
use Rattle.xet_shards.specs.Write.Layout.{info_of, layout_of}
use Rattle.xet_shards.specs.Write.Section.{total_rows}
use Rattle.xet_shards.proofs.ShardInMemory.Files.{well_formed_values}
use Rattle.xet_shards.proofs.ShardInMemory.Xorbs.{xorb_values, owned-values}
use Rattle.xet_shards.proofs.shard_format.ends.info.write_shard.Goals as goal

pub write_maps-requires-clause-files : goal.write_maps-requires-clause-files
write_maps-requires-clause-files g c = well_formed_values _ c.file_content.ensures.files

pub write_maps-requires-clause-file_rows : goal.write_maps-requires-clause-file_rows
write_maps-requires-clause-file_rows g c =
    subst (λ es. total_rows file_records (values_of es) ≤ MAX_ROWS) (sym c.file_content.ensures.entries) c.file_content.ensures.rows

pub write_maps-requires-clause-xorbs : goal.write_maps-requires-clause-xorbs
write_maps-requires-clause-xorbs g c =
    subst (All HasItsChunks) (sym (owned-values c.xorb_content.result.now.entries)) (λ k r below. (xorb_values _ c.xorb_content.ensures.xorbs k r below).count)

pub write_maps-requires-clause-xorb_rows : goal.write_maps-requires-clause-xorb_rows
write_maps-requires-clause-xorb_rows g c =
    subst (λ rs. total_rows xorb_records rs ≤ MAX_ROWS) (sym (owned-values c.xorb_content.result.now.entries ∙ ap values_of c.xorb_content.ensures.entries)) c.xorb_content.ensures.rows

pub returns-clause-bytes : goal.returns-clause-bytes
returns-clause-bytes g c =
    let contents = g.W.Write.contents in
    let rs_are = ap values_of c.file_content.ensures.entries in
    let xs_are = owned-values c.xorb_content.result.now.entries ∙ ap values_of c.xorb_content.ensures.entries in
    subst (λ (p : List MDBFileInfo × List MDBXorbInfo). OnOk c.write_maps.result (Appends (contents c.args.writer.now) (contents c.write_maps.new.writer) (layout_of p.0 p.1 c.args.options.now)))
    (λ i. (rs_are i, xs_are i)) c.write_maps.ensures.bytes

pub returns-clause-info : goal.returns-clause-info
returns-clause-info g c =
    let rs_are = ap values_of c.file_content.ensures.entries in
    let xs_are = owned-values c.xorb_content.result.now.entries ∙ ap values_of c.xorb_content.ensures.entries in
    subst (λ (p : List MDBFileInfo × List MDBXorbInfo). IfOk c.write_maps.result (λ info. info ≡ info_of p.0 p.1 c.args.options.now)) (λ i. (rs_are i, xs_are i)) c.write_maps.ensures.info
