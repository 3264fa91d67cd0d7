use Rattle.std.proofs.Common.{◌≡◌, map, length, None, sym, ap, ◌∙◌, subst, arith}
use Rattle.std.specs.Prelude.{All}
use Rattle.std.specs.FinMap.{values, entries}
use Rattle.std.proofs.Math.Facts.{Fits-of_lt}
use Rattle.std.proofs.lemmas.List.{length-map}
use Rattle.xet_base.specs.declared.merklehash.DataHash.{DataHash}
use Rattle.xet_records.specs.declared.file_structs.MDBFileInfo.{MDBFileInfo}
use Rattle.xet_records.specs.declared.xorb_structs.MDBXorbInfo.{MDBXorbInfo}
use Rattle.xet_records.specs.FileRecord.{FitsRecord}
use Rattle.xet_shards.specs.ShardInMemory.ChunkLookup.{ShardWithLookup}
use Rattle.xet_shards.specs.Write.Layout.{layout}
use Rattle.xet_shards.proofs.ShardInMemory.Files.{widths_of_values, length-le-rows}
use Rattle.xet_shards.proofs.Write.XorbLayouts.{length-layout_of, xorb_rows-chunks}
use Rattle.xet_shards.proofs.ShardInMemory.Xorbs.{length-shown_entry}
use Rattle.xet_shards.proofs.shard_in_memory.MDBInMemoryShard.shard_file_size.Goals.{After-len-xorbs}
use Rattle.xet_shards.proofs.shard_in_memory.MDBInMemoryShard.shard_file_size.Goals as goal

files_counted : (c : After-len-xorbs) → c.len-files.result ≡ length (values c.self.inside.files)
files_counted c = c.len-files.ensures.len ∙ ap length c.content.ensures.entries ∙ sym (length-map (entries c.self.inside.files) (λ (e : DataHash × MDBFileInfo). e.1))

xorbs_counted : (c : After-len-xorbs) → c.len-xorbs.result ≡ length (values c.self.inside.xorbs.xorbs)
xorbs_counted c =
    c.len-xorbs.ensures.len ∙ sym (length-shown_entry c.content-2.result.now.entries) ∙ ap length c.content-2.ensures.entries
    ∙ sym (length-map (entries c.self.inside.xorbs.xorbs) (λ (e : DataHash × MDBXorbInfo). e.1))

pub overflow_sub-chunks : goal.overflow_sub-chunks
overflow_sub-chunks c = omega (arith, xorbs_counted c, xorb_rows-chunks (values c.self.inside.xorbs.xorbs), c.self.invariant.xorb_rows)

pub overflow_mul-result-2 : goal.overflow_mul-result-2
overflow_mul-result-2 c =
    let at = (goal.at.overflow_mul-result-2 c).After-len-xorbs in
    Fits-of_lt (omega (arith, files_counted at, overflow_sub-chunks c, length-le-rows (values c.self.inside.files)))

pub overflow_add-result-4 : goal.overflow_add-result-4
overflow_add-result-4 c =
    let at = (goal.at.overflow_add-result-4 c).After-len-xorbs in
    Fits-of_lt (omega (arith, files_counted at, overflow_sub-chunks c, length-le-rows (values c.self.inside.files)))

pub overflow_add-result-5 : goal.overflow_add-result-5
overflow_add-result-5 c =
    let at = (goal.at.overflow_add-result-5 c).After-len-xorbs in
    Fits-of_lt (omega (arith, files_counted at, overflow_sub-chunks c, length-le-rows (values c.self.inside.files)))

pub returns : goal.returns
returns c =
    let at = (goal.at.returns c).After-len-xorbs in
    let files = values c.self.inside.files in
    let xorbs = values c.self.inside.xorbs.xorbs in
    let seen = ap (map (λ (e : DataHash × MDBFileInfo). e.1)) c.content.ensures.entries in
    let fit = subst (All FitsRecord) seen (widths_of_values _ c.content.ensures.files) in
    omega (
      arith,
      files_counted at,
      xorbs_counted at,
      xorb_rows-chunks xorbs,
      length-layout_of files xorbs None fit,
    )
    ∙ ap (λ (s : ShardWithLookup). length (layout s.content None)) c.self.view_is
