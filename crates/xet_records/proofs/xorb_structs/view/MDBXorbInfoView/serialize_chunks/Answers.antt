use Rattle.std.proofs.Common.{◌-◌, ◌+◌, ◌≡◌, ◌≤◌, length, take, drop, refl, sym, ◌∙◌, subst, arith}
use Rattle.std.specs.Io.KnownBytes.{Appends}
use Rattle.std.proofs.lemmas.List.{length-take-le, length-drop}
use Rattle.xet_records.specs.XorbRow.{chunk_row, FitsChunk}
use Rattle.xet_records.specs.XorbRecord.{xorb_records}
use Rattle.xet_records.specs.View.{IsWholeXorb}
use Rattle.xet_records.proofs.RowsWithin.{chunk_laws, rows_within, some_rows, bytes_of_rows}
use Rattle.xet_records.proofs.Views.{shown_as, has_chunks}
use Rattle.xet_records.proofs.xorb_structs.view.MDBXorbInfoView.serialize_chunks.Goals as goal

pub part-rows-requires : goal.part-rows-requires
part-rows-requires g c =
    let shown = shown_as xorb_records IsWholeXorb c.self.inside.header _ c.as_slice.result.now _ _ (sym c.as_slice.ensures) c.self.view_is c.self.invariant in
    omega (arith, rows_within chunk_row FitsChunk chunk_laws _ _ _ (has_chunks _ _ _ shown), c.requires)

pub returns-clause-bytes : goal.returns-clause-bytes
returns-clause-bytes g c =
    let chunks = c.args.self.now.chunks in
    let from = c.args.from in
    let count = c.args.to - from in
    let shown = shown_as xorb_records IsWholeXorb c.self.inside.header _ c.as_slice.result.now _ _ (sym c.as_slice.ensures) c.self.view_is c.self.invariant in
    let within : from + count ≤ length chunks = omega (arith, c.requires) in
    let some = some_rows chunk_row FitsChunk chunk_laws _ 1 chunks from count (has_chunks _ _ _ shown) within in
    let size : count ≡ length (take count (drop from chunks)) = sym (length-take-le count (drop from chunks) (omega (arith, length-drop from chunks, within))) in
    subst (Appends (g.W.Write.contents c.args.writer.now) (g.W.Write.contents c.write_bytes.new.writer))
    (c.part-rows.ensures.bytes ∙ bytes_of_rows chunk_row FitsChunk chunk_laws _ (1 + from) _ (1 + from) count some refl size) c.in_ok-write_bytes.ensures.bytes
