use Rattle.std.proofs.Common.{Some, refl, sym, ap, ◌∙◌, arith}
use Rattle.xet_records.specs.XorbRow.{chunk_row, FitsChunk}
use Rattle.xet_records.specs.XorbRecord.{xorb_records}
use Rattle.xet_records.specs.View.{IsWholeXorb}
use Rattle.xet_records.proofs.RowsWithin.{chunk_laws, rows_within, row_at_index}
use Rattle.xet_records.proofs.Views.{shown_as, has_chunks}
use Rattle.xet_records.proofs.xorb_structs.view.MDBXorbInfoView.chunk.Goals as goal

pub row-requires : goal.row-requires
row-requires c =
    let shown = shown_as xorb_records IsWholeXorb c.self.inside.header _ c.as_slice.result.now _ _ (sym c.as_slice.ensures) c.self.view_is c.self.invariant in
    omega (arith, rows_within chunk_row FitsChunk chunk_laws _ _ _ (has_chunks _ _ _ shown), c.requires)

pub returns : goal.returns
returns c =
    let shown = shown_as xorb_records IsWholeXorb c.self.inside.header _ c.as_slice.result.now _ _ (sym c.as_slice.ensures) c.self.view_is c.self.invariant in
    let found = row_at_index chunk_row FitsChunk chunk_laws _ _ _ _ _ _ _ (has_chunks _ _ _ shown) c.requires refl c.row.ensures in
    found.1 ∙ ap Some found.2
