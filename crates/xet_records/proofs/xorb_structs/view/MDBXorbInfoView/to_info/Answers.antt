use Rattle.std.proofs.Common.{refl, sym, ◌∙◌, arith}
use Rattle.std.proofs.lemmas.List.{map-id}
use Rattle.xet_records.specs.XorbRow.{chunk_row, FitsChunk}
use Rattle.xet_records.specs.XorbRecord.{xorb_records}
use Rattle.xet_records.specs.View.{IsWholeXorb}
use Rattle.xet_records.proofs.RowsWithin.{chunk_laws, rows_within, rows_from_index}
use Rattle.xet_records.proofs.Views.{shown_as, has_chunks}
use Rattle.xet_records.proofs.xorb_structs.view.MDBXorbInfoView.to_info.Goals as goal

pub rows-requires : goal.rows-requires
rows-requires c =
    let shown = shown_as xorb_records IsWholeXorb c.self.inside.header _ c.as_slice.result.now _ _ (sym c.as_slice.ensures) c.self.view_is c.self.invariant in
    omega (arith, rows_within chunk_row FitsChunk chunk_laws _ _ _ (has_chunks _ _ _ shown), c.num_entries.ensures)

pub returns : goal.returns
returns c =
    let shown = shown_as xorb_records IsWholeXorb c.self.inside.header _ c.as_slice.result.now _ _ (sym c.as_slice.ensures) c.self.view_is c.self.invariant in
    let chunks = rows_from_index chunk_row FitsChunk chunk_laws (λ c. c) _ _ _ _ _ _ (has_chunks _ _ _ shown) refl c.num_entries.ensures c.in_ok-chunks.ensures.ok ∙ map-id _ in (
      (λ i. record {
        metadata = (c.new-metadata.ensures ∙ (λ j. record {
          xorb_hash = (sym shown.same_header j).xorb_hash;
          xorb_flags = 0;
          num_entries = (sym shown.same_header j).num_entries;
          num_bytes_in_xorb = c.in-Some.ensures.0 j;
          num_bytes_on_disk = 0;
        })) i;
        chunks = chunks i;
      }),
      omega (arith, c.in-Some.ensures.0, c.in-Some.ensures.1),
    )
