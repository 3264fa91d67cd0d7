use Rattle.std.proofs.Common.{refl, sym, ap, ◌∙◌}
use Rattle.std.proofs.lemmas.List.{map-id}
use Rattle.xet_records.specs.declared.xorb_structs.XorbChunkSequenceHeader.{XorbChunkSequenceHeader}
use Rattle.xet_records.specs.declared.xorb_structs.XorbChunkSequenceEntry.{XorbChunkSequenceEntry}
use Rattle.xet_records.specs.XorbRow.{chunk_row, FitsChunk}
use Rattle.xet_records.proofs.RowsWithin.{chunk_laws, rows_from_index}
use Rattle.xet_records.proofs.Views.{has_chunks}
use Rattle.placed_shards.proofs.Shown.{xorb_shown}
use Rattle.placed_shards.proofs.values.read_xorb.Goals as goal

pub returns : goal.returns
returns c =
    let x = c.args.xorb.now in
    let bytes = c.bytes.result.now in
    let stored = c.is_stored.ensures.stored in
    let header = c.header-metadata.ensures in
    let count = ap (λ (h : XorbChunkSequenceHeader). h.num_entries) header ∙ sym stored.count in
    let chunks = rows_from_index chunk_row FitsChunk chunk_laws (λ (e : XorbChunkSequenceEntry). e) bytes 1 x.chunks 1 c.header-metadata.result.num_entries c.in_ok-chunks.chunks
    (has_chunks x.metadata bytes x (xorb_shown x bytes stored c.bytes.ensures.bytes)) refl count c.in_ok-chunks.ensures.ok in
    λ i. record { metadata = header i; chunks = (chunks ∙ map-id x.chunks) i }
