use Rattle.std.proofs.Common.{List, ◌++◌, take, flat_map}
use Rattle.std.specs.Io.KnownBytes.{Appends}
use Rattle.xet_records.specs.declared.xorb_structs.XorbChunkSequenceEntry.{XorbChunkSequenceEntry}
use Rattle.xet_records.specs.XorbRow.{xorb_header_row, chunk_row}
use Rattle.xet_records.specs.View.{Rewrites}
use Rattle.xet_records.proofs.xorb_structs.view.MDBXorbInfoView.serialize_with_chunk_rewrite.Given as goal

abbrev pub invariant-loop-index : goal.invariant-loop-index
invariant-loop-index g l =
    (rewritten : List XorbChunkSequenceEntry) × Rewrites (goal.F-post g l.rewrite) (take l.index l.self.chunks) rewritten
    × Appends (g.W.Write.contents l.fn.writer) (g.W.Write.contents l.writer) (xorb_header_row l.self.metadata ++ flat_map chunk_row rewritten)
