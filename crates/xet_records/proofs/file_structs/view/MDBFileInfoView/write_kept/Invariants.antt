use Rattle.std.proofs.Common.{take, flat_map}
use Rattle.std.specs.Io.KnownBytes.{Appends}
use Rattle.xet_records.specs.FileRow.{hash_row}
use Rattle.xet_records.specs.Part.{rows_of}
use Rattle.xet_records.specs.View.{as_kept}
use Rattle.xet_records.proofs.file_structs.view.MDBFileInfoView.write_kept.Given as goal

abbrev pub invariant-loop-part : goal.invariant-loop-part
invariant-loop-part g l =
    Appends (g.W.Write.contents l.initial.writer) (g.W.Write.contents l.writer)
    (flat_map (λ part. flat_map hash_row (rows_of part (as_kept l.kept l.self))) (take l.part-index l.part-items))
