use Rattle.std.proofs.Common.{refl, arith, ap}
use Rattle.xet_records.specs.declared.file_structs.header.FileDataSequenceHeader.{FileDataSequenceHeader}
use Rattle.xet_records.specs.Part.{rows_before}
use Rattle.xet_records.specs.FileRecord.{file_records}
use Rattle.xet_records.specs.View.{IsWholeFile}
use Rattle.xet_records.proofs.Views.{shown_as}
use Rattle.xet_records.proofs.file_structs.view.MDBFileInfoView.start_of.Goals as goal

pub returns : goal.returns
returns c =
    let shown = shown_as file_records IsWholeFile c.self.inside.header _ _ _ _ refl c.self.view_is c.self.invariant in
    omega (
      arith,
      c.rows_before.ensures.rows,
      shown.whole.parts.segments,
      ap (λ (h : FileDataSequenceHeader). h.num_entries) shown.same_header,
      ap (rows_before c.args.part) shown.same_header,
    )
