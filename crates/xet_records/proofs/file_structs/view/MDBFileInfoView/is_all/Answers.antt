use Rattle.std.proofs.Common.{refl, sym, ap, ◌∙◌}
use Rattle.xet_records.specs.declared.file_structs.header.FileDataSequenceHeader.{FileDataSequenceHeader}
use Rattle.xet_records.specs.Part.{announces}
use Rattle.xet_records.specs.FileRecord.{file_records}
use Rattle.xet_records.specs.View.{IsWholeFile}
use Rattle.xet_records.specs.Steps.ViewSteps.{keeps}
use Rattle.xet_records.proofs.Views.{shown_as}
use Rattle.xet_records.proofs.KeptParts.{all_kept}
use Rattle.xet_records.proofs.PartSets.{in_set}
use Rattle.xet_records.proofs.file_structs.view.MDBFileInfoView.is_all.Goals as goal

pub returns : goal.returns
returns c holds =
    let shown = shown_as file_records IsWholeFile c.self.inside.header c.self.inside.bytes _ _ _ refl c.self.view_is c.self.invariant in
    all_kept c.args.kept c.args.self.now shown.whole.parts (λ part has.
    sym (in_set c.parts.result (keeps c.args.kept) c.parts.ensures part)
    ∙ c.is_superset.ensures.0 holds part
    (in_set c.parts-2.result (announces c.self.inside.header.file_flags) c.parts-2.ensures part
    ∙ ap (λ (h : FileDataSequenceHeader). announces h.file_flags part) (sym shown.same_header) ∙ has))
