use Rattle.std.proofs.Common.{◌∙◌, sym}
use Rattle.xet_records.specs.Part.{announces}
use Rattle.xet_records.proofs.PartSets.{in_set}
use Rattle.xet_records.proofs.file_structs.MDBFileInfo.contains_parts_of.Goals as goal

pub returns : goal.returns
returns c =
    let own = in_set c.parts-own.result (announces c.args.self.now.metadata.file_flags) c.parts-own.ensures in
    let others = in_set c.parts-others.result (announces c.args.other.now.metadata.file_flags) c.parts-others.ensures in (
      λ yes part has. sym (own part) ∙ c.is_superset.ensures.0 yes part (others part ∙ has),
      λ each. c.is_superset.ensures.1 (λ part has. own part ∙ each part (sym (others part) ∙ has)),
    )
