use Rattle.std.proofs.Common.{◌∙◌, ◌&&◌, not}
use Rattle.xet_records.specs.Part.{announces, flags_of}
use Rattle.xet_records.proofs.PartSets.{in_set}
use Rattle.xet_records.proofs.file_structs.header.FileDataSequenceHeader.gained_parts.Goals as goal

pub returns : goal.returns
returns c =
    let other = in_set c.parts.result (announces c.args.other.now.file_flags) c.parts.ensures in
    let own = in_set c.parts-2.result (announces c.args.self.now.file_flags) c.parts-2.ensures in
    c.without.ensures ∙ (λ i. flags_of (λ part. other part i && not (own part i)))
