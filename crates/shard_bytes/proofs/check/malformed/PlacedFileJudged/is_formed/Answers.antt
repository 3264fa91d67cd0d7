use Rattle.std.proofs.Common.{◌+◌, ◌*◌, drop, IsTrue, append-nil, rules, ap, ◌∙◌, subst}
use Rattle.xet_core_structures.specs.declared.file_structs.FileDataSequenceHeader.{FileDataSequenceHeader}
use Rattle.xet_core_structures.specs.FileRecord.{IsPlainHeader}
use Rattle.xet_records.specs.Part.{optional_rows}
use Rattle.placed_shards.proofs.Filling.{file_parts}
use Rattle.shard_bytes.proofs.Malformed.{file_formed}
use Rattle.shard_bytes.proofs.check.malformed.PlacedFileJudged.is_formed.Goals as goal

pub returns-then-is_plain : goal.returns-then-is_plain
returns-then-is_plain c =
    let f = c.args.self.now in
    let bytes = c.bytes.result.now in
    let parts = file_parts f bytes c.is_stored.ensures.stored c.bytes.ensures.bytes in
    let up : IsTrue c.is_plain.result = search rules in
    let plain : IsPlainHeader f.metadata = subst IsPlainHeader c.header-header.ensures (c.is_plain.ensures.0 up) in
    let optional = c.split_at.ensures.back ∙ ap (λ (h : FileDataSequenceHeader). drop (48 * (1 + h.num_entries)) bytes) c.header-header.ensures ∙ parts.optional ∙ append-nil _ in
    let clear = c.are_clear.ensures (optional_rows f) parts.fit optional in
    let formed = file_formed f c.is_stored.ensures.stored c.requires in
    (λ yes. formed.0 (plain, clear.0 yes), λ is. clear.1 (formed.1 is).1)
