use Rattle.std.proofs.Common.{◌≡◌, true, sym, ap, ◌∙◌}
use Rattle.std.specs.Prelude.{not, ◌&&◌, ◌||◌}
use Rattle.xet_records.specs.declared.file_structs.header.FileDataSequenceHeader.{FileDataSequenceHeader}
use Rattle.xet_records.specs.FileRecord.{has_verification, has_aux_ext}
use Rattle.xet_records.proofs.KeptParts.{all_kept}
use Rattle.placed_shards.proofs.Kept.{none_dropped}
use Rattle.placed_shards.proofs.optional_parts.has_no_others.Goals as goal

pub returns : goal.returns
returns c holds =
    let r = c.args.file.now in
    let kept = c.args.kept in
    let is : ((kept.verification || not c.contains_verification.result) && (kept.aux_ext || not c.contains_aux_ext.result)) ≡ true = holds in
    let verification = c.contains_verification.ensures ∙ ap (λ (h : FileDataSequenceHeader). has_verification h.file_flags) c.header-header.ensures in
    let aux = c.contains_aux_ext.ensures ∙ ap (λ (h : FileDataSequenceHeader). has_aux_ext h.file_flags) c.header-header.ensures in
    all_kept kept r c.is_stored.ensures.stored.whole
    (none_dropped kept r.metadata.file_flags ((λ i. (kept.verification || not (sym verification i)) && (kept.aux_ext || not (sym aux i))) ∙ is))
