use Rattle.std.proofs.Common.{◌≡◌, false, not, sym, ap, ◌∙◌, subst}
use Rattle.std.specs.Prelude.{◌↔◌, IsTrue}
use Rattle.std.specs.List.{list_any}
use Rattle.xet_records.specs.FileRecord.{has_aux_ext}
use Rattle.placed_shards.specs.Content.{content, HasFilesIn}
use Rattle.placed_shards.proofs.Contents.{any_files, not_iff}
use Rattle.placed_shards.proofs.placed_shard.PlacedShard.has_files_in.Goals as goal

pub returns-in-V2 : goal.returns-in-V2
returns-in-V2 c =
    let s = c.args.self.now in
    let is = c.have_new.ensures ∙ ap (list_any (λ r. has_aux_ext r.metadata.file_flags)) c.as_slice.ensures.value ∙ sym (any_files s.as_read s.files.items) in
    subst (λ v. IsTrue (not c.have_new.result) ↔ HasFilesIn v (content s)) (sym c.in-V2.is) (subst (λ t. IsTrue (not c.have_new.result) ↔ (t ≡ false)) is (not_iff c.have_new.result))
