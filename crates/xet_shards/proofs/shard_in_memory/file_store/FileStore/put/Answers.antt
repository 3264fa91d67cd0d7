use Rattle.std.proofs.Common.{◌≡◌, T, sym, ap, ◌∙◌, subst, refl}
use Rattle.std.specs.FinMap.{from_sorted, get, insert, is_sorted}
use Rattle.std.specs.Prelude.{unwrap_or}
use Rattle.std.proofs.lemmas.Map.Entries.{All-lookup}
use Rattle.xet_base.specs.Hash.{hash_cmp}
use Rattle.xet_base.proofs.HashOrder.{hash_cmp-IsTotalOrder, hash_cmp-IsAntisymmetric}
use Rattle.xet_records.specs.FileRecord.{row_count, IsWellFormed}
use Rattle.xet_shards.specs.Content.Shard.{AreFiles, file_hash_of}
use Rattle.xet_shards.proofs.Content.Maps.{finds_in_map, IfSome-lent, lent_map, from_sorted-insert_entry, sorted-insert_entry, All-insert_entry}
use Rattle.xet_shards.proofs.shard_in_memory.file_store.FileStore.put.Goals as goal

pub invariant_of-self-2 : goal.invariant_of-self-2
invariant_of-self-2 c =
    let es = c.self.inside.content.entries in
    let k = file_hash_of c.args.file_info in
    let before = c.self.invariant in
    let after = sym c.in_ok-replaced.ensures.entries in
    record {
      sorted = subst (λ fs. T (is_sorted hash_cmp fs)) after (sorted-insert_entry hash_cmp-IsTotalOrder hash_cmp-IsAntisymmetric es k c.args.file_info before.sorted);
      files = subst AreFiles after record {
        keyed = All-insert_entry hash_cmp-IsTotalOrder hash_cmp-IsAntisymmetric (λ e. e.0 ≡ file_hash_of e.1) es k c.args.file_info before.files.keyed refl;
        well_formed = All-insert_entry hash_cmp-IsTotalOrder hash_cmp-IsAntisymmetric (λ e. IsWellFormed e.1) es k c.args.file_info before.files.well_formed c.requires;
      };
    }

pub returns-clause-ok : goal.returns-clause-ok
returns-clause-ok c =
    let k = file_hash_of c.args.file_info in
    ap (from_sorted {R = hash_cmp}) c.in_ok-replaced.ensures.entries
    ∙ from_sorted-insert_entry hash_cmp-IsTotalOrder hash_cmp-IsAntisymmetric c.self.inside.content.entries k c.args.file_info c.self.invariant.sorted
    ∙ ap (λ m. insert m k c.args.file_info) c.self.view_is

pub row_count-requires : goal.row_count-requires
row_count-requires c = IfSome-lent IsWellFormed c.as_ref.result _ (c.as_ref.ensures.value ∙ c.in_ok-replaced.ensures.old) (All-lookup IsWellFormed _ _ c.self.invariant.files.well_formed)

pub returns-clause-replaced : goal.returns-clause-replaced
returns-clause-replaced c =
    let k = file_hash_of c.args.file_info in
    let file = c.as_ref.ensures.value ∙ c.in_ok-replaced.ensures.old ∙ finds_in_map hash_cmp-IsTotalOrder hash_cmp-IsAntisymmetric c.self.inside.content.entries k c.self.invariant.sorted ∙ ap (λ m. get m k) c.self.view_is in
    c.row_count.ensures ∙ ap (λ n. unwrap_or n 0) (lent_map row_count c.as_ref.result _ file)
