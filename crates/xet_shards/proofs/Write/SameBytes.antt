-- The bytes of a shard determine its contents: shards with equal bytes are equal and have the same expiry.
use Rattle.std.proofs.Common.{◌≡◌, ℕ, ◌+◌, ◌^◌, ◌<◌, List, [], ◌∷◌, length, map, drop, Option, refl, sym, ap, ◌∙◌, subst, arith}
use Rattle.std.specs.Prelude.{All, IfSome}
use Rattle.std.specs.FinMap.{FinMap, entries, values, same_entries_map}
use Rattle.std.proofs.lemmas.List.Elements.{All-drop}
use Rattle.xet_base.specs.declared.merklehash.DataHash.{DataHash}
use Rattle.xet_base.specs.Hash.{hash_cmp}
use Rattle.xet_records.specs.declared.record_reader.FormatVersion.TheVariants.{V3}
use Rattle.xet_shards.proofs.Write.Sections.{files_fit}
use Rattle.xet_records.specs.FileRecord.{file_records}
use Rattle.xet_records.specs.XorbRecord.{xorb_records}
use Rattle.xet_records.proofs.RecordKinds.{file_laws, xorb_laws}
use Rattle.xet_shards.specs.declared.shard_format.ends.info.MDBShardInfo.{MDBShardInfo}
use Rattle.xet_shards.specs.Content.Shard.{Shard, IsShard, file_hash_of, xorb_hash_of}
use Rattle.xet_shards.specs.Write.Section.{section_bytes}
use Rattle.xet_shards.specs.Read.SectionReading.{IsSection}
use Rattle.xet_shards.specs.Write.Layout.{layout_of, layout, plain_options, info_value}
use Rattle.xet_shards.specs.Ends.Ends.{HasHeaderAndFooter}
use Rattle.xet_shards.proofs.Read.SectionUnique.{only_list}
use Rattle.xet_shards.proofs.Read.Readback.{section_of_shard, xorb_section_of_shard}
use Rattle.xet_shards.proofs.Ends.EndsUnique.{only_info, ends_of_layout}
use Rattle.xet_shards.proofs.Ends.Widths.{fits_written}

-- a map whose keys follow from its values is determined by its values
module _ {X : Type 0} (key : X → DataHash) where
  entries_of : (es : List (DataHash × X)) → All (λ e. e.0 ≡ key e.1) es → es ≡ map (λ r. (key r, r)) (map (λ e. e.1) es)
  entries_of [] keyed = refl
  entries_of (e ∷ es) keyed =
      let here : e.0 ≡ key e.1 = keyed 0 e (omega arith) in
      λ i. (here i, e.1) ∷ entries_of es (All-drop (λ (d : DataHash × X). d.0 ≡ key d.1) 1 (e ∷ es) keyed) i

  pub same_values : (m n : FinMap hash_cmp X) → All (λ e. e.0 ≡ key e.1) (entries m) → All (λ e. e.0 ≡ key e.1) (entries n) → values m ≡ values n → m ≡ n
  same_values m n m_keyed n_keyed same =
      same_entries_map m n (entries_of (entries m) m_keyed ∙ ap (map (λ r. (key r, r))) same ∙ sym (entries_of (entries n) n_keyed))

-- two shards with the same bytes, whatever their expiries
module _ (s t : Shard) (e f : Option ℕ) (s_shard : IsShard s) (t_shard : IsShard t) (same : layout s e ≡ layout t f) where
  files_same : values s.files ≡ values t.files
  files_same =
      only_list file_records file_laws (drop 48 (layout t f)) (values s.files) (values t.files)
      (subst (λ bs. IsSection file_records (drop 48 bs) (values s.files)) same (section_of_shard V3 s e (files_fit s s_shard))) (section_of_shard V3 t f (files_fit t t_shard))

  xorbs_same : values s.xorbs ≡ values t.xorbs
  xorbs_same =
      let at : 48 + length (section_bytes file_records (values s.files)) ≡ 48 + length (section_bytes file_records (values t.files)) = ap (λ rs. 48 + length (section_bytes file_records rs)) files_same in
      only_list xorb_records xorb_laws (drop (48 + length (section_bytes file_records (values t.files))) (layout t f)) (values s.xorbs) (values t.xorbs)
      (subst (λ bs. IsSection xorb_records bs (values s.xorbs)) (λ i. drop (at i) (same i)) (xorb_section_of_shard V3 s e s_shard)) (xorb_section_of_shard V3 t f t_shard)

  pub same_bytes : s ≡ t
  same_bytes =
      let files = same_values file_hash_of s.files t.files s_shard.files.keyed t_shard.files.keyed files_same in
      let xorbs = same_values xorb_hash_of s.xorbs t.xorbs s_shard.xorbs.keyed t_shard.xorbs.keyed xorbs_same in
      λ i. record { files = files i; xorbs = xorbs i }

  -- no expiry is stored as the greatest `u64`
  pub same_expiry : IfSome e (λ m. m < 2 ^ 64) → IfSome f (λ m. m < 2 ^ 64) → (plain_options e).expiry ≡ (plain_options f).expiry
  same_expiry e_fits f_fits =
      ap (λ (x : MDBShardInfo). x.metadata.shard_key_expiry)
      (only_info (layout t f) (info_value s e) (info_value t f)
      (subst (λ bs. HasHeaderAndFooter bs (info_value s e)) same (ends_of_layout (values s.files) (values s.xorbs) (plain_options e) (fits_written s e s_shard e_fits)))
      (ends_of_layout (values t.files) (values t.xorbs) (plain_options f) (fits_written t f t_shard f_fits)))

-- and equal layouts have equal parts
pub same_layout : (s t : Shard) (e f : Option ℕ) → s ≡ t → (plain_options e).expiry ≡ (plain_options f).expiry → layout s e ≡ layout t f
same_layout s t e f same timestamp =
    λ i. layout_of (values (same i).files) (values (same i).xorbs) (record (plain_options e) { expiry = timestamp i })
