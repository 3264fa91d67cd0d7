-- Bytes that a shard is written as are opened as that shard.
use Rattle.std.proofs.Common.{◌≡◌, ℕ, Bool, true, false, ◌||◌, ◌&&◌, List, [], ◌∷◌, length, refl, sym, ap, ◌∙◌, true≢false}
use Rattle.std.specs.Prelude.{All, nat_lt}
use Rattle.std.specs.List.{list_any}
use Rattle.std.proofs.lemmas.List.Elements.{All-cons, All-nil}
use Rattle.xet_records.specs.declared.file_structs.MDBFileInfo.{MDBFileInfo}
use Rattle.xet_records.specs.declared.record_reader.FormatVersion.{FormatVersion}
use Rattle.xet_records.specs.declared.record_reader.FormatVersion.TheVariants.{V2, V3}
use Rattle.xet_records.specs.FileRecord.{file_records, file_records_in, has_aux_ext}
use Rattle.xet_records.specs.XorbRecord.{xorb_records}
use Rattle.xet_records.proofs.RecordKinds.{version_known}
use Rattle.xet_shards.specs.Ends.Ends.{HasHeaderAndFooter}
use Rattle.xet_shards.specs.Read.SectionsBehindHeader.{options_of}
use Rattle.xet_shards.specs.Write.Layout.{if_included, info_of, layout_of}
use Rattle.xet_shards.specs.Write.Tables.{chunk_table, starts}
use Rattle.xet_shards.specs.Write.WithOptions.{FitsSection}
use Rattle.xet_shards.specs.declared.shard_format.ends.info.MDBShardInfo.{MDBShardInfo}
use Rattle.xet_shards.specs.declared.shard_format.ends.options.LayoutOptions.{LayoutOptions}
use Rattle.xet_shards.proofs.Read.SectionsOfBytes.{form_again}
use Rattle.xet_shards.proofs.Read.Readback.{file_section_in, xorb_section_in}
use Rattle.xet_shards.proofs.Read.WholeSections.{layout_ends}
use Rattle.xet_shards.proofs.Write.Tables.{length-starts}
use Rattle.xet_core_structures.specs.Records.ShardContents.{files_at, xorbs_at}
use Rattle.placed_shards.specs.Content.{Content, HasFilesIn, content_layout, options_in}
use Rattle.placed_shards.specs.Laws.{opened_again, options_named, AreAsRead, IsWritable}
use Rattle.placed_shards.specs.Opening.{Opens}
use Rattle.placed_shards.proofs.Opening.{opens_once, shard_opened}

-- the options that the header and the footer name
row_named : {X : Type 0} (b : Bool) (rows : List X) (n : ℕ) → length rows ≡ n → (b && nat_lt 0 n) ≡ nat_lt 0 (length (if_included b rows))
row_named true rows n same = ap (nat_lt 0) (sym same)
row_named false rows n same = refl

abbrev info : FormatVersion → Content → MDBShardInfo
info version c = info_of c.files c.xorbs (options_in version c)

are_named : (version : FormatVersion) (c : Content) → options_named version c ≡ options_of (info version c)
are_named version c = λ i. record c.options {
  version = sym (version_known version) i;
  file_table = row_named c.options.file_table (starts file_records c.files) (length c.files) (length-starts file_records c.files) i;
  xorb_table = row_named c.options.xorb_table (starts xorb_records c.xorbs) (length c.xorbs) (length-starts xorb_records c.xorbs) i;
  chunk_table = row_named c.options.chunk_table (chunk_table c.xorbs) (length (chunk_table c.xorbs)) refl i;
}

-- files without auxiliary rows are stored in version 2
none_new : (fs : List MDBFileInfo) → list_any (λ r. has_aux_ext r.metadata.file_flags) fs ≡ false → All (λ r. has_aux_ext r.metadata.file_flags ≡ false) fs
none_new [] none = All-nil (λ (r : MDBFileInfo). has_aux_ext r.metadata.file_flags ≡ false)
none_new (f ∷ fs) none =
    let parts = neither (has_aux_ext f.metadata.file_flags) (list_any (λ r. has_aux_ext r.metadata.file_flags) fs) none in
    All-cons (λ (r : MDBFileInfo). has_aux_ext r.metadata.file_flags ≡ false) f fs parts.0 (none_new fs parts.1)
  where
    neither : (a b : Bool) → (a || b) ≡ false → (a ≡ false) × (b ≡ false)
    neither true b is = absurd (true≢false is)
    neither false b is = (refl, is)

fit_in : (version : FormatVersion) (c : Content) → FitsSection file_records c.files → HasFilesIn version c → FitsSection (file_records_in version) c.files
fit_in V2 c fits has = record { stored = λ k r below. (fits.stored k r below, none_new c.files has k r below); rows = fits.rows }
fit_in V3 c fits has = fits

pub opened : (version : FormatVersion) (c : Content) → IsWritable version c → Opens (content_layout version c) (opened_again version c)
opened version c writable =
    let options : LayoutOptions = options_in version c in
    let bytes : List ℕ = content_layout version c in
    let fit = fit_in version c writable.files_fit writable.has_files in
    let ends : HasHeaderAndFooter bytes (info version c) = layout_ends c.files c.xorbs options fit writable.xorbs_fit writable.options_fit.key writable.options_fit.creation writable.options_fit.expiry in
    shard_opened bytes (info version c) version (files_at bytes (info version c)) (sym (version_known version)) refl c.files (file_section_in c.files c.xorbs options fit) writable.ascend.files
    (xorbs_at bytes (info version c)) c.xorbs refl (xorb_section_in c.files c.xorbs options writable.xorbs_fit) writable.ascend.xorbs ends (options_named version c) (are_named version c)

pub only_opened : (version : FormatVersion) (c d : Content) → IsWritable version c → Opens (content_layout version c) d → d ≡ opened_again version c
only_opened version c d writable opens = opens_once (content_layout version c) d (opened_again version c) opens (opened version c writable)

-- it is written as the same bytes
pub written_again : (version : FormatVersion) (c : Content) → AreAsRead c → content_layout version (opened_again version c) ≡ content_layout version c
written_again version c read = (λ i. layout_of (read i) c.xorbs (are_named version c i)) ∙ form_again c.files c.xorbs (options_in version c)

pub same_bytes : (v w : FormatVersion) (c d e : Content) → IsWritable v c → IsWritable w d → AreAsRead c → AreAsRead d → Opens (content_layout v c) e → Opens (content_layout w d) e
    → content_layout v c ≡ content_layout w d
same_bytes v w c d e one other c_read d_read from_c from_d =
    let same : opened_again v c ≡ opened_again w d = sym (only_opened v c e one from_c) ∙ only_opened w d e other from_d in
    let version : v ≡ w = ap (λ (x : Content). x.options.version) same in
    sym (written_again v c c_read) ∙ (λ i. content_layout (version i) (same i)) ∙ written_again w d d_read
