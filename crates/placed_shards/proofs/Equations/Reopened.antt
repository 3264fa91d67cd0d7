-- A shard that was opened can be written, and opened as the same shard.
use Rattle.std.proofs.Common.{◌≡◌, ℕ, List, [], ◌∷◌, map, refl, sym, ap, subst, arith}
use Rattle.std.specs.Prelude.{All}
use Rattle.std.proofs.lemmas.List.Folds.{list_any_none}
use Rattle.xet_records.specs.declared.file_structs.MDBFileInfo.{MDBFileInfo}
use Rattle.xet_records.specs.declared.record_reader.FormatVersion.{FormatVersion}
use Rattle.xet_records.specs.declared.record_reader.FormatVersion.TheVariants.{V2, V3}
use Rattle.xet_records.specs.FileRecord.{as_read, file_records, file_records_in, has_aux_ext}
use Rattle.xet_records.specs.Version.{version_of}
use Rattle.xet_shards.specs.declared.shard_format.ends.options.LayoutOptions.{LayoutOptions}
use Rattle.xet_shards.specs.Write.WithOptions.{FitsSection}
use Rattle.xet_shards.proofs.Write.Sections.{fits_ever}
use Rattle.xet_core_structures.specs.Trees.ExportTrees.{FitsOptions}
use Rattle.xet_core_structures.proofs.TwoShards.Readable.{handed_twice}
use Rattle.placed_shards.specs.Content.{Content, HasFilesIn, content_layout}
use Rattle.placed_shards.specs.Findings.{HasFormedRecords}
use Rattle.placed_shards.specs.Laws.{options_named, AreAsRead, IsWellFormedShard, IsWritable}
use Rattle.placed_shards.specs.Opening.{Opens}
use Rattle.placed_shards.proofs.Equations.Written.{opened}
use Rattle.placed_shards.proofs.Opening.{opened_ascend}

all_twice : (fs : List MDBFileInfo) → map as_read (map as_read fs) ≡ map as_read fs
all_twice [] = refl
all_twice (f ∷ fs) = λ i. handed_twice f i ∷ all_twice fs i

-- the version of a section has the files that are stored in it
pub has_files : (version : FormatVersion) (c : Content) → All (file_records_in version).IsStored c.files → HasFilesIn version c
has_files V2 c stored = list_any_none (λ (r : MDBFileInfo). has_aux_ext r.metadata.file_flags) c.files (λ k r below. (stored k r below).1)
has_files V3 c stored = tt

module _ (bytes : List ℕ) (c : Content) (opens : Opens bytes c) where
  are_read : AreAsRead c
  are_read = subst (λ fs. map as_read fs ≡ fs) opens.lists.files.returned (all_twice opens.lists.files.stored)

  options_fit : FitsOptions c.options
  options_fit =
      let widths = opens.ends.footer_widths in
      subst FitsOptions (sym opens.options_are) (record { key = widths.key; creation = widths.timestamps 0 0 (omega arith); expiry = widths.timestamps 1 0 (omega arith) })

  pub can_be_written : IsWritable c.options.version c
  can_be_written =
      let version : FormatVersion = version_of opens.info.header.version in
      let files = opens.lists.files.writable in
      let xorbs = opens.lists.xorbs.writable in
      let fit : FitsSection (file_records_in version) c.files = record { stored = files.stored; rows = files.rows } in
      subst (λ v. IsWritable v c) (sym (ap (λ (o : LayoutOptions). o.version) opens.options_are)) (record {
        files_fit = fits_ever file_records version c.files fit;
        xorbs_fit = record { stored = xorbs.stored; rows = xorbs.rows };
        ascend = opened_ascend bytes c opens;
        has_files = has_files version c files.stored;
        options_fit = options_fit;
      })

  pub opened_the_same : Opens (content_layout c.options.version c) (record c { options = options_named c.options.version c })
  opened_the_same =
      subst (λ fs. Opens (content_layout c.options.version c) (record { files = fs; xorbs = c.xorbs; options = options_named c.options.version c })) are_read
      (opened c.options.version c can_be_written)

  pub opened_well_formed : HasFormedRecords c → IsWellFormedShard c
  opened_well_formed formed = record {
    ascend = opened_ascend bytes c opens;
    formed = formed;
    file_rows = opens.lists.files.writable.rows;
    xorb_rows = opens.lists.xorbs.writable.rows;
  }
