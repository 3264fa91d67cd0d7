-- What is made in a version of the format.
use Rattle.std.proofs.Common.{◌≡◌, inl, ℕ, List, length, sym, ap, ◌∙◌, subst, arith}
use Rattle.xet_core_structures.specs.declared.error.CoreError.{CoreError}
use Rattle.xet_core_structures.specs.declared.file_structs.MDBFileInfo.{MDBFileInfo}
use Rattle.xet_core_structures.specs.declared.xorb_structs.MDBXorbInfo.{MDBXorbInfo}
use Rattle.xet_shards.specs.Write.Layout.{header_value, layout_of}
use Rattle.xet_shards.proofs.Write.Layouts.{length-shard_header_bytes}
use Rattle.xet_shards.proofs.Write.XorbLayouts.{length-parts}
use Rattle.xet_records.specs.declared.record_reader.FormatVersion.{FormatVersion}
use Rattle.xet_records.specs.declared.record_reader.FormatVersion.TheVariants.{V2, V3}
use Rattle.xet_shards.specs.declared.shard_writer.LayoutOptions.{LayoutOptions}
use Rattle.placed_shards.specs.Content.{content_layout}
use Rattle.shard_bytes.specs.Versions.{LaidOutIn, NotLaidOutIn}

-- what is made of records that a call lays out
module _ (Makes : List ℕ → Type 0) (Refuses : CoreError → Type 0) where
  pub not_laid_out_for : (version : FormatVersion) (e : CoreError) → Refuses e → NotLaidOutIn version Makes Refuses e
  not_laid_out_for V3 e cause = cause
  not_laid_out_for V2 e cause = inl cause

-- a layout has one size in both versions
size_of_both : (files : List MDBFileInfo) (xorbs : List MDBXorbInfo) (options : LayoutOptions) → length (layout_of files xorbs (record options { version = V2 })) ≡ length (layout_of files xorbs (record options { version = V3 }))
size_of_both files xorbs options =
    omega (
      arith,
      length-parts files xorbs (record options { version = V2 }),
      length-parts files xorbs (record options { version = V3 }),
      length-shard_header_bytes (header_value V2),
      length-shard_header_bytes (header_value V3),
    )

-- what is said of the size of all that is laid out
pub size_laid_out : (version : FormatVersion) (Makes : List ℕ → Type 0) (Says : ℕ → Type 0) (out : List ℕ) → ((bytes : List ℕ) → Makes bytes → Says (length bytes)) → LaidOutIn version Makes out → Says (length out)
size_laid_out V3 Makes Says out says makes = says out makes
size_laid_out V2 Makes Says out says (made, (makes, fit), has, is) =
    subst Says (sym (ap length is ∙ size_of_both made.files made.xorbs made.options)) (says (content_layout V3 made) makes)
