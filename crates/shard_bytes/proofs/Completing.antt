-- Bytes whose sections are written again with all tables hold the shard that follows their header.
use Rattle.std.proofs.Common.{◌≡◌, inl, inr, ℕ, List, length, map, refl, sym, ap, ◌∙◌, subst, arith}
use Rattle.std.specs.FinMap.{values}
use Rattle.std.proofs.lemmas.List.{map-id}
use Rattle.xet_base.specs.Hash.{IsHash}
use Rattle.xet_core_structures.specs.TwoShards.ByteResults.{keyed_options}
use Rattle.xet_core_structures.specs.declared.error.CoreError.{CoreError}
use Rattle.xet_core_structures.specs.declared.error.CoreError.TheVariants.{OutOfMemory}
use Rattle.xet_core_structures.specs.declared.file_structs.MDBFileInfo.{MDBFileInfo}
use Rattle.xet_core_structures.specs.declared.merklehash.DataHash.{DataHash}
use Rattle.xet_core_structures.specs.declared.xorb_structs.MDBXorbInfo.{MDBXorbInfo}
use Rattle.xet_core_structures.specs.FileRecord.{as_read, file_records, file_records_in}
use Rattle.xet_core_structures.specs.Layout.{info_of, layout_of}
use Rattle.xet_core_structures.specs.Records.ShardContents.{HoldsShard}
use Rattle.xet_core_structures.specs.Shard.{Shard, IsShard}
use Rattle.xet_core_structures.specs.WithOptions.{FitsSection}
use Rattle.xet_core_structures.specs.XorbRecord.{xorb_records}
use Rattle.xet_records.specs.declared.record_reader.FormatVersion.TheVariants.{V3}
use Rattle.xet_shards.specs.Read.SectionsBehindHeader.{HasSections}
use Rattle.xet_shards.proofs.Read.SectionsOfBytes.{only_sections}
use Rattle.xet_shards.proofs.Read.Readback.{file_section_in, xorb_section_in}
use Rattle.xet_shards.proofs.Read.WholeSections.{layout_ends}
use Rattle.xet_shards.proofs.Write.Sections.{fits_ever}
use Rattle.placed_shards.specs.Content.{Content, content_layout}
use Rattle.shard_bytes.specs.Completing.{Completes, RefusesCompletion}
use Rattle.shard_bytes.specs.Exporting.{FollowsHeader}
use Rattle.shard_bytes.specs.ResultSizes.{IsRewriteSize}
use Rattle.shard_bytes.proofs.RewriteSizes.{size_of_version}
use Rattle.shard_bytes.proofs.ExportedShards.{stored_files, stored_xorbs, sections, only_memory}

-- a shard follows the header
module _ (s : Shard) (shard : IsShard s) (bytes : List ℕ) (follows : FollowsHeader s bytes) where
  module _ (key : DataHash) (files : List MDBFileInfo) (xorbs : List MDBXorbInfo) (files_are : map as_read files ≡ values s.files) (xorbs_are : xorbs ≡ values s.xorbs)
      (files_fit : FitsSection (file_records_in V3) files) (xorbs_fit : FitsSection xorb_records xorbs) where
    holds_whole : IsHash key → HoldsShard key s (layout_of files xorbs (keyed_options key))
    holds_whole hash = record {
      shard = shard;
      has = record {
        info = info_of files xorbs (keyed_options key);
        ends = layout_ends files xorbs (keyed_options key) files_fit xorbs_fit hash (omega arith) (omega arith);
        holds = record {
          files = record { stored = files; section = file_section_in files xorbs (keyed_options key) files_fit; returned = files_are; keyed = shard.files.keyed };
          xorbs = record { stored = xorbs; section = xorb_section_in files xorbs (keyed_options key) xorbs_fit; returned = map-id xorbs ∙ xorbs_are; keyed = shard.xorbs.keyed };
        };
      };
      under = refl;
    }

  pub whole_holds : (key : DataHash) (out : List ℕ) → IsHash key → Completes key bytes out → HoldsShard key s out
  whole_holds key out hash c =
      let same = only_sections bytes c.files (stored_files s bytes follows) c.xorbs (stored_xorbs s bytes follows) c.sections (sections s bytes follows) in
      let xorbs_are : c.xorbs ≡ values s.xorbs = same.1 ∙ sym (map-id (stored_xorbs s bytes follows)) ∙ follows.xorbs.returned in
      let files_fit = fits_ever file_records c.sections.header.version c.files (record { stored = c.sections.file_section.records.are_stored; rows = c.sections.file_section.records.rows }) in
      subst (HoldsShard key s) (sym c.written)
      (holds_whole key c.files c.xorbs (ap (map as_read) same.0 ∙ follows.files.returned) xorbs_are files_fit
      (record { stored = c.sections.xorb_section.records.are_stored; rows = c.sections.xorb_section.records.rows }) hash)

  -- and only memory can be lacking
  pub only_memory_lacks : (e : CoreError) → RefusesCompletion bytes e → e ≡ OutOfMemory
  only_memory_lacks e (inl is) = is
  only_memory_lacks e (inr (read, case)) = only_memory s bytes follows e read case

-- what is written of the completed shard
pub completes_made : (key : DataHash) (bytes : List ℕ) (made : Content) (out : List ℕ) → (files : List MDBFileInfo) × (xorbs : List MDBXorbInfo) × HasSections bytes files xorbs × (made ≡ record { files = files; xorbs = xorbs; options = keyed_options key })
    → out ≡ content_layout V3 made → Completes key bytes out
completes_made key bytes made out (files, xorbs, sections, made_is) is = record { files = files; xorbs = xorbs; sections = sections; written = is ∙ ap (content_layout V3) made_is }

pub size_completed : (key : DataHash) (bytes out : List ℕ) → Completes key bytes out → IsRewriteSize bytes (length out)
size_completed key bytes out c =
    subst (λ (zs : List ℕ). IsRewriteSize bytes (length zs)) (sym c.written)
    (size_of_version bytes c.sections.header.version c.files c.xorbs c.sections.file_section c.sections.xorb_section (keyed_options key))
