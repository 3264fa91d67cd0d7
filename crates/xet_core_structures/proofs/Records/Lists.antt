-- Sections that are read whole, with hashes that ascend.
use Rattle.std.proofs.Common.{◌≡◌, ℕ, List, drop, ap, subst, arith}
use Rattle.xet_base.specs.Source.{Source}
use Rattle.xet_records.specs.declared.file_structs.MDBFileInfo.{MDBFileInfo}
use Rattle.xet_records.specs.declared.xorb_structs.MDBXorbInfo.{MDBXorbInfo}
use Rattle.xet_records.specs.RecordKind.{RecordKind}
use Rattle.xet_records.specs.FileRecord.{file_records}
use Rattle.xet_records.specs.Version.{version_of}
use Rattle.xet_records.specs.XorbRecord.{xorb_records}
use Rattle.xet_records.proofs.RecordKinds.{KindLaws, xorb_laws}
use Rattle.xet_shards.specs.declared.shard_format.ends.info.MDBShardInfo.{MDBShardInfo}
use Rattle.xet_shards.specs.Write.WithOptions.{Ascends}
use Rattle.xet_shards.specs.Read.SectionReading.{files_of, IsSection, ReadsSection}
use Rattle.xet_shards.specs.Write.Section.{total_rows}
use Rattle.xet_shards.proofs.Write.Sections.{files_laws}
use Rattle.xet_core_structures.specs.Records.ShardContents.{xorbs_at, ReadsOnlySections}
use Rattle.xet_core_structures.specs.Steps.ShardContentsSteps.{IsListOf, HoldsLists}
use Rattle.xet_core_structures.proofs.Records.ShardContents.{rows_handed}
use Rattle.xet_core_structures.proofs.Records.RecordsAsRead.{all_handed}

module _ {H R : Type 0} (K : RecordKind H R) (laws : KindLaws K) (old new : Source) (at : ℕ) where
  list_read : (found : List R) → ReadsSection K old new at found → Ascends K found → IsListOf K (drop at old.bytes) found
  list_read found reads ascends = record {
    stored = reads.stored;
    section = reads.section;
    returned = reads.returned;
    writable = record {
      stored = all_handed K laws reads.stored found reads.section.records.are_stored reads.returned;
      ascends = ascends;
      rows = omega (arith, reads.section.records.rows, rows_handed K laws reads.stored, ap (total_rows K) reads.returned);
    };
  }

-- both sections of an input, one after the other
module _ (old mid new : Source) (info : MDBShardInfo) (files : List MDBFileInfo) (xorbs : List MDBXorbInfo)
    (read : ReadsSection (files_of info) old mid info.metadata.file_info_offset files) (further : ReadsSection xorb_records mid new info.metadata.xorb_info_offset xorbs) where
  same_bytes : mid.bytes ≡ old.bytes
  same_bytes = ap (λ (s : Source). s.bytes) read.after

  pub sections_read : ReadsOnlySections info old new
  sections_read = record {
    files = read.stored;
    xorbs = further.stored;
    are_files = read.section;
    are_xorbs = subst (λ bytes. IsSection xorb_records (xorbs_at bytes info) further.stored) same_bytes further.section;
    seeks = omega (arith, ap (λ (s : Source). s.seeks) further.after, ap (λ (s : Source). s.seeks) read.after);
    read = omega (arith, ap (λ (s : Source). s.read) further.after, ap (λ (s : Source). s.read) read.after);
  }

  pub lists_read : Ascends file_records files → Ascends xorb_records xorbs → HoldsLists old.bytes info files xorbs
  lists_read files_ascend xorbs_ascend = record {
    files = list_read (files_of info) (files_laws (version_of info.header.version)) old mid info.metadata.file_info_offset files read files_ascend;
    xorbs = subst (λ bytes. IsListOf xorb_records (xorbs_at bytes info) xorbs) same_bytes
        (list_read xorb_records xorb_laws mid new info.metadata.xorb_info_offset xorbs further xorbs_ascend);
  }
