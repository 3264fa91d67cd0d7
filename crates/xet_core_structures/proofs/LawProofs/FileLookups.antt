-- File lookups on the bytes of a shard under a key find its files, and so do those on the bytes of a tree of unions.
use Rattle.std.proofs.Common.{◌≡◌, ℕ, List, Option, Ok, Err, refl, sym, subst, arith, ap}
use Rattle.xet_shards.proofs.Write.Sections.{files_laws}
use Rattle.xet_shards.specs.Read.SectionReading.{files_of}
use Rattle.xet_records.specs.Version.{version_of}
use Rattle.std.specs.Prelude.{MatchResult}
use Rattle.std.specs.FinMap.{values}
use Rattle.std.specs.declared.result.Result.{Result}
use Rattle.xet_base.specs.declared.error.CoreError.{CoreError}
use Rattle.xet_base.specs.declared.merklehash.DataHash.{DataHash}
use Rattle.xet_base.specs.Source.{Source}
use Rattle.xet_records.specs.declared.file_structs.MDBFileInfo.{MDBFileInfo}
use Rattle.xet_records.specs.FileRecord.{file_records, file_records_in}
use Rattle.xet_records.specs.XorbRecord.{xorb_records}
use Rattle.xet_records.proofs.RecordKinds.{file_laws}
use Rattle.xet_shards.specs.declared.shard_format.ends.info.MDBShardInfo.{MDBShardInfo}
use Rattle.xet_shards.specs.Ends.Ends.{FitsFooter, HasHeaderAndFooter, Loads}
use Rattle.xet_shards.specs.Write.Layout.{plain_options_in}
use Rattle.xet_shards.specs.Lookup.Lookup.{FoundInShard, LookupFailsAmong, LooksUpRecord, file_table, LooksUpFile, FindsInShard}
use Rattle.xet_shards.specs.Content.SetOperations.{IsDifference}
use Rattle.xet_shards.specs.Content.Shard.{Shard}
use Rattle.xet_shards.specs.Write.Tables.{hash_in}
use Rattle.xet_shards.specs.Write.WrittenShard.{IsBytesWithInfo}
use Rattle.xet_shards.proofs.Ends.EndsUnique.{only_info, ends_of_layout}
use Rattle.xet_shards.proofs.Write.WithOptions.{no_file, files_in, files_of_shard}
use Rattle.xet_shards.proofs.Lookup.MapAnswers.{map_answers}
use Rattle.xet_shards.proofs.Lookup.ShardLookups.{lookup_written, bounds_ever}
use Rattle.xet_shards.proofs.Lookup.TableLookups.{IsLookedUp, lookup_answers, not_answered, lookup_bounded, collision_bounded}
use Rattle.xet_shards.proofs.Write.TableOrder.{hashes_ascend}
use Rattle.xet_shards.proofs.Ends.Widths.{fits_with_options}
use Rattle.xet_core_structures.specs.declared.set_operations.MergePlan.{MergePlan}
use Rattle.xet_core_structures.specs.declared.set_operations.MergePlan.TheVariants.{Leaf, Both'}
use Rattle.xet_core_structures.specs.Records.ByteUnion.{IsByteUnion}
use Rattle.xet_core_structures.specs.TwoShards.ByteResults.{keyed_options, keyed_layout, keyed_info, key_of, HaveResult, WritesResult}
use Rattle.xet_core_structures.specs.Trees.MergeTrees.{HasUnion, TreeWrites}
use Rattle.xet_core_structures.specs.TwoShards.Readable.{IsBytesUnderKey, WritesReadable}
use Rattle.xet_core_structures.proofs.TwoShards.Readable.{IsReadable, union_readable, difference_readable}

-- lookups on the bytes of a shard under a key
module _ (key : DataHash) (s : Shard) (info : MDBShardInfo) (old : Source) (is : IsBytesUnderKey key s old.bytes info) where
  is_looked_up : let footer = info.metadata in IsLookedUp file_records no_file (values s.files) footer.file_info_offset footer.file_lookup_offset footer.file_lookup_num_entry old
  is_looked_up = files_in (values s.files) (values s.xorbs) (keyed_options key) old info.metadata is.with_options is.files_ascend refl

  -- the header is that of the bytes, so files are read in version 3
  info_is : info ≡ keyed_info s key
  info_is = only_info old.bytes info (keyed_info s key) is.ends (subst (λ bytes. HasHeaderAndFooter bytes (keyed_info s key)) (sym is.with_options.bytes_are)
      (ends_of_layout (values s.files) (values s.xorbs) (keyed_options key) (subst FitsFooter is.with_options.footer_is is.ends.footer_widths)))

  looks_in_3 : (hash : DataHash) (new : Source) (found : Result (Option MDBFileInfo) CoreError) → LooksUpFile info hash old new found
      → LooksUpRecord file_records (file_table info.metadata old) info.metadata.file_info_offset hash old new found
  looks_in_3 hash new found looks =
      subst (λ v. LooksUpRecord (file_records_in v) (file_table info.metadata old) info.metadata.file_info_offset hash old new found) (ap (λ (k : MDBShardInfo). version_of k.header.version) info_is) looks

  found_answer : (hash : DataHash) (new : Source) (found : Result (Option MDBFileInfo) CoreError) → LooksUpRecord file_records (file_table info.metadata old) info.metadata.file_info_offset hash old new found
      → MatchResult found (FoundInShard s hash) (LookupFailsAmong file_records (values s.files) hash old new)
  found_answer hash new (Ok answer) looks =
      let among = lookup_answers file_records file_laws no_file (values s.files) _ _ _ old is_looked_up hash new answer looks.read in
      (among.0, map_answers file_records no_file s.files is.files.keyed is.files.unchanged hash answer among.1)
  found_answer hash new (Err e) looks = not_answered file_records file_laws no_file (values s.files) _ _ _ old is_looked_up hash new e looks.read

  pub found_under : (hash : DataHash) (new : Source) (found : Result (Option MDBFileInfo) CoreError) → LooksUpFile info hash old new found → FindsInShard s hash old new found
  found_under hash new found looks = record {
    answer = found_answer hash new found (looks_in_3 hash new found looks);
    costs = lookup_bounded file_records file_laws no_file (values s.files) _ _ _ old is_looked_up new hash found (looks_in_3 hash new found looks);
    collision = collision_bounded file_records file_laws no_file (values s.files) _ _ _ old is_looked_up new hash found (looks_in_3 hash new found looks);
  }

  -- header and footer are read as they were returned
  pub loaded_under : (new : Source) (found : MDBShardInfo) → Loads old new found → found ≡ info
  loaded_under new found loads = only_info old.bytes found info loads.ends is.ends

-- a readable shard is written so
written_under : (key : DataHash) (s : Shard) → IsReadable s → FitsFooter (keyed_info s key).metadata → IsBytesUnderKey key s (keyed_layout s key) (keyed_info s key)
written_under key s is fits = record {
  files = is.files;
  xorbs = is.xorbs;
  files_ascend = hashes_ascend (hash_in file_records) s.files is.files.keyed;
  xorbs_ascend = hashes_ascend (hash_in xorb_records) s.xorbs is.xorbs.keyed;
  with_options = record { files_fit = is.files.fits; xorbs_fit = is.xorbs.fits; bytes_are = refl; footer_is = refl };
  ends = ends_of_layout (values s.files) (values s.xorbs) (keyed_options key) fits;
}

-- what a union or a difference writes
module _ (x : List ℕ) (i : MDBShardInfo) (y : List ℕ) (j : MDBShardInfo) (old new : Option (List ℕ)) (info : MDBShardInfo) (fits : FitsFooter info.metadata) where
  with_options : (IsResult : Shard → Shard → Shard → Type 0) → ((c : Shard) → HaveResult IsResult x i y j c → IsReadable c) → WritesResult IsResult x i y j old new info
      → WritesReadable IsResult x i y j old new info
  with_options IsResult readable (c, have, is, appends) = (
    c,
    keyed_layout c (key_of i),
    have,
    subst (IsBytesUnderKey (key_of i) c (keyed_layout c (key_of i))) (sym is)
        (written_under (key_of i) c (readable c have) (subst (λ (k : MDBShardInfo). FitsFooter k.metadata) is fits)),
    appends,
  )

  pub union_with_options : WritesResult IsByteUnion x i y j old new info → WritesReadable IsByteUnion x i y j old new info
  union_with_options = with_options IsByteUnion (union_readable x i y j)

  pub difference_with_options : WritesResult IsDifference x i y j old new info → WritesReadable IsDifference x i y j old new info
  difference_with_options = with_options IsDifference (difference_readable x i y j)

-- what is written of a readable shard under the key of an input
pub under_key_of : (x : List ℕ) (i : MDBShardInfo) (c : Shard) → HasHeaderAndFooter x i → IsReadable c → IsBytesUnderKey (key_of i) c (keyed_layout c (key_of i)) (keyed_info c (key_of i))
under_key_of x i c x_ends readable =
    written_under (key_of i) c readable
    (fits_with_options (values c.files) (values c.xorbs) (keyed_options (key_of i)) readable.files.fits readable.xorbs.fits x_ends.footer_widths.key (omega arith) (omega arith))

-- what a union or a difference of bytes writes
pub union_under : (x : List ℕ) (i : MDBShardInfo) (y : List ℕ) (j : MDBShardInfo) (c : Shard) → HasHeaderAndFooter x i → HaveResult IsByteUnion x i y j c
    → IsBytesUnderKey (key_of i) c (keyed_layout c (key_of i)) (keyed_info c (key_of i))
union_under x i y j c x_ends have = under_key_of x i c x_ends (union_readable x i y j c have)

pub difference_under : (x : List ℕ) (i : MDBShardInfo) (y : List ℕ) (j : MDBShardInfo) (c : Shard) → HasHeaderAndFooter x i → HaveResult IsDifference x i y j c
    → IsBytesUnderKey (key_of i) c (keyed_layout c (key_of i)) (keyed_info c (key_of i))
difference_under x i y j c x_ends have = under_key_of x i c x_ends (difference_readable x i y j c have)

-- what a tree with a union writes, whatever its inputs
pub tree_under : (inputs : List (List ℕ)) (plan : MergePlan) (out : List ℕ) → HasUnion plan → TreeWrites inputs plan out
    → (key : DataHash) × (c : Shard) × IsBytesUnderKey key c out (keyed_info c key)
tree_under inputs (Leaf i) out none writes = absurd none
tree_under inputs (Both' p left q right) out union (x, y, x_written, y_written, (i, j, c, x_ends, y_ends, have, is)) =
    (key_of i, c, subst (λ bytes. IsBytesUnderKey (key_of i) c bytes (keyed_info c (key_of i))) (sym is) (union_under x i y j c x_ends have))

-- the bytes of a shard without a key
module _ (s : Shard) (old : Source) (info : MDBShardInfo) (is : IsBytesWithInfo s old.bytes info) where
  plain : let footer = info.metadata in IsLookedUp (files_of info) no_file (values s.files) footer.file_info_offset footer.file_lookup_offset footer.file_lookup_num_entry old
  plain =
      let footer = info.metadata in
      let has_table = files_of_shard is in
      subst (λ v. IsLookedUp (file_records_in v) no_file (values s.files) footer.file_info_offset footer.file_lookup_offset footer.file_lookup_num_entry old) (sym has_table.version)
      (files_in (values s.files) (values s.xorbs) (plain_options_in is.is_bytes.version is.is_bytes.expiry) old info.metadata has_table.with_options has_table.ascends refl)

  pub found_in_layout : (hash : DataHash) (new : Source) (found : Result (Option MDBFileInfo) CoreError) → LooksUpFile info hash old new found → FindsInShard s hash old new found
  found_in_layout hash new found looks = record {
    answer = lookup_written s is.is_bytes.shard (version_of info.header.version) _ _ _ old plain new hash found looks;
    costs = bounds_ever file_records (version_of info.header.version) (values s.files) _ _ _
        (lookup_bounded (files_of info) (files_laws (version_of info.header.version)) no_file (values s.files) _ _ _ old plain new hash found looks);
    collision = collision_bounded (files_of info) (files_laws (version_of info.header.version)) no_file (values s.files) _ _ _ old plain new hash found looks;
  }
