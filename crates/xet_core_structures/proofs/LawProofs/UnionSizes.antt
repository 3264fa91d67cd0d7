-- A union has at most the rows of both shards, and so what a tree of unions writes is bounded by its inputs.
use Rattle.std.proofs.Common.{◌≡◌, inl, inr, ℕ, zero, suc, ◌+◌, ◌*◌, ◌≤◌, Bool, true, false, List, [], ◌∷◌, ◌++◌, length, map, flat_map, drop, Option, None, Some, sym, ap, ◌∙◌, subst, arith, if◌then◌else◌}
use Rattle.std.specs.Prelude.{option_to_list, slice_get, slice_index_or}
use Rattle.std.specs.FinMap.{FinMap, get, values, same_map}
use Rattle.std.proofs.lemmas.List.{length-append, length-drop}
use Rattle.std.proofs.lemmas.List.Sums.{sum_by-append}
use Rattle.xet_base.specs.declared.merklehash.DataHash.{DataHash}
use Rattle.xet_base.specs.Hash.{hash_cmp}
use Rattle.xet_base.proofs.HashOrder.{hash_cmp-IsTotalOrder, hash_cmp-IsAntisymmetric}
use Rattle.xet_records.specs.declared.file_structs.MDBFileInfo.{MDBFileInfo}
use Rattle.xet_records.specs.declared.file_structs.part.OptionalPart.{OptionalPart}
use Rattle.xet_records.specs.declared.file_structs.rows.HashRow.{HashRow}
use Rattle.xet_records.specs.declared.xorb_structs.MDBXorbInfo.{MDBXorbInfo}
use Rattle.xet_records.specs.RecordKind.{RecordKind}
use Rattle.xet_records.specs.FileRecord.{row_count}
use Rattle.xet_records.specs.Merging.{IncludesBits}
use Rattle.xet_records.specs.Part.{parts, rows_of}
use Rattle.xet_records.specs.Version.{version_of}
use Rattle.xet_records.specs.XorbRecord.{xorb_records}
use Rattle.xet_records.proofs.Lengths.{length-all_record_bytes}
use Rattle.xet_records.proofs.Parts.{for_parts, either_row, rows_of_both}
use Rattle.xet_records.proofs.RecordKinds.{KindLaws, xorb_laws, length-record_bytes}
use Rattle.xet_shards.specs.declared.shard_format.ends.info.MDBShardInfo.{MDBShardInfo}
use Rattle.xet_shards.specs.Write.Section.{total_rows}
use Rattle.xet_shards.specs.Read.SectionReading.{files_of, HoldsRecords}
use Rattle.xet_shards.specs.Content.Shard.{Shard}
use Rattle.xet_shards.proofs.ShardInMemory.Files.{length-le-rows}
use Rattle.xet_shards.proofs.Write.Sections.{files_laws}
use Rattle.xet_shards.specs.Ends.Ends.{HasHeaderAndFooter}
use Rattle.xet_shards.specs.Content.SetOperations.{IsDifference}
use Rattle.xet_shards.proofs.Content.Joining.{but_found}
use Rattle.xet_shards.proofs.ShardInMemory.Sums.{count_if_some, sum-of_both, sub-sum}
use Rattle.xet_shards.proofs.Write.XorbLayouts.{length-with_options, length-chunk_table, xorb_rows-chunks}
use Rattle.xet_core_structures.specs.declared.set_operations.MergePlan.{MergePlan}
use Rattle.xet_core_structures.specs.declared.set_operations.MergePlan.TheVariants.{Leaf, Both'}
use Rattle.xet_core_structures.specs.TwoShards.ByteResults.{keyed_options, keyed_info, keyed_layout, key_of, HaveResult, UnitesBytes}
use Rattle.xet_core_structures.specs.Records.ByteUnion.{mixed_file, IsUnitedFile, IsEitherFile, IsEitherXorb, IsByteUnion}
use Rattle.xet_core_structures.specs.Records.ShardContents.{IsSectionOf, HasShard}
use Rattle.xet_core_structures.specs.Trees.MergeTrees.{leaves, HasUnion, TreeMakes, LeafWrites, TreeWrites}
use Rattle.xet_core_structures.specs.TwoShards.Readable.{IsBytesUnderKey}
use Rattle.xet_core_structures.specs.Records.Sizes.{rows_of_shard, bytes_at}
use Rattle.xet_core_structures.proofs.Records.ShardContents.{rows_handed, only_shard}
use Rattle.xet_core_structures.proofs.LawProofs.FileLookups.{union_under, difference_under}
use Rattle.xet_core_structures.proofs.Trees.TreeXorbs.{shard_under}

-- each part of a mix has at most the rows that both records have of it
length-either : {X : Type 0} (b : Bool) (xs ys : List X) → length (if b then xs else ys) ≤ length xs + length ys
length-either true xs ys = omega arith
length-either false xs ys = omega arith

one_row : (b : Bool) (x y : Option HashRow) → length (option_to_list (slice_get (if b then option_to_list x else option_to_list y) 0)) ≤ length (option_to_list x) + length (option_to_list y)
one_row true x y = omega (arith, ap (λ o. length (option_to_list o)) (either_row true x y))
one_row false x y = omega (arith, ap (λ o. length (option_to_list o)) (either_row false x y))

part_rows_of_mix : (a b : MDBFileInfo) (part : OptionalPart) → length (rows_of part (mixed_file a b)) ≤ length (rows_of part a) + length (rows_of part b)
part_rows_of_mix a b =
    for_parts (λ p. length (rows_of p (mixed_file a b)) ≤ length (rows_of p a) + length (rows_of p b))
    (length-either _ a.verification b.verification) (one_row _ a.metadata_ext b.metadata_ext) (one_row _ a.aux_ext b.aux_ext)

united_rows : (a b c : MDBFileInfo) → IsUnitedFile a b c → row_count c ≤ row_count a + row_count b
united_rows a b c (inl (includes, is)) = omega (arith, ap row_count is)
united_rows a b c (inr (inl (less, includes, is))) = omega (arith, ap row_count is)
united_rows a b c (inr (inr (less, neither, counts, is))) =
    omega (arith, ap row_count is, rows_of_both (λ p. rows_of p (mixed_file a b)) (λ p. rows_of p a) (λ p. rows_of p b) (part_rows_of_mix a b) parts)

-- so has the record of each hash
either_rows : (o p r : Option MDBFileInfo) (v : MDBFileInfo) → IsEitherFile o p r → r ≡ Some v → row_count v ≤ count_if_some row_count o + count_if_some row_count p
either_rows None p r v is here = omega (arith, ap (count_if_some row_count) (sym is ∙ here))
either_rows (Some a) None r v is here = omega (arith, ap (count_if_some row_count) (sym is ∙ here))
either_rows (Some a) (Some b) r v (c, is, united) here = omega (arith, ap (count_if_some row_count) (sym is ∙ here), united_rows a b c united)

either_chunks : (o p r : Option MDBXorbInfo) (v : MDBXorbInfo) → IsEitherXorb o p r → r ≡ Some v → xorb_records.row_count v ≤ count_if_some xorb_records.row_count o + count_if_some xorb_records.row_count p
either_chunks None p r v is here = omega (arith, ap (count_if_some xorb_records.row_count) (sym is ∙ here))
either_chunks (Some a) p r v is here = omega (arith, ap (count_if_some xorb_records.row_count) (sym is ∙ here))

pub rows_of_union : (a b c : Shard) → IsByteUnion a b c → rows_of_shard c ≤ rows_of_shard a + rows_of_shard b
rows_of_union a b c union =
    omega (
      arith,
      sum-of_both hash_cmp-IsTotalOrder hash_cmp-IsAntisymmetric row_count a.files b.files c.files (λ q v here. either_rows (get a.files q) (get b.files q) (get c.files q) v (union.files q) here),
      sum-of_both hash_cmp-IsTotalOrder hash_cmp-IsAntisymmetric xorb_records.row_count a.xorbs b.xorbs c.xorbs (λ q v here. either_chunks (get a.xorbs q) (get b.xorbs q) (get c.xorbs q) v (union.xorbs q) here),
    )

-- and a difference has at most those of the second
rows_of_difference : (a b c : Shard) → IsDifference a b c → rows_of_shard c ≤ rows_of_shard b
rows_of_difference a b c is =
    omega (
      arith,
      sub-sum hash_cmp-IsTotalOrder hash_cmp-IsAntisymmetric row_count c.files b.files (λ q v here. but_found a.files (get b.files) q v (sym (is.files q) ∙ here)),
      sub-sum hash_cmp-IsTotalOrder hash_cmp-IsAntisymmetric xorb_records.row_count c.xorbs b.xorbs (λ q v here. but_found a.xorbs (get b.xorbs) q v (sym (is.xorbs q) ∙ here)),
    )

-- bytes have at least 48 for each row of the records with which they begin
pub rows_in_front : {H R : Type 0} (K : RecordKind H R) (laws : KindLaws K) (bytes : List ℕ) (stored found : List R) (rest : List ℕ) → HoldsRecords K bytes stored rest → map K.as_read stored ≡ found
    → 48 * total_rows K found ≤ length bytes
rows_in_front K laws bytes stored found rest records returned =
    omega (
      arith,
      ap length records.bytes_are,
      length-append (flat_map K.record_bytes stored) rest,
      length-all_record_bytes K.record_bytes K.row_count K.IsStored (length-record_bytes K laws) stored records.are_stored,
      rows_handed K laws stored,
      ap (total_rows K) returned,
    )

-- and so for each row of a section in them
rows_in_section : {H R : Type 0} (K : RecordKind H R) (laws : KindLaws K) (n : ℕ) (bytes : List ℕ) (m : FinMap hash_cmp R) → IsSectionOf K (drop n bytes) m → 48 * total_rows K (values m) ≤ length bytes
rows_in_section K laws n bytes m is =
    omega (arith, length-drop n bytes, rows_in_front K laws (drop n bytes) is.stored (values m) is.section.rest is.section.records is.returned)

pub rows_held : (bytes : List ℕ) (s : Shard) → HasShard s bytes → 48 * rows_of_shard s ≤ 2 * length bytes
rows_held bytes s has =
    let footer = has.info.metadata in
    omega (
      arith,
      rows_in_section (files_of has.info) (files_laws (version_of has.info.header.version)) footer.file_info_offset bytes s.files has.holds.files,
      rows_in_section xorb_records xorb_laws footer.xorb_info_offset bytes s.xorbs has.holds.xorbs,
    )

-- what is written of a shard has 344 bytes and at most 64 for each row, a row's part of a table among them
pub bytes_written : (key : DataHash) (s : Shard) (bytes : List ℕ) (info : MDBShardInfo) → IsBytesUnderKey key s bytes info → length bytes ≤ 344 + 64 * rows_of_shard s
bytes_written key s bytes info written =
    let files = values s.files in
    let xorbs = values s.xorbs in
    omega (
      arith,
      ap length written.with_options.bytes_are,
      length-with_options files xorbs (keyed_options key) (λ k r below. (written.files.fits.stored k r below).widths),
      length-le-rows files,
      length-chunk_table xorbs,
      xorb_rows-chunks xorbs,
    )

-- a shard has itself for its union with itself
same_file : (o r : Option MDBFileInfo) → IsEitherFile o o r → r ≡ o
same_file None r is = is
same_file (Some a) r (c, is, inl (includes, same)) = is ∙ ap Some same
same_file (Some a) r (c, is, inr (inl (less, includes, same))) = is ∙ ap Some same
same_file (Some a) r (c, is, inr (inr (less, neither, counts, same))) = absurd (less includes_itself)
  where
    includes_itself : IncludesBits a.metadata.file_flags a.metadata.file_flags
    includes_itself = λ i below is. is

same_xorb : (o r : Option MDBXorbInfo) → IsEitherXorb o o r → r ≡ o
same_xorb None r is = is
same_xorb (Some a) r is = is

pub union_of_same : (a c : Shard) → IsByteUnion a a c → c ≡ a
union_of_same a c union =
    let files = same_map hash_cmp-IsTotalOrder hash_cmp-IsAntisymmetric c.files a.files (λ q. same_file (get a.files q) (get c.files q) (union.files q)) in
    let xorbs = same_map hash_cmp-IsTotalOrder hash_cmp-IsAntisymmetric c.xorbs a.xorbs (λ q. same_xorb (get a.xorbs q) (get c.xorbs q) (union.xorbs q)) in
    λ i. record { files = files i; xorbs = xorbs i }

-- the union of bytes that hold one shard
pub bytes_of_one : (s : Shard) (x y out : List ℕ) → HasShard s x → HasShard s y → UnitesBytes x y out → length out ≤ 344 + 64 * rows_of_shard s
bytes_of_one s x y out one other (i, j, c, x_ends, y_ends, result, is) =
    let first : result.first ≡ s = only_shard x s result.first one (record { info = i; ends = x_ends; holds = result.holds_first }) in
    let second : result.second ≡ s = only_shard y s result.second other (record { info = j; ends = y_ends; holds = result.holds_second }) in
    let same : c ≡ result.first = union_of_same result.first c (subst (λ b. IsByteUnion result.first b c) (second ∙ sym first) result.result) in
    omega (
      arith,
      ap length is,
      bytes_written (key_of i) c (keyed_layout c (key_of i)) (keyed_info c (key_of i)) (union_under x i y j c x_ends result),
      ap rows_of_shard (same ∙ first),
    )

-- the union of bytes with themselves
pub bytes_of_repetition : (x out : List ℕ) → UnitesBytes x x out → 3 * length out ≤ 1032 + 8 * length x
bytes_of_repetition x out (i, j, c, x_ends, y_ends, result, is) =
    let has : HasShard result.first x = record { info = i; ends = x_ends; holds = result.holds_first } in
    omega (arith, bytes_of_one result.first x x out has has (i, j, c, x_ends, y_ends, result, is), rows_held x result.first has)

-- the union of two byte strings
pub bytes_of_union : (x y out : List ℕ) → UnitesBytes x y out → 3 * length out ≤ 1032 + 8 * (length x + length y)
bytes_of_union x y out (i, j, c, x_ends, y_ends, result, is) =
    omega (
      arith,
      ap length is,
      bytes_written (key_of i) c (keyed_layout c (key_of i)) (keyed_info c (key_of i)) (union_under x i y j c x_ends result),
      rows_of_union result.first result.second c result.result,
      rows_held x result.first (record { info = i; ends = x_ends; holds = result.holds_first }),
      rows_held y result.second (record { info = j; ends = y_ends; holds = result.holds_second }),
    )

-- their difference
pub bytes_of_difference : (x y : List ℕ) (i j : MDBShardInfo) (c : Shard) → HasHeaderAndFooter x i → HasHeaderAndFooter y j → HaveResult IsDifference x i y j c
    → 3 * length (keyed_layout c (key_of i)) ≤ 1032 + 8 * length y
bytes_of_difference x y i j c x_ends y_ends result =
    omega (
      arith,
      bytes_written (key_of i) c (keyed_layout c (key_of i)) (keyed_info c (key_of i)) (difference_under x i y j c x_ends result),
      rows_of_difference result.first result.second c result.result,
      rows_held y result.second (record { info = j; ends = y_ends; holds = result.holds_second }),
    )

pub input_there : (inputs : List (List ℕ)) (i : ℕ) (x : List ℕ) → slice_get inputs i ≡ Some x → slice_index_or inputs i [] ≡ x
input_there [] i x is = cc
input_there (y ∷ ys) zero x is = cc
input_there (y ∷ ys) (suc i) x is = input_there ys i x is

-- one union in a tree, of byte strings with at most so many rows
pub rows_united : (x y out : List ℕ) (s : Shard) (m n : ℕ) → ((t : Shard) → HasShard t x → 48 * rows_of_shard t ≤ m) → ((t : Shard) → HasShard t y → 48 * rows_of_shard t ≤ n) → UnitesBytes x y out → HasShard s out
    → 48 * rows_of_shard s ≤ m + n
rows_united x y out s m n first second (i, j, c, x_ends, y_ends, result, is) has =
    let under = subst (λ bytes. IsBytesUnderKey (key_of i) c bytes (keyed_info c (key_of i))) (sym is) (union_under x i y j c x_ends result) in
    omega (
      arith,
      first result.first (record { info = i; ends = x_ends; holds = result.holds_first }),
      second result.second (record { info = j; ends = y_ends; holds = result.holds_second }),
      rows_of_union result.first result.second c result.result,
      ap rows_of_shard (only_shard out s c has (shard_under (key_of i) c out (keyed_info c (key_of i)) under)),
    )

pub bytes_united : (x y out : List ℕ) (n : ℕ) → UnitesBytes x y out → ((s : Shard) → HasShard s out → 48 * rows_of_shard s ≤ 2 * n) → 3 * length out ≤ 1032 + 8 * n
bytes_united x y out n (i, j, c, x_ends, y_ends, result, is) rows =
    let under = subst (λ bytes. IsBytesUnderKey (key_of i) c bytes (keyed_info c (key_of i))) (sym is) (union_under x i y j c x_ends result) in
    omega (arith, bytes_written (key_of i) c out (keyed_info c (key_of i)) under, rows c (shard_under (key_of i) c out (keyed_info c (key_of i)) under))

pub bytes_at_both : (inputs : List (List ℕ)) (left right : MergePlan) → bytes_at inputs (leaves left ++ leaves right) ≡ bytes_at inputs (leaves left) + bytes_at inputs (leaves right)
bytes_at_both inputs left right = sum_by-append (λ k. length (slice_index_or inputs k [])) (leaves left) (leaves right)

-- a tree of unions whose leaves make at most the rows of their inputs
module _ (inputs : List (List ℕ)) (Makes : ℕ → List ℕ → Type 0) (rows_of_leaf : (i : ℕ) (out : List ℕ) (s : Shard) → Makes i out → HasShard s out → 48 * rows_of_shard s ≤ 2 * bytes_at inputs (i ∷ [])) where
  rows_of_tree : (plan : MergePlan) (out : List ℕ) (s : Shard) → TreeMakes Makes plan out → HasShard s out → 48 * rows_of_shard s ≤ 2 * bytes_at inputs (leaves plan)
  rows_of_tree (Leaf i) out s made has = rows_of_leaf i out s made has
  rows_of_tree (Both' p left q right) out s (x, y, x_made, y_made, unites) has =
      omega (arith, rows_united x y out s _ _ (λ t. rows_of_tree left x t x_made) (λ t. rows_of_tree right y t y_made) unites has, bytes_at_both inputs left right)

  pub bytes_made : (plan : MergePlan) (out : List ℕ) → HasUnion plan → TreeMakes Makes plan out → 3 * length out ≤ 1032 + 8 * bytes_at inputs (leaves plan)
  bytes_made (Leaf i) out none made = absurd none
  bytes_made (Both' p left q right) out union (x, y, x_made, y_made, unites) =
      bytes_united x y out _ unites (λ s. rows_of_tree (Both' p left q right) out s (x, y, x_made, y_made, unites))

rows_of_input : (inputs : List (List ℕ)) (i : ℕ) (out : List ℕ) (s : Shard) → LeafWrites inputs i out → HasShard s out → 48 * rows_of_shard s ≤ 2 * bytes_at inputs (i ∷ [])
rows_of_input inputs i out s is has = omega (arith, rows_held out s has, ap length (input_there inputs i out is))

pub bytes_of_tree : (inputs : List (List ℕ)) (plan : MergePlan) (out : List ℕ) → HasUnion plan → TreeWrites inputs plan out → 3 * length out ≤ 1032 + 8 * bytes_at inputs (leaves plan)
bytes_of_tree inputs = bytes_made inputs (LeafWrites inputs) (rows_of_input inputs)
