-- A shard without auxiliary rows has the same files, but for these, under the same hashes. So it is a shard, and agreement
-- and joins of shards pass to the shards without auxiliary rows.
use Rattle.std.proofs.Common.{◌≡◌, Bool, true, false, ◌&&◌, List, [], map, get_or, Option, None, Some, refl, sym, ap, ◌∙◌, subst, arith, if◌then◌else◌}
use Rattle.std.specs.Prelude.{IsTrue, Contains, option_map, option_and_then}
use Rattle.std.specs.FinMap.{get, entries, values}
use Rattle.std.proofs.lemmas.List.Elements.{All-map}
use Rattle.std.proofs.lemmas.Option.{none-some}
use Rattle.xet_base.specs.declared.merklehash.DataHash.{DataHash}
use Rattle.xet_records.specs.declared.file_structs.MDBFileInfo.{MDBFileInfo}
use Rattle.xet_records.specs.declared.file_structs.rows.HashRow.{HashRow}
use Rattle.xet_records.specs.declared.file_structs.part.OptionalPart.{OptionalPart}
use Rattle.xet_records.specs.declared.file_structs.part.OptionalPart.TheVariants.{AuxExt}
use Rattle.xet_records.specs.FileRecord.{file_records, IsWellFormed}
use Rattle.xet_records.specs.Part.{flags_of, rows_of, all_but}
use Rattle.xet_records.specs.Merging.{Agree, has_part, part_in, file_with}
use Rattle.xet_records.specs.View.{without_aux}
use Rattle.xet_records.proofs.Parts.{rows_of-with_parts_if}
use Rattle.xet_records.proofs.KeptParts.{announces-without_aux, cleared-known, without_aux-formed}
use Rattle.xet_shards.specs.Write.Section.{total_rows}
use Rattle.xet_shards.specs.Content.Shard.{Shard, IsShard, AreFiles, file_hash_of}
use Rattle.xet_shards.specs.Content.SetOperations.{ShardsAgree}
use Rattle.xet_shards.specs.Content.Joins.{IsJoinOf, HasWhatAnyHas, part_under}
use Rattle.xet_shards.specs.Content.ShardsWithoutAux.{entries_without_aux, shard_without_aux}
use Rattle.xet_shards.proofs.Content.FilesWithoutAux.{rows-without_aux}
use Rattle.xet_shards.proofs.Content.Joins.{HasPlainHeader, plain_by_header, plain_file}
use Rattle.xet_shards.proofs.Content.MappedMaps.{entries-mapped, values-mapped, get-mapped, mapped_some}
use Rattle.xet_shards.proofs.Content.MappedShards.{unmapped_member, part_kept}

module _ (s : Shard) where
  entries-without_aux : entries (shard_without_aux s).files ≡ entries_without_aux (entries s.files)
  entries-without_aux = entries-mapped without_aux s.files

  pub values-without_aux : values (shard_without_aux s).files ≡ map without_aux (values s.files)
  values-without_aux = values-mapped without_aux s.files

  get-without_aux : (q : DataHash) → get (shard_without_aux s).files q ≡ option_map without_aux (get s.files q)
  get-without_aux = get-mapped without_aux s.files

pub without_aux-is_shard : (s : Shard) → IsShard s → IsShard (shard_without_aux s)
without_aux-is_shard s shard = record {
  files = subst AreFiles (sym (entries-without_aux s)) (record {
    keyed = All-map (λ (e : DataHash × MDBFileInfo). e.0 ≡ file_hash_of e.1) (λ (e : DataHash × MDBFileInfo). (e.0, without_aux e.1)) (entries s.files)
        (λ k e below. shard.files.keyed k e below);
    well_formed = All-map (λ (e : DataHash × MDBFileInfo). IsWellFormed e.1) (λ (e : DataHash × MDBFileInfo). (e.0, without_aux e.1)) (entries s.files)
        (λ k e below. without_aux-formed (get_or (entries s.files) k e).1 (shard.files.well_formed k e below));
  });
  file_rows = omega (arith, ap (total_rows file_records) (values-without_aux s), rows-without_aux (values s.files), shard.file_rows);
  xorbs = shard.xorbs;
  xorb_rows = shard.xorb_rows;
}

-- records that agree do so without their auxiliary rows
rows_agree : (stays v w : Bool) (xs ys xs_left ys_left : List HashRow) → xs_left ≡ (if stays then xs else []) → ys_left ≡ (if stays then ys else []) → IsTrue (stays && v) → IsTrue (stays && w)
    → (IsTrue v → IsTrue w → xs ≡ ys) → xs_left ≡ ys_left
rows_agree stays v w xs ys xs_left ys_left mine others own other agree = grind arith

records_agree : (a b : MDBFileInfo) → Agree a b → Agree (without_aux a) (without_aux b)
records_agree a b agree = record {
  segments = agree.segments;
  parts = λ part own other.
      rows_agree (all_but AuxExt part) (has_part a part) (has_part b part) (rows_of part a) (rows_of part b) (rows_of part (without_aux a)) (rows_of part (without_aux b))
      (rows_of-with_parts_if (all_but AuxExt) (without_aux a).metadata a part) (rows_of-with_parts_if (all_but AuxExt) (without_aux b).metadata b part)
      (sym (announces-without_aux a.metadata.file_flags part) ∙ own) (sym (announces-without_aux b.metadata.file_flags part) ∙ other) (agree.parts part);
}

pub without_aux-agree : (a b : Shard) → ShardsAgree a b → ShardsAgree (shard_without_aux a) (shard_without_aux b)
without_aux-agree a b agree = record {
  files = λ q r s own other.
      let mine = mapped_some without_aux (get a.files q) r (sym (get-without_aux a q) ∙ own) in
      let others = mapped_some without_aux (get b.files q) s (sym (get-without_aux b q) ∙ other) in
      subst (λ p. p) (λ i. Agree (mine.2 i) (others.2 i)) (records_agree mine.0 others.0 (agree.files q mine.0 others.0 mine.1 others.1));
  xorbs = agree.xorbs;
}

-- a file that its parts determine is so without its auxiliary row
plain_without_aux : (q : DataHash) (r : MDBFileInfo) → HasPlainHeader q r → HasPlainHeader q (without_aux r)
plain_without_aux q r has = record {
  keyed = has.keyed;
  reserved = has.reserved;
  flags = cleared-known r.metadata.file_flags has.flags ∙ (λ i. flags_of (λ part. sym (announces-without_aux r.metadata.file_flags part) i));
  segments = has.segments;
  absent = λ part none. rows_of-with_parts_if (all_but AuxExt) (without_aux r).metadata r part
      ∙ no_rows_stay (all_but AuxExt part) (has_part r part) (rows_of part r) (sym (announces-without_aux r.metadata.file_flags part) ∙ none) (has.absent part);
} where
  no_rows_stay : (stays v : Bool) (xs : List HashRow) → (stays && v) ≡ false → (v ≡ false → xs ≡ []) → (if stays then xs else []) ≡ []
  no_rows_stay true v xs none absent = absent none
  no_rows_stay false v xs none absent = refl

-- the parts of a file without its auxiliary row
abbrev part_if : OptionalPart → Option (List HashRow) → Option (List HashRow)
part_if part o = if all_but AuxExt part then o else None

part_left : (part : OptionalPart) (r : MDBFileInfo) → part_in part (without_aux r) ≡ part_if part (part_in part r)
part_left part r =
    (λ i. if announces-without_aux r.metadata.file_flags part i then Some (rows_of-with_parts_if (all_but AuxExt) (without_aux r).metadata r part i) else None)
    ∙ by_cases (all_but AuxExt part) (has_part r part) (rows_of part r)
  where
    by_cases : (stays v : Bool) (xs : List HashRow) → (if stays && v then Some (if stays then xs else []) else None) ≡ (if stays then (if v then Some xs else None) else None)
    by_cases true v xs = refl
    by_cases false v xs = refl

segments_same : (o : Option MDBFileInfo) → option_map (λ r. r.segments) (option_map without_aux o) ≡ option_map (λ r. r.segments) o
segments_same None = refl
segments_same (Some r) = refl

none_left : (stays : Bool) (o : Option (List HashRow)) → o ≡ None → o ≡ (if stays then o else None)
none_left true o none = refl
none_left false o none = none

parts_left : (part : OptionalPart) (o : Option MDBFileInfo) → option_and_then (part_in part) (option_map without_aux o) ≡ part_if part (option_and_then (part_in part) o)
parts_left part None = none_left (all_but AuxExt part) None refl
parts_left part (Some r) = part_left part r

module _ (shards : List Shard) (c : Shard) where
  left_under : (part : OptionalPart) (q : DataHash) (s : Shard) → part_under part q (shard_without_aux s) ≡ part_if part (part_under part q s)
  left_under part q s = ap (option_and_then (part_in part)) (get-without_aux s q) ∙ parts_left part (get s.files q)

  -- a part that stays, or one that none has
  part_of_join : (part : OptionalPart) (q : DataHash) → HasWhatAnyHas (Contains shards) c (part_under part q)
      → HasWhatAnyHas (Contains (map shard_without_aux shards)) (shard_without_aux c) (part_under part q)
  part_of_join part q has = either (all_but AuxExt part) (λ s. left_under part q s)
    where
      either : (b : Bool) → ((s : Shard) → part_under part q (shard_without_aux s) ≡ (if b then part_under part q s else None))
          → HasWhatAnyHas (Contains (map shard_without_aux shards)) (shard_without_aux c) (part_under part q)
      either true left = part_kept shard_without_aux shards c (part_under part q) left has
      either false left = λ x. (
        λ is. absurd (none-some x (sym (left c) ∙ is)),
        λ found.
            let from = unmapped_member shard_without_aux shards found.0 found.1 in
            absurd (none-some x (sym (left from.0) ∙ ap (part_under part q) from.2 ∙ found.2)),
      )

  pub without_aux-join : IsJoinOf (Contains shards) c → IsJoinOf (Contains (map shard_without_aux shards)) (shard_without_aux c)
  without_aux-join join = record {
    xorbs = λ q. part_kept shard_without_aux shards c _ (λ s. refl) (join.xorbs q);
    segments = λ q. part_kept shard_without_aux shards c _ (λ s. ap (option_map (λ (r : MDBFileInfo). r.segments)) (get-without_aux s q) ∙ segments_same (get s.files q)) (join.segments q);
    parts = λ part q. part_of_join part q (join.parts part q);
    follows = λ q r has.
        let mine = mapped_some without_aux (get c.files q) r (sym (get-without_aux c q) ∙ has) in
        subst (λ (t : MDBFileInfo). t ≡ file_with q t.segments (λ part. part_in part t)) mine.2
        (plain_by_header q (without_aux mine.0) (plain_without_aux q mine.0 (plain_file c join.follows q mine.0 mine.1)));
  }
