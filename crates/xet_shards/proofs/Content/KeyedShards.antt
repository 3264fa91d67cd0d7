-- A shard under a key has the keyed xorbs under the same hashes. So it is a shard, and joins, unions and agreement of
-- shards pass to the shards under one key; runs of chunks become no shorter.
use Rattle.std.proofs.Common.{◌≡◌, Bool, true, false, ◌+◌, ◌≤◌, List, [], ◌∷◌, map, get_or, Option, None, Some, refl, sym, ap, ◌∙◌, subst, arith}
use Rattle.std.specs.Prelude.{cond, Contains, option_map}
use Rattle.std.specs.Option.{option_or}
use Rattle.std.specs.FinMap.{get, entries, values}
use Rattle.std.proofs.lemmas.List.Sums.{sum_by-cons}
use Rattle.std.proofs.lemmas.List.Elements.{All-map}
use Rattle.xet_base.specs.declared.merklehash.DataHash.{DataHash}
use Rattle.xet_base.specs.Hash.{hash_eq}
use Rattle.xet_base.specs.KeyedHash.{no_key, under_key}
use Rattle.xet_base.proofs.HashOrder.{same_hash}
use Rattle.xet_records.specs.declared.xorb_structs.MDBXorbInfo.{MDBXorbInfo}
use Rattle.xet_records.specs.declared.xorb_structs.XorbChunkSequenceEntry.{XorbChunkSequenceEntry}
use Rattle.xet_records.specs.XorbRecord.{xorb_records, IsXorb, total_bytes}
use Rattle.xet_shards.specs.Write.Section.{total_rows}
use Rattle.xet_shards.specs.Content.Shard.{Shard, IsShard, AreXorbs, xorb_hash_of}
use Rattle.xet_shards.specs.Content.SetOperations.{IsUnion, ShardsAgree}
use Rattle.xet_shards.specs.Content.Joins.{IsJoinOf}
use Rattle.xet_shards.specs.ShardInMemory.ChunkQuery.{run_length}
use Rattle.xet_shards.specs.Write.Layout.{LayoutOptions, if_included, layout_of}
use Rattle.xet_shards.specs.Export.KeyedExport.{keyed_chunk, keyed_xorb, keyed_xorbs, exported_bytes}
use Rattle.xet_shards.specs.Content.KeyedShards.{keyed_entries, keyed_shard}
use Rattle.xet_shards.proofs.Content.KeyedHashes.{keyed_stored, keyed_rows, keyed_total}
use Rattle.xet_shards.proofs.Content.MappedMaps.{entries-mapped, values-mapped, get-mapped, mapped_some}
use Rattle.xet_shards.proofs.Content.MappedShards.{mapped_member, unmapped_member, part_kept}

module _ (key : DataHash) (s : Shard) where
  entries-keyed : entries (keyed_shard key s).xorbs ≡ keyed_entries key (entries s.xorbs)
  entries-keyed = entries-mapped (keyed_xorb key) s.xorbs

  pub values-keyed : values (keyed_shard key s).xorbs ≡ keyed_xorbs key (values s.xorbs)
  values-keyed = values-mapped (keyed_xorb key) s.xorbs

  pub get-keyed : (q : DataHash) → get (keyed_shard key s).xorbs q ≡ option_map (keyed_xorb key) (get s.xorbs q)
  get-keyed = get-mapped (keyed_xorb key) s.xorbs

-- sizes of chunks stay
keyed_bytes : (key : DataHash) (cs : List XorbChunkSequenceEntry) → total_bytes (map (keyed_chunk key) cs) ≡ total_bytes cs
keyed_bytes key [] = refl
keyed_bytes key (c ∷ cs) = omega (
  arith,
  sum_by-cons (λ (d : XorbChunkSequenceEntry). d.unpacked_segment_bytes) (keyed_chunk key c) (map (keyed_chunk key) cs),
  sum_by-cons (λ (d : XorbChunkSequenceEntry). d.unpacked_segment_bytes) c cs,
  keyed_bytes key cs,
)

-- so a well-formed xorb stays one
keyed_well_formed : (key : DataHash) (r : MDBXorbInfo) → IsXorb r → IsXorb (keyed_xorb key r)
keyed_well_formed key r xorb =
    let stored = keyed_stored key r (record { is_xorb = xorb.is_xorb; count = xorb.count; widths = xorb.widths }) in
    record {
      is_xorb = stored.is_xorb;
      count = stored.count;
      rows = omega (arith, keyed_rows key r, xorb.rows);
      bytes = omega (arith, keyed_bytes key r.chunks, xorb.bytes);
      widths = stored.widths;
    }

pub keyed_is_shard : (key : DataHash) (s : Shard) → IsShard s → IsShard (keyed_shard key s)
keyed_is_shard key s shard = record {
  files = shard.files;
  file_rows = shard.file_rows;
  xorbs = subst AreXorbs (sym (entries-keyed key s)) (record {
    keyed = All-map (λ (e : DataHash × MDBXorbInfo). e.0 ≡ xorb_hash_of e.1) (λ (e : DataHash × MDBXorbInfo). (e.0, keyed_xorb key e.1)) (entries s.xorbs)
        (λ k e below. shard.xorbs.keyed k e below);
    well_formed = All-map (λ (e : DataHash × MDBXorbInfo). IsXorb e.1) (λ (e : DataHash × MDBXorbInfo). (e.0, keyed_xorb key e.1)) (entries s.xorbs)
        (λ k e below. keyed_well_formed key (get_or (entries s.xorbs) k e).1 (shard.xorbs.well_formed k e below));
  });
  xorb_rows = omega (arith, ap (total_rows xorb_records) (values-keyed key s), keyed_total key (values s.xorbs), shard.xorb_rows);
}

-- what the first of two options becomes
map-either : {X Y : Type 0} (f : X → Y) (a b : Option X) → option_map f (option_or a b) ≡ option_or (option_map f a) (option_map f b)
map-either f None b = refl
map-either f (Some a) b = refl

-- unions and agreement pass to the shards under one key
pub keyed_union : (key : DataHash) (a b c : Shard) → IsUnion a b c → IsUnion (keyed_shard key a) (keyed_shard key b) (keyed_shard key c)
keyed_union key a b c union = record {
  files = union.files;
  xorbs = λ q. get-keyed key c q ∙ ap (option_map (keyed_xorb key)) (union.xorbs q) ∙ map-either (keyed_xorb key) (get b.xorbs q) (get a.xorbs q)
      ∙ (λ i. option_or (sym (get-keyed key b q) i) (sym (get-keyed key a q) i));
}

pub keyed_agree : (key : DataHash) (a b : Shard) → ShardsAgree a b → ShardsAgree (keyed_shard key a) (keyed_shard key b)
keyed_agree key a b agree = record {
  files = agree.files;
  xorbs = λ q r s own other.
      let mine = mapped_some (keyed_xorb key) (get a.xorbs q) r (sym (get-keyed key a q) ∙ own) in
      let others = mapped_some (keyed_xorb key) (get b.xorbs q) s (sym (get-keyed key b q) ∙ other) in
      sym mine.2 ∙ ap (keyed_xorb key) (agree.xorbs q mine.0 others.0 mine.1 others.1) ∙ others.2;
}

module _ (key : DataHash) (shards : List Shard) (c : Shard) where
  pub keyed_join : IsJoinOf (Contains shards) c → IsJoinOf (Contains (map (keyed_shard key) shards)) (keyed_shard key c)
  keyed_join join = record {
    xorbs = λ q x. (
      λ is.
          let mine = mapped_some (keyed_xorb key) (get c.xorbs q) x (sym (get-keyed key c q) ∙ is) in
          let found = (join.xorbs q mine.0).0 mine.1 in (
            keyed_shard key found.0,
            mapped_member (keyed_shard key) shards found.0 found.1,
            get-keyed key found.0 q ∙ ap (option_map (keyed_xorb key)) found.2 ∙ ap Some mine.2,
          ),
      λ found.
          let from = unmapped_member (keyed_shard key) shards found.0 found.1 in
          let mine = mapped_some (keyed_xorb key) (get from.0.xorbs q) x (sym (get-keyed key from.0 q) ∙ ap (λ (t : Shard). get t.xorbs q) from.2 ∙ found.2) in
          get-keyed key c q ∙ ap (option_map (keyed_xorb key)) ((join.xorbs q mine.0).1 (from.0, from.1, mine.1)) ∙ ap Some mine.2,
    );
    segments = λ q. part_kept (keyed_shard key) shards c _ (λ s. refl) (join.segments q);
    parts = λ part q. part_kept (keyed_shard key) shards c _ (λ s. refl) (join.parts part q);
    follows = join.follows;
  }

-- an export of a shard's lists with files is the layout of the shard under the key
pub exported_is : (s : Shard) (options : LayoutOptions) → options.file_table ≡ true
    → exported_bytes (values s.files) (values s.xorbs) options ≡ layout_of (values (keyed_shard options.key s).files) (values (keyed_shard options.key s).xorbs) options
exported_is s options with_files = λ i. layout_of (if_included (with_files i) (values s.files)) (sym (values-keyed options.key s) i) options

-- a run of hashes under no key is at most as long as under a key, at the chunks with hashes under it
pub run_no_shorter : (key : DataHash) (qs : List DataHash) (cs : List XorbChunkSequenceEntry) → run_length no_key qs cs ≤ run_length key qs (map (keyed_chunk key) cs)
run_no_shorter key [] cs = omega arith
run_no_shorter key (q ∷ qs) [] = omega arith
run_no_shorter key (q ∷ qs) (c ∷ cs) = by_hash (hash_eq q c.chunk_hash) refl (run_no_shorter key qs cs)
  where
    same_under_key : Bool
    same_under_key = hash_eq (under_key key q) (under_key key c.chunk_hash)

    by_hash : (b : Bool) → hash_eq q c.chunk_hash ≡ b → run_length no_key qs cs ≤ run_length key qs (map (keyed_chunk key) cs)
        → cond b (1 + run_length no_key qs cs) 0 ≤ cond same_under_key (1 + run_length key qs (map (keyed_chunk key) cs)) 0
    by_hash false is rest = omega arith
    by_hash true is rest =
        let same : hash_eq (under_key key q) (under_key key c.chunk_hash) ≡ true =
        (same_hash (under_key key q) (under_key key c.chunk_hash)).1 (ap (under_key key) ((same_hash q c.chunk_hash).0 is)) in
        subst (λ b. 1 + run_length no_key qs cs ≤ cond b (1 + run_length key qs (map (keyed_chunk key) cs)) 0) (sym same) (omega (arith, rest))
