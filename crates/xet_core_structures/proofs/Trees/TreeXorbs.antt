-- Bytes that were written under a key hold their shard, and a tree writes well-formed xorbs if its leaves have such.
use Rattle.std.proofs.Common.{◌≡◌, ℕ, List, [], ◌∷◌, map, refl, sym, subst, arith}
use Rattle.std.specs.Prelude.{All}
use Rattle.std.specs.FinMap.{values}
use Rattle.std.proofs.lemmas.List.Elements.{All-drop, Contains-push, Contains-append_left, Contains-append_right}
use Rattle.xet_base.specs.declared.merklehash.DataHash.{DataHash}
use Rattle.xet_records.specs.XorbRecord.{IsXorb}
use Rattle.xet_shards.specs.declared.shard_format.ends.info.MDBShardInfo.{MDBShardInfo}
use Rattle.xet_shards.specs.Ends.Ends.{FitsFooter, HasHeaderAndFooter}
use Rattle.xet_shards.specs.Content.Shard.{Shard}
use Rattle.xet_shards.proofs.Ends.EndsUnique.{only_info, ends_of_layout}
use Rattle.xet_shards.proofs.Read.Readback.{file_section_in, xorb_section_in}
use Rattle.xet_core_structures.specs.declared.set_operations.MergePlan.{MergePlan}
use Rattle.xet_core_structures.specs.declared.set_operations.MergePlan.TheVariants.{Leaf, Both'}
use Rattle.xet_core_structures.specs.TwoShards.ByteResults.{keyed_options, keyed_layout, keyed_info, key_of}
use Rattle.xet_core_structures.specs.Records.ShardContents.{Holds, HasShard}
use Rattle.xet_core_structures.specs.Trees.MergeTrees.{leaves, TreeWrites, HaveXorbs}
use Rattle.xet_core_structures.specs.TwoShards.Readable.{IsBytesUnderKey}
use Rattle.xet_core_structures.proofs.Records.ShardContents.{only_shard}
use Rattle.xet_core_structures.proofs.LawProofs.FileLookups.{union_under}
use Rattle.xet_core_structures.proofs.TwoShards.Readable.{united_xorbs}

-- what stays as it is in each element stays in the list
all_same : {X : Type 0} (f : X → X) (xs : List X) → All (λ x. f x ≡ x) xs → map f xs ≡ xs
all_same f [] same = refl
all_same f (x ∷ xs) same =
    let here : f x ≡ x = same 0 x (omega arith) in
    λ i. here i ∷ all_same f xs (All-drop (λ y. f y ≡ y) 1 (x ∷ xs) same) i

module _ (key : DataHash) (c : Shard) (bytes : List ℕ) (info : MDBShardInfo) (written : IsBytesUnderKey key c bytes info) where
  -- header and footer are those of the layout, so files are read in version 3
  info_under : info ≡ keyed_info c key
  info_under = only_info bytes info (keyed_info c key) written.ends (subst (λ bs. HasHeaderAndFooter bs (keyed_info c key)) (sym written.with_options.bytes_are)
      (ends_of_layout (values c.files) (values c.xorbs) (keyed_options key) (subst FitsFooter written.with_options.footer_is written.ends.footer_widths)))

  in_layout : Holds (keyed_layout c key) (keyed_info c key) c
  in_layout = record {
    files = record {
      stored = values c.files;
      section = file_section_in (values c.files) (values c.xorbs) (keyed_options key) written.files.fits;
      returned = all_same _ (values c.files) written.files.unchanged;
      keyed = written.files.keyed;
    };
    xorbs = record {
      stored = values c.xorbs;
      section = xorb_section_in (values c.files) (values c.xorbs) (keyed_options key) written.xorbs.fits;
      returned = all_same _ (values c.xorbs) written.xorbs.unchanged;
      keyed = written.xorbs.keyed;
    };
  }

  pub held_under : Holds bytes info c
  held_under =
      let bytes_are = sym written.with_options.bytes_are in
      let info_is = sym info_under in
      subst (λ p. p) (λ k. Holds (bytes_are k) (info_is k) c) in_layout

  pub shard_under : HasShard c bytes
  shard_under = record { info = info; ends = written.ends; holds = held_under }

-- the xorbs of each shard that the bytes hold
module _ (inputs : List (List ℕ)) where
  tree_holds : (plan : MergePlan) (bytes : List ℕ) (s : Shard) → HaveXorbs inputs plan → TreeWrites inputs plan bytes → HasShard s bytes → All IsXorb (values s.xorbs)
  tree_holds (Leaf i) bytes s have is holds = have i s (Contains-push [] i) (bytes, is, holds)
  tree_holds (Both' p left q right) bytes s have (x, y, x_written, y_written, (i, j, c, x_ends, y_ends, result, is)) holds =
      let first = tree_holds left x result.first (λ k t member. have k t (Contains-append_left (leaves left) (leaves right) k member)) x_written (record { info = i; ends = x_ends; holds = result.holds_first }) in
      let second = tree_holds right y result.second (λ k t member. have k t (Contains-append_right (leaves left) (leaves right) k member)) y_written (record { info = j; ends = y_ends; holds = result.holds_second }) in
      let under = subst (λ bytes. IsBytesUnderKey (key_of i) c bytes (keyed_info c (key_of i))) (sym is) (union_under x i y j c x_ends result) in
      subst (λ (t : Shard). All IsXorb (values t.xorbs)) (only_shard bytes s c holds (shard_under (key_of i) c bytes (keyed_info c (key_of i)) under)) (united_xorbs x i y j c result first second)

  pub tree_xorbs : (plan : MergePlan) (key : DataHash) (c : Shard) (bytes : List ℕ) (info : MDBShardInfo) → HaveXorbs inputs plan → TreeWrites inputs plan bytes → IsBytesUnderKey key c bytes info
      → All IsXorb (values c.xorbs)
  tree_xorbs plan key c bytes info have writes under = tree_holds plan bytes c have writes (shard_under key c bytes info under)
