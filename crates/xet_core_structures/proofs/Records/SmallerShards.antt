-- The empty shard is a shard, and so is what a shard has that another does not.
use Rattle.std.proofs.Common.{◌≡◌, Some, sym, ap, ◌∙◌, subst, arith}
use Rattle.std.specs.Prelude.{All}
use Rattle.std.specs.FinMap.{FinMap, get, entries}
use Rattle.std.proofs.lemmas.List.Elements.{All-nil}
use Rattle.xet_base.specs.declared.merklehash.DataHash.{DataHash}
use Rattle.xet_base.specs.Hash.{hash_cmp}
use Rattle.xet_base.proofs.HashOrder.{hash_cmp-IsTotalOrder, hash_cmp-IsAntisymmetric}
use Rattle.xet_records.specs.declared.file_structs.MDBFileInfo.{MDBFileInfo}
use Rattle.xet_records.specs.declared.xorb_structs.MDBXorbInfo.{MDBXorbInfo}
use Rattle.xet_records.specs.FileRecord.{file_records, IsWellFormed, row_count}
use Rattle.xet_records.specs.XorbRecord.{xorb_records, IsXorb, xorb_row_count}
use Rattle.xet_shards.specs.Write.Section.{total_rows}
use Rattle.xet_shards.specs.Content.SetOperations.{IsDifference}
use Rattle.xet_shards.specs.Content.Shard.{Shard, IsShard, AreFiles, AreXorbs, empty_shard, file_hash_of, xorb_hash_of}
use Rattle.xet_shards.proofs.ShardInMemory.FileUnions.{holds_in_map}
use Rattle.xet_shards.proofs.Content.Joining.{but_found}
use Rattle.xet_shards.proofs.Content.Maps.{entries-empty, values-empty}
use Rattle.xet_shards.proofs.ShardInMemory.Sums.{all_of_map, sub-sum}

pub empty_is_shard : IsShard empty_shard
empty_is_shard = record {
  files = subst AreFiles (sym (entries-empty MDBFileInfo hash_cmp)) (record { keyed = All-nil _; well_formed = All-nil _ });
  file_rows = omega (arith, ap (total_rows file_records) (values-empty MDBFileInfo hash_cmp));
  xorbs = subst AreXorbs (sym (entries-empty MDBXorbInfo hash_cmp)) (record { keyed = All-nil _; well_formed = All-nil _ });
  xorb_rows = omega (arith, ap (total_rows xorb_records) (values-empty MDBXorbInfo hash_cmp));
}

-- what holds of all entries of a map holds of those of a part of it
all_in_part : {X : Type 0} (m n : FinMap hash_cmp X) → ((q : DataHash) (x : X) → get n q ≡ Some x → get m q ≡ Some x) → (P : DataHash × X → Type 0) → All P (entries m) → All P (entries n)
all_in_part m n from P all = all_of_map hash_cmp-IsTotalOrder hash_cmp-IsAntisymmetric P n (λ q x at. holds_in_map P m q x all (from q x at))

module _ (a b d : Shard) (shard : IsShard b) (is : IsDifference a b d) where
  file_from : (q : DataHash) (r : MDBFileInfo) → get d.files q ≡ Some r → get b.files q ≡ Some r
  file_from q r at = but_found a.files (get b.files) q r (sym (is.files q) ∙ at)

  xorb_from : (q : DataHash) (r : MDBXorbInfo) → get d.xorbs q ≡ Some r → get b.xorbs q ≡ Some r
  xorb_from q r at = but_found a.xorbs (get b.xorbs) q r (sym (is.xorbs q) ∙ at)

  pub difference_is_shard : IsShard d
  difference_is_shard = record {
    files = record {
      keyed = all_in_part b.files d.files file_from (λ e. e.0 ≡ file_hash_of e.1) shard.files.keyed;
      well_formed = all_in_part b.files d.files file_from (λ e. IsWellFormed e.1) shard.files.well_formed;
    };
    file_rows = omega (arith, shard.file_rows, sub-sum hash_cmp-IsTotalOrder hash_cmp-IsAntisymmetric row_count d.files b.files file_from);
    xorbs = record {
      keyed = all_in_part b.xorbs d.xorbs xorb_from (λ e. e.0 ≡ xorb_hash_of e.1) shard.xorbs.keyed;
      well_formed = all_in_part b.xorbs d.xorbs xorb_from (λ e. IsXorb e.1) shard.xorbs.well_formed;
    };
    xorb_rows = omega (arith, shard.xorb_rows, sub-sum hash_cmp-IsTotalOrder hash_cmp-IsAntisymmetric xorb_row_count d.xorbs b.xorbs xorb_from);
  }
