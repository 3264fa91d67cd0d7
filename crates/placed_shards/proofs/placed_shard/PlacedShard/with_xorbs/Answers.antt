use Rattle.std.proofs.Common.{◌↔◌, refl, arith, rules}
use Rattle.std.specs.Prelude.{Contains, IsTrue}
use Rattle.xet_records.specs.XorbRecord.{xorb_records}
use Rattle.xet_shards.specs.Content.Shard.{xorb_hash_of}
use Rattle.placed_shards.proofs.Filtered.{kept_from_filtered, sum_kept}
use Rattle.placed_shards.proofs.placed_shard.PlacedShard.with_xorbs.Goals as goal

pub invariant_of-result : goal.invariant_of-result
invariant_of-result c =
    let kept = kept_from_filtered _ (λ x kept. IsTrue kept ↔ Contains c.args.hashes.now.items.items (xorb_hash_of x)) _ (λ x b g k. search rules) c.args.self.xorbs.items c.retain.new.self.items
    c.retain.ensures.filtered in
    record { file_rows = c.args.self.file_rows; xorb_rows = omega (arith, c.args.self.xorb_rows, sum_kept _ xorb_records.row_count c.args.self.xorbs.items c.retain.new.self.items kept) }

pub returns : goal.returns
returns c =
    let kept = kept_from_filtered _ (λ x kept. IsTrue kept ↔ Contains c.args.hashes.now.items.items (xorb_hash_of x)) _ (λ x b g k. search rules) c.args.self.xorbs.items c.retain.new.self.items
    c.retain.ensures.filtered in
    (kept, record { files = refl; xorbs = refl; options = refl; as_read = refl })
