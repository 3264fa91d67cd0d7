use Rattle.std.proofs.Common.{ap, ◌∙◌, ◌||◌, take, get_or}
use Rattle.std.specs.List.{list_any}
use Rattle.std.proofs.lemmas.List.{take_all}
use Rattle.xet_base.specs.declared.merklehash.DataHash.{DataHash}
use Rattle.xet_base.specs.Hash.{hash_eq}
use Rattle.mdb_overview.specs.Sharing.{shards_of, shards_with}
use Rattle.mdb_overview.proofs.Counting.{shards_with-push}
use Rattle.mdb_overview.proofs.OneShard.{seen_more, counted_once, counted_more}
use Rattle.mdb_overview.proofs.sharing.ChunkHashes.add_shard.Goals as goal

abbrev zero_hash : DataHash
zero_hash = record { word0 = 0; word1 = 0; word2 = 0; word3 = 0 }

pub loop-hash-preserved : goal.loop-hash-preserved
loop-hash-preserved c =
    let hash = get_or c.args.hashes.now c.loop-hash.hash-index zero_hash in
    record {
      seen = λ q. c.in_ok-add_once.ensures.seen q ∙ ap (λ b. hash_eq hash q || b) (c.loop-hash.invariant.seen q)
          ∙ seen_more q c.args.hashes.now c.loop-hash.hash-index zero_hash c.loop-hash-test.true;
      counts = λ q.
          let before = list_any (hash_eq q) (take c.loop-hash.hash-index c.args.hashes.now) in
          let once = counted_once before (hash_eq hash q) (shards_of c.args.self.now q) (shards_of c.loop-hash.self q) (shards_of c.add_once.new.self q)
          (c.loop-hash.invariant.counts q) (rw (c.loop-hash.invariant.seen q) at (c.in_ok-add_once.ensures.counts q)) in
          rw (seen_more q c.args.hashes.now c.loop-hash.hash-index zero_hash c.loop-hash-test.true) at once;
    }

-- at the end the shard counts for each hash that it has
pub returns : goal.returns
returns c = λ shards counted q.
    let all = take_all c.loop-hash.hash-index c.args.hashes.now c.loop-hash-test.false in
    let more = counted_more (shards_with q shards) (list_any (hash_eq q) c.args.hashes.now) (shards_of c.args.self.now q) (shards_of c.loop-hash.self q)
    (counted q) (rw all at (c.loop-hash.invariant.counts q)) in
    rw (shards_with-push q shards c.args.hashes.now) more
