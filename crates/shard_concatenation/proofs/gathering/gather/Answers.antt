use Rattle.std.proofs.Common.{◌≡◌, ◌<◌, ◌^◌, refl, ap, ◌∙◌, arith, rules}
use Rattle.std.proofs.lemmas.Bool.Decides.{nat_tests}
use Rattle.xet_base.specs.declared.merklehash.DataHash.{DataHash}
use Rattle.shard_concatenation.proofs.GatheredParts.{gathered_next, sizes_more, all_gathered, part_splits, same_key, part_fits, version_next, all_versions}
use Rattle.shard_concatenation.proofs.gathering.gather.Goals as goal

pub loop-shard-preserved : goal.loop-shard-preserved
loop-shard-preserved c = (
  λ parts fit are.
      let rows_fit : c.in_ok-more.more.xorb_rows < 2 ^ 32 = search rules in
      rw (c.in_ok-push.ensures.items, c.in_ok-push-2.ensures.items, c.in_ok-push-3.ensures.items)
      (gathered_next c.args.key parts c.args.shards.now fit are c.loop-shard.files.items c.loop-shard.xorbs.items c.loop-shard.cursors.items c.loop-shard.totals c.in_ok-more.more c.loop-shard.shard-index _ c.in_ok-split.split c.loop-shard-test.true (c.loop-shard.invariant.0 parts fit are)
      c.in_ok-split.ensures.split c.in_ok-more.ensures.sums rows_fit),
  rw (c.in_ok-push.ensures.items, c.in_ok-push-2.ensures.items)
      (sizes_more c.loop-shard.files.items c.loop-shard.xorbs.items c.loop-shard.totals c.in_ok-more.more _ c.in_ok-split.split _ _ c.loop-shard.invariant.1 c.in_ok-split.ensures.ranges.0 c.in_ok-split.ensures.ranges.1 c.in_ok-more.ensures.sums refl refl refl refl),
  λ parts fit are.
      c.later_of-version.ensures
      ∙ version_next c.args.key parts c.args.shards.now fit are c.loop-shard.version c.loop-shard.shard-index _ c.in_ok-split.split c.loop-shard-test.true (c.loop-shard.invariant.2 parts fit are) c.in_ok-split.ensures.split,
)

pub returns-clause-version : goal.returns-clause-version
returns-clause-version c = λ parts fit are. all_versions c.args.key parts c.args.shards.now fit are c.loop-shard.version c.loop-shard.shard-index (search rules) (c.loop-shard.invariant.2 parts fit are)

pub returns-clause-gathered : goal.returns-clause-gathered
returns-clause-gathered c = λ parts fit are.
    all_gathered c.args.key parts c.args.shards.now fit are _ _ _ _ c.loop-shard.shard-index (search rules) (c.loop-shard.invariant.0 parts fit are)

pub returns-in_err-split-clause-succeeds : goal.returns-in_err-split-clause-succeeds
returns-in_err-split-clause-succeeds c = λ parts fit are together.
    absurd (part_splits c.args.key parts c.args.shards.now fit are c.loop-shard.shard-index _ c.loop-shard-test.true ⊥ c.in_err-split.ensures.split)

pub returns-then-ne-clause-succeeds : goal.returns-then-ne-clause-succeeds
returns-then-ne-clause-succeeds c = λ parts fit are together.
    let same = same_key c.args.key parts c.args.shards.now fit are c.loop-shard.shard-index _ c.loop-shard-test.true c.in_ok-split.split c.in_ok-split.ensures.split in
    let word0 : c.in_ok-split.split.footer.chunk_hash_hmac_key.word0 ≡ c.args.key.word0 = ap (λ (k : DataHash). k.word0) same in
    let word1 : c.in_ok-split.split.footer.chunk_hash_hmac_key.word1 ≡ c.args.key.word1 = ap (λ (k : DataHash). k.word1) same in
    let word2 : c.in_ok-split.split.footer.chunk_hash_hmac_key.word2 ≡ c.args.key.word2 = ap (λ (k : DataHash). k.word2) same in
    let word3 : c.in_ok-split.split.footer.chunk_hash_hmac_key.word3 ≡ c.args.key.word3 = ap (λ (k : DataHash). k.word3) same in
    absurd (grind (arith, nat_tests, word0, word1, word2, word3, c.ne.ensures, c.if-ne.true))

pub returns-in_err-more-clause-succeeds : goal.returns-in_err-more-clause-succeeds
returns-in_err-more-clause-succeeds c = λ parts fit are together.
    absurd (c.in_err-more.ensures.sums (part_fits c.args.key parts c.args.shards.now fit are c.loop-shard.shard-index _ c.loop-shard-test.true _ _ _ c.loop-shard.totals c.in_ok-split.split (c.loop-shard.invariant.0 parts fit are) c.in_ok-split.ensures.split together))
