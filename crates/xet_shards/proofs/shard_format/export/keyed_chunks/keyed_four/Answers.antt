use Rattle.std.proofs.Common.{◌≡◌, true, map, sym, ap, ◌∙◌, if◌then◌else◌, arith}
use Rattle.xet_base.specs.Hash.{hash_eq}
use Rattle.xet_base.specs.KeyedHash.{hmac, no_key}
use Rattle.xet_shards.proofs.Content.KeyedHashes.{under_key_each}
use Rattle.xet_shards.proofs.shard_format.export.keyed_chunks.keyed_four.Goals as goal

pub returns-then-eq : goal.returns-then-eq
returns-then-eq c =
    let hashes = c.args.hashes.now in
    let none : hash_eq c.args.key no_key ≡ true = grind (arith, c.eq.ensures, c.if-eq.true, c.default.ensures) in
    sym (under_key_each c.args.key hashes ∙ ap (λ b. if b then hashes else map (hmac c.args.key) hashes) none)
