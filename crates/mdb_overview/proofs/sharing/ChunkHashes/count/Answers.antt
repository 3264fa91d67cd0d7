use Rattle.std.proofs.Common.{rules, ◌≡◌, ℕ, Bor, map, ◌∷◌, []}
use Rattle.std.specs.HashMap.{values}
use Rattle.std.specs.Map.Iter.{deref}
use Rattle.std.proofs.lemmas.List.{map-append}
use Rattle.std.proofs.lemmas.Map.Iter.{iter_end}
use Rattle.mdb_overview.proofs.Counting.{CountNumbers-push}
use Rattle.mdb_overview.proofs.sharing.ChunkHashes.count.Goals as goal

pub loop-shards-preserved : goal.loop-shards-preserved
loop-shards-preserved c =
    let counted = CountNumbers-push (map (λ n. n.now) c.loop-shards.yielded) c.in-Some.shards.now c.args.sharing.now c.loop-shards.sharing c.add.new.self c.loop-shards.invariant c.in_ok-add.ensures in
    rw (map-append (λ (n : Bor ℕ). n.now) c.loop-shards.yielded (c.in-Some.shards ∷ [])) counted

-- at the end all numbers were counted
pub returns : goal.returns
returns c =
    let all : map deref c.loop-shards.yielded ≡ values c.args.self.now.shards = search (rules, iter_end) in
    rw all at c.loop-shards.invariant
