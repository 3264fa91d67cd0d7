use Rattle.std.proofs.Common.{◌≡◌, Bor, ℕ, List, map, subst, true}
use Rattle.placed_shards.specs.Content.{content}
use Rattle.placed_shards.specs.Strict.{IsAgreedOr, IsJoinedMerge}
use Rattle.shard_bytes.proofs.Agreeing.{size_of_joined}
use Rattle.shard_bytes.proofs.agree.merge_agreeing_bytes.Goals as goal

pub returns-in-Made-clause-size : goal.returns-in-Made-clause-size
returns-in-Made-clause-size c =
    let a = c.args in
    let inputs : List (List ℕ) = map (λ (x : Bor (List ℕ)). x.now) a.shards.now in
    let agreed = subst (IsAgreedOr a.selection.now inputs (λ made. (made.as_read ≡ true) × IsJoinedMerge a.selection.now inputs (content made))) c.in-Made.is c.in_ok-made.ensures in
    let written = c.in_ok-to_bytes-in-Made.ensures in
    size_of_joined a.selection.now inputs a.version _ (content c.in-Made.made, agreed.1.1, written.0, written.1)
