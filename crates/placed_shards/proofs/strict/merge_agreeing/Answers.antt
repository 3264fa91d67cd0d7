use Rattle.std.proofs.Common.{Bor, ℕ, List, map, refl}
use Rattle.placed_shards.specs.Content.{content}
use Rattle.placed_shards.proofs.JoinedMerges.{joined}
use Rattle.placed_shards.proofs.strict.merge_agreeing.Goals as goal

pub returns-in-Ok : goal.returns-in-Ok
returns-in-Ok c =
    let inputs : List (List ℕ) = map (λ (x : Bor (List ℕ)). x.now) c.args.inputs.now in
    let merged = c.in-Ok.ensures in
    let agreeing = (merged.stands refl).agreeing in
    (agreeing, (merged.as_read, joined c.args.selection.now inputs (content c.in-Ok.made) merged.is agreeing))

pub why_not-requires : goal.why_not-requires
why_not-requires c = λ agreeing. c.in-Err.ensures (λ so. agreeing)
