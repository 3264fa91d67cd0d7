use Rattle.std.proofs.Common.{Bor, ℕ, List, map, refl}
use Rattle.shard_concatenation.specs.Concatenation.{RefusesConcatenation}
use Rattle.shard_concatenation.specs.Spans.{FillsSpan}
use Rattle.shard_bytes.proofs.Concatenations.{lacks_still, none_concatenated, concatenates}
use Rattle.shard_bytes.proofs.MemoryErrors.{from_memory}
use Rattle.shard_bytes.proofs.concatenate.concatenate_span_into.Goals as goal

pub returns-in-Ok : goal.returns-in-Ok
returns-in-Ok c =
    concatenates c.args.shards.now _ (λ M. (bytes : List ℕ) × M bytes × FillsSpan bytes c.args.from c.args.out.now c.concatenated_span_into.new.out c.in-Ok.size)
    (λ M made IsCause. made)
    c.in-Ok.ensures.causes
    (λ key parts fit are. c.in-Ok.ensures.parts key parts fit are)
    (λ key parts fit are each.
    let (bytes, any, fills) = c.in-Ok.ensures.causes in
    (bytes, c.in-Ok.ensures.order key parts fit are each, fills))
    (λ written is. c.in-Ok.ensures.shard written is)

pub returns-in-Err : goal.returns-in-Err
returns-in-Err c =
    none_concatenated c.args.shards.now _ _ (λ IsMade IsCause fails. (fails, c.in-Err.ensures.causes.1))
    (from_memory (RefusesConcatenation (map (λ (x : Bor (List ℕ)). x.now) c.args.shards.now)) _ _ c.in_memory.ensures (λ none. c.in-Err.ensures.causes.0))
    (λ key parts row are. lacks_still _ _ c.in_memory.ensures (c.in-Err.ensures.succeeds key parts row are))
