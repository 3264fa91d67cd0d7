use Rattle.std.proofs.Common.{◌≡◌, sym, ap, ◌∙◌, subst}
use Rattle.xet_core_structures.specs.Source.{Source}
use Rattle.xet_core_structures.specs.WrittenShard.{IsBytesOf}
use Rattle.callers.proofs.Callers.{without_expiry}
use Rattle.callers.proofs.uses.merge.merge_and_find.Goals as goal

pub returns : goal.returns
returns c shards join merge =
    let written = c.in_ok-merged.ensures.one_byte_string shards join merge in
    let same : c.new.result.bytes.now ≡ c.in_ok-merged.merged.items = ap (λ (s : Source). s.bytes) c.new.ensures ∙ c.as_slice.ensures.value in
    (written, c.in_ok-found.ensures.answer join (subst (IsBytesOf join) (sym same) (without_expiry join c.in_ok-merged.merged.items written)))
