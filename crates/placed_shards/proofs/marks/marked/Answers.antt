use Rattle.std.proofs.Common.{◌≡◌, length, sym, ap, ◌∙◌, subst, rules}
use Rattle.std.proofs.lemmas.List.{nil_from_length}
use Rattle.xet_records.specs.XorbRecord.{IsStoredXorb}
use Rattle.xet_shards.specs.StreamingShard.MinimalShard.{has_start, mark_starts}
use Rattle.placed_shards.proofs.Marking.{no_marks, marked_stored}
use Rattle.placed_shards.proofs.marks.marked.Goals as goal

pub returns-then-is_empty : goal.returns-then-is_empty
returns-then-is_empty c =
    let x = c.args.xorb.now in
    let own = c.starts_in-own.result.now in
    let zero : length own ≡ 0 = search rules in
    c.copy.ensures ∙ sym (no_marks x) ∙ ap (λ ss. mark_starts (has_start ss) x) (sym (nil_from_length own zero)) ∙ c.starts_in-own.ensures.marks

pub place_xorb-requires : goal.place_xorb-requires
place_xorb-requires c =
    let own = has_start c.starts_in-own.result.now in
    subst IsStoredXorb (sym (c.with_marks.ensures ∙ ap (mark_starts own) c.in_ok-read_xorb.ensures)) (marked_stored c.args.xorb.now own c.is_stored.ensures.stored)
