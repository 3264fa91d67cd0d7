use Rattle.std.proofs.Common.{rules, ◌∙◌, sym, ap, subst, Some, take, true≢false}
use Rattle.std.specs.Prelude.{is_some}
use Rattle.xet_base.specs.Hex.{IsHexText, Spells}
use Rattle.xet_shards.proofs.Content.Names.{name_split, digits_before, ending_stripped, named-unique}
use Rattle.xet_shards.proofs.utils.parse_shard_filename.Goals as goal

pub returns-in_err-digits-clause-accepted : goal.returns-in_err-digits-clause-accepted
returns-in_err-digits-clause-accepted c = (
  λ some. absurd (true≢false (sym some ∙ ap is_some c.from_residual.ensures)),
  λ is. absurd (c.in_err-digits.ensures.cases (take 64 c.args.filename.now) (name_split c.args.filename.now is)),
)

pub returns-in_err-digits-clause-back : goal.returns-in_err-digits-clause-back
returns-in_err-digits-clause-back c = λ hash fits named.
    absurd (c.in_err-digits.ensures.cases (take 64 c.args.filename.now) (name_split c.args.filename.now named.0))

pub returns-in_err-hash-clause-accepted : goal.returns-in_err-hash-clause-accepted
returns-in_err-hash-clause-accepted c =
    let name = c.args.filename.now in
    let digits = c.in_ok-digits.digits.now in
    let split = ending_stripped name digits c.in_ok-digits.ensures.cases in (
      λ some. absurd (true≢false (sym some ∙ ap is_some c.from_residual-in_err-hash.ensures)),
      λ is. absurd (true≢false (sym (c.from_hex.ensures.accepted.1 (subst IsHexText (digits_before name digits split is) is.digits))
          ∙ sym c.in_err-hash.ensures.variant)),
    )

pub returns-in_err-hash-clause-back : goal.returns-in_err-hash-clause-back
returns-in_err-hash-clause-back c = λ hash fits named.
    absurd (true≢false (sym ((returns-in_err-hash-clause-accepted c).1 named.0) ∙ ap is_some c.from_residual-in_err-hash.ensures))

pub returns-clause-back : goal.returns-clause-back
returns-clause-back c = λ hash fits named.
    let name = c.args.filename.now in
    let digits = c.in_ok-digits.digits.now in
    let same = digits_before name digits (ending_stripped name digits c.in_ok-digits.ensures.cases) named.0 in
    let spelled : Spells digits c.in_ok-hash.hash = search rules in
    ap Some (named-unique name c.in_ok-hash.hash hash c.widths.ensures fits (named.0, subst (λ text. Spells text c.in_ok-hash.hash) (sym same) spelled) named)
