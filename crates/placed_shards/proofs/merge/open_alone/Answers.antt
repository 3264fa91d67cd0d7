use Rattle.std.proofs.Common.{rules}
use Rattle.std.proofs.lemmas.Result.{err_from_is_err_and}
use Rattle.placed_shards.specs.Content.{content}
use Rattle.placed_shards.proofs.FoundAgreeing.{found_malformed}
use Rattle.placed_shards.proofs.merge.open_alone.Goals as goal

pub returns-in_err-opened : goal.returns-in_err-opened
returns-in_err-opened c =
    let p = err_from_is_err_and c.from_residual.result c.from_residual.ensures.1 in
    rw (p.1, p.2) (λ formed. c.in_err-opened.ensures)

pub returns-then-is_some : goal.returns-then-is_some
returns-then-is_some c = λ formed.
    let opened = c.in_ok-opened.ensures in
    let made = content c.in_ok-opened.opened in
    absurd (found_malformed made c.malformed_in.result (search rules) c.malformed_in.ensures (formed (search rules) made opened.opens))
