-- What holds of all that a call may make, and of all its errors, holds of its outcome.
use Rattle.std.proofs.Common.{ℕ, List, Ok, Err}
use Rattle.std.specs.Prelude.{MatchResult}
use Rattle.std.specs.declared.result.Result.{Result}
use Rattle.std.specs.declared.vec.Vec.{Vec}
use Rattle.xet_base.specs.declared.error.CoreError.{CoreError}

pub if_written : {Z : Type 0} (A B : List ℕ → Type 0) (R S : CoreError → Type 0) (r : Result (Vec ℕ Z) CoreError) → ((bytes : List ℕ) → A bytes → B bytes) → ((e : CoreError) → R e → S e)
    → MatchResult r (λ written. A written.items) R → MatchResult r (λ written. B written.items) S
if_written A B R S (Ok written) made refused is = made written.items is
if_written A B R S (Err e) made refused is = refused e is
