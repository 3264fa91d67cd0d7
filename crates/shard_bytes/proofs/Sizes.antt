-- What is said of all that a call makes, such as its size, is said of its result.
use Rattle.std.proofs.Common.{ℕ, List, length, Ok, Err, sym, subst}
use Rattle.std.specs.Prelude.{IfErr, IfOk, MatchResult}
use Rattle.std.specs.declared.result.Result.{Result}
use Rattle.xet_core_structures.specs.declared.error.CoreError.{CoreError}
use Rattle.placed_shards.specs.Filling.{FillsWith}
use Rattle.placed_shards.specs.MergeSizes.{IsResultSize}

-- a fact on each value that is made is one on the result
pub if_made : {T E : Type 0} (r : Result T E) (P Q : T → Type 0) (Refused : E → Type 0) → ((v : T) → P v → Q v) → MatchResult r P Refused → IfOk r Q
if_made (Ok v) P Q Refused weaker is = weaker v is
if_made (Err e) P Q Refused weaker is = tt

-- and a fact on each error
pub if_refused : {T E : Type 0} (r : Result T E) (Made : T → Type 0) (P Q : E → Type 0) → ((e : E) → P e → Q e) → MatchResult r Made P → IfErr r Q
if_refused (Ok v) Made P Q weaker is = tt
if_refused (Err e) Made P Q weaker is = weaker e is

-- what is said of the size of the bytes is said of the number that is returned
pub size_returned : (IsMade : List ℕ → Type 0) (IsCause : CoreError → Type 0) (inputs : List (List ℕ)) (old new : List ℕ) (r : Result ℕ CoreError) → ((bytes : List ℕ) → IsMade bytes → IsResultSize inputs (length bytes))
    → FillsWith IsMade IsCause old new r → IfOk r (IsResultSize inputs)
size_returned IsMade IsCause inputs old new (Ok n) says (bytes, made, (is, filled)) = subst (IsResultSize inputs) (sym is) (says bytes made)
size_returned IsMade IsCause inputs old new (Err e) says refused = tt
