-- A function applied once more.
use Rattle.std.proofs.Common.{◌≡◌, ℕ, zero, suc, ◌+◌, refl, add-one}
use Rattle.std.specs.Fn.{iterate}

applied_once_more : {A : Type 0} (h : A → A) (n : ℕ) (x : A) → iterate h (suc n) x ≡ h (iterate h n x)
applied_once_more h zero x = refl
applied_once_more h (suc n) x = applied_once_more h n (h x)

pub applied_to_next : {A : Type 0} (h : A → A) (n : ℕ) (x : A) → iterate h (n + 1) x ≡ h (iterate h n x)
applied_to_next h n x = rw add-one (applied_once_more h n x)
