-- What lies past a range of a list stays where the range is written.
use Rattle.std.proofs.Common.{arith, ◌≡◌, ℕ, ◌-◌, ◌≤◌, List, length, take, drop}
use Rattle.std.proofs.Common.{length-drop, length-take-le}
use Rattle.std.proofs.lemmas.Slice.{drop-put_mid}
use borrow.Rule.Slice.PartMut.{put_mid}

pub drop_past : (from to : ℕ) (part rows : List ℕ) (i : ℕ) → to ≤ i → from ≤ to → to ≤ length part
    → length rows ≡ length (take (to - from) (drop from part)) → drop i (put_mid from (to - from) part rows) ≡ drop i part
drop_past from to part rows i past ordered within long =
    let all : length rows ≡ to - from =
    omega (
      arith,
      long,
      length-take-le (to - from) (drop from part) (omega (arith, length-drop from part, ordered, within)),
    ) in
    drop-put_mid from (to - from) part rows i (omega (arith, past, ordered)) (omega (arith, ordered, within)) all
