-- Lists of shards that are mapped by a function: a part that the function keeps of each shard is kept of their join.
use Rattle.std.proofs.Common.{◌≡◌, zero, suc, List, [], ◌∷◌, map, Option, refl, sym, ap, ◌∙◌, arith}
use Rattle.std.specs.Prelude.{Contains}
use Rattle.std.proofs.lemmas.List.{length-map, get_or-map}
use Rattle.xet_shards.specs.Content.Shard.{Shard}
use Rattle.xet_shards.specs.Content.Joins.{HasWhatAnyHas}

-- members of a list that is mapped come from members of the list
pub mapped_member : {X Y : Type 0} (f : X → Y) (xs : List X) (x : X) → Contains xs x → Contains (map f xs) (f x)
mapped_member f xs x (k, within, is) = (k, omega (arith, within, length-map xs f), get_or-map f xs k x (f x) within ∙ ap f is)

pub unmapped_member : {X Y : Type 0} (f : X → Y) (xs : List X) (y : Y) → Contains (map f xs) y → (x : X) × Contains xs x × (f x ≡ y)
unmapped_member f [] y (k, within, is) = absurd (omega (arith, within))
unmapped_member f (x ∷ xs) y (zero, within, is) = (x, (0, omega arith, refl), is)
unmapped_member f (x ∷ xs) y (suc k, within, is) =
    let found = unmapped_member f xs y (k, omega (arith, within), is) in
    (found.0, (suc found.1.0, omega (arith, found.1.1), found.1.2), found.2)

pub part_kept : (f : Shard → Shard) (shards : List Shard) (c : Shard) {X : Type 0} (part : Shard → Option X) → ((s : Shard) → part (f s) ≡ part s)
    → HasWhatAnyHas (Contains shards) c part → HasWhatAnyHas (Contains (map f shards)) (f c) part
part_kept f shards c part same has = λ x. (
  λ is.
      let found = (has x).0 (sym (same c) ∙ is) in
      (f found.0, mapped_member f shards found.0 found.1, same found.0 ∙ found.2),
  λ found.
      let from = unmapped_member f shards found.0 found.1 in
      same c ∙ (has x).1 (from.0, from.1, sym (same from.0) ∙ ap part from.2 ∙ found.2),
)
