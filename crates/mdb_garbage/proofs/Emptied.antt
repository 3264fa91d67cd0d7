-- Whether a segment names a hash.
use Rattle.std.proofs.Common.{◌≡◌, ◌↔◌, List, [], ◌∷◌, length, Contains, refl, arith}
use Rattle.xet_base.specs.declared.merklehash.DataHash.{DataHash}
use Rattle.mdb_garbage.specs.declared.finding.Segment.{Segment}

module _ (segments : List Segment) where
  pub none_named : (named : List Segment) (hash : DataHash) → ((s : Segment) → Contains named s ↔ (Contains segments s × (s.xorb ≡ hash))) → length named ≡ 0
      → (s : Segment) → Contains segments s → ¬ (s.xorb ≡ hash)
  none_named named hash are empty s has names = let there = (are s).1 (has, names) in omega (arith, there.1, empty)

  pub one_named : (named : List Segment) (hash : DataHash) → ((s : Segment) → Contains named s ↔ (Contains segments s × (s.xorb ≡ hash))) → ¬ (length named ≡ 0)
      → ¬ ((s : Segment) → Contains segments s → ¬ (s.xorb ≡ hash))
  one_named [] hash are some none = some refl
  one_named (t ∷ ts) hash are some none = let there = (are t).0 (0, omega arith, refl) in none t there.0 there.1
