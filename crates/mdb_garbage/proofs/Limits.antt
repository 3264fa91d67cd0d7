-- A range whose end is lowered.
use Rattle.std.proofs.Common.{◌≡◌, Bool, true, false, ◌&&◌, Option, Some, refl, sym, ap, subst, true≢false}
use Rattle.std.specs.Ordering.{is_lt}
use Rattle.std.specs.declared.cmp.Ordering.{Ordering}
use Rattle.std.specs.declared.cmp.Ordering.TheVariants.{Less, Equal, Greater}
use Rattle.xet_base.specs.declared.merklehash.DataHash.{DataHash}
use Rattle.xet_base.specs.Hash.{hash_cmp}
use Rattle.xet_base.proofs.HashOrder.{hash_cmp-IsTotalOrder}
use Rattle.mdb_garbage.specs.CollectedRanges.{InRange, is_from}

pub is_less : (o : Ordering) → is_lt o ≡ true → o ≡ Less
is_less Less is = refl
is_less Equal is = absurd (true≢false (sym is))
is_less Greater is = absurd (true≢false (sym is))

and_more : (a b c : Bool) → (b ≡ true → c ≡ true) → (a && b) ≡ true → (a && c) ≡ true
and_more true b c more both = more both
and_more false b c more both = both

pub in_wider_range : (from old : Option DataHash) (to limit hash : DataHash) → old ≡ Some limit → is_lt (hash_cmp to limit) ≡ true → InRange (record { from = from; to = Some to }) hash
    → InRange (record { from = from; to = old }) hash
in_wider_range from old to limit hash old_is less within =
    subst (λ o. InRange (record { from = from; to = o }) hash) (sym old_is)
    (and_more (is_from from hash) (is_lt (hash_cmp hash to)) (is_lt (hash_cmp hash limit))
    (λ below. ap is_lt (hash_cmp-IsTotalOrder.trans hash to limit (is_less (hash_cmp hash to) below) (is_less (hash_cmp to limit) less))) within)
