-- The order of hashes is total, and only equal hashes tie.
use Rattle.std.proofs.Common.{◌≡◌, ℕ, true, ap, subst}
use Rattle.std.specs.Bool.{Decides}
use Rattle.std.specs.Ordering.{nat_cmp, eq_by_cmp}
use Rattle.std.specs.Cmp.{IsTotalOrder, Equal-is}
use Rattle.std.specs.FinMap.{IsAntisymmetric}
use Rattle.std.proofs.lemmas.Bool.Decides.{Decides-and, Decides-like, Decides-eqb}
use Rattle.std.proofs.lemmas.Cmp.{then_total, on_total, nat_cmp_total, eq_by_cmp_equiv}
use Rattle.std.proofs.lemmas.Map.Lookups.{exact_pairs, exact_unsigned}
use Rattle.xet_base.specs.declared.merklehash.DataHash.{DataHash}
use Rattle.xet_base.specs.Hash.{hash_cmp, hash_eq}

pub hash_cmp-IsTotalOrder : IsTotalOrder hash_cmp
hash_cmp-IsTotalOrder =
    then_total (on_total (λ (h : DataHash). h.word0) nat_cmp_total) (then_total (on_total (λ (h : DataHash). h.word1) nat_cmp_total)
    (then_total (on_total (λ (h : DataHash). h.word2) nat_cmp_total) (on_total (λ (h : DataHash). h.word3) nat_cmp_total)))

pub hash_cmp-IsAntisymmetric : IsAntisymmetric hash_cmp
hash_cmp-IsAntisymmetric a b tied =
    ap (λ (p : ℕ × (ℕ × (ℕ × ℕ))). record { word0 = p.0; word1 = p.1.0; word2 = p.1.1.0; word3 = p.1.1.1 })
    (exact_pairs nat_cmp _ exact_unsigned (exact_pairs nat_cmp _ exact_unsigned (exact_pairs nat_cmp nat_cmp exact_unsigned exact_unsigned))
    (a.word0, (a.word1, (a.word2, a.word3))) (b.word0, (b.word1, (b.word2, b.word3))) tied)

-- equality of hashes, word by word and by the order
pub same_hash : (a b : DataHash) → Decides (hash_eq a b) (a ≡ b)
same_hash a b =
    Decides-like (hash_eq a b) (λ p i. record { word0 = p.0 i; word1 = p.1.0 i; word2 = p.1.1.0 i; word3 = p.1.1.1 i })
    (λ e. (ap (λ (h : DataHash). h.word0) e, (ap (λ (h : DataHash). h.word1) e, (ap (λ (h : DataHash). h.word2) e, ap (λ (h : DataHash). h.word3) e))))
    (Decides-and _ _ (Decides-eqb a.word0 b.word0) (Decides-and _ _ (Decides-eqb a.word1 b.word1) (Decides-and _ _ (Decides-eqb a.word2 b.word2) (Decides-eqb a.word3 b.word3))))

pub same_key : (a b : DataHash) → Decides (eq_by_cmp hash_cmp a b) (a ≡ b)
same_key a b = (
  λ tied. hash_cmp-IsAntisymmetric a b ((Equal-is (hash_cmp a b)).0 tied),
  λ same. subst (λ c. eq_by_cmp hash_cmp a c ≡ true) same ((eq_by_cmp_equiv hash_cmp-IsTotalOrder).refl a),
)
