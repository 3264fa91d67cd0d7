-- What a view of a xorb says of its last chunk, and of chunks that are rewritten.
use Rattle.std.proofs.Common.{◌≡◌, ◌⊎◌, inl, inr, ℕ, zero, suc, ◌+◌, ◌^◌, ◌<◌, ◌≤◌, List, [], ◌∷◌, ◌++◌, length, take, Option, None, Some, refl, sym, ap, ◌∙◌, subst, add-one, arith}
use Rattle.std.specs.Prelude.{MatchOption}
use Rattle.std.specs.List.{slice_get}
use Rattle.std.specs.Option.{SomeIff}
use Rattle.std.proofs.Math.Seq.{take-suc}
use Rattle.std.proofs.lemmas.List.{length-append, length-take-le}
use Rattle.std.proofs.lemmas.Option.{same_Some, none-some, slice_get_within, get_or_from_slice_get}
use Rattle.xet_records.specs.declared.xorb_structs.XorbChunkSequenceEntry.{XorbChunkSequenceEntry}
use Rattle.xet_records.specs.XorbRecord.{end_of_chunk}
use Rattle.xet_records.specs.View.{end_of_chunks, Rewrites}

-- the end of the last chunk
pub last_end : (cs : List XorbChunkSequenceEntry) (i : ℕ) (c : XorbChunkSequenceEntry) → slice_get cs i ≡ Some c → i + 1 ≡ length cs → end_of_chunks cs ≡ end_of_chunk c
last_end [] i c there last = absurd (omega (arith, last))
last_end (d ∷ []) zero c there last = ap (λ (e : XorbChunkSequenceEntry). end_of_chunk e) (same_Some d c there)
last_end (d ∷ []) (suc i) c there last = absurd (omega (arith, last))
last_end (d ∷ e ∷ cs) zero c there last = absurd (omega (arith, last))
last_end (d ∷ e ∷ cs) (suc i) c there last = last_end (e ∷ cs) i c there (omega (arith, last))

pub checked_end : (sum : Option ℕ) (n m : ℕ) → m ≡ n → SomeIff sum (n < 2 ^ 32) n → MatchOption sum (2 ^ 32 ≤ m) (λ end. (end ≡ m) × (end < 2 ^ 32))
checked_end None n m is fits = omega (arith, is)
checked_end (Some end) n m is fits = (fits.1 ∙ sym is, omega (arith, fits.0, fits.1))

module _ {X : Type 0} where
  at_end : (xs : List X) (x y : X) (i : ℕ) → slice_get (xs ++ x ∷ []) i ≡ Some y → (slice_get xs i ≡ Some y) ⊎ ((i ≡ length xs) × (x ≡ y))
  at_end [] x y zero there = inr (refl, same_Some x y there)
  at_end [] x y (suc i) there = absurd (none-some y there)
  at_end (z ∷ xs) x y zero there = inl there
  at_end (z ∷ xs) x y (suc i) there = elim (at_end xs x y i there) [ inl before ↦ inl before | inr last ↦ inr (ap suc last.0, last.1) ]

  take_one_more : (xs : List X) (n : ℕ) (x : X) → slice_get xs n ≡ Some x → take (n + 1) xs ≡ take n xs ++ x ∷ []
  take_one_more xs n x there =
      ap (λ m. take m xs) (add-one n) ∙ take-suc xs n x (slice_get_within xs n x there)
      ∙ ap (λ y. take n xs ++ y ∷ []) (get_or_from_slice_get xs n x x there)

module _ {X : Type 0} (answers : ℕ → X → X → Type 0) where
  pub none_rewritten : Rewrites answers [] []
  none_rewritten = record { len = refl; each = λ i x y there _. absurd (none-some x there) }

  rewrites_join : (xs ys : List X) (x y : X) (i : ℕ) (s t : X) → Rewrites answers xs ys → answers (length xs) x y
      → (slice_get xs i ≡ Some s) ⊎ ((i ≡ length xs) × (x ≡ s)) → (slice_get ys i ≡ Some t) ⊎ ((i ≡ length ys) × (y ≡ t)) → answers i s t
  rewrites_join xs ys x y i s t before last (inl p) (inl q) = before.each i s t p q
  rewrites_join xs ys x y i s t before last (inl p) (inr q) = absurd (omega (arith, slice_get_within xs i s p, q.0, before.len))
  rewrites_join xs ys x y i s t before last (inr p) (inl q) = absurd (omega (arith, slice_get_within ys i t q, p.0, before.len))
  rewrites_join xs ys x y i s t before last (inr p) (inr q) =
      subst (λ k. answers k s t) (sym p.0) (subst (λ a. answers (length xs) a t) p.1 (subst (λ b. answers (length xs) x b) q.1 last))

  -- one more element is rewritten
  pub one_rewritten : (xs ys : List X) (n : ℕ) (x y : X) → slice_get xs n ≡ Some x → answers n x y → Rewrites answers (take n xs) ys
      → Rewrites answers (take (n + 1) xs) (ys ++ y ∷ [])
  one_rewritten xs ys n x y there answered before =
      let size : length (take n xs) ≡ n = length-take-le n xs (omega (arith, slice_get_within xs n x there)) in
      subst (λ zs. Rewrites answers zs (ys ++ y ∷ [])) (sym (take_one_more xs n x there)) (record {
        len = length-append ys (y ∷ []) ∙ ap (λ k. k + 1) before.len ∙ sym (length-append (take n xs) (x ∷ []));
        each = λ i s t p q. rewrites_join (take n xs) ys x y i s t before (subst (λ k. answers k x y) (sym size) answered) (at_end (take n xs) x s i p) (at_end ys y t i q);
      })
