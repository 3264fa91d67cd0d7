-- The derived equality of findings.
use Rattle.std.proofs.Common.{◌≡◌, Bool, true, refl, sym, ap, subst, true≢false}
use Rattle.std.specs.Prelude.{List, Contains}
use Rattle.std.specs.Bool.{Decides}
use Rattle.std.specs.List.{Any}
use Rattle.std.proofs.lemmas.Bool.Decides.{Decides-and, Decides-like, Decides-eqb}
use Rattle.xet_base.proofs.HashOrder.{same_hash}
use Rattle.mdb_garbage.specs.declared.finding.Misfit.{Misfit}
use Rattle.mdb_garbage.specs.declared.finding.Misfit.TheVariants.{Unnamed, Total, Start, Lacking, Outside, Bytes}
use Rattle.mdb_garbage.specs.declared.finding.GarbageFinding.{GarbageFinding}
use Rattle.mdb_garbage.specs.declared.finding.Segment.{Segment}
use Rattle.mdb_garbage.specs.contracts.finding.MisfitPartialEq as misfit_equality
use Rattle.mdb_garbage.specs.contracts.finding.GarbageFindingPartialEq as finding_equality
use Rattle.mdb_garbage.specs.contracts.finding.SegmentPartialEq as segment_equality

same_segments : (a b : Segment) → Decides ((segment_equality.TheImpl.ghosts).eq a b) (a ≡ b)
same_segments a b =
    Decides-like ((segment_equality.TheImpl.ghosts).eq a b)
    (λ p i. record { xorb = p.0 i; file = p.1.0 i; index = p.1.1.0 i; start = p.1.1.1.0 i; end = p.1.1.1.1.0 i; bytes = p.1.1.1.1.1 i })
    (λ e. (ap (λ (s : Segment). s.xorb) e, (ap (λ (s : Segment). s.file) e, (ap (λ (s : Segment). s.index) e, (ap (λ (s : Segment). s.start) e, (ap (λ (s : Segment). s.end) e, ap (λ (s : Segment). s.bytes) e))))))
    (Decides-and _ _ (same_hash a.xorb b.xorb) (Decides-and _ _ (same_hash a.file b.file) (Decides-and _ _ (Decides-eqb a.index b.index)
    (Decides-and _ _ (Decides-eqb a.start b.start) (Decides-and _ _ (Decides-eqb a.end b.end) (Decides-eqb a.bytes b.bytes))))))

same_misfits : (a b : Misfit) → (misfit_equality.TheImpl.ghosts).eq a b ≡ true → a ≡ b
same_misfits Unnamed Unnamed e = refl
same_misfits Unnamed (Total a' b') e = absurd (true≢false (sym e))
same_misfits Unnamed (Start a' b' c') e = absurd (true≢false (sym e))
same_misfits Unnamed (Lacking a') e = absurd (true≢false (sym e))
same_misfits Unnamed (Outside a' b') e = absurd (true≢false (sym e))
same_misfits Unnamed (Bytes a' b') e = absurd (true≢false (sym e))
same_misfits (Total a b) Unnamed e = absurd (true≢false (sym e))
same_misfits (Total a b) (Total a' b') e = let p = (Decides-and _ _ (Decides-eqb a a') (Decides-eqb b b')).0 e in λ i. Total (p.0 i) (p.1 i)
same_misfits (Total a b) (Start a' b' c') e = absurd (true≢false (sym e))
same_misfits (Total a b) (Lacking a') e = absurd (true≢false (sym e))
same_misfits (Total a b) (Outside a' b') e = absurd (true≢false (sym e))
same_misfits (Total a b) (Bytes a' b') e = absurd (true≢false (sym e))
same_misfits (Start a b c) Unnamed e = absurd (true≢false (sym e))
same_misfits (Start a b c) (Total a' b') e = absurd (true≢false (sym e))
same_misfits (Start a b c) (Start a' b' c') e = let p = (Decides-and _ _ (Decides-eqb a a') (Decides-and _ _ (Decides-eqb b b') (Decides-eqb c c'))).0 e in λ i. Start (p.0 i) (p.1.0 i) (p.1.1 i)
same_misfits (Start a b c) (Lacking a') e = absurd (true≢false (sym e))
same_misfits (Start a b c) (Outside a' b') e = absurd (true≢false (sym e))
same_misfits (Start a b c) (Bytes a' b') e = absurd (true≢false (sym e))
same_misfits (Lacking a) Unnamed e = absurd (true≢false (sym e))
same_misfits (Lacking a) (Total a' b') e = absurd (true≢false (sym e))
same_misfits (Lacking a) (Start a' b' c') e = absurd (true≢false (sym e))
same_misfits (Lacking a) (Lacking a') e = ap Lacking ((same_segments a a').0 e)
same_misfits (Lacking a) (Outside a' b') e = absurd (true≢false (sym e))
same_misfits (Lacking a) (Bytes a' b') e = absurd (true≢false (sym e))
same_misfits (Outside a b) Unnamed e = absurd (true≢false (sym e))
same_misfits (Outside a b) (Total a' b') e = absurd (true≢false (sym e))
same_misfits (Outside a b) (Start a' b' c') e = absurd (true≢false (sym e))
same_misfits (Outside a b) (Lacking a') e = absurd (true≢false (sym e))
same_misfits (Outside a b) (Outside a' b') e = let p = (Decides-and _ _ (same_segments a a') (Decides-eqb b b')).0 e in λ i. Outside (p.0 i) (p.1 i)
same_misfits (Outside a b) (Bytes a' b') e = absurd (true≢false (sym e))
same_misfits (Bytes a b) Unnamed e = absurd (true≢false (sym e))
same_misfits (Bytes a b) (Total a' b') e = absurd (true≢false (sym e))
same_misfits (Bytes a b) (Start a' b' c') e = absurd (true≢false (sym e))
same_misfits (Bytes a b) (Lacking a') e = absurd (true≢false (sym e))
same_misfits (Bytes a b) (Outside a' b') e = absurd (true≢false (sym e))
same_misfits (Bytes a b) (Bytes a' b') e = let p = (Decides-and _ _ (same_segments a a') (Decides-eqb b b')).0 e in λ i. Bytes (p.0 i) (p.1 i)

itself : (x : Bool) → Decides x (x ≡ true)
itself x = (λ e. e, λ e. e)

-- two findings that the derived test calls equal are equal
same_findings : (a b : GarbageFinding) → (finding_equality.TheImpl.ghosts).eq a b ≡ true → a ≡ b
same_findings a b e =
    let p = (Decides-and _ _ (same_hash a.xorb b.xorb) (itself ((misfit_equality.TheImpl.ghosts).eq a.misfit b.misfit))).0 e in
    λ i. record { xorb = p.0 i; misfit = same_misfits a.misfit b.misfit p.1 i }

pub has_same : (fs : List GarbageFinding) (f : GarbageFinding) → Any (λ g. (finding_equality.TheImpl.ghosts).eq f g ≡ true) fs → Contains fs f
has_same fs f (k, g, below, at, same) = subst (Contains fs) (sym (same_findings f g same)) (k, below, at)
