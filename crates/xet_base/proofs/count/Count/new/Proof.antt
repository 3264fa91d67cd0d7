-- `new` makes a counter at zero.
use mathlib.Core.Path.{refl}
use mathlib.Core.List.{[], ◌∷◌}
use base.Fml.{ftrue}
use contract.Running.{tables}
use types.Kit.{‵, ◌⊛◌, ◌$◌, ◌∵◌, !, qed, keep, join, fjoin, suffices, frame, use0}
use types.Run.{no_more, and_then, returns, enter}
use types.ByLocal.{alloc_all, pass_all, free_all, look_at, get, sets}
use types.Part.{agg}
use denote.Builtin.{unit}
use denote.Steps.{nothing}
use denote.Triple.Walked.{walk_of, ends_at}
use Rattle.xet_base.proofs.Ghost.{token, Mark, Mark-from_nothing, gives_last}
use Rattle.std.proofs.raw_atomic.Walks.{proved}
use Rattle.xet_base.specs.contracts.count.Count as R
use Rattle.xet_base.specs.contracts.count.Count.new as f
use Rattle.xet_base.proofs.count.Count.new.Statement.{statement}
use Rattle.xet_base.proofs.count.Count.new.Code as code

pub new_spec : {M : Type 1} → statement M
new_spec 𝓤 𝓛 𝓜 𝓡 wired =
    let c = f.clauses 𝓛 𝓜.mem 𝓡.returns in let W = walk_of 𝓛 f.ended tt c in let 𝓣 = tables 𝓤 𝓛.H 𝓜 𝓡 𝓡.env in
    proved 𝓛 f.ended tt c 𝓜 𝓡 tt f.Key.name code.function (code.unfolded 𝓤 𝓛.H 𝓜 𝓡 wired)
    (λ κs. tt) (λ κs. tt) (λ κs qs bounds a _ are.
    let y : W.Ghost = ((κs, qs, bounds, a, tt), tt) in
    qed 𝓛 ((‵ ftrue ⊛ ‵ ftrue) ∷ ‵ ftrue ∷ []) ∵ keep ! [] $
    enter ! _ _ _ _ _ $ alloc_all ! (λ l. pass_all ! refl tt $
    sets ! (agg ! (no_more !)) refl (tt, tt) $ sets ! (agg ! (and_then ! (get ! refl) (no_more !))) refl (tt, (tt, tt)) $
    returns ! (look_at ! 0 refl) $ free_all ! refl $
    suffices ! _ (ends_at 𝓛 f.ended tt c y token (record { marker = record {}; value = 0 }) tt tt) $
    nothing ! $ use0 𝓛 (‵ ((Mark (R.the_type).name [] unit).own_val (tt, tt) (token ∷ []))) (Mark-from_nothing (R.the_type).name [] unit 𝓛) $
    fjoin ! $ nothing ! $ join ! $ nothing ! $ join ! $ frame ! $ gives_last ! refl))
