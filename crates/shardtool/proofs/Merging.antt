-- What a tree of names gives is what its plan writes.
use Rattle.std.proofs.Common.{◌≡◌, inl, inr, ℕ, suc, zero, List, [], ◌∷◌, ◌++◌, length, map, Some, refl, sym, ap, ◌∙◌, subst}
use Rattle.std.specs.Borrow.{Bor}
use Rattle.std.specs.Prelude.{slice_get}
use Rattle.std.proofs.lemmas.List.{append_assoc, map-append, length-map}
use Rattle.std.proofs.lemmas.Option.{none-some, slice_get_past}
use Rattle.xet_core_structures.specs.declared.error.CoreError.{CoreError}
use Rattle.xet_core_structures.specs.declared.error.CoreError.TheVariants.{OutOfMemory}
use Rattle.xet_core_structures.specs.declared.set_operations.MergePlan.{MergePlan}
use Rattle.xet_core_structures.specs.declared.set_operations.MergePlan.TheVariants.{Leaf, Both' as both_plans}
use Rattle.xet_core_structures.specs.Trees.MergeTrees.{TreeWrites, TreeRefusal}
use Rattle.shardtool.specs.declared.stop.Stop.{Stop}
use Rattle.script_lines.specs.declared.tree.NameTree.{NameTree}
use Rattle.script_lines.specs.declared.tree.NameTree.TheVariants.{Name, Both'}
use Rattle.shardtool.specs.NamedTrees.{Buffers, MergesTo, MergeRefusal, HasUnknown, StopsAtUnknown, MergeStops, IsPlanOf, PlanStops}

slice_get_append : {X : Type 0} (xs ys : List X) (i : ℕ) (x : X) → slice_get xs i ≡ Some x → slice_get (xs ++ ys) i ≡ Some x
slice_get_append [] ys i x is = absurd (none-some x is)
slice_get_append (z ∷ zs) ys zero x is = is
slice_get_append (z ∷ zs) ys (suc i) x is = slice_get_append zs ys i x is

slice_get_end : {X : Type 0} (xs : List X) (y : X) → slice_get (xs ++ y ∷ []) (length xs) ≡ Some y
slice_get_end [] y = refl
slice_get_end (z ∷ zs) y = slice_get_end zs y

module _ (buffers : Buffers) where
  -- with more inputs
  plan_with_more : (inputs more : List (List ℕ)) (tree : NameTree) (plan : MergePlan) → IsPlanOf buffers inputs tree plan → IsPlanOf buffers (inputs ++ more) tree plan
  plan_with_more inputs more (Name name) (Leaf i) (bytes, known, at) = (bytes, known, slice_get_append inputs more i bytes at)
  plan_with_more inputs more (Both' p left q right) (both_plans p1 plan1 q1 plan2) (first, second) =
      (plan_with_more inputs more left plan1 first, plan_with_more inputs more right plan2 second)
  plan_with_more inputs more (Name name) (both_plans p1 plan1 q1 plan2) none = absurd none
  plan_with_more inputs more (Both' p left q right) (Leaf i) none = absurd none

  module _ (inputs : List (List ℕ)) where
    -- each name in it has a buffer
    pub plan_known : (tree : NameTree) (plan : MergePlan) → IsPlanOf buffers inputs tree plan → ¬ HasUnknown buffers tree
    plan_known (Name name) (Leaf i) (bytes, known, at) unknown = none-some bytes (sym unknown ∙ known)
    plan_known (Both' p left q right) (both_plans p1 plan1 q1 plan2) (first, second) (inl unknown) = plan_known left plan1 first unknown
    plan_known (Both' p left q right) (both_plans p1 plan1 q1 plan2) (first, second) (inr unknown) = plan_known right plan2 second unknown
    plan_known (Name name) (both_plans p1 plan1 q1 plan2) none unknown = absurd none
    plan_known (Both' p left q right) (Leaf i) none unknown = absurd none

    pub plan_merges : (tree : NameTree) (plan : MergePlan) (out : List ℕ) → IsPlanOf buffers inputs tree plan → TreeWrites inputs plan out → MergesTo buffers tree out
    plan_merges (Name name) (Leaf i) out (bytes, known, at) is = known ∙ (sym at ∙ is)
    plan_merges (Both' p left q right) (both_plans p1 plan1 q1 plan2) out (first, second) (x, y, x_written, y_written, unites) =
        (x, y, plan_merges left plan1 x first x_written, plan_merges right plan2 y second y_written, unites)
    plan_merges (Name name) (both_plans p1 plan1 q1 plan2) out none is = absurd none
    plan_merges (Both' p left q right) (Leaf i) out none is = absurd none

    pub plan_refused : (tree : NameTree) (plan : MergePlan) (e : CoreError) → IsPlanOf buffers inputs tree plan → TreeRefusal inputs plan e → MergeRefusal buffers tree e
    plan_refused (Name name) (Leaf i) e (bytes, known, at) (inl (is, past)) = absurd (none-some bytes (sym (slice_get_past inputs i past) ∙ at))
    plan_refused (Name name) (Leaf i) e (bytes, known, at) (inr (no_memory, here)) = no_memory
    plan_refused (Both' p left q right) (both_plans p1 plan1 q1 plan2) e (first, second) (inl refusal) = inl (plan_refused left plan1 e first refusal)
    plan_refused (Both' p left q right) (both_plans p1 plan1 q1 plan2) e (first, second) (inr (x, x_written, inl refusal)) =
        inr (x, plan_merges left plan1 x first x_written, inl (plan_refused right plan2 e second refusal))
    plan_refused (Both' p left q right) (both_plans p1 plan1 q1 plan2) e (first, second) (inr (x, x_written, inr (y, y_written, refusal))) =
        inr (x, plan_merges left plan1 x first x_written, inr (y, plan_merges right plan2 y second y_written, refusal))
    plan_refused (Name name) (both_plans p1 plan1 q1 plan2) e none refusal = absurd none
    plan_refused (Both' p left q right) (Leaf i) e none refusal = absurd none

  refused_for_memory : (tree : NameTree) → MergeRefusal buffers tree OutOfMemory
  refused_for_memory (Name name) = refl
  refused_for_memory (Both' p left q right) = inl (refused_for_memory left)

  pub stops_without_plan : (tree : NameTree) (stop : Stop) → PlanStops buffers tree stop → MergeStops buffers tree stop
  stops_without_plan tree stop (inl is) = subst (MergeStops buffers tree) (sym is) (refused_for_memory tree)
  stops_without_plan tree stop (inr (is, unknown)) = subst (MergeStops buffers tree) (sym is) unknown

  pub stops_at_unknown : (tree : NameTree) (stop : Stop) → PlanStops buffers tree stop → StopsAtUnknown stop
  stops_at_unknown tree stop (inl is) = inr is
  stops_at_unknown tree stop (inr (is, unknown)) = inl is

  -- one more input, at a name
  pub plan_of_name : (tree : NameTree) (name bytes : Bor (List ℕ)) (old new : List (Bor (List ℕ))) (index : ℕ) → tree ≡ Name name → new ≡ old ++ bytes ∷ [] → index ≡ length old
      → buffers name.now ≡ Some bytes.now
      → ((more : List (List ℕ)) × (map (λ x. x.now) new ≡ map (λ x. x.now) old ++ more)) × IsPlanOf buffers (map (λ x. x.now) new) tree (Leaf index)
  plan_of_name tree name bytes old new index tree_is new_is index_is known =
      let inputs : map (λ (x : Bor (List ℕ)). x.now) new ≡ map (λ (x : Bor (List ℕ)). x.now) old ++ bytes.now ∷ [] =
      ap (map (λ (x : Bor (List ℕ)). x.now)) new_is ∙ map-append (λ (x : Bor (List ℕ)). x.now) old (bytes ∷ []) in
      let at : slice_get (map (λ (x : Bor (List ℕ)). x.now) old ++ bytes.now ∷ []) index ≡ Some bytes.now =
      ap (slice_get (map (λ (x : Bor (List ℕ)). x.now) old ++ bytes.now ∷ [])) (index_is ∙ sym (length-map old (λ (x : Bor (List ℕ)). x.now))) ∙ slice_get_end (map (λ (x : Bor (List ℕ)). x.now) old) bytes.now in (
        (bytes.now ∷ [], inputs),
        subst (λ tree. IsPlanOf buffers (map (λ (x : Bor (List ℕ)). x.now) new) tree (Leaf index)) (sym tree_is)
            (bytes.now, known, subst (λ zs. slice_get zs index ≡ Some bytes.now) (sym inputs) at),
      )

  -- the plans of both sides of a pair, in boxes
  pub plan_of_pair : (left right left_read right_read : NameTree) (first second first_boxed second_boxed : MergePlan) (start middle end : List (List ℕ))
      → left_read ≡ left → right_read ≡ right → first_boxed ≡ first → second_boxed ≡ second
      → ((more : List (List ℕ)) × (middle ≡ start ++ more)) × IsPlanOf buffers middle left_read first
      → ((more : List (List ℕ)) × (end ≡ middle ++ more)) × IsPlanOf buffers end right_read second
      → ((more : List (List ℕ)) × (end ≡ start ++ more)) × (IsPlanOf buffers end left first_boxed × IsPlanOf buffers end right second_boxed)
  plan_of_pair left right left_read right_read first second first_boxed second_boxed start middle end left_is right_is first_is second_is ((more, middle_is), one) ((further, end_is), other) = (
    (more ++ further, end_is ∙ ap (λ zs. zs ++ further) middle_is ∙ append_assoc start more further),
    (
      subst (λ plan. IsPlanOf buffers end left plan) (sym first_is) (subst (λ tree. IsPlanOf buffers end tree first) left_is
          (subst (λ zs. IsPlanOf buffers zs left_read first) (sym end_is) (plan_with_more middle further left_read first one))),
      subst (λ plan. IsPlanOf buffers end right plan) (sym second_is) (subst (λ tree. IsPlanOf buffers end tree second) right_is other),
    ),
  )
