-- Where both halves of each list that is merged agree, all byte strings do.
use Rattle.std.proofs.Common.{◌≡◌, ◌⊎◌, inl, inr, ℕ, Bool, true, List, [], ◌∷◌, ◌++◌, Ok, Err, refl, sym, ◌∙◌, subst, arith}
use Rattle.std.specs.Prelude.{All, Contains, IsTrue, MatchResult}
use Rattle.std.specs.declared.result.Result.{Result}
use Rattle.std.proofs.lemmas.List.Elements.{All-append, All-cons, All-contains, All-nil, Contains-append_cases, Contains-append_left, Contains-append_right, Contains-push}
use Rattle.xet_base.specs.declared.error.CoreError.{CoreError}
use Rattle.xet_shards.proofs.ShardInMemory.ChunkLookups.{All-front}
use Rattle.xet_shards.proofs.Read.Zipped.{zipped_append, zipped_parts}
use Rattle.placed_shards.specs.declared.placed_shard.PlacedShard.{PlacedShard}
use Rattle.placed_shards.specs.declared.selection.Selection.{Selection}
use Rattle.placed_shards.specs.Agreement.{IsAgreedFile, IsAgreedXorb}
use Rattle.placed_shards.specs.Content.{Content, content}
use Rattle.placed_shards.specs.Findings.{AgreeInAll, AreOpened, HasFormedRecords}
use Rattle.placed_shards.specs.MergedLists.{AreHalves}
use Rattle.placed_shards.specs.MergedLists.IsMergeOf.{of_one, of_halves}
use Rattle.placed_shards.specs.MergedLists.MergeRefusal.{not_read, of_first, of_second, of_union}
use Rattle.placed_shards.specs.Selections.{OpensSelected, SelectedRefusal}
use Rattle.placed_shards.specs.Steps.MergingSteps.{IsMerged, IsOpenedAlone, NotMerged, StandsFor}
use Rattle.placed_shards.specs.Strict.{AreAgreeing}
use Rattle.placed_shards.specs.Unions.{Unites, Refuses, IsUnionOf, UnionRefusal}
use Rattle.placed_shards.proofs.AgreedUnions.{agreed_with, as_refusal, as_union, both_agree, itself, turned}
use Rattle.placed_shards.proofs.Items.{all_behind, only_item}
use Rattle.placed_shards.proofs.Selections.{opens_selected_once, opened_once}

module _ (selection : Selection) where
  -- one input
  module _ (inputs : List (List ℕ)) (x : List ℕ) (is : inputs ≡ x ∷ []) where
    stands_alone : (c : Content) → OpensSelected selection x c → HasFormedRecords c → StandsFor selection inputs c
    stands_alone c opens formed = record {
      agreeing = record {
        contents = c ∷ [];
        opened = subst (λ l. AreOpened selection l (c ∷ [])) (sym is) (opens, tt);
        formed = All-cons HasFormedRecords c [] formed (All-nil HasFormedRecords);
        agree = λ d e one other. subst (λ p. p) (λ i. AgreeInAll (only_item c d one i) (only_item c e other i)) (itself c);
      };
      stands = λ t. (λ all d at. subst (AgreeInAll t) (only_item c d at) all, λ each. each c (Contains-push [] c));
    }

    -- if it agrees, its records are well-formed
    formed_alone : AreAgreeing selection inputs → (c : Content) → OpensSelected selection x c → HasFormedRecords c
    formed_alone agreeing c opens = of agreeing.contents (subst (λ l. AreOpened selection l agreeing.contents) is agreeing.opened) agreeing.formed where
      of : (cs : List Content) → AreOpened selection (x ∷ []) cs → All HasFormedRecords cs → HasFormedRecords c
      of [] opened formed = absurd opened
      of (d ∷ cs) opened formed = subst HasFormedRecords (opens_selected_once selection x d c opened.0 opens) (All-contains HasFormedRecords (d ∷ cs) d formed (0, omega arith, refl))

    pub alone : (strict : Bool) (r : Result PlacedShard CoreError)
        → MatchResult r (λ opened. IsOpenedAlone selection x opened × (IsTrue strict → HasFormedRecords (content opened))) (λ e. (IsTrue strict → (c : Content) → OpensSelected selection x c → HasFormedRecords c) → SelectedRefusal selection x e)
        → MatchResult r (IsMerged strict selection inputs) (NotMerged strict selection inputs)
    alone strict (Ok made) (opened, formed) = record {
      as_read = opened.as_read;
      ascend = opened.ascend;
      is = of_one x is opened.opens;
      stands = λ so. stands_alone (content made) opened.opens (formed so);
    }
    alone strict (Err e) refusal = λ agreeing. not_read x is (refusal (λ so. formed_alone (agreeing so)))

  -- two halves
  module _ (inputs firsts seconds : List (List ℕ)) (halves : AreHalves inputs firsts seconds) where
    -- both halves of inputs that agree
    record BothAgreeing (agreeing : AreAgreeing selection inputs) : Type 0 where
      pub first : AreAgreeing selection firsts
      pub second : AreAgreeing selection seconds
      pub are : first.contents ++ second.contents ≡ agreeing.contents

    both_agreeing : (agreeing : AreAgreeing selection inputs) → BothAgreeing agreeing
    both_agreeing agreeing =
        let cut = zipped_parts (OpensSelected selection) firsts seconds agreeing.contents (subst (λ l. AreOpened selection l agreeing.contents) halves.are agreeing.opened) in
        let xs : List Content = cut.0 in
        let ys : List Content = cut.1 in
        let formed = subst (All HasFormedRecords) (sym cut.2) agreeing.formed in
        let agree = subst (λ l. (c d : Content) → Contains l c → Contains l d → AgreeInAll c d) (sym cut.2) agreeing.agree in
        record {
          first = record {
            contents = xs;
            opened = cut.3;
            formed = All-front HasFormedRecords xs ys formed;
            agree = λ c d one other. agree c d (Contains-append_left xs ys c one) (Contains-append_left xs ys d other);
          };
          second = record {
            contents = ys;
            opened = cut.4;
            formed = all_behind HasFormedRecords xs ys formed;
            agree = λ c d one other. agree c d (Contains-append_right xs ys c one) (Contains-append_right xs ys d other);
          };
          are = cut.2;
        }

    pub first_agreeing : AreAgreeing selection inputs → AreAgreeing selection firsts
    first_agreeing agreeing = (both_agreeing agreeing).first

    pub second_agreeing : AreAgreeing selection inputs → AreAgreeing selection seconds
    second_agreeing agreeing = (both_agreeing agreeing).second

    module _ (c d : Content) (first : StandsFor selection firsts c) (second : StandsFor selection seconds d) where
      abbrev cs : List Content
      cs = first.agreeing.contents

      abbrev ds : List Content
      ds = second.agreeing.contents

      -- what both halves are merged to agrees, if inputs do
      merged_agree : AreAgreeing selection inputs → AgreeInAll c d
      merged_agree agreeing =
          let both = both_agreeing agreeing in
          let one : both.first.contents ≡ cs = opened_once selection firsts both.first.contents cs both.first.opened first.agreeing.opened in
          let other : both.second.contents ≡ ds = opened_once selection seconds both.second.contents ds both.second.opened second.agreeing.opened in
          let all : cs ++ ds ≡ agreeing.contents = (λ i. sym one i ++ sym other i) ∙ both.are in
          let agree = subst (λ l. (e f : Content) → Contains l e → Contains l f → AgreeInAll e f) (sym all) agreeing.agree in
          turned d c ((first.stands d).1 (λ e at. turned e d ((second.stands e).1 (λ f there. agree e f (Contains-append_left cs ds e at) (Contains-append_right cs ds f there)))))

      -- inputs agree, if both halves do and what they are merged to agrees
      module _ (made : Content) (unites : Unites IsAgreedFile IsAgreedXorb c d made) where
        across : (e f : Content) → Contains cs e → Contains ds f → AgreeInAll e f
        across e f at there = (second.stands e).0 (turned d e ((first.stands d).0 (turned c d (both_agree c d made unites)) e at)) f there

        in_both : (e f : Content) → Contains cs e ⊎ Contains ds e → Contains cs f ⊎ Contains ds f → AgreeInAll e f
        in_both e f (inl at) (inl there) = first.agreeing.agree e f at there
        in_both e f (inl at) (inr there) = across e f at there
        in_both e f (inr at) (inl there) = turned f e (across f e there at)
        in_both e f (inr at) (inr there) = second.agreeing.agree e f at there

        in_either : (t : Content) → AgreeInAll t c → AgreeInAll t d → (e : Content) → Contains cs e ⊎ Contains ds e → AgreeInAll t e
        in_either t one other e (inl at) = (first.stands t).0 one e at
        in_either t one other e (inr at) = (second.stands t).0 other e at

        stands_together : StandsFor selection inputs made
        stands_together = record {
          agreeing = record {
            contents = cs ++ ds;
            opened = subst (λ l. AreOpened selection l (cs ++ ds)) (sym halves.are) (zipped_append (OpensSelected selection) firsts seconds cs ds first.agreeing.opened second.agreeing.opened);
            formed = All-append HasFormedRecords cs ds first.agreeing.formed second.agreeing.formed;
            agree = λ e f at there. in_both e f (Contains-append_cases cs ds e at) (Contains-append_cases cs ds f there);
          };
          stands = λ t. (
            λ all e at. let both = (agreed_with c d made unites t).0 all in in_either t both.0 both.1 e (Contains-append_cases cs ds e at),
            λ each. (agreed_with c d made unites t).1
                ((first.stands t).1 (λ e at. each e (Contains-append_left cs ds e at)), (second.stands t).1 (λ e at. each e (Contains-append_right cs ds e at))),
          );
        }

    -- what is made of both halves
    module _ (one other : PlacedShard) where
      -- if they have to agree
      pub together_strictly : (strict : Bool) → IsTrue strict → IsMerged strict selection firsts one → IsMerged strict selection seconds other → (r : Result PlacedShard CoreError)
          → MatchResult r (λ made. (made.as_read ≡ true) × Unites IsAgreedFile IsAgreedXorb (content one) (content other) (content made)) (Refuses IsAgreedFile IsAgreedXorb (content one) (content other))
          → MatchResult r (IsMerged strict selection inputs) (NotMerged strict selection inputs)
      together_strictly strict so first second (Ok made) (read, unites) = record {
        as_read = read;
        ascend = record { files = unites.files.combined.ascends; xorbs = unites.xorbs.combined.ascends };
        is = of_halves firsts seconds (content one) (content other) halves first.is second.is (as_union (content one) (content other) (content made) unites);
        stands = λ _. stands_together (content one) (content other) (first.stands so) (second.stands so) (content made) unites;
      }
      together_strictly strict so first second (Err e) refusal = λ agreeing.
          of_union firsts seconds (content one) (content other) halves first.is second.is
          (as_refusal (content one) (content other) e (merged_agree (content one) (content other) (first.stands so) (second.stands so) (agreeing so)) refusal)

      -- if they don't have to
      pub together : (strict : Bool) → ¬ IsTrue strict → IsMerged strict selection firsts one → IsMerged strict selection seconds other → (r : Result PlacedShard CoreError)
          → MatchResult r (λ made. (made.as_read ≡ true) × IsUnionOf (content one) (content other) (content made)) (UnionRefusal (content one) (content other))
          → MatchResult r (IsMerged strict selection inputs) (NotMerged strict selection inputs)
      together strict lenient first second (Ok made) (read, unites) = record {
        as_read = read;
        ascend = record { files = unites.files.combined.ascends; xorbs = unites.xorbs.combined.ascends };
        is = of_halves firsts seconds (content one) (content other) halves first.is second.is unites;
        stands = λ so. absurd (lenient so);
      }
      together strict lenient first second (Err e) refusal = λ agreeing. of_union firsts seconds (content one) (content other) halves first.is second.is refusal

    -- a half that is not merged
    pub not_first : (strict : Bool) (e : CoreError) → NotMerged strict selection firsts e → NotMerged strict selection inputs e
    not_first strict e refusal agreeing = of_first firsts seconds halves (refusal (λ so. first_agreeing (agreeing so)))

    pub not_second : (strict : Bool) (e : CoreError) (one : PlacedShard) → IsMerged strict selection firsts one → NotMerged strict selection seconds e → NotMerged strict selection inputs e
    not_second strict e one first refusal agreeing = of_second firsts seconds (content one) halves first.is (refusal (λ so. second_agreeing (agreeing so)))
