-- Shards of which byte strings have the records in a range.
use Rattle.std.proofs.Common.{◌≡◌, ◌≢◌, true, Ok, Err, refl, inr, ℕ, ◌+◌, ◌<◌, List, [], ◌∷◌, ◌++◌, length, map, drop, take, get_or, Some, Bor, sym, ap, ◌∙◌, subst, arith}
use Rattle.std.specs.Prelude.{⊤, All, MatchResult, option_map, slice_get}
use Rattle.std.specs.declared.result.Result.{Result}
use Rattle.std.specs.List.{AllZip}
use Rattle.std.proofs.lemmas.List.{length-take-le}
use Rattle.std.proofs.lemmas.List.Elements.{All-push, Contains-get_or}
use Rattle.std.proofs.lemmas.Option.{slice_get-map, slice_get-get_or, slice_get_within}
use Rattle.xet_base.specs.declared.error.CoreError.{CoreError}
use Rattle.xet_shards.proofs.Read.Zipped.{zipped_append, zipped_member, zipped_with}
use Rattle.placed_shards.specs.declared.findings.RecordHash.{RecordHash}
use Rattle.placed_shards.specs.declared.placed_shard.PlacedShard.{PlacedShard}
use Rattle.placed_shards.specs.declared.selection.Access.{Access}
use Rattle.placed_shards.specs.declared.selection.Access.TheVariants.{Scan, Tables}
use Rattle.placed_shards.specs.declared.selection.Selection.{Selection}
use Rattle.placed_shards.specs.ByTables.{OpensByTables, ByTablesRefusal}
use Rattle.placed_shards.specs.Content.{AscendBoth, Content, content}
use Rattle.placed_shards.specs.Findings.{AreOpened, FirstRefusal, HasFormedRecords, HasMalformed, IsFirstMalformed}
use Rattle.placed_shards.specs.Selections.{OpensBy, OpensSelected, OpensWithin, RefusalBy, SelectedRefusal}
use Rattle.placed_shards.specs.Steps.Differing.{IsReadInOrder}
use Rattle.placed_shards.specs.Steps.MergingSteps.{IsOpenedAlone}
use Rattle.placed_shards.proofs.Items.{split_at_item, taken_more}
use Rattle.placed_shards.proofs.Selections.{selected}

-- an input whose records were found is opened
module _ (selection : Selection) (x : List ℕ) where
  pub alone_by_tables : selection.access ≡ Tables → (r : Result PlacedShard CoreError)
      → MatchResult r (λ s. (s.as_read ≡ true) × AscendBoth (content s) × OpensByTables selection.range x (content s)) (ByTablesRefusal selection.range x)
      → MatchResult r (IsOpenedAlone selection x) (SelectedRefusal selection x)
  alone_by_tables is (Ok s) (read, ascend, opens) = record { as_read = read; ascend = ascend; opens = subst (λ a. OpensBy a selection.range x (content s)) (sym is) opens }
  alone_by_tables is (Err e) refusal = subst (λ a. RefusalBy a selection.range x e) (sym is) refusal

  pub alone_by_scan : selection.access ≢ Tables → (s : PlacedShard) → s.as_read ≡ true → OpensWithin selection.range x (content s) → IsOpenedAlone selection x s
  alone_by_scan not s read opens = by selection.access refl where
    by : (a : Access) → selection.access ≡ a → IsOpenedAlone selection x s
    by Tables is = absurd (not is)
    by Scan is =
        let found : OpensSelected selection x (content s) = subst (λ a. OpensBy a selection.range x (content s)) (sym is) opens in
        record { as_read = read; ascend = (selected selection x (content s) found).ascend; opens = found }

module _ (selection : Selection) (Is : Content → Type 0) where
  -- the shards of the first of some byte strings, of each of which a property holds
  pub record AreOpenedUpTo (inputs : List (List ℕ)) (i : ℕ) : Type 0 where
    pub shards : List Content
    pub opened : AreOpened selection (take i inputs) shards
    pub hold : All Is shards

  module _ (inputs : List (List ℕ)) (i : ℕ) (before : AreOpenedUpTo inputs i) (x : List ℕ) (at : slice_get inputs i ≡ Some x) where
    pub one_more_opened : (c : Content) → OpensSelected selection x c → Is c → AreOpenedUpTo inputs (i + 1)
    one_more_opened c opens is = record {
      shards = before.shards ++ c ∷ [];
      opened = subst (λ xs. AreOpened selection xs (before.shards ++ c ∷ [])) (taken_more inputs i x at)
          (zipped_append (OpensSelected selection) (take i inputs) (x ∷ []) before.shards (c ∷ []) before.opened (opens, tt));
      hold = All-push Is before.shards c before.hold is;
    }

    pub first_unread : (e : CoreError) → SelectedRefusal selection x e → FirstRefusal selection Is inputs e
    first_unread e refused = inr (record {
      before = take i inputs;
      bytes = x;
      after = drop (i + 1) inputs;
      inputs_are = split_at_item inputs i x at;
      shards = before.shards;
      opened = before.opened;
      hold = before.hold;
      refused = refused;
    })

-- the bytes of an input
pub bytes_at : (inputs : List (Bor (List ℕ))) (i : ℕ) (none : Bor (List ℕ)) → i < length inputs → slice_get (map (λ x. x.now) inputs) i ≡ Some (get_or inputs i none).now
bytes_at inputs i none low = slice_get-map (λ x. x.now) inputs i ∙ ap (option_map (λ (x : Bor (List ℕ)). x.now)) (slice_get-get_or inputs i none low)

module _ (selection : Selection) where
  pub contents_opened : (inputs : List (List ℕ)) (shards : List PlacedShard) → AllZip (IsOpenedAlone selection) inputs shards → AreOpened selection inputs (map content shards)
  contents_opened inputs shards are = zipped_with (IsOpenedAlone selection) (OpensSelected selection) content (λ s. ⊤) (λ x s known is. is.opens) inputs shards (λ s has. tt) are

  pub all_read : (inputs : List (List ℕ)) (shards : List PlacedShard) → AllZip (IsOpenedAlone selection) inputs shards → All IsReadInOrder shards
  all_read inputs shards are = λ k s below.
      let one = zipped_member (IsOpenedAlone selection) inputs shards are (get_or shards k s) (Contains-get_or shards k s below) in
      record { as_read = one.1.as_read; ascend = one.1.ascend }

  -- one input more
  pub one_more_alone : (inputs : List (List ℕ)) (i : ℕ) (x : List ℕ) (old new : List PlacedShard) (s : PlacedShard) → AllZip (IsOpenedAlone selection) (take i inputs) old → slice_get inputs i ≡ Some x → IsOpenedAlone selection x s → new ≡ old ++ s ∷ []
      → AllZip (IsOpenedAlone selection) (take (i + 1) inputs) new
  one_more_alone inputs i x old new s are at is more =
      subst (λ xs. AllZip (IsOpenedAlone selection) xs new) (taken_more inputs i x at) (subst (AllZip (IsOpenedAlone selection) (take i inputs ++ x ∷ [])) (sym more) (zipped_append (IsOpenedAlone selection) (take i inputs) (x ∷ []) old (s ∷ []) are (is, tt)))

  pub alone_up_to : (inputs : List (List ℕ)) (i : ℕ) (shards : List PlacedShard) → AllZip (IsOpenedAlone selection) (take i inputs) shards → AreOpenedUpTo selection (λ c. ⊤) inputs i
  alone_up_to inputs i shards are = record { shards = map content shards; opened = contents_opened (take i inputs) shards are; hold = λ k c below. tt }

  -- an input whose shard has a record that no shard may have, after others that have none
  pub first_malformed : (inputs : List (List ℕ)) (i : ℕ) → AreOpenedUpTo selection HasFormedRecords inputs i → (x : List ℕ) → slice_get inputs i ≡ Some x → (s : PlacedShard) → IsOpenedAlone selection x s → (h : RecordHash) → HasMalformed (content s) h
      → IsFirstMalformed selection inputs (record { record_hash = h; input = i })
  first_malformed inputs i before x at s is h malformed = record {
    before = take i inputs;
    bytes = x;
    after = drop (i + 1) inputs;
    inputs_are = split_at_item inputs i x at;
    number = length-take-le i inputs (omega (arith, slice_get_within inputs i x at));
    shards = before.shards;
    opened = before.opened;
    formed = before.hold;
    shard = content s;
    opens = is.opens;
    malformed = malformed;
  }
