-- Byte strings of which two disagree, or one has a record that no shard may have, are none that agree; and others are.
use Rattle.std.proofs.Common.{◌≡◌, inl, inr, ℕ, ◌<◌, Bool, true, false, true≢false, List, [], ◌∷◌, length, Option, None, Some, refl, sym, subst, cond, arith}
use Rattle.std.specs.Prelude.{All, Contains, MatchOption, is_some}
use Rattle.std.specs.Ordering.{eq_by_cmp}
use Rattle.std.proofs.lemmas.List.Elements.{All-head, All-tail}
use Rattle.std.proofs.lemmas.Option.{same_Some, none-some}
use Rattle.xet_base.specs.declared.error.CoreError.{CoreError}
use Rattle.xet_base.specs.declared.error.CoreError.TheVariants.{OutOfMemory}
use Rattle.xet_base.specs.declared.merklehash.DataHash.{DataHash}
use Rattle.xet_base.specs.Hash.{hash_cmp}
use Rattle.xet_records.specs.FileRecord.{file_records, IsWellFormed}
use Rattle.xet_records.specs.RecordKind.{RecordKind}
use Rattle.xet_records.specs.XorbRecord.{xorb_records, IsXorb}
use Rattle.xet_shards.proofs.Read.Zipped.{zipped_parts}
use Rattle.xet_core_structures.specs.Records.RecordPairs.{key_of_record, with_hash}
use Rattle.placed_shards.specs.declared.findings.Disagreement.{Disagreement}
use Rattle.placed_shards.specs.declared.findings.MalformedRecord.{MalformedRecord}
use Rattle.placed_shards.specs.declared.findings.RecordHash.{RecordHash}
use Rattle.placed_shards.specs.declared.findings.RecordHash.TheVariants.{File, Xorb}
use Rattle.placed_shards.specs.declared.selection.Selection.{Selection}
use Rattle.placed_shards.specs.Content.{Content}
use Rattle.placed_shards.specs.Findings.{AreOpened, FirstRefusal, HasAllDisagreements, HasFormedRecords, HasMalformed, IsFirstMalformed}
use Rattle.placed_shards.specs.Selections.{OpensSelected}
use Rattle.placed_shards.specs.Strict.{AreAgreeing}
use Rattle.placed_shards.proofs.Items.{all_behind, has_at}
use Rattle.placed_shards.proofs.Selections.{opened_once, selected_well, opens_selected_once}

-- what holds of each record of a list holds of that under a hash
found : {H R : Type 0} (K : RecordKind H R) (Is : R → Type 0) (rs : List R) (q : DataHash) (r : R) → with_hash K rs q ≡ Some r → All Is rs → Is r
found K Is [] q r at all = absurd (none-some r at)
found {R = R} K Is (x ∷ rs) q r at all = by (eq_by_cmp hash_cmp q (key_of_record K x)) (λ later. found K Is rs q r later (All-tail Is x rs all)) at where
  by : (b : Bool) → (with_hash K rs q ≡ Some r → Is r) → cond b (Some x) (with_hash K rs q) ≡ Some r → Is r
  by true later at = subst Is (same_Some x r at) (All-head Is x rs all)
  by false later at = later at

not_formed : (c : Content) (h : RecordHash) → HasMalformed c h → ¬ HasFormedRecords c
not_formed c (File q) (r, at, bad) formed = bad (found file_records IsWellFormed c.files q r at formed.files)
not_formed c (Xorb q) (r, at, bad) formed = bad (found xorb_records IsXorb c.xorbs q r at formed.xorbs)

-- so it is where one is found
pub found_malformed : (c : Content) (h : Option RecordHash) → is_some h ≡ true → MatchOption h (HasFormedRecords c) (HasMalformed c) → ¬ HasFormedRecords c
found_malformed c None some is = absurd (true≢false (sym some))
found_malformed c (Some h) some is = not_formed c h is

pub no_items : {X : Type 0} (xs : List X) → length xs ≡ 0 → xs ≡ []
no_items [] none = refl
no_items (x ∷ xs) none = absurd (omega (arith, none))

module _ (selection : Selection) (inputs : List (List ℕ)) where
  pub some_disagree : (cs : List Content) (all : List Disagreement) → AreOpened selection inputs cs → 0 < length all → HasAllDisagreements cs all → ¬ AreAgreeing selection inputs
  some_disagree cs [] opened some has agreeing = absurd (omega (arith, some))
  some_disagree cs (d ∷ ds) opened some has agreeing =
      let at = has.each d (0, omega arith, refl) in
      let same : cs ≡ agreeing.contents = opened_once selection inputs cs agreeing.contents opened agreeing.opened in
      at.differ
      (agreeing.agree at.one at.other (subst (λ l. Contains l at.one) same (has_at cs d.first at.one at.is_first)) (subst (λ l. Contains l at.other) same (has_at cs d.second at.other at.is_second)) d.record_hash)

  pub one_malformed : (m : MalformedRecord) → IsFirstMalformed selection inputs m → ¬ AreAgreeing selection inputs
  one_malformed m first agreeing =
      let cut = zipped_parts (OpensSelected selection) first.before (first.bytes ∷ first.after) agreeing.contents (subst (λ l. AreOpened selection l agreeing.contents) first.inputs_are agreeing.opened) in
      at_front cut.1 cut.4 (all_behind HasFormedRecords cut.0 cut.1 (subst (All HasFormedRecords) (sym cut.2) agreeing.formed)) where
        at_front : (cs : List Content) → AreOpened selection (first.bytes ∷ first.after) cs → All HasFormedRecords cs → ⊥
        at_front [] opened formed = opened
        at_front (c ∷ cs) opened formed =
            not_formed first.shard m.record_hash first.malformed
            (subst HasFormedRecords (opens_selected_once selection first.bytes c first.shard opened.0 first.opens) (All-head HasFormedRecords c cs formed))

  -- what is opened is read, unless an allocation fails
  pub opened_read : (Is : Content → Type 0) (cs : List Content) (e : CoreError) → AreOpened selection inputs cs → FirstRefusal selection Is inputs e → e ≡ OutOfMemory
  opened_read Is cs e opened (inl none) = none
  opened_read Is cs e opened (inr unread) =
      let cut = zipped_parts (OpensSelected selection) unread.before (unread.bytes ∷ unread.after) cs (subst (λ l. AreOpened selection l cs) unread.inputs_are opened) in
      at_front cut.1 cut.4 where
        at_front : (ds : List Content) → AreOpened selection (unread.bytes ∷ unread.after) ds → e ≡ OutOfMemory
        at_front [] opened = absurd opened
        at_front (d ∷ ds) (opens, rest) = selected_well selection unread.bytes d e opens unread.refused

  -- what is told of malformed records
  abbrev pub TellsMalformed : Option MalformedRecord → Type 0
  TellsMalformed found = MatchOption found ((cs : List Content) × AreOpened selection inputs cs × All HasFormedRecords cs) (IsFirstMalformed selection inputs)

  -- byte strings of which none is found agree
  pub none_found : (cs ds : List Content) → AreOpened selection inputs cs → All HasFormedRecords cs → AreOpened selection inputs ds → HasAllDisagreements ds [] → AreAgreeing selection inputs
  none_found cs ds opened formed again none = record {
    contents = ds;
    opened = again;
    formed = subst (All HasFormedRecords) (opened_once selection inputs cs ds opened again) formed;
    agree = λ c d one other h. none.others h (λ at. omega (arith, at.1)) c d one other;
  }
