-- The words behind a command's verb, place by place.
use Rattle.std.proofs.Common.{suc, zero, ◌≤◌, ◌<◌, ◌-◌, take, drop, arith, if◌then◌else◌, ◌≡◌, ℕ, Bool, true, false, List, [], ◌∷◌, Bor, length, get_or, refl, sym, ap, ◌∙◌, subst}
use Rattle.std.proofs.Math.Seq.{take-length}
use Rattle.std.proofs.lemmas.List.{length-drop}
use Rattle.shard_bytes.specs.declared.combine.Operation.TheVariants.{Union, Difference}
use Rattle.shard_bytes.specs.declared.export.Export.{Export as Export'}
use Rattle.script_lines.specs.Commands.{texts, verb_of, parts_word, SpellsKey, AreArguments}
use Rattle.script_lines.specs.declared.command.Command.{Command}
use Rattle.script_lines.specs.declared.command.Command.TheVariants.{Shard, Xorb, File, Write, Combine, Merge, Export, Minimal, Subset, Eligible, Find, Query, Size, Hex}
use Rattle.xet_core_structures.specs.declared.record_reader.FormatVersion.TheVariants.{V2, V3}
use Rattle.script_lines.specs.declared.verb.Verb.{Verb}
use Rattle.script_lines.specs.declared.verb.Verb.TheVariants.{Export as to_export, Drop as to_drop, Minimal as to_minimal, DropMin as to_drop_min}

-- ---- the words behind a verb

-- what a pattern takes as the rest after so many words
pub rest_is : (words : List (Bor (List ℕ))) (n : ℕ) → take (length words - n) (drop n words) ≡ drop n words
rest_is words n = ap (λ k. take k (drop n words)) (sym (length-drop n words)) ∙ take-length (drop n words)

pub front_1 : (words : List (Bor (List ℕ))) (a : List ℕ) (d : Bor (List ℕ)) → 1 ≤ length words → a ≡ (get_or words 0 d).now → texts words ≡ a ∷ texts (drop 1 words)
front_1 [] a d long p = absurd (omega arith)
front_1 (u ∷ words) a d long p = ap (λ (x : List ℕ). x ∷ texts words) (sym p)

pub front_2 : (words : List (Bor (List ℕ))) (a b : List ℕ) (d e : Bor (List ℕ)) → 2 ≤ length words → a ≡ (get_or words 0 d).now → b ≡ (get_or words 1 e).now
    → texts words ≡ a ∷ b ∷ texts (drop 2 words)
front_2 [] a b d e long p q = absurd (omega arith)
front_2 (u ∷ []) a b d e long p q = absurd (omega arith)
front_2 (u ∷ v ∷ words) a b d e long p q = rw (p, q) refl

pub front_4 : (words : List (Bor (List ℕ))) (a b : List ℕ) (d e : Bor (List ℕ)) → 4 ≤ length words → a ≡ (get_or words 0 d).now → b ≡ (get_or words 1 e).now
    → texts words ≡ a ∷ b ∷ get_or (texts words) 2 [] ∷ get_or (texts words) 3 [] ∷ texts (drop 4 words)
front_4 [] a b d e long p q = absurd (omega arith)
front_4 (u ∷ []) a b d e long p q = absurd (omega arith)
front_4 (u ∷ v ∷ []) a b d e long p q = absurd (omega arith)
front_4 (u ∷ v ∷ w ∷ []) a b d e long p q = absurd (omega arith)
front_4 (u ∷ v ∷ w ∷ x ∷ words) a b d e long p q = rw (p, q) refl

pub six_texts : (words : List (Bor (List ℕ))) (a b f : List ℕ) (d e g : Bor (List ℕ)) → 6 ≤ length words → length words < 7 → a ≡ (get_or words 0 d).now → b ≡ (get_or words 1 e).now
    → (get_or words 5 g).now ≡ f
    → texts words ≡ a ∷ b ∷ get_or (texts words) 2 [] ∷ get_or (texts words) 3 [] ∷ get_or (texts words) 4 [] ∷ f ∷ []
six_texts [] a b f d e g long short p q r = absurd (omega arith)
six_texts (u ∷ []) a b f d e g long short p q r = absurd (omega arith)
six_texts (u ∷ v ∷ []) a b f d e g long short p q r = absurd (omega arith)
six_texts (u ∷ v ∷ w ∷ []) a b f d e g long short p q r = absurd (omega arith)
six_texts (u ∷ v ∷ w ∷ x ∷ []) a b f d e g long short p q r = absurd (omega arith)
six_texts (u ∷ v ∷ w ∷ x ∷ y ∷ []) a b f d e g long short p q r = absurd (omega arith)
six_texts (u ∷ v ∷ w ∷ x ∷ y ∷ z ∷ []) a b f d e g long short p q r = rw (p, q, ← r) refl
six_texts (u ∷ v ∷ w ∷ x ∷ y ∷ z ∷ o ∷ words) a b f d e g long short p q r = absurd (omega arith)

-- ---- the words of an export

-- the verb of an export, with auxiliary rows or without
abbrev is_export : Verb → Bool
is_export to_export = true
is_export to_drop = true
is_export _ = false

is_export-either : (b : Bool) → is_export (if b then to_export else to_drop) ≡ true
is_export-either true = refl
is_export-either false = refl

is_export-minimal : (b : Bool) → is_export (if b then to_minimal else to_drop_min) ≡ false
is_export-minimal true = refl
is_export-minimal false = refl

abbrev IsFalse : Bool → Type 0
IsFalse false = Unit {0}
IsFalse true = ⊥

not_both : (b : Bool) → b ≡ false → b ≡ true → ⊥
not_both b is_false is_true = subst IsFalse (sym is_false ∙ is_true) tt

-- what an export's words are
pub record IsExport (words : List (List ℕ)) : Type 0 where
  pub export : Export'
  pub key : List ℕ
  pub key_at : get_or words 2 [] ≡ key
  pub key_is : SpellsKey key export.key
  pub parts_at : get_or words 5 [] ≡ parts_word export.parts

export_of : (words : List (List ℕ)) (command : Command) → is_export (verb_of command) ≡ true → AreArguments words command → IsExport words
export_of words (Export from buffer export) verb args = record {
  export = export;
  key = args.0;
  key_at = ap (λ ws. get_or ws 2 []) args.3;
  key_is = args.6;
  parts_at = ap (λ ws. get_or ws 5 []) args.3;
}
export_of words (Shard shard) verb args = absurd (not_both false refl verb)
export_of words (Xorb shard xorb) verb args = absurd (not_both false refl verb)
export_of words (File shard file) verb args = absurd (not_both false refl verb)
export_of words (Write V3 shard buffer expiry) verb args = absurd (not_both false refl verb)
export_of words (Write V2 shard buffer expiry) verb args = absurd (not_both false refl verb)
export_of words (Combine Union first other buffer) verb args = absurd (not_both false refl verb)
export_of words (Combine Difference first other buffer) verb args = absurd (not_both false refl verb)
export_of words (Merge buffer tree) verb args = absurd (not_both false refl verb)
export_of words (Subset from buffer subset) verb args = absurd (not_both false refl verb)
export_of words (Eligible buffer) verb args = absurd (not_both false refl verb)
export_of words (Find buffer hash) verb args = absurd (not_both false refl verb)
export_of words (Query buffer hashes) verb args = absurd (not_both false refl verb)
export_of words (Size buffer) verb args = absurd (not_both false refl verb)
export_of words (Hex buffer range) verb args = absurd (not_both false refl verb)
export_of words (Minimal from buffer now kept) verb args = absurd (not_both _ (is_export-minimal kept.aux_ext) verb)

pub export_words : (words : List (List ℕ)) (b : Bool) (command : Command) → verb_of command ≡ (if b then to_export else to_drop) → AreArguments words command → IsExport words
export_words words b command verb args = export_of words command (ap is_export verb ∙ is_export-either b) args

-- the text of a word at its place
pub text_at : (words : List (Bor (List ℕ))) (i : ℕ) (d : Bor (List ℕ)) → i < length words → get_or (texts words) i [] ≡ (get_or words i d).now
text_at [] i d in' = absurd (omega arith)
text_at (w ∷ words) zero d in' = refl
text_at (w ∷ words) (suc i) d in' = text_at words i d (omega arith)
