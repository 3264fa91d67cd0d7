-- Words that spell hashes, place by place, and the rows of these hashes.
use Rattle.std.proofs.Common.{◌≡◌, ℕ, zero, suc, ◌<◌, List, [], ◌∷◌, ◌++◌, length, get_or, take, map, ◌+◌, Bor, refl, ap, ◌∙◌, sym, subst, arith, eqb}
use Rattle.std.proofs.lemmas.List.{map-append, take_more}
use Rattle.std.specs.List.{AllZip, slice_split}
use Rattle.xet_core_structures.specs.declared.file_structs.HashRow.{HashRow}
use Rattle.xet_core_structures.specs.declared.merklehash.DataHash.{DataHash}
use Rattle.script_lines.specs.Commands.{texts}
use Rattle.script_lines.specs.Words.{SpellsHash, ListsHashes, ListsVerification, parts_of, verification_of}

-- the rows so far are those of the words so far
abbrev pub RowsOf : List (List ℕ) → List HashRow → Type 0
RowsOf words rows = (hashes : List DataHash) × AllZip SpellsHash words hashes × (rows ≡ map verification_of hashes)

all_zip_push : {A B : Type 0} (R : A → B → Type 0) (xs : List A) (ys : List B) (x : A) (y : B) → AllZip R xs ys → R x y → AllZip R (xs ++ x ∷ []) (ys ++ y ∷ [])
all_zip_push R [] [] x y h r = (r, tt)
all_zip_push R [] (b ∷ ys) x y h r = absurd h
all_zip_push R (a ∷ xs) [] x y h r = absurd h
all_zip_push R (a ∷ xs) (b ∷ ys) x y h r = (h.0, all_zip_push R xs ys x y h.1 r)

all_zip_at : {A B : Type 0} (R : A → B → Type 0) (xs : List A) (ys : List B) (i : ℕ) (d : A) → AllZip R xs ys → i < length xs → (y : B) × R (get_or xs i d) y
all_zip_at R [] ys i d h in' = absurd (omega arith)
all_zip_at R (x ∷ xs) [] i d h in' = absurd h
all_zip_at R (x ∷ xs) (y ∷ ys) zero d h in' = (y, h.0)
all_zip_at R (x ∷ xs) (y ∷ ys) (suc i) d h in' = all_zip_at R xs ys i d h.1 (omega arith)

-- a list that is not empty is split at its commas
pub parts_are : (list : List ℕ) → 0 < length list → parts_of list ≡ slice_split (λ b. eqb b 44) list
parts_are [] some = absurd (omega arith)
parts_are (b ∷ bs) some = refl

pub row_added : (words : List (List ℕ)) (rows : List HashRow) (word : List ℕ) (hash : DataHash) → RowsOf words rows → SpellsHash word hash
    → RowsOf (words ++ word ∷ []) (rows ++ verification_of hash ∷ [])
row_added words rows word hash h spelled = (
  h.0 ++ hash ∷ [],
  all_zip_push SpellsHash words h.0 word hash h.1 spelled,
  ap (λ rs. rs ++ verification_of hash ∷ []) h.2 ∙ sym (map-append verification_of h.0 (hash ∷ [])),
)

pub lists_verification : (list : List ℕ) (words : List (List ℕ)) (rows : List HashRow) → parts_of list ≡ words → RowsOf words rows → ListsVerification list rows
lists_verification list words rows parts h = (h.0, subst (λ ws. AllZip SpellsHash ws h.0) (sym parts) h.1, h.2)

-- words that each spell a hash, as far as they were read
pub spelled_more : (words : List (Bor (List ℕ))) (i : ℕ) (d : Bor (List ℕ)) (hashes : List DataHash) (hash : DataHash) → i < length words → AllZip SpellsHash (texts (take i words)) hashes
    → SpellsHash (get_or words i d).now hash → AllZip SpellsHash (texts (take (i + 1) words)) (hashes ++ hash ∷ [])
spelled_more words i d hashes hash in' h spelled =
    subst (λ ws. AllZip SpellsHash ws (hashes ++ hash ∷ [])) (sym (ap texts (take_more words i d in') ∙ map-append (λ w. w.now) (take i words) (get_or words i d ∷ [])))
    (all_zip_push SpellsHash (texts (take i words)) hashes (get_or words i d).now hash h spelled)

-- and a word that spells none
pub not_all_spelled : (words : List (Bor (List ℕ))) (i : ℕ) (d : Bor (List ℕ)) → i < length words → ((hash : DataHash) → ¬ (SpellsHash (get_or words i d).now hash))
    → (hashes : List DataHash) → ¬ (AllZip SpellsHash (texts words) hashes)
not_all_spelled [] i d in' none hashes h = absurd (omega arith)
not_all_spelled (w ∷ words) i d in' none [] h = absurd h
not_all_spelled (w ∷ words) zero d in' none (hash ∷ hashes) h = none hash h.0
not_all_spelled (w ∷ words) (suc i) d in' none (hash ∷ hashes) h = not_all_spelled words i d (omega arith) none hashes h.1

-- a part that spells no hash
pub lists_no_hashes : (list word : List ℕ) (words : List (List ℕ)) (i : ℕ) → parts_of list ≡ words → i < length words → word ≡ get_or words i word → ((hash : DataHash) → ¬ (SpellsHash word hash))
    → (hashes : List DataHash) → ¬ (ListsHashes list hashes)
lists_no_hashes list word words i parts in' is none hashes all =
    let found = all_zip_at SpellsHash words hashes i word (subst (λ ws. AllZip SpellsHash ws hashes) parts all) in' in
    none found.0 (subst (λ w. SpellsHash w found.0) (sym is) found.1)
