-- The findings of a file are those of its bytes, and that of its name.
use Rattle.std.proofs.Common.{◌≡◌, ℕ, true, false, List, [], ◌∷◌, ◌++◌, map, ◌<◌, arith, sym, ap, ◌∙◌, subst, zero, suc, refl}
use Rattle.std.specs.Prelude.{◌↔◌, All, Contains, Option, IsSome, is_some}
use Rattle.std.proofs.lemmas.List.{length-map, get_or-map}
use Rattle.std.proofs.lemmas.List.Elements.{All-map, All-append, All-contains, Contains-append_left, Contains-push}
use Rattle.xet_core_structures.specs.Names.{IsShardName}
use Rattle.xet_core_structures.specs.declared.merklehash.DataHash.{DataHash}
use Rattle.shard_bytes.specs.declared.check.Finding.{Finding}
use Rattle.shard_bytes.specs.Checking.{IsFinding, IsNote}
use Rattle.mdb_report.specs.declared.file_finding.FileFinding.{FileFinding}
use Rattle.mdb_report.specs.declared.file_finding.FileFinding.TheVariants.{Bytes, Name, Hash}
use Rattle.mdb_report.specs.FileFindings.{IsFileFinding, IsFileNote}

-- each finding of the bytes is one of the file
pub findings_are : (name bytes : List ℕ) (fs : List Finding) (findings : List FileFinding) → All (IsFinding bytes) fs → findings ≡ map Bytes fs → All (IsFileFinding name bytes) findings
findings_are name bytes fs findings all are = subst (All (IsFileFinding name bytes)) (sym are) (All-map (IsFileFinding name bytes) Bytes fs all)

-- the file has none exactly if the bytes have none
pub none_of : (fs : List Finding) (findings : List FileFinding) → findings ≡ map Bytes fs → findings ≡ [] → fs ≡ []
none_of [] findings are empty = refl
none_of (f ∷ fs) findings are empty = absurd (some_left (sym are ∙ empty))
  where
    some_left : ¬ (Bytes f ∷ map Bytes fs ≡ [])
    some_left same = cc

-- so of a shard's name there is none exactly if the bytes are whole
pub none_if_named : (Whole NamedHash : Type 0) (fs : List Finding) (findings : List FileFinding) → ((fs ≡ []) ↔ Whole) → NamedHash → findings ≡ map Bytes fs → (findings ≡ []) ↔ (Whole × NamedHash)
none_if_named Whole NamedHash fs findings whole named are =
    (λ empty. (whole.0 (none_of fs findings are empty), named), λ both. are ∙ ap (map Bytes) (whole.1 both.0))

-- of notes alone the findings are notes
pub notes_of : (fs : List Finding) (findings : List FileFinding) → findings ≡ map Bytes fs → All IsFileNote findings → All IsNote fs
notes_of fs findings are notes = λ k d below.
    subst IsFileNote (get_or-map Bytes fs k d (Bytes d) below) (subst (All IsFileNote) are notes k (Bytes d) (subst (λ n. k < n) (sym (length-map fs Bytes)) below))

-- and what a finding of a name or a hash is added to is not notes alone
pub not_notes : (some findings : List FileFinding) (last : FileFinding) → (¬ IsFileNote last) → findings ≡ some ++ last ∷ [] → ¬ All IsFileNote findings
not_notes some findings last fault are notes = fault (All-contains IsFileNote findings last notes (subst (λ ps. Contains ps last) (sym are) (Contains-push some last)))

only_name : (name bytes : List ℕ) → (¬ IsShardName name) → All (IsFileFinding name bytes) (Name ∷ [])
only_name name bytes unnamed zero d below = unnamed
only_name name bytes unnamed (suc k) d below = absurd (omega (arith, below))

true_or_false : ¬ (false ≡ true)
true_or_false e = cc

no_name : (name : List ℕ) (found : Option DataHash) → (IsSome found ↔ IsShardName name) → is_some found ≡ false → ¬ IsShardName name
no_name name found accepted lacks named = true_or_false (sym lacks ∙ accepted.1 named)

-- and so is a name that is none of a shard
pub with_name : (name bytes : List ℕ) (some findings : List FileFinding) (found : Option DataHash) → (IsSome found ↔ IsShardName name) → is_some found ≡ false
    → All (IsFileFinding name bytes) some → findings ≡ some ++ Name ∷ [] → All (IsFileFinding name bytes) findings
with_name name bytes some findings found accepted lacks all are =
    subst (All (IsFileFinding name bytes)) (sym are) (All-append (IsFileFinding name bytes) some (Name ∷ []) all (only_name name bytes (no_name name found accepted lacks)))

of_map : {A B : Type 0} (f : A → B) (xs : List A) (x : A) → Contains xs x → Contains (map f xs) (f x)
of_map f xs x (k, below, at) =
    (k, subst (λ n. k < n) (sym (length-map xs f)) below, get_or-map f xs k x (f x) below ∙ ap f at)

-- no finding is lost
all_findings_are : (bytes : List ℕ) (fs : List Finding) (findings : List FileFinding) → ((f : Finding) → IsFinding bytes f → Contains fs f) → findings ≡ map Bytes fs
    → (f : Finding) → IsFinding bytes f → Contains findings (Bytes f)
all_findings_are bytes fs findings all are f true_of = subst (λ ps. Contains ps (Bytes f)) (sym are) (of_map Bytes fs f (all f true_of))

-- and of a shard's name nothing is to be found
pub all_if_named : (name bytes : List ℕ) (fs : List Finding) (findings : List FileFinding) (found : Option DataHash) → (IsSome found ↔ IsShardName name) → is_some found ≡ true
    → ((f : Finding) → IsFinding bytes f → Contains fs f) → findings ≡ map Bytes fs → (p : FileFinding) → IsFileFinding name bytes p → Contains findings p
all_if_named name bytes fs findings found accepted has all are (Bytes f) true_of = all_findings_are bytes fs findings all are f true_of
all_if_named name bytes fs findings found accepted has all are Name unnamed = absurd (unnamed (accepted.0 has))
all_if_named name bytes fs findings found accepted has all are (Hash hash) none = absurd none

-- with that of the name all are there
pub all_with_name : (name bytes : List ℕ) (fs : List Finding) (some findings : List FileFinding) → ((f : Finding) → IsFinding bytes f → Contains fs f) → some ≡ map Bytes fs
    → findings ≡ some ++ Name ∷ [] → (p : FileFinding) → IsFileFinding name bytes p → Contains findings p
all_with_name name bytes fs some findings all are more (Bytes f) true_of =
    subst (λ ps. Contains ps (Bytes f)) (sym more) (Contains-append_left some (Name ∷ []) (Bytes f) (all_findings_are bytes fs some all are f true_of))
all_with_name name bytes fs some findings all are more Name unnamed = subst (λ ps. Contains ps Name) (sym more) (Contains-push some Name)
all_with_name name bytes fs some findings all are more (Hash hash) none = absurd none
