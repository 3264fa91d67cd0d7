-- Agreement and joins of shards pass to those of their records whose hashes pass a test.
use Rattle.std.proofs.Common.{◌≡◌, Bool, true, false, zero, suc, List, [], ◌∷◌, Option, None, Some, refl, sym, ap, ◌∙◌, subst, arith}
use Rattle.std.specs.Prelude.{Contains, option_map, option_and_then, if◌then◌else◌}
use Rattle.std.specs.List.{AllZip}
use Rattle.std.specs.FinMap.{get}
use Rattle.std.proofs.lemmas.List.Elements.{Contains-append_right}
use Rattle.std.proofs.lemmas.Option.{none-some}
use Rattle.xet_base.specs.declared.merklehash.DataHash.{DataHash}
use Rattle.xet_records.specs.declared.file_structs.MDBFileInfo.{MDBFileInfo}
use Rattle.xet_records.specs.Merging.{part_in}
use Rattle.xet_shards.specs.Content.Joins.{segments_under, part_under, HasWhatAnyHas, IsJoinOf}
use Rattle.xet_shards.specs.Content.SetOperations.{ShardsAgree}
use Rattle.xet_shards.specs.Content.Shard.{Shard}
use Rattle.placed_shards.specs.MergedLists.{IsPartOf}

-- an item of one of two lists is related to one of the other
zipped_there : {A B : Type 0} (R : A → B → Type 0) (ks : List A) (bs : List B) → AllZip R ks bs → (a : A) → Contains ks a → (b : B) × Contains bs b × R a b
zipped_there R [] bs related a (k, low, at) = absurd (omega (arith, low))
zipped_there R (c ∷ ks) [] related a member = absurd related
zipped_there R (c ∷ ks) (b ∷ bs) (here, rest) a (zero, low, at) = (b, (0, omega arith, refl), subst (λ z. R z b) at here)
zipped_there R (c ∷ ks) (b ∷ bs) (here, rest) a (suc k, low, at) =
    let found = zipped_there R ks bs rest a (k, omega (arith, low), at) in (found.0, Contains-append_right (b ∷ []) bs found.0 found.1, found.2)

pub zipped_back : {A B : Type 0} (R : A → B → Type 0) (ks : List A) (bs : List B) → AllZip R ks bs → (b : B) → Contains bs b → (a : A) × Contains ks a × R a b
zipped_back R ks [] related b (k, low, at) = absurd (omega (arith, low))
zipped_back R [] (c ∷ bs) related b member = absurd related
zipped_back R (a ∷ ks) (c ∷ bs) (here, rest) b (zero, low, at) = (a, (0, omega arith, refl), subst (R a) at here)
zipped_back R (a ∷ ks) (c ∷ bs) (here, rest) b (suc k, low, at) =
    let found = zipped_back R ks bs rest b (k, omega (arith, low), at) in (found.0, Contains-append_right (a ∷ []) ks found.0 found.1, found.2)

-- a value that is left by a test was there, and the test was passed
pub cond-is_some : {X : Type 0} (b : Bool) (o : Option X) (x : X) → (if b then o else None) ≡ Some x → (b ≡ true) × (o ≡ Some x)
cond-is_some true o x are = (refl, are)
cond-is_some false o x are = absurd (none-some x are)

cond-some : {X : Type 0} (b : Bool) (o : Option X) (x : X) → b ≡ true → o ≡ Some x → (if b then o else None) ≡ Some x
cond-some b o x passes are = ap (λ c. if c then o else None) passes ∙ are

-- what is read of nothing is nothing
if_mapped : {X Y : Type 0} (f : Option X → Option Y) → f None ≡ None → (b : Bool) (o : Option X) → f (if b then o else None) ≡ (if b then f o else None)
if_mapped f none true o = refl
if_mapped f none false o = none

module _ (passes : DataHash → Bool) (shards parts : List Shard) (join part : Shard) (are : AllZip (IsPartOf passes) shards parts) (is : IsPartOf passes join part) where
  has_what : {X : Type 0} (q : DataHash) (f : Shard → Option X) → ((s t : Shard) → IsPartOf passes s t → f t ≡ (if passes q then f s else None))
      → HasWhatAnyHas (Contains shards) join f → HasWhatAnyHas (Contains parts) part f
  has_what q f same has x = (to, back) where
    to : f part ≡ Some x → (t : Shard) × Contains parts t × (f t ≡ Some x)
    to here =
        let there = cond-is_some (passes q) (f join) x (sym (same join part is) ∙ here) in
        let found = (has x).0 there.1 in
        let other = zipped_there (IsPartOf passes) shards parts are found.0 found.1 in
        (other.0, other.1, same found.0 other.0 other.2 ∙ cond-some (passes q) (f found.0) x there.0 found.2)

    back : (t : Shard) × Contains parts t × (f t ≡ Some x) → f part ≡ Some x
    back found =
        let other = zipped_back (IsPartOf passes) shards parts are found.0 found.1 in
        let there = cond-is_some (passes q) (f other.0) x (sym (same other.0 found.0 other.2) ∙ found.2) in
        same join part is ∙ cond-some (passes q) (f join) x there.0 ((has x).1 (other.0, other.1, there.1))

  pub join_of_parts : IsJoinOf (Contains shards) join → IsJoinOf (Contains parts) part
  join_of_parts whole = record {
    xorbs = λ q. has_what q (λ s. get s.xorbs q) (λ s t part. part.xorbs q) (whole.xorbs q);
    segments = λ q. has_what q (segments_under q) (λ s t part. ap (option_map (λ (r : MDBFileInfo). r.segments)) (part.files q) ∙ if_mapped (option_map (λ (r : MDBFileInfo). r.segments)) refl (passes q) (get s.files q)) (whole.segments q);
    parts = λ p q. has_what q (part_under p q) (λ s t part. ap (option_and_then (part_in p)) (part.files q) ∙ if_mapped (option_and_then (part_in p)) refl (passes q) (get s.files q)) (whole.parts p q);
    follows = λ q r there. whole.follows q r (cond-is_some (passes q) (get join.files q) r (sym (is.files q) ∙ there)).1;
  }

pub parts_agree : (passes : DataHash → Bool) (a b c d : Shard) → IsPartOf passes a c → IsPartOf passes b d → ShardsAgree a b → ShardsAgree c d
parts_agree passes a b c d one other agree = record {
  files = λ q r s first second. agree.files q r s (cond-is_some (passes q) (get a.files q) r (sym (one.files q) ∙ first)).1 (cond-is_some (passes q) (get b.files q) s (sym (other.files q) ∙ second)).1;
  xorbs = λ q r s first second. agree.xorbs q r s (cond-is_some (passes q) (get a.xorbs q) r (sym (one.xorbs q) ∙ first)).1 (cond-is_some (passes q) (get b.xorbs q) s (sym (other.xorbs q) ∙ second)).1;
}
