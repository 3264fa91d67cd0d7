-- What is kept of the xorbs so far.
use Rattle.std.proofs.Common.{◌≡◌, ◌↔◌, ◌⊎◌, inl, inr, ⊎_elim, List, None, [], ◌∷◌, ◌++◌, Contains, refl, sym, ap, ◌∙◌, subst, arith}
use Rattle.std.specs.List.Sorted.{IsPermutation}
use Rattle.std.proofs.lemmas.List.Elements.{Contains-push, Contains-push_cases, Contains-append_left}
use Rattle.std.proofs.lemmas.List.Sorted.{Contains-permutation, IsPermutation-sym}
use Rattle.xet_base.specs.declared.merklehash.DataHash.{DataHash}
use Rattle.xet_records.specs.declared.file_structs.MDBFileInfo.{MDBFileInfo}
use Rattle.xet_records.specs.declared.xorb_structs.MDBXorbInfo.{MDBXorbInfo}
use Rattle.mdb_garbage.specs.declared.finding.Misfit.{Misfit}
use Rattle.mdb_garbage.specs.declared.finding.Misfit.TheVariants.{Unnamed, Total, Start, Lacking, Outside, Bytes}
use Rattle.mdb_garbage.specs.declared.finding.GarbageFinding.{GarbageFinding}
use Rattle.mdb_garbage.specs.declared.finding.Segment.{Segment}
use Rattle.mdb_garbage.specs.declared.range.HashRange.{HashRange}
use Rattle.mdb_garbage.specs.Garbage.{HasXorb, IsOfXorb, IsOfXorbs, IsOfHash, IsGarbage}
use Rattle.mdb_garbage.specs.CollectedRanges.{InRange, Collects, HoldsSegments}
use Rattle.mdb_garbage.specs.Reports.{Reports, ReportsAll}
use Rattle.mdb_garbage.specs.Steps.{Adds, IsOneOf, IsOfXorbAmong, IsUnnamed, IsLacking, IsInOrder}

-- before any xorb nothing is found
none_in : {X : Type 0} (x : X) → ¬ Contains [] x
none_in x (k, low, is) = omega (arith, low)

pub hashes_of_none : (range : HashRange) → Collects range (λ h. h) (HasXorb []) []
hashes_of_none range = record { each = λ h has. absurd (none_in h has); all = λ h (x, has, is) within. absurd (none_in x has) }

pub found_of_none : (range : HashRange) (files : List MDBFileInfo) → Collects range (λ f. f.xorb) (IsOfXorbs files []) []
found_of_none range files = record { each = λ f has. absurd (none_in f has); all = λ f (x, has, is) within. absurd (none_in x has) }

module _ (range : HashRange) (files : List MDBFileInfo) (xorbs : List MDBXorbInfo) (xorb : MDBXorbInfo) where
  more_has : (hash : DataHash) → HasXorb xorbs hash → HasXorb (xorbs ++ xorb ∷ []) hash
  more_has hash (x, has, is) = (x, Contains-append_left xorbs (xorb ∷ []) x has, is)

  more_of : (f : GarbageFinding) → IsOfXorbs files xorbs f → IsOfXorbs files (xorbs ++ xorb ∷ []) f
  more_of f (x, has, is) = (x, Contains-append_left xorbs (xorb ∷ []) x has, is)

  -- a xorb with a hash in the range
  module _ (hashes : List DataHash) (holds : Collects range (λ h. h) (HasXorb xorbs) hashes) where
    pub hashes_with : Collects range (λ h. h) (HasXorb (xorbs ++ xorb ∷ [])) (hashes ++ xorb.metadata.xorb_hash ∷ [])
    hashes_with = record {
      each = λ h has. from h (Contains-push_cases hashes xorb.metadata.xorb_hash h has);
      all = λ h (x, has, is) within. of h x is within (Contains-push_cases xorbs xorb x has);
    } where
      from : (h : DataHash) → Contains hashes h ⊎ (xorb.metadata.xorb_hash ≡ h) → HasXorb (xorbs ++ xorb ∷ []) h
      from h (inl has) = more_has h (holds.each h has)
      from h (inr is) = (xorb, Contains-push xorbs xorb, is)

      of : (h : DataHash) (x : MDBXorbInfo) → x.metadata.xorb_hash ≡ h → InRange range h → Contains xorbs x ⊎ (xorb ≡ x) → Contains (hashes ++ xorb.metadata.xorb_hash ∷ []) h
      of h x is within (inl has) = Contains-append_left hashes (xorb.metadata.xorb_hash ∷ []) h (holds.all h (x, has, is) within)
      of h x is within (inr same) =
          subst (Contains (hashes ++ xorb.metadata.xorb_hash ∷ [])) (ap (λ (y : MDBXorbInfo). y.metadata.xorb_hash) same ∙ is) (Contains-push hashes xorb.metadata.xorb_hash)

    pub hashes_without : ¬ InRange range xorb.metadata.xorb_hash → Collects range (λ h. h) (HasXorb (xorbs ++ xorb ∷ [])) hashes
    hashes_without outside = record {
      each = λ h has. more_has h (holds.each h has);
      all = λ h (x, has, is) within. of h x is within (Contains-push_cases xorbs xorb x has);
    } where
      of : (h : DataHash) (x : MDBXorbInfo) → x.metadata.xorb_hash ≡ h → InRange range h → Contains xorbs x ⊎ (xorb ≡ x) → Contains hashes h
      of h x is within (inl has) = holds.all h (x, has, is) within
      of h x is within (inr same) = absurd (outside (subst (InRange range) (sym (ap (λ (y : MDBXorbInfo). y.metadata.xorb_hash) same ∙ is)) within))

  module _ (found : List GarbageFinding) (holds : Collects range (λ f. f.xorb) (IsOfXorbs files xorbs) found) where
    pub found_without : ¬ InRange range xorb.metadata.xorb_hash → Collects range (λ f. f.xorb) (IsOfXorbs files (xorbs ++ xorb ∷ [])) found
    found_without outside = record {
      each = λ f has. more_of f (holds.each f has);
      all = λ f (x, has, is) within. of f x is within (Contains-push_cases xorbs xorb x has);
    } where
      of : (f : GarbageFinding) (x : MDBXorbInfo) → IsOfXorb files x f → InRange range f.xorb → Contains xorbs x ⊎ (xorb ≡ x) → Contains found f
      of f x is within (inl has) = holds.all f (x, has, is) within
      of f x is within (inr same) = absurd (outside (subst (InRange range) (sym (ap (λ (y : MDBXorbInfo). y.metadata.xorb_hash) same ∙ is.0)) within))

    module _ (segments named : List Segment) (segments_are : HoldsSegments files range segments) (in_it : InRange range xorb.metadata.xorb_hash)
        (named_are : (s : Segment) → Contains named s ↔ (Contains segments s × (s.xorb ≡ xorb.metadata.xorb_hash))) (new : List GarbageFinding) (adds : Adds (IsOfXorbAmong named xorb) found new) where
      to_one : (f : GarbageFinding) → IsOfXorbAmong named xorb f → IsOfXorb files xorb f
      to_one f (inl (inl (hash, is))) = (sym hash, inl is)
      to_one f (inl (inr (hash, is))) = (sym hash, inr (inl is))
      to_one f (inr (s, has, hash, is)) =
          let among = (named_are s).0 has in
          (sym hash, inr (inr (s, segments_are.each s among.0, among.1, is)))

      of_one : (f : GarbageFinding) → IsOfXorb files xorb f → IsOfXorbAmong named xorb f
      of_one f (hash, inl is) = inl (inl (sym hash, is))
      of_one f (hash, inr (inl is)) = inl (inr (sym hash, is))
      of_one f (hash, inr (inr (s, among, names, is))) =
          let there = segments_are.all s among (subst (InRange range) (sym names) in_it) in
          inr (s, (named_are s).1 (there, names), sym hash, is)

      pub found_with : Collects range (λ f. f.xorb) (IsOfXorbs files (xorbs ++ xorb ∷ [])) new
      found_with = record {
        each = λ f has. ⊎_elim (λ there. more_of f (holds.each f there)) (λ is. (xorb, Contains-push xorbs xorb, to_one f is)) (adds.each f has);
        all = λ f (x, has, is) within. of f x is within (Contains-push_cases xorbs xorb x has);
      } where
        of : (f : GarbageFinding) (x : MDBXorbInfo) → IsOfXorb files x f → InRange range f.xorb → Contains xorbs x ⊎ (xorb ≡ x) → Contains new f
        of f x is within (inl has) = adds.kept f (holds.all f (x, has, is) within)
        of f x is within (inr same) = adds.added f (of_one f (subst (λ y. IsOfXorb files y f) (sym same) is))

-- what is found at the end
module _ (range : HashRange) (files : List MDBFileInfo) (xorbs : List MDBXorbInfo) (segments : List Segment) (hashes sorted : List DataHash) (found with_unnamed with_lacking result : List GarbageFinding)
    (segments_are : HoldsSegments files range segments) (hashes_are : Collects range (λ h. h) (HasXorb xorbs) hashes) (found_are : Collects range (λ f. f.xorb) (IsOfXorbs files xorbs) found)
    (moved : IsPermutation hashes sorted) (unnamed : Adds (IsOneOf (λ h. h) (IsUnnamed segments) sorted) found with_unnamed)
    (lacking : Adds (IsOneOf (λ s. s.xorb) (IsLacking sorted) segments) with_unnamed with_lacking) (order : IsInOrder range with_lacking result) where
  in_hashes : (h : DataHash) → Contains sorted h → HasXorb xorbs h
  in_hashes h has = hashes_are.each h (Contains-permutation sorted hashes h (IsPermutation-sym hashes sorted moved) has)

  in_sorted : (h : DataHash) → HasXorb xorbs h → InRange range h → Contains sorted h
  in_sorted h is within = Contains-permutation hashes sorted h moved (hashes_are.all h is within)

  is_unnamed : (f : GarbageFinding) → InRange range f.xorb → IsOneOf (λ h. h) (IsUnnamed segments) sorted f → IsGarbage files xorbs f
  is_unnamed f within (h, has, of_h, (misfit, none)) =
      inr (subst (IsOfHash files xorbs f.xorb) (sym misfit)
      (subst (HasXorb xorbs) (sym of_h) (in_hashes h has), λ s is names. none s (segments_are.all s is (subst (InRange range) (sym names) within)) (names ∙ of_h)))

  is_lacking : (f : GarbageFinding) → InRange range f.xorb → IsOneOf (λ s. s.xorb) (IsLacking sorted) segments f → IsGarbage files xorbs f
  is_lacking f within (s, has, of_s, (misfit, none)) =
      inr (subst (IsOfHash files xorbs f.xorb) (sym misfit)
      (segments_are.each s has, sym of_s, λ there. none (in_sorted s.xorb (subst (HasXorb xorbs) of_s there) (subst (InRange range) of_s within))))

  of_hash : (f : GarbageFinding) (misfit : Misfit) → f.misfit ≡ misfit → InRange range f.xorb → IsOfHash files xorbs f.xorb misfit → Contains with_lacking f
  of_hash f Unnamed is within (has, none) =
      lacking.kept f (unnamed.added f (f.xorb, in_sorted f.xorb has within, refl, (is, λ s there names. none s (segments_are.each s there) names)))
  of_hash f (Lacking s) is within (among, names, none) =
      lacking.added f (s, segments_are.all s among (subst (InRange range) (sym names) within), sym names, (is, λ there. none (subst (HasXorb xorbs) names (in_hashes s.xorb there))))
  of_hash f (Total said sum) is within none = absurd none
  of_hash f (Start i said sum) is within none = absurd none
  of_hash f (Outside s chunks) is within none = absurd none
  of_hash f (Bytes s sum) is within none = absurd none

  pub reports_range : Reports range files xorbs result
  reports_range = record {
    each = λ f has. (from f ((order.each f has).1) (lacking.each f ((order.each f has).0)), (order.each f has).1);
    all = λ f is within. order.kept f (⊎_elim (λ of_xorb. lacking.kept f (unnamed.kept f (found_are.all f of_xorb within))) (λ of_it. of_hash f f.misfit refl within of_it) is) within;
    ascend = order.ascend;
  } where
    earlier : (f : GarbageFinding) → InRange range f.xorb → Contains found f ⊎ IsOneOf (λ h. h) (IsUnnamed segments) sorted f → IsGarbage files xorbs f
    earlier f within (inl has) = inl (found_are.each f has)
    earlier f within (inr is) = is_unnamed f within is

    from : (f : GarbageFinding) → InRange range f.xorb → Contains with_unnamed f ⊎ IsOneOf (λ s. s.xorb) (IsLacking sorted) segments f → IsGarbage files xorbs f
    from f within (inl has) = earlier f within (unnamed.each f has)
    from f within (inr is) = is_lacking f within is

-- in the range of all hashes all is reported
pub reports_all : (range : HashRange) (files : List MDBFileInfo) (xorbs : List MDBXorbInfo) (found : List GarbageFinding) → range ≡ record { from = None; to = None } → Reports range files xorbs found → ReportsAll files xorbs found
reports_all range files xorbs found whole reports = record {
  each = λ f has. (reports.each f has).0;
  all = λ f is. reports.all f is (subst (λ r. InRange r f.xorb) (sym whole) refl);
  ascend = reports.ascend;
}
