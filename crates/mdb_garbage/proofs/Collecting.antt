-- What a list collects, as more is added and its range is made smaller.
use Rattle.std.proofs.Common.{◌≡◌, ◌⊎◌, inl, inr, List, [], ◌∷◌, ◌++◌, Contains, sym, subst}
use Rattle.std.specs.List.Sorted.{IsPermutation}
use Rattle.std.proofs.lemmas.List.Elements.{Contains-push, Contains-push_cases, Contains-append_left}
use Rattle.std.proofs.lemmas.List.Sorted.{Contains-permutation, IsPermutation-sym}
use Rattle.xet_base.specs.declared.merklehash.DataHash.{DataHash}
use Rattle.xet_records.specs.declared.file_structs.MDBFileInfo.{MDBFileInfo}
use Rattle.mdb_garbage.specs.declared.finding.Segment.{Segment}
use Rattle.mdb_garbage.specs.declared.range.HashRange.{HashRange}
use Rattle.mdb_garbage.specs.Garbage.{IsAmong, IsSegment}
use Rattle.mdb_garbage.specs.CollectedRanges.{InRange, Collects, HoldsSegments}
use Rattle.mdb_garbage.specs.Steps.{AddsFile, KeepsInRange}

module _ {X : Type 0} (hash_of : X → DataHash) (P : X → Type 0) where
  pub collects_permuted : (range : HashRange) (xs ys : List X) → IsPermutation xs ys → Collects range hash_of P xs → Collects range hash_of P ys
  collects_permuted range xs ys moved holds = record {
    each = λ x has. holds.each x (Contains-permutation ys xs x (IsPermutation-sym xs ys moved) has);
    all = λ x is within. Contains-permutation xs ys x moved (holds.all x is within);
  }

  pub collects_within : (range part : HashRange) (xs ys : List X) → KeepsInRange part hash_of xs ys → ((h : DataHash) → InRange part h → InRange range h)
      → Collects range hash_of P xs → Collects part hash_of P ys
  collects_within range part xs ys keeps within holds = record {
    each = λ x has. holds.each x ((keeps.each x has).0);
    all = λ x is here. keeps.kept x (holds.all x is (within (hash_of x) here)) here;
  }

  -- the same list in a part of the range
  pub collects_narrowed : (range part : HashRange) (xs : List X) → ((h : DataHash) → InRange part h → InRange range h) → Collects range hash_of P xs → Collects part hash_of P xs
  collects_narrowed range part xs within holds = record { each = holds.each; all = λ x is here. holds.all x is (within (hash_of x) here) }

-- a segment of some files is one of more files
pub segment_of_more : (files : List MDBFileInfo) (file : MDBFileInfo) (s : Segment) → IsSegment files s → IsSegment (files ++ file ∷ []) s
segment_of_more files file s (other, has, among) = (other, Contains-append_left files (file ∷ []) other has, among)

pub segments_with_file : (files : List MDBFileInfo) (file : MDBFileInfo) (range : HashRange) (old new : List Segment) → AddsFile range file old new
    → HoldsSegments files range old → HoldsSegments (files ++ file ∷ []) range new
segments_with_file files file range old new adds holds = record {
  each = λ s has. from s (adds.each s has);
  all = λ s (other, has, among) within. of s other among within (Contains-push_cases files file other has);
} where
  from : (s : Segment) → Contains old s ⊎ IsAmong file s → IsSegment (files ++ file ∷ []) s
  from s (inl has) = segment_of_more files file s (holds.each s has)
  from s (inr among) = (file, Contains-push files file, among)

  of : (s : Segment) (other : MDBFileInfo) → IsAmong other s → InRange range s.xorb → Contains files other ⊎ (file ≡ other) → Contains new s
  of s other among within (inl has) = adds.kept s (holds.all s (other, has, among) within)
  of s other among within (inr same) = adds.added s (subst (λ f. IsAmong f s) (sym same) among) within
