use Rattle.mdb_garbage.specs.Garbage.{HasXorb, IsOfXorbs, IsSegment}
use Rattle.mdb_garbage.proofs.Collecting.{collects_narrowed, collects_permuted, collects_within}
use Rattle.mdb_garbage.proofs.garbage.Garbage.halve.Goals as goal

pub returns-in-Some : goal.returns-in-Some
returns-in-Some c = λ files xorbs seen. record {
  segments = collects_narrowed (λ s. s.xorb) (IsSegment files) _ _ _ c.below-self.ensures.within seen.segments;
  hashes =
      collects_within (λ h. h) (HasXorb xorbs) _ _ _ _ c.keep_hashes.ensures c.below-self.ensures.within
      (collects_permuted (λ h. h) (HasXorb xorbs) _ _ _ c.sort_unstable.ensures.permutation seen.hashes);
  found = collects_within (λ f. f.xorb) (IsOfXorbs files xorbs) _ _ _ _ c.keep_findings.ensures c.below-self.ensures.within seen.found;
}

pub returns-in_default : goal.returns-in_default
returns-in_default c = λ files xorbs seen. record {
  segments = seen.segments;
  hashes = collects_permuted (λ h. h) (HasXorb xorbs) _ _ _ c.sort_unstable.ensures.permutation seen.hashes;
  found = seen.found;
}
