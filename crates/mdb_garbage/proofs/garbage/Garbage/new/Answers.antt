use Rattle.std.proofs.Common.{[], sym, subst}
use Rattle.mdb_garbage.specs.Garbage.{IsSegment, HasXorb, IsOfXorbs}
use Rattle.mdb_garbage.specs.CollectedRanges.{Collects}
use Rattle.mdb_garbage.proofs.Collecting.{collects_permuted}
use Rattle.mdb_garbage.proofs.Seen.{hashes_of_none, found_of_none}
use Rattle.mdb_garbage.proofs.garbage.Garbage.new.Goals as goal

pub returns-clause-seen : goal.returns-clause-seen
returns-clause-seen c = λ files holds. record {
  segments = collects_permuted (λ s. s.xorb) (IsSegment files) _ _ _ c.of.ensures holds;
  hashes = subst (Collects c.args.segments.range (λ h. h) (HasXorb [])) (sym c.new.ensures.items) (hashes_of_none c.args.segments.range);
  found = subst (Collects c.args.segments.range (λ f. f.xorb) (IsOfXorbs files [])) (sym c.new-2.ensures.items) (found_of_none c.args.segments.range files);
}
