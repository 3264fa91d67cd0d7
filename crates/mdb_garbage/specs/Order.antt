-- The orders of segments and of findings: both first that of the hashes of xorbs.
use Rattle.std.specs.Prelude.{Bool, not, List}
use Rattle.std.specs.List.Sorted.{IsStrictlySortedBy}
use Rattle.std.specs.Ordering.{is_lt, nat_cmp, ordering_then}
use Rattle.std.specs.declared.cmp.Ordering.{Ordering}
use Rattle.xet_base.specs.declared.merklehash.DataHash.{DataHash}
use Rattle.xet_base.specs.Hash.{hash_cmp}
use Rattle.mdb_garbage.specs.declared.finding.Misfit.{Misfit}
use Rattle.mdb_garbage.specs.declared.finding.GarbageFinding.{GarbageFinding}
use Rattle.mdb_garbage.specs.declared.finding.Segment.{Segment}
use Rattle.mdb_garbage.specs.contracts.finding.MisfitOrd as misfit_order

-- segments in the order of their fields
abbrev pub segment_cmp : Segment → Segment → Ordering
segment_cmp s t =
    ordering_then (hash_cmp s.xorb t.xorb) (ordering_then (hash_cmp s.file t.file)
    (ordering_then (nat_cmp s.index t.index) (ordering_then (nat_cmp s.start t.start)
    (ordering_then (nat_cmp s.end t.end) (nat_cmp s.bytes t.bytes)))))

-- whether a segment names a hash below one
abbrev pub is_before : DataHash → Segment → Bool
is_before hash s = is_lt (hash_cmp s.xorb hash)

-- whether a segment names a hash that is not above one
abbrev pub is_up_to : DataHash → Segment → Bool
is_up_to hash s = not (is_lt (hash_cmp hash s.xorb))

-- misfits in the order of the variants, and then of their fields
abbrev pub misfit_cmp : Misfit → Misfit → Ordering
misfit_cmp = (misfit_order.TheImpl.ghosts).cmp

-- findings in the order of their hashes, and then of their misfits
abbrev pub finding_cmp : GarbageFinding → GarbageFinding → Ordering
finding_cmp f g = ordering_then (hash_cmp f.xorb g.xorb) (misfit_cmp f.misfit g.misfit)

-- each finding is above the one before it
abbrev pub Ascend : List GarbageFinding → Type 0
Ascend found = IsStrictlySortedBy finding_cmp found
