-- The next row of the merge of chunk tables.
use Rattle.std.specs.Prelude.{◌≡◌, false, List, ◌∷◌, All}
use Rattle.std.specs.BinaryHeap.{IsHeap}
use Rattle.std.specs.List.Sorted.{IsPermutation}
use Rattle.std.specs.Ordering.{is_lt, nat_cmp, ordering_then}
use Rattle.std.specs.declared.cmp.Ordering.{Ordering}
use Rattle.std.specs.declared.cmp.Reverse.{Reverse}
use Rattle.xet_shards.specs.Write.Tables.{chunk_table_row_cmp}
use Rattle.mdb_assembly.specs.declared.runs.Head.{Head}

-- rows in the order of the chunk table, equal ones in the order of their tables
abbrev pub head_cmp : Head → Head → Ordering
head_cmp x y = ordering_then (chunk_table_row_cmp x.row y.row) (nat_cmp x.run y.run)

-- the reverse order, in which a heap has the least on top
abbrev pub heads_cmp : Reverse Head → Reverse Head → Ordering
heads_cmp x y = head_cmp y.0 x.0

-- a row was taken of those in a heap, and none of the others, which are left as a heap, is less
pub record TakesLeast (head : Head) (old new : List (Reverse Head)) : Type 0 where
  pub moved : IsPermutation old (record { 0 = head } ∷ new)
  pub heap : IsHeap heads_cmp old → IsHeap heads_cmp new
  pub least : IsHeap heads_cmp old → All (λ h. is_lt (head_cmp h.0 head) ≡ false) new
