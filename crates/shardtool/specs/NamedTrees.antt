-- Trees of unions over buffers that have names.
use Rattle.std.specs.Prelude.{◌≡◌, ◌⊎◌, ℕ, List, ◌++◌, map, Option, None, Some, slice_get}
use Rattle.std.specs.Borrow.{Bor}
use Rattle.std.specs.BTreeMap.{BTreeMap, get_by_text}
use Rattle.std.specs.Option.{option_map}
use Rattle.std.specs.declared.string.String.{String}
use Rattle.std.specs.declared.vec.Vec.{Vec}
use Rattle.xet_core_structures.specs.declared.error.CoreError.{CoreError}
use Rattle.xet_core_structures.specs.declared.error.CoreError.TheVariants.{OutOfMemory}
use Rattle.xet_core_structures.specs.declared.set_operations.MergePlan.{MergePlan}
use Rattle.xet_core_structures.specs.declared.set_operations.MergePlan.TheVariants.{Leaf, Both' as both_plans}
use Rattle.xet_core_structures.specs.TwoShards.ByteResults.{UnitesBytes, BytesRefusal}
use Rattle.shardtool.specs.declared.stop.Stop.{Stop}
use Rattle.shardtool.specs.declared.stop.Stop.TheVariants.{Refused, Unreadable, Failed}
use Rattle.script_lines.specs.declared.tree.NameTree.{NameTree}
use Rattle.script_lines.specs.declared.tree.NameTree.TheVariants.{Name, Both'}

-- the bytes under each name, if there are any
abbrev pub Buffers : Type 0
Buffers = List ℕ → Option (List ℕ)

-- the bytes of the buffer with a name, if there is one
abbrev pub bytes_under : {Y Z : Type 0} → BTreeMap (String Y) (Vec ℕ Z) → Buffers
bytes_under buffers name = option_map (λ b. b.items) (get_by_text buffers name)

-- what a tree gives: a name its buffer's bytes, a pair the union of what both sides give
abbrev pub MergesTo : Buffers → NameTree → List ℕ → Type 0
MergesTo buffers (Name name) out = buffers name.now ≡ Some out
MergesTo buffers (Both' p left q right) out =
    (x y : List ℕ) × MergesTo buffers left x × MergesTo buffers right y × UnitesBytes x y out

-- why a tree gives nothing: an allocation failed, or there is no union of what its sides give
abbrev pub MergeRefusal : Buffers → NameTree → CoreError → Type 0
MergeRefusal buffers (Name name) e = e ≡ OutOfMemory
MergeRefusal buffers (Both' p left q right) e =
    MergeRefusal buffers left e
    ⊎ ((x : List ℕ) × MergesTo buffers left x
    × (MergeRefusal buffers right e
    ⊎ ((y : List ℕ) × MergesTo buffers right y × BytesRefusal x y e)))

-- a name in the tree has no buffer
abbrev pub HasUnknown : Buffers → NameTree → Type 0
HasUnknown buffers (Name name) = buffers name.now ≡ None
HasUnknown buffers (Both' p left q right) = HasUnknown buffers left ⊎ HasUnknown buffers right

-- the stop of a merge at a name without a buffer, or of an allocation before it
abbrev pub StopsAtUnknown : Stop → Type 0
StopsAtUnknown stop = (stop ≡ Unreadable) ⊎ (stop ≡ Refused OutOfMemory)

-- why a merge stops the script
abbrev pub MergeStops : Buffers → NameTree → Stop → Type 0
MergeStops buffers tree (Refused e) = MergeRefusal buffers tree e
MergeStops buffers tree Unreadable = HasUnknown buffers tree
MergeStops buffers tree Failed = ⊥

-- a plan of the same shape, with the same bytes at its leaves
abbrev pub IsPlanOf : Buffers → List (List ℕ) → NameTree → MergePlan → Type 0
IsPlanOf buffers inputs (Name name) (Leaf i) =
    (bytes : List ℕ) × (buffers name.now ≡ Some bytes) × (slice_get inputs i ≡ Some bytes)
IsPlanOf buffers inputs (Both' p left q right) (both_plans p1 plan1 q1 plan2) =
    IsPlanOf buffers inputs left plan1 × IsPlanOf buffers inputs right plan2
IsPlanOf buffers inputs _ _ = ⊥

-- the second list has the inputs of the first, and then maybe more
abbrev pub AddsInputs : {Z : Type 0} → Vec (Bor (List ℕ)) Z → Vec (Bor (List ℕ)) Z → Type 0
AddsInputs old new =
    (more : List (List ℕ)) × (map (λ x. x.now) new.items ≡ map (λ x. x.now) old.items ++ more)

-- why there is no plan: an allocation failed, or a name in the tree has no buffer
abbrev pub PlanStops : Buffers → NameTree → Stop → Type 0
PlanStops buffers tree stop =
    (stop ≡ Refused OutOfMemory) ⊎ ((stop ≡ Unreadable) × HasUnknown buffers tree)
