-- Trees of unions of bytes: what they write on any inputs, and what their leaves are.
use Rattle.std.specs.Prelude.{◌≡◌, ◌⊎◌, ⊤, ℕ, ◌<◌, ◌≤◌, List, [], ◌∷◌, ◌++◌, length, All, Contains, Some, slice_get}
use Rattle.std.specs.List.{AllZip}
use Rattle.std.specs.FinMap.{values}
use Rattle.xet_base.specs.declared.error.CoreError.{CoreError}
use Rattle.xet_base.specs.declared.error.CoreError.TheVariants.{InvalidArguments, OutOfMemory}
use Rattle.xet_base.specs.declared.merklehash.DataHash.{DataHash}
use Rattle.xet_base.specs.Errors.{IsInvalidShard}
use Rattle.xet_base.specs.KeyedHash.{no_key}
use Rattle.xet_records.specs.XorbRecord.{IsXorb}
use Rattle.xet_shards.specs.Content.Joins.{IsJoinOf, AgreePairwise}
use Rattle.xet_shards.specs.Content.SetOperations.{RowsFitU32}
use Rattle.xet_shards.specs.Content.Shard.{Shard}
use Rattle.xet_shards.specs.Write.WrittenShard.{IsBytesOf}
use Rattle.xet_core_structures.specs.declared.set_operations.MergePlan.{MergePlan}
use Rattle.xet_core_structures.specs.declared.set_operations.MergePlan.TheVariants.{Leaf, Both'}
use Rattle.xet_core_structures.specs.TwoShards.ByteResults.{UnitesBytes, BytesRefusal}
use Rattle.xet_core_structures.specs.Records.ShardContents.{HasShard, HoldsShard}

-- the inputs at the leaves, from left to right
abbrev pub leaves : MergePlan → List ℕ
leaves (Leaf i) = i ∷ []
leaves (Both' p left q right) = leaves left ++ leaves right

-- the tree is more than a leaf
abbrev pub HasUnion : MergePlan → Type 0
HasUnion (Leaf i) = ⊥
HasUnion (Both' p left q right) = ⊤

-- what a tree makes, if `Makes` says what each leaf makes: at a leaf that, else the union of what
-- both sides make
abbrev pub TreeMakes : (ℕ → List ℕ → Type 0) → MergePlan → List ℕ → Type 0
TreeMakes Makes (Leaf i) out = Makes i out
TreeMakes Makes (Both' p left q right) out =
    (x y : List ℕ) × TreeMakes Makes left x × TreeMakes Makes right y × UnitesBytes x y out

-- why a tree makes nothing, if `Refuses` says why a leaf makes nothing: at a leaf that; else the
-- left side makes nothing, or it does and the right side makes nothing, or both do and there is no
-- union of what they make
abbrev pub TreeRefuses : (ℕ → List ℕ → Type 0) → (ℕ → CoreError → Type 0) → MergePlan → CoreError
    → Type 0
TreeRefuses Makes Refuses (Leaf i) e = Refuses i e
TreeRefuses Makes Refuses (Both' p left q right) e =
    TreeRefuses Makes Refuses left e
    ⊎ ((x : List ℕ) × TreeMakes Makes left x
    × (TreeRefuses Makes Refuses right e
    ⊎ ((y : List ℕ) × TreeMakes Makes right y × BytesRefusal x y e)))

-- what a leaf writes: the input's bytes
abbrev pub LeafWrites : List (List ℕ) → ℕ → List ℕ → Type 0
LeafWrites inputs i out = slice_get inputs i ≡ Some out

-- why a leaf writes nothing: it has no input, or it has one and an allocation failed
abbrev pub LeafRefusal : List (List ℕ) → ℕ → CoreError → Type 0
LeafRefusal inputs i e =
    ((e ≡ InvalidArguments) × (length inputs ≤ i)) ⊎ ((e ≡ OutOfMemory) × (i < length inputs))

-- what a tree of unions writes
abbrev pub TreeWrites : List (List ℕ) → MergePlan → List ℕ → Type 0
TreeWrites inputs = TreeMakes (LeafWrites inputs)

-- why a tree of unions writes nothing
abbrev pub TreeRefusal : List (List ℕ) → MergePlan → CoreError → Type 0
TreeRefusal inputs = TreeRefuses (LeafWrites inputs) (LeafRefusal inputs)

-- there is an input at an index, and `Is` holds of it
abbrev pub InputIs : List (List ℕ) → (List ℕ → Type 0) → ℕ → Type 0
InputIs inputs Is i = (bytes : List ℕ) × (slice_get inputs i ≡ Some bytes) × Is bytes

-- the xorbs of each shard that the input at a leaf holds are well-formed
abbrev pub HaveXorbs : List (List ℕ) → MergePlan → Type 0
HaveXorbs inputs plan =
    (i : ℕ) (s : Shard) → Contains (leaves plan) i → InputIs inputs (HasShard s) i
    → All IsXorb (values s.xorbs)

-- a tree with a union, whose inputs at the leaves are bytes of these shards, from left to right;
-- each two of the shards agree, and this is their join
pub record IsMergeOf (IsOf : Shard → List ℕ → Type 0) (inputs : List (List ℕ)) (plan : MergePlan)
    (shards : List Shard) (join : Shard) : Type 0 where
  pub union : HasUnion plan
  pub inputs_are : AllZip (λ i s. InputIs inputs (IsOf s) i) (leaves plan) shards
  pub agree : AgreePairwise (Contains shards)
  pub is_join : IsJoinOf (Contains shards) join

-- a tree with a union, whose inputs at the leaves hold these well-formed shards under one key, from
-- left to right; each two of the shards agree, and this is their join
abbrev pub IsMergeUnder : DataHash → List (List ℕ) → MergePlan → List Shard → Shard → Type 0
IsMergeUnder key = IsMergeOf (HoldsShard key)

-- a tree with a union, whose inputs at the leaves hold these well-formed shards without a key, from
-- left to right; each two of the shards agree, and this is their join
abbrev pub IsMerge : List (List ℕ) → MergePlan → List Shard → Shard → Type 0
IsMerge = IsMergeUnder no_key

-- a tree with a union, whose inputs at the leaves are bytes as they are written for these shards,
-- each in either version, with an expiry or none, from left to right; each two of the shards agree,
-- and this is their join
abbrev pub IsMergeOfWritten : List (List ℕ) → MergePlan → List Shard → Shard → Type 0
IsMergeOfWritten = IsMergeOf IsBytesOf

-- why shards that agree are not merged: an allocation failed, or a section of the join has too many
-- rows
abbrev pub MergeRefused : Shard → CoreError → Type 0
MergeRefused join e = (e ≡ OutOfMemory) ⊎ (IsInvalidShard e × (¬ RowsFitU32 join))
