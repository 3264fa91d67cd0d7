-- Shards by the keys of their chunk hashes.
use Rattle.std.specs.Prelude.{ℕ, ◌≡◌, ◌⊎◌, List, [], ◌∷◌, map, filter, not, zip, Contains}
use Rattle.std.specs.Borrow.{Bor}
use Rattle.xet_core_structures.specs.declared.error.CoreError.{CoreError}
use Rattle.xet_core_structures.specs.declared.merklehash.DataHash.{DataHash}
use Rattle.xet_core_structures.specs.Hash.{hash_eq}
use Rattle.xet_core_structures.specs.TwoShards.ByteResults.{LoadRefusal}
use Rattle.mdb_report.specs.Faults.{IsFaultOf}
use Rattle.mdb_report.specs.declared.fault.Fault.TheVariants.{OutOfMemory}
use Rattle.mdb_base.specs.declared.failure.Failure.{Failure}
use Rattle.mdb_base.specs.declared.failure.Subject.TheVariants.{File}

-- the keys without repetitions: the first, and then those after it that are not the first
abbrev pub distinct_keys : List DataHash → List DataHash
distinct_keys [] = []
distinct_keys (key ∷ keys) = key ∷ filter (λ other. not (hash_eq other key)) (distinct_keys keys)

-- the values whose key is this one, in their order
abbrev pub values_under : {T : Type 0} → DataHash → List T → List DataHash → List T
values_under key values keys = map (λ p. p.0) (filter (λ p. hash_eq p.1 key) (zip values keys))

-- why headers and footers of inputs are not known: memory is lacking, or those of an input are not
-- read, and the failure is on its file
abbrev pub NoInfos : List (Bor (List ℕ) × Bor (List ℕ)) → Failure → Type 0
NoInfos inputs failure =
    (failure.fault ≡ OutOfMemory)
    ⊎ ((file bytes : Bor (List ℕ)) × Contains inputs (file, bytes) × (failure.subject ≡ File file)
    × ((e : CoreError) × LoadRefusal bytes.now e × IsFaultOf bytes.now e failure.fault))
