-- The size of a merge of byte strings that have to agree.
use Rattle.std.proofs.Common.{ℕ, List, length, sym, subst}
use Rattle.xet_core_structures.specs.declared.record_reader.FormatVersion.{FormatVersion}
use Rattle.placed_shards.specs.declared.selection.Selection.{Selection}
use Rattle.placed_shards.specs.MergeSizes.{IsResultSize}
use Rattle.placed_shards.specs.Strict.{IsJoinedMerge}
use Rattle.placed_shards.proofs.MergeSizes.{size_of_merge}
use Rattle.shard_bytes.specs.Versions.{IsWrittenIn}

pub size_of_joined : (selection : Selection) (inputs : List (List ℕ)) (version : FormatVersion) (out : List ℕ) → IsWrittenIn version (IsJoinedMerge selection inputs) out → IsResultSize inputs (length out)
size_of_joined selection inputs version out (made, joined, has, is) = subst (λ zs. IsResultSize inputs (length zs)) (sym is) (size_of_merge selection inputs made joined.merge version)
