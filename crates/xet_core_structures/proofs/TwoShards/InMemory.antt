-- Sources in memory, which do not fail, and the union of two byte strings.
use Rattle.std.proofs.Common.{◌≡◌, inl, inr, ℕ, List, [], ◌++◌, Some, ap, ◌∙◌, subst, arith}
use Rattle.xet_base.specs.declared.error.CoreError.{CoreError}
use Rattle.xet_base.specs.declared.error.CoreError.TheVariants.{ShardVersion}
use Rattle.xet_base.specs.declared.source.MemorySource.{MemorySource}
use Rattle.xet_base.specs.Errors.{IsShardVersion, IsBareShardVersion}
use Rattle.xet_base.specs.MemorySource.{in_memory}
use Rattle.xet_base.specs.Source.{FailedBy}
use Rattle.xet_shards.specs.declared.shard_format.ends.info.MDBShardInfo.{MDBShardInfo}
use Rattle.xet_shards.specs.Ends.Ends.{HasHeaderAndFooter, LoadFails, FormatCase, IsUnsupported, IsTooShort}
use Rattle.xet_shards.specs.Ends.Ends.FormatCase.{unsupported_format, too_few_bytes}
use Rattle.xet_core_structures.specs.Records.ByteUnion.{IsByteUnion}
use Rattle.xet_core_structures.specs.TwoShards.ByteResults.{keyed_layout, key_of, HaveResult, WritesResult, InputsFail, UnionRefusal, UnitesBytes, BytesRefusal, LoadRefusal}

bare_version : (e : CoreError) → IsBareShardVersion e → IsShardVersion e
bare_version (ShardVersion text) is = tt
bare_version _ is = absurd is

-- header and footer are not read from memory only because of what the bytes are
pub not_loaded : (x : List ℕ) (old new : MemorySource) (e : CoreError) → old.bytes.now ≡ x → LoadFails (in_memory old) (in_memory new) e → LoadRefusal x e
not_loaded x old new e is fails = of_cause fails.cause where
  of_cause : FailedBy (FormatCase IsUnsupported IsTooShort old.bytes.now) (in_memory old) (in_memory new) e → LoadRefusal x e
  of_cause (inl failed) = absurd (omega (arith, failed.0))
  of_cause (inr (none, unsupported_format bare unsupported)) = inl (bare_version e bare, subst IsUnsupported is unsupported)
  of_cause (inr (none, too_few_bytes end short)) = inr (end, subst IsTooShort is short)

-- what is read of two byte strings is what they are, and their headers and footers are these
module _ (x y x_read y_read : List ℕ) (i j : MDBShardInfo) (x_is : x_read ≡ x) (y_is : y_read ≡ y) (i_ends : HasHeaderAndFooter x i) (j_ends : HasHeaderAndFooter y j) where
  pub bytes_united : (start out : List ℕ) (info : MDBShardInfo) → start ≡ [] → WritesResult IsByteUnion x_read i y_read j (Some start) (Some out) info → UnitesBytes x y out
  bytes_united start out info empty (c, have, is, appends) = (
    i,
    j,
    c,
    i_ends,
    j_ends,
    subst (λ p. p) (λ k. HaveResult IsByteUnion (x_is k) i (y_is k) j c) have,
    appends ∙ ap (λ zs. zs ++ keyed_layout c (key_of i)) empty,
  )

  -- sources in memory do not fail
  pub bytes_refused : (old_1 new_1 old_2 new_2 : MemorySource) (e : CoreError)
      → InputsFail (in_memory old_1) (in_memory new_1) (in_memory old_2) (in_memory new_2) (UnionRefusal x_read i y_read j) e → BytesRefusal x y e
  bytes_refused old_1 new_1 old_2 new_2 e (inl failed) = absurd (omega (arith, failed.0))
  bytes_refused old_1 new_1 old_2 new_2 e (inr (inl failed)) = absurd (omega (arith, failed.0))
  bytes_refused old_1 new_1 old_2 new_2 e (inr (inr (none, none_too, refusal))) = inr (inr (i, j, i_ends, j_ends, subst (λ p. p) (λ k. UnionRefusal (x_is k) i (y_is k) j e) refusal))
