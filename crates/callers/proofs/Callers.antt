-- What the proofs of src/uses cite: two calls on one source, and the exports of two shards.
use Rattle.std.proofs.Common.{◌≡◌, inl, inr, ℕ, ◌+◌, ◌^◌, ◌<◌, List, [], ◌∷◌, ◌++◌, length, true, Option, Ok, Err, None, refl, sym, ap, ◌∙◌, subst, arith, append_assoc}
use Rattle.std.specs.Prelude.{MatchResult, IsOkAnd, IfOk, Contains}
use Rattle.std.specs.List.{AllZip}
use Rattle.std.specs.FinMap.{values}
use Rattle.std.specs.declared.vec.Vec.{Vec}
use Rattle.std.proofs.lemmas.List.{length-append}
use Rattle.xet_base.specs.Bytes.{u64_bytes}
use Rattle.xet_base.specs.MemorySource.{in_memory}
use Rattle.xet_base.proofs.Bytes.{length-u64_bytes}
use Rattle.xet_core_structures.specs.declared.error.CoreError.{CoreError}
use Rattle.xet_core_structures.specs.declared.file_structs.MDBFileInfo.{MDBFileInfo}
use Rattle.xet_core_structures.specs.declared.merklehash.DataHash.{DataHash}
use Rattle.xet_core_structures.specs.declared.shard_format.MDBShardInfo.{MDBShardInfo}
use Rattle.xet_core_structures.specs.declared.set_operations.MergePlan.{MergePlan}
use Rattle.xet_core_structures.specs.declared.source.MemorySource.{MemorySource}
use Rattle.xet_core_structures.specs.Ends.{HasHeaderAndFooter, Loads}
use Rattle.xet_core_structures.specs.Errors.{CoreResult}
use Rattle.xet_core_structures.specs.Trees.ExportTrees.{IsExportOf, IsMergeOfExports}
use Rattle.xet_core_structures.specs.FileRecord.{file_records}
use Rattle.xet_core_structures.specs.Hash.{IsHash}
use Rattle.xet_core_structures.specs.Joins.{IsJoinOf, AgreePairwise}
use Rattle.xet_core_structures.specs.KeyedExport.{exported_bytes, export_options}
use Rattle.xet_core_structures.specs.Lookup.{FoundInShard, LookupFailsAmong, WithinBounds}
use Rattle.xet_core_structures.specs.Trees.MergeTrees.{HasUnion, leaves, InputIs}
use Rattle.xet_core_structures.specs.Layout.{layout, plain_options}
use Rattle.xet_core_structures.specs.Shard.{Shard, IsShard}
use Rattle.xet_core_structures.specs.Source.{Source, DeviceFailure}
use Rattle.xet_core_structures.specs.WrittenShard.{IsBytesOf, IsBytesWithInfo, IsBytesWithoutExpiry}
use Rattle.xet_core_structures.specs.View.{all_with_aux_if}
use Rattle.callers.specs.Callers.{FindsWithin, export_of, EqualButForTimes}

-- header and footer were read from the bytes of a shard
pub as_written : (s : Shard) (old new : Source) (info : MDBShardInfo) → IsBytesOf s old.bytes → Loads old new info → IsBytesWithInfo s new.bytes info
as_written s old new info is loads = record {
  is_bytes = subst (IsBytesOf s) (sym loads.bytes) is;
  ends = subst (λ bs. HasHeaderAndFooter bs info) (sym loads.bytes) loads.ends;
}

-- a failure of the second call is one of both
failed_later : (old mid new : Source) (e : CoreError) → mid.failures ≡ old.failures → DeviceFailure mid new e → DeviceFailure old new e
failed_later old mid new e same (one, failure, last, from) = (one ∙ ap (λ n. n + 1) same, failure, last, from)

pub found_later : (s : Shard) (hash : DataHash) (result : CoreResult (Option MDBFileInfo)) (old mid new : Source) → mid.failures ≡ old.failures
    → MatchResult result (FoundInShard s hash) (LookupFailsAmong file_records (values s.files) hash mid new) → MatchResult result (FoundInShard s hash) (LookupFailsAmong file_records (values s.files) hash old new)
found_later s hash (Ok found) old mid new same is = is
found_later s hash (Err e) old mid new same (inl failed) = inl (failed_later old mid new e same failed)
found_later s hash (Err e) old mid new same (inr other) = inr other

-- what both calls cost
pub costs_of_both : (files : List MDBFileInfo) (word : ℕ) (old mid new : Source) (info : MDBShardInfo) → Loads old mid info → WithinBounds file_records files word mid new → FindsWithin files word old new
costs_of_both files word old mid new info loads costs = record { seeks = omega arith; read = omega arith }

-- a source in memory does not fail
pub ok_in_memory : {T : Type 0} (result : CoreResult T) (IsRight : T → Type 0) (old new : MemorySource) → MatchResult result IsRight (DeviceFailure (in_memory old) (in_memory new)) → IsOkAnd result IsRight
ok_in_memory (Ok value) IsRight old new is = is
ok_in_memory (Err e) IsRight old new failed = absurd (omega (arith, failed.0))

-- bytes without expiry are bytes of the shard
pub without_expiry : (s : Shard) (bytes : List ℕ) → IsBytesWithoutExpiry s bytes → IsBytesOf s bytes
without_expiry s bytes is = record { shard = is.shard; version = (plain_options None).version; files = tt; expiry = None; expiry_fits = tt; bytes_are = is.bytes_are }

-- a shard in memory was written
pub written_alone : {Z : Type 0} (s t : Shard) (result : CoreResult (Vec ℕ Z)) → t ≡ s → IfOk result (λ bytes. bytes.items ≡ layout t None) → IfOk result (λ _. IsShard t) → IfOk result (λ bytes. IsBytesWithoutExpiry s bytes.items)
written_alone s t (Ok bytes) same are shard = record { shard = subst IsShard same shard; bytes_are = are ∙ ap (λ u. layout u None) same }
written_alone s t (Err e) same are shard = tt

-- an export of a shard, with its files and all tables
pub exported_of : (s : Shard) (key : DataHash) (now valid : ℕ) (out : List ℕ) → IsHash key → now < 2 ^ 64 → now + valid < 2 ^ 64
    → out ≡ exported_bytes (all_with_aux_if true (values s.files)) (values s.xorbs) (export_options key now valid true true true) → IsExportOf true key s out
exported_of s key now valid out hash now_fits expiry_fits is = record {
  options = export_options key now valid true true true;
  is_form = record { under = refl; files = refl; fits = record { key = hash; creation = now_fits; expiry = expiry_fits } };
  files = tt;
  bytes_are = is;
}

-- the exports of two shards that agree are merged
pub both_exported : (key : DataHash) (a b join : Shard) (x y : List ℕ) (plan : MergePlan) → HasUnion plan → leaves plan ≡ 0 ∷ 1 ∷ [] → IsExportOf true key a x → IsExportOf true key b y
    → AgreePairwise (Contains (a ∷ b ∷ [])) → IsJoinOf (Contains (a ∷ b ∷ [])) join → IsMergeOfExports true key (x ∷ y ∷ []) plan (a ∷ b ∷ []) join
both_exported key a b join x y plan union leaves_are one other agree is_join = record {
  union = union;
  inputs_are = subst (λ is. AllZip (λ i s. InputIs (x ∷ y ∷ []) (IsExportOf true key s) i) is (a ∷ b ∷ [])) (sym leaves_are) ((x, refl, one), ((y, refl, other), tt));
  agree = agree;
  is_join = is_join;
}

-- the export with other times
pub other_times : (join : Shard) (key : DataHash) (now valid : ℕ) (out : List ℕ)
    → ((before after : List ℕ) × (length after ≡ 80)
    × ((now valid : ℕ) → exported_bytes (all_with_aux_if true (values join.files)) (values join.xorbs) (export_options key now valid true true true) ≡ before ++ u64_bytes now ++ u64_bytes (now + valid) ++ after))
    → out ≡ export_of join key 0 18446744073709551615 → EqualButForTimes (export_of join key now valid) out
other_times join key now valid out (before, after, eighty, all) is = record {
  before = before;
  times = u64_bytes now ++ u64_bytes (now + valid);
  other_times = u64_bytes 0 ++ u64_bytes 18446744073709551615;
  after = after;
  sixteen = length-append (u64_bytes now) (u64_bytes (now + valid)) ∙ sixteen now (now + valid);
  as_many = length-append (u64_bytes 0) (u64_bytes 18446744073709551615) ∙ sixteen 0 18446744073709551615;
  eighty = eighty;
  one_is = all now valid ∙ ap (λ bs. bs ++ after) (append_assoc before (u64_bytes now) (u64_bytes (now + valid)));
  other_is = is ∙ all 0 18446744073709551615 ∙ ap (λ bs. bs ++ after) (append_assoc before (u64_bytes 0) (u64_bytes 18446744073709551615));
}
  where
    sixteen : (m n : ℕ) → length (u64_bytes m) + length (u64_bytes n) ≡ 16
    sixteen m n = omega (arith, length-u64_bytes m, length-u64_bytes n)
