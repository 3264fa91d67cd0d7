use Rattle.std.proofs.Common.{List, map, sym, ap, ◌∙◌, subst, T, Global}
use Rattle.std.specs.Prelude.{option_map}
use Rattle.std.specs.Map.{lookup}
use Rattle.std.specs.declared.rc.Rc.{Rc}
use Rattle.std.specs.FinMap.{get, from_sorted, from_entries, is_sorted, get-empty}
use Rattle.std.proofs.lemmas.List.Elements.{All-nil}
use Rattle.xet_base.specs.declared.merklehash.DataHash.{DataHash}
use Rattle.xet_base.specs.Hash.{hash_cmp, hash_eq}
use Rattle.xet_base.proofs.HashOrder.{hash_cmp-IsTotalOrder, hash_cmp-IsAntisymmetric}
use Rattle.xet_records.specs.declared.xorb_structs.MDBXorbInfo.{MDBXorbInfo}
use Rattle.xet_shards.specs.Content.Shard.{AreXorbs}
use Rattle.xet_shards.specs.ShardInMemory.XorbStore.{shown_xorbs, shown_location}
use Rattle.xet_shards.proofs.Content.Maps.{from_sorted-nil}
use Rattle.xet_shards.proofs.ShardInMemory.ChunkLookups.{lookup-none}
use Rattle.xet_shards.proofs.shard_in_memory.xorb_store.XorbStore.new.Goals as goal

pub invariant_of-result : goal.invariant_of-result
invariant_of-result c =
    let none = c.new.ensures.empty in
    let xorbs = ap (λ (es : List (DataHash × Rc MDBXorbInfo Global)). from_sorted {R = hash_cmp} (shown_xorbs es)) none ∙ from_sorted-nil hash_cmp-IsTotalOrder hash_cmp-IsAntisymmetric in
    record {
      sorted = subst (λ (es : List (DataHash × Rc MDBXorbInfo Global)). T (is_sorted hash_cmp (shown_xorbs es))) (sym none) tt;
      xorbs = subst (λ (es : List (DataHash × Rc MDBXorbInfo Global)). AreXorbs (shown_xorbs es)) (sym none) (record { keyed = All-nil _; well_formed = All-nil _ });
      lookup = lookup-none _ _ (λ q. ap (λ m. get m q) xorbs ∙ get-empty hash_cmp q) (λ q. ap (λ es. option_map shown_location (lookup (hash_eq q) es)) c.new-2.ensures.empty);
    }

pub returns : goal.returns
returns c =
    let xorbs = ap (λ (es : List (DataHash × Rc MDBXorbInfo Global)). from_sorted {R = hash_cmp} (shown_xorbs es)) c.new.ensures.empty ∙ from_sorted-nil hash_cmp-IsTotalOrder hash_cmp-IsAntisymmetric in
    let locations = ap (λ es. from_entries {R = hash_cmp} (map (λ e. (e.0, shown_location e.1)) es)) c.new-2.ensures.empty in
    λ i. record { xorbs = xorbs i; locations = locations i }
