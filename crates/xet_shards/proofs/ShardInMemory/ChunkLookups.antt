-- The chunk lookup after the chunks of one more xorb are entered.
use Rattle.std.proofs.Common.{◌≡◌, ◌⊎◌, inl, inr, ℕ, zero, suc, ◌+◌, ◌<◌, Bool, true, false, List, [], ◌∷◌, ◌++◌, length, Option, None, Some, refl, sym, ap, ◌∙◌, subst, arith, cond, true≢false}
use Rattle.std.specs.Prelude.{All, IsSome, option_map, slice_get, Ok, Err, OnErr}
use Rattle.std.specs.declared.result.Result.{Result}
use Rattle.std.proofs.lemmas.List.Elements.{All-nil, All-cons, All-drop}
use Rattle.std.proofs.lemmas.Option.{none-some, same_Some}
use Rattle.std.specs.Ordering.{eq_by_cmp}
use Rattle.std.specs.FinMap.{get, get-insert}
use Rattle.xet_base.specs.declared.merklehash.DataHash.{DataHash}
use Rattle.xet_base.specs.Hash.{hash_cmp, hash_eq}
use Rattle.xet_base.proofs.HashOrder.{hash_cmp-IsTotalOrder, same_hash, same_key}
use Rattle.xet_records.specs.declared.xorb_structs.XorbChunkSequenceEntry.{XorbChunkSequenceEntry}
use Rattle.xet_records.specs.declared.xorb_structs.MDBXorbInfo.{MDBXorbInfo}
use Rattle.xet_shards.specs.Content.Shard.{XorbMap, xorb_hash_of}
use Rattle.xet_shards.specs.ShardInMemory.ChunkLookup.{ChunkLocation, IsLocation, IsChunkLookup, chunk_hash_at}
use Rattle.xet_shards.specs.Steps.ChunkLookupSteps.{put_xorb}
use Rattle.xet_shards.specs.Steps.XorbStoreSteps.{IsEntered}

-- at the key that was inserted
get-added : (xorbs : XorbMap) (r : MDBXorbInfo) → get (put_xorb xorbs r) (xorb_hash_of r) ≡ Some r
get-added xorbs r =
    get-insert hash_cmp-IsTotalOrder xorbs (xorb_hash_of r) r (xorb_hash_of r)
    ∙ ap (λ b. cond b (Some r) (get xorbs (xorb_hash_of r))) ((same_key (xorb_hash_of r) (xorb_hash_of r)).1 refl)

last_or_before : (i n : ℕ) → i < n + 1 → (i < n) ⊎ (i ≡ n)
last_or_before zero zero below = inr refl
last_or_before zero (suc n) below = inl (omega arith)
last_or_before (suc i) zero below = absurd (omega (arith, below))
last_or_before (suc i) (suc n) below = elim (last_or_before i n (omega (arith, below))) [ inl less ↦ inl (omega (arith, less)) | inr same ↦ inr (ap suc same) ]

-- one more chunk
pub entered-more : (f g h : DataHash → Option ChunkLocation) (r : MDBXorbInfo) (n : ℕ) (k : DataHash) → chunk_hash_at (r, n) ≡ Some k
    → ((q : DataHash) → h q ≡ cond (hash_eq k q) (Some (r, n)) (g q)) → IsEntered f g r n → IsEntered f h r (n + 1)
entered-more f g h r n k here updates before = record {
  present = λ q p at. present_at q p (hash_eq k q) refl (sym (updates q) ∙ at);
  kept = λ q some. subst IsSome (sym (updates q)) (kept_at q (hash_eq k q) (before.kept q some));
  complete = λ q i below at. subst IsSome (sym (updates q)) (complete_at q i (hash_eq k q) refl below at);
} where
  present_at : (q : DataHash) (p : ChunkLocation) (b : Bool) → hash_eq k q ≡ b → cond b (Some (r, n)) (g q) ≡ Some p → (f q ≡ Some p) ⊎ ((p.0 ≡ r) × (p.1 < n + 1) × (chunk_hash_at p ≡ Some q))
  present_at q p true is at =
      let same : (r, n) ≡ p = same_Some (r, n) p at in
      inr (sym (ap (λ (t : ChunkLocation). t.0) same), omega (arith, ap (λ (t : ChunkLocation). t.1) same), ap chunk_hash_at (sym same) ∙ here ∙ ap Some ((same_hash k q).0 is))
  present_at q p false is at = elim (before.present q p at) [ inl old ↦ inl old | inr (own, below, chunk) ↦ inr (own, omega (arith, below), chunk) ]

  kept_at : (q : DataHash) (b : Bool) → IsSome (g q) → IsSome (cond b (Some (r, n)) (g q))
  kept_at q true some = refl
  kept_at q false some = some

  complete_at : (q : DataHash) (i : ℕ) (b : Bool) → hash_eq k q ≡ b → i < n + 1 → chunk_hash_at (r, i) ≡ Some q → IsSome (cond b (Some (r, n)) (g q))
  complete_at q i true is below at = refl
  complete_at q i false is below at = elim (last_or_before i n below) [
    | inl less ↦ before.complete q i less at
    | inr last ↦ absurd (true≢false (sym ((same_hash k q).1 (same_Some k q (sym here ∙ ap (λ j. chunk_hash_at (r, j)) (sym last) ∙ at))) ∙ is))
  ]

pub chunk_within : (cs : List XorbChunkSequenceEntry) (i : ℕ) (q : DataHash) → option_map (λ (c : XorbChunkSequenceEntry). c.chunk_hash) (slice_get cs i) ≡ Some q → i < length cs
chunk_within [] i q at = absurd (none-some q at)
chunk_within (c ∷ cs) zero q at = omega arith
chunk_within (c ∷ cs) (suc i) q at = omega (arith, chunk_within cs i q at)

-- after all chunks of a new xorb are entered, the lookup is that of the xorbs with the new one
pub lookup-append : (xorbs : XorbMap) (f g : DataHash → Option ChunkLocation) (r : MDBXorbInfo) → get xorbs (xorb_hash_of r) ≡ None → IsChunkLookup xorbs f → IsEntered f g r (length r.chunks)
    → IsChunkLookup (put_xorb xorbs r) g
lookup-append xorbs f g r absent lookup entered = record {
  present = λ q p at. elim (entered.present q p at) [
    | inl old ↦ record { xorb = still p.0 (lookup.present q p old).xorb (eq_by_cmp hash_cmp (xorb_hash_of p.0) (xorb_hash_of r)) refl; chunk = (lookup.present q p old).chunk }
    | inr (own, below, chunk) ↦ record { xorb = subst (λ t. get (put_xorb xorbs r) (xorb_hash_of t) ≡ Some t) (sym own) (get-added xorbs r); chunk = chunk }
  ];
  complete = λ q p location. complete_at q p location (eq_by_cmp hash_cmp (xorb_hash_of p.0) (xorb_hash_of r)) refl;
} where
  other : (s : MDBXorbInfo) → eq_by_cmp hash_cmp (xorb_hash_of s) (xorb_hash_of r) ≡ false → get (put_xorb xorbs r) (xorb_hash_of s) ≡ get xorbs (xorb_hash_of s)
  other s apart =
      get-insert hash_cmp-IsTotalOrder xorbs (xorb_hash_of r) r (xorb_hash_of s) ∙ ap (λ b. cond b (Some r) (get xorbs (xorb_hash_of s))) apart

  still : (s : MDBXorbInfo) → get xorbs (xorb_hash_of s) ≡ Some s → (b : Bool) → eq_by_cmp hash_cmp (xorb_hash_of s) (xorb_hash_of r) ≡ b → get (put_xorb xorbs r) (xorb_hash_of s) ≡ Some s
  still s at true is = absurd (none-some s (sym absent ∙ ap (get xorbs) (sym ((same_key (xorb_hash_of s) (xorb_hash_of r)).0 is)) ∙ at))
  still s at false is = other s is ∙ at

  complete_at : (q : DataHash) (p : ChunkLocation) → IsLocation (put_xorb xorbs r) q p → (b : Bool) → eq_by_cmp hash_cmp (xorb_hash_of p.0) (xorb_hash_of r) ≡ b → IsSome (g q)
  complete_at q p location true is =
      let own : r ≡ p.0 = same_Some r p.0 (sym (get-added xorbs r) ∙ ap (get (put_xorb xorbs r)) (sym ((same_key (xorb_hash_of p.0) (xorb_hash_of r)).0 is)) ∙ location.xorb) in
      let here : chunk_hash_at (r, p.1) ≡ Some q = ap (λ s. chunk_hash_at (s, p.1)) own ∙ location.chunk in
      entered.complete q p.1 (chunk_within r.chunks p.1 q here) here
  complete_at q p location false is = entered.kept q (lookup.complete q p (record { xorb = sym (other p.0 is) ∙ location.xorb; chunk = location.chunk }))

-- the lookup of no xorbs
pub lookup-none : (xorbs : XorbMap) (f : DataHash → Option ChunkLocation) → ((q : DataHash) → get xorbs q ≡ None) → ((q : DataHash) → f q ≡ None) → IsChunkLookup xorbs f
lookup-none xorbs f no_xorbs no_locations = record {
  present = λ q p at. absurd (none-some p (sym (no_locations q) ∙ at));
  complete = λ q p location. absurd (none-some p.0 (sym (no_xorbs (xorb_hash_of p.0)) ∙ location.xorb));
}

-- what holds of all elements of a list holds of those at its front
pub All-front : {X : Type 0} (P : X → Type 0) (xs ys : List X) → All P (xs ++ ys) → All P xs
All-front P [] ys all = All-nil P
All-front P (x ∷ xs) ys all = All-cons P x xs (all 0 x (omega arith)) (All-front P xs ys (All-drop P 1 (x ∷ xs ++ ys) all))

-- the same lookup
pub lookup-same : (xorbs : XorbMap) (f g : DataHash → Option ChunkLocation) → ((q : DataHash) → g q ≡ f q) → IsChunkLookup xorbs f → IsChunkLookup xorbs g
lookup-same xorbs f g same lookup = record {
  present = λ q p at. lookup.present q p (sym (same q) ∙ at);
  complete = λ q p location. subst IsSome (sym (same q)) (lookup.complete q p location);
}

-- an entry that replaces an entry
pub cond-shown_entry : {A B : Type 0} (f : A → B) (b : Bool) (x : A) (y : B) (o : Option A) → f x ≡ y → option_map f (cond b (Some x) o) ≡ cond b (Some y) (option_map f o)
cond-shown_entry f true x y o same = ap Some same
cond-shown_entry f false x y o same = refl

-- the same lookup before
pub entered-from : (f g h : DataHash → Option ChunkLocation) (r : MDBXorbInfo) (n : ℕ) → ((q : DataHash) → f q ≡ g q) → IsEntered f h r n → IsEntered g h r n
entered-from f g h r n same entered = record {
  present = λ q p at. elim (entered.present q p at) [ inl old ↦ inl (sym (same q) ∙ old) | inr new ↦ inr new ];
  kept = λ q some. entered.kept q (subst IsSome (sym (same q)) some);
  complete = entered.complete;
}

pub on_err : {X E P : Type 0} (r : Result X E) → P → OnErr r P
on_err (Ok x) holds = tt
on_err (Err e) holds = holds
