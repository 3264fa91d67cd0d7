-- Starts, marks and eligible chunks, collected one after another.
use Rattle.std.proofs.Common.{◌≡◌, inl, inr, true≢false, ℕ, ◌+◌, ◌-◌, ◌<◌, ◌≤◌, Bool, true, false, List, [], ◌∷◌, ◌++◌, length, map, take, drop, get_or, Some, refl, sym, ap, ◌∙◌, append-nil, arith}
use Rattle.std.specs.Prelude.{◌⊎◌, ◌||◌, ◌==◌, ◌%◌, ◌↔◌, IsTrue, filter, slice_get, if◌then◌else◌}
use Rattle.std.specs.Cmp.{both_ways}
use Rattle.std.proofs.lemmas.Bool.{eqb-true, eq-eqb}
use Rattle.std.specs.List.{enumerate_from}
use Rattle.std.specs.Cmp.{IsTotalOrder, on_total, then_total, nat_cmp_total}
use Rattle.std.specs.BTreeSet.{insert_key}
use Rattle.std.proofs.Math.Seq.{take-add}
use Rattle.std.proofs.lemmas.List.{map-append, length-take, length-take-le, length-drop, take_more}
use Rattle.std.proofs.lemmas.List.Elements.{filter-append}
use Rattle.std.proofs.lemmas.Option.{get_or_from_slice_get, slice_get_within}
use Rattle.xet_base.specs.declared.merklehash.DataHash.{DataHash}
use Rattle.xet_base.specs.Hash.{hash_cmp}
use Rattle.xet_base.proofs.HashOrder.{hash_cmp-IsTotalOrder, hash_cmp-IsAntisymmetric}
use Rattle.xet_records.specs.declared.xorb_structs.XorbChunkSequenceEntry.{XorbChunkSequenceEntry}
use Rattle.xet_records.specs.declared.xorb_structs.MDBXorbInfo.{MDBXorbInfo}
use Rattle.xet_records.specs.XorbRow.{is_marked, IsEligibleChunk}
use Rattle.xet_shards.specs.declared.streaming_shard.file_start.FileStart.{FileStart}
use Rattle.xet_shards.specs.StreamingShard.MinimalShard.{start_cmp, chunk_of, marked_if, is_eligible, ascending_hashes}
use Rattle.xet_shards.proofs.Write.ChunkTableRows.{keys-push, enumerate_from-push}
use Rattle.xet_shards.proofs.Content.Maps.{entries-empty}

-- the first elements, and one more
pub one_more : {X : Type 0} (xs : List X) (i : ℕ) (x : X) → slice_get xs i ≡ Some x → take (i + 1) xs ≡ take i xs ++ x ∷ []
one_more xs i x there = take_more xs i x (slice_get_within xs i x there) ∙ ap (λ y. take i xs ++ y ∷ []) (get_or_from_slice_get xs i x x there)

pub one_more_item : {X : Type 0} (xs : List X) (i : ℕ) (x : X) → i < length xs → x ≡ get_or xs i x → take (i + 1) xs ≡ take i xs ++ x ∷ []
one_more_item xs i x below is = take_more xs i x below ∙ ap (λ y. take i xs ++ y ∷ []) (sym is)

-- the order of starts is total
pub start_total : IsTotalOrder start_cmp
start_total = then_total (on_total (λ (s : FileStart). s.xorb_hash) hash_cmp-IsTotalOrder) (on_total (λ (s : FileStart). s.chunk_index) nat_cmp_total)

-- one more chunk, with its index
enumerated-more : (cs : List XorbChunkSequenceEntry) (i : ℕ) (c : XorbChunkSequenceEntry) → slice_get cs i ≡ Some c
    → enumerate_from 0 (take (i + 1) cs) ≡ enumerate_from 0 (take i cs) ++ (i, c) ∷ []
enumerated-more cs i c there =
    let count : 0 + length (take i cs) ≡ i = omega (arith, length-take i cs, slice_get_within cs i c there) in
    ap (enumerate_from 0) (one_more cs i c there) ∙ enumerate_from-push 0 (take i cs) c ∙ ap (λ n. enumerate_from 0 (take i cs) ++ (n, c) ∷ []) count

-- two lists, with their indices
enumerated-append : {X : Type 0} (n : ℕ) (xs ys : List X) → enumerate_from n (xs ++ ys) ≡ enumerate_from n xs ++ enumerate_from (n + length xs) ys
enumerated-append n [] ys = ap (λ k. enumerate_from k ys) (omega arith)
enumerated-append n (x ∷ xs) ys = ap (λ es. (n, x) ∷ es) (enumerated-append (n + 1) xs ys ∙ ap (λ k. enumerate_from (n + 1) xs ++ enumerate_from k ys) (omega arith))

module _ (starts : FileStart → Bool) (x : MDBXorbInfo) where
  -- no chunk from an index up to another is a start
  abbrev pub StartsNowhere : ℕ → ℕ → Type 0
  StartsNowhere from to = (i : ℕ) → from ≤ i → i < to → starts (chunk_of x i) ≡ false

  -- the first chunk that is a start, of those from an index up to another
  pub record IsNextStart (from to next : ℕ) : Type 0 where
    pub within : next < to
    pub is_start : starts (chunk_of x next) ≡ true
    pub none_before : StartsNowhere from next

  abbrev pub marks_to : ℕ → List XorbChunkSequenceEntry
  marks_to i = map (λ (e : ℕ × XorbChunkSequenceEntry). marked_if (starts (chunk_of x e.0)) e.1) (enumerate_from 0 (take i x.chunks))

  pub one_marked : (i : ℕ) (c : XorbChunkSequenceEntry) → slice_get x.chunks i ≡ Some c → marks_to (i + 1) ≡ marks_to i ++ marked_if (starts (chunk_of x i)) c ∷ []
  one_marked i c there =
      let mark : ℕ × XorbChunkSequenceEntry → XorbChunkSequenceEntry = λ e. marked_if (starts (chunk_of x e.0)) e.1 in
      ap (map mark) (enumerated-more x.chunks i c there) ∙ map-append mark (enumerate_from 0 (take i x.chunks)) ((i, c) ∷ [])

  none_marked : (k : ℕ) (cs : List XorbChunkSequenceEntry) → StartsNowhere k (k + length cs)
      → map (λ (e : ℕ × XorbChunkSequenceEntry). marked_if (starts (chunk_of x e.0)) e.1) (enumerate_from k cs) ≡ cs
  none_marked k [] none = refl
  none_marked k (c ∷ cs) none = λ i. marked_if (none k (omega arith) (omega arith) i) c ∷ none_marked (k + 1) cs (λ j above below. none j (omega arith) (omega arith)) i

  -- chunks that are no starts stay as they are
  pub none_marked_to : (from to : ℕ) → from ≤ to → to ≤ length x.chunks → StartsNowhere from to → marks_to to ≡ marks_to from ++ take (to - from) (drop from x.chunks)
  none_marked_to from to after within none =
      let mark : ℕ × XorbChunkSequenceEntry → XorbChunkSequenceEntry = λ e. marked_if (starts (chunk_of x e.0)) e.1 in
      let first = take from x.chunks in
      let more = take (to - from) (drop from x.chunks) in
      let count : 0 + length first ≡ from = omega (arith, length-take from x.chunks) in
      let size : length more ≡ to - from = length-take-le (to - from) (drop from x.chunks) (omega (arith, length-drop from x.chunks)) in
      ap (λ n. map mark (enumerate_from 0 (take n x.chunks))) (omega arith) ∙ ap (λ cs. map mark (enumerate_from 0 cs)) (take-add from (to - from) x.chunks)
      ∙ ap (map mark) (enumerated-append 0 first more) ∙ map-append mark (enumerate_from 0 first) (enumerate_from (0 + length first) more)
      ∙ ap (λ k. marks_to from ++ map mark (enumerate_from k more)) count
      ∙ ap (λ cs. marks_to from ++ cs) (none_marked from more (λ i above below. none i above (omega (arith, size))))

  -- the hashes of the eligible chunks among the first ones
  abbrev pub eligible_to : ℕ → List DataHash
  eligible_to i = map (λ (e : ℕ × XorbChunkSequenceEntry). e.1.chunk_hash) (filter (is_eligible starts x) (enumerate_from 0 (take i x.chunks)))

  pub one_eligible : (i : ℕ) (c : XorbChunkSequenceEntry) → slice_get x.chunks i ≡ Some c
      → eligible_to (i + 1) ≡ eligible_to i ++ (if is_eligible starts x (i, c) then c.chunk_hash ∷ [] else [])
  one_eligible i c there =
      let hash : ℕ × XorbChunkSequenceEntry → DataHash = λ e. e.1.chunk_hash in
      let first = enumerate_from 0 (take i x.chunks) in
      ap (λ es. map hash (filter (is_eligible starts x) es)) (enumerated-more x.chunks i c there)
      ∙ ap (map hash) (filter-append (is_eligible starts x) first ((i, c) ∷ []))
      ∙ map-append hash (filter (is_eligible starts x) first) (filter (is_eligible starts x) ((i, c) ∷ []))
      ∙ ap (λ es. eligible_to i ++ es) (last (is_eligible starts x (i, c)))
    where
      last : (b : Bool) → map (λ (e : ℕ × XorbChunkSequenceEntry). e.1.chunk_hash) (if b then (i, c) ∷ [] else []) ≡ (if b then c.chunk_hash ∷ [] else [])
      last true = refl
      last false = refl

-- one more hash
ascending_hashes-push : (hashes : List DataHash) (h : DataHash) → insert_key hash_cmp (ascending_hashes hashes) h ≡ ascending_hashes (hashes ++ h ∷ [])
ascending_hashes-push = keys-push hash_cmp hash_cmp-IsTotalOrder hash_cmp-IsAntisymmetric

pub ascending_hashes-nil : ascending_hashes [] ≡ []
ascending_hashes-nil = ap (map (λ e. e.0)) (entries-empty (Unit {0}) hash_cmp)

-- the test of a chunk that its row can make
pub row_is_eligible : (b : Bool) (c : XorbChunkSequenceEntry) → (IsTrue b ↔ IsEligibleChunk c) → b ≡ (is_marked c.flags || (c.chunk_hash.word3 % 1024 == 0))
row_is_eligible b c is = both_ways b (is_marked c.flags || (c.chunk_hash.word3 % 1024 == 0)) (λ here. either_true (is_marked c.flags) (c.chunk_hash.word3 % 1024) (is.0 here))
    (λ here. is.1 (one_of (is_marked c.flags) (c.chunk_hash.word3 % 1024) here))
  where
    either_true : (m : Bool) (n : ℕ) → IsTrue m ⊎ (n ≡ 0) → (m || (n == 0)) ≡ true
    either_true true n _ = refl
    either_true false n (inl never) = absurd (true≢false (sym never))
    either_true false n (inr zero_is) = eq-eqb n 0 zero_is

    one_of : (m : Bool) (n : ℕ) → (m || (n == 0)) ≡ true → IsTrue m ⊎ (n ≡ 0)
    one_of true n _ = inl refl
    one_of false n zero_is = inr (eqb-true n 0 zero_is)

-- one more hash, if it is wanted
pub ascending_hashes-if : (b : Bool) (hashes : List DataHash) (h : DataHash) (before after : List DataHash) → before ≡ ascending_hashes hashes
    → after ≡ (if b then insert_key hash_cmp before h else before) → after ≡ ascending_hashes (hashes ++ (if b then h ∷ [] else []))
ascending_hashes-if true hashes h before after is more = more ∙ ap (λ hs. insert_key hash_cmp hs h) is ∙ ascending_hashes-push hashes h
ascending_hashes-if false hashes h before after is more = more ∙ is ∙ ap ascending_hashes (sym (append-nil hashes))
