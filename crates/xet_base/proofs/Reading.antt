-- The turns of the loops that fill a slice.
use Rattle.std.proofs.Common.{◌≡◌, ℕ, ◌+◌, ◌*◌, ◌<◌, ◌≤◌, List, ◌++◌, length, take, flat_map, Option, None, Some, sym, ap, ◌∙◌, subst, arith, mul-le-mul_left, take-append-drop}
use Rattle.std.proofs.Math.Nat.{mul-suc}
use Rattle.std.proofs.lemmas.List.{drop-drop, length-append, length-drop, length-take}
use Rattle.std.proofs.KnownBytes.{Consumes-trans, Consumes-kept}
use Rattle.std.proofs.lemmas.Slice.{take-put_mid_below}
use Rattle.std.specs.Io.KnownBytes.{Consumes, Keeps}
use borrow.Rule.Slice.PartMut.{put_mid}
use Rattle.xet_base.specs.Bytes.{HasBytes, LacksBytes, AreBytes, ReadsThrough}
use Rattle.xet_base.specs.InputLaws.{LacksBytes-consumed}
use Rattle.xet_base.specs.Source.{Source, after_read, bytes_left, next_bytes, ReadsBytes}
use Rattle.xet_base.proofs.Bytes.{length-numbers, append-bytes}
use Rattle.xet_base.proofs.Lists.{take-put_mid_part}

-- one more read of n bytes into a slice that is filled up to `filled`
pub taken_more : (a b c : Option (List ℕ)) (filled k n : ℕ) (slice part : List ℕ) → filled ≤ length slice → n ≤ length part
    → Consumes a b (take filled slice) → Consumes b c (take n part) → Consumes a c (take (filled + n) (put_mid filled k slice part))
taken_more a b c filled k n slice part within fits taken read =
    subst (Consumes a c) (sym (take-put_mid_part filled k n slice part within fits)) (Consumes-trans a b c (take filled slice) (take n part) taken read)

-- known bytes from which some were consumed had at least these
HasBytes-consumed : (a b : Option (List ℕ)) (bytes : List ℕ) (n : ℕ) → length bytes ≡ n → Consumes a b bytes → HasBytes a n
HasBytes-consumed None b bytes n len taken = tt
HasBytes-consumed (Some xs) None bytes n len taken = absurd taken
HasBytes-consumed (Some xs) (Some ys) bytes n len taken = omega (arith, ap length taken ∙ length-append bytes ys)

-- a read that failed left the front of the slice and the known bytes
pub taken_still : (a b c : Option (List ℕ)) (filled k : ℕ) (slice part : List ℕ) → filled ≤ length slice
    → Consumes a b (take filled slice) → Keeps b c → Consumes a c (take filled (put_mid filled k slice part))
taken_still a b c filled k slice part within taken kept =
    subst (Consumes a c) (sym (take-put_mid_below filled k slice part filled (omega arith) within)) (Consumes-kept a b c (take filled slice) taken kept)

-- numbers of `size` bytes each, read one after another: the first i of them were read
module _ (number_bytes : ℕ → List ℕ) (size : ℕ) (len : (n : ℕ) → length (number_bytes n) ≡ size) where
  pub numbers_end : (a b : Option (List ℕ)) (ns : List ℕ) (i all : ℕ) → i < all → Consumes a b (flat_map number_bytes (take i ns))
      → LacksBytes b size → LacksBytes a (size * all)
  numbers_end a b ns i all more taken lacks =
      let some : length (take i ns) < all = omega (arith, more, length-take i ns) in
      LacksBytes-consumed a b (flat_map number_bytes (take i ns)) size _
      (omega (arith, length-numbers number_bytes size len (take i ns), mul-suc size (length (take i ns)), mul-le-mul_left size some)) taken lacks

  pub numbers_enough : (a b : Option (List ℕ)) (ns : List ℕ) (i all : ℕ) → i ≡ all → all ≤ length ns → Consumes a b (flat_map number_bytes (take i ns))
      → HasBytes a (size * all)
  numbers_enough a b ns i all end within taken =
      let count : length (take i ns) ≡ all = omega (arith, end, within, length-take i ns) in
      HasBytes-consumed a b (flat_map number_bytes (take i ns)) _ (length-numbers number_bytes size len (take i ns) ∙ ap (λ n. size * n) count) taken

-- what was read from a source was consumed from the bytes that it had left
pub ReadsBytes-consumes : (a b : Source) (xs : List ℕ) → ReadsBytes a b xs → Consumes (Some (bytes_left a)) (Some (bytes_left b)) xs
ReadsBytes-consumes a b xs taken =
    sym (take-append-drop (length xs) (bytes_left a))
    ∙ (λ i. sym taken.there i ++ drop-drop (length xs) a.at a.bytes i)
    ∙ ap (λ (s : Source). xs ++ bytes_left s) (sym taken.after)

-- bytes that end within the next n are fewer than n from the source's offset on
pub lacks_left : (s : Source) (n : ℕ) → 0 < n → length s.bytes < s.at + n → length (bytes_left s) < n
lacks_left s n some ends = omega (arith, length-drop s.at s.bytes)

-- a source that moved past bytes passed them
pub passed_next : (old new : Source) (n count : ℕ) → n ≡ count → (0 < n → old.at + n ≤ length old.bytes) → AreBytes (next_bytes old n)
    → new ≡ after_read old n → ReadsThrough (ReadsBytes old new) count
passed_next old new n count all there are after =
    let len : length (next_bytes old n) ≡ n = grind (arith, length-take n (bytes_left old), length-drop old.at old.bytes, there) in
    record {
      passed = next_bytes old n;
      bytes = are;
      len = len ∙ all;
      taken = record {
        within = λ some. grind (arith, len, some, there);
        there = ap (next_bytes old) (sym len);
        after = after ∙ ap (after_read old) (sym len);
      };
    }

-- bytes that were passed, and a part that was read after them
pub passed_more : (First Next Both : List ℕ → Type 0) (m n : ℕ) (part : List ℕ) → ((xs ys : List ℕ) → First xs → Next ys → Both (xs ++ ys))
    → ReadsThrough First m → AreBytes part → length part ≡ n → Next part → ReadsThrough Both (m + n)
passed_more First Next Both m n part joins before are len taken = record {
  passed = before.passed ++ part;
  bytes = append-bytes before.passed part before.bytes are;
  len = length-append before.passed part ∙ (λ i. before.len i + len i);
  taken = joins before.passed part before.taken taken;
}
