-- The bytes of a hash give it back, and those of a keyed hash that.
use Rattle.std.proofs.Common.{◌≡◌, ℕ, List, [], ◌++◌, drop, refl, sym, ap, ◌∙◌, append-nil}
use Rattle.std.proofs.lemmas.List.{append_assoc, length-append}
use Rattle.xet_base.specs.declared.merklehash.DataHash.{DataHash}
use Rattle.xet_base.specs.Bytes.{u64_bytes, u64_from_bytes}
use Rattle.xet_base.specs.Hash.{hash_bytes, IsHash}
use Rattle.xet_base.specs.KeyedHash.{hash_of, keyed_bytes, hmac}
use Rattle.xet_base.proofs.Bytes.{length-u64_bytes, u64_from_bytes-bytes}
use Rattle.xet_base.proofs.Lists.{front_is, rest_is}

pub hash_of-bytes : (h : DataHash) → IsHash h → hash_of (hash_bytes h) ≡ h
unfolding hash_of hash_bytes
hash_of-bytes h fits =
    let a = u64_bytes h.word0 in
    let b = u64_bytes h.word1 in
    let c = u64_bytes h.word2 in
    let d = u64_bytes h.word3 in
    let all = hash_bytes h in
    let from_b : drop 8 all ≡ (b ++ c) ++ d =
    rest_is 8 all a ((b ++ c) ++ d) (length-u64_bytes h.word0) (ap (λ bs. bs ++ d) (append_assoc a b c) ∙ append_assoc a (b ++ c) d) in
    let from_c : drop 16 all ≡ c ++ d = rest_is 16 all (a ++ b) (c ++ d) (simp (length-append, length-u64_bytes)) (append_assoc (a ++ b) c d) in
    let from_d : drop 24 all ≡ d = rest_is 24 all ((a ++ b) ++ c) d (simp (length-append, length-u64_bytes)) refl in
    λ i. record {
      word0 = (ap u64_from_bytes (front_is 8 all a ((b ++ c) ++ d) (length-u64_bytes h.word0) (ap (λ bs. bs ++ d) (append_assoc a b c) ∙ append_assoc a (b ++ c) d))
          ∙ u64_from_bytes-bytes h.word0 fits.word0) i;
      word1 = (ap u64_from_bytes (front_is 8 (drop 8 all) b (c ++ d) (length-u64_bytes h.word1) (from_b ∙ append_assoc b c d)) ∙ u64_from_bytes-bytes h.word1 fits.word1) i;
      word2 = (ap u64_from_bytes (front_is 8 (drop 16 all) c d (length-u64_bytes h.word2) from_c) ∙ u64_from_bytes-bytes h.word2 fits.word2) i;
      word3 = (ap u64_from_bytes (front_is 8 (drop 24 all) d [] (length-u64_bytes h.word3) (from_d ∙ sym (append-nil d))) ∙ u64_from_bytes-bytes h.word3 fits.word3) i;
    }

pub hash_is : (key hash r : DataHash) (k m : List ℕ) → IsHash r → hash_bytes r ≡ keyed_bytes k m → k ≡ hash_bytes key → m ≡ hash_bytes hash → r ≡ hmac key hash
hash_is key hash r k m fits is key_bytes bytes = sym (hash_of-bytes r fits) ∙ ap hash_of (is ∙ (λ i. keyed_bytes (key_bytes i) (bytes i)))
