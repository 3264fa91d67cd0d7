-- The names of shard files: the digits of a name, and that a name determines its hash.
use Rattle.std.proofs.Common.{◌≡◌, ℕ, List, ◌++◌, length, take, drop, refl, sym, ap, ◌∙◌, subst, arith, take-append-drop}
use Rattle.std.specs.Prelude.{codes}
use Rattle.std.proofs.lemmas.List.{length-append}
use Rattle.std.proofs.Math.Seq.{take-append_seam, drop-append_seam}
use Rattle.std.specs.Str.{str_to_ascii_lowercase}
use Rattle.std.specs.Str.Pattern.{StripsSuffix, FindsTextSuffix}
use Rattle.xet_base.specs.declared.merklehash.DataHash.{DataHash}
use Rattle.xet_base.specs.Hash.{IsHash}
use Rattle.xet_base.specs.Hex.{hash_hex, IsHexText}
use Rattle.xet_base.proofs.Hex.{hash_hex-IsHexText, lowered-hash_hex, hash_hex-injective}
use Rattle.xet_shards.specs.Content.Names.{shard_name, IsShardName, NamesShard}

pub name_split : (name : List ℕ) → IsShardName name → name ≡ take 64 name ++ codes ".mdb"
name_split name is = sym (take-append-drop 64 name) ∙ ap (λ end. take 64 name ++ end) is.ending

digits_taken : (name digits : List ℕ) → name ≡ digits ++ codes ".mdb" → length digits ≡ 64 → take 64 name ≡ digits
digits_taken name digits split len = ap (take 64) split ∙ ap (λ n. take n (digits ++ codes ".mdb")) (sym len) ∙ take-append_seam digits (codes ".mdb")

digits_dropped : (name digits : List ℕ) → name ≡ digits ++ codes ".mdb" → length digits ≡ 64 → drop 64 name ≡ codes ".mdb"
digits_dropped name digits split len = ap (drop 64) split ∙ ap (λ n. drop n (digits ++ codes ".mdb")) (sym len) ∙ drop-append_seam digits (codes ".mdb")

-- the part of a name before its ending is its digits
pub digits_before : (name digits : List ℕ) → name ≡ digits ++ codes ".mdb" → IsShardName name → take 64 name ≡ digits
digits_before name digits split is =
    let long = length-append digits (codes ".mdb") in
    let named = length-append (take 64 name) (codes ".mdb") in
    digits_taken name digits split (omega (arith, long, named, ap length split, ap length (name_split name is), is.digits.length))

-- 64 digits and the ending are a name
digits_and_ending : (name digits : List ℕ) → name ≡ digits ++ codes ".mdb" → IsHexText digits → IsShardName name
digits_and_ending name digits split is = record {
  digits = subst IsHexText (sym (digits_taken name digits split is.length)) is;
  ending = digits_dropped name digits split is.length;
}

-- the rest of a text that ends in `.mdb`
pub ending_stripped : (name digits : List ℕ) → StripsSuffix (FindsTextSuffix (codes ".mdb")) name digits → name ≡ digits ++ codes ".mdb"
ending_stripped name digits stripped = stripped.1.1 ∙ ap (λ front. front ++ codes ".mdb") (sym stripped.2)

-- the name made from a hash is the name of a shard file
pub shard_name-named : (hash : DataHash) → NamesShard (shard_name hash) hash
shard_name-named hash =
    let is = hash_hex-IsHexText hash in
    (digits_and_ending (shard_name hash) (hash_hex hash) refl is, ap str_to_ascii_lowercase (digits_taken (shard_name hash) (hash_hex hash) refl is.length) ∙ lowered-hash_hex hash)

-- and determines this hash
pub named-unique : (name : List ℕ) (a b : DataHash) → IsHash a → IsHash b → NamesShard name a → NamesShard name b → a ≡ b
named-unique name a b a_fits b_fits a_named b_named = hash_hex-injective a b a_fits b_fits (sym a_named.1 ∙ b_named.1)
