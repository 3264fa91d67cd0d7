use Rattle.std.proofs.Common.{[], ◌∷◌, slice_index_or, ap, ◌∙◌, arith}
use Rattle.xet_base.specs.Hash.{IsHash}
use Rattle.xet_base.specs.KeyedHash.{hmac, no_key}
use Rattle.xet_base.proofs.KeyedHash.{hash_is}
use Rattle.xet_base.proofs.Lanes.{map_four}
use Rattle.xet_base.proofs.merklehash.DataHash.hmac_four.Goals as goal

pub returns : goal.returns
returns c =
    let a : IsHash c.from_32.result = record { word0 = omega arith; word1 = omega arith; word2 = omega arith; word3 = omega arith } in
    let b : IsHash c.from_32-2.result = record { word0 = omega arith; word1 = omega arith; word2 = omega arith; word3 = omega arith } in
    let d : IsHash c.from_32-3.result = record { word0 = omega arith; word1 = omega arith; word2 = omega arith; word3 = omega arith } in
    let e : IsHash c.from_32-4.result = record { word0 = omega arith; word1 = omega arith; word2 = omega arith; word3 = omega arith } in
    let hashes = c.keyed_bytes_four.ensures in
    let first = hash_is _ _ _ _ _ a (c.from_32.ensures ∙ ap (λ xs. slice_index_or xs 0 []) hashes) c.as_bytes-5.ensures c.as_bytes.ensures in
    let second = hash_is _ _ _ _ _ b (c.from_32-2.ensures ∙ ap (λ xs. slice_index_or xs 1 []) hashes) c.as_bytes-5.ensures c.as_bytes-2.ensures in
    let third = hash_is _ _ _ _ _ d (c.from_32-3.ensures ∙ ap (λ xs. slice_index_or xs 2 []) hashes) c.as_bytes-5.ensures c.as_bytes-3.ensures in
    let fourth = hash_is _ _ _ _ _ e (c.from_32-4.ensures ∙ ap (λ xs. slice_index_or xs 3 []) hashes) c.as_bytes-5.ensures c.as_bytes-4.ensures in
    (λ i. first i ∷ second i ∷ third i ∷ fourth i ∷ []) ∙ map_four (hmac c.args.key) no_key c.args.hashes.now (omega arith)
