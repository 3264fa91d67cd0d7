use Rattle.std.proofs.Common.{◌∙◌, arith}
use Rattle.xet_base.specs.Hash.{IsHash}
use Rattle.xet_base.proofs.KeyedHash.{hash_is}
use Rattle.xet_base.proofs.merklehash.DataHash.hmac.Goals as goal

pub returns : goal.returns
returns c =
    let fits : IsHash c.from_32.result = record { word0 = omega arith; word1 = omega arith; word2 = omega arith; word3 = omega arith } in
    hash_is _ _ _ _ _ fits (c.from_32.ensures ∙ c.keyed_bytes.ensures) c.as_bytes.ensures c.as_bytes-2.ensures
