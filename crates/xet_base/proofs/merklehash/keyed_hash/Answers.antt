use Rattle.std.proofs.Common.{sym, ap, ◌∙◌, arith}
use Rattle.xet_base.specs.Hash.{IsHash}
use Rattle.xet_base.specs.KeyedHash.{hash_of}
use Rattle.xet_base.specs.Blake3.{blake3_bytes}
use Rattle.xet_base.proofs.KeyedHash.{hash_of-bytes}
use Rattle.xet_base.proofs.merklehash.keyed_hash.Goals as goal

pub returns : goal.returns
returns c =
    let fits : IsHash c.from_32.result = record { word0 = omega arith; word1 = omega arith; word2 = omega arith; word3 = omega arith } in
    sym (hash_of-bytes c.from_32.result fits) ∙ ap hash_of (c.from_32.ensures ∙ c.blake3_bytes.ensures ∙ ap (λ k. blake3_bytes k c.args.bytes.now) c.as_bytes.ensures)
