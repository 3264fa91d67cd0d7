use Rattle.xet_base.specs.Hex.{hash_hex}
use Rattle.xet_base.proofs.Hex.{lowered-quarters}
use Rattle.xet_base.proofs.merklehash.hash_of_digits.Goals as goal

pub returns-clause-found : goal.returns-clause-found
unfolding hash_hex
returns-clause-found c =
    lowered-quarters c.args.digits.now c.word_of_digits.result c.word_of_digits-2.result c.word_of_digits-3.result c.word_of_digits-4.result c.requires.length
    c.word_of_digits.ensures c.word_of_digits-2.ensures c.word_of_digits-3.ensures c.word_of_digits-4.ensures
