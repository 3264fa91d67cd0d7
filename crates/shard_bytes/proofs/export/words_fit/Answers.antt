use Rattle.std.proofs.Common.{arith}
use Rattle.shard_bytes.proofs.export.words_fit.Goals as goal

pub returns-clause-key : goal.returns-clause-key
returns-clause-key c = record { word0 = omega arith; word1 = omega arith; word2 = omega arith; word3 = omega arith }
