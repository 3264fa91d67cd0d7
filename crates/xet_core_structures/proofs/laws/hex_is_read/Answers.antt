use Rattle.std.proofs.Common.{sym, ◌∙◌}
use Rattle.xet_base.proofs.Hex.{hash_hex-IsHexText, lowered-hash_hex, hash_hex-injective}
use Rattle.xet_core_structures.proofs.laws.hex_is_read.Goals as goal

pub returns-clause-named : goal.returns-clause-named
returns-clause-named c = λ hash. (hash_hex-IsHexText hash, lowered-hash_hex hash)

pub returns-clause-alone : goal.returns-clause-alone
returns-clause-alone c = λ text a b a_fits b_fits a_spelled b_spelled. hash_hex-injective a b a_fits b_fits (sym a_spelled ∙ b_spelled)
