use Rattle.xet_c.proofs.Texts.{name_ascii}
use Rattle.xet_c.proofs.text.hash_of_name.Goals as goal

pub returns-in_default : goal.returns-in_default
returns-in_default c = λ is. c.in_default.ensures (name_ascii c.args.bytes.now is)
