use Rattle.std.proofs.lemmas.Str.{IsUtf8-from_ascii}
use Rattle.xet_c.proofs.text.text_of.Goals as goal

pub returns-in-Err : goal.returns-in-Err
returns-in-Err c = λ ascii. c.in-Err.ensures.cases.0 (IsUtf8-from_ascii c.args.bytes.now ascii)
