use Rattle.std.proofs.Common.{rules}
use Rattle.std.proofs.lemmas.Nat.{le_bytes_8}
use Rattle.xet_base.specs.Bytes.{u64_bytes}
use Rattle.xet_base.proofs.fields.u64_of.Goals as goal

pub returns : goal.returns
unfolding u64_bytes
returns c = le_bytes_8 c.args.bytes _ (search rules) (search rules) c.from_le_bytes.ensures
