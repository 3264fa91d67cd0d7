use Rattle.std.proofs.Common.{arith, length, ap, ◌+◌, ◌-◌}
use Rattle.std.proofs.lemmas.Slice.{drop-put_mid}
use Rattle.xet_base.proofs.fields.put.Goals as goal

pub returns-clause-rest : goal.returns-clause-rest
returns-clause-rest c =
    drop-put_mid c.args.at (c.args.at + length c.args.bytes.now - c.args.at) c.args.row.now c.copy_from_slice.new.self (c.args.at + length c.args.bytes.now)
    (omega arith) (omega (arith, c.requires)) (omega (arith, c.copy_from_slice.ensures.len, ap length c.copy_from_slice.ensures.after))
