use Rattle.std.proofs.Common.{sym}
use Rattle.mdb_report.proofs.Bar.{product_over_60}
use Rattle.mdb_report.proofs.parts_bar.byte_at.Goals as goal

pub returns : goal.returns
returns c = sym (product_over_60 c.args.column c.args.bytes)
