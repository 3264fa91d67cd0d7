use Rattle.std.proofs.Common.{rules}
use Rattle.xet_base.proofs.Search.Even.{keeps_even}
use Rattle.xet_base.proofs.interpolation_search.window.Window.after.Goals as goal

pub returns-clause-even : goal.returns-clause-even
returns-clause-even c = keeps_even c.args.self c.args.key c.args.found _ c.requires.around c.requires.above_low c.requires.below_high (search rules)
