use Rattle.std.proofs.Common.{ap}
use Rattle.script_lines.specs.Commands.{texts}
use Rattle.script_lines.proofs.files_and_xorbs.parse_xorb.Goals as goal

pub returns : goal.returns
returns c = (c.in-Some.hash.now.now, texts c.in-Some.rest.now, ap texts c.in-Some.ensures.cases.0, c.in_ok-xorb_hash.ensures.hash)
