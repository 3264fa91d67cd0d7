use Rattle.placed_shards.proofs.FileParts.{join_of_parts, parts_agree}
use Rattle.placed_shards.proofs.laws.range_parts.joins_pass_to_parts.Goals as goal

pub returns-clause-join : goal.returns-clause-join
returns-clause-join c = join_of_parts

pub returns-clause-agree : goal.returns-clause-agree
returns-clause-agree c = parts_agree
