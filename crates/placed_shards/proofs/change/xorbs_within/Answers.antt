use Rattle.std.proofs.Common.{rules}
use Rattle.std.proofs.lemmas.Fn.{filter_same}
use Rattle.xet_records.specs.XorbRecord.{xorb_records}
use Rattle.xet_shards.specs.Write.Tables.{hash_in}
use Rattle.placed_shards.specs.Ranges.{is_within}
use Rattle.placed_shards.proofs.change.xorbs_within.Goals as goal

pub returns : goal.returns
returns c = filter_same _ (λ r. is_within c.args.range (hash_in xorb_records r)) _ (λ x b f' k. search rules) _ _ c.retain.ensures.filtered
