use Rattle.placed_shards.proofs.MergeRanges.{files_of_ranges, merge_within, one_merge, xorbs_of_ranges}
use Rattle.placed_shards.proofs.laws.merges.merges_of_ranges_make_the_whole.Goals as goal

pub returns-clause-one : goal.returns-clause-one
returns-clause-one c = one_merge

pub returns-clause-within : goal.returns-clause-within
returns-clause-within c = merge_within

pub returns-clause-files : goal.returns-clause-files
returns-clause-files c = files_of_ranges

pub returns-clause-xorbs : goal.returns-clause-xorbs
returns-clause-xorbs c = xorbs_of_ranges
