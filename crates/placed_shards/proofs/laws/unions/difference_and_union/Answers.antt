use Rattle.placed_shards.proofs.Equations.Differences.{apart, file_of_first, xorb_of_first, with_left, with_second}
use Rattle.placed_shards.proofs.laws.unions.difference_and_union.Goals as goal

pub returns-clause-files_apart : goal.returns-clause-files_apart
returns-clause-files_apart c = λ c d left is q r at. apart _ _ _ r (is.files.combined.each q) at

pub returns-clause-xorbs_apart : goal.returns-clause-xorbs_apart
returns-clause-xorbs_apart c = λ c d left is q r at. apart _ _ _ r (is.xorbs.combined.each q) at

pub returns-clause-files : goal.returns-clause-files
returns-clause-files c = λ c d left made is union q. file_of_first _ _ _ _ (is.files.combined.each q) (union.files.combined.each q)

pub returns-clause-xorbs : goal.returns-clause-xorbs
returns-clause-xorbs c = λ c d left made is union q. xorb_of_first _ _ _ _ (is.xorbs.combined.each q) (union.xorbs.combined.each q)

pub returns-clause-union : goal.returns-clause-union
returns-clause-union c = λ c d left made is flags. (with_second c d left made is flags, with_left c d left made is flags)
