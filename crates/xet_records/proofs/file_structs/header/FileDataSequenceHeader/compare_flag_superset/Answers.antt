use Rattle.std.proofs.Common.{rules}
use Rattle.xet_records.proofs.Flags.{included_if_common, common_if_included, included_if_common_l, common_if_included_l}
use Rattle.xet_records.proofs.file_structs.header.FileDataSequenceHeader.compare_flag_superset.Goals as goal

pub returns-in-true-false : goal.returns-in-true-false
returns-in-true-false c = (included_if_common _ _ c.in-true-false.is-0, λ included. c.in-true-false.is-1 (common_if_included_l _ _ (search rules) included))

pub returns-in-false-true : goal.returns-in-false-true
returns-in-false-true c = (λ included. c.in-false-true.is-0 (common_if_included _ _ (search rules) included), included_if_common_l _ _ c.in-false-true.is-1)

pub returns-in-false-false : goal.returns-in-false-false
returns-in-false-false c = (
  λ included. c.in-false-false.is-0 (common_if_included _ _ (search rules) included),
  λ included. c.in-false-false.is-1 (common_if_included_l _ _ (search rules) included),
)
