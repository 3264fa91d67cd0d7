use Rattle.std.proofs.Common.{arith}
use Rattle.xet_c.proofs.Merges.{merge_shown}
use Rattle.xet_c.proofs.Outcomes.{outcome_of_fill}
use Rattle.xet_c.proofs.merge.xet_merge.Goals as goal

pub returns-then-options-clause-agreed : goal.returns-then-options-clause-agreed
returns-then-options-clause-agreed c = λ strict. (c.selection_of-asked.result, c.selection_of-asked.ensures, merge_shown _ _ _ _ _ _ _ _ _ _ _ c.fill_if_agreeing-filled.result (omega arith) c.fill_if_agreeing-filled.ensures.merged c.show.ensures)

pub returns-clause-merged : goal.returns-clause-merged
returns-clause-merged c = λ plain. (c.selection_of-asked.result, c.selection_of-asked.ensures, outcome_of_fill _ _ _ _ _ _ _ _ (omega arith) c.fill-filled.ensures.merged c.answer.ensures)

pub returns-clause-one_byte_string : goal.returns-clause-one_byte_string
returns-clause-one_byte_string c = λ plain. (
  c.selection_of-asked.result,
  c.selection_of-asked.ensures,
  λ key parts join list. outcome_of_fill _ _ _ _ _ _ _ _ (omega arith) (c.fill-filled.ensures.one_byte_string key parts join list) c.answer.ensures,
)
