use Rattle.std.proofs.Common.{◌≡◌, ◌≤◌, sym, subst}
use Rattle.xet_records.specs.FileRecord.{file_records}
use Rattle.xet_records.specs.XorbRecord.{xorb_records}
use Rattle.xet_records.specs.Limits.{MAX_ROWS}
use Rattle.xet_shards.specs.Write.Section.{total_rows}
use Rattle.placed_shards.proofs.records.of_records.Goals as goal

pub invariant_of-result : goal.invariant_of-result
invariant_of-result c = record {
  file_rows = subst (λ fs. total_rows file_records fs ≤ MAX_ROWS) (sym c.in_ok-files.ensures.placed) c.in_ok-files.ensures.holds.rows;
  xorb_rows = subst (λ xs. total_rows xorb_records xs ≤ MAX_ROWS) (sym c.in_ok-xorbs.ensures.placed) c.in_ok-xorbs.ensures.holds.rows;
}

pub returns-clause-shard : goal.returns-clause-shard
returns-clause-shard c = record {
  files = record { keyed = c.in_ok-files.ensures.holds.keyed; well_formed = c.in_ok-files.ensures.holds.formed };
  file_rows = c.in_ok-files.ensures.holds.rows;
  xorbs = record { keyed = c.in_ok-xorbs.ensures.holds.keyed; well_formed = c.in_ok-xorbs.ensures.holds.formed };
  xorb_rows = c.in_ok-xorbs.ensures.holds.rows;
}
