use Rattle.std.proofs.Common.{rules, sym, subst, ◌*◌, take, drop}
use Rattle.shard_concatenation.proofs.PartOrder.{first_long, table_long, rows_long, has_ends, header_read}
use Rattle.shard_concatenation.specs.Steps.PartOrder.{HasEnds}
use Rattle.shard_concatenation.proofs.part_order.end_hashes.Goals as goal

pub returns-in_err-first : goal.returns-in_err-first
returns-in_err-first g c = λ records holds some. absurd (first_long g.R.SectionRecord.kind c.laws.ensures c.args.section.now records holds some c.in_err-first.ensures)

pub returns-in_err-last_row : goal.returns-in_err-last_row
returns-in_err-last_row g c = λ records holds some. absurd (table_long g.R.SectionRecord.kind c.laws.ensures c.args.section.now records holds some c.in_err-last_row.ensures)

pub returns-in_err-last : goal.returns-in_err-last
returns-in_err-last g c = λ records holds some.
    absurd (rows_long g.R.SectionRecord.kind c.laws.ensures c.args.section.now records holds some c.in_ok-last_row.field-0 (search rules) c.in_ok-last_row.ensures c.in_err-last.ensures)

pub returns : goal.returns
returns g c = λ records holds some.
    let K = g.R.SectionRecord.kind in
    let first = header_read K _ _ _ g.met.R.SectionRecord.header_row (take 48 (drop (48 * 0) c.args.section.now.rows.now)) c.in_ok-first.first c.in_ok-first.ensures in
    let last = header_read K _ _ _ g.met.R.SectionRecord.header_row (take 48 (drop (48 * c.in_ok-last_row.field-0) c.args.section.now.rows.now)) c.in_ok-last.last c.in_ok-last.ensures in
    let ends = has_ends K c.laws.ensures c.args.section.now records holds some c.in_ok-first.first c.in_ok-last.last c.in_ok-last_row.field-0 (search rules) c.in_ok-last_row.ensures first.0 first.1 last.0 last.1 in
    subst (HasEnds K records) (λ i. record { first = sym c.hash.ensures i; last = sym c.hash-2.ensures i }) ends
