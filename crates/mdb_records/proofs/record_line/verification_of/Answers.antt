use Rattle.std.proofs.Common.{arith, ap, ◌∙◌}
use Rattle.std.proofs.lemmas.List.{take_all}
use Rattle.xet_records.specs.declared.file_structs.rows.HashRow.{HashRow}
use Rattle.mdb_records.proofs.RecordLines.{one_more_row}
use Rattle.mdb_records.proofs.record_line.verification_of.Goals as goal

pub loop-hash-preserved : goal.loop-hash-preserved
loop-hash-preserved c =
    one_more_row (λ row. record { 0 = row.hash }) c.loop-hash.made c.push.new.self c.args.hashes.now c.loop-hash.hash-index _ _
    c.loop-hash-test.true c.loop-hash.invariant c.in_ok-push.ensures.ok
    (ap (λ (row : HashRow). record { 0 = row.hash }) c.new.ensures)

pub returns : goal.returns
returns c = c.loop-hash.invariant ∙ take_all c.loop-hash.hash-index c.args.hashes.now (omega arith)
