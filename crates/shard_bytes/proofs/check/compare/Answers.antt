use Rattle.shard_bytes.specs.Steps.CheckingSteps.{AddsSize, Compares}
use Rattle.shard_bytes.proofs.Checking.{OnOk-weaker, adds_all_parts}
use Rattle.shard_bytes.proofs.check.compare.Goals as goal

pub returns-clause-added : goal.returns-clause-added
returns-clause-added c =
    OnOk-weaker c.push_size.result (AddsSize c.args.bytes.now c.args.written.now c.push_part-6.new.findings.items c.push_size.new.findings.items)
    (Compares c.args.bytes.now c.args.info.now c.args.written.now c.args.footer.now c.args.findings.now.items c.push_size.new.findings.items)
    (λ size. adds_all_parts c.args.bytes.now c.args.info.now c.args.written.now c.args.footer.now _ _ _ _ _ _ _ _ _
    c.in_ok-push_part.ensures.added c.in_ok-push_part-2.ensures.added c.in_ok-push_part-3.ensures.added c.in_ok-push_part-4.ensures.added c.in_ok-push_part-5.ensures.added
    (c.in_ok-push_chunk_table.ensures.added c.args.info.now) c.in_ok-push_part-6.ensures.added size)
    c.push_size.ensures.added
