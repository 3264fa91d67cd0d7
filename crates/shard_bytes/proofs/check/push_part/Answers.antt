use Rattle.shard_bytes.specs.declared.check.Finding.TheVariants.{Differs}
use Rattle.shard_bytes.specs.Checking.{IsSamePart}
use Rattle.shard_bytes.specs.Steps.CheckingSteps.{AddsPart}
use Rattle.shard_bytes.proofs.Checking.{OnOk-weaker, adds_if}
use Rattle.shard_bytes.proofs.check.push_part.Goals as goal

pub returns-clause-added : goal.returns-clause-added
returns-clause-added c =
    OnOk-weaker c.push_unless.result _ (AddsPart c.args.part c.args.bytes.now c.args.info.now c.args.written.now c.args.footer.now c.args.findings.now.items c.push_unless.new.findings.items)
    (adds_if c.is_same_part-same.result (IsSamePart c.args.part c.args.bytes.now c.args.info.now c.args.written.now c.args.footer.now) (Differs c.args.part) c.args.findings.now.items
    c.push_unless.new.findings.items (λ note. note) c.is_same_part-same.ensures)
    c.push_unless.ensures.added
