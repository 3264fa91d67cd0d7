use Rattle.std.proofs.Common.{◌≡◌, ◌↔◌, IsTrue, length, nat_eq, rules}
use Rattle.shard_bytes.specs.declared.check.Finding.TheVariants.{Size}
use Rattle.shard_bytes.specs.Steps.CheckingSteps.{AddsSize}
use Rattle.shard_bytes.proofs.Checking.{OnOk-weaker, adds_if}
use Rattle.shard_bytes.proofs.check.push_size.Goals as goal

pub returns-clause-added : goal.returns-clause-added
returns-clause-added c =
    let decides : IsTrue (nat_eq (length c.args.bytes.now) (length c.args.written.now)) ↔ (length c.args.bytes.now ≡ length c.args.written.now) = search rules in
    OnOk-weaker c.push_unless.result _ (AddsSize c.args.bytes.now c.args.written.now c.args.findings.now.items c.push_unless.new.findings.items)
    (adds_if (nat_eq (length c.args.bytes.now) (length c.args.written.now)) (length c.args.bytes.now ≡ length c.args.written.now) (Size (length c.args.written.now)) c.args.findings.now.items
    c.push_unless.new.findings.items (λ note. note) decides)
    c.push_unless.ensures.added
