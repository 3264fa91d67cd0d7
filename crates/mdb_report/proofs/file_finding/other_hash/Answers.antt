use Rattle.std.proofs.Common.{rules, ◌≡◌, subst, ◌∙◌}
use Rattle.xet_core_structures.specs.Names.{NamesShard}
use Rattle.mdb_report.proofs.file_finding.other_hash.Goals as goal

pub returns-then-eq : goal.returns-then-eq
returns-then-eq c = λ is.
    let same : c.in_ok-named.named ≡ c.keyed_hash-hash.result = search (rules, c.if-eq.true, c.if-eq.ensures, c.eq.ensures) in
    subst (NamesShard c.args.name.now) (same ∙ c.keyed_hash-hash.ensures) c.in_ok-named.ensures.found
