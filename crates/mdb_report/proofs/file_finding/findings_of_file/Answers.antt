use Rattle.std.proofs.Common.{map, ap, sym, ◌∙◌}
use Rattle.xet_core_structures.specs.Names.{IsShardName}
use Rattle.shard_bytes.specs.Checking.{IsWhole}
use Rattle.mdb_report.specs.declared.file_finding.FileFinding.TheVariants.{Bytes, Name}
use Rattle.mdb_report.proofs.FileFindings.{findings_are, with_name, all_if_named, all_with_name, notes_of, not_notes, none_if_named}
use Rattle.mdb_report.proofs.file_finding.findings_of_file.Goals as goal

pub returns-then-is_some-clause-each : goal.returns-then-is_some-clause-each
returns-then-is_some-clause-each c =
    findings_are c.args.name.now c.args.bytes.now c.in_ok-of_bytes.of_bytes.items c.in_ok-findings.findings.items c.in_ok-of_bytes.ensures.each
    (c.in_ok-findings.ensures ∙ ap (map Bytes) c.as_slice.ensures.value)

pub returns-clause-each : goal.returns-clause-each
returns-clause-each c =
    with_name c.args.name.now c.args.bytes.now c.in_ok-findings.findings.items c.push.new.self.items c.parse_shard_filename.result c.parse_shard_filename.ensures.accepted
    (sym c.is_some.ensures ∙ c.if-is_some.false)
    (findings_are c.args.name.now c.args.bytes.now c.in_ok-of_bytes.of_bytes.items c.in_ok-findings.findings.items c.in_ok-of_bytes.ensures.each
    (c.in_ok-findings.ensures ∙ ap (map Bytes) c.as_slice.ensures.value))
    c.in_ok-push.ensures.items

pub returns-then-is_some-clause-all : goal.returns-then-is_some-clause-all
returns-then-is_some-clause-all c =
    all_if_named c.args.name.now c.args.bytes.now c.in_ok-of_bytes.of_bytes.items c.in_ok-findings.findings.items c.parse_shard_filename.result c.parse_shard_filename.ensures.accepted
    (sym c.is_some.ensures ∙ c.if-is_some.true)
    c.in_ok-of_bytes.ensures.all
    (c.in_ok-findings.ensures ∙ ap (map Bytes) c.as_slice.ensures.value)

pub returns-clause-all : goal.returns-clause-all
returns-clause-all c =
    all_with_name c.args.name.now c.args.bytes.now c.in_ok-of_bytes.of_bytes.items c.in_ok-findings.findings.items c.push.new.self.items c.in_ok-of_bytes.ensures.all
    (c.in_ok-findings.ensures ∙ ap (map Bytes) c.as_slice.ensures.value)
    c.in_ok-push.ensures.items

pub returns-then-is_some-clause-intact : goal.returns-then-is_some-clause-intact
returns-then-is_some-clause-intact c = λ notes.
    c.in_ok-of_bytes.ensures.intact.0 (notes_of c.in_ok-of_bytes.of_bytes.items c.in_ok-findings.findings.items (c.in_ok-findings.ensures ∙ ap (map Bytes) c.as_slice.ensures.value) notes)

pub returns-clause-intact : goal.returns-clause-intact
returns-clause-intact c = λ notes.
    absurd (not_notes c.in_ok-findings.findings.items c.push.new.self.items Name (λ note. note) c.in_ok-push.ensures.items notes)

pub returns-then-is_some-clause-whole : goal.returns-then-is_some-clause-whole
returns-then-is_some-clause-whole c =
    none_if_named (IsWhole c.args.bytes.now) (IsShardName c.args.name.now) c.in_ok-of_bytes.of_bytes.items c.in_ok-findings.findings.items c.in_ok-of_bytes.ensures.whole
    (c.parse_shard_filename.ensures.accepted.0 (sym c.is_some.ensures ∙ c.if-is_some.true)) (c.in_ok-findings.ensures ∙ ap (map Bytes) c.as_slice.ensures.value)
