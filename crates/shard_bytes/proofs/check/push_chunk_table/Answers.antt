use Rattle.std.proofs.Common.{sym, ◌∙◌, subst, refl}
use Rattle.std.specs.List.{slice_range}
use Rattle.shard_bytes.specs.Checking.{IsReorderedTable}
use Rattle.shard_bytes.specs.Steps.CheckingSteps.{IsWrittenTable, FindsInTable}
use Rattle.shard_bytes.proofs.Checking.{table_same}
use Rattle.shard_bytes.proofs.Reordered.{alike_itself, written_table}
use Rattle.shard_bytes.proofs.check.push_chunk_table.Goals as goal

pub table_finding-requires : goal.table_finding-requires
table_finding-requires c = subst IsWrittenTable (sym c.slice.ensures) (written_table c.args.written.now c.args.footer.now c.requires)

pub returns-in-None-clause-added : goal.returns-in-None-clause-added
returns-in-None-clause-added c = λ info.
    let written = c.args.written.now in
    let footer = c.args.footer.now in
    let same = sym c.slice-2.ensures ∙ subst (FindsInTable c.slice.result.now c.slice-2.result.now) c.in-None.is c.in_ok-finding.ensures ∙ c.slice.ensures in
    let table = slice_range written footer.chunk_lookup_offset footer.footer_offset in
    table_same c.args.bytes.now info written footer c.args.findings.now.items c.args.findings.now.items
    (subst (IsReorderedTable table) (sym same) (alike_itself table (written_table written footer c.requires))) same refl
