use Rattle.std.proofs.Common.{◌≡◌, ◌*◌, ◌-◌, ◌++◌, [], length, drop, ap, sym, ◌∙◌, arith}
use Rattle.std.proofs.lemmas.List.{take_all, length-drop}
use Rattle.xet_base.specs.Bytes.{u64_bytes}
use Rattle.placed_shards.proofs.Bisection.{entry_word, entry_row}
use Rattle.placed_shards.proofs.tables.entry_at.Goals as goal

pub returns-clause-word : goal.returns-clause-word
returns-clause-word c =
    let table = c.args.table.now in
    let i = c.args.index in
    let there : drop (12 * i) table ≡ u64_bytes c.split_u64-word.result.0 ++ c.split_u64-word.result.1.now = ap (λ n. drop n table) (omega arith) ∙ sym (take_all (length table - i * 12) (drop (i * 12) table) (omega (arith, length-drop (i * 12) table))) ∙ c.split_u64-word.ensures.bytes in
    entry_word table i c.split_u64-word.result.0 0 c.split_u64-word.result.1.now [] there (omega arith)

pub returns-clause-row : goal.returns-clause-row
returns-clause-row c =
    let table = c.args.table.now in
    let i = c.args.index in
    let there : drop (12 * i) table ≡ u64_bytes c.split_u64-word.result.0 ++ c.split_u64-word.result.1.now = ap (λ n. drop n table) (omega arith) ∙ sym (take_all (length table - i * 12) (drop (i * 12) table) (omega (arith, length-drop (i * 12) table))) ∙ c.split_u64-word.ensures.bytes in
    entry_row table i c.split_u64-word.result.0 c.split_u32-row.result.0 c.split_u64-word.result.1.now c.split_u32-row.result.1.now there (omega arith) c.split_u32-row.ensures.bytes
