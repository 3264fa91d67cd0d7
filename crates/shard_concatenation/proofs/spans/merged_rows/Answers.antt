use Rattle.std.proofs.Common.{◌≡◌, ◌*◌, ◌<◌, ◌^◌, ◌∙◌, ◌++◌, ℕ, List, length, take, drop, flat_map, ap, arith, rules}
use Rattle.std.proofs.lemmas.List.{take-append-le, take_all}
use Rattle.shard_concatenation.specs.Steps.ChunkMerging.{rows_held}
use Rattle.shard_concatenation.proofs.ChunkSpans.{merged_whole}
use Rattle.shard_concatenation.proofs.spans.merged_rows.Goals as goal

pub returns-clause-merges : goal.returns-clause-merges
returns-clause-merges c = λ rows tables few.
    let all = flat_map rows_held tables.held in
    let small : length all < 2 ^ 64 = omega (arith, ap length tables.rows_are, few, c.requires) in
    let counted = c.row_count.ensures tables.held tables.cursors_are tables.hold small in
    let count : c.min-rows.result ≡ length all = omega (arith, c.min-rows.ensures, counted, few, ap length tables.rows_are) in
    let merges = c.put_merged_tables.ensures.bytes c.args.tables.now tables.held tables.cursors_are tables.hold c.in_ok-merge.ensures.held count in
    let out : List ℕ = c.put_merged_tables.new.out in
    let size : length out ≡ 16 * c.min-rows.result = search rules in
    let len = c.resize.new.self.len in
    let same : length out ≡ len = omega (arith, size, c.in_ok-resize.ensures.len, c.as_mut_slice.ensures.len, c.put_merged_tables.auto.out) in
    let items_are : take len (out ++ drop (length out) c.resize.new.self.items) ≡ out = take-append-le len out (drop (length out) c.resize.new.self.items) (omega (arith, same)) ∙ take_all len out (omega (arith, same)) in
    merged_whole rows all out _ c.put_merged_tables.result tables.rows_are merges (omega (arith, size, count)) (omega (arith, size, c.put_merged_tables.ensures.end)) items_are
