use Rattle.std.proofs.Common.{◌≡◌, ℕ, ◌+◌, ◌-◌, ◌*◌, ◌/◌, List, ◌++◌, take, drop, flat_map, length, sym, ap, ◌∙◌, subst, arith}
use Rattle.std.specs.Io.KnownBytes.{Appends}
use Rattle.std.proofs.KnownBytes.{Appends-trans}
use Rattle.std.proofs.lemmas.List.{take-append-drop, drop-take, take-take, take_all}
use Rattle.std.proofs.lemmas.List.Concat.{flat_map-append}
use Rattle.xet_shards.specs.Write.Tables.{chunk_table_row_bytes}
use Rattle.xet_shards.proofs.shard_format.write.shard_end.write_chunk_rows.Goals as goal

-- the first n + m elements are the first n and the m after them
take_then : {X : Type 0} (xs : List X) (n m : ℕ) → take (n + m) xs ≡ take n xs ++ take m (drop n xs)
take_then xs n m =
    let whole = take-append-drop n (take (n + m) xs) in
    sym (rw (take-take n (n + m) xs (omega arith), drop-take n m xs) at whole)

pub loop-block-preserved : goal.loop-block-preserved
loop-block-preserved g c =
    let contents = g.W.Write.contents in
    let bytes_of = flat_map chunk_table_row_bytes in
    let rows = c.args.rows.now in
    let start = 64 * c.loop-block.block in
    let next : 64 * (c.loop-block.block + 1) ≡ start + 64 = omega arith in
    let size : (start + 64) - start ≡ 64 = omega arith in
    let more : bytes_of (take (64 * (c.loop-block.block + 1)) rows) ≡ bytes_of (take start rows) ++ bytes_of (take ((start + 64) - start) (drop start rows)) =
    ap (λ n. bytes_of (take n rows)) next ∙ ap bytes_of (take_then rows start 64) ∙ flat_map-append chunk_table_row_bytes (take start rows) (take 64 (drop start rows))
    ∙ ap (λ n. bytes_of (take start rows) ++ bytes_of (take n (drop start rows))) (sym size) in
    subst (Appends (contents c.args.writer.now) (contents c.write_block.new.writer)) (sym more)
    (Appends-trans _ (contents c.loop-block.writer) _ _ _ c.loop-block.invariant c.in_ok-write_block.ensures.bytes)

pub returns-clause-bytes : goal.returns-clause-bytes
returns-clause-bytes g c =
    let contents = g.W.Write.contents in
    let bytes_of = flat_map chunk_table_row_bytes in
    let rows = c.args.rows.now in
    let end = 64 * (length rows / 64) in
    let at : 64 * c.loop-block.block ≡ end = omega (arith, c.loop-block-test.false, c.loop-block.auto.block-end) in
    let left = length rows - end in
    let whole : take (end + left) rows ≡ rows = take_all (end + left) rows (omega arith) in
    let all : bytes_of (take (64 * c.loop-block.block) rows) ++ bytes_of (take left (drop end rows)) ≡ bytes_of rows =
    ap (λ n. bytes_of (take n rows) ++ bytes_of (take left (drop end rows))) at ∙ sym (flat_map-append chunk_table_row_bytes (take end rows) (take left (drop end rows)))
    ∙ ap bytes_of (sym (take_then rows end left) ∙ whole) in
    subst (Appends (contents c.args.writer.now) (contents c.write_block-2.new.writer)) all
    (Appends-trans _ (contents c.loop-block.writer) _ _ _ c.loop-block.invariant c.in_ok-write_block-2.ensures.bytes)
