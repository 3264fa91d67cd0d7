use Rattle.std.proofs.Common.{◌∷◌, [], ◌++◌, ◌∙◌, sym, ap, subst, flat_map}
use Rattle.std.specs.Io.KnownBytes.{Appends}
use Rattle.std.proofs.KnownBytes.{Appends-trans}
use Rattle.std.proofs.lemmas.List.{append-nil}
use Rattle.std.proofs.lemmas.Grind.{flat_map-append}
use Rattle.xet_shards.specs.Write.Tables.{chunk_table_row_bytes}
use Rattle.mdb_assembly.proofs.runs.merge_runs.Goals as goal

-- one more row
pub loop-preserved : goal.loop-preserved
loop-preserved g c =
    let rows = c.loop.invariant.0 in
    let row = c.in-Some.head.row in
    let before = g.W.Write.contents c.args.output.now in
    let now = g.W.Write.contents c.loop.output in
    let after = g.W.Write.contents c.write_all.new.self in
    let its : Appends now after (chunk_table_row_bytes row) =
    subst (Appends now after) c.to_bytes.ensures c.in_ok-write_all.ensures.bytes in
    let more = flat_map-append chunk_table_row_bytes rows (row ∷ [])
    ∙ ap (λ l. flat_map chunk_table_row_bytes rows ++ l) (append-nil (chunk_table_row_bytes row)) in (
      rows ++ row ∷ [],
      subst (Appends before after) (sym more)
          (Appends-trans before now after (flat_map chunk_table_row_bytes rows) (chunk_table_row_bytes row) c.loop.invariant.1 its),
    )
