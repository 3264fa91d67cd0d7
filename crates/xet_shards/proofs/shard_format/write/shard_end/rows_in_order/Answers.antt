use Rattle.std.proofs.Common.{◌≡◌, true, List, flat_map, Result, Ok, Err, Vec, refl, sym, ap, subst}
use Rattle.std.specs.Prelude.{IfOk}
use Rattle.xet_base.specs.declared.error.CoreError.{CoreError}
use Rattle.xet_records.specs.declared.xorb_structs.MDBXorbInfo.{MDBXorbInfo}
use Rattle.xet_shards.specs.Steps.TablesSteps.{PutsInOrder}
use Rattle.xet_shards.specs.Write.Layout.{if_included}
use Rattle.xet_shards.specs.Write.Tables.{ChunkTableRow, chunk_table_row_bytes, chunk_table_rows, chunk_table_bytes}
use Rattle.xet_shards.proofs.shard_format.write.shard_end.rows_in_order.Goals as goal

-- the bytes of rows that were put in order
in_order-bytes : {Z : Type 0} (rows : List ChunkTableRow) (result : Result (Vec ChunkTableRow Z) CoreError) → IfOk result (λ sorted. PutsInOrder rows sorted.items)
    → IfOk result (λ sorted. (xorbs : List MDBXorbInfo) → (true ≡ true → rows ≡ chunk_table_rows xorbs) → flat_map chunk_table_row_bytes sorted.items ≡ chunk_table_bytes xorbs)
unfolding chunk_table_bytes
in_order-bytes rows (Ok sorted) in_order = λ xorbs are. ap (flat_map chunk_table_row_bytes) (in_order xorbs (are refl))
in_order-bytes rows (Err e) in_order = tt

pub returns-then-is_in-clause-bytes : goal.returns-then-is_in-clause-bytes
returns-then-is_in-clause-bytes c =
    let rows = c.args.rows.items in
    subst (λ is_in. IfOk c.in_order.result (λ sorted. (xorbs : List MDBXorbInfo) → (is_in ≡ true → rows ≡ chunk_table_rows xorbs) → flat_map chunk_table_row_bytes sorted.items ≡ if_included is_in (chunk_table_bytes xorbs)))
    (sym c.if-is_in.true) (in_order-bytes rows c.in_order.result c.in_order.ensures.ok)
