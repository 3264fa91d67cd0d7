use Rattle.std.proofs.Common.{arith, ◌≡◌, ◌+◌, List, [], ◌++◌, ℕ, None, Some, Option, ap, subst, flat_map, length, length-append}
use Rattle.std.specs.Io.Buffered.{writer_contents}
use Rattle.std.specs.Io.KnownBytes.{Appends, append_known}
use Rattle.std.proofs.KnownBytes.{Appends-trans, Appends-kept}
use Rattle.xet_shards.specs.Write.Layout.{shard_footer_bytes}
use Rattle.xet_shards.specs.Write.Tables.{chunk_table_row_bytes}
use Rattle.mdb_assembly.specs.Assembly.{bytes_in}
use Rattle.mdb_assembly.proofs.assembly.Assembly.finish.Goals as goal

-- a writer with an empty buffer holds what it writes to
with_none : (known : Option (List ℕ)) (buffer : List ℕ) → buffer ≡ [] → Appends known (append_known known buffer) []
with_none None buffer none = tt
with_none (Some bytes) buffer none = ap (λ l. bytes ++ l) none

-- the tables, the rows of the chunk table and the footer, one after the other
pub returns-in-Ok-clause-written : goal.returns-in-Ok-clause-written
returns-in-Ok-clause-written g c =
    let contents = g.F.Write.contents in
    let held = writer_contents contents in
    let old = contents c.args.self.output in
    let first = held c.in_ok-output.output in
    let with_files = held c.copy_all.new.output in
    let with_xorbs = held c.copy_all-2.new.output in
    let with_chunks = held c.merge_runs.new.output in
    let with_footer = held c.serialize.new.writer in
    let files = c.in_ok-copy_all.ensures.copied in
    let xorbs = c.in_ok-copy_all-2.ensures.copied in
    let rows = c.in_ok-merge_runs.ensures in
    let chunks = flat_map chunk_table_row_bytes rows.0 in
    let footer = shard_footer_bytes c.footer.result in
    let tables = files.0 ++ xorbs.0 in
    let begun : Appends old first [] =
    subst (λ o. Appends (contents o) first []) c.in_ok-output.ensures.inner
    (with_none (contents c.in_ok-output.output.inner) c.in_ok-output.output.buf.items c.in_ok-output.ensures.empty) in
    let copied : Appends old with_xorbs tables =
    Appends-trans old with_files with_xorbs files.0 xorbs.0
    (Appends-trans old first with_files [] files.0 begun files.2) xorbs.2 in
    let ended : Appends with_xorbs with_footer (chunks ++ footer) =
    Appends-trans with_xorbs with_chunks with_footer chunks footer rows.1 c.in_ok-serialize.ensures.bytes in
    let sizes : length tables ≡ bytes_in c.args.self.file_tables.items + bytes_in c.args.self.xorb_tables.items =
    omega (
      arith,
      length-append files.0 xorbs.0,
      files.1,
      xorbs.1,
      ap bytes_in c.as_slice.ensures.value,
      ap bytes_in c.as_slice-2.ensures.value,
    ) in (
      tables,
      rows.0,
      c.footer.result,
      sizes,
      c.footer.ensures,
      Appends-kept old with_footer (contents c.in-Ok.output) (tables ++ (chunks ++ footer))
          (Appends-trans old with_xorbs with_footer tables (chunks ++ footer) copied ended) c.in-Ok.ensures.ok,
    )
