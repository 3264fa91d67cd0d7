use Rattle.std.proofs.Common.{arith, rules, ◌≡◌, ◌-◌, ◌∙◌, ap, subst, take, map, flat_map, slice_range}
use Rattle.std.specs.Io.KnownBytes.{Appends}
use Rattle.std.proofs.KnownBytes.{Appends-trans}
use Rattle.xet_shards.specs.Write.RaisedRows.{start_later, chunk_row_later}
use Rattle.xet_shards.specs.Write.Tables.{start_row, chunk_table_row_bytes}
use Rattle.mdb_assembly.proofs.assembly.Assembly.add_xorbs.Goals as goal

-- the xorb table is written, and then the chunk table, which lies past it in the part
pub returns-clause-added : goal.returns-clause-added
returns-clause-added g c =
    let footer = c.args.footer.now in
    let first = c.args.self.now.counts.xorb_rows in
    let before = g.F.Write.contents c.args.self.now.tables in
    let mid = g.F.Write.contents c.keep_starts.new.self.tables in
    let after = g.F.Write.contents c.keep_chunk_rows.new.self.tables in
    let stays : slice_range c.keep_starts.new.part footer.chunk_lookup_offset footer.footer_offset
    ≡ slice_range c.args.part.now footer.chunk_lookup_offset footer.footer_offset =
    ap (take (footer.footer_offset - footer.chunk_lookup_offset))
    (c.in_ok-table.ensures.elsewhere footer.chunk_lookup_offset (omega arith)) in
    record {
      rows = search rules;
      tables = λ starts chunks starts_fit chunks_fit starts_are chunks_are.
          let one_bytes = flat_map start_row (map (start_later first) starts) in
          let two_bytes = flat_map chunk_table_row_bytes (map (chunk_row_later first) chunks) in
          let one : Appends before mid one_bytes =
          subst (λ t. Appends (g.F.Write.contents t) mid one_bytes) (ap (λ assembly. assembly.tables) c.in_ok-rows.ensures.others)
          (c.in_ok-table.ensures.written starts starts_fit starts_are) in
          let two : Appends mid after two_bytes =
          c.in_ok-run.ensures.written chunks chunks_fit (stays ∙ chunks_are) in
          Appends-trans before mid after one_bytes two_bytes one two;
      counts = search rules;
      others = search rules;
    }
