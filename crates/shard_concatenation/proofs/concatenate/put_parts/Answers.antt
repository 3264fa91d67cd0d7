use Rattle.std.proofs.Common.{◌≡◌, ◌*◌, ◌∙◌, List, Some, length, map, flat_map, take, sym, ap, subst, arith, rules}
use Rattle.std.specs.Prelude.{sum_by}
use Rattle.std.specs.Io.KnownBytes.{Appends}
use Rattle.xet_records.specs.FileRecord.{file_records}
use Rattle.xet_records.specs.XorbRecord.{xorb_records}
use Rattle.xet_shards.specs.declared.shard_format.ends.info.MDBShardInfo.{MDBShardInfo}
use Rattle.shard_concatenation.specs.declared.section_parts.SectionPart.{SectionPart}
use Rattle.shard_concatenation.specs.Concatenation.{files_in, xorbs_in}
use Rattle.shard_concatenation.specs.Steps.SectionsSteps.{HoldSections}
use Rattle.xet_shards.specs.Write.Layout.{shard_header_bytes}
use Rattle.shard_concatenation.proofs.PartFilling.{whole_put}
use Rattle.shard_concatenation.proofs.Concatenation.{all_written, file_rows_fit, xorb_rows_fit, layout_size}
use Rattle.xet_shards.proofs.Write.Layouts.{length-shard_header_bytes, length-shard_footer_bytes}
use Rattle.shard_concatenation.proofs.concatenate.put_parts.Goals as goal

pub put-at-requires : goal.put-at-requires
put-at-requires c =
    let header : length c.as_slice.result.now ≡ 48 = ap length (c.as_slice.ensures.value ∙ c.requires.ends.header) ∙ length-shard_header_bytes c.args.info.now.header in
    omega (arith, c.requires.room, c.requires.footer.offset, header)

pub put_rows-at-requires : goal.put_rows-at-requires
put_rows-at-requires c =
    let header : length c.as_slice.result.now ≡ 48 = ap length (c.as_slice.ensures.value ∙ c.requires.ends.header) ∙ length-shard_header_bytes c.args.info.now.header in
    let file_rows : sum_by (λ (s : SectionPart). length s.rows.now) c.as_slice-files.result.now ≡ 48 * c.args.gathered.now.totals.file_rows = ap (sum_by (λ (s : SectionPart). length s.rows.now)) c.as_slice-files.ensures.value ∙ c.requires.sizes.file_rows in
    omega (arith, c.requires.room, c.requires.footer.offset, header, file_rows, c.put-at.ensures.end, c.put-at.auto.row)

pub put-at-requires-2 : goal.put-at-requires-2
put-at-requires-2 c =
    let header : length c.as_slice.result.now ≡ 48 = ap length (c.as_slice.ensures.value ∙ c.requires.ends.header) ∙ length-shard_header_bytes c.args.info.now.header in
    let file_rows : sum_by (λ (s : SectionPart). length s.rows.now) c.as_slice-files.result.now ≡ 48 * c.args.gathered.now.totals.file_rows = ap (sum_by (λ (s : SectionPart). length s.rows.now)) c.as_slice-files.ensures.value ∙ c.requires.sizes.file_rows in
    let file_end : length c.to_bytes.result ≡ 48 = search rules in
    omega (arith, c.requires.room, c.requires.footer.offset, header, file_rows, file_end, c.put-at.ensures.end, c.put_rows-at.ensures.end, c.put-at.auto.row, c.put_rows-at.auto.out)

pub put_rows-at-requires-2 : goal.put_rows-at-requires-2
put_rows-at-requires-2 c =
    let header : length c.as_slice.result.now ≡ 48 = ap length (c.as_slice.ensures.value ∙ c.requires.ends.header) ∙ length-shard_header_bytes c.args.info.now.header in
    let file_rows : sum_by (λ (s : SectionPart). length s.rows.now) c.as_slice-files.result.now ≡ 48 * c.args.gathered.now.totals.file_rows = ap (sum_by (λ (s : SectionPart). length s.rows.now)) c.as_slice-files.ensures.value ∙ c.requires.sizes.file_rows in
    let file_end : length c.to_bytes.result ≡ 48 = search rules in
    let xorb_rows : sum_by (λ (s : SectionPart). length s.rows.now) c.as_slice-xorbs.result.now ≡ 48 * c.args.gathered.now.totals.xorb_rows = ap (sum_by (λ (s : SectionPart). length s.rows.now)) c.as_slice-xorbs.ensures.value ∙ c.requires.sizes.xorb_rows in
    omega (arith, c.requires.room, c.requires.footer.offset, header, file_rows, file_end, xorb_rows, c.put-at.ensures.end, c.put_rows-at.ensures.end, c.put-at-2.ensures.end, c.put-at.auto.row, c.put_rows-at.auto.out, c.put-at-2.auto.row)

pub put-at-requires-3 : goal.put-at-requires-3
put-at-requires-3 c =
    let header : length c.as_slice.result.now ≡ 48 = ap length (c.as_slice.ensures.value ∙ c.requires.ends.header) ∙ length-shard_header_bytes c.args.info.now.header in
    let file_rows : sum_by (λ (s : SectionPart). length s.rows.now) c.as_slice-files.result.now ≡ 48 * c.args.gathered.now.totals.file_rows = ap (sum_by (λ (s : SectionPart). length s.rows.now)) c.as_slice-files.ensures.value ∙ c.requires.sizes.file_rows in
    let file_end : length c.to_bytes.result ≡ 48 = search rules in
    let xorb_rows : sum_by (λ (s : SectionPart). length s.rows.now) c.as_slice-xorbs.result.now ≡ 48 * c.args.gathered.now.totals.xorb_rows = ap (sum_by (λ (s : SectionPart). length s.rows.now)) c.as_slice-xorbs.ensures.value ∙ c.requires.sizes.xorb_rows in
    let xorb_end : length c.to_bytes-2.result ≡ 48 = search rules in
    omega (arith, c.requires.room, c.requires.footer.offset, header, file_rows, file_end, xorb_rows, xorb_end, c.put-at.ensures.end, c.put_rows-at.ensures.end, c.put-at-2.ensures.end, c.put_rows-at-2.ensures.end, c.put-at.auto.row, c.put_rows-at.auto.out, c.put-at-2.auto.row, c.put_rows-at-2.auto.out)

pub put_tables-at-requires : goal.put_tables-at-requires
put_tables-at-requires c =
    let header : length c.as_slice.result.now ≡ 48 = ap length (c.as_slice.ensures.value ∙ c.requires.ends.header) ∙ length-shard_header_bytes c.args.info.now.header in
    let file_rows : sum_by (λ (s : SectionPart). length s.rows.now) c.as_slice-files.result.now ≡ 48 * c.args.gathered.now.totals.file_rows = ap (sum_by (λ (s : SectionPart). length s.rows.now)) c.as_slice-files.ensures.value ∙ c.requires.sizes.file_rows in
    let file_end : length c.to_bytes.result ≡ 48 = search rules in
    let xorb_rows : sum_by (λ (s : SectionPart). length s.rows.now) c.as_slice-xorbs.result.now ≡ 48 * c.args.gathered.now.totals.xorb_rows = ap (sum_by (λ (s : SectionPart). length s.rows.now)) c.as_slice-xorbs.ensures.value ∙ c.requires.sizes.xorb_rows in
    let xorb_end : length c.to_bytes-2.result ≡ 48 = search rules in
    let file_table : sum_by (λ (s : SectionPart). length s.table.now) c.as_slice-files.result.now ≡ 12 * c.args.gathered.now.totals.files = ap (sum_by (λ (s : SectionPart). length s.table.now)) c.as_slice-files.ensures.value ∙ c.requires.sizes.file_table in
    omega (arith, c.requires.room, c.requires.footer.offset, header, file_rows, file_end, xorb_rows, xorb_end, file_table, c.put-at.ensures.end, c.put_rows-at.ensures.end, c.put-at-2.ensures.end, c.put_rows-at-2.ensures.end, c.put-at-3.ensures.end, c.put-at.auto.row, c.put_rows-at.auto.out, c.put-at-2.auto.row, c.put_rows-at-2.auto.out, c.put-at-3.auto.row)

pub put_tables-at-requires-2 : goal.put_tables-at-requires-2
put_tables-at-requires-2 c =
    let header : length c.as_slice.result.now ≡ 48 = ap length (c.as_slice.ensures.value ∙ c.requires.ends.header) ∙ length-shard_header_bytes c.args.info.now.header in
    let file_rows : sum_by (λ (s : SectionPart). length s.rows.now) c.as_slice-files.result.now ≡ 48 * c.args.gathered.now.totals.file_rows = ap (sum_by (λ (s : SectionPart). length s.rows.now)) c.as_slice-files.ensures.value ∙ c.requires.sizes.file_rows in
    let file_end : length c.to_bytes.result ≡ 48 = search rules in
    let xorb_rows : sum_by (λ (s : SectionPart). length s.rows.now) c.as_slice-xorbs.result.now ≡ 48 * c.args.gathered.now.totals.xorb_rows = ap (sum_by (λ (s : SectionPart). length s.rows.now)) c.as_slice-xorbs.ensures.value ∙ c.requires.sizes.xorb_rows in
    let xorb_end : length c.to_bytes-2.result ≡ 48 = search rules in
    let file_table : sum_by (λ (s : SectionPart). length s.table.now) c.as_slice-files.result.now ≡ 12 * c.args.gathered.now.totals.files = ap (sum_by (λ (s : SectionPart). length s.table.now)) c.as_slice-files.ensures.value ∙ c.requires.sizes.file_table in
    let xorb_table : sum_by (λ (s : SectionPart). length s.table.now) c.as_slice-xorbs.result.now ≡ 12 * c.args.gathered.now.totals.xorbs = ap (sum_by (λ (s : SectionPart). length s.table.now)) c.as_slice-xorbs.ensures.value ∙ c.requires.sizes.xorb_table in
    omega (arith, c.requires.room, c.requires.footer.offset, header, file_rows, file_end, xorb_rows, xorb_end, file_table, xorb_table, c.put-at.ensures.end, c.put_rows-at.ensures.end, c.put-at-2.ensures.end, c.put_rows-at-2.ensures.end, c.put-at-3.ensures.end, c.put_tables-at.ensures.end, c.put-at.auto.row, c.put_rows-at.auto.out, c.put-at-2.auto.row, c.put_rows-at-2.auto.out, c.put-at-3.auto.row, c.put_tables-at.auto.out)

pub put_merged_tables-at-requires : goal.put_merged_tables-at-requires
put_merged_tables-at-requires c =
    let header : length c.as_slice.result.now ≡ 48 = ap length (c.as_slice.ensures.value ∙ c.requires.ends.header) ∙ length-shard_header_bytes c.args.info.now.header in
    let file_rows : sum_by (λ (s : SectionPart). length s.rows.now) c.as_slice-files.result.now ≡ 48 * c.args.gathered.now.totals.file_rows = ap (sum_by (λ (s : SectionPart). length s.rows.now)) c.as_slice-files.ensures.value ∙ c.requires.sizes.file_rows in
    let file_end : length c.to_bytes.result ≡ 48 = search rules in
    let xorb_rows : sum_by (λ (s : SectionPart). length s.rows.now) c.as_slice-xorbs.result.now ≡ 48 * c.args.gathered.now.totals.xorb_rows = ap (sum_by (λ (s : SectionPart). length s.rows.now)) c.as_slice-xorbs.ensures.value ∙ c.requires.sizes.xorb_rows in
    let xorb_end : length c.to_bytes-2.result ≡ 48 = search rules in
    let file_table : sum_by (λ (s : SectionPart). length s.table.now) c.as_slice-files.result.now ≡ 12 * c.args.gathered.now.totals.files = ap (sum_by (λ (s : SectionPart). length s.table.now)) c.as_slice-files.ensures.value ∙ c.requires.sizes.file_table in
    let xorb_table : sum_by (λ (s : SectionPart). length s.table.now) c.as_slice-xorbs.result.now ≡ 12 * c.args.gathered.now.totals.xorbs = ap (sum_by (λ (s : SectionPart). length s.table.now)) c.as_slice-xorbs.ensures.value ∙ c.requires.sizes.xorb_table in
    omega (arith, c.requires.room, c.requires.footer.offset, header, file_rows, file_end, xorb_rows, xorb_end, file_table, xorb_table, c.put-at.ensures.end, c.put_rows-at.ensures.end, c.put-at-2.ensures.end, c.put_rows-at-2.ensures.end, c.put-at-3.ensures.end, c.put_tables-at.ensures.end, c.put_tables-at-2.ensures.end, c.put-at.auto.row, c.put_rows-at.auto.out, c.put-at-2.auto.row, c.put_rows-at-2.auto.out, c.put-at-3.auto.row, c.put_tables-at.auto.out, c.put_tables-at-2.auto.out)

pub put-requires : goal.put-requires
put-requires c =
    let header : length c.as_slice.result.now ≡ 48 = ap length (c.as_slice.ensures.value ∙ c.requires.ends.header) ∙ length-shard_header_bytes c.args.info.now.header in
    let file_rows : sum_by (λ (s : SectionPart). length s.rows.now) c.as_slice-files.result.now ≡ 48 * c.args.gathered.now.totals.file_rows = ap (sum_by (λ (s : SectionPart). length s.rows.now)) c.as_slice-files.ensures.value ∙ c.requires.sizes.file_rows in
    let file_end : length c.to_bytes.result ≡ 48 = search rules in
    let xorb_rows : sum_by (λ (s : SectionPart). length s.rows.now) c.as_slice-xorbs.result.now ≡ 48 * c.args.gathered.now.totals.xorb_rows = ap (sum_by (λ (s : SectionPart). length s.rows.now)) c.as_slice-xorbs.ensures.value ∙ c.requires.sizes.xorb_rows in
    let xorb_end : length c.to_bytes-2.result ≡ 48 = search rules in
    let file_table : sum_by (λ (s : SectionPart). length s.table.now) c.as_slice-files.result.now ≡ 12 * c.args.gathered.now.totals.files = ap (sum_by (λ (s : SectionPart). length s.table.now)) c.as_slice-files.ensures.value ∙ c.requires.sizes.file_table in
    let xorb_table : sum_by (λ (s : SectionPart). length s.table.now) c.as_slice-xorbs.result.now ≡ 12 * c.args.gathered.now.totals.xorbs = ap (sum_by (λ (s : SectionPart). length s.table.now)) c.as_slice-xorbs.ensures.value ∙ c.requires.sizes.xorb_table in
    let footer : length c.as_slice-2.result.now ≡ 200 = ap length (c.as_slice-2.ensures.value ∙ c.requires.ends.footer) ∙ length-shard_footer_bytes c.args.info.now.metadata c.requires.footer.buffer in
    omega (arith, c.requires.room, c.requires.footer.offset, header, file_rows, file_end, xorb_rows, xorb_end, file_table, xorb_table, footer, c.put-at.ensures.end, c.put_rows-at.ensures.end, c.put-at-2.ensures.end, c.put_rows-at-2.ensures.end, c.put-at-3.ensures.end, c.put_tables-at.ensures.end, c.put_tables-at-2.ensures.end, c.put_merged_tables-at.ensures.end, c.put-at.auto.row, c.put_rows-at.auto.out, c.put-at-2.auto.row, c.put_rows-at-2.auto.out, c.put-at-3.auto.row, c.put_tables-at.auto.out, c.put_tables-at-2.auto.out, c.put_merged_tables-at.auto.out)

pub returns : goal.returns
returns c = λ parts held fit few info_is holds.
    let all = c.args.gathered.now in
    let ends = ap (λ (i : MDBShardInfo). i.metadata) info_is in
    let header : length c.as_slice.result.now ≡ 48 = ap length (c.as_slice.ensures.value ∙ c.requires.ends.header) ∙ length-shard_header_bytes c.args.info.now.header in
    let file_rows : sum_by (λ (s : SectionPart). length s.rows.now) c.as_slice-files.result.now ≡ 48 * c.args.gathered.now.totals.file_rows = ap (sum_by (λ (s : SectionPart). length s.rows.now)) c.as_slice-files.ensures.value ∙ c.requires.sizes.file_rows in
    let file_end : length c.to_bytes.result ≡ 48 = search rules in
    let xorb_rows : sum_by (λ (s : SectionPart). length s.rows.now) c.as_slice-xorbs.result.now ≡ 48 * c.args.gathered.now.totals.xorb_rows = ap (sum_by (λ (s : SectionPart). length s.rows.now)) c.as_slice-xorbs.ensures.value ∙ c.requires.sizes.xorb_rows in
    let xorb_end : length c.to_bytes-2.result ≡ 48 = search rules in
    let file_table : sum_by (λ (s : SectionPart). length s.table.now) c.as_slice-files.result.now ≡ 12 * c.args.gathered.now.totals.files = ap (sum_by (λ (s : SectionPart). length s.table.now)) c.as_slice-files.ensures.value ∙ c.requires.sizes.file_table in
    let xorb_table : sum_by (λ (s : SectionPart). length s.table.now) c.as_slice-xorbs.result.now ≡ 12 * c.args.gathered.now.totals.xorbs = ap (sum_by (λ (s : SectionPart). length s.table.now)) c.as_slice-xorbs.ensures.value ∙ c.requires.sizes.xorb_table in
    let footer : length c.as_slice-2.result.now ≡ 200 = ap length (c.as_slice-2.ensures.value ∙ c.requires.ends.footer) ∙ length-shard_footer_bytes c.args.info.now.metadata c.requires.footer.buffer in
    let whole = all_written all.files.items all.xorbs.items all.cursors.items all.totals parts all.version all.key c.args.info.now.metadata c.args.info.now.metadata.chunk_lookup_num_entry
    (Some (take 0 c.args.out.now)) (Some (take c.put-at.result c.put-at.new.row)) (Some (take c.put_rows-at.result c.put_rows-at.new.out)) (Some (take c.put-at-2.result c.put-at-2.new.row)) (Some (take c.put_rows-at-2.result c.put_rows-at-2.new.out))
    (Some (take c.put-at-3.result c.put-at-3.new.row)) (Some (take c.put_tables-at.result c.put_tables-at.new.out)) (Some (take c.put_tables-at-2.result c.put_tables-at-2.new.out)) (Some (take c.put_merged_tables-at.result c.put_merged_tables-at.new.out)) (Some (take c.put.result c.put.new.row)) held c.requires.footer.chunks
    (subst (Appends (Some (take 0 c.args.out.now)) (Some (take c.put-at.result c.put-at.new.row))) (c.as_slice.ensures.value ∙ c.requires.ends.header ∙ ap (λ (i : MDBShardInfo). shard_header_bytes i.header) info_is) c.put-at.ensures.front)
    (subst (λ (ss : List SectionPart). Appends (Some (take c.put-at.result c.put-at.new.row)) (Some (take c.put_rows-at.result c.put_rows-at.new.out)) (flat_map (λ s. s.rows.now) ss)) c.as_slice-files.ensures.value c.put_rows-at.ensures.bytes)
    (subst (Appends (Some (take c.put_rows-at.result c.put_rows-at.new.out)) (Some (take c.put-at-2.result c.put-at-2.new.row))) (c.to_bytes.ensures ∙ ap file_records.header_bytes c.bookend.ensures) c.put-at-2.ensures.front)
    (subst (λ (ss : List SectionPart). Appends (Some (take c.put-at-2.result c.put-at-2.new.row)) (Some (take c.put_rows-at-2.result c.put_rows-at-2.new.out)) (flat_map (λ s. s.rows.now) ss)) c.as_slice-xorbs.ensures.value c.put_rows-at-2.ensures.bytes)
    (subst (Appends (Some (take c.put_rows-at-2.result c.put_rows-at-2.new.out)) (Some (take c.put-at-3.result c.put-at-3.new.row))) (c.to_bytes-2.ensures ∙ ap xorb_records.header_bytes c.bookend-2.ensures) c.put-at-3.ensures.front)
    (c.put_tables-at.ensures.bytes (map (λ p. p.files) parts) (subst (λ ss. HoldSections file_records ss (map (λ p. p.files) parts)) (sym c.as_slice-files.ensures.value) held.files_held) (file_rows_fit parts few))
    (c.put_tables-at-2.ensures.bytes (map (λ p. p.xorbs) parts) (subst (λ ss. HoldSections xorb_records ss (map (λ p. p.xorbs) parts)) (sym c.as_slice-xorbs.ensures.value) held.xorbs_held) (xorb_rows_fit parts few))
    (λ tables are hold count. c.put_merged_tables-at.ensures.bytes all.cursors.items tables are hold holds count)
    (subst (Appends (Some (take c.put_merged_tables-at.result c.put_merged_tables-at.new.out)) (Some (take c.put.result c.put.new.row))) (c.as_slice-2.ensures.value ∙ c.requires.ends.footer) c.put.ensures.front)
    ends in
    let size = layout_size all.totals c.args.info.now.metadata (files_in parts) (xorbs_in parts) all.version all.key fit held.totals_are c.requires.footer in
    let same : length c.put.new.row ≡ length c.args.out.now = omega (arith, c.put-at.auto.row, c.put_rows-at.auto.out, c.put-at-2.auto.row, c.put_rows-at-2.auto.out, c.put-at-3.auto.row, c.put_tables-at.auto.out, c.put_tables-at-2.auto.out, c.put_merged_tables-at.auto.out, c.put.auto.row) in
    whole_put c.put.new.row _ c.put.result whole (same ∙ sym c.requires.room ∙ size) (omega (arith, same, c.put.ensures.end, c.requires.room, c.requires.footer.offset, header, file_rows, file_end, xorb_rows, xorb_end, file_table, xorb_table, footer, c.put-at.ensures.end, c.put_rows-at.ensures.end, c.put-at-2.ensures.end, c.put_rows-at-2.ensures.end, c.put-at-3.ensures.end, c.put_tables-at.ensures.end, c.put_tables-at-2.ensures.end, c.put_merged_tables-at.ensures.end, c.put-at.auto.row, c.put_rows-at.auto.out, c.put-at-2.auto.row, c.put_rows-at-2.auto.out, c.put-at-3.auto.row, c.put_tables-at.auto.out, c.put_tables-at-2.auto.out, c.put_merged_tables-at.auto.out))
