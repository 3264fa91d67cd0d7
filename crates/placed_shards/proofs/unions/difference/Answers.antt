use Rattle.std.proofs.Common.{◌≡◌, ◌≤◌, rules, map, refl, ap, arith}
use Rattle.xet_records.specs.Limits.{MAX_ROWS}
use Rattle.xet_records.specs.FileRecord.{file_records, as_read}
use Rattle.xet_records.specs.XorbRecord.{xorb_records}
use Rattle.xet_records.proofs.RecordKinds.{file_laws, xorb_laws}
use Rattle.xet_shards.specs.Write.Section.{total_rows}
use Rattle.xet_shards.specs.declared.shard_format.ends.options.LayoutOptions.{LayoutOptions}
use Rattle.placed_shards.specs.Sets.{IsLeft}
use Rattle.xet_core_structures.proofs.Records.ShardContents.{rows_handed}
use Rattle.placed_shards.proofs.TwoShards.{both_united}
use Rattle.placed_shards.proofs.unions.difference.Goals as goal

pub invariant_of-result : goal.invariant_of-result
invariant_of-result c =
    let t = c.args.second.now in
    record {
      file_rows = omega (arith, t.file_rows, c.in_ok-files.ensures.1, rows_handed file_records file_laws c.in_ok-files.files.items, rows_handed file_records file_laws c.as_slice-2.result.now, ap (total_rows file_records) c.as_slice-2.ensures.value);
      xorb_rows = omega (arith, t.xorb_rows, c.in_ok-xorbs.ensures.1, rows_handed xorb_records xorb_laws c.in_ok-xorbs.xorbs.items, rows_handed xorb_records xorb_laws c.as_slice-4.result.now, ap (total_rows xorb_records) c.as_slice-4.ensures.value);
    }

pub returns : goal.returns
returns c =
    let s = c.args.first.now in
    let t = c.args.second.now in
    let same : s.options.key ≡ t.options.key = search rules in
    let files = c.in_ok-files.files.items in
    let xorbs = c.in_ok-xorbs.xorbs.items in
    let file_rows : total_rows file_records (map as_read files) ≤ MAX_ROWS =
    omega (arith, t.file_rows, c.in_ok-files.ensures.1, rows_handed file_records file_laws c.as_slice-2.result.now, ap (total_rows file_records) c.as_slice-2.ensures.value) in
    let xorb_rows : total_rows xorb_records (map xorb_records.as_read xorbs) ≤ MAX_ROWS =
    omega (arith, t.xorb_rows, c.in_ok-xorbs.ensures.1, rows_handed xorb_records xorb_laws c.as_slice-4.result.now, ap (total_rows xorb_records) c.as_slice-4.ensures.value) in (
      refl,
      both_united IsLeft IsLeft s t c.requires.read.0 c.requires.read.1 same c.as_slice.result.now c.as_slice-2.result.now c.as_slice.ensures.value c.as_slice-2.ensures.value
          c.as_slice-3.result.now c.as_slice-4.result.now c.as_slice-3.ensures.value c.as_slice-4.ensures.value files xorbs _
          (record { combined = c.in_ok-files.ensures.0; rows = file_rows }) (record { combined = c.in_ok-xorbs.ensures.0; rows = xorb_rows })
          (ap (λ (o : LayoutOptions). record o { key = s.options.key }) c.plain.ensures),
    )
