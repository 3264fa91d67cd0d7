use Rattle.std.proofs.Common.{◌≡◌, rules, refl, ap, arith}
use Rattle.std.proofs.lemmas.Result.{err_from_is_err_and}
use Rattle.xet_records.specs.FileRecord.{file_records}
use Rattle.xet_records.specs.XorbRecord.{xorb_records}
use Rattle.xet_records.proofs.RecordKinds.{file_laws, xorb_laws}
use Rattle.xet_shards.specs.declared.shard_format.ends.options.LayoutOptions.{LayoutOptions}
use Rattle.xet_core_structures.proofs.Records.ShardContents.{rows_handed}
use Rattle.placed_shards.proofs.TwoShards.{xorbs_refused, both_united}
use Rattle.placed_shards.proofs.unions.unite_shards.Goals as goal

pub returns-in_err-xorbs : goal.returns-in_err-xorbs
returns-in_err-xorbs g c =
    let s = c.args.first.now in
    let t = c.args.second.now in
    let same : s.options.key ≡ t.options.key = search rules in
    let p = err_from_is_err_and c.from_residual-in_err-xorbs.result c.from_residual-in_err-xorbs.ensures.1 in
    rw (p.1, p.2) (xorbs_refused g.F.Union.makes g.X.Union.makes s t c.requires.read.0 c.requires.read.1 same c.as_slice.result.now c.as_slice-2.result.now c.as_slice.ensures.value c.as_slice-2.ensures.value
    c.as_slice-3.result.now c.as_slice-4.result.now c.as_slice-3.ensures.value c.as_slice-4.ensures.value _ c.in_err-xorbs.ensures)

pub invariant_of-result : goal.invariant_of-result
invariant_of-result g c = record {
  file_rows = omega (arith, c.in_ok-files.ensures.rows, rows_handed file_records file_laws c.in_ok-files.files.items);
  xorb_rows = omega (arith, c.in_ok-xorbs.ensures.rows, rows_handed xorb_records xorb_laws c.in_ok-xorbs.xorbs.items);
}

pub returns : goal.returns
returns g c =
    let s = c.args.first.now in
    let t = c.args.second.now in
    let same : s.options.key ≡ t.options.key = search rules in (
      refl,
      both_united g.F.Union.makes g.X.Union.makes s t c.requires.read.0 c.requires.read.1 same c.as_slice.result.now c.as_slice-2.result.now c.as_slice.ensures.value c.as_slice-2.ensures.value
          c.as_slice-3.result.now c.as_slice-4.result.now c.as_slice-3.ensures.value c.as_slice-4.ensures.value c.in_ok-files.files.items c.in_ok-xorbs.xorbs.items _
          c.in_ok-files.ensures c.in_ok-xorbs.ensures (ap (λ (o : LayoutOptions). record o { key = s.options.key }) c.plain.ensures),
    )
