use Rattle.std.proofs.Common.{◌≡◌, ◌++◌, take, flat_map}
use Rattle.xet_records.specs.FileRow.{hash_row}
use Rattle.xet_records.specs.Part.{rows_of}
use Rattle.xet_records.specs.View.{as_kept}
use Rattle.placed_shards.proofs.Kept.{start_of}
use Rattle.placed_shards.proofs.optional_parts.kept_bytes.Given as goal

abbrev pub invariant-loop-part : goal.invariant-loop-part
invariant-loop-part l = record {
  start : l.at ≡ start_of l.header l.part-index;
  items : l.bytes.items ≡ l.initial.bytes.items ++ flat_map (λ part. flat_map hash_row (rows_of part (as_kept l.kept l.file))) (take l.part-index l.part-items);
}
