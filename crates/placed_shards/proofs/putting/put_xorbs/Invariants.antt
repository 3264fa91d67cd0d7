use Rattle.std.proofs.Common.{◌≡◌, ◌+◌, ◌*◌, take, flat_map}
use Rattle.xet_records.specs.XorbRecord.{xorb_record_bytes, xorb_records}
use Rattle.xet_shards.specs.Write.Section.{total_rows}
use Rattle.xet_shards.specs.Write.Puts.{Puts}
use Rattle.placed_shards.proofs.putting.put_xorbs.Given as goal

abbrev pub invariant-loop-xorb : goal.invariant-loop-xorb
invariant-loop-xorb l = record {
  size : l.end ≡ l.at + 48 * total_rows xorb_records (take l.xorb-index l.xorbs);
  puts : Puts l.fn.out l.out l.at l.end (flat_map xorb_record_bytes (take l.xorb-index l.xorbs));
}
