use Rattle.std.proofs.Common.{◌≡◌, ◌+◌, ◌*◌, ◌++◌, length, take, flat_map}
use Rattle.xet_base.specs.Bytes.{u64_bytes}
use Rattle.xet_base.proofs.fields.split_u64s.Given as goal

abbrev pub invariant-loop-value : goal.invariant-loop-value
invariant-loop-value l = record {
  bytes : l.bytes ≡ flat_map u64_bytes (take l.value-index l.values) ++ l.rest;
  len : length l.rest + 8 * l.value-index ≡ length l.bytes;
}
