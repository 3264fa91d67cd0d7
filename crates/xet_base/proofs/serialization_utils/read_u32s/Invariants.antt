use Rattle.std.proofs.Common.{take, flat_map}
use Rattle.std.specs.Io.KnownBytes.{Consumes}
use Rattle.xet_base.specs.Bytes.{u32_bytes}
use Rattle.xet_base.proofs.serialization_utils.read_u32s.Given as goal

abbrev pub invariant-loop-value : goal.invariant-loop-value
invariant-loop-value g l =
    Consumes (g.R.Read.remaining l.initial.reader) (g.R.Read.remaining l.reader) (flat_map u32_bytes (take l.value-index l.values))
