use Rattle.std.proofs.Common.{take, flat_map}
use Rattle.std.specs.Io.KnownBytes.{Appends}
use Rattle.xet_base.specs.Bytes.{u32_bytes}
use Rattle.xet_base.proofs.serialization_utils.write_u32s.Given as goal

abbrev pub invariant-loop-value : goal.invariant-loop-value
invariant-loop-value g l =
    Appends (g.W.Write.contents l.initial.writer) (g.W.Write.contents l.writer) (flat_map u32_bytes (take l.value-index l.values))
