-- What a source in memory is.
use Rattle.std.specs.Prelude.{None}
use Rattle.xet_base.specs.declared.source.MemorySource.{MemorySource}
use Rattle.xet_base.specs.Source.{Source}

abbrev pub in_memory : MemorySource → Source
in_memory m = record { bytes = m.bytes.now; at = m.at; seeks = m.seeks.value; read = m.read.value; failures = 0; last_failure = None }
