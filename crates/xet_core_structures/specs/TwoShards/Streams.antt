-- Two sources that are read, and an output that is written.
use Rattle.std.specs.Prelude.{ℕ, List, Option}
use Rattle.xet_base.specs.Source.{Source}

-- the state of both sources, and the bytes of the output, if they are known
pub record Streams : Type 0 where
  pub first : Source
  pub second : Source
  pub out : Option (List ℕ)

-- the state that has these sources and this output
abbrev pub streams : Source → Source → Option (List ℕ) → Streams
streams first second out = record { first = first; second = second; out = out }
