-- Steps towards what `Streams` defines, which only contracts inside the crate speak of.
use Rattle.xet_base.specs.Source.{Source}
use Rattle.xet_core_structures.specs.TwoShards.Streams.{Streams}

-- the states of two sources
pub record Sources : Type 0 where
  pub first : Source
  pub second : Source

-- the pair of these two sources
abbrev pub sources : Source → Source → Sources
sources first second = record { first = first; second = second }

-- the sources of a state of both sources and the output
abbrev pub inputs_of : Streams → Sources
inputs_of s = sources s.first s.second
