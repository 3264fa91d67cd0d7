use Rattle.std.proofs.Common.{None, refl}
use Rattle.xet_shards.specs.Write.Layout.{layout_of}
use Rattle.placed_shards.specs.Ranges.{is_within}
use Rattle.xet_core_structures.specs.TwoShards.ByteResults.{keyed_options}
use Rattle.placed_shards.proofs.Within.{one_part, part_of, part_of_is}
use Rattle.placed_shards.proofs.ConsecutiveParts.{consecutive_ranges}
use Rattle.placed_shards.proofs.laws.range_parts.ranges_have_all_records.Goals as goal

pub returns-clause-range : goal.returns-clause-range
returns-clause-range c = consecutive_ranges

pub returns-clause-all : goal.returns-clause-all
returns-clause-all c = λ cuts all parts are_cuts are. consecutive_ranges None cuts None all all parts are_cuts (record { files = λ q. refl; xorbs = λ q. refl }) are

pub returns-clause-exist : goal.returns-clause-exist
returns-clause-exist c = λ range all. (part_of (is_within range) all, part_of_is (is_within range) all)

pub returns-clause-one : goal.returns-clause-one
returns-clause-one c = λ range all part other. one_part (is_within range) all part other

pub returns-clause-bytes : goal.returns-clause-bytes
returns-clause-bytes c = λ key parts whole row. λ i. layout_of (row.files i) (row.xorbs i) (keyed_options key)
