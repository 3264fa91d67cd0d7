-- What is printed of runs and buffers.
use Rattle.std.specs.Prelude.{ℕ, ◌+◌, nat_le, List, [], ◌∷◌, length, slice_range, Option, None, Some, codes, option_and_then, if◌then◌else◌}
use Rattle.std.specs.BTreeMap.{BTreeMap}
use Rattle.std.specs.Fmt.{decimal}
use Rattle.std.specs.declared.string.String.{String}
use Rattle.std.specs.declared.vec.Vec.{Vec}
use Rattle.script_lines.specs.declared.ranges.ByteRange.{ByteRange}
use Rattle.script_lines.specs.Printed.{printed_line}
use Rattle.xet_core_structures.specs.declared.file_structs.FileDataSequenceEntry.{FileDataSequenceEntry}
use Rattle.xet_core_structures.specs.Hex.{hash_hex}
use Rattle.shardtool.specs.NamedTrees.{bytes_under}

-- the line of a run: how many chunks it has, their xorb, the index of the first of them, that after
-- the last, and their bytes
abbrev pub run_line : ℕ → FileDataSequenceEntry → List ℕ
run_line count s =
    printed_line (codes "run" ∷ decimal count ∷ hash_hex s.xorb_hash ∷ decimal s.chunk_index_start
    ∷ decimal s.chunk_index_end ∷ decimal s.unpacked_segment_bytes ∷ [])

-- the bytes in a range, if it ends within the bytes; with no range, all bytes
abbrev pub part_in : Option ByteRange → List ℕ → Option (List ℕ)
part_in None bytes = Some bytes
part_in (Some range) bytes =
    if nat_le (range.from + range.len) (length bytes)
    then Some (slice_range bytes range.from (range.from + range.len)) else None

-- the bytes of a buffer in a range, if there is such a buffer, and the range ends within it
abbrev pub part_under : {Y Z : Type 0} → BTreeMap (String Y) (Vec ℕ Z) → List ℕ → Option ByteRange
    → Option (List ℕ)
part_under buffers name range = option_and_then (part_in range) (bytes_under buffers name)
