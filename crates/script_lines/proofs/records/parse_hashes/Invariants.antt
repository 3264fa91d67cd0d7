use Rattle.std.proofs.Common.{◌≡◌, length, take}
use Rattle.std.specs.List.{AllZip}
use Rattle.script_lines.specs.Commands.{texts}
use Rattle.script_lines.specs.Words.{SpellsHash}
use Rattle.script_lines.proofs.records.parse_hashes.Given as goal

abbrev pub invariant-loop-word : goal.invariant-loop-word
invariant-loop-word l = record {
  count : length l.hashes.items ≡ l.word-index;
  spelled : AllZip SpellsHash (texts (take l.word-index l.words)) l.hashes.items;
}
