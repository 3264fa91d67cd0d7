use Rattle.std.proofs.Common.{rules}
use Rattle.xet_records.proofs.file_structs.rows.HashRowRow.widths.Goals as goal

pub returns : goal.returns
returns c = record {
  hash = search rules;
  unused = record { first = c.two_words.result.0; second = c.two_words.result.1; words_are = c.two_words.ensures; first_fits = search rules; second_fits = search rules };
}
