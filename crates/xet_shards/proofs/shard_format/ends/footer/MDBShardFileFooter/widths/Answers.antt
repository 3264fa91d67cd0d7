use Rattle.std.proofs.Common.{rules, ◌<◌, ◌^◌, ℕ, List}
use Rattle.std.specs.Prelude.{All}
use Rattle.std.specs.List.{AllByRecursion}
use Rattle.std.proofs.lemmas.List.Elements.{All-from_recursion}
use Rattle.xet_shards.specs.Write.Layout.{offsets_of, timestamps_of, sums_of}
use Rattle.xet_shards.proofs.shard_format.ends.footer.MDBShardFileFooter.widths.Goals as goal

all_fit : (words : List ℕ) → AllByRecursion (λ n. n < 2 ^ 64) words → All (λ n. n < 2 ^ 64) words
all_fit words fit = All-from_recursion (λ n. n < 2 ^ 64) words fit

pub returns : goal.returns
returns c = record {
  offsets = all_fit (offsets_of c.args.self) (search rules);
  key = search rules;
  timestamps = all_fit (timestamps_of c.args.self) (search rules);
  buffer_size = search rules;
  buffer = all_fit c.args.self._buffer (rw c.six_words.ensures (search rules));
  sums = all_fit (sums_of c.args.self) (search rules);
}
