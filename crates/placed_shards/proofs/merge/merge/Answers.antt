use Rattle.std.proofs.Common.{ℕ, List, map}
use Rattle.std.specs.Borrow.{Bor}
use Rattle.placed_shards.proofs.Merges.{contents, lenient, one_string}
use Rattle.placed_shards.proofs.MergeSizes.{size_if_made}
use Rattle.placed_shards.proofs.merge.merge.Goals as goal

pub returns-clause-any_bytes : goal.returns-clause-any_bytes
returns-clause-any_bytes c =
    let inputs : List (List ℕ) = map (λ (x : Bor (List ℕ)). x.now) c.args.inputs.now in
    lenient c.args.selection.now inputs c.merge_halves.result c.merge_halves.ensures

pub returns-clause-one_byte_string : goal.returns-clause-one_byte_string
returns-clause-one_byte_string c = λ key parts join list.
    let inputs : List (List ℕ) = map (λ (x : Bor (List ℕ)). x.now) c.args.inputs.now in
    one_string key c.args.selection.now inputs parts join list c.merge_halves.result (contents c.args.selection.now inputs c.merge_halves.result (returns-clause-any_bytes c))

pub returns-clause-size : goal.returns-clause-size
returns-clause-size c =
    let inputs : List (List ℕ) = map (λ (x : Bor (List ℕ)). x.now) c.args.inputs.now in
    size_if_made c.args.selection.now inputs c.merge_halves.result (contents c.args.selection.now inputs c.merge_halves.result (returns-clause-any_bytes c))
