use Rattle.std.proofs.Common.{◌≡◌, Bor, ℕ, List, length, map, subst, sym, ◌∙◌, true}
use Rattle.placed_shards.specs.Content.{content}
use Rattle.placed_shards.specs.MergeSizes.{IsResultSize}
use Rattle.placed_shards.specs.Strict.{IsAgreedOr, IsJoinedMerge}
use Rattle.placed_shards.proofs.MergeSizes.{size_of_merge}
use Rattle.xet_c.proofs.merge.fill_if_agreeing.Goals as goal

pub returns-in-Made-clause-size : goal.returns-in-Made-clause-size
returns-in-Made-clause-size c =
    let inputs : List (List ℕ) = map (λ (x : Bor (List ℕ)). x.now) c.args.shards.now in
    let asked = c.args.asked.now in
    let made = content c.in-Made.made in
    let agreed = subst (IsAgreedOr asked inputs (λ made. (made.as_read ≡ true) × IsJoinedMerge asked inputs (content made))) c.in-Made.is c.in_ok-made.ensures in
    let (bytes, written, (is, filled)) = c.in_ok-write_into-in-Made.ensures in
    subst (IsResultSize inputs) (sym (is ∙ λ i. length (written.1 i))) (size_of_merge asked inputs made agreed.1.1.merge c.in_ok-version.version)
