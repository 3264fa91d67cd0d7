use Rattle.std.proofs.Common.{◌≡◌, ◌++◌, map, refl, sym, ◌∙◌, subst}
use Rattle.placed_shards.specs.declared.findings.RecordHash.TheVariants.{File, Xorb}
use Rattle.placed_shards.specs.Content.{content}
use Rattle.placed_shards.specs.Findings.{HasAllDisagreements}
use Rattle.placed_shards.specs.Steps.Differing.{disagreement_of}
use Rattle.placed_shards.proofs.Disagreements.{all_disagreements, files_ascend, xorbs_ascend}
use Rattle.placed_shards.proofs.findings.disagreements_of.Goals as goal

pub find_differing-requires : goal.find_differing-requires
find_differing-requires c = λ k. ((refl, tt), files_ascend c.args.shards.now c.requires)

pub find_differing-requires-2 : goal.find_differing-requires-2
find_differing-requires-2 c = λ k. ((refl, tt), xorbs_ascend c.args.shards.now c.requires)

pub returns : goal.returns
returns c =
    let files = c.in_ok-files.files.items in
    let xorbs = c.in_ok-xorbs.xorbs.items in
    let found_is : c.add_all-2.new.found.items ≡ map (disagreement_of File) files ++ map (disagreement_of Xorb) xorbs =
    c.in_ok-add_all-2.ensures.ok ∙ (λ i. (c.in_ok-add_all.ensures.ok ∙ (λ j. c.new-found.ensures.items j ++ map (disagreement_of File) (c.as_slice.ensures.value j))) i ++ map (disagreement_of Xorb) (c.as_slice-2.ensures.value i)) in
    subst (HasAllDisagreements (map content c.args.shards.now)) (sym found_is) (all_disagreements c.args.shards.now c.requires files xorbs c.in_ok-files.ensures c.in_ok-xorbs.ensures)
