use Rattle.std.proofs.Common.{arith, ◌∙◌, sym, bit_and}
use Rattle.std.proofs.lemmas.Bool.Decides.{nat_tests}
use Rattle.xet_records.specs.Part.{announces}
use Rattle.xet_records.proofs.PartSets.{is_set, common_if_superset, superset_if_common}
use Rattle.xet_records.proofs.file_structs.part.Parts.is_superset.Goals as goal

pub returns : goal.returns
returns c =
    let self_is = sym c.self.view_is in
    let other_is = sym c.other.view_is in
    let set = is_set c.args.self (announces c.self.inside.flags) (self_is ∙ c.self.invariant) in
    let other_set = is_set c.args.other (announces c.other.inside.flags) (other_is ∙ c.other.invariant) in (
      λ same. superset_if_common c.args.self c.args.other set ((λ i. bit_and (self_is i) (other_is i)) ∙ grind (arith, nat_tests, same) ∙ sym other_is),
      λ each.
          let common = (λ i. bit_and (sym self_is i) (sym other_is i)) ∙ common_if_superset c.args.self c.args.other set other_set each ∙ other_is in
          grind (arith, nat_tests, common),
    )
