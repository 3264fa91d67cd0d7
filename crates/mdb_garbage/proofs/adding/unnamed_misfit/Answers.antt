use Rattle.std.proofs.Common.{◌≡◌, length, rules, sym, ap}
use Rattle.std.specs.Prelude.{Some}
use Rattle.std.proofs.lemmas.Option.{none-some, same_Some}
use Rattle.mdb_garbage.proofs.Emptied.{none_named, one_named}
use Rattle.mdb_garbage.proofs.adding.unnamed_misfit.Goals as goal

pub returns-then-is_empty : goal.returns-then-is_empty
returns-then-is_empty c = λ misfit.
    let empty : length c.naming_hash.result.now ≡ 0 = search rules in (
      λ is. (sym (same_Some _ misfit is), none_named c.args.segments.now.items.items c.naming_hash.result.now c.args.hash c.naming_hash.ensures empty),
      λ is. ap Some (sym is.0),
    )

pub returns-else-is_empty : goal.returns-else-is_empty
returns-else-is_empty c = λ misfit.
    let some : ¬ (length c.naming_hash.result.now ≡ 0) = search rules in (
      λ is. absurd (none-some misfit is),
      λ is. absurd (one_named c.args.segments.now.items.items c.naming_hash.result.now c.args.hash c.naming_hash.ensures some is.1),
    )
