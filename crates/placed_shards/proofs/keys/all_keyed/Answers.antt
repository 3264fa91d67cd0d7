use Rattle.std.proofs.Common.{◌≡◌, ◌<◌, true, length, set, sym, ap, ◌∙◌, arith, rules}
use Rattle.std.proofs.lemmas.List.Edits.{map_over_more}
use Rattle.xet_base.specs.Hash.{hash_eq}
use Rattle.xet_base.specs.KeyedHash.{no_key}
use Rattle.xet_shards.specs.Export.KeyedExport.{keyed_xorb}
use Rattle.placed_shards.proofs.Keyed.{xorbs_as_they_are}
use Rattle.placed_shards.proofs.keys.all_keyed.Goals as goal

pub returns-then-eq : goal.returns-then-eq
returns-then-eq c =
    let none : hash_eq c.args.key no_key ≡ true = grind (arith, c.eq.ensures, c.if-eq.true, c.default.ensures) in
    sym (xorbs_as_they_are c.args.key none c.args.xorbs.items)

pub loop-index-preserved : goal.loop-index-preserved
loop-index-preserved c =
    let old = c.loop-index.xorbs.items in
    let i = c.loop-index.index in
    let within : i < length c.args.xorbs.items = search rules in
    ap (set old i) c.in_ok-xorbs.ensures ∙ map_over_more (keyed_xorb c.args.key) c.args.xorbs.items old i c.index.result.now within c.loop-index.invariant c.index.ensures
