use Rattle.std.specs.Prelude.{Contains, ◌++◌}
use Rattle.std.proofs.lemmas.List.Elements.{Contains-append_left}
use Rattle.xet_shards.proofs.Content.Joins.{join-unique, join-append}
use Rattle.xet_shards.proofs.Content.AgreeingJoins.{joins_exist, lists_agree, fewer_if_more}
use Rattle.xet_core_structures.proofs.laws.joins_exist.Goals as goal

pub returns-clause-exists : goal.returns-clause-exists
returns-clause-exists c = joins_exist

pub returns-clause-one : goal.returns-clause-one
returns-clause-one c = λ shards. join-unique (Contains shards)

pub returns-clause-union : goal.returns-clause-union
returns-clause-union c = λ xs ys a b d agree first second union. join-append xs ys a b d first second (lists_agree xs ys a b first second agree) union

pub returns-clause-few : goal.returns-clause-few
returns-clause-few c = λ xs ys a d first join. fewer_if_more (Contains xs) (Contains (xs ++ ys)) a d first join (λ s. Contains-append_left xs ys s)
