use Rattle.std.proofs.Common.{◌≡◌, ℕ, [], ◌∷◌, refl, sym, ap, ◌∙◌, subst, inl, Ok, rules}
use Rattle.std.specs.Prelude.{IsTrue, IfSome}
use Rattle.std.proofs.lemmas.List.{nil_from_length}
use Rattle.std.proofs.lemmas.Iterator.{items_from_collect}
use Rattle.std.proofs.lemmas.Iterator.Consumers.{YieldsList-from_rest}
use Rattle.std.proofs.lemmas.Map.Entries.{All-lookup}
use Rattle.xet_shards.specs.Write.Tables.{hash_in}
use Rattle.placed_shards.proofs.Latest.{IsLatest, none_yet, replaced_few, stepped, passed, values_are, all_hold}
use Rattle.placed_shards.proofs.records.latest_of.Goals as goal

pub loop-given-init : goal.loop-given-init
loop-given-init g c =
    let K = g.R.SectionRecord.kind in
    let F = g.R.GivenRecord.IsFormed in
    let all = c.args.records.items in
    let rest : c.into_iter-given-iterator.result.rest.items ≡ all = search rules in
    subst (λ xs. IsLatest K F all xs c.new-latest.result.entries 0) (sym rest) (subst (λ es. IsLatest K F all all es 0) (sym c.new-latest.ensures.empty) (none_yet K F all))

pub rows_of-requires : goal.rows_of-requires
rows_of-requires g c =
    let K = g.R.SectionRecord.kind in
    let F = g.R.GivenRecord.IsFormed in
    subst (λ o. IfSome o F) (sym c.in_ok-replaced.ensures.old) (All-lookup F _ _ c.loop-given.invariant.formed)

pub overflow_sub-rows : goal.overflow_sub-rows
overflow_sub-rows g c =
    let K = g.R.SectionRecord.kind in
    let F = g.R.GivenRecord.IsFormed in
    let given = c.in-Some.given in
    let left : c.loop-given.given-iterator.rest.items ≡ given ∷ c.next.new.self.rest.items = search rules in
    let is : IsTrue c.is_well_formed.result = search rules in
    let formed : F given = c.is_well_formed.ensures.0 is in
    let hash : c.hash.result ≡ hash_in K given = c.hash.ensures ∙ ap K.hash_of c.header-header.ensures in
    let words = c.rows_after.ensures.rows ∙ ap K.rows_after c.header-header.ensures in
    replaced_few K F g.met.R.GivenRecord.rows c.args.records.items c.next.new.self.rest.items c.loop-given.given-iterator.rest.items given c.loop-given.latest.entries c.loop-given.rows c.rows_after.result
    c.rows_of.result c.hash.result c.in_ok-replaced.replaced c.loop-given.invariant left formed hash words c.in_ok-replaced.ensures.old c.rows_of.ensures

pub returns-then-rows-gt-ROW_LIMIT-clause-admitted : goal.returns-then-rows-gt-ROW_LIMIT-clause-admitted
returns-then-rows-gt-ROW_LIMIT-clause-admitted g c =
    let K = g.R.SectionRecord.kind in
    let F = g.R.GivenRecord.IsFormed in
    let given = c.in-Some.given in
    let left : c.loop-given.given-iterator.rest.items ≡ given ∷ c.next.new.self.rest.items = search rules in
    let is : IsTrue c.is_well_formed.result = search rules in
    let formed : F given = c.is_well_formed.ensures.0 is in
    let hash : c.hash.result ≡ hash_in K given = c.hash.ensures ∙ ap K.hash_of c.header-header.ensures in
    let words = c.rows_after.ensures.rows ∙ ap K.rows_after c.header-header.ensures in
    inl (
      refl,
      passed K F g.met.R.GivenRecord.rows c.args.records.items c.next.new.self.rest.items c.loop-given.given-iterator.rest.items given c.loop-given.latest.entries c.loop-given.rows c.rows_after.result
          c.rows_of.result c.hash.result c.in_ok-replaced.replaced c.loop-given.invariant left formed hash words c.in_ok-replaced.ensures.old c.rows_of.ensures
          c.insert.new.self.entries c.in_ok-replaced.ensures.entries c.if-rows-gt-ROW_LIMIT.true,
    )

pub loop-given-preserved : goal.loop-given-preserved
loop-given-preserved g c =
    let K = g.R.SectionRecord.kind in
    let F = g.R.GivenRecord.IsFormed in
    let given = c.in-Some.given in
    let left : c.loop-given.given-iterator.rest.items ≡ given ∷ c.next.new.self.rest.items = search rules in
    let is : IsTrue c.is_well_formed.result = search rules in
    let formed : F given = c.is_well_formed.ensures.0 is in
    let hash : c.hash.result ≡ hash_in K given = c.hash.ensures ∙ ap K.hash_of c.header-header.ensures in
    let words = c.rows_after.ensures.rows ∙ ap K.rows_after c.header-header.ensures in
    stepped K F g.met.R.GivenRecord.rows c.args.records.items c.next.new.self.rest.items c.loop-given.given-iterator.rest.items given c.loop-given.latest.entries c.loop-given.rows c.rows_after.result
    c.rows_of.result c.hash.result c.in_ok-replaced.replaced c.loop-given.invariant left formed hash words c.in_ok-replaced.ensures.old c.rows_of.ensures
    c.insert.new.self.entries c.in_ok-replaced.ensures.entries (search rules)

pub returns-clause-latest : goal.returns-clause-latest
returns-clause-latest g c =
    let K = g.R.SectionRecord.kind in
    let F = g.R.GivenRecord.IsFormed in
    let left = c.loop-given.given-iterator.rest in
    let none : left.items ≡ [] = nil_from_length left.items (sym left.ok.0 ∙ c.in-None.ensures.steps.0) in
    let before = subst (λ xs. IsLatest K F c.args.records.items xs c.loop-given.latest.entries c.loop-given.rows) none c.loop-given.invariant in
    items_from_collect {E = ℕ} (Ok c.in_ok-collect.field-0) c.in_ok-collect.ensures.ran (YieldsList-from_rest _ c.into_values.ensures.rest)
    ∙ values_are K F c.args.records.items c.loop-given.latest.entries c.loop-given.rows before

pub returns-clause-holds : goal.returns-clause-holds
returns-clause-holds g c =
    let K = g.R.SectionRecord.kind in
    let F = g.R.GivenRecord.IsFormed in
    let left = c.loop-given.given-iterator.rest in
    let none : left.items ≡ [] = nil_from_length left.items (sym left.ok.0 ∙ c.in-None.ensures.steps.0) in
    let before = subst (λ xs. IsLatest K F c.args.records.items xs c.loop-given.latest.entries c.loop-given.rows) none c.loop-given.invariant in
    all_hold K F c.args.records.items c.loop-given.latest.entries c.loop-given.rows before
