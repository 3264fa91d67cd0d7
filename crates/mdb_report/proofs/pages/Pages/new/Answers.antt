use Rattle.std.proofs.Common.{◌≡◌, ℕ, replicate, is_some, None, Some, false, refl, sym, ap, ◌∙◌, subst, arith, true≢false}
use Rattle.std.specs.Prelude.{Option, unwrap_or, slice_get}
use Rattle.std.proofs.lemmas.List.{get_or-replicate, length-replicate}
use Rattle.std.proofs.lemmas.Option.{slice_get_within, unwrap_or-slice_get}
use Rattle.mdb_report.specs.declared.pages.Page.{Page}
use Rattle.mdb_report.specs.Pages.{is_page}
use Rattle.mdb_report.proofs.pages.Pages.new.Goals as goal

abbrev no_page : Option Page
no_page = None

none_there : (n number : ℕ) (o : Option (Option Page)) → slice_get (replicate n no_page) number ≡ o → is_page o ≡ false
none_there n number None is = refl
none_there n number (Some None) is = refl
none_there n number (Some (Some page)) is =
    let within = slice_get_within (replicate n no_page) number (Some page) is in
    let none : Some page ≡ no_page = sym (ap (λ o. unwrap_or o no_page) is) ∙ unwrap_or-slice_get (replicate n no_page) number no_page
    ∙ get_or-replicate n number no_page no_page (omega (arith, within, length-replicate n no_page)) in
    absurd (true≢false (ap is_some none))

pub returns-clause-none : goal.returns-clause-none
returns-clause-none c = λ number. subst (λ items. is_page (slice_get items number) ≡ false) (sym c.loop.invariant) (none_there c.loop.counter number _ refl)
