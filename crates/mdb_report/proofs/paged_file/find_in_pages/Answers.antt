use Rattle.std.proofs.Common.{◌≡◌, None, sym, ap, ◌∙◌, subst}
use Rattle.xet_core_structures.specs.Source.{Source}
use Rattle.mdb_report.specs.Lookups.{FindFileFails}
use Rattle.mdb_report.specs.Pages.{bytes_in}
use Rattle.mdb_report.proofs.paged_file.find_in_pages.Goals as goal

pub returns-in-None : goal.returns-in-None
returns-in-None g c =
    let s = c.in_source.new.source.source in
    let paged : Source = record {
      bytes = bytes_in g.U.Unread.bytes s.pages.now;
      at = s.at;
      seeks = s.seeks.value;
      read = s.read.value;
      failures = s.failures.value;
      last_failure = s.last_failure;
    } in
    let none : s.missing ≡ None =
    sym (ap (λ b. b.missing) c.inner.ensures) ∙ sym c.missing_page.ensures ∙ c.in-None.is in
    let fails =
    subst (λ before. FindFileFails c.args.info.now c.args.hash before paged c.in-Err.error)
    (c.new-source.ensures ∙ c.new.ensures) c.in-Err.ensures in
    (paged, s.works none, fails)
