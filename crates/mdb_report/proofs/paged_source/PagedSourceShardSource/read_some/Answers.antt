use Rattle.std.proofs.Common.{rules, ◌≡◌, ◌+◌, ◌*◌, ◌/◌, ◌%◌, ◌<◌, ◌≤◌, sym, ◌∙◌, arith}
use Rattle.std.proofs.lemmas.Nat.{div-add-mod'}
use Rattle.mdb_report.proofs.PageBytes.{size_of, bytes_of_page}
use Rattle.mdb_report.proofs.paged_source.PagedSourceShardSource.read_some.Goals as goal

pub returns-clause-reads : goal.returns-clause-reads
returns-clause-reads g c =
    let s = c.args.self.now in
    let ps = s.pages.now in
    let unread = g.U.Unread.bytes in
    let e = c.copy_from-n.ensures in
    let n = c.copy_from-n.result in
    let apart : s.at ≡ s.at / 16384 * 16384 + s.at % 16384 = sym (div-add-mod' s.at 16384) in
    let before : s.at < ps.size = search rules in
    let within : s.at + n ≤ ps.size = omega (arith, before, e.most) in
    record {
      fits = omega (arith, e.fits, e.len);
      within = λ some. omega (arith, size_of unread ps, within);
      filled = e.filled ∙ sym (bytes_of_page unread ps c.in-Some.page s.at (s.at / 16384) (s.at % 16384) n (search rules) (search rules) apart e.within within);
      end = λ none some. absurd (omega (arith, none, before, e.some (omega (arith, some, e.len)) (omega (arith, before))));
      after = search rules;
    }
