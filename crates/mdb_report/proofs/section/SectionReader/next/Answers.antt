use Rattle.std.proofs.Common.{◌≡◌, ℕ, ◌<◌, Ok, Err, sym, subst, ◌∙◌, arith}
use Rattle.std.specs.declared.result.Result.{Result}
use Rattle.std.specs.Result.{OkIff, result_unwrap_or}
use Rattle.std.proofs.lemmas.Result.{err_from_is_err_and}
use Rattle.xet_records.specs.RecordKind.{in_version}
use Rattle.mdb_report.specs.SectionWalks.{ReadsNext}
use Rattle.mdb_report.proofs.Reading.{no_more_rows}
use Rattle.mdb_report.proofs.section.SectionReader.next.Goals as goal

-- a number that fits the type comes back
comes_back : {E : Type 0} (r : Result ℕ E) (n : ℕ) → OkIff r (n < 4294967296) n → n < 4294967296 → n ≡ result_unwrap_or r 0
comes_back (Ok v) n is fits = grind (arith, is, fits)
comes_back (Err e) n is fits = grind (arith, is, fits)

pub returns-in_err-record-clause-read : goal.returns-in_err-record-clause-read
returns-in_err-record-clause-read g c =
    let p = err_from_is_err_and c.from_residual.result c.from_residual.ensures.1 in
    rw (p.1, p.2) (rw c.from-rows.ensures at c.in_err-record.ensures)

pub returns-clause-read : goal.returns-clause-read
returns-clause-read g c =
    let K = g.T.SectionRecord.kind in
    let s = c.args.self.now in
    let left = c.read_record.new.rows_left in
    let bound = no_more_rows (in_version K s.version) _ _ left c.in_ok-record.record c.in_ok-record.ensures in
    let fits : left < 4294967296 = grind (arith, bound, c.from-rows.ensures) in
    subst (λ n. ReadsNext K g.R.Read.remaining s.version s.rows_left s.reader c.read_record.new.input n c.in_ok-record.record)
    (comes_back c.try_from.result left c.try_from.ensures fits ∙ sym c.unwrap_or-self.ensures) (rw c.from-rows.ensures at c.in_ok-record.ensures)
