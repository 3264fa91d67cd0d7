use Rattle.std.proofs.Common.{rules, ◌++◌, sym, ap, ◌∙◌, subst}
use Rattle.std.specs.Io.KnownBytes.{Consumes}
use Rattle.std.proofs.KnownBytes.{Consumes-trans}
use Rattle.std.proofs.lemmas.Result.{err_from_is_err_and}
use Rattle.xet_base.proofs.Errors.{end_from_device}
use Rattle.xet_shards.proofs.Ends.Ends.{unsupported_footer, cut_footer}
use Rattle.xet_shards.proofs.Ends.EndsUnique.{footer_again}
use Rattle.xet_shards.proofs.shard_format.ends.footer.MDBShardFileFooter.deserialize.Goals as goal

pub returns-in_err-check_version-clause-unsupported : goal.returns-in_err-check_version-clause-unsupported
returns-in_err-check_version-clause-unsupported g c =
    let p = err_from_is_err_and c.from_residual-in_err-check_version.result c.from_residual-in_err-check_version.ensures.1 in
    rw (p.1)
    (λ _. unsupported_footer _ (g.R.Read.remaining c.read_bytes.new.reader) _ (search rules) c.in_ok-read_bytes.ensures.value c.in_err-check_version.ensures.err.1)

pub returns-in_err-read_bytes-2-clause-end : goal.returns-in_err-read_bytes-2-clause-end
returns-in_err-read_bytes-2-clause-end g c =
    let p = err_from_is_err_and c.from_residual-in_err-read_bytes-2.result c.from_residual-in_err-read_bytes-2.ensures.1 in
    rw (p.1)
    (λ ended. cut_footer _ (g.R.Read.remaining c.read_bytes.new.reader) _ c.in_ok-check_version.ensures.ok c.in_ok-read_bytes.ensures.value
    (c.in_err-read_bytes-2.ensures.end (end_from_device _ _ p.2 ended)))

pub returns-clause-again : goal.returns-clause-again
returns-clause-again g c =
    let taken = Consumes-trans (g.R.Read.remaining c.args.reader.now) (g.R.Read.remaining c.read_bytes.new.reader) (g.R.Read.remaining c.read_bytes-2.new.reader) _ _ c.in_ok-read_bytes.ensures.value c.in_ok-read_bytes-2.ensures.value in
    λ f rest one fits are.
    footer_again (g.R.Read.remaining c.args.reader.now) (g.R.Read.remaining c.read_bytes-2.new.reader) c.after_version.result f rest c.after_version.ensures.widths fits are
    (subst (Consumes (g.R.Read.remaining c.args.reader.now) (g.R.Read.remaining c.read_bytes-2.new.reader)) (ap (λ v. v ++ c.read_bytes-2.new.slice) c.in_ok-check_version.ensures.ok ∙ sym c.after_version.ensures.bytes) taken)
