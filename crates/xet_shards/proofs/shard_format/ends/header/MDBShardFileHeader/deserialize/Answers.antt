use Rattle.std.proofs.Common.{rules}
use Rattle.std.proofs.KnownBytes.{Consumes-trans}
use Rattle.std.proofs.lemmas.Result.{err_from_is_err_and}
use Rattle.xet_shards.proofs.Ends.Ends.{unsupported_tag}
use Rattle.xet_shards.proofs.Ends.EndsUnique.{header_read_again}
use Rattle.xet_shards.proofs.shard_format.ends.header.MDBShardFileHeader.deserialize.Goals as goal

pub returns-in_err-check_tag-clause-unsupported : goal.returns-in_err-check_tag-clause-unsupported
returns-in_err-check_tag-clause-unsupported g c =
    let p = err_from_is_err_and c.from_residual-in_err-check_tag.result c.from_residual-in_err-check_tag.ensures.1 in
    rw (p.1)
    (λ _. unsupported_tag _ (g.R.Read.remaining c.read_bytes.new.reader) _ (search rules) c.in_ok-read_bytes.ensures.value c.in_err-check_tag.ensures.err.1)

pub returns-clause-again : goal.returns-clause-again
returns-clause-again g c =
    header_read_again (g.R.Read.remaining c.args.reader.now) (g.R.Read.remaining c.read_bytes-2.new.reader) c.read_bytes.new.slice c.read_bytes-2.new.slice c.after_tag.result
    (Consumes-trans (g.R.Read.remaining c.args.reader.now) (g.R.Read.remaining c.read_bytes.new.reader) (g.R.Read.remaining c.read_bytes-2.new.reader) c.read_bytes.new.slice c.read_bytes-2.new.slice
    c.in_ok-read_bytes.ensures.value c.in_ok-read_bytes-2.ensures.value)
    c.in_ok-check_tag.ensures.ok c.after_tag.ensures.ok c.after_tag.ensures.width
