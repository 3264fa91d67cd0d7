use Rattle.std.proofs.Common.{length, arith}
use Rattle.std.proofs.lemmas.Result.{err_from_is_err_and}
use Rattle.xet_base.specs.Bytes.{u64_bytes}
use Rattle.xet_base.proofs.Bytes.{length-u64_bytes}
use Rattle.xet_base.proofs.Reading.{numbers_end, numbers_enough}
use Rattle.xet_base.proofs.serialization_utils.read_u64s.Goals as goal

pub returns-in_err-value-clause-end : goal.returns-in_err-value-clause-end
returns-in_err-value-clause-end g c =
    let p = err_from_is_err_and c.from_residual.result c.from_residual.ensures.1 in
    rw (p.1, p.2) (λ ended. numbers_end u64_bytes 8 length-u64_bytes _ (g.R.Read.remaining c.loop-value.reader) c.loop-value.values c.loop-value.value-index
    (length c.args.values.now) (omega arith) c.loop-value.invariant (c.in_err-value.ensures.end ended))

pub returns-clause-enough : goal.returns-clause-enough
returns-clause-enough g c =
    numbers_enough u64_bytes 8 length-u64_bytes _ (g.R.Read.remaining c.loop-value.reader) c.loop-value.values c.loop-value.value-index (length c.args.values.now)
    (omega arith) (omega arith) c.loop-value.invariant
