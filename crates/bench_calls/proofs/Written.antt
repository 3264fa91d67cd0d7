-- What is written of a shard is the bytes of some shard.
use Rattle.std.proofs.Common.{◌≡◌, ℕ, Ok, Err, Result, IfOk, None}
use Rattle.std.specs.declared.vec.Vec.{Vec}
use Rattle.xet_core_structures.specs.declared.error.CoreError.{CoreError}
use Rattle.xet_core_structures.specs.Layout.{layout}
use Rattle.xet_core_structures.specs.Shard.{Shard, IsShard}
use Rattle.bench_calls.specs.Answers.{AreBytesOfSome}

pub some_shard : {Z : Type 0} (made : Result (Vec ℕ Z) CoreError) (s : Shard) → IfOk made (λ bytes. bytes.items ≡ layout s None)
    → IfOk made (λ bytes. IsShard s) → IfOk made (λ bytes. AreBytesOfSome bytes.items)
some_shard (Ok bytes) s are is = (s, is, are)
some_shard (Err e) s are is = tt
