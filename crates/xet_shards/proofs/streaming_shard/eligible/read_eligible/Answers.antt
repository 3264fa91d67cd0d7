use Rattle.std.proofs.Common.{ap, ◌∙◌}
use Rattle.std.proofs.lemmas.Result.{err_from_is_err_and}
use Rattle.xet_shards.specs.StreamingShard.MinimalShard.{has_start}
use Rattle.xet_shards.specs.StreamingShard.MinimalReading.SectionsNotRead.{no_files}
use Rattle.xet_shards.proofs.StreamingShard.MinimalReading.{eligible_sections}
use Rattle.xet_shards.proofs.streaming_shard.eligible.read_eligible.Goals as goal

pub returns-in_err-starts : goal.returns-in_err-starts
returns-in_err-starts g c =
    let p = err_from_is_err_and c.from_residual.result c.from_residual.ensures.1 in
    rw (p.1, p.2) (no_files c.in_err-starts.ensures)

pub returns : goal.returns
returns g c =
    let files = c.in_ok-starts.ensures in
    eligible_sections g.I.ByteInput.reads g.I.ByteInput.fails c.args.version _ c.read_starts.new.input _ files.0 _ files.1 (ap has_start c.as_slice.ensures.value ∙ files.2) c.read_eligible_after.result
    c.read_eligible_after.ensures
