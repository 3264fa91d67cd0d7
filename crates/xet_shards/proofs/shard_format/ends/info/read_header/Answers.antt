use Rattle.std.proofs.Common.{rules}
use Rattle.std.proofs.lemmas.Result.{IfOk-weaker, IfErr-weaker}
use Rattle.xet_shards.proofs.Ends.Loading.{read_in_two, other_version_read}
use Rattle.xet_shards.proofs.shard_format.ends.info.read_header.Goals as goal

pub returns-clause-read : goal.returns-clause-read
returns-clause-read g c =
    IfOk-weaker c.after_tag.result _ _
    (λ h known. read_in_two _ (g.S.ShardSource.meaning c.read_full.new.source) _ _ _ h c.in_ok-check_tag.ensures.ok known.2 c.in_ok-read_full.ensures c.in_ok-read_full-2.ensures)
    c.after_tag.ensures.ok

pub returns-clause-refused : goal.returns-clause-refused
returns-clause-refused g c =
    IfErr-weaker c.after_tag.result _ _
    (λ e unsupported. other_version_read _ (g.S.ShardSource.meaning c.read_full.new.source) _ _ _ e (search rules) (search rules) c.in_ok-read_full.ensures c.in_ok-read_full-2.ensures unsupported.0 unsupported.1)
    c.after_tag.ensures.err
