use Rattle.std.proofs.Common.{◌++◌, sym, ap, ◌∙◌, subst}
use Rattle.xet_base.specs.Source.{ReadsBytes}
use Rattle.xet_base.specs.InputLaws.{ReadsBytes-trans}
use Rattle.xet_shards.proofs.shard_format.ends.info.read_footer.Goals as goal

pub returns-clause-read : goal.returns-clause-read
returns-clause-read g c =
    subst (ReadsBytes (g.S.ShardSource.meaning c.args.source.now) (g.S.ShardSource.meaning c.read_full-2.new.source))
    (ap (λ bs. bs ++ c.read_full-2.new.slice) c.in_ok-check_version.ensures.ok ∙ sym c.after_version.ensures.bytes)
    (ReadsBytes-trans _ (g.S.ShardSource.meaning c.read_full.new.source) _ _ _ c.in_ok-read_full.ensures c.in_ok-read_full-2.ensures)
