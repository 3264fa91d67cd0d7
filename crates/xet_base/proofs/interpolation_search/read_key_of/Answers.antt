use Rattle.std.proofs.Common.{refl, ap, ◌∙◌}
use Rattle.xet_base.specs.Source.{after_seek}
use Rattle.xet_base.specs.Steps.SearchSteps.{table_in}
use Rattle.xet_base.proofs.Search.Steps.{key_read}
use Rattle.xet_base.proofs.interpolation_search.read_key_of.Goals as goal

pub returns : goal.returns
returns g c =
    let old = g.S.ShardSource.meaning c.args.source.now in
    key_read (table_in c.args.range old.bytes) c.args.row old _ _ c.read_key.result refl c.requires
    (c.in_ok-seek_to.ensures ∙ ap (after_seek old) c.row_offset.ensures) c.read_key.ensures
