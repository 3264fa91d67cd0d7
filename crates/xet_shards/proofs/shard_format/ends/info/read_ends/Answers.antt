use Rattle.std.proofs.Common.{rules}
use Rattle.std.specs.declared.io.Error.{Error}
use Rattle.xet_base.specs.declared.error.CoreError.{CoreError}
use Rattle.xet_shards.proofs.Ends.Loading.{no_length, short_of_footer, no_seek, not_footer, found_both}
use Rattle.xet_shards.proofs.shard_format.ends.info.read_ends.Goals as goal

pub returns-in_err-length : goal.returns-in_err-length
returns-in_err-length g c =
    let old = g.S.ShardSource.meaning c.args.source.now in
    search (rules, λ (f : Error) (e : CoreError). no_length old _ _ _ c.in_ok-seek_to.ensures c.in_ok-header.ensures.read (g.S.ShardSource.meaning c.length.new.self) f e)

pub returns-then-length-lt-FOOTER_SIZE : goal.returns-then-length-lt-FOOTER_SIZE
returns-then-length-lt-FOOTER_SIZE g c =
    let header = c.in_ok-header.ensures in
    short_of_footer (g.S.ShardSource.meaning c.args.source.now) _ _ _ c.in_ok-seek_to.ensures header.read _ _ c.in_ok-length.ensures header.known.1 _ (search rules)
    c.if-length-lt-FOOTER_SIZE.true

pub returns-in_err-seek_to-2 : goal.returns-in_err-seek_to-2
returns-in_err-seek_to-2 g c =
    let header = c.in_ok-header.ensures in
    let old = g.S.ShardSource.meaning c.args.source.now in
    search (
      rules,
      λ (f : Error) (e : CoreError). no_seek old _ _ _ c.in_ok-seek_to.ensures header.read _ _ c.in_ok-length.ensures header.known.1
          (g.S.ShardSource.meaning c.seek_to-2.new.self) f e,
    )

pub returns-in_err-metadata : goal.returns-in_err-metadata
returns-in_err-metadata g c =
    let header = c.in_ok-header.ensures in
    search (
      rules,
      not_footer (g.S.ShardSource.meaning c.args.source.now) _ _ _ c.in_ok-seek_to.ensures header.read _ _ c.in_ok-length.ensures header.known.1
          _ c.in_ok-seek_to-2.ensures c.if-length-lt-FOOTER_SIZE.false _ _ c.in_err-metadata.ensures.refused,
    )

pub returns : goal.returns
returns g c =
    let header = c.in_ok-header.ensures in
    let footer = c.in_ok-metadata.ensures in
    found_both (g.S.ShardSource.meaning c.args.source.now) _ _ _ c.in_ok-seek_to.ensures header.read _ _ c.in_ok-length.ensures header.known.1 _ c.in_ok-seek_to-2.ensures
    c.if-length-lt-FOOTER_SIZE.false _ _ header.known.0 header.known.2 footer.known.0 footer.known.1 footer.read
