use Rattle.std.proofs.Common.{◌≡◌, ◌∙◌, ap, refl, subst, length, arith}
use Rattle.std.specs.FinMap.{values}
use Rattle.xet_base.specs.declared.merklehash.DataHash.{DataHash}
use Rattle.xet_base.specs.KeyedHash.{under_key}
use Rattle.xet_shards.specs.declared.shard_format.ends.footer.MDBShardFileFooter.{MDBShardFileFooter}
use Rattle.xet_shards.specs.Write.Layout.{plain_options_in}
use Rattle.xet_shards.specs.Lookup.Lookup.{chunk_lookup_table, IsRowAndIndex, Searches}
use Rattle.xet_shards.specs.Lookup.WrittenChunks.{FindsRows}
use Rattle.xet_shards.proofs.Lookup.ChunkTables.{chunk_index_written, chunk_search_costs}
use Rattle.xet_shards.proofs.Write.WithOptions.{shard_with_options}
use Rattle.xet_shards.proofs.shard_format.ends.info.MDBShardInfo.get_xorb_info_index_by_chunk.Goals as goal

-- the word that is looked up
word_is : (g : _) (c : goal.After-search_table g) → c.truncate_hash-word.result ≡ (under_key c.args.self.now.metadata.chunk_hash_hmac_key c.args.unkeyed_hash.now).word0
word_is g c = c.truncate_hash-word.ensures ∙ ap (λ (h : DataHash). h.word0) c.keyed_chunk_hash.ensures

pub returns-clause-looks : goal.returns-clause-looks
returns-clause-looks g c =
    let old = g.S.ShardSource.meaning c.args.source.now in
    let new = g.S.ShardSource.meaning c.search_table.new.source in
    let t = chunk_lookup_table c.args.self.now.metadata old in
    let dest = c.args.dest.now in
    let eight : length dest ≡ 8 = omega arith in
    subst (λ w. Searches t w IsRowAndIndex 8 dest c.search_table.new.dest old new c.search_table.result) (word_is g c)
    (subst (λ room. Searches t c.truncate_hash-word.result IsRowAndIndex room dest c.search_table.new.dest old new c.search_table.result) eight c.search_table.ensures)

pub returns-clause-with_options : goal.returns-clause-with_options
returns-clause-with_options g c files xorbs options is with_table =
    let old = g.S.ShardSource.meaning c.args.source.now in
    let new = g.S.ShardSource.meaning c.search_table.new.source in
    let footer = c.args.self.now.metadata in
    let word = (under_key footer.chunk_hash_hmac_key c.args.unkeyed_hash.now).word0 in
    let looks = returns-clause-looks g c in
    subst (λ (f : MDBShardFileFooter). FindsRows xorbs (under_key f.chunk_hash_hmac_key c.args.unkeyed_hash.now).word0 c.args.dest.now c.search_table.new.dest old new c.search_table.result) is.footer_is (record {
      answer = chunk_index_written files xorbs options old footer is with_table word new c.args.dest.now c.search_table.new.dest c.search_table.result looks.found looks.count looks.refused;
      costs = chunk_search_costs files xorbs options old footer is with_table word new looks.bounds;
    })

pub returns-clause-written : goal.returns-clause-written
returns-clause-written g c s is =
    returns-clause-with_options g c (values s.files) (values s.xorbs) (plain_options_in is.is_bytes.version is.is_bytes.expiry) (shard_with_options is) refl
