use Rattle.std.proofs.Common.{length, sym, ap, ◌∙◌, true≢false}
use Rattle.std.specs.FinMap.{len, len-entries, len-empty, empty_of_len}
use Rattle.xet_base.specs.Hash.{hash_cmp}
use Rattle.xet_records.specs.declared.file_structs.MDBFileInfo.{MDBFileInfo}
use Rattle.xet_records.specs.declared.xorb_structs.MDBXorbInfo.{MDBXorbInfo}
use Rattle.xet_shards.specs.ShardInMemory.ChunkLookup.{ShardWithLookup}
use Rattle.xet_shards.specs.Content.Shard.{Shard}
use Rattle.xet_shards.proofs.ShardInMemory.Xorbs.{length-shown_entry}
use Rattle.xet_shards.proofs.shard_in_memory.MDBInMemoryShard.is_empty.Goals as goal

pub returns-then-is_empty : goal.returns-then-is_empty
returns-then-is_empty c =
    let files = ap length c.content.ensures.entries ∙ sym (len-entries c.self.inside.files) in
    let xorbs = sym (length-shown_entry c.content-then-is_empty.result.now.entries)
    ∙ ap length c.content-then-is_empty.ensures.entries ∙ sym (len-entries c.self.inside.xorbs.xorbs) in (
      λ yes. ap (λ (s : ShardWithLookup). s.content) (sym c.self.view_is)
          ∙ (λ i. record {
            files = empty_of_len c.self.inside.files (sym files ∙ c.is_empty.ensures.0 c.if-is_empty.true) i;
            xorbs = empty_of_len c.self.inside.xorbs.xorbs (sym xorbs ∙ c.is_empty-then-is_empty.ensures.0 yes) i;
          }),
      λ none. c.is_empty-then-is_empty.ensures.1
          (xorbs ∙ ap (λ (s : ShardWithLookup). len s.content.xorbs) c.self.view_is ∙ ap (λ (s : Shard). len s.xorbs) none ∙ len-empty hash_cmp MDBXorbInfo),
    )

pub returns-else-is_empty : goal.returns-else-is_empty
returns-else-is_empty c =
    let files = ap length c.content.ensures.entries ∙ sym (len-entries c.self.inside.files) in (
      λ yes. absurd (true≢false (sym yes ∙ c.if-is_empty.false)),
      λ none. c.is_empty.ensures.1 (files ∙ ap (λ (s : ShardWithLookup). len s.content.files) c.self.view_is ∙ ap (λ (s : Shard). len s.files) none ∙ len-empty hash_cmp MDBFileInfo),
    )
