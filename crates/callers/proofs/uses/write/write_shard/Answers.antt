use Rattle.std.proofs.Common.{◌≡◌, ap, ◌∙◌}
use Rattle.xet_core_structures.specs.ChunkLookup.{ShardWithLookup}
use Rattle.xet_core_structures.specs.Shard.{add_file, add_xorb, empty_shard}
use Rattle.callers.proofs.Callers.{written_alone}
use Rattle.callers.proofs.uses.write.write_shard.Goals as goal

pub returns-clause-written : goal.returns-clause-written
returns-clause-written c =
    let same : c.add_xorb_block.new.self.content ≡ add_xorb (add_file empty_shard c.args.file) c.args.xorb =
    c.in_ok-add_xorb_block.ensures.ok ∙ ap (λ s. add_xorb s c.args.xorb) (c.in_ok-add_file_reconstruction_info.ensures.ok ∙ ap (λ (s : ShardWithLookup). add_file s.content c.args.file) c.new-shard.ensures) in
    written_alone _ _ c.to_bytes.result same c.to_bytes.ensures.ok c.to_bytes.ensures.shard
