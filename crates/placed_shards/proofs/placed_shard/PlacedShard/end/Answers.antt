use Rattle.std.proofs.Common.{subst}
use Rattle.std.specs.Prelude.{All}
use Rattle.xet_records.specs.FileRecord.{IsStored}
use Rattle.xet_shards.specs.Write.Written.{HasWrittenFor}
use Rattle.placed_shards.specs.Content.{content}
use Rattle.placed_shards.proofs.Contents.{made_as, widths_of_files}
use Rattle.placed_shards.proofs.placed_shard.PlacedShard.end.Goals as goal

pub returns : goal.returns
returns c =
    let s = c.args.self.now in
    let fit = widths_of_files s.as_read s.files.items (subst (All IsStored) c.as_slice.ensures.value c.all_stored.ensures) in
    let xorbs = subst (HasWrittenFor s.options.chunk_table c.in_ok-xorbs.xorbs) c.as_slice-2.ensures.value c.in_ok-xorbs.ensures in
    made_as c.make.result _ _ _ (λ end is. is (content s).files s.xorbs.items fit c.requires xorbs) c.make.ensures.bytes c.make.ensures.causes
