use Rattle.std.proofs.Common.{◌+◌, inr, refl, sym}
use Rattle.std.proofs.Math.ListN.{replicate}
use Rattle.std.proofs.lemmas.List.{length-replicate}
use Rattle.shard_concatenation.specs.Concatenation.{files_in, xorbs_in}
use Rattle.shard_concatenation.proofs.Concatenation.{layout_size}
use Rattle.shard_concatenation.proofs.concatenate.put_at_front.Goals as goal

pub returns-then-out-size-clause-parts : goal.returns-then-out-size-clause-parts
returns-then-out-size-clause-parts c = λ parts held fit few info_is holds.
    (layout_size c.args.gathered.now.totals c.args.info.now.metadata (files_in parts) (xorbs_in parts) c.args.gathered.now.version c.args.gathered.now.key fit held.totals_are c.requires.footer, inr (c.if-out-size.true, refl))

pub returns-then-out-size-clause-fills : goal.returns-then-out-size-clause-fills
returns-then-out-size-clause-fills c = (replicate (c.args.info.now.metadata.footer_offset + 200) 0, (sym (length-replicate (c.args.info.now.metadata.footer_offset + 200) 0), inr (c.if-out-size.true, refl)))
