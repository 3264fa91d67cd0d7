use Rattle.std.proofs.Common.{sym, subst}
use Rattle.xet_shards.specs.Ends.Ends.{HasHeaderAndFooter}
use Rattle.xet_shards.specs.Write.WrittenShard.{IsBytesWithoutExpiry}
use Rattle.xet_shards.proofs.Ends.EndsUnique.{bytes_without_expiry}
use Rattle.xet_core_structures.proofs.LawProofs.FileLookups.{found_in_layout}
use Rattle.xet_core_structures.proofs.Trees.MergeTrees.{one_layout}
use Rattle.xet_core_structures.proofs.laws.lookups_on_trees.Goals as goal

pub returns-clause-premises : goal.returns-clause-premises
returns-clause-premises c = λ inputs plan shards join old new info merge writes loads.
    let one = subst (IsBytesWithoutExpiry join) (sym loads.bytes) (one_layout inputs plan shards join merge old.bytes writes) in
    (one, record { is_bytes = bytes_without_expiry one; ends = subst (λ bytes. HasHeaderAndFooter bytes info) (sym loads.bytes) loads.ends })

pub returns-clause-files : goal.returns-clause-files
returns-clause-files c = λ inputs plan shards join old loaded new info hash found merge writes loads looks.
    let premises = returns-clause-premises c inputs plan shards join old loaded info merge writes loads in
    found_in_layout join loaded info premises.1 hash new found looks
