use Rattle.std.proofs.Common.{length, take, zip}
use Rattle.std.specs.List.{AllZip}
use Rattle.xet_core_structures.specs.Ends.{HasHeaderAndFooter}
use Rattle.mdb_base.proofs.infos.infos_of.Given as goal

abbrev pub invariant-loop-file : goal.invariant-loop-file
invariant-loop-file l =
    AllZip (λ p info. HasHeaderAndFooter p.1.now info) (take (length l.yielded) (zip l.files l.inputs)) l.infos.items
