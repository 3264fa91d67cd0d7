-- The records of a section may be stored again as they were returned.
use Rattle.std.proofs.Common.{◌≡◌, List, map, subst}
use Rattle.std.specs.Prelude.{All}
use Rattle.std.proofs.lemmas.List.Elements.{All-map}
use Rattle.xet_records.specs.RecordKind.{RecordKind, KindLaws}

pub all_handed : {H R : Type 0} (K : RecordKind H R) → KindLaws K → (stored found : List R) → All K.IsStored stored → map K.as_read stored ≡ found
    → All K.IsStored found
all_handed K laws stored found all returned = subst (All K.IsStored) returned (All-map K.IsStored K.as_read stored (λ k r below. laws.as_read_stored _ (all k r below)))
