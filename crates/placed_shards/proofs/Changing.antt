-- The records in a range, as they are stored and as reading returns them.
use Rattle.std.proofs.Common.{◌≡◌, Bool, true, false, List, [], ◌∷◌, refl, ap, cond}
use Rattle.std.specs.Prelude.{map}
use Rattle.xet_base.specs.declared.merklehash.DataHash.{DataHash}
use Rattle.xet_records.specs.declared.file_structs.MDBFileInfo.{MDBFileInfo}
use Rattle.xet_records.specs.FileRecord.{as_read, file_records}
use Rattle.xet_shards.specs.Write.Tables.{hash_in}
use Rattle.placed_shards.specs.Ranges.{records_passing}
use Rattle.placed_shards.specs.StoredFiles.{files_as}

module _ (passes : DataHash → Bool) where
  one_more : (b : Bool) (f : MDBFileInfo) (fs gs : List MDBFileInfo) → map as_read fs ≡ gs → map as_read (cond b (f ∷ fs) fs) ≡ cond b (as_read f ∷ gs) gs
  one_more true f fs gs is = ap (λ l. as_read f ∷ l) is
  one_more false f fs gs is = is

  passing_read : (fs : List MDBFileInfo) → map as_read (records_passing file_records passes fs) ≡ records_passing file_records passes (map as_read fs)
  passing_read [] = refl
  passing_read (f ∷ fs) = one_more (passes (hash_in file_records f)) f (records_passing file_records passes fs) (records_passing file_records passes (map as_read fs)) (passing_read fs)

  pub passing_files : (b : Bool) (fs : List MDBFileInfo) → files_as b (records_passing file_records passes fs) ≡ records_passing file_records passes (files_as b fs)
  passing_files false fs = refl
  passing_files true fs = passing_read fs

pub no_files : (b : Bool) → files_as b [] ≡ []
no_files false = refl
no_files true = refl
