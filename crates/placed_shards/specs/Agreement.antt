-- What is made of two records that agree.
use Rattle.std.specs.Prelude.{◌≡◌, ⊤, IsTrue, Option, None, Some}
use Rattle.xet_records.specs.declared.file_structs.MDBFileInfo.{MDBFileInfo}
use Rattle.xet_records.specs.declared.file_structs.part.OptionalPart.{OptionalPart}
use Rattle.xet_records.specs.declared.xorb_structs.MDBXorbInfo.{MDBXorbInfo}
use Rattle.xet_records.specs.Merging.{Agree, has_part}
use Rattle.xet_records.specs.Part.{rows_of}
use Rattle.xet_core_structures.specs.Records.ByteUnion.{IsEitherFile, IsEitherXorb}
use Rattle.placed_shards.specs.Content.{Content}
use Rattle.placed_shards.specs.Unions.{Unites}

-- two records agree, if both are there
abbrev pub AgreeIfBoth : {R : Type 0} → (R → R → Type 0) → Option R → Option R → Type 0
AgreeIfBoth agree None b = ⊤
AgreeIfBoth agree (Some r) None = ⊤
AgreeIfBoth agree (Some r) (Some s) = agree r s

-- what is made of two records, which agree if both are there
abbrev pub MadeIfAgreed : {R : Type 0} → (R → R → Type 0)
    → (Option R → Option R → Option R → Type 0) → Option R → Option R → Option R → Type 0
MadeIfAgreed agree makes a b c = AgreeIfBoth agree a b × makes a b c

-- two xorbs agree if they are equal
abbrev pub AreEqual : MDBXorbInfo → MDBXorbInfo → Type 0
AreEqual r s = r ≡ s

-- an optional part is equal in two files if both have it
abbrev pub AgreeOn : OptionalPart → MDBFileInfo → MDBFileInfo → Type 0
AgreeOn part a b =
    IsTrue (has_part a part) → IsTrue (has_part b part) → rows_of part a ≡ rows_of part b

-- the union of the file of a hash, where each shard may have one, and both agree if there are two
abbrev pub IsAgreedFile : Option MDBFileInfo → Option MDBFileInfo → Option MDBFileInfo → Type 0
IsAgreedFile = MadeIfAgreed Agree IsEitherFile

-- the same of xorbs
abbrev pub IsAgreedXorb : Option MDBXorbInfo → Option MDBXorbInfo → Option MDBXorbInfo → Type 0
IsAgreedXorb = MadeIfAgreed AreEqual IsEitherXorb

-- the union of two shards whose records with one hash agree
abbrev pub IsAgreedUnionOf : (c d made : Content) → Type 0
IsAgreedUnionOf = Unites IsAgreedFile IsAgreedXorb
