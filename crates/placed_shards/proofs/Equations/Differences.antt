-- The union of a shard with what another has besides it.
use Rattle.std.proofs.Common.{◌≡◌, true≢false, Option, None, Some, refl, sym, ap, ◌∙◌, subst, inl, inr}
use Rattle.std.specs.Prelude.{is_some}
use Rattle.std.specs.Option.{option_or}
use Rattle.xet_records.specs.declared.file_structs.MDBFileInfo.{MDBFileInfo}
use Rattle.xet_records.specs.declared.xorb_structs.MDBXorbInfo.{MDBXorbInfo}
use Rattle.xet_records.specs.FileRecord.{file_records}
use Rattle.xet_records.specs.Merging.{IncludesBits}
use Rattle.xet_records.specs.XorbRecord.{xorb_records}
use Rattle.xet_shards.specs.declared.shard_format.ends.options.LayoutOptions.{LayoutOptions}
use Rattle.xet_core_structures.specs.Records.ByteUnion.{IsEitherFile, IsEitherXorb}
use Rattle.xet_core_structures.specs.Records.RecordPairs.{with_hash}
use Rattle.placed_shards.specs.Agreement.{AgreeIfBoth}
use Rattle.placed_shards.specs.Content.{Content}
use Rattle.placed_shards.specs.Laws.{HasFlagsOf}
use Rattle.placed_shards.specs.Sets.{IsLeft}
use Rattle.placed_shards.specs.Unions.{IsUnionOf, IsDifferenceOf}

-- under one hash
pub apart : {R : Type 0} (a b l : Option R) (r : R) → IsLeft a b l → l ≡ Some r → a ≡ None
apart None b l r is at = refl
apart {R = R} (Some x) b l r is at = absurd (true≢false (ap is_some (sym at ∙ is)))

pub file_of_first : (a b l m : Option MDBFileInfo) → IsLeft a b l → IsEitherFile a l m → m ≡ option_or a b
file_of_first None b l m is made = made ∙ is
file_of_first (Some x) b l m is made = subst (λ o. IsEitherFile (Some x) o m) is made

pub xorb_of_first : (a b l m : Option MDBXorbInfo) → IsLeft a b l → IsEitherXorb a l m → m ≡ option_or a b
xorb_of_first None b l m is made = made ∙ is
xorb_of_first (Some x) b l m is made = made

abbrev HasFlags : Option MDBFileInfo → Option MDBFileInfo → Type 0
HasFlags = AgreeIfBoth (λ r s. IncludesBits r.metadata.file_flags s.metadata.file_flags)

first_file : (a b m : Option MDBFileInfo) → HasFlags a b → m ≡ option_or a b → IsEitherFile a b m
first_file None b m flags is = is
first_file (Some x) None m flags is = is
first_file (Some x) (Some y) m flags is = (x, is, inl (flags, refl))

file_with_flags : (a b m : Option MDBFileInfo) → HasFlags a b → IsEitherFile a b m → m ≡ option_or a b
file_with_flags None b m flags is = is
file_with_flags (Some x) None m flags is = is
file_with_flags (Some x) (Some y) m flags (r, is, inl (includes, same)) = is ∙ ap Some same
file_with_flags (Some x) (Some y) m flags (r, is, inr (inl (lacks, includes, same))) = absurd (lacks flags)
file_with_flags (Some x) (Some y) m flags (r, is, inr (inr (lacks, wants, counts, same))) = absurd (lacks flags)

left_file : (a b l m : Option MDBFileInfo) → IsLeft a b l → m ≡ option_or a b → IsEitherFile a l m
left_file None b l m is made = made ∙ sym is
left_file (Some x) b l m is made = subst (λ o. IsEitherFile (Some x) o m) (sym is) made

left_xorb : (a b l m : Option MDBXorbInfo) → IsLeft a b l → m ≡ option_or a b → IsEitherXorb a l m
left_xorb None b l m is made = made ∙ sym is
left_xorb (Some x) b l m is made = made

-- under all
module _ (c d left made : Content) (difference : IsDifferenceOf c d left) (flags : HasFlagsOf c d) where
  pub with_second : IsUnionOf c left made → IsUnionOf c d made
  with_second union = record {
    same_key = difference.same_key;
    files = record {
      combined = record {
        ascends = union.files.combined.ascends;
        each = λ q. first_file _ _ _ (flags q) (file_of_first (with_hash file_records c.files q) (with_hash file_records d.files q) (with_hash file_records left.files q) (with_hash file_records made.files q)
            (difference.files.combined.each q) (union.files.combined.each q));
        stored = union.files.combined.stored;
      };
      rows = union.files.rows;
    };
    xorbs = record {
      combined = record {
        ascends = union.xorbs.combined.ascends;
        each = λ q. xorb_of_first (with_hash xorb_records c.xorbs q) (with_hash xorb_records d.xorbs q) (with_hash xorb_records left.xorbs q) (with_hash xorb_records made.xorbs q)
            (difference.xorbs.combined.each q) (union.xorbs.combined.each q);
        stored = union.xorbs.combined.stored;
      };
      rows = union.xorbs.rows;
    };
    options_are = union.options_are;
  }

  pub with_left : IsUnionOf c d made → IsUnionOf c left made
  with_left union = record {
    same_key = sym (ap (λ (o : LayoutOptions). o.key) difference.options_are);
    files = record {
      combined = record {
        ascends = union.files.combined.ascends;
        each = λ q. left_file (with_hash file_records c.files q) (with_hash file_records d.files q) (with_hash file_records left.files q) (with_hash file_records made.files q)
            (difference.files.combined.each q) (file_with_flags _ _ _ (flags q) (union.files.combined.each q));
        stored = union.files.combined.stored;
      };
      rows = union.files.rows;
    };
    xorbs = record {
      combined = record {
        ascends = union.xorbs.combined.ascends;
        each = λ q. left_xorb (with_hash xorb_records c.xorbs q) (with_hash xorb_records d.xorbs q) (with_hash xorb_records left.xorbs q) (with_hash xorb_records made.xorbs q)
            (difference.xorbs.combined.each q) (union.xorbs.combined.each q);
        stored = union.xorbs.combined.stored;
      };
      rows = union.xorbs.rows;
    };
    options_are = union.options_are;
  }
