-- Unions and differences of shards whose chunk hashes are put under a key.
use Rattle.std.proofs.Common.{◌≡◌, Bool, true, false, List, [], ◌∷◌, map, Option, None, Some, refl, ap, subst, cond}
use Rattle.std.specs.Prelude.{option_map}
use Rattle.std.specs.Ordering.{eq_by_cmp}
use Rattle.std.specs.List.Sorted.{IsStrictlySortedBy}
use Rattle.xet_base.specs.declared.merklehash.DataHash.{DataHash}
use Rattle.xet_base.specs.Hash.{hash_cmp}
use Rattle.xet_records.specs.declared.file_structs.MDBFileInfo.{MDBFileInfo}
use Rattle.xet_records.specs.declared.xorb_structs.MDBXorbInfo.{MDBXorbInfo}
use Rattle.xet_records.specs.XorbRecord.{xorb_records}
use Rattle.xet_shards.specs.Export.KeyedExport.{keyed_xorb, keyed_xorbs}
use Rattle.xet_shards.specs.Write.Tables.{hash_in}
use Rattle.xet_shards.proofs.Content.KeyedHashes.{keyed_section}
use Rattle.xet_core_structures.specs.Records.ByteUnion.{IsEitherXorb}
use Rattle.xet_core_structures.specs.Records.RecordPairs.{key_of_record, with_hash}
use Rattle.placed_shards.specs.Content.{Content}
use Rattle.placed_shards.specs.Laws.{with_keyed_hashes}
use Rattle.placed_shards.specs.Sets.{IsLeft}
use Rattle.placed_shards.specs.Unions.{Unites}

module _ (key : DataHash) where
  -- xorbs keep their hashes
  same_hashes : (xorbs : List MDBXorbInfo) → map (hash_in xorb_records) xorbs ≡ map (hash_in xorb_records) (keyed_xorbs key xorbs)
  same_hashes [] = refl
  same_hashes (x ∷ xorbs) = ap (λ l. hash_in xorb_records x ∷ l) (same_hashes xorbs)

  keyed_under : (xorbs : List MDBXorbInfo) (q : DataHash) → option_map (keyed_xorb key) (with_hash xorb_records xorbs q) ≡ with_hash xorb_records (keyed_xorbs key xorbs) q
  keyed_under [] q = refl
  keyed_under (x ∷ xorbs) q = by_test (eq_by_cmp hash_cmp q (key_of_record xorb_records x)) (keyed_under xorbs q) where
    by_test : (b : Bool) → option_map (keyed_xorb key) (with_hash xorb_records xorbs q) ≡ with_hash xorb_records (keyed_xorbs key xorbs) q
        → option_map (keyed_xorb key) (cond b (Some x) (with_hash xorb_records xorbs q)) ≡ cond b (Some (keyed_xorb key x)) (with_hash xorb_records (keyed_xorbs key xorbs) q)
    by_test true rest = refl
    by_test false rest = rest

  pub either_keyed : (a b c : Option MDBXorbInfo) → IsEitherXorb a b c → IsEitherXorb (option_map (keyed_xorb key) a) (option_map (keyed_xorb key) b) (option_map (keyed_xorb key) c)
  either_keyed None b c is = ap (option_map (keyed_xorb key)) is
  either_keyed (Some x) b c is = ap (option_map (keyed_xorb key)) is

  pub left_keyed : (a b c : Option MDBXorbInfo) → IsLeft a b c → IsLeft (option_map (keyed_xorb key) a) (option_map (keyed_xorb key) b) (option_map (keyed_xorb key) c)
  left_keyed None b c is = ap (option_map (keyed_xorb key)) is
  left_keyed (Some x) b c is = ap (option_map (keyed_xorb key)) is

  module _ (F : Option MDBFileInfo → Option MDBFileInfo → Option MDBFileInfo → Type 0) (X : Option MDBXorbInfo → Option MDBXorbInfo → Option MDBXorbInfo → Type 0)
      (keyed : (a b c : Option MDBXorbInfo) → X a b c → X (option_map (keyed_xorb key) a) (option_map (keyed_xorb key) b) (option_map (keyed_xorb key) c)) where
    pub unites_keyed : (c d made : Content) → Unites F X c d made → Unites F X (with_keyed_hashes key c) (with_keyed_hashes key d) (with_keyed_hashes key made)
    unites_keyed c d made unites =
        let fits = keyed_section key made.xorbs (record { stored = unites.xorbs.combined.stored; rows = unites.xorbs.rows }) in
        record {
          same_key = unites.same_key;
          files = unites.files;
          xorbs = record {
            combined = record {
              ascends = subst (IsStrictlySortedBy hash_cmp) (same_hashes made.xorbs) unites.xorbs.combined.ascends;
              each = λ q. subst (λ p. p) (λ i. X (keyed_under c.xorbs q i) (keyed_under d.xorbs q i) (keyed_under made.xorbs q i))
                  (keyed (with_hash xorb_records c.xorbs q) (with_hash xorb_records d.xorbs q) (with_hash xorb_records made.xorbs q) (unites.xorbs.combined.each q));
              stored = fits.stored;
            };
            rows = fits.rows;
          };
          options_are = unites.options_are;
        }
