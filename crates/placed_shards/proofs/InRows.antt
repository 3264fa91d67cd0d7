-- The records that are taken from some rows of a section are those that it has in them.
use Rattle.std.proofs.Common.{◌≡◌, inl, inr, Ok, Err, ℕ, ◌+◌, ◌*◌, ◌≤◌, true, List, [], ◌∷◌, ◌++◌, length, map, flat_map, drop, Option, None, Some, IfSome, refl, sym, ap, ◌∙◌, subst, arith, append-nil, append_assoc}
use Rattle.std.specs.Prelude.{◌↔◌, Bool, IsTrue, All, MatchResult}
use Rattle.std.specs.List.{AllByRecursion}
use Rattle.std.specs.List.Sorted.{IsStrictlySortedBy}
use Rattle.std.specs.declared.cmp.Ordering.TheVariants.{Less}
use Rattle.std.proofs.lemmas.List.{drop-drop}
use Rattle.std.proofs.lemmas.List.Elements.{All-nil, All-cons, All-drop, All-map}
use Rattle.std.proofs.lemmas.List.Sums.{sum_by-cons}
use Rattle.xet_base.specs.declared.error.CoreError.{CoreError}
use Rattle.xet_base.specs.declared.merklehash.DataHash.{DataHash}
use Rattle.xet_base.specs.Errors.{CoreResult}
use Rattle.xet_base.specs.Hash.{all_ones, hash_cmp}
use Rattle.xet_base.proofs.HashOrder.{hash_cmp-IsTotalOrder}
use Rattle.xet_base.proofs.Lists.{rest_is}
use Rattle.xet_records.specs.declared.record_reader.FormatVersion.{FormatVersion}
use Rattle.xet_records.specs.Reading.{BeginsWithBookend}
use Rattle.xet_records.specs.RecordKind.{RecordKind, KindLaws, in_version}
use Rattle.xet_records.specs.View.{BeginsWithHeaderRow}
use Rattle.xet_records.proofs.Lengths.{length-all_record_bytes}
use Rattle.xet_records.proofs.RecordKinds.{StopsAt, laws_in, length-record_bytes, no_record}
use Rattle.xet_shards.specs.Write.Section.{total_rows}
use Rattle.xet_shards.specs.Write.Tables.{hash_in}
use Rattle.xet_shards.specs.Write.WithOptions.{Ascends}
use Rattle.xet_core_structures.proofs.Records.ShardContents.{hashes_handed, rows_handed, stored_ascend}
use Rattle.placed_shards.specs.declared.range.HashRange.{HashRange}
use Rattle.placed_shards.specs.ByTables.{HasInRows}
use Rattle.placed_shards.specs.Ranges.{is_within}
use Rattle.placed_shards.specs.TakenRecords.{TakesRecord, StopsBefore}
use Rattle.placed_shards.specs.Steps.InRows.{NotRead, TakesInRange, RowsFollow}

below_through_all : (a b : DataHash) (qs : List DataHash) → hash_cmp a b ≡ Less → AllByRecursion (λ q. hash_cmp b q ≡ Less) qs → AllByRecursion (λ q. hash_cmp a q ≡ Less) qs
below_through_all a b [] less all = tt
below_through_all a b (q ∷ qs) less all = (hash_cmp-IsTotalOrder.trans a b q less all.0, below_through_all a b qs less all.1)

-- a header row at the front of bytes is a bookend's if its hash has all ones
pub bookend_there : {H R : Type 0} (K : RecordKind H R) → KindLaws K → (bytes : List ℕ) (h : H) → BeginsWithHeaderRow K bytes h → (b : Bool) → IsTrue b ↔ (K.hash_of h ≡ all_ones) → IsTrue b ↔ BeginsWithBookend K bytes
bookend_there K laws bytes h begins b tells = (
  λ is. record { header = h; rest = begins.rest; widths = begins.widths; is_bookend = tells.0 is; bytes_are = begins.bytes_are },
  λ bookend.
      let same = laws.header_front bookend.header h bookend.rest begins.rest bookend.widths begins.widths (sym bookend.bytes_are ∙ begins.bytes_are) in
      tells.1 (ap K.hash_of (sym same.0) ∙ bookend.is_bookend),
)

-- records were taken from the front of bytes, and with those that follow from here on they are all in so
-- many rows
pub record HasWalked {H R : Type 0} (K : RecordKind H R) (range : HashRange) (count : ℕ) (bytes : List ℕ) (rs : List R) (before : Option DataHash) (rest : List ℕ) (left : ℕ) : Type 0 where
  pub few : left ≤ count
  pub on : (more : List R) → RowsFollow K range before left rest more → RowsFollow K range None count bytes (rs ++ more)
  pub back : (all : List R) → RowsFollow K range None count bytes all → (more : List R) × RowsFollow K range before left rest more

module _ {H R : Type 0} (K : RecordKind H R) (laws : KindLaws K) (range : HashRange) where
  -- no record in the range is at the front of bytes
  abbrev pub NoneInRange : Option DataHash → ℕ → List ℕ → Type 0
  NoneInRange before left bytes = (after : ℕ) (r : R) (rest : List ℕ) → ¬ TakesInRange K range before left after bytes r rest

  -- none is where a bookend is, or where none was taken
  pub none_at_end : (before : Option DataHash) (left : ℕ) (bytes : List ℕ) → StopsAt K left bytes → NoneInRange before left bytes
  none_at_end before left bytes stops after r rest next = no_record K laws left bytes r rest next.taken.stored (omega (arith, next.taken.rows)) next.taken.bytes_are stops

  pub none_taken : (before : Option DataHash) (left : ℕ) (bytes : List ℕ) (e : CoreError) → StopsBefore K bytes left e → NoneInRange before left bytes
  none_taken before left bytes e (inl (is, ends)) = none_at_end before left bytes (inr (inr ends))
  none_taken before left bytes e (inr (is, refused)) = none_at_end before left bytes (inr (inl refused))

  -- one record is at the front of bytes
  pub one_taken : (left one other : ℕ) (bytes : List ℕ) (r s : R) (x y : List ℕ) → TakesRecord K bytes left one r x → TakesRecord K bytes left other s y → (s ≡ r) × (y ≡ x)
  one_taken left one other bytes r s x y first second = laws.front s r y x second.stored first.stored (sym second.bytes_are ∙ first.bytes_are)

  -- so none is if its hash is not in the range
  pub none_within : (before : Option DataHash) (left count : ℕ) (bytes : List ℕ) (r : R) (rest : List ℕ) → TakesRecord K bytes left count r rest
      → ¬ (is_within range (hash_in K r) ≡ true) → NoneInRange before left bytes
  none_within before left count bytes r rest taken out after s other next =
      out (subst (λ t. is_within range (hash_in K t) ≡ true) (one_taken left count after bytes r s rest other taken next.taken).0 next.within)

  -- records are taken one after another
  module _ (count : ℕ) (bytes : List ℕ) where
    abbrev Walked : List R → Option DataHash → List ℕ → ℕ → Type 0
    Walked = HasWalked K range count bytes

    pub walk_starts : Walked [] None bytes count
    walk_starts = record { few = omega arith; on = λ more follow. follow; back = λ all follow. (all, follow) }

    module _ (rs : List R) (before : Option DataHash) (rest : List ℕ) (left : ℕ) (walked : Walked rs before rest left) where
      pub walk_on : (r : R) (others : List ℕ) (after : ℕ) → TakesInRange K range before left after rest r others → Walked (rs ++ r ∷ []) (Some (hash_in K r)) others after
      walk_on r others after next = record {
        few = omega (arith, walked.few, next.taken.rows);
        on = λ more follow. subst (RowsFollow K range None count bytes) (sym (append_assoc rs (r ∷ []) more)) (walked.on (r ∷ more) (after, others, next, follow));
        back = λ all follow. let here = walked.back all follow in further here.0 here.1;
      } where
        further : (more : List R) → RowsFollow K range before left rest more → (rs : List R) × RowsFollow K range (Some (hash_in K r)) after others rs
        further [] none = absurd (omega (arith, none, next.taken.rows, laws.rows r next.taken.stored))
        further (s ∷ ss) (n, behind, other, follow) =
            let same = one_taken left after n rest r s others behind next.taken other.taken in
            let count_is : n ≡ after = omega (arith, next.taken.rows, other.taken.rows, ap K.row_count same.0) in
            (ss, subst (λ t. t) (λ i. RowsFollow K range (Some (hash_in K (same.0 i))) (count_is i) (same.1 i) ss) follow)

      pub walk_stops : 1 ≤ left → NoneInRange before left rest → (all : List R) → ¬ RowsFollow K range None count bytes all
      walk_stops some none all follow = let here = walked.back all follow in no_more here.0 here.1 where
        no_more : (more : List R) → ¬ RowsFollow K range before left rest more
        no_more [] follow = omega (arith, some, follow)
        no_more (r ∷ rs) (after, others, next, follow) = none after r others next

      pub walk_ends : left ≡ 0 → RowsFollow K range None count bytes rs
      walk_ends none = subst (RowsFollow K range None count bytes) (append-nil rs) (walked.on [] none)

  -- the hashes of records are above another, if there is one
  abbrev Above : Option DataHash → List R → Type 0
  Above before rs = IfSome before (λ b. AllByRecursion (λ q. hash_cmp b q ≡ Less) (map (hash_in K) rs))

  -- a hash is in the range
  abbrev IsIn : R → Type 0
  IsIn r = is_within range (hash_in K r) ≡ true

  -- bytes begin with records in order, of so many rows
  record Following (left : ℕ) (bytes : List ℕ) (rs : List R) : Type 0 where
    rest : List ℕ
    are_stored : All K.IsStored rs
    bytes_are : bytes ≡ flat_map K.record_bytes rs ++ rest
    rows : total_rows K rs ≡ left
    ascends : Ascends K rs
    within : All IsIn rs

  above_next : (k : DataHash) (left : ℕ) (bytes : List ℕ) (rs : List R) → RowsFollow K range (Some k) left bytes rs → AllByRecursion (λ q. hash_cmp k q ≡ Less) (map (hash_in K) rs)
  above_next k left bytes [] follow = tt
  above_next k left bytes (r ∷ rs) (after, rest, next, follow) =
      (next.follows, below_through_all k (hash_in K r) (map (hash_in K) rs) next.follows (above_next (hash_in K r) after rest rs follow))

  following : (before : Option DataHash) (left : ℕ) (bytes : List ℕ) (rs : List R) → RowsFollow K range before left bytes rs → Following left bytes rs
  unfolding IsStrictlySortedBy
  following before left bytes [] follow = record { rest = bytes; are_stored = All-nil K.IsStored; bytes_are = refl; rows = sym follow; ascends = tt; within = All-nil IsIn }
  following before left bytes (r ∷ rs) (after, rest, next, follow) =
      let later = following (Some (hash_in K r)) after rest rs follow in
      record {
        rest = later.rest;
        are_stored = All-cons K.IsStored r rs next.taken.stored later.are_stored;
        bytes_are = next.taken.bytes_are ∙ ap (λ bs. K.record_bytes r ++ bs) later.bytes_are ∙ sym (append_assoc (K.record_bytes r) (flat_map K.record_bytes rs) later.rest);
        rows = omega (arith, sum_by-cons K.row_count r rs, next.taken.rows, later.rows);
        ascends = (above_next (hash_in K r) after rest rs follow, later.ascends);
        within = All-cons IsIn r rs next.within later.within;
      }

  first_above : (before : Option DataHash) (r : R) (rs : List R) → Above before (r ∷ rs) → IfSome before (λ b. hash_cmp b (hash_in K r) ≡ Less)
  first_above None r rs above = tt
  first_above (Some b) r rs above = above.0

  follows_on : (before : Option DataHash) (left : ℕ) (bytes : List ℕ) (rs : List R) (rest : List ℕ) → All K.IsStored rs → bytes ≡ flat_map K.record_bytes rs ++ rest
      → total_rows K rs ≡ left → Ascends K rs → All IsIn rs → Above before rs → RowsFollow K range before left bytes rs
  unfolding IsStrictlySortedBy
  follows_on before left bytes [] rest stored are rows ascends within above = sym rows
  follows_on before left bytes (r ∷ rs) rest stored are rows ascends within above = (
    total_rows K rs,
    flat_map K.record_bytes rs ++ rest,
    record {
      taken = record {
        stored = stored 0 r (omega arith);
        bytes_are = are ∙ append_assoc (K.record_bytes r) (flat_map K.record_bytes rs) rest;
        rows = omega (arith, sum_by-cons K.row_count r rs, rows);
      };
      follows = first_above before r rs above;
      within = within 0 r (omega arith);
    },
    follows_on (Some (hash_in K r)) (total_rows K rs) (flat_map K.record_bytes rs ++ rest) rs rest (All-drop K.IsStored 1 (r ∷ rs) stored) refl refl ascends.1 (All-drop IsIn 1 (r ∷ rs) within) ascends.0,
  )

  -- reading keeps hashes
  read_within : (rs : List R) → All IsIn rs → All IsIn (map K.as_read rs)
  read_within rs all = All-map IsIn K.as_read rs (λ k r below. ap (λ h. is_within range (K.hash_of h)) (laws.same_header _) ∙ all k r below)

  stored_within : (rs : List R) → All IsIn (map K.as_read rs) → All IsIn rs
  stored_within [] all = All-nil IsIn
  stored_within (r ∷ rs) all =
      All-cons IsIn r rs (ap (λ h. is_within range (K.hash_of h)) (sym (laws.same_header r)) ∙ all 0 (K.as_read r) (omega arith))
      (stored_within rs (All-drop IsIn 1 (map K.as_read (r ∷ rs)) all))

  module _ (section : List ℕ) (first end : ℕ) where
    abbrev from_first : List ℕ
    from_first = drop (48 * first) section

    -- what is behind records in these rows is what is at the end row
    pub rest_behind : (stored : List R) (rest : List ℕ) → All K.IsStored stored → from_first ≡ flat_map K.record_bytes stored ++ rest → first + total_rows K stored ≡ end → drop (48 * end) section ≡ rest
    rest_behind stored rest are_stored bytes_are rows =
        let size : length (flat_map K.record_bytes stored) ≡ 48 * total_rows K stored = length-all_record_bytes K.record_bytes K.row_count K.IsStored (length-record_bytes K laws) stored are_stored in
        let there : 48 * end ≡ 48 * first + 48 * total_rows K stored = omega (arith, rows) in
        ap (λ n. drop n section) there ∙ sym (drop-drop (48 * total_rows K stored) (48 * first) section) ∙ rest_is (48 * total_rows K stored) from_first (flat_map K.record_bytes stored) rest size bytes_are

    -- the range may have these rows
    abbrev pub Starts : Type 0
    Starts = (first ≤ end) × (range.from ≡ None → first ≡ 0)

    abbrev pub Finishes : Type 0
    Finishes = range.to ≡ None → BeginsWithBookend K (drop (48 * end) section)

    pub has_in_rows : Starts → Finishes → end ≤ 4294967295 → (left : ℕ) → first + left ≡ end → (stored : List R) → RowsFollow K range None left from_first stored → HasInRows K range section first end (map K.as_read stored)
    has_in_rows starts ends few left left_is stored follow =
        let all = following None left from_first stored follow in
        record {
          stored = stored;
          rest = all.rest;
          records = record { are_stored = all.are_stored; rows = omega (arith, all.rows, left_is, few); bytes_are = all.bytes_are };
          returned = refl;
          ascends = subst (IsStrictlySortedBy hash_cmp) (sym (hashes_handed K laws stored)) all.ascends;
          within = read_within stored all.within;
          rows = omega (arith, rows_handed K laws stored, all.rows, left_is);
          fits = few;
          starts = starts.1;
          ends = λ none. subst (BeginsWithBookend K) (rest_behind stored all.rest all.are_stored all.bytes_are (omega (arith, all.rows, left_is))) (ends none);
        }

    module _ (found : List R) (has : HasInRows K range section first end found) where
      pub rows_stored : first + total_rows K has.stored ≡ end
      rows_stored = omega (arith, has.rows, ap (total_rows K) has.returned, rows_handed K laws has.stored)

      pub rows_follow : (left : ℕ) → first + left ≡ end → RowsFollow K range None left from_first has.stored
      rows_follow left left_is =
          follows_on None left from_first has.stored has.rest has.records.are_stored has.records.bytes_are (omega (arith, rows_stored, left_is))
          (stored_ascend K laws has.stored found has.returned has.ascends) (stored_within has.stored (subst (All IsIn) (sym has.returned) has.within)) tt

      pub rows_start : Starts
      rows_start = (omega (arith, has.rows), has.starts)

      pub rows_finish : Finishes
      rows_finish none = subst (BeginsWithBookend K) (sym (rest_behind has.stored has.rest has.records.are_stored has.records.bytes_are rows_stored)) (has.ends none)

-- what a section of a version has in some rows, and what it does not
module _ {H R : Type 0} (K : RecordKind H R) (laws : KindLaws K) (version : FormatVersion) (range : HashRange) (section : List ℕ) (first end : ℕ) where
  abbrev pub HasNothing : Type 0
  HasNothing = (found : List R) → ¬ HasInRows (in_version K version) range section first end found

  abbrev pub MayEnd : Type 0
  MayEnd = range.to ≡ None → BeginsWithBookend K (drop (48 * end) section)

  pub no_start : ¬ ((first ≤ end) × (range.from ≡ None → first ≡ 0)) → HasNothing
  no_start not_so found has = not_so (rows_start (in_version K version) (laws_in K laws version) range section first end found has)

  pub no_end : ¬ MayEnd → HasNothing
  no_end not_so found has = not_so (λ none.
      let bookend = rows_finish (in_version K version) (laws_in K laws version) range section first end found has none in
      record { header = bookend.header; rest = bookend.rest; widths = bookend.widths; is_bookend = bookend.is_bookend; bytes_are = bookend.bytes_are })

  -- the result of taking all records in them
  pub rows_taken : (first ≤ end) × (range.from ≡ None → first ≡ 0) → MayEnd → end ≤ 4294967295 → (left : ℕ) → first + left ≡ end → {X : Type 0} (items : X → List R) (result : CoreResult X)
      → MatchResult result (λ records. RowsFollow (in_version K version) range None left (drop (48 * first) section) (items records))
      (NotRead (RowsFollow (in_version K version) range None left (drop (48 * first) section)))
      → MatchResult result (λ records. HasInRows (in_version K version) range section first end (map K.as_read (items records))) (NotRead (HasInRows (in_version K version) range section first end))
  rows_taken starts ends few left left_is items (Ok records) follow =
      has_in_rows (in_version K version) (laws_in K laws version) range section first end starts
      (λ none. let bookend = ends none in record { header = bookend.header; rest = bookend.rest; widths = bookend.widths; is_bookend = bookend.is_bookend; bytes_are = bookend.bytes_are })
      few left left_is (items records) follow
  rows_taken starts ends few left left_is items (Err e) (inl no_memory) = inl no_memory
  rows_taken starts ends few left left_is items (Err e) (inr (invalid, none)) =
      inr (invalid, λ found has. none has.stored (rows_follow (in_version K version) (laws_in K laws version) range section first end found has left left_is))
