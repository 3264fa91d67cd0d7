-- The hashes of all parts ascend if those of each do, and the first of each is above the last one before it.
use Rattle.std.proofs.Common.{◌≡◌, ℕ, ◌+◌, ◌*◌, ◌-◌, ◌<◌, ◌≤◌, ◌^◌, true, false, List, [], ◌∷◌, ◌++◌, length, map, flat_map, take, drop, get_or, Option, None, Some, refl, sym, ap, ◌∙◌, subst, append_assoc, append-nil, arith, true≢false}
use Rattle.std.specs.Prelude.{All, ◌==◌}
use Rattle.std.proofs.lemmas.Bool.Decides.{nat_tests}
use Rattle.std.specs.List.{AllByRecursion}
use Rattle.std.specs.List.Sorted.{IsStrictlySortedBy}
use Rattle.std.specs.Ordering.{is_lt}
use Rattle.std.specs.declared.cmp.Ordering.{Ordering}
use Rattle.std.specs.declared.cmp.Ordering.TheVariants.{Less, Equal, Greater}
use Rattle.std.proofs.lemmas.List.{length-append, length-map, get_or-map, take_more, take_all, take-append-drop, nil_from_length}
use Rattle.std.proofs.lemmas.Grind.{flat_map-append}
use Rattle.std.proofs.lemmas.List.Sums.{sum_by-append, sum_by-cons}
use Rattle.xet_base.specs.declared.merklehash.DataHash.{DataHash}
use Rattle.xet_base.specs.Hash.{hash_cmp}
use Rattle.xet_base.specs.Bytes.{u32_bytes, u64_bytes}
use Rattle.xet_base.proofs.Bytes.{u32_bytes-injective, length-u32_bytes}
use Rattle.xet_base.proofs.HashOrder.{hash_cmp-IsTotalOrder}
use Rattle.xet_base.proofs.Lists.{front_is, rest_is}
use Rattle.xet_records.specs.RecordKind.{RecordKind, KindLaws, IsHeaderRow}
use Rattle.xet_records.specs.Rows.{ReadsRow}
use Rattle.xet_records.proofs.Lengths.{length-all_record_bytes}
use Rattle.shard_concatenation.specs.declared.part_order.EndHashes.{EndHashes}
use Rattle.shard_concatenation.specs.declared.section_parts.SectionPart.{SectionPart}
use Rattle.xet_shards.specs.Read.TableReading.{FitsStart}
use Rattle.shard_concatenation.specs.Steps.SectionsSteps.{HoldSections, all_of}
use Rattle.shard_concatenation.specs.Steps.PartOrder.{PartHoldsRecords, IsLastHash, HasEnds, is_after}
use Rattle.xet_shards.specs.Write.Section.{total_rows}
use Rattle.xet_shards.specs.Write.Tables.{hash_in, start_row, starts, table_bytes}
use Rattle.xet_shards.specs.Write.WithOptions.{Ascends}
use Rattle.shard_concatenation.proofs.Permutations.{all_at}
use Rattle.xet_shards.proofs.ShardInMemory.Walks.{flat_map-push}
use Rattle.xet_shards.proofs.Write.Ranges.{starts-append}

-- two lists of ascending keys, of which the second begins above the last key of the first, ascend together
module _ {X : Type 0} (key : X → DataHash) where
  abbrev Rises : List X → Type 0
  Rises xs = IsStrictlySortedBy hash_cmp (map key xs)

  all_through : (x y : X) (ys : List X) → hash_cmp (key x) (key y) ≡ Less → AllByRecursion (λ k. hash_cmp (key y) k ≡ Less) (map key ys) → AllByRecursion (λ k. hash_cmp (key x) k ≡ Less) (map key ys)
  all_through x y [] less all = tt
  all_through x y (z ∷ zs) less all = (hash_cmp-IsTotalOrder.trans (key x) (key y) (key z) less all.0, all_through x y zs less all.1)

  all_both : (x : X) (xs ys : List X) → AllByRecursion (λ k. hash_cmp (key x) k ≡ Less) (map key xs) → AllByRecursion (λ k. hash_cmp (key x) k ≡ Less) (map key ys)
      → AllByRecursion (λ k. hash_cmp (key x) k ≡ Less) (map key (xs ++ ys))
  all_both x [] ys one other = other
  all_both x (z ∷ zs) ys one other = (one.0, all_both x zs ys one.1 other)

  last_below : (x l f : X) (front rest : List X) → AllByRecursion (λ k. hash_cmp (key x) k ≡ Less) (map key (front ++ l ∷ [])) → hash_cmp (key l) (key f) ≡ Less → AllByRecursion (λ k. hash_cmp (key f) k ≡ Less) (map key rest)
      → AllByRecursion (λ k. hash_cmp (key x) k ≡ Less) (map key (f ∷ rest))
  last_below x l f [] rest all less above =
      let through = hash_cmp-IsTotalOrder.trans (key x) (key l) (key f) all.0 less in
      (through, all_through x f rest through above)
  last_below x l f (y ∷ front) rest all less above = last_below x l f front rest all.1 less above

  pub rises_on : (front : List X) (l f : X) (rest : List X) → Rises (front ++ l ∷ []) → Rises (f ∷ rest) → hash_cmp (key l) (key f) ≡ Less → Rises ((front ++ l ∷ []) ++ f ∷ rest)
  unfolding IsStrictlySortedBy
  rises_on [] l f rest one other less = ((less, all_through l f rest less other.0), other)
  rises_on (x ∷ front) l f rest one other less =
      (all_both x (front ++ l ∷ []) (f ∷ rest) one.0 (last_below x l f front rest one.0 less other.0), rises_on front l f rest one.1 other less)

  -- keys that ascend do so where two lists meet, and in the first list
  pub rises_at : (front : List X) (l f : X) (rest : List X) → Rises ((front ++ l ∷ []) ++ f ∷ rest) → hash_cmp (key l) (key f) ≡ Less
  unfolding IsStrictlySortedBy
  rises_at [] l f rest rises = rises.0.0
  rises_at (x ∷ front) l f rest rises = rises_at front l f rest rises.1

  all_front : (x : X) (xs ys : List X) → AllByRecursion (λ k. hash_cmp (key x) k ≡ Less) (map key (xs ++ ys)) → AllByRecursion (λ k. hash_cmp (key x) k ≡ Less) (map key xs)
  all_front x [] ys all = tt
  all_front x (z ∷ zs) ys all = (all.0, all_front x zs ys all.1)

  pub rises_before : (xs ys : List X) → Rises (xs ++ ys) → Rises xs
  unfolding IsStrictlySortedBy
  rises_before [] ys rises = tt
  rises_before (x ∷ xs) ys rises = (all_front x xs ys rises.0, rises_before xs ys rises.1)

-- a list with elements has a last one
last_of : {X : Type 0} (x : X) (xs : List X) → (front : List X) × (l : X) × (x ∷ xs ≡ front ++ l ∷ [])
last_of x [] = ([], x, refl)
last_of x (y ∷ ys) = let rest = last_of y ys in (x ∷ rest.0, rest.1, ap (λ zs. x ∷ zs) rest.2)

-- the hashes of records ascend, and this is the hash of the last record
pub record AscendTo {H R : Type 0} (K : RecordKind H R) (records : List R) (last : Option DataHash) : Type 0 where
  pub ascend : Ascends K records
  pub last_is : IsLastHash K records last

pub none_ascend : {H R : Type 0} (K : RecordKind H R) → AscendTo K [] None
unfolding IsStrictlySortedBy
none_ascend K = record { ascend = tt; last_is = refl }

module _ {H R : Type 0} (K : RecordKind H R) (laws : KindLaws K) where
  length-record : (r : R) → K.IsStored r → length (K.record_bytes r) ≡ 48 * K.row_count r
  length-record r stored =
      ap length (laws.record_bytes_are r) ∙ length-append (K.header_bytes (K.header_of r)) (K.bytes_after r)
      ∙ omega (arith, laws.header_size (K.header_of r), laws.size_after r stored, laws.rows r stored)

  pub length-records : (rs : List R) → All K.IsStored rs → length (flat_map K.record_bytes rs) ≡ 48 * total_rows K rs
  length-records rs stored = length-all_record_bytes K.record_bytes K.row_count K.IsStored length-record rs stored

  length-last : (front rest : List R) (r : R) → All K.IsStored (front ++ r ∷ rest) → 48 * total_rows K front + 48 ≤ length (flat_map K.record_bytes (front ++ r ∷ rest))
  length-last front rest r stored =
      let some : 1 ≤ K.row_count r = omega (arith, laws.rows r (all_at K.IsStored front rest r stored).1) in
      omega (arith, length-records (front ++ r ∷ rest) stored, sum_by-append K.row_count front (r ∷ rest), sum_by-cons K.row_count r rest, some)

  -- the header at the row where a record starts is the record's
  header_there : (bytes : List ℕ) (front rest : List R) (r : R) (h : H) (row : ℕ) → bytes ≡ flat_map K.record_bytes (front ++ r ∷ rest) → All K.IsStored (front ++ r ∷ rest) → row ≡ total_rows K front
      → K.Fits h → K.header_bytes h ≡ take 48 (drop (48 * row) bytes) → hash_in K r ≡ K.hash_of h
  header_there bytes front rest r h row are stored row_is fits is =
      let each = all_at K.IsStored front rest r stored in
      let parts : drop (48 * row) bytes ≡ K.header_bytes (K.header_of r) ++ (K.bytes_after r ++ flat_map K.record_bytes rest) =
      rest_is (48 * row) bytes (flat_map K.record_bytes front) (K.record_bytes r ++ flat_map K.record_bytes rest) (length-records front each.0 ∙ ap (λ n. 48 * n) (sym row_is)) (are ∙ flat_map-append K.record_bytes front (r ∷ rest))
      ∙ ap (λ bs. bs ++ flat_map K.record_bytes rest) (laws.record_bytes_are r) ∙ append_assoc (K.header_bytes (K.header_of r)) (K.bytes_after r) (flat_map K.record_bytes rest) in
      let same : K.header_bytes h ≡ K.header_bytes (K.header_of r) = is ∙ front_is 48 (drop (48 * row) bytes) (K.header_bytes (K.header_of r)) _ (laws.header_size (K.header_of r)) parts in
      sym (ap K.hash_of (laws.header_front h (K.header_of r) [] [] fits (laws.header_fits r each.1) (ap (λ bs. bs ++ []) same)).0)

  -- the last row of the table names the row where the last record starts
  row_there : (table : List ℕ) (front : List R) (r : R) (row : ℕ) → table ≡ table_bytes K (front ++ r ∷ []) → All FitsStart (starts K (front ++ r ∷ [])) → row < 2 ^ 32
      → drop (length table - 4) table ≡ u32_bytes row → row ≡ total_rows K front
  unfolding table_bytes
  row_there table front r row are fit below is =
      let start : ℕ × ℕ = ((hash_in K r).word0, total_rows K front + 0) in
      let starts_are : starts K (front ++ r ∷ []) ≡ starts K front ++ start ∷ [] = starts-append K front (r ∷ []) in
      let fits : FitsStart start = (all_at FitsStart (starts K front) [] start (subst (All FitsStart) starts_are fit)).1 in
      let before : List ℕ = flat_map start_row (starts K front) ++ u64_bytes start.0 in
      let parts : table ≡ before ++ u32_bytes start.1 =
      are ∙ ap (flat_map start_row) starts_are ∙ flat_map-push start_row (starts K front) start ∙ sym (append_assoc (flat_map start_row (starts K front)) (u64_bytes start.0) (u32_bytes start.1)) in
      let len : length before ≡ length table - 4 = omega (arith, ap length parts, length-append before (u32_bytes start.1), length-u32_bytes start.1) in
      u32_bytes-injective row start.1 below fits.row_number (sym is ∙ rest_is (length table - 4) table before (u32_bytes start.1) len parts) ∙ omega arith

  table_there : (table : List ℕ) (front : List R) (r : R) → table ≡ table_bytes K (front ++ r ∷ []) → 4 ≤ length table
  unfolding table_bytes
  table_there table front r are =
      let start : ℕ × ℕ = ((hash_in K r).word0, total_rows K front + 0) in
      omega (
        arith,
        ap length (are ∙ ap (flat_map start_row) (starts-append K front (r ∷ [])) ∙ flat_map-push start_row (starts K front) start),
        length-append (flat_map start_row (starts K front)) (start_row start),
        length-append (u64_bytes start.0) (u32_bytes start.1),
        length-u32_bytes start.1,
      )

  -- a section with records has a first and a last record
  module _ (section : SectionPart) (records : List R) (holds : PartHoldsRecords K section records) (some : 0 < length records) where
    seam : (front : List R) × (r : R) × (records ≡ front ++ r ∷ [])
    seam = go records some where
      go : (rs : List R) → 0 < length rs → (front : List R) × (r : R) × (rs ≡ front ++ r ∷ [])
      go [] none = absurd (omega (arith, none))
      go (r ∷ rs) any = last_of r rs

    rows_are : section.rows.now ≡ flat_map K.record_bytes (seam.0 ++ seam.1 ∷ [])
    rows_are = holds.rows ∙ ap (flat_map K.record_bytes) seam.2

    all_stored : All K.IsStored (seam.0 ++ seam.1 ∷ [])
    all_stored = subst (All K.IsStored) seam.2 holds.stored

    table_is : section.table.now ≡ table_bytes K (seam.0 ++ seam.1 ∷ [])
    table_is = holds.table ∙ ap (table_bytes K) seam.2

    row_is : (row : ℕ) → row < 2 ^ 32 → drop (length section.table.now - 4) section.table.now ≡ u32_bytes row → row ≡ total_rows K seam.0
    row_is row below is = row_there section.table.now seam.0 seam.1 row table_is (subst (λ rs. All FitsStart (starts K rs)) seam.2 holds.fits) below is

    pub table_long : length section.table.now < 4 → ⊥
    table_long short = omega (arith, short, table_there section.table.now seam.0 seam.1 table_is)

    pub rows_long : (row : ℕ) → row < 2 ^ 32 → drop (length section.table.now - 4) section.table.now ≡ u32_bytes row → length section.rows.now < 48 * row + 48 → ⊥
    rows_long row below is short =
        omega (arith, short, ap length rows_are, row_is row below is, length-last seam.0 [] seam.1 all_stored)

    pub first_long : length section.rows.now < 48 → ⊥
    first_long short = omega (arith, short, ap length rows_are, length-last seam.0 [] seam.1 all_stored)

    pub has_ends : (first last : H) (row : ℕ) → row < 2 ^ 32 → drop (length section.table.now - 4) section.table.now ≡ u32_bytes row
        → K.Fits first → K.header_bytes first ≡ take 48 (drop (48 * 0) section.rows.now) → K.Fits last → K.header_bytes last ≡ take 48 (drop (48 * row) section.rows.now)
        → HasEnds K records (record { first = K.hash_of first; last = K.hash_of last })
    has_ends first last row below is first_fits first_is last_fits last_is = go records holds.rows holds.stored some refl where
      last_hash : IsLastHash K records (Some (K.hash_of last))
      last_hash = (seam.0, seam.1, seam.2, header_there section.rows.now seam.0 [] seam.1 last row rows_are all_stored (row_is row below is) last_fits last_is)

      go : (rs : List R) → section.rows.now ≡ flat_map K.record_bytes rs → All K.IsStored rs → 0 < length rs → rs ≡ records → HasEnds K records (record { first = K.hash_of first; last = K.hash_of last })
      go [] are stored none same = absurd (omega (arith, none))
      go (r ∷ rs) are stored any same = record {
        first_record = r;
        rest = rs;
        records_are = sym same;
        first_is = header_there section.rows.now [] rs r first 0 are stored refl first_fits first_is;
        last_is = last_hash;
      }

  -- a section without bytes has no records
  pub no_records : (records : List R) → All K.IsStored records → flat_map K.record_bytes records ≡ [] → records ≡ []
  no_records [] stored none = refl
  no_records (r ∷ rs) stored none =
      absurd (omega (arith, ap length none, length-append (K.record_bytes r) (flat_map K.record_bytes rs), length-record r (stored 0 r (omega arith)), laws.rows r (stored 0 r (omega arith))))

is_less : (o : Ordering) → is_lt o ≡ true → o ≡ Less
is_less Less is = refl
is_less Equal is = absurd (true≢false (sym is))
is_less Greater is = absurd (true≢false (sym is))

-- the header that was read
pub header_read : {H R : Type 0} (K : RecordKind H R) (row_bytes : H → List ℕ) (Fits : H → Type 0) (as_read : H → H) → IsHeaderRow K row_bytes Fits as_read → (bytes : List ℕ) (h : H)
    → ReadsRow row_bytes Fits as_read (λ bs. bs ≡ bytes) h → K.Fits h × (K.header_bytes h ≡ bytes)
header_read K row_bytes Fits as_read row bytes h read =
    let same : read.stored ≡ h = sym (row.same read.stored) ∙ read.returned in
    (subst K.Fits same (row.widths read.stored read.widths), ap K.header_bytes (sym same) ∙ sym (row.bytes read.stored) ∙ read.taken)

-- the turns of the loop over parts
module _ {H R : Type 0} (K : RecordKind H R) (laws : KindLaws K) (sections : List SectionPart) (records : List (List R)) (hold : HoldSections K sections records) (stored : All (All K.IsStored) records)
    (each : All (Ascends K) records) where
  lens : length sections ≡ length records
  lens = sym (length-map sections (λ (s : SectionPart). s.count)) ∙ ap length hold.counts ∙ length-map records (total_rows K)

  module _ (i : ℕ) (d : SectionPart) (below : i < length sections) where
    within : i < length records
    within = omega (arith, below, lens)

    abbrev here : List R
    here = get_or records i []

    pub holds_here : PartHoldsRecords K (get_or sections i d) here
    holds_here = record {
      rows = sym (get_or-map (λ (s : SectionPart). s.rows.now) sections i d [] below) ∙ ap (λ bs. get_or bs i []) hold.rows ∙ get_or-map (flat_map K.record_bytes) records i [] [] within;
      table = sym (get_or-map (λ (s : SectionPart). s.table.now) sections i d [] below) ∙ ap (λ bs. get_or bs i []) hold.tables ∙ get_or-map (table_bytes K) records i [] [] within;
      fits = hold.fits i [] within;
      stored = stored i [] within;
    }

    more : all_of (take (i + 1) records) ≡ all_of (take i records) ++ here
    more = ap all_of (take_more records i [] within) ∙ flat_map-push (λ (rs : List R). rs) (take i records) here

    pub next_empty : (last : Option DataHash) → AscendTo K (all_of (take i records)) last → true ≡ (length (get_or sections i d).rows.now == 0) → AscendTo K (all_of (take (i + 1) records)) last
    next_empty last before empty =
        let none : length (get_or sections i d).rows.now ≡ 0 = grind (arith, nat_tests, empty) in
        let nothing : here ≡ [] = no_records K laws here (stored i [] within) (sym holds_here.rows ∙ nil_from_length _ none) in
        subst (λ rs. AscendTo K rs last) (sym (more ∙ ap (λ rs. all_of (take i records) ++ rs) nothing ∙ append-nil (all_of (take i records)))) before

    pub some_here : false ≡ (length (get_or sections i d).rows.now == 0) → 0 < length here
    some_here full = go here holds_here.rows where
      some : 0 < length (get_or sections i d).rows.now
      some = grind (arith, nat_tests, full)

      go : (rs : List R) → (get_or sections i d).rows.now ≡ flat_map K.record_bytes rs → 0 < length rs
      go [] are = absurd (omega (arith, some, ap length are))
      go (r ∷ rs) are = omega arith

    pub not_found : ((rs : List R) → PartHoldsRecords K (get_or sections i d) rs → 0 < length rs → ⊥) → false ≡ (length (get_or sections i d).rows.now == 0) → ⊥
    not_found none full = none here holds_here (some_here full)

    pub next_ascend : (last : Option DataHash) (ends : EndHashes) → AscendTo K (all_of (take i records)) last → ((rs : List R) → PartHoldsRecords K (get_or sections i d) rs → 0 < length rs → HasEnds K rs ends)
        → false ≡ (length (get_or sections i d).rows.now == 0) → is_after last ends.first ≡ true → AscendTo K (all_of (take (i + 1) records)) (Some ends.last)
    next_ascend last ends before found full after = record { ascend = subst (Ascends K) (sym more) (ascends_with_next last before.ascend before.last_is after); last_is = last_there } where
      has : HasEnds K here ends
      has = found here holds_here (some_here full)

      last_there : IsLastHash K (all_of (take (i + 1) records)) (Some ends.last)
      last_there =
          let end = has.last_is in
          (all_of (take i records) ++ end.0, end.1, more ∙ ap (λ rs. all_of (take i records) ++ rs) end.2 ∙ sym (append_assoc (all_of (take i records)) end.0 (end.1 ∷ [])), end.3)

      ascends_with_next : (last : Option DataHash) → Ascends K (all_of (take i records)) → IsLastHash K (all_of (take i records)) last → is_after last ends.first ≡ true → Ascends K (all_of (take i records) ++ here)
      ascends_with_next None ascend none after = subst (λ rs. Ascends K (rs ++ here)) (sym none) (each i [] within)
      ascends_with_next (Some l) ascend (front, r, are, hash) after =
          let less : hash_cmp (hash_in K r) (hash_in K has.first_record) ≡ Less = is_less _ ((λ j. is_lt (hash_cmp (hash j) (has.first_is j))) ∙ after) in
          subst (λ rs. Ascends K (rs ++ here)) (sym are) (subst (λ rs. Ascends K ((front ++ r ∷ []) ++ rs)) (sym has.records_are)
          (rises_on (hash_in K) front r has.first_record has.rest (subst (Ascends K) are ascend) (subst (Ascends K) has.records_are (each i [] within)) less))

    pub not_ascending : (last : Option DataHash) (ends : EndHashes) → AscendTo K (all_of (take i records)) last → ((rs : List R) → PartHoldsRecords K (get_or sections i d) rs → 0 < length rs → HasEnds K rs ends)
        → false ≡ (length (get_or sections i d).rows.now == 0) → is_after last ends.first ≡ false → Ascends K (all_of records) → ⊥
    not_ascending last ends before found full after ascend = go last before.last_is after where
      has : HasEnds K here ends
      has = found here holds_here (some_here full)

      front_ascends : Ascends K (all_of (take i records) ++ here)
      front_ascends =
          subst (Ascends K) more (rises_before (hash_in K) (all_of (take (i + 1) records)) (all_of (drop (i + 1) records))
          (subst (Ascends K) (ap all_of (sym (take-append-drop (i + 1) records)) ∙ flat_map-append (λ (rs : List R). rs) (take (i + 1) records) (drop (i + 1) records)) ascend))

      go : (last : Option DataHash) → IsLastHash K (all_of (take i records)) last → is_after last ends.first ≡ false → ⊥
      go None none after = true≢false after
      go (Some l) (front, r, are, hash) after =
          let less = rises_at (hash_in K) front r has.first_record has.rest (subst (λ rs. Ascends K (rs ++ has.first_record ∷ has.rest)) are (subst (λ rs. Ascends K (all_of (take i records) ++ rs)) has.records_are front_ascends)) in
          true≢false (sym (ap is_lt less) ∙ (λ j. is_lt (hash_cmp (hash j) (has.first_is j))) ∙ after)

  pub all_ascend : (i : ℕ) (last : Option DataHash) → length sections ≤ i → AscendTo K (all_of (take i records)) last → Ascends K (all_of records)
  all_ascend i last past before = subst (λ rs. Ascends K (all_of rs)) (take_all i records (omega (arith, past, lens))) before.ascend
