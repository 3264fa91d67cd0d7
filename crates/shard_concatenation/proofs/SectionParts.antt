-- The turns of the loops that write the tables of parts.
use Rattle.std.proofs.Common.{◌≡◌, ℕ, ◌+◌, ◌%◌, ◌<◌, ◌≤◌, ◌^◌, List, [], ◌∷◌, ◌++◌, length, map, flat_map, take, get_or, Option, refl, sym, ap, ◌∙◌, subst, append_assoc, append-nil, arith}
use Rattle.std.specs.Prelude.{All}
use Rattle.std.specs.Io.KnownBytes.{Appends}
use Rattle.std.proofs.KnownBytes.{Appends-nil, Appends-trans}
use Rattle.std.proofs.lemmas.List.{length-append, length-map, get_or-map, take_more, take_all}
use Rattle.std.proofs.lemmas.List.Elements.{All-nil, All-cons, All-drop, All-weaker}
use Rattle.std.proofs.lemmas.List.Sums.{sum_by-append, sum_by-cons, sum_by_push}
use Rattle.std.proofs.lemmas.Grind.{flat_map-append}
use Rattle.xet_base.specs.Bytes.{u32_bytes, u64_bytes}
use Rattle.xet_base.proofs.Bytes.{u32_bytes-front, u64_bytes-front, length-u64_bytes}
use Rattle.xet_records.specs.RecordKind.{RecordKind}
use Rattle.shard_concatenation.specs.declared.section_parts.SectionPart.{SectionPart}
use Rattle.xet_shards.specs.Read.TableReading.{FitsStart}
use Rattle.shard_concatenation.specs.Steps.SectionsSteps.{HoldSections, all_of}
use Rattle.xet_shards.specs.Write.RaisedRows.{start_later}
use Rattle.xet_shards.specs.Write.Section.{total_rows, with_fronts}
use Rattle.xet_shards.specs.Write.Tables.{start_row, start_of, starts, table_bytes}
use Rattle.shard_concatenation.proofs.Permutations.{all_at, sum_through}
use Rattle.xet_shards.proofs.ShardInMemory.Walks.{flat_map-push}
use Rattle.xet_shards.proofs.Write.Ranges.{starts-append}
use Rattle.xet_shards.proofs.Write.Tables.{table_bytes-nil}
use Rattle.xet_shards.proofs.Write.WrittenTables.{length-start}

-- rows of a table were written, with row numbers raised, and the others are left
pub record HasWrittenStarts (first : ℕ) (rows : List (ℕ × ℕ)) (rest : List ℕ) (old now : Option (List ℕ)) : Type 0 where
  pub done : List (ℕ × ℕ)
  pub left : List (ℕ × ℕ)
  pub all : rows ≡ done ++ left
  pub fits : All FitsStart left
  pub rest_is : rest ≡ flat_map start_row left
  pub written : Appends old now (flat_map start_row (map (start_later first) done))

pub map-push : {X Y : Type 0} (f : X → Y) (xs : List X) (x : X) → map f (xs ++ x ∷ []) ≡ map f xs ++ f x ∷ []
map-push f [] x = refl
map-push f (y ∷ xs) x = ap (λ ys. f y ∷ ys) (map-push f xs x)

pub one_start_written : (first : ℕ) (rows : List (ℕ × ℕ)) (rest more after : List ℕ) (word row later : ℕ) (old now new : Option (List ℕ)) → HasWrittenStarts first rows rest old now
    → word < 2 ^ 64 → row < 2 ^ 32 → rest ≡ u64_bytes word ++ more → more ≡ u32_bytes row ++ after → later ≡ row + first → Appends now new (start_row (word, later))
    → HasWrittenStarts first rows after old new
one_start_written first rows rest more after word row later old now new before word_fits row_fits one two sum wrote = go before.left before.all before.fits before.rest_is
  where
    there : rest ≡ u64_bytes word ++ (u32_bytes row ++ after)
    there = one ∙ ap (λ bs. u64_bytes word ++ bs) two

    go : (left : List (ℕ × ℕ)) → rows ≡ before.done ++ left → All FitsStart left → rest ≡ flat_map start_row left → HasWrittenStarts first rows after old new
    go [] all fit is = absurd (omega (arith, ap length (sym is ∙ there), length-append (u64_bytes word) (u32_bytes row ++ after), length-u64_bytes word))
    go (s ∷ left) all fit is =
        let here : FitsStart s = fit 0 s (omega arith) in
        let words = u64_bytes-front s.0 word (u32_bytes s.1 ++ flat_map start_row left) (u32_bytes row ++ after) here.word word_fits
        (sym (append_assoc (u64_bytes s.0) (u32_bytes s.1) (flat_map start_row left)) ∙ sym is ∙ there) in
        let numbers = u32_bytes-front s.1 row (flat_map start_row left) after here.row_number row_fits words.1 in
        let same : start_later first s ≡ (word, later) = λ i. (words.0 i, ((ap (λ n. first + n) numbers.0 ∙ omega arith) ∙ sym sum) i) in
        record {
          done = before.done ++ s ∷ [];
          left = left;
          all = all ∙ sym (append_assoc before.done (s ∷ []) left);
          fits = All-drop FitsStart 1 (s ∷ left) fit;
          rest_is = sym numbers.1;
          written = subst (Appends old new) (sym (ap (flat_map start_row) (map-push (start_later first) before.done s) ∙ flat_map-push start_row (map (start_later first) before.done) (start_later first s)))
              (Appends-trans old now new (flat_map start_row (map (start_later first) before.done)) (start_row (start_later first s)) before.written (subst (λ t. Appends now new (start_row t)) (sym same) wrote));
        }

-- a bound of all row numbers is one of the row that was read
pub row_read_fits : (first bound : ℕ) (rows : List (ℕ × ℕ)) (rest more after : List ℕ) (word row : ℕ) (old now : Option (List ℕ)) → HasWrittenStarts first rows rest old now
    → word < 2 ^ 64 → row < 2 ^ 32 → rest ≡ u64_bytes word ++ more → more ≡ u32_bytes row ++ after → All (λ s. s.1 + first < bound) rows → row + first < bound
row_read_fits first bound rows rest more after word row old now before word_fits row_fits one two all = go before.left before.all before.fits before.rest_is
  where
    there : rest ≡ u64_bytes word ++ (u32_bytes row ++ after)
    there = one ∙ ap (λ bs. u64_bytes word ++ bs) two

    go : (left : List (ℕ × ℕ)) → rows ≡ before.done ++ left → All FitsStart left → rest ≡ flat_map start_row left → row + first < bound
    go [] are fit is = absurd (omega (arith, ap length (sym is ∙ there), length-append (u64_bytes word) (u32_bytes row ++ after), length-u64_bytes word))
    go (s ∷ left) are fit is =
        let here : FitsStart s = fit 0 s (omega arith) in
        let words = u64_bytes-front s.0 word (u32_bytes s.1 ++ flat_map start_row left) (u32_bytes row ++ after) here.word word_fits
        (sym (append_assoc (u64_bytes s.0) (u32_bytes s.1) (flat_map start_row left)) ∙ sym is ∙ there) in
        let numbers = u32_bytes-front s.1 row (flat_map start_row left) after here.row_number row_fits words.1 in
        let fits : s.1 + first < bound = (all_at (λ (t : ℕ × ℕ). t.1 + first < bound) before.done left s (subst (All (λ t. t.1 + first < bound)) are all)).1 in
        omega (arith, fits, numbers.0)

-- where too few bytes are left for a row, all are written
pub all_starts_written : (first : ℕ) (rows : List (ℕ × ℕ)) (rest : List ℕ) (old now : Option (List ℕ)) → HasWrittenStarts first rows rest old now → length rest < 12
    → Appends old now (flat_map start_row (map (start_later first) rows))
all_starts_written first rows rest old now before few = go before.left before.all before.fits before.rest_is
  where
    go : (left : List (ℕ × ℕ)) → rows ≡ before.done ++ left → All FitsStart left → rest ≡ flat_map start_row left → Appends old now (flat_map start_row (map (start_later first) rows))
    go [] all fit is = subst (λ rs. Appends old now (flat_map start_row (map (start_later first) rs))) (sym (append-nil before.done) ∙ sym all) before.written
    go (s ∷ left) all fit is =
        absurd (omega (arith, few, ap length is, length-append (start_row s) (flat_map start_row left), length-start s (fit 0 s (omega arith))))

-- the tables of some sections were written, and these have `first` rows
pub record HasWrittenTables {H R : Type 0} (K : RecordKind H R) (first : ℕ) (records : List (List R)) (old now : Option (List ℕ)) : Type 0 where
  pub rows : first ≡ total_rows K (all_of records)
  pub written : Appends old now (table_bytes K (all_of records))

module _ {H R : Type 0} (K : RecordKind H R) where
  pub no_tables_written : (old : Option (List ℕ)) → HasWrittenTables K 0 [] old old
  no_tables_written old = record { rows = refl; written = subst (Appends old old) (sym (table_bytes-nil K)) (Appends-nil old) }

  table_bytes-append : (xs ys : List R) → table_bytes K (xs ++ ys) ≡ table_bytes K xs ++ flat_map start_row (map (start_later (total_rows K xs)) (starts K ys))
  unfolding table_bytes
  table_bytes-append xs ys = ap (flat_map start_row) (starts-append K xs ys) ∙ flat_map-append start_row (starts K xs) (map (start_later (total_rows K xs)) (starts K ys))

  table_of : (rs : List R) (table : List ℕ) → table ≡ table_bytes K rs → table ≡ flat_map start_row (starts K rs)
  unfolding table_bytes
  table_of rs table is = is

  -- the rows of a table are within their section
  starts_within : (front rs : List R) → All (λ (s : ℕ × ℕ). s.1 ≤ total_rows K front + total_rows K rs) (map (start_of K) (with_fronts front rs))
  starts_within front [] = All-nil (λ (s : ℕ × ℕ). s.1 ≤ total_rows K front + total_rows K [])
  starts_within front (r ∷ rs) =
      All-cons (λ (s : ℕ × ℕ). s.1 ≤ total_rows K front + total_rows K (r ∷ rs)) (start_of K (front, r)) (map (start_of K) (with_fronts (front ++ r ∷ []) rs)) (omega arith)
      (All-weaker (λ (s : ℕ × ℕ). s.1 ≤ total_rows K (front ++ r ∷ []) + total_rows K rs) (λ (s : ℕ × ℕ). s.1 ≤ total_rows K front + total_rows K (r ∷ rs))
      (λ s below. omega (arith, below, sum_by_push K.row_count front r, sum_by-cons K.row_count r rs)) (map (start_of K) (with_fronts (front ++ r ∷ []) rs)) (starts_within (front ++ r ∷ []) rs))

  module _ (sections : List SectionPart) (records : List (List R)) (i first : ℕ) (old now : Option (List ℕ)) (hold : HoldSections K sections records) (below : i < length sections)
      (before : HasWrittenTables K first (take i records) old now) (few : total_rows K (all_of records) < 2 ^ 32) where
    abbrev here : List R
    here = get_or records i []

    within : i < length records
    within = let lens : length sections ≡ length records = sym (length-map sections (λ (s : SectionPart). s.count)) ∙ ap length hold.counts ∙ length-map records (total_rows K) in omega (arith, below, lens)

    fits_through : first + total_rows K here < 2 ^ 32
    fits_through = omega (arith, few, before.rows, sum_through (λ (rs : List R). rs) K.row_count records i [] within)

    -- row numbers of parts fit, since those of all do
    pub later_fit : All (λ (row : ℕ × ℕ). row.1 + first < 2 ^ 32) (starts K here)
    later_fit =
        All-weaker (λ (s : ℕ × ℕ). s.1 ≤ total_rows K [] + total_rows K here) (λ (s : ℕ × ℕ). s.1 + first < 2 ^ 32) (λ s low. omega (arith, low, fits_through)) (starts K here) (starts_within [] here)

    module _ (d : SectionPart) where
      count : (get_or sections i d).count ≡ total_rows K here
      count = sym (get_or-map (λ (s : SectionPart). s.count) sections i d 0 below) ∙ ap (λ ns. get_or ns i 0) hold.counts ∙ get_or-map (total_rows K) records i [] 0 within

      pub rows_later_fit : (P : Type 0) → ((rows : List (ℕ × ℕ)) → (get_or sections i d).table.now ≡ flat_map start_row rows → All FitsStart rows → All (λ row. row.1 + first < 2 ^ 32) rows → P) → P
      rows_later_fit P from =
          let table : (get_or sections i d).table.now ≡ table_bytes K here =
          sym (get_or-map (λ (s : SectionPart). s.table.now) sections i d [] below) ∙ ap (λ bs. get_or bs i []) hold.tables ∙ get_or-map (table_bytes K) records i [] [] within in
          from (starts K here) (table_of here (get_or sections i d).table.now table) (hold.fits i [] within) later_fit

      pub count_fits : 2 ^ 32 ≤ first + (get_or sections i d).count → ⊥
      count_fits passes = omega (arith, passes, fits_through, count)

      -- so their sum does not wrap
      pub count_kept : (first + (get_or sections i d).count) % 2 ^ 32 ≡ first + (get_or sections i d).count
      count_kept = omega (arith, fits_through, count)

  -- a table was written whose row numbers are as the writing asks
  pub one_table_written : (sections : List SectionPart) (records : List (List R)) (i first later : ℕ) (d : SectionPart) (old now new : Option (List ℕ)) (AreFine : List (ℕ × ℕ) → Type 0) → HoldSections K sections records
      → i < length sections → HasWrittenTables K first (take i records) old now → AreFine (starts K (get_or records i []))
      → ((rows : List (ℕ × ℕ)) → (get_or sections i d).table.now ≡ flat_map start_row rows → All FitsStart rows → AreFine rows → Appends now new (flat_map start_row (map (start_later first) rows)))
      → later ≡ first + (get_or sections i d).count → HasWrittenTables K later (take (i + 1) records) old new
  one_table_written sections records i first later d old now new AreFine hold below before fine wrote sum =
      let lens : length sections ≡ length records = sym (length-map sections (λ (s : SectionPart). s.count)) ∙ ap length hold.counts ∙ length-map records (total_rows K) in
      let within : i < length records = omega (arith, below, lens) in
      let here : List R = get_or records i [] in
      let more : all_of (take (i + 1) records) ≡ all_of (take i records) ++ here = ap all_of (take_more records i [] within) ∙ flat_map-push (λ (rs : List R). rs) (take i records) here in
      let table : (get_or sections i d).table.now ≡ table_bytes K here =
      sym (get_or-map (λ (s : SectionPart). s.table.now) sections i d [] below) ∙ ap (λ bs. get_or bs i []) hold.tables ∙ get_or-map (table_bytes K) records i [] [] within in
      let count : (get_or sections i d).count ≡ total_rows K here =
      sym (get_or-map (λ (s : SectionPart). s.count) sections i d 0 below) ∙ ap (λ ns. get_or ns i 0) hold.counts ∙ get_or-map (total_rows K) records i [] 0 within in
      record {
        rows = sum ∙ omega (arith, before.rows, count, sum_by-append K.row_count (all_of (take i records)) here) ∙ ap (total_rows K) (sym more);
        written = subst (Appends old new) (sym (ap (table_bytes K) more ∙ table_bytes-append (all_of (take i records)) here))
            (Appends-trans old now new (table_bytes K (all_of (take i records))) (flat_map start_row (map (start_later (total_rows K (all_of (take i records)))) (starts K here))) before.written
            (subst (λ n. Appends now new (flat_map start_row (map (start_later n) (starts K here)))) before.rows (wrote (starts K here) (table_of here (get_or sections i d).table.now table) (hold.fits i [] within) fine)));
      }

  pub all_tables_written : (sections : List SectionPart) (records : List (List R)) (i first : ℕ) (old now : Option (List ℕ)) → HoldSections K sections records → length sections ≤ i
      → HasWrittenTables K first (take i records) old now → Appends old now (table_bytes K (all_of records))
  all_tables_written sections records i first old now hold past before =
      let lens : length sections ≡ length records = sym (length-map sections (λ (s : SectionPart). s.count)) ∙ ap length hold.counts ∙ length-map records (total_rows K) in
      subst (λ rs. Appends old now (table_bytes K (all_of rs))) (take_all i records (omega (arith, past, lens))) before.written
