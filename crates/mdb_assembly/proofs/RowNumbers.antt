-- Rows of a table whose numbers are raised one after another.
use Rattle.std.proofs.Common.{arith, ◌≡◌, ℕ, ◌+◌, ◌-◌, ◌<◌, ◌≤◌, ◌^◌, List, [], ◌∷◌, ◌++◌, length, take, drop, map, flat_map}
use Rattle.std.proofs.Common.{refl, ap, sym, subst, ◌∙◌, append_assoc, length-append}
use Rattle.std.specs.Prelude.{All}
use Rattle.std.proofs.lemmas.List.{take-append-drop, drop_at, take_at, take_all, map-append, length-drop, append-nil}
use Rattle.std.proofs.lemmas.List.Elements.{All-head, All-tail, All-drop, All-map, All-weaker}
use Rattle.std.proofs.lemmas.Grind.{flat_map-append}
use Rattle.std.proofs.Math.Seq.{drop-append_seam}
use Rattle.xet_base.specs.Bytes.{u32_bytes, u64_bytes}
use Rattle.xet_base.proofs.Bytes.{length-u32_bytes, length-u64_bytes, u32_bytes-front}
use Rattle.xet_shards.specs.Read.TableReading.{FitsStart, FitsTriple, triple_of}
use Rattle.xet_shards.specs.Write.RaisedRows.{start_later, chunk_row_later}
use Rattle.xet_shards.specs.Write.Tables.{start_row, chunk_table_row_bytes}
use Rattle.xet_shards.specs.declared.shard_format.write.xorb_writer.ChunkTableRow.{ChunkTableRow}
use Rattle.mdb_assembly.specs.Assembly.{NumberedRow, row_bytes, row_later, IsRowOf}

-- the number that is read at an offset is the one that stands there
pub number_read : (before after rest old : List ℕ) (number read at : ℕ) → length before ≡ at → number < 2 ^ 32
    → read < 2 ^ 32 → old ≡ before ++ (u32_bytes number ++ after)
    → take (length old - at) (drop at old) ≡ u32_bytes read ++ rest → number ≡ read
number_read before after rest old number read at len fits read_fits old_is split =
    let whole : take (length old - at) (drop at old) ≡ drop at old =
    take_all (length old - at) (drop at old) (omega (arith, length-drop at old)) in
    (u32_bytes-front number read after rest fits read_fits
    (sym (ap (drop at) old_is ∙ drop_at before (u32_bytes number ++ after) at len) ∙ sym whole ∙ split)).0

-- a number that is put at an offset takes the place of the one that stood there
pub number_put : (before after old new : List ℕ) (number value at end : ℕ) → length before ≡ at
    → old ≡ before ++ (u32_bytes number ++ after) → end ≡ at + 4
    → take end new ≡ take at old ++ u32_bytes value → drop end new ≡ drop end old
    → new ≡ before ++ (u32_bytes value ++ after)
number_put before after old new number value at end len old_is end_is front rest =
    let taken : take at old ≡ before =
    ap (take at) old_is ∙ take_at before (u32_bytes number ++ after) at len in
    let longer : length (before ++ u32_bytes number) ≡ end =
    omega (arith, length-append before (u32_bytes number), length-u32_bytes number, len, end_is) in
    let left : drop end old ≡ after =
    ap (drop end) (old_is ∙ sym (append_assoc before (u32_bytes number) after))
    ∙ drop_at (before ++ u32_bytes number) after end longer in
    sym (take-append-drop end new) ∙ ap (λ l. l ++ drop end new) (front ∙ ap (λ l. l ++ u32_bytes value) taken)
    ∙ ap (λ l. (before ++ u32_bytes value) ++ l) (rest ∙ left) ∙ append_assoc before (u32_bytes value) after

-- some rows have their numbers raised, and the others have not
pub record RaisedUpTo (size first : ℕ) (table : List NumberedRow) (at : ℕ) (rows : List ℕ) : Type 0 where
  pub done : List NumberedRow
  pub left : List NumberedRow
  pub table_is : table ≡ done ++ left
  pub rows_are : rows ≡ flat_map row_bytes (map (row_later first) done) ++ flat_map row_bytes left
  pub at_is : at ≡ length (flat_map row_bytes (map (row_later first) done))
  pub fit : All (IsRowOf size) left

pub none_raised : (size first : ℕ) (table : List NumberedRow) (rows : List ℕ) → rows ≡ flat_map row_bytes table
    → All (IsRowOf size) table → RaisedUpTo size first table 0 rows
none_raised size first table rows are fit = record {
  done = [];
  left = table;
  table_is = refl;
  rows_are = are;
  at_is = refl;
  fit = fit;
}

row_length : (size : ℕ) (row : NumberedRow) (number : ℕ) → IsRowOf size row
    → length ((row.front ++ u32_bytes number) ++ row.rest) ≡ size
row_length size row number is =
    omega (arith, length-append (row.front ++ u32_bytes number) row.rest, length-append row.front (u32_bytes number), length-u32_bytes number, is.front, is.rest)

-- where bytes are left, a row is left
next_row : (size at : ℕ) (done old : List ℕ) (left : List NumberedRow) → old ≡ done ++ flat_map row_bytes left
    → at ≡ length done → 0 < size → at + size ≤ length old
    → (row : NumberedRow) × (others : List NumberedRow) × (left ≡ row ∷ others)
next_row size at done old [] old_is at_is some within =
    absurd (omega (arith, ap length old_is, length-append done [], at_is, some, within))
next_row size at done old (row ∷ others) old_is at_is some within = (row, others, refl)

-- where no row is left, no bytes are left
none_left : (size at : ℕ) (done old : List ℕ) (left : List NumberedRow) → old ≡ done ++ flat_map row_bytes left
    → at ≡ length done → All (IsRowOf size) left → length old - at < size → left ≡ []
none_left size at done old [] old_is at_is fit short = refl
none_left size at done old (row ∷ others) old_is at_is fit short =
    absurd (omega (
      arith,
      ap length old_is,
      length-append done (row_bytes row ++ flat_map row_bytes others),
      length-append (row_bytes row) (flat_map row_bytes others),
      row_length size row row.number (All-head (IsRowOf size) row others fit),
      at_is,
      short,
    ))

raised_more : (first : ℕ) (done : List NumberedRow) (row : NumberedRow)
    → flat_map row_bytes (map (row_later first) (done ++ row ∷ []))
    ≡ flat_map row_bytes (map (row_later first) done) ++ row_bytes (row_later first row)
raised_more first done row =
    ap (flat_map row_bytes) (map-append (row_later first) done (row ∷ []))
    ∙ flat_map-append row_bytes (map (row_later first) done) (row_later first row ∷ [])
    ∙ ap (λ l. flat_map row_bytes (map (row_later first) done) ++ l) (append-nil (row_bytes (row_later first row)))

module _ (size first at : ℕ) (table : List NumberedRow) (old : List ℕ)
    (raised : RaisedUpTo size first table at old) (some : 12 ≤ size) (within : at + size ≤ length old) where
  raised_bytes : List ℕ
  raised_bytes = flat_map row_bytes (map (row_later first) raised.done)

  next : (row : NumberedRow) × (others : List NumberedRow) × (raised.left ≡ row ∷ others)
  unfolding raised_bytes
  next =
      next_row size at raised_bytes old raised.left raised.rows_are raised.at_is (omega (arith, some)) within

  next_fits : All (IsRowOf size) (next.0 ∷ next.1)
  next_fits = subst (All (IsRowOf size)) next.2 raised.fit

  is_next : IsRowOf size next.0
  is_next = All-head (IsRowOf size) next.0 next.1 next_fits

  -- the bytes before the number of the next row
  before : List ℕ
  before = raised_bytes ++ next.0.front

  -- the bytes after it
  after : List ℕ
  after = next.0.rest ++ flat_map row_bytes next.1

  rows_regroup : (number : ℕ) → raised_bytes ++ (((next.0.front ++ u32_bytes number) ++ next.0.rest) ++ flat_map row_bytes next.1)
      ≡ before ++ (u32_bytes number ++ after)
  unfolding before after
  rows_regroup number = simp append_assoc

  old_is : old ≡ before ++ (u32_bytes next.0.number ++ after)
  unfolding raised_bytes
  old_is = raised.rows_are ∙ ap (λ l. raised_bytes ++ flat_map row_bytes l) next.2 ∙ rows_regroup next.0.number

  before_len : length before ≡ at + 8
  unfolding before raised_bytes
  before_len = omega (arith, length-append raised_bytes next.0.front, raised.at_is, is_next.front)

  -- the next row's number is raised too
  pub one_more_raised : (new : List ℕ)
      → ((front back : List ℕ) (number : ℕ) → length front ≡ at + 8 → number < 2 ^ 32
      → old ≡ front ++ (u32_bytes number ++ back) → new ≡ front ++ (u32_bytes (first + number) ++ back))
      → RaisedUpTo size first table (at + size) new
  unfolding raised_bytes
  one_more_raised new put =
      let row = next.0 in
      let more = raised_more first raised.done row in
      record {
        done = raised.done ++ row ∷ [];
        left = next.1;
        table_is = raised.table_is ∙ ap (λ l. raised.done ++ l) next.2 ∙ sym (append_assoc raised.done (row ∷ []) next.1);
        rows_are = put before after row.number before_len is_next.fits old_is
            ∙ sym (rows_regroup (first + row.number))
            ∙ sym (append_assoc raised_bytes (row_bytes (row_later first row)) (flat_map row_bytes next.1))
            ∙ ap (λ l. l ++ flat_map row_bytes next.1) (sym more);
        at_is = omega (
          arith,
          ap length more,
          length-append raised_bytes (row_bytes (row_later first row)),
          row_length size row (first + row.number) is_next,
          raised.at_is,
        );
        fit = All-tail (IsRowOf size) row next.1 next_fits;
      }

  -- a number that passes `u32` is one of the table
  pub number_passes : ((front back : List ℕ) (number : ℕ) → length front ≡ at + 8 → number < 2 ^ 32
      → old ≡ front ++ (u32_bytes number ++ back) → 2 ^ 32 ≤ first + number)
      → All (λ row. first + row.number < 2 ^ 32) table → ⊥
  number_passes passes fit =
      let Fits : NumberedRow → Type 0 = λ row. first + row.number < 2 ^ 32 in
      let left : All Fits raised.left =
      subst (All Fits) (ap (drop (length raised.done)) raised.table_is ∙ drop-append_seam raised.done raised.left)
      (All-drop Fits (length raised.done) table fit) in
      let its : Fits next.0 = All-head Fits next.0 next.1 (subst (All Fits) next.2 left) in
      omega (arith, its, passes before after next.0.number before_len is_next.fits old_is)

-- all numbers are raised
pub all_raised : (size first at : ℕ) (table : List NumberedRow) (rows : List ℕ)
    → RaisedUpTo size first table at rows → length rows - at < size
    → rows ≡ flat_map row_bytes (map (row_later first) table)
all_raised size first at table rows raised short =
    let done = flat_map row_bytes (map (row_later first) raised.done) in
    let none = none_left size at done rows raised.left raised.rows_are raised.at_is raised.fit short in
    let whole : raised.done ≡ table =
    sym (raised.table_is ∙ ap (λ l. raised.done ++ l) none ∙ append-nil raised.done) in
    raised.rows_are ∙ ap (λ l. done ++ flat_map row_bytes l) none ∙ append-nil done
    ∙ ap (λ l. flat_map row_bytes (map (row_later first) l)) whole

-- the rows of a file table or a xorb table as rows of any table
abbrev pub start_as_row : ℕ × ℕ → NumberedRow
start_as_row start = record { front = u64_bytes start.0; number = start.1; rest = [] }

pub starts_as_rows : (starts : List (ℕ × ℕ)) → flat_map start_row starts ≡ flat_map row_bytes (map start_as_row starts)
starts_as_rows [] = refl
starts_as_rows (start ∷ starts) =
    ap (λ l. l ++ flat_map start_row starts) (sym (append-nil (start_row start)))
    ∙ ap (λ l. row_bytes (start_as_row start) ++ l) (starts_as_rows starts)

pub starts_later : (first : ℕ) (starts : List (ℕ × ℕ))
    → flat_map row_bytes (map (row_later first) (map start_as_row starts)) ≡ flat_map start_row (map (start_later first) starts)
starts_later first [] = refl
starts_later first (start ∷ starts) =
    ap (λ l. l ++ flat_map row_bytes (map (row_later first) (map start_as_row starts)))
    (append-nil (start_row (start_later first start)))
    ∙ ap (λ l. start_row (start_later first start) ++ l) (starts_later first starts)

pub starts_are_rows : (starts : List (ℕ × ℕ)) → All FitsStart starts → All (IsRowOf 12) (map start_as_row starts)
starts_are_rows starts fit =
    All-map (IsRowOf 12) start_as_row starts
    (All-weaker FitsStart (λ start. IsRowOf 12 (start_as_row start))
    (λ start fits. record { front = length-u64_bytes start.0; rest = refl; fits = fits.row_number }) starts fit)

pub starts_fit : (first : ℕ) (starts : List (ℕ × ℕ)) → All (λ (start : ℕ × ℕ). first + start.1 < 2 ^ 32) starts
    → All (λ (row : NumberedRow). first + row.number < 2 ^ 32) (map start_as_row starts)
starts_fit first starts fit = All-map (λ (row : NumberedRow). first + row.number < 2 ^ 32) start_as_row starts fit

-- the rows of a chunk table as rows of any table
abbrev pub chunk_as_row : ChunkTableRow → NumberedRow
chunk_as_row row = record { front = u64_bytes row.word; number = row.row; rest = u32_bytes row.index }

pub chunks_as_rows : (table : List ChunkTableRow)
    → flat_map chunk_table_row_bytes table ≡ flat_map row_bytes (map chunk_as_row table)
chunks_as_rows [] = refl
chunks_as_rows (row ∷ table) = ap (λ l. chunk_table_row_bytes row ++ l) (chunks_as_rows table)

pub chunks_later : (first : ℕ) (table : List ChunkTableRow)
    → flat_map row_bytes (map (row_later first) (map chunk_as_row table))
    ≡ flat_map chunk_table_row_bytes (map (chunk_row_later first) table)
chunks_later first [] = refl
chunks_later first (row ∷ table) =
    ap (λ l. chunk_table_row_bytes (chunk_row_later first row) ++ l) (chunks_later first table)

pub chunks_are_rows : (table : List ChunkTableRow) → All (λ (row : ChunkTableRow). FitsTriple (triple_of row)) table
    → All (IsRowOf 16) (map chunk_as_row table)
chunks_are_rows table fit =
    All-map (IsRowOf 16) chunk_as_row table
    (All-weaker (λ (row : ChunkTableRow). FitsTriple (triple_of row)) (λ row. IsRowOf 16 (chunk_as_row row))
    (λ row fits. record {
      front = length-u64_bytes row.word;
      rest = omega (arith, length-u32_bytes row.index);
      fits = fits.row_number;
    }) table fit)

pub chunks_fit : (first : ℕ) (table : List ChunkTableRow) → All (λ (row : ChunkTableRow). first + row.row < 2 ^ 32) table
    → All (λ (row : NumberedRow). first + row.number < 2 ^ 32) (map chunk_as_row table)
chunks_fit first table fit = All-map (λ (row : NumberedRow). first + row.number < 2 ^ 32) chunk_as_row table fit
