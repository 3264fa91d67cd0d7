-- The turns of the loop that reads a table, and what it gives where the rows are known.
use Rattle.std.proofs.Common.{◌≡◌, ◌⊎◌, Ok, Err, ℕ, ◌+◌, ◌*◌, ◌<◌, ◌≤◌, List, [], ◌∷◌, ◌++◌, length, flat_map, drop, append-nil, sym, ap, ◌∙◌, subst, arith, rules}
use Rattle.std.specs.Prelude.{All, MatchResult}
use Rattle.std.specs.declared.result.Result.{Result}
use Rattle.std.specs.declared.vec.Vec.{Vec}
use Rattle.std.proofs.lemmas.List.{length-append}
use Rattle.std.proofs.lemmas.List.Elements.{All-append, All-cons, All-drop, All-nil}
use Rattle.std.proofs.lemmas.Grind.{common_steps, flat_map-append}
use Rattle.std.proofs.Math.Nat.{mul-suc, mul-le-mul_left}
use Rattle.xet_base.specs.declared.error.CoreError.{CoreError}
use Rattle.xet_base.specs.declared.error.CoreError.TheVariants.{OutOfMemory}
use Rattle.xet_base.specs.Source.{Source, ReadsBytes, DeviceFailure, FailedBy, ReadCase, ReadFails, after_seek, bytes_left}
use Rattle.xet_base.proofs.Lists.{parts_front}
use Rattle.xet_base.specs.InputLaws.{ReadsBytes-trans}
use Rattle.xet_base.proofs.Reading.{ReadsBytes-consumes}
use Rattle.xet_shards.specs.Read.TableReading.{ReadsTable, RowsFailure, TableFails}
use Rattle.xet_shards.specs.Steps.TableReadingSteps.{ReadsNextRow}

-- the rows that were read so far
pub record HasReadRows {T : Type 0} (row_bytes : T → List ℕ) (Fits : T → Type 0) (size : ℕ) (start now : Source) (count : ℕ) (found : List T) : Type 0 where
  pub number : length found ≡ count
  pub widths : All Fits found
  pub bytes : length (flat_map row_bytes found) ≡ size * count
  pub taken : ReadsBytes start now (flat_map row_bytes found)

module _ {T : Type 0} (row_bytes : T → List ℕ) (Fits : T → Type 0) (size : ℕ) where
  pub more_rows_read : (start now new : Source) (count : ℕ) (found : List T) (row : T) → HasReadRows row_bytes Fits size start now count found
      → ReadsNextRow row_bytes Fits size now new row → HasReadRows row_bytes Fits size start new (count + 1) (found ++ row ∷ [])
  more_rows_read start now new count found row before next =
      let joined : flat_map row_bytes found ++ row_bytes row ≡ flat_map row_bytes (found ++ row ∷ []) =
      ap (λ bs. flat_map row_bytes found ++ bs) (sym (append-nil (row_bytes row))) ∙ sym (flat_map-append row_bytes found (row ∷ [])) in
      record {
        number = length-append found (row ∷ []) ∙ ap (λ k. k + 1) before.number;
        widths = All-append Fits found (row ∷ []) before.widths (All-cons Fits row [] next.widths (All-nil Fits));
        bytes = sym (ap length joined) ∙ length-append (flat_map row_bytes found) (row_bytes row) ∙ omega (arith, before.bytes, next.bytes, mul-suc size count);
        taken = subst (ReadsBytes start new) joined (ReadsBytes-trans start now new (flat_map row_bytes found) (row_bytes row) before.taken next.taken);
      }

  -- what is at an offset, as far as its rows were read
  module _ (old now : Source) (at count : ℕ) (found : List T) (read : HasReadRows row_bytes Fits size (after_seek old at) now count found) where
    bytes_are_then : drop at old.bytes ≡ flat_map row_bytes found ++ bytes_left now
    bytes_are_then = ReadsBytes-consumes (after_seek old at) now (flat_map row_bytes found) read.taken

    pub table_read : count ≤ 4294967295 → ReadsTable row_bytes Fits size old now at count found
    table_read few =
        search (rules, bytes_are_then, read)

    -- an allocation failed
    pub no_memory_for_row : (rows : ℕ) (e : CoreError) → count ≤ rows → rows ≤ 4294967295 → e ≡ OutOfMemory → TableFails size old now at rows e
    no_memory_for_row rows e within few is = search rules

    -- the next row was not read
    next_refused : (rows : ℕ) (new : Source) (e : CoreError) → 0 < size → size * count + size ≤ size * rows
        → FailedBy (ReadCase (length now.bytes < now.at + size)) now new e → RowsFailure old new at (size * rows) e
    next_refused rows new e some within cause = grind (arith, common_steps)

    pub row_fails : (rows : ℕ) (new : Source) (e : CoreError) → 0 < size → count < rows → rows ≤ 4294967295 → ReadFails now new size e → TableFails size old new at rows e
    row_fails rows new e some below few fails =
        let within : size * count + size ≤ size * rows = omega (arith, mul-suc size count, mul-le-mul_left size below) in
        grind (arith, common_steps, read.taken.after, next_refused)

-- what a read of a table answers on any bytes, and on those of known rows
abbrev pub ReadsOrFails : {T Z : Type 0} → (T → List ℕ) → (T → Type 0) → ℕ → Source → Source → ℕ → ℕ → Result (Vec T Z) CoreError → Type 0
ReadsOrFails row_bytes Fits size old new at count r =
    MatchResult r (λ found. ReadsTable row_bytes Fits size old new at count found.items) (TableFails size old new at count)

abbrev pub IsReadAs : {T Z : Type 0} → Source → Source → List T → Result (Vec T Z) CoreError → Type 0
IsReadAs old new rows r = MatchResult r (λ found. found.items ≡ rows) (λ e. DeviceFailure old new e ⊎ (e ≡ OutOfMemory))

-- rows that their bytes determine are read as they are, unless the device fails or an allocation does
module _ {T : Type 0} (row_bytes : T → List ℕ) (Fits : T → Type 0) (size : ℕ) (len : (t : T) → Fits t → length (row_bytes t) ≡ size)
    (determines : (s t : T) → Fits s → Fits t → row_bytes s ≡ row_bytes t → s ≡ t) where
  length-rows : (rows : List T) → All Fits rows → length (flat_map row_bytes rows) ≡ size * length rows
  length-rows [] fit = omega arith
  length-rows (row ∷ rows) fit =
      length-append (row_bytes row) (flat_map row_bytes rows)
      ∙ omega (arith, len row (fit 0 row (omega arith)), length-rows rows (All-drop Fits 1 (row ∷ rows) fit), mul-suc size (length rows))

  module _ (old new : Source) (at : ℕ) (rows : List T) (rest : List ℕ) (few : length rows ≤ 4294967295) (fit : All Fits rows)
      (bytes_are : drop at old.bytes ≡ flat_map row_bytes rows ++ rest) where
    why_not : (e : CoreError) → RowsFailure old new at (size * length rows) e → DeviceFailure old new e ⊎ (e ≡ OutOfMemory)
    why_not e cause =
        search (rules, ap length bytes_are, length-append (flat_map row_bytes rows) rest, length-rows rows fit)

    refused_because : (e : CoreError) → TableFails size old new at (length rows) e → DeviceFailure old new e ⊎ (e ≡ OutOfMemory)
    refused_because e fails = search (rules, why_not)

    pub whole_table : {Z : Type 0} (r : Result (Vec T Z) CoreError)
        → ReadsOrFails row_bytes Fits size old new at (length rows) r → IsReadAs old new rows r
    whole_table (Ok found) reads =
        (parts_front size row_bytes Fits len determines found.items rows reads.bytes_are.0 rest reads.number reads.widths fit (sym reads.bytes_are.1 ∙ bytes_are)).0
    whole_table (Err e) fails = refused_because e fails
