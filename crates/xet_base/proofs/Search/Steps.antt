-- The steps of a search on a table.
use Rattle.std.proofs.Common.{◌≡◌, inl, inr, ℕ, ◌+◌, ◌<◌, ◌≤◌, length, take, drop, Ok, Err, refl, sym, ap, ◌∙◌, subst, arith}
use Rattle.std.specs.Prelude.{MatchResult, List}
use Rattle.xet_base.specs.declared.interpolation_search.table_range.TableRange.{TableRange}
use Rattle.std.specs.declared.result.Result.{Result}
use Rattle.std.specs.declared.io.Error.{Error}
use Rattle.xet_base.specs.Source.{Source, after_read, after_seek, next_bytes, FillFailure, FillFails, NoFailure}
use Rattle.xet_base.specs.Bytes.{u64_from_bytes}
use Rattle.xet_base.specs.Search.Table.{Table, table_at, Answers, Finds, row_offset, key_at, ReadsCount}
use Rattle.xet_base.specs.Steps.SearchSteps.{TableFailure, table_in, ReadsKey, StopsWithin}
use Rattle.xet_base.proofs.Search.Tables.{offset_of_row-next, offset_of_row-le}

-- the bytes of a row are within the table
pub row_within : (t : Table) (i : ℕ) → i < t.rows → row_offset t i + (8 + t.width) ≤ row_offset t t.rows
row_within t i within = omega (arith, offset_of_row-next t.start t.width i, offset_of_row-le t.start t.width (i + 1) t.rows (omega arith))

-- a read within a row failed, after reads that did not
pub read_failure : (t : Table) (i : ℕ) (old mid new : Source) (n : ℕ) (e : Error) → NoFailure old mid → i < t.rows → mid.at + n ≤ row_offset t i + (8 + t.width)
    → FillFailure mid new n e → TableFailure t old new e
read_failure t i old mid new n e no_failure row within (inl failed) = inl (failed.0 ∙ ap (λ k. k + 1) no_failure.failures, failed.1)
read_failure t i old mid new n e no_failure row within (inr ended) =
    inr (ended.0 ∙ no_failure.failures, ended.1, omega (arith, row), omega (arith, ended.2, ap length no_failure.bytes, within, row_within t i row))

pub serves_still : (s : Source) → NoFailure s s
serves_still s = record { bytes = refl; failures = refl; last_failure = refl }

pub serves_advanced : (old mid new : Source) (n : ℕ) → NoFailure old mid → new ≡ after_read mid n → NoFailure old new
serves_advanced old mid new n no_failure after = record {
  bytes = ap (λ s. s.bytes) after ∙ no_failure.bytes;
  failures = ap (λ s. s.failures) after ∙ no_failure.failures;
  last_failure = ap (λ s. s.last_failure) after ∙ no_failure.last_failure;
}

pub serves_moved : (old mid new : Source) (to : ℕ) → NoFailure old mid → new ≡ after_seek mid to → NoFailure old new
serves_moved old mid new to no_failure after = record {
  bytes = ap (λ s. s.bytes) after ∙ no_failure.bytes;
  failures = ap (λ s. s.failures) after ∙ no_failure.failures;
  last_failure = ap (λ s. s.last_failure) after ∙ no_failure.last_failure;
}

-- after a seek to a row, its key is what is read
pub key_read : (t : Table) (i : ℕ) (old mid new : Source) (r : Result ℕ Error) → t.bytes ≡ old.bytes → i < t.rows → mid ≡ after_seek old (row_offset t i)
    → MatchResult r (λ key. ReadsCount mid new 8 × (key ≡ u64_from_bytes (next_bytes mid 8))) (FillFails mid new 8)
    → MatchResult r (ReadsKey t i old new) (StopsWithin t 1 8 old new)
unfolding key_at
key_read t i old mid new (Ok key) same within sought (reads, is_key) = record {
  there = omega (arith, reads.within (omega arith), ap (λ s. s.at) sought, ap (λ s. length s.bytes) sought, ap length same);
  is_key = is_key ∙ ap (λ s. u64_from_bytes (next_bytes s 8)) sought ∙ ap (λ bytes. u64_from_bytes (take 8 (drop (row_offset t i) bytes))) (sym same);
  after = reads.after ∙ ap (λ s. after_read s 8) sought;
}
key_read t i old mid new (Err e) same within sought fails = record {
  bytes = fails.bytes ∙ ap (λ s. s.bytes) sought;
  seeks = fails.seeks ∙ ap (λ s. s.seeks) sought;
  read = omega (arith, fails.read, ap (λ s. s.read) sought);
  cause = read_failure t i old mid new 8 e (serves_moved old old mid (row_offset t i) (serves_still old) sought) within
      (omega (arith, ap (λ s. s.at) sought)) fails.cause;
}

-- a range of these numbers is the table that they determine
abbrev IsRange : TableRange → ℕ → ℕ → ℕ → Type 0
IsRange range start rows width = (range.start ≡ start) × (range.rows ≡ rows) × (range.width ≡ width)

pub same_table : (range : TableRange) (source : Source) (start rows width : ℕ) → IsRange range start rows width
    → table_in range source.bytes ≡ table_at source start rows width
same_table range source start rows width same = λ i. record { bytes = source.bytes; start = same.0 i; rows = same.1 i; width = same.2 i }

pub found_at : {R V : Type 0} (range : TableRange) (source : Source) (start rows width key count : ℕ) (meaning : R → Source) (post : R → Result V Error → R → Type 0)
    (old new : List V) → IsRange range start rows width → Finds (table_in range source.bytes) key (Answers meaning post range.width) old new count
    → Finds (table_at source start rows width) key (Answers meaning post width) old new count
found_at range source start rows width key count meaning post old new same found =
    subst (λ w. Finds (table_at source start rows w) key (Answers meaning post w) old new count) same.2
    (subst (λ r. Finds (table_at source start r range.width) key (Answers meaning post range.width) old new count) same.1
    (subst (λ s. Finds (table_at source s range.rows range.width) key (Answers meaning post range.width) old new count) same.0 found))
