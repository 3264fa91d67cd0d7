-- The laws of inputs, which the implementations of `ByteInput` cite: bytes that were read one after
-- another, and failures after bytes that were read.
use Rattle.std.proofs.Common.{◌≡◌, inl, inr, ℕ, ◌+◌, ◌<◌, ◌≤◌, List, [], ◌++◌, length, drop, take, Option, None, Some, sym, ap, ◌∙◌, subst, arith, refl, add_assoc, add-zero}
use Rattle.std.proofs.lemmas.List.{drop-drop, length-append}
use Rattle.std.proofs.Math.Seq.{take-add}
use Rattle.std.specs.Io.KnownBytes.{Consumes}
use Rattle.std.specs.IoError.{error_kind}
use Rattle.std.specs.declared.io.Error.{Error}
use Rattle.xet_base.specs.declared.error.CoreError.{CoreError}
use Rattle.xet_base.specs.declared.error.CoreError.TheVariants.{Io, OutOfMemory}
use Rattle.xet_base.specs.Bytes.{LacksBytes}
use Rattle.xet_base.specs.Errors.{FromDevice}
use Rattle.xet_base.specs.Input.{ReaderLacks, ReaderFails}
use Rattle.xet_base.specs.Source.{Source, after_read, next_bytes, ReadsBytes, FailedBy, ReadCase, FillFailure, FillFails, ReadFails}
use Rattle.xet_base.specs.Source.ReadCase.{out_of_memory, out_of_bytes}

pub after_read-after_read : (s : Source) (m n : ℕ) → after_read (after_read s m) n ≡ after_read s (m + n)
after_read-after_read s m n i = record s { at = add_assoc s.at m n i; read = add_assoc s.read m n i }

pub next_bytes-add : (s : Source) (m n : ℕ)
    → next_bytes s (m + n) ≡ next_bytes s m ++ next_bytes (after_read s m) n
next_bytes-add s m n =
    take-add m n (drop s.at s.bytes)
    ∙ ap (λ rest. take m (drop s.at s.bytes) ++ take n rest) (drop-drop m s.at s.bytes)

-- known bytes that lack n after some were consumed lacked as many more before
pub LacksBytes-consumed : (a b : Option (List ℕ)) (bytes : List ℕ) (n most : ℕ)
    → length bytes + n ≤ most → Consumes a b bytes → LacksBytes b n → LacksBytes a most
LacksBytes-consumed None b bytes n most within taken lacks = tt
LacksBytes-consumed (Some xs) None bytes n most within taken lacks = absurd taken
LacksBytes-consumed (Some xs) (Some ys) bytes n most within taken lacks =
    omega (arith, ap length taken ∙ length-append bytes ys)

-- bytes that were read one after another
pub ReadsBytes-nil : (s : Source) → ReadsBytes s s []
ReadsBytes-nil s = record {
  within = λ some. absurd (omega arith);
  there = refl;
  after = λ i. record s { at = sym (add-zero s.at) i; read = sym (add-zero s.read) i };
}

pub ReadsBytes-trans : (a b c : Source) (xs ys : List ℕ) → ReadsBytes a b xs → ReadsBytes b c ys
    → ReadsBytes a c (xs ++ ys)
ReadsBytes-trans a b c xs ys first last =
    let at_is : b.at ≡ a.at + length xs = ap (λ s. s.at) first.after in
    let bytes : length b.bytes ≡ length a.bytes = ap (λ s. length s.bytes) first.after in
    record {
      within = λ some. grind (arith, length-append xs ys, first.within, last.within, at_is, bytes);
      there =
          (λ i. first.there i ++ (last.there ∙ ap (λ s. next_bytes s (length ys)) first.after) i)
          ∙ sym (next_bytes-add a (length xs) (length ys))
          ∙ ap (λ n. next_bytes a n) (sym (length-append xs ys));
      after =
          last.after ∙ ap (λ s. after_read s (length ys)) first.after
          ∙ after_read-after_read a (length xs) (length ys)
          ∙ ap (λ n. after_read a n) (sym (length-append xs ys));
    }

-- a read of a reader that failed
pub reader_fails : (remaining : Option (List ℕ)) (n : ℕ) (e : Error) (f : CoreError)
    → ReaderLacks remaining n e → FromDevice e f → ReaderFails remaining n f
reader_fails remaining n e (Io g) lacks made =
    record { cause = tt; end = λ ended. lacks (ap error_kind (sym made.0) ∙ ended) }
reader_fails remaining n e OutOfMemory lacks made =
    record { cause = tt; end = λ ended. absurd ended }
reader_fails remaining n e _ lacks made = absurd made

pub reader_fails_later : (a b : Option (List ℕ)) (xs : List ℕ) (n most : ℕ) (f : CoreError)
    → Consumes a b xs → ReaderFails b n f → length xs + n ≤ most → ReaderFails a most f
reader_fails_later a b xs n most f taken fails within =
    record {
      cause = fails.cause;
      end = λ ended. LacksBytes-consumed a b xs n most within taken (fails.end ended);
    }

pub reader_lacks_memory : (remaining : Option (List ℕ)) (most : ℕ) (f : CoreError) → f ≡ OutOfMemory
    → ReaderFails remaining most f
reader_lacks_memory remaining most f memory =
    rw memory (record { cause = tt; end = λ ended. absurd ended })

-- a failure after calls that did not fail is one over all of them
pub failed_after : (Case Later : CoreError → Type 0) (old mid new : Source) (e : CoreError)
    → mid.failures ≡ old.failures → (Case e → Later e) → FailedBy Case mid new e
    → FailedBy Later old new e
failed_after Case Later old mid new e same later (inl failed) =
    inl (failed.0 ∙ ap (λ n. n + 1) same, failed.1, failed.2, failed.3)
failed_after Case Later old mid new e same later (inr (none, holds)) =
    inr (none ∙ same, later holds)

pub read_case : (Short Later : Type 0) (e : CoreError) → (Short → Later) → ReadCase Short e
    → ReadCase Later e
read_case Short Later e later (out_of_memory is) = out_of_memory is
read_case Short Later e later (out_of_bytes is short) = out_of_bytes is (later short)

-- a read of a source that failed
read_failure : (old new : Source) (n : ℕ) (e : Error) (f : CoreError) → FillFailure old new n e
    → FromDevice e f → FailedBy (ReadCase (length old.bytes < old.at + n)) old new f
read_failure old new n e f (inl (failed, last)) made = inl (failed, e, last, made)
read_failure old new n e (Io g) (inr (same, ended, short)) made =
    inr (same, out_of_bytes (ap error_kind made.0 ∙ ended) short)
read_failure old new n e OutOfMemory (inr (same, ended, short)) made = absurd (cc)
read_failure old new n e _ (inr (same, ended, short)) made = absurd made

pub source_fails : (old new : Source) (n : ℕ) (e : Error) (f : CoreError) → FillFails old new n e
    → FromDevice e f → ReadFails old new n f
source_fails old new n e f fails made = record {
  some = fails.some;
  bytes = fails.bytes;
  seeks = fails.seeks;
  read = fails.read;
  cause = read_failure old new n e f fails.cause made;
}

fails_after_read : (old new : Source) (k n most : ℕ) (f : CoreError) → k + n ≤ most
    → ReadFails (after_read old k) new n f → ReadFails old new most f
fails_after_read old new k n most f within fails = record {
  some = omega (arith, fails.some, within);
  bytes = fails.bytes;
  seeks = fails.seeks;
  read = omega (arith, fails.read, within);
  cause =
      failed_after (ReadCase (length old.bytes < old.at + k + n))
      (ReadCase (length old.bytes < old.at + most)) old (after_read old k) new f refl
      (read_case (length old.bytes < old.at + k + n) (length old.bytes < old.at + most) f
      (λ short. omega (arith, short, within)))
      fails.cause;
}

pub source_fails_later : (a b c : Source) (xs : List ℕ) (n most : ℕ) (f : CoreError) → ReadsBytes a b xs
    → ReadFails b c n f → length xs + n ≤ most → ReadFails a c most f
source_fails_later a b c xs n most f taken fails within =
    fails_after_read a c (length xs) n most f within (subst (λ s. ReadFails s c n f) taken.after fails)

pub source_lacks_memory : (a b : Source) (xs : List ℕ) (most : ℕ) (f : CoreError) → ReadsBytes a b xs
    → length xs ≤ most → 0 < most → f ≡ OutOfMemory → ReadFails a b most f
source_lacks_memory a b xs most f taken within some memory = record {
  some = some;
  bytes = ap (λ s. s.bytes) taken.after;
  seeks = ap (λ s. s.seeks) taken.after;
  read = omega (arith, ap (λ s. s.read) taken.after, within);
  cause = inr (ap (λ s. s.failures) taken.after, out_of_memory memory);
}
