-- Views of records that are read from an input.
use Rattle.std.proofs.Common.{◌≡◌, inl, inr, ℕ, ◌*◌, ◌<◌, ◌≤◌, List, ◌++◌, length, zero, suc, refl, subst, arith}
use Rattle.std.specs.Prelude.{◌⊎◌}
use Rattle.std.proofs.lemmas.List.{length-append}
use Rattle.xet_base.specs.declared.error.CoreError.{CoreError}
use Rattle.xet_base.specs.declared.error.CoreError.TheVariants.{OutOfMemory}
use Rattle.xet_records.specs.RecordKind.{RecordKind, KindLaws}
use Rattle.xet_records.specs.Reading.{CountsHeader, NextRecordNotRead}
use Rattle.xet_records.specs.Reading.NextRecordNotRead.{no_header, no_rows}
use Rattle.xet_records.specs.Steps.ViewReadingSteps.{LacksMemory}

module _ {H R : Type 0} (K : RecordKind H R) (laws : KindLaws K) where
  -- memory that runs out after a header: that of the rows after it, or of the header if it announces none
  lacks_memory_after : {I : Type 0} (reads : I → I → List ℕ → Type 0) (fails : I → I → ℕ → CoreError → Type 0)
      → ((a b c : I) (xs ys : List ℕ) → reads a b xs → reads b c ys → reads a c (xs ++ ys))
      → ((a b : I) (xs : List ℕ) (most : ℕ) (e : CoreError) → reads a b xs → length xs ≤ most → 0 < most → e ≡ OutOfMemory → fails a b most e)
      → (left after : ℕ) (old mid new : I) (h : H) (e : CoreError) → CountsHeader K (reads old mid) left after h
      → LacksMemory (reads mid new) (K.rows_after h) e → NextRecordNotRead K reads fails left old new e
  lacks_memory_after reads fails joins lacks left after old mid new h e begun lacking = by_count (K.rows_after h) refl
    where
      by_count : (n : ℕ) → K.rows_after h ≡ n → NextRecordNotRead K reads fails left old new e
      by_count zero none = no_header (lacks old new (K.header_bytes h ++ lacking.added) 48 e (joins old mid new (K.header_bytes h) lacking.added begun.read.taken lacking.taken)
          (omega (arith, length-append (K.header_bytes h) lacking.added, laws.header_size h, lacking.size, none)) (omega arith) lacking.memory)
      by_count (suc n) some = no_rows h mid after begun (lacks mid new lacking.added (48 * K.rows_after h) e lacking.taken lacking.size (omega (arith, some)) lacking.memory)

  -- the rows after a header that were not read
  pub rows_not_read : {I : Type 0} (reads : I → I → List ℕ → Type 0) (fails : I → I → ℕ → CoreError → Type 0)
      → ((a b c : I) (xs ys : List ℕ) → reads a b xs → reads b c ys → reads a c (xs ++ ys))
      → ((a b : I) (xs : List ℕ) (most : ℕ) (e : CoreError) → reads a b xs → length xs ≤ most → 0 < most → e ≡ OutOfMemory → fails a b most e)
      → (left after count : ℕ) (old mid new : I) (h : H) (e : CoreError) → count ≡ K.rows_after h → CountsHeader K (reads old mid) left after h
      → fails mid new (48 * count) e ⊎ LacksMemory (reads mid new) count e → NextRecordNotRead K reads fails left old new e
  rows_not_read reads fails joins lacks left after count old mid new h e count_is begun (inl failed) =
      no_rows h mid after begun (subst (λ n. fails mid new (48 * n) e) count_is failed)
  rows_not_read reads fails joins lacks left after count old mid new h e count_is begun (inr lacking) =
      lacks_memory_after reads fails joins lacks left after old mid new h e begun (subst (λ n. LacksMemory (reads mid new) n e) count_is lacking)
