-- Errors of calls on memory alone.
use Rattle.std.proofs.Common.{◌≡◌, ◌⊎◌, inl, inr, ℕ, List, sym, ap, subst, arith}
use Rattle.xet_core_structures.specs.declared.error.CoreError.{CoreError}
use Rattle.xet_core_structures.specs.declared.error.CoreError.TheVariants.{OutOfMemory, InvalidArguments, InvalidShard, ShardVersion}
use Rattle.xet_core_structures.specs.TwoShards.ByteResults.{LoadRefusal}
use Rattle.xet_core_structures.specs.Errors.{IsWriteError, IsBareInvalidShard, IsBareShardVersion, IsShardVersion, variant_number}
use Rattle.xet_core_structures.specs.KeyedExport.{ExportCase, SectionsCase}
use Rattle.xet_core_structures.specs.KeyedExport.ExportCase.{no_sections, not_written}
use Rattle.xet_core_structures.specs.KeyedExport.SectionsCase.{bad_header, bad_files, bad_xorbs}
use Rattle.xet_core_structures.specs.Ends.FormatCase.{unsupported_format, too_few_bytes}
use Rattle.xet_core_structures.specs.SectionReading.{SectionCase}
use Rattle.xet_core_structures.specs.SectionReading.SectionCase.{not_read, passes_limit}
use Rattle.xet_core_structures.specs.Source.ReadCase.{out_of_memory, out_of_bytes}
use Rattle.xet_core_structures.specs.Source.{ReadCase}
use Rattle.shard_bytes.specs.Outcomes.{InMemory}

-- what an error becomes in memory has the error's cause, or is a failed allocation
pub from_memory : (Cause : CoreError → Type 0) (e r : CoreError) → ((r ≡ OutOfMemory) × IsWriteError e) ⊎ ((r ≡ e) × (¬ IsWriteError e)) → (¬ IsWriteError e → Cause e) → InMemory Cause r
from_memory Cause e r (inl (is, write)) cause = inl is
from_memory Cause e r (inr (is, none)) cause = subst (InMemory Cause) (sym is) (inr (none, cause none))

version_no_write : (e : CoreError) → IsShardVersion e → ¬ IsWriteError e
version_no_write (ShardVersion text) is write = write.0
version_no_write _ is write = absurd is

-- an error of reading header and footer is no device's
pub load_no_write : (x : List ℕ) (e : CoreError) → LoadRefusal x e → ¬ IsWriteError e
load_no_write x e (inl (is, unsupported)) write = version_no_write e is write
load_no_write x e (inr (is, short)) write = write.1 is

bare_version_no_write : (e : CoreError) → IsBareShardVersion e → ¬ IsWriteError e
bare_version_no_write (ShardVersion text) is write = write.0
bare_version_no_write _ is write = absurd is

bare_shard_no_write : (e : CoreError) → IsBareInvalidShard e → ¬ IsWriteError e
bare_shard_no_write (InvalidShard text) is write = write.0
bare_shard_no_write _ is write = absurd is

-- header and sections of bytes in memory are not read
module _ (bytes : List ℕ) (Cause : CoreError → Type 0) (e : CoreError) (cause : ExportCase bytes e → Cause e) where
  section_in_memory : (Passes Ends : List ℕ → Type 0) (from : List ℕ) → (SectionCase Passes Ends from e → SectionsCase bytes e) → SectionCase Passes Ends from e → InMemory Cause e
  section_in_memory Passes Ends from become (not_read (out_of_memory is)) = inl is
  section_in_memory Passes Ends from become (not_read (out_of_bytes is short)) = inr (λ write. write.1 is, cause (no_sections (become (not_read (out_of_bytes is short)))))
  section_in_memory Passes Ends from become (passes_limit is over) = inr (bare_shard_no_write e is, cause (no_sections (become (passes_limit is over))))

  pub not_read_in_memory : SectionsCase bytes e → InMemory Cause e
  not_read_in_memory (bad_header (unsupported_format is why)) = inr (bare_version_no_write e is, cause (no_sections (bad_header (unsupported_format is why))))
  not_read_in_memory (bad_header (too_few_bytes is why)) = inr (λ write. write.1 is, cause (no_sections (bad_header (too_few_bytes is why))))
  not_read_in_memory (bad_files header bad) = section_in_memory _ _ _ (bad_files header) bad
  not_read_in_memory (bad_xorbs header files there bad) = section_in_memory _ _ _ (bad_xorbs header files there) bad

-- only a key or an expiry makes an export `InvalidArguments`
no_read_argument : (Short : Type 0) → ¬ ReadCase Short InvalidArguments
no_read_argument Short (out_of_memory is) = omega (arith, ap variant_number is)
no_read_argument Short (out_of_bytes is short) = is

pub no_argument : (bytes : List ℕ) → ¬ ExportCase bytes InvalidArguments
no_argument bytes (no_sections (bad_header (unsupported_format is why))) = is
no_argument bytes (no_sections (bad_header (too_few_bytes is why))) = is
no_argument bytes (no_sections (bad_files header (not_read why))) = no_read_argument _ why
no_argument bytes (no_sections (bad_files header (passes_limit is why))) = is
no_argument bytes (no_sections (bad_xorbs header files section (not_read why))) = no_read_argument _ why
no_argument bytes (no_sections (bad_xorbs header files section (passes_limit is why))) = is
no_argument bytes (not_written header is) = is.0
