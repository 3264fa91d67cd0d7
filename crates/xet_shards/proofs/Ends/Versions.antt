-- Versions that differ, as bytes.
use Rattle.std.proofs.Common.{◌≡◌, ◌≢◌, ℕ, ◌<◌, ◌^◌, List, ◌++◌, take, drop, sym, ap, ◌∙◌, take-append-drop, arith}
use Rattle.xet_records.specs.declared.record_reader.FormatVersion.{FormatVersion}
use Rattle.xet_records.specs.declared.record_reader.FormatVersion.TheVariants.{V2, V3}
use Rattle.xet_records.specs.Version.{number_of}
use Rattle.xet_base.specs.Bytes.{u64_bytes}
use Rattle.xet_base.proofs.Bytes.{u64_bytes-front}

pub number_fits : (version : FormatVersion) → number_of version < 2 ^ 64
number_fits V2 = omega arith
number_fits V3 = omega arith

pub other_version : (bytes rest : List ℕ) (version wanted : ℕ) → version < 2 ^ 64 → wanted < 2 ^ 64
    → bytes ≡ u64_bytes version ++ rest → version ≢ wanted → take 8 bytes ≢ u64_bytes wanted
other_version bytes rest version wanted fits wanted_fits are differs same =
    differs (u64_bytes-front version wanted rest (drop 8 bytes) fits wanted_fits
    (sym are ∙ sym (take-append-drop 8 bytes) ∙ ap (λ front. front ++ drop 8 bytes) same)).0
