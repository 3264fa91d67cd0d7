-- The turns of the loop that walks through a section, and what the walk keeps where the records are known.
use Rattle.std.proofs.Common.{◌≡◌, ◌⊎◌, Ok, Err, ℕ, ◌+◌, ◌*◌, List, [], ◌∷◌, ◌++◌, map, Some, refl, sym, ap, ◌∙◌, rules}
use Rattle.std.specs.Prelude.{MatchResult}
use Rattle.std.specs.declared.result.Result.{Result}
use Rattle.std.specs.declared.vec.Vec.{Vec}
use Rattle.std.proofs.lemmas.List.{map-append}
use Rattle.xet_base.specs.declared.error.CoreError.{CoreError}
use Rattle.xet_base.specs.declared.error.CoreError.TheVariants.{OutOfMemory}
use Rattle.xet_base.specs.Source.{Source, ReadsBytes, DeviceFailure, bytes_left}
use Rattle.xet_base.specs.InputLaws.{ReadsBytes-nil, ReadsBytes-trans}
use Rattle.xet_records.specs.RecordKind.{RecordKind, KindLaws}
use Rattle.xet_records.specs.Reading.{ReadsBookend}
use Rattle.xet_records.proofs.SectionRecords.{nothing_read, more_read}
use Rattle.xet_shards.specs.Write.Section.{total_rows}
use Rattle.xet_shards.specs.Read.SectionReading.{IsSection, SectionNotStreamed}
use Rattle.xet_shards.specs.Read.SectionWalk.{kept_of, KeepsSection, HasKept, KeepsNext}
use Rattle.xet_shards.proofs.Read.SectionReading.{section_ends, offset_after}
use Rattle.xet_shards.proofs.Read.Readback.{why_not, only_these}
use Rattle.xet_shards.proofs.Write.Tables.{with_fronts-push}

module _ {H R T : Type 0} (K : RecordKind H R) (laws : KindLaws K) (keep : ℕ → R → T) where
  kept_of-push : (at : ℕ) (records : List R) (r : R) → kept_of K keep at (records ++ r ∷ []) ≡ kept_of K keep at records ++ keep (at + 48 * total_rows K records) r ∷ []
  kept_of-push at records r = search (rules, with_fronts-push, map-append)

  -- before the first record
  pub nothing_kept : (start : Source) → HasKept K keep start start [] 4294967295
  nothing_kept start = record { records = []; read = nothing_read K laws (ReadsBytes start start) (ReadsBytes-nil start); kept = refl }

  -- one record more
  pub more_kept : (start now new : Source) (found : List T) (left after : ℕ) (value : T) → HasKept K keep start now found left
      → KeepsNext K keep now new left after (Some value) → HasKept K keep start new (found ++ value ∷ []) after
  more_kept start now new found left after value before (r, is, next) = record {
    records = before.records ++ r ∷ [];
    read = more_read K laws _ _ _ before.records left after r (ReadsBytes-trans start now new) before.read next;
    kept = (λ i. before.kept i ++ is i ∷ []) ∙ ap (λ n. kept_of K keep start.at before.records ++ keep n r ∷ []) (offset_after K laws start now before.records left before.read)
        ∙ sym (kept_of-push start.at before.records r);
  }

  -- the bookend after them
  pub all_kept : (start now new : Source) (found : List T) (left : ℕ) → HasKept K keep start now found left → ReadsBookend K (ReadsBytes now new)
      → KeepsSection K keep start new found
  all_kept start now new found left before last = (before.records, section_ends K laws start now before.records left before.read new last, before.kept)

  -- of bytes that are a section of known records these are kept, unless the device fails or an allocation does
  pub keeps_known : {Z : Type 0} (old new : Source) (records : List R) (r : Result (Vec T Z) CoreError) → IsSection K (bytes_left old) records → map K.as_read records ≡ records
      → MatchResult r (λ found. KeepsSection K keep old new found.items) (SectionNotStreamed K old new)
      → MatchResult r (λ found. found.items ≡ kept_of K keep old.at records) (λ e. DeviceFailure old new e ⊎ (e ≡ OutOfMemory))
  keeps_known old new records (Ok found) section same (read, reads, kept) = kept ∙ ap (kept_of K keep old.at) (only_these K laws old new records section read same reads)
  keeps_known old new records (Err e) section same fails = why_not K laws old new records section e fails.cause
