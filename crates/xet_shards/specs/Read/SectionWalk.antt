-- A walk through a section that reads past the rows after each header, and keeps something of each
-- record: `keep` says what, of a record at an offset in the source.
use Rattle.std.specs.Prelude.{◌≡◌, ℕ, ◌+◌, ◌*◌, List, [], map, Option, MatchOption}
use Rattle.xet_base.specs.Source.{Source, ReadsBytes}
use Rattle.xet_records.specs.RecordKind.{RecordKind}
use Rattle.xet_records.specs.Reading.{ReadsBookend, HasRead}
use Rattle.xet_shards.specs.Write.Section.{total_rows, with_fronts}
use Rattle.xet_shards.specs.Read.SectionReading.{StreamsSection}
use Rattle.xet_shards.specs.Steps.SectionReadingSteps.{ReadsNext}

module _ {H R T : Type 0} (K : RecordKind H R) (keep : ℕ → R → T) where
  -- what is kept of records whose section is at an offset
  abbrev pub kept_of : ℕ → List R → List T
  kept_of at records = map (λ e. keep (at + 48 * total_rows K e.0) e.1) (with_fronts [] records)

  -- the section was read through from the source's position on, and this was kept of its records
  abbrev pub KeepsSection : Source → Source → List T → Type 0
  KeepsSection old new found =
      (records : List R) × StreamsSection K old new records × (found ≡ kept_of old.at records)

  -- the records that were read past so far
  pub record HasKept (start now : Source) (found : List T) (left : ℕ) : Type 0 where
    pub records : List R
    pub read : HasRead K (ReadsBytes start now) records left
    pub kept : found ≡ kept_of start.at records

  -- the bookend was read, or the next record was read past
  abbrev pub KeepsNext : Source → Source → ℕ → ℕ → Option T → Type 0
  KeepsNext old new left after found =
      MatchOption found (ReadsBookend K (ReadsBytes old new))
      (λ value. (r : R) × (value ≡ keep old.at r) × ReadsNext K old new left after r)
