-- Bytes of which some pages are in memory.
use Rattle.std.specs.Prelude.{◌≡◌, ⊤, Bool, false, is_some, ℕ, ◌*◌, ◌<◌, ◌≤◌, List, map, length, take, slice_get, set, Option, None, Some}
use Rattle.std.specs.List.{concat, enumerate_from, range_with_len}
use Rattle.xet_core_structures.specs.Source.{Source}
use Rattle.xet_core_structures.specs.declared.error.CoreError.{CoreError}
use Rattle.xet_core_structures.specs.TwoShards.ByteResults.{LoadRefusal}
use Rattle.xet_core_structures.specs.declared.merklehash.DataHash.{DataHash}
use Rattle.xet_core_structures.specs.declared.shard_format.MDBShardInfo.{MDBShardInfo}
use Rattle.mdb_report.specs.declared.inquiry.InquiryFault.{InquiryFault}
use Rattle.mdb_report.specs.declared.inquiry.InquiryFault.TheVariants.{Shard, Ends, Input, TooManyRounds}
use Rattle.mdb_report.specs.declared.lookup.FoundReport.{FoundReport}
use Rattle.mdb_report.specs.declared.lookup.RunReport.{RunReport}
use Rattle.mdb_report.specs.Lookups.{ReportsFinding, ReportsRun}
use Rattle.mdb_report.specs.declared.paged_file.CallFault.{CallFault}
use Rattle.mdb_report.specs.declared.paged_file.CallFault.TheVariants.{Lacks, Failed}
use Rattle.mdb_report.specs.declared.pages.Page.{Page}
use Rattle.mdb_report.specs.declared.pages.Pages.{Pages}

-- the bytes of the page with a number; if it is not in memory, those that are unread at its places
abbrev pub page_bytes : (ℕ → ℕ) → ℕ → Option Page → List ℕ
page_bytes unread number None = map unread (range_with_len (number * 16384) 16384)
page_bytes unread number (Some page) = page.bytes.items

-- the bytes of all pages, up to the size of the whole, where what is not in memory is unread
abbrev pub bytes_in : (ℕ → ℕ) → Pages → List ℕ
bytes_in unread pages =
    take pages.size
    (concat (map (λ page. page_bytes unread page.0 page.1) (enumerate_from 0 pages.pages.items)))

-- whether there is a place, and a page in it
abbrev pub is_page : Option (Option Page) → Bool
is_page None = false
is_page (Some page) = is_some page

-- whether a page with this number is in memory
abbrev pub has_page : Pages → ℕ → Bool
has_page pages number = is_page (slice_get pages.pages.items number)

-- a page was put in its place; past the last place nothing changed
pub record PutsPage (old : Pages) (number : ℕ) (page : Page) (new : Pages) : Type 0 where
  pub size : new.size ≡ old.size
  pub there : number < length old.pages.items
      → new.pages.items ≡ set old.pages.items number (Some page)
  pub past : length old.pages.items ≤ number → new.pages.items ≡ old.pages.items

-- a source over pages, at position 0
abbrev pub source_of : (ℕ → ℕ) → Pages → Source
source_of unread pages = record {
  bytes = bytes_in unread pages;
  at = 0;
  seeks = 0;
  read = 0;
  failures = 0;
  last_failure = None;
}

-- why a call on the pages in memory has no answer: a page is lacking, or the call failed, for a
-- cause that is none of theirs
abbrev pub IsCallFault : (CoreError → Type 0) → CallFault → Type 0
IsCallFault Cause (Lacks number) = ⊤
IsCallFault Cause (Failed e) = Cause e

-- why there is no answer from pages: a call on what they have failed, for a cause that is none of
-- theirs; or the file was not read, or after all rounds a page is still lacking
abbrev pub IsFaultWith : (CoreError → Type 0) → InquiryFault → Type 0
IsFaultWith Cause (Shard e) = Cause e
IsFaultWith Cause (Input e) = ⊤
IsFaultWith Cause TooManyRounds = ⊤
IsFaultWith Cause _ = ⊥

-- why header and footer are not read from pages: the bytes have none; or the file was not read, or
-- after all rounds a page is still lacking
abbrev pub IsEndsFault : List ℕ → InquiryFault → Type 0
IsEndsFault bytes (Ends e) = LoadRefusal bytes e
IsEndsFault bytes (Input e) = ⊤
IsEndsFault bytes TooManyRounds = ⊤
IsEndsFault bytes _ = ⊥

-- a call on pages failed, for a cause and not for a page that is lacking
abbrev pub FailsInPages : (Source → Source → CoreError → Type 0) → (ℕ → ℕ) → Pages → CoreError
    → Type 0
FailsInPages Fails unread pages e =
    (after : Source) × (after.failures ≡ 0) × Fails (source_of unread pages) after e

-- the report of a lookup of the hash in the pages, with its costs if they are wanted
abbrev pub FindsInPages : MDBShardInfo → DataHash → Bool → (ℕ → ℕ) → Pages → FoundReport → Type 0
FindsInPages info hash costs unread pages report =
    (after : Source) × ReportsFinding info hash costs (source_of unread pages) after report

-- the report of a query of the chunks in the pages
abbrev pub QueriesPages : MDBShardInfo → List DataHash → (ℕ → ℕ) → Pages → RunReport → Type 0
QueriesPages info hashes unread pages report =
    (after : Source) × ReportsRun info hashes (source_of unread pages) after report
