-- Sections that are read as views.
use Rattle.std.proofs.Common.{◌≡◌, inr, Ok, Err, ℕ, ◌≤◌, Bool, true, false, List, [], ◌∷◌, ◌++◌, length, flat_map, append-nil, refl, sym, ap, ◌∙◌, subst, arith}
use Rattle.std.proofs.lemmas.List.Elements.{All-append, All-cons, All-nil}
use Rattle.std.proofs.lemmas.List.Sums.{sum_by_push}
use Rattle.std.proofs.lemmas.Grind.{flat_map-append}
use Rattle.std.specs.Prelude.{MatchResult, IfOk, IfErr, if◌then◌else◌}
use Rattle.std.specs.declared.vec.Vec.{Vec}
use Rattle.xet_base.specs.declared.error.CoreError.{CoreError}
use Rattle.xet_base.specs.declared.error.CoreError.TheVariants.{OutOfMemory}
use Rattle.xet_base.specs.declared.merklehash.DataHash.{DataHash}
use Rattle.xet_base.specs.Errors.{CoreResult}
use Rattle.xet_records.specs.declared.record_reader.FormatVersion.{FormatVersion}
use Rattle.xet_records.specs.declared.file_structs.MDBFileInfo.{MDBFileInfo}
use Rattle.xet_records.specs.declared.xorb_structs.MDBXorbInfo.{MDBXorbInfo}
use Rattle.xet_records.specs.FileRecord.{file_records, file_records_in}
use Rattle.xet_records.specs.XorbRecord.{xorb_records}
use Rattle.xet_records.proofs.RecordKinds.{file_laws, xorb_laws, laws_in}
use Rattle.xet_records.specs.Version.{version_of}
use Rattle.xet_records.specs.RecordKind.{RecordKind, KindLaws}
use Rattle.xet_records.specs.Reading.{ReadsBookend, NextRecordNotRead}
use Rattle.xet_records.specs.Reading.NextRecordNotRead.{no_header, refused_header, no_rows}
use Rattle.xet_records.specs.ViewReading.{CountsStored}
use Rattle.xet_shards.specs.Write.WithOptions.{FitsSection}
use Rattle.xet_shards.specs.declared.streaming_shard.file_start.FileStart.{FileStart}
use Rattle.xet_shards.specs.StreamingShard.MinimalShard.{MinimalShard, is_start, ascending_hashes, eligible_in, eligible_hashes}
use Rattle.xet_shards.specs.Write.Layout.{if_included}
use Rattle.xet_shards.specs.StreamingShard.MinimalReading.{HasReadViews, ReadsViews, StopsAfterViews, ReadsWantedXorbs, ReadsSections, ReadsShardHeader, ReadsMinimal, SectionsNotRead, MinimalFails}
use Rattle.xet_shards.specs.StreamingShard.MinimalReading.SectionsNotRead.{no_files, no_xorbs}

module _ {H R V : Type 0} (K : RecordKind H R) (laws : KindLaws K) (record_of : V → R) where
  -- before the first record
  pub no_views : (Took : List ℕ → Type 0) → Took [] → HasReadViews K record_of Took [] 4294967295
  no_views Took nothing = record { are_stored = All-nil _; taken = nothing; rows = omega arith }

  -- one record more
  pub more_views : (First Next Both : List ℕ → Type 0) (views : List V) (left after : ℕ) (view : V) → ((xs ys : List ℕ) → First xs → Next ys → Both (xs ++ ys))
      → HasReadViews K record_of First views left → CountsStored K Next left after (record_of view) → HasReadViews K record_of Both (views ++ view ∷ []) after
  more_views First Next Both views left after view joins before next =
      let text : V → List ℕ = λ v. K.record_bytes (record_of v) in
      let rows : V → ℕ = λ v. K.row_count (record_of v) in
      record {
        are_stored = All-append (λ v. K.IsStored (record_of v)) views (view ∷ []) before.are_stored
            (All-cons (λ v. K.IsStored (record_of v)) view [] next.is_stored (All-nil (λ v. K.IsStored (record_of v))));
        taken = subst Both (ap (λ bs. flat_map text views ++ bs) (sym (append-nil (text view))) ∙ sym (flat_map-append text views (view ∷ [])))
            (joins (flat_map text views) (text view) before.taken next.taken);
        rows = omega (arith, sum_by_push rows views view, before.rows, next.rows, laws.rows (record_of view) next.is_stored);
      }

module _ {I : Type 0} (reads : I → I → List ℕ → Type 0) (joins : (a b c : I) (xs ys : List ℕ) → reads a b xs → reads b c ys → reads a c (xs ++ ys)) (start now next : I) (left rest : ℕ) where
  -- one file more was read
  pub one_file_read : (version : FormatVersion) (files : List MDBFileInfo) (file : MDBFileInfo) → HasReadViews (file_records_in version) (λ r. r) (reads start now) files left
      → CountsStored (file_records_in version) (reads now next) left rest file → HasReadViews (file_records_in version) (λ r. r) (reads start next) (files ++ file ∷ []) rest
  one_file_read version files file before one =
      more_views (file_records_in version) (laws_in file_records file_laws version) (λ r. r) (reads start now) (reads now next) (reads start next) files left rest file (joins start now next) before one

  -- one xorb more was read
  pub one_xorb_read : (xorbs : List MDBXorbInfo) (xorb : MDBXorbInfo) → HasReadViews xorb_records (λ x. x) (reads start now) xorbs left → CountsStored xorb_records (reads now next) left rest xorb
      → HasReadViews xorb_records (λ x. x) (reads start next) (xorbs ++ xorb ∷ []) rest
  one_xorb_read xorbs xorb before one =
      more_views xorb_records xorb_laws (λ x. x) (reads start now) (reads now next) (reads start next) xorbs left rest xorb (joins start now next) before one

-- a section may hold what was read of one
pub reads_fit : {H R I : Type 0} (K : RecordKind H R) (reads : I → I → List ℕ → Type 0) (old new : I) (records : List R) → ReadsViews K (λ r. r) reads old new records → FitsSection K records
reads_fit K reads old new records read = record { stored = read.records.are_stored; rows = omega (arith, read.records.rows) }

pub none_fit : {H R : Type 0} (K : RecordKind H R) → FitsSection K []
none_fit K = record { stored = All-nil _; rows = omega arith }

-- what is said of an input's states, of what a function makes of them
module _ {I J : Type 0} (view : I → J) (reads : J → J → List ℕ → Type 0) where
  views_seen : {H R : Type 0} (K : RecordKind H R) (old new : I) (records : List R) → ReadsViews K (λ r. r) (λ a b xs. reads (view a) (view b) xs) old new records
      → ReadsViews K (λ r. r) reads (view old) (view new) records
  views_seen K old new records read = record { mid = view read.mid; left = read.left; records = read.records; bookend = read.bookend }

  xorbs_seen : (wanted : Bool) (old new : I) (xorbs : List _) → ReadsWantedXorbs (λ a b xs. reads (view a) (view b) xs) wanted old new xorbs → ReadsWantedXorbs reads wanted (view old) (view new) xorbs
  xorbs_seen true old new xorbs read = views_seen _ old new xorbs read
  xorbs_seen false old new xorbs none = (ap view none.0, none.1)

  abbrev header_seen : (old new : I) → ReadsShardHeader (λ a b xs. reads (view a) (view b) xs) old new → ReadsShardHeader reads (view old) (view new)
  header_seen old new read = record { header = read.header; tag = read.tag; version = read.version; taken = read.taken }

  minimal_seen : (with_files with_xorbs : Bool) (old new : I) (m : MinimalShard) → ReadsMinimal (λ a b xs. reads (view a) (view b) xs) with_files with_xorbs old new m
      → ReadsMinimal reads with_files with_xorbs (view old) (view new) m
  minimal_seen with_files with_xorbs old new m (mid, header, sections) = (
    view mid,
    header_seen old mid header,
    record {
      files = sections.files;
      mid = view sections.mid;
      file_section = views_seen _ mid sections.mid sections.files sections.file_section;
      kept = sections.kept;
      xorb_section = xorbs_seen with_xorbs sections.mid new m.xorbs sections.xorb_section;
    },
  )

  module _ (fails : J → J → ℕ → CoreError → Type 0) where
    next_seen : {H R : Type 0} (K : RecordKind H R) (left : ℕ) (old new : I) (e : CoreError)
        → NextRecordNotRead K (λ a b xs. reads (view a) (view b) xs) (λ a b n f. fails (view a) (view b) n f) left old new e → NextRecordNotRead K reads fails left (view old) (view new) e
    next_seen K left old new e (no_header failed) = no_header failed
    next_seen K left old new e (refused_header h read refused bare) = refused_header h read refused bare
    next_seen K left old new e (no_rows h mid after begun failed) = no_rows h (view mid) after begun failed

    stops_seen : {H R : Type 0} (K : RecordKind H R) (old new : I) (e : CoreError)
        → StopsAfterViews K (λ r. r) (λ a b xs. reads (view a) (view b) xs) (λ a b n f. fails (view a) (view b) n f) old new e
        → StopsAfterViews K (λ r. r) reads fails (view old) (view new) e
    stops_seen K old new e stops =
        record { mid = view stops.mid; views = stops.views; left = stops.left; records = stops.records; stops = next_seen K stops.left stops.mid new e stops.stops }

    sections_seen : (version : FormatVersion) (with_xorbs : Bool) (old new : I) (e : CoreError)
        → SectionsNotRead (λ a b xs. reads (view a) (view b) xs) (λ a b n f. fails (view a) (view b) n f) version with_xorbs old new e
        → SectionsNotRead reads fails version with_xorbs (view old) (view new) e
    sections_seen version with_xorbs old new e (no_files stops) = no_files (stops_seen _ old new e stops)
    sections_seen version with_xorbs old new e (no_xorbs wanted mid files read stops) = no_xorbs wanted (view mid) files (views_seen _ old mid files read) (stops_seen _ mid new e stops)

    failure_seen : (header_fails : J → J → CoreError → Type 0) (with_xorbs : Bool) (old new mid : I) (e : CoreError)
        → (header : ReadsShardHeader (λ a b xs. reads (view a) (view b) xs) old mid)
        → SectionsNotRead (λ a b xs. reads (view a) (view b) xs) (λ a b n f. fails (view a) (view b) n f) (version_of header.header.version) with_xorbs mid new e
        → MinimalFails reads fails header_fails with_xorbs (view old) (view new) e
    failure_seen header_fails with_xorbs old new mid e header failed = inr (view mid, header_seen old mid header, sections_seen (version_of header.header.version) with_xorbs mid new e failed)

    -- the sections were read after the header, or they were not
    pub after_header : (header_fails : J → J → CoreError → Type 0) (with_files with_xorbs : Bool) (old mid new : I) (r : CoreResult MinimalShard)
        → (header : ReadsShardHeader (λ a b xs. reads (view a) (view b) xs) old mid)
        → MatchResult r (ReadsSections (λ a b xs. reads (view a) (view b) xs) (version_of header.header.version) with_files with_xorbs mid new)
        (SectionsNotRead (λ a b xs. reads (view a) (view b) xs) (λ a b n f. fails (view a) (view b) n f) (version_of header.header.version) with_xorbs mid new)
        → MatchResult r (ReadsMinimal reads with_files with_xorbs (view old) (view new)) (MinimalFails reads fails header_fails with_xorbs (view old) (view new))
    after_header header_fails with_files with_xorbs old mid new (Ok m) header sections = minimal_seen with_files with_xorbs old new m (mid, header, sections)
    after_header header_fails with_files with_xorbs old mid new (Err e) header failed = failure_seen header_fails with_xorbs old new mid e header failed

    -- the same of something that was made of the sections
    pub made_after_header : {T : Type 0} (Made : T → MinimalShard → Type 0) (header_fails : J → J → CoreError → Type 0) (old mid new : I) (r : CoreResult T)
        → (header : ReadsShardHeader (λ a b xs. reads (view a) (view b) xs) old mid)
        → MatchResult r (λ made. (m : MinimalShard) × ReadsSections (λ a b xs. reads (view a) (view b) xs) (version_of header.header.version) true true mid new m × Made made m)
        (SectionsNotRead (λ a b xs. reads (view a) (view b) xs) (λ a b n f. fails (view a) (view b) n f) (version_of header.header.version) true mid new)
        → MatchResult r (λ made. (m : MinimalShard) × ReadsMinimal reads true true (view old) (view new) m × Made made m) (MinimalFails reads fails header_fails true (view old) (view new))
    made_after_header Made header_fails old mid new (Ok made) header (m, sections, says) = (m, minimal_seen true true old new m (mid, header, sections), says)
    made_after_header Made header_fails old mid new (Err e) header failed = failure_seen header_fails true old new mid e header failed

-- the records of a section, or none if they are not kept, fit a section
pub kept_fit : {H R : Type 0} (K : RecordKind H R) (is_kept : Bool) (records : List R) → FitsSection K records → FitsSection K (if_included is_kept records)
kept_fit K true records fits = fits
kept_fit K false records fits = none_fit K

-- what is kept so far, after one record more
pub kept_more : {X : Type 0} (is_kept : Bool) (read : List X) (x : X) (before after : List X) → before ≡ if_included is_kept read
    → after ≡ (if is_kept then before ++ x ∷ [] else before) → after ≡ if_included is_kept (read ++ x ∷ [])
kept_more true read x before after is more = more ∙ ap (λ vs. vs ++ x ∷ []) is
kept_more false read x before after is more = more ∙ is

-- the hashes of the eligible chunks of a xorb section, listed after its bookend, or memory ran out
pub hashes_listed : {Z I : Type 0} (reads : I → I → List ℕ → Type 0) (fails : I → I → ℕ → CoreError → Type 0) (old now new : I) (left : ℕ) (xorbs : List MDBXorbInfo) (starts : FileStart → Bool)
    (keys : List DataHash) → HasReadViews xorb_records (λ x. x) (reads old now) xorbs left → ReadsBookend xorb_records (reads now new) → keys ≡ ascending_hashes (flat_map (eligible_in starts) xorbs)
    → ((xs : List ℕ) (e : CoreError) → reads now new xs → length xs ≤ 48 → e ≡ OutOfMemory → fails now new 48 e) → (r : CoreResult (Vec DataHash Z)) → IfOk r (λ hashes. hashes.items ≡ keys)
    → IfErr r (λ e. e ≡ OutOfMemory)
    → MatchResult r (λ hashes. (xs : List MDBXorbInfo) × ReadsViews xorb_records (λ x. x) reads old new xs × (hashes.items ≡ ascending_hashes (flat_map (eligible_in starts) xs)))
    (StopsAfterViews xorb_records (λ x. x) reads fails old new)
hashes_listed reads fails old now new left xorbs starts keys read bookend are lacks_memory (Ok hashes) same causes =
    (xorbs, record { mid = now; left = left; records = read; bookend = bookend }, same ∙ are)
hashes_listed reads fails old now new left xorbs starts keys read bookend are lacks_memory (Err e) same causes = record {
  mid = now;
  views = xorbs;
  left = left;
  records = read;
  stops = no_header (lacks_memory (xorb_records.header_bytes bookend.header) e bookend.taken (omega (arith, xorb_laws.header_size bookend.header)) causes);
}

-- both sections were read, or one was not
pub eligible_sections : {Z I : Type 0} (reads : I → I → List ℕ → Type 0) (fails : I → I → ℕ → CoreError → Type 0) (version : FormatVersion) (old mid new : I) (files : List MDBFileInfo)
    (starts : FileStart → Bool) → ReadsViews (file_records_in version) (λ r. r) reads old mid files → starts ≡ is_start files → (r : CoreResult (Vec DataHash Z))
    → MatchResult r (λ hashes. (xs : List MDBXorbInfo) × ReadsViews xorb_records (λ x. x) reads mid new xs × (hashes.items ≡ ascending_hashes (flat_map (eligible_in starts) xs)))
    (StopsAfterViews xorb_records (λ x. x) reads fails mid new)
    → MatchResult r (λ hashes. (m : MinimalShard) × ReadsSections reads version true true old new m × (hashes.items ≡ eligible_hashes m.files m.xorbs)) (SectionsNotRead reads fails version true old new)
eligible_sections reads fails version old mid new files starts read same (Ok hashes) (xorbs, section, are) = (
  record { files = files; xorbs = xorbs },
  record { files = files; mid = mid; file_section = read; kept = refl; xorb_section = section },
  are ∙ ap (λ s. ascending_hashes (flat_map (eligible_in s) xorbs)) same,
)
eligible_sections reads fails version old mid new files starts read same (Err e) stops = no_xorbs refl mid files read stops
