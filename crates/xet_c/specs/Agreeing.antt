-- How disagreements of shards, and a merge of those that agree, are shown.
use Rattle.std.specs.Prelude.{◌≡◌, ◌⊎◌, ℕ, ◌<◌, Bool, true, false, List, [], ◌∷◌, length, map, All, Option, None, Some}
use Rattle.placed_shards.specs.declared.findings.Disagreement.{Disagreement}
use Rattle.placed_shards.specs.declared.findings.MalformedRecord.{MalformedRecord}
use Rattle.placed_shards.specs.declared.findings.RecordHash.{RecordHash}
use Rattle.placed_shards.specs.declared.findings.RecordHash.TheVariants.{File, Xorb}
use Rattle.placed_shards.specs.declared.selection.Selection.{Selection}
use Rattle.placed_shards.specs.Content.{Content}
use Rattle.placed_shards.specs.Findings.{AreOpened, HasAllDisagreements, HasFormedRecords, IsFirstMalformed}
use Rattle.placed_shards.specs.MergedLists.{MergeRefusal}
use Rattle.placed_shards.specs.Selections.{all_records}
use Rattle.placed_shards.specs.Strict.{AreAgreeing, AgreedRefusal, IsJoinedMerge}
use Rattle.xet_core_structures.specs.declared.error.CoreError.{CoreError}
use Rattle.xet_core_structures.specs.declared.record_reader.FormatVersion.{FormatVersion}
use Rattle.xet_core_structures.specs.Hash.{words_of}
use Rattle.shard_bytes.specs.Versions.{IsWrittenIn, NotWrittenIn}
use Rattle.xet_c.specs.declared.agree.XetDisagreement.{XetDisagreement}
use Rattle.xet_c.specs.Output.{Delivers, Refuses}
use Rattle.xet_c.specs.NumberedVersions.{InNumber, NotInNumber}

-- a hash, whether it is that of a xorb, and the numbers of two shards
abbrev pub c_record : RecordHash → ℕ → ℕ → XetDisagreement
c_record (File q) first second =
    record { hash = words_of q; is_xorb = false; first = first; second = second }
c_record (Xorb q) first second =
    record { hash = words_of q; is_xorb = true; first = first; second = second }

-- a disagreement as it is shown: its hash, whether it is that of a xorb, and the numbers of two
-- shards
abbrev pub c_disagreement : Disagreement → XetDisagreement
c_disagreement d = c_record d.record_hash d.first d.second

-- a record that no shard may have as it is shown: its hash, whether it is that of a xorb, and,
-- twice, the number of the byte string that holds it
abbrev pub c_malformed : MalformedRecord → XetDisagreement
c_malformed m = c_record m.record_hash m.input m.input

-- these show all disagreements of byte strings, in their order
abbrev pub AreAllDisagreements : List (List ℕ) → List XetDisagreement → Type 0
AreAllDisagreements inputs shown =
    (cs : List Content) × (all : List Disagreement) × AreOpened all_records inputs cs
    × HasAllDisagreements cs all × (shown ≡ map c_disagreement all)

-- whether there is a record that no shard may have, and the record; if there is none it stays
abbrev pub ShowsMalformed : Option MalformedRecord → (old new : XetDisagreement) → Bool → Type 0
ShowsMalformed None old new malformed = (malformed ≡ false) × (new ≡ old)
ShowsMalformed (Some m) old new malformed = (malformed ≡ true) × (new ≡ c_malformed m)

-- a count and a disagreement show how many there are, and the first; if there is none it stays
abbrev pub ShowsFirst : List Disagreement → (old new : XetDisagreement) → ℕ → Type 0
ShowsFirst [] old new count = (count ≡ 0) × (new ≡ old)
ShowsFirst (d ∷ ds) old new count = (count ≡ length (d ∷ ds)) × (new ≡ c_disagreement d)

-- the bytes in a version of the join of the records that are selected of byte strings, which are
-- well-formed and agree
abbrev pub AreMerged : Selection → FormatVersion → List (List ℕ) → List ℕ → Type 0
AreMerged selection version inputs bytes =
    AreAgreeing selection inputs × IsWrittenIn version (IsJoinedMerge selection inputs) bytes

-- why byte strings whose records have to agree are not merged in a version
abbrev pub RefusesAgreed : Selection → FormatVersion → List (List ℕ) → CoreError → Type 0
RefusesAgreed selection version inputs =
    AgreedRefusal selection inputs
    (NotWrittenIn version (IsJoinedMerge selection inputs) (MergeRefusal selection inputs))

-- a merge, in the version with a number, of the records that are selected of byte strings, which
-- have to agree: its bytes are delivered; or all that do not agree are counted, and the first is
-- shown; or a record that no shard may have is shown; or there is an error
abbrev pub MergesIfAgreeing : Selection → (number : ℕ) → List (List ℕ) → (before after : List ℕ)
    → ℕ → (old new : XetDisagreement) → ℕ → ℕ → Type 0
MergesIfAgreeing selection number inputs before after written old new count result =
    ((bytes : List ℕ) × InNumber number (λ v. AreMerged selection v inputs) bytes
    × Delivers bytes before after written result × (count ≡ 0) × (new ≡ old))
    ⊎ ((¬ AreAgreeing selection inputs) × (cs : List Content) × (all : List Disagreement)
    × AreOpened selection inputs cs × All HasFormedRecords cs × HasAllDisagreements cs all
    × ShowsFirst all old new count × (0 < count) × (result ≡ 20) × (written ≡ 0)
    × (after ≡ before))
    ⊎ ((¬ AreAgreeing selection inputs) × (m : MalformedRecord)
    × IsFirstMalformed selection inputs m × (new ≡ c_malformed m) × (count ≡ 0) × (result ≡ 21)
    × (written ≡ 0) × (after ≡ before))
    ⊎ ((e : CoreError) × NotInNumber number (λ v. RefusesAgreed selection v inputs) e
    × Refuses e before after written result × (count ≡ 0) × (new ≡ old))
