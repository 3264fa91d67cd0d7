-- Lookups of files, each of which is shown as a file of a list.
use Rattle.std.specs.Prelude.{◌≡◌, ◌⊎◌, ℕ, List, [], map, Option, None, unwrap_or}
use Rattle.std.specs.List.{AllZip}
use Rattle.xet_core_structures.specs.declared.error.CoreError.{CoreError}
use Rattle.xet_core_structures.specs.declared.error.CoreError.TheVariants.{OutOfMemory}
use Rattle.xet_core_structures.specs.declared.file_structs.MDBFileInfo.{MDBFileInfo}
use Rattle.xet_core_structures.specs.declared.merklehash.DataHash.{DataHash}
use Rattle.xet_core_structures.specs.FileRecord.{file_bookend}
use Rattle.shard_bytes.specs.declared.records.Records.{Records}
use Rattle.shard_bytes.specs.Finding.{AnswersLookup, RefusesLookups}
use Rattle.xet_c.specs.declared.hash.XetHash.{XetHash}
use Rattle.xet_c.specs.Arguments.{c_hash}

-- the record that stands for a file that is not found: its hash is all ones, which no file has
abbrev pub no_file : MDBFileInfo
no_file = record {
  metadata = file_bookend;
  segments = [];
  verification = [];
  metadata_ext = None;
  aux_ext = None;
}

-- files were looked up by their hashes, and these are their records, in the order of the hashes
abbrev pub AreFoundFiles : List ℕ → List XetHash → Records → Type 0
AreFoundFiles bytes cs records =
    (hashes : List DataHash) × (found : List (Option MDBFileInfo)) × (map c_hash hashes ≡ cs)
    × AllZip (AnswersLookup bytes) hashes found
    × (records.files.items ≡ map (λ file. unwrap_or file no_file) found)
    × (records.xorbs.items ≡ [])

-- why files are not looked up: an allocation failed, or the lookup of one of them is refused
abbrev pub RefusesFiles : List ℕ → List XetHash → CoreError → Type 0
RefusesFiles bytes cs e =
    (e ≡ OutOfMemory)
    ⊎ ((hashes : List DataHash) × (map c_hash hashes ≡ cs) × RefusesLookups bytes hashes e)
