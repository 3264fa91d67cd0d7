-- The commands of lines: the word that each begins with, and what the words behind it spell.
use Rattle.std.specs.Prelude.{ℕ, ◌≡◌, ◌≢◌, ◌<◌, ◌⊎◌, Bool, Option, Some, None, List, [], ◌∷◌, length, map, codes, zip, if◌then◌else◌}
use Rattle.std.specs.Borrow.{Bor}
use Rattle.std.specs.List.{AllZip}
use Rattle.std.specs.Str.Parse.{digits_value}
use Rattle.xet_core_structures.specs.Hash.{words_of}
use Rattle.xet_core_structures.specs.declared.file_structs.KeptParts.{KeptParts}
use Rattle.xet_core_structures.specs.declared.merklehash.DataHash.{DataHash}
use Rattle.shard_bytes.specs.declared.combine.Operation.{Operation}
use Rattle.shard_bytes.specs.declared.combine.Operation.TheVariants.{Union, Difference}
use Rattle.shard_bytes.specs.declared.export.ExportParts.{ExportParts}
use Rattle.shard_bytes.specs.declared.minimal.KeptXorbs.{KeptXorbs}
use Rattle.shard_bytes.specs.declared.minimal.KeptXorbs.TheVariants.{All as all_xorbs, Listed}
use Rattle.script_lines.specs.TreeWords.{words_of_line, IsTree}
use Rattle.script_lines.specs.Words.{IsName, IsNumber, SpellsHash}
use Rattle.script_lines.specs.declared.command.Command.{Command}
use Rattle.script_lines.specs.declared.command.Command.TheVariants.{Shard, Xorb, File, Write, Combine, Merge, Export, Minimal, Subset, Eligible, Find, Query, Size, Hex}
use Rattle.xet_core_structures.specs.declared.record_reader.FormatVersion.{FormatVersion}
use Rattle.xet_core_structures.specs.declared.record_reader.FormatVersion.TheVariants.{V2, V3}
use Rattle.script_lines.specs.declared.ranges.ByteRange.{ByteRange}
use Rattle.script_lines.specs.declared.verb.Verb.{Verb}
use Rattle.script_lines.specs.declared.verb.Verb.TheVariants.{Shard as to_shard, Xorb as to_xorb, File as to_file, Write as to_write, Write2 as to_write2, Union as to_union, Diff as to_diff, Merge as to_merge, Export as to_export, Drop as to_drop, Minimal as to_minimal, DropMin as to_drop_min, Subset as to_subset, Eligible as to_eligible, Find as to_find, Query as to_query, Size as to_size, Hex as to_hex}

-- the texts of words
abbrev pub texts : List (Bor (List ℕ)) → List (List ℕ)
texts words = map (λ word. word.now) words

-- the word that each verb is
abbrev pub word_of : Verb → List ℕ
word_of to_shard = codes "shard"
word_of to_xorb = codes "xorb"
word_of to_file = codes "file"
word_of to_write = codes "write"
word_of to_write2 = codes "write2"
word_of to_union = codes "union"
word_of to_diff = codes "diff"
word_of to_merge = codes "merge"
word_of to_export = codes "export"
word_of to_drop = codes "drop"
word_of to_minimal = codes "minimal"
word_of to_drop_min = codes "dropmin"
word_of to_subset = codes "subset"
word_of to_eligible = codes "eligible"
word_of to_find = codes "find"
word_of to_query = codes "query"
word_of to_size = codes "size"
word_of to_hex = codes "hex"

-- the verb that writes a version
abbrev pub write_verb : FormatVersion → Verb
write_verb V3 = to_write
write_verb V2 = to_write2

-- the verb of an operation
abbrev pub combine_verb : Operation → Verb
combine_verb Union = to_union
combine_verb Difference = to_diff

-- the verb of each command; `drop` and `dropmin` leave out auxiliary rows
abbrev pub verb_of : Command → Verb
verb_of (Shard shard) = to_shard
verb_of (Xorb shard xorb) = to_xorb
verb_of (File shard file) = to_file
verb_of (Write version shard buffer expiry) = write_verb version
verb_of (Combine operation first second buffer) = combine_verb operation
verb_of (Merge buffer tree) = to_merge
verb_of (Export from buffer export) = if export.parts.aux_ext then to_export else to_drop
verb_of (Minimal from buffer now kept) = if kept.aux_ext then to_minimal else to_drop_min
verb_of (Subset from buffer subset) = to_subset
verb_of (Eligible buffer) = to_eligible
verb_of (Find buffer hash) = to_find
verb_of (Query buffer hashes) = to_query
verb_of (Size buffer) = to_size
verb_of (Hex buffer range) = to_hex

-- a word spells a number that fits `u64`
abbrev pub SpellsNumber : List ℕ → ℕ → Type 0
SpellsNumber word n = IsNumber 64 word × (n ≡ digits_value 10 word)

-- a number, or none if it is left out
abbrev pub SpellNumber : List (List ℕ) → Option ℕ → Type 0
SpellNumber words None = words ≡ []
SpellNumber words (Some n) = (word : List ℕ) × (words ≡ word ∷ []) × SpellsNumber word n

-- a number, or none if the word is `-`
abbrev pub SpellsNumberOrDash : List ℕ → Option ℕ → Type 0
SpellsNumberOrDash word None = word ≡ codes "-"
SpellsNumberOrDash word (Some n) = SpellsNumber word n

-- the start and the length of a range, or none if they are left out
abbrev pub SpellRange : List (List ℕ) → Option ByteRange → Type 0
SpellRange words None = words ≡ []
SpellRange words (Some range) =
    (from len : List ℕ) × (words ≡ from ∷ len ∷ []) × SpellsNumber from range.from
    × SpellsNumber len range.len

-- a key: `0` is that of zeros, and any other word the hash that it spells
abbrev pub SpellsKey : List ℕ → DataHash → Type 0
SpellsKey word key =
    ((word ≡ codes "0") × (words_of key ≡ 0 ∷ 0 ∷ 0 ∷ 0 ∷ []))
    ⊎ ((word ≢ codes "0") × SpellsHash word key)

-- an option that is set or not is its letter or `-`
abbrev pub flag_byte : ℕ → Bool → ℕ
flag_byte letter flag = if flag then letter else 45

-- the word of options, each by its byte
abbrev pub flags_word : List ℕ → List Bool → List ℕ
flags_word letters flags = map (λ (letter, flag). flag_byte letter flag) (zip letters flags)

-- the parts of an export, `f` files, `x` xorbs and `c` chunks
abbrev pub parts_word : ExportParts → List ℕ
parts_word parts =
    flags_word (codes "fxc") (parts.files ∷ parts.xorb_table ∷ parts.chunk_table ∷ [])

-- the parts of a minimal shard, `v` verification rows
abbrev pub kept_word : KeptParts → List ℕ
kept_word kept = flags_word (codes "v") (kept.verification ∷ [])

-- the xorbs to keep: all if there is one word `*`, else those with the hashes, at least one
abbrev pub SpellKept : List (List ℕ) → KeptXorbs → Type 0
SpellKept words all_xorbs = words ≡ codes "*" ∷ []
SpellKept words (Listed hashes) = (0 < length words) × AllZip SpellsHash words hashes.items

-- the first of the words spells a hash
abbrev pub BeginWithHash : List (List ℕ) → DataHash → Type 0
BeginWithHash words hash =
    (word : List ℕ) × (rest : List (List ℕ)) × (words ≡ word ∷ rest) × SpellsHash word hash

-- the words behind a command's verb; of the records of xorbs and files only the hash is said here
abbrev pub AreArguments : List (List ℕ) → Command → Type 0
AreArguments words (Shard shard) = (words ≡ shard.now ∷ []) × IsName shard.now
AreArguments words (Xorb shard xorb) =
    (rest : List (List ℕ)) × (words ≡ shard.now ∷ rest) × IsName shard.now
    × BeginWithHash rest xorb.metadata.xorb_hash
AreArguments words (File shard file) =
    (rest : List (List ℕ)) × (words ≡ shard.now ∷ rest) × IsName shard.now
    × BeginWithHash rest file.metadata.file_hash
AreArguments words (Write version shard buffer expiry) =
    (rest : List (List ℕ)) × (words ≡ shard.now ∷ buffer.now ∷ rest) × IsName shard.now
    × IsName buffer.now × SpellNumber rest expiry
AreArguments words (Combine operation first second buffer) =
    (words ≡ first.now ∷ second.now ∷ buffer.now ∷ []) × IsName first.now × IsName second.now
    × IsName buffer.now
AreArguments words (Merge buffer tree) =
    (words ≡ buffer.now ∷ words_of_line tree) × IsName buffer.now × IsTree tree 64
AreArguments words (Export from buffer export) =
    (key now valid : List ℕ)
    × (words ≡ from.now ∷ buffer.now ∷ key ∷ now ∷ valid ∷ parts_word export.parts ∷ [])
    × IsName from.now × IsName buffer.now × SpellsKey key export.key
    × SpellsNumber now export.now × SpellsNumber valid export.valid_seconds
AreArguments words (Minimal from buffer now kept) =
    (time : List ℕ)
    × (words ≡ from.now ∷ buffer.now ∷ time ∷ kept_word kept ∷ [])
    × IsName from.now × IsName buffer.now × SpellsNumber time now
AreArguments words (Subset from buffer subset) =
    (now expiry : List ℕ) × (list : List (List ℕ))
    × (words ≡ from.now ∷ buffer.now ∷ now ∷ expiry ∷ list) × IsName from.now × IsName buffer.now
    × SpellsNumber now subset.now × SpellsNumberOrDash expiry subset.expiry
    × SpellKept list subset.kept
AreArguments words (Eligible buffer) = (words ≡ buffer.now ∷ []) × IsName buffer.now
AreArguments words (Find buffer hash) =
    (word : List ℕ) × (words ≡ buffer.now ∷ word ∷ []) × IsName buffer.now × SpellsHash word hash
AreArguments words (Query buffer hashes) =
    (list : List (List ℕ)) × (words ≡ buffer.now ∷ list) × IsName buffer.now
    × AllZip SpellsHash list hashes.items
AreArguments words (Size buffer) = (words ≡ buffer.now ∷ []) × IsName buffer.now
AreArguments words (Hex buffer range) =
    (rest : List (List ℕ)) × (words ≡ buffer.now ∷ rest) × IsName buffer.now
    × SpellRange rest range

-- the words of a line are those of a command
abbrev pub AreCommand : List (List ℕ) → Command → Type 0
AreCommand words command =
    (arguments : List (List ℕ)) × (words ≡ word_of (verb_of command) ∷ arguments)
    × AreArguments arguments command

-- the first of the words is a verb
abbrev pub BeginWithVerb : List (List ℕ) → Type 0
BeginWithVerb words =
    (verb : Verb) × (arguments : List (List ℕ)) × (words ≡ word_of verb ∷ arguments)

-- the verb is followed by a record
abbrev pub TakesRecord : Verb → Type 0
TakesRecord verb = (verb ≡ to_xorb) ⊎ (verb ≡ to_file)
