-- The first and the last bytes of a shard determine header and footer, and those of a written shard are its own.
use Rattle.std.proofs.Common.{◌≡◌, ℕ, ◌+◌, ◌-◌, ◌^◌, ◌<◌, List, [], ◌++◌, length, flat_map, take, drop, Option, refl, sym, ap, ◌∙◌, subst, arith, take-append-drop, append-nil, rules, None, Some}
use Rattle.std.specs.Prelude.{MatchResult, IfOk, Ok, Err}
use Rattle.std.specs.declared.result.Result.{Result}
use Rattle.std.proofs.lemmas.Result.{MatchResult-weaker}
use Rattle.std.specs.FinMap.{values}
use Rattle.std.specs.Io.KnownBytes.{Consumes}
use Rattle.std.proofs.lemmas.List.{length-append, append_assoc}
use Rattle.xet_base.specs.declared.error.CoreError.{CoreError}
use Rattle.xet_base.specs.Bytes.{u64_bytes}
use Rattle.xet_base.specs.Hash.{hash_bytes}
use Rattle.xet_base.specs.Source.{Source, DeviceFailure}
use Rattle.xet_base.proofs.Lists.{front_is, rest_is, same_parts, parts_front}
use Rattle.xet_base.proofs.Bytes.{length-u64_bytes, length-hash_bytes, u64_bytes-injective, hash_bytes-injective}
use Rattle.xet_records.specs.declared.file_structs.MDBFileInfo.{MDBFileInfo}
use Rattle.xet_records.specs.declared.xorb_structs.MDBXorbInfo.{MDBXorbInfo}
use Rattle.xet_records.specs.FileRecord.{file_records}
use Rattle.xet_records.specs.XorbRecord.{xorb_records}
use Rattle.xet_shards.proofs.Ends.Versions.{number_fits}
use Rattle.xet_records.specs.Version.{IsVersion}
use Rattle.xet_records.specs.declared.record_reader.FormatVersion.{FormatVersion}
use Rattle.xet_records.specs.declared.record_reader.FormatVersion.TheVariants.{V3}
use Rattle.xet_shards.specs.declared.shard_format.ends.header.MDBShardFileHeader.{MDBShardFileHeader}
use Rattle.xet_shards.specs.declared.shard_format.ends.footer.MDBShardFileFooter.{MDBShardFileFooter}
use Rattle.xet_shards.specs.declared.shard_format.ends.info.MDBShardInfo.{MDBShardInfo}
use Rattle.xet_shards.specs.Content.Shard.{Shard}
use Rattle.xet_shards.specs.Write.WrittenShard.{IsBytesOf, IsBytesWithInfo, IsBytesWithoutExpiry}
use Rattle.xet_shards.specs.Write.Section.{section_bytes}
use Rattle.xet_shards.specs.Write.Tables.{table_bytes, chunk_table_bytes}
use Rattle.xet_shards.specs.Write.Layout.{LayoutOptions, if_included, header_tag, shard_header_bytes, header_value, offsets_of, timestamps_of, sums_of, shard_footer_bytes, footer_value, layout_of, layout_in, plain_options_in, info_value_in}
use Rattle.xet_shards.specs.Ends.Ends.{HasHeader, FitsFooter, HasHeaderAndFooter, IsUnsupported, IsTooShort, last_bytes, Loads, LoadFails, Refusal}
use Rattle.xet_shards.proofs.Write.Layouts.{length-shard_header_bytes, length-shard_footer_bytes}
use Rattle.xet_shards.proofs.Ends.Loading.{header_of}
use Rattle.xet_shards.proofs.Read.Readback.{layout_from_48}
use Rattle.xet_shards.proofs.Ends.Widths.{fits_written}

-- the number of a version that is read
version_fits : (n : ℕ) → IsVersion n → n < 2 ^ 64
version_fits n (version, is) = omega (arith, is, number_fits version)

-- the bytes of a header determine it
header_unique : (g h : MDBShardFileHeader) → g.tag ≡ header_tag → h.tag ≡ header_tag → IsVersion g.version → IsVersion h.version → g.footer_size < 2 ^ 64 → h.footer_size < 2 ^ 64
    → shard_header_bytes g ≡ shard_header_bytes h → g ≡ h
unfolding shard_header_bytes
header_unique g h g_tag h_tag g_known h_known g_fits h_fits same =
    let last = same_parts (header_tag ++ u64_bytes g.version) (header_tag ++ u64_bytes h.version) (u64_bytes g.footer_size) (u64_bytes h.footer_size)
    (simp (length-u64_bytes)) same in
    let version = u64_bytes-injective g.version h.version (version_fits g.version g_known) (version_fits h.version h_known)
    (same_parts header_tag header_tag (u64_bytes g.version) (u64_bytes h.version) refl last.0).1 in
    let size = u64_bytes-injective g.footer_size h.footer_size g_fits h_fits last.1 in
    λ i. record { tag = (g_tag ∙ sym h_tag) i; version = version i; footer_size = size i }

from_right : (a b c d e : List ℕ) → (((a ++ b) ++ c) ++ d) ++ e ≡ a ++ (b ++ (c ++ (d ++ e)))
from_right a b c d e = simp (append_assoc)

word_len : (n : ℕ) → n < 2 ^ 64 → length (u64_bytes n) ≡ 8
word_len n fits = length-u64_bytes n

-- the bytes of a footer determine it
footer_unique : (f g : MDBShardFileFooter) → FitsFooter f → FitsFooter g → shard_footer_bytes f ≡ shard_footer_bytes g → f ≡ g
unfolding shard_footer_bytes
footer_unique f g f_fits g_fits same =
    let words = parts_front 8 u64_bytes (λ n. n < 2 ^ 64) word_len u64_bytes-injective in
    let whole = sym (from_right (flat_map u64_bytes (offsets_of f)) (hash_bytes f.chunk_hash_hmac_key) (flat_map u64_bytes (timestamps_of f)) (flat_map u64_bytes f._buffer) (flat_map u64_bytes (sums_of f)))
    ∙ same ∙ from_right (flat_map u64_bytes (offsets_of g)) (hash_bytes g.chunk_hash_hmac_key) (flat_map u64_bytes (timestamps_of g)) (flat_map u64_bytes g._buffer) (flat_map u64_bytes (sums_of g)) in
    let offsets = words (offsets_of f) (offsets_of g) _ _ refl f_fits.offsets g_fits.offsets whole in
    let key = same_parts (hash_bytes f.chunk_hash_hmac_key) (hash_bytes g.chunk_hash_hmac_key) _ _ (length-hash_bytes f.chunk_hash_hmac_key ∙ sym (length-hash_bytes g.chunk_hash_hmac_key)) offsets.1 in
    let timestamps = words (timestamps_of f) (timestamps_of g) _ _ refl f_fits.timestamps g_fits.timestamps key.1 in
    let buffer = words f._buffer g._buffer _ _ (f_fits.buffer_size ∙ sym g_fits.buffer_size) f_fits.buffer g_fits.buffer timestamps.1 in
    let sums = words (sums_of f) (sums_of g) [] [] refl f_fits.sums g_fits.sums (append-nil (flat_map u64_bytes (sums_of f)) ∙ buffer.1 ∙ sym (append-nil (flat_map u64_bytes (sums_of g)))) in
    let hash = hash_bytes-injective f.chunk_hash_hmac_key g.chunk_hash_hmac_key f_fits.key g_fits.key key.0 in
    search (rules, offsets.0, hash, timestamps.0, buffer.0, sums.0)

-- what was taken from the front of known bytes is what they begin with
same_taken : (old new : Option (List ℕ)) (xs ys rest : List ℕ) → length ys ≡ length xs → old ≡ Some (xs ++ rest) → Consumes old new ys → (ys ≡ xs) × (new ≡ Some rest)
same_taken old None xs ys rest len are taken = absurd (subst (λ o. Consumes o None ys) are taken)
same_taken old (Some zs) xs ys rest len are taken =
    let both : xs ++ rest ≡ ys ++ zs = subst (λ o. Consumes o (Some zs) ys) are taken in
    let parts = same_parts xs ys rest zs (sym len) both in
    (sym parts.0, ap Some (sym parts.1))

-- a header, or a footer, that is read from its own bytes is itself
header_again : (old new : Option (List ℕ)) (found h : MDBShardFileHeader) (rest : List ℕ) → found.tag ≡ header_tag → IsVersion found.version → found.footer_size < 2 ^ 64
    → h.tag ≡ header_tag → IsVersion h.version → h.footer_size < 2 ^ 64 → old ≡ Some (shard_header_bytes h ++ rest) → Consumes old new (shard_header_bytes found)
    → (found ≡ h) × (new ≡ Some rest)
header_again old new found h rest found_tag found_known found_fits tag known fits are taken =
    let same = same_taken old new (shard_header_bytes h) (shard_header_bytes found) rest (length-shard_header_bytes found ∙ sym (length-shard_header_bytes h)) are taken in
    (header_unique found h found_tag tag found_known known found_fits fits same.0, same.1)

header_bytes_are : (tag rest : List ℕ) (h : MDBShardFileHeader) → tag ≡ header_tag → rest ≡ u64_bytes h.version ++ u64_bytes h.footer_size → tag ++ rest ≡ shard_header_bytes h
unfolding shard_header_bytes
header_bytes_are tag rest h is_tag rest_is = λ i. is_tag i ++ rest_is i

pub header_read_again : (old new : Option (List ℕ)) (tag rest : List ℕ) (r : Result MDBShardFileHeader CoreError) → Consumes old new (tag ++ rest) → tag ≡ header_tag
    → IfOk r (λ h. (h.tag ≡ header_tag) × IsVersion h.version × (rest ≡ u64_bytes h.version ++ u64_bytes h.footer_size)) → IfOk r (λ h. h.footer_size < 2 ^ 64)
    → (h : MDBShardFileHeader) (after : List ℕ) → h.tag ≡ header_tag → IsVersion h.version → h.footer_size < 2 ^ 64 → old ≡ Some (shard_header_bytes h ++ after)
    → IfOk r (λ found. (found ≡ h) × (new ≡ Some after))
header_read_again old new tag rest (Ok found) taken is_tag (found_tag, found_known, rest_is) found_fits h after h_tag known fits are =
    header_again old new found h after found_tag found_known found_fits h_tag known fits are (subst (Consumes old new) (header_bytes_are tag rest found is_tag rest_is) taken)
header_read_again old new tag rest (Err e) taken is_tag ok found_fits h after h_tag known fits are = tt

pub footer_again : (old new : Option (List ℕ)) (found f : MDBShardFileFooter) (rest : List ℕ) → FitsFooter found → FitsFooter f → old ≡ Some (shard_footer_bytes f ++ rest)
    → Consumes old new (shard_footer_bytes found) → (found ≡ f) × (new ≡ Some rest)
footer_again old new found f rest found_fits fits are taken =
    let same = same_taken old new (shard_footer_bytes f) (shard_footer_bytes found) rest (length-shard_footer_bytes found found_fits.buffer_size ∙ sym (length-shard_footer_bytes f fits.buffer_size)) are taken in
    (footer_unique found f found_fits fits same.0, same.1)

-- at most one header and footer have these bytes
pub only_info : (bytes : List ℕ) (x y : MDBShardInfo) → HasHeaderAndFooter bytes x → HasHeaderAndFooter bytes y → x ≡ y
only_info bytes x y a b = search (rules, header_unique, footer_unique)

-- such bytes are neither unsupported nor too short
module _ (bytes : List ℕ) (info : MDBShardInfo) (ends : HasHeaderAndFooter bytes info) where
  header_is : HasHeader bytes
  header_is =
      header_of bytes (drop 48 bytes) info.header (sym (take-append-drop 48 bytes) ∙ ap (λ bs. bs ++ drop 48 bytes) ends.header) ends.header_version

  version_is : take 8 (last_bytes bytes) ≡ u64_bytes 1
  unfolding shard_footer_bytes
  version_is =
      let f = info.metadata in
      let rest = flat_map u64_bytes (drop 1 (offsets_of f)) ++ (hash_bytes f.chunk_hash_hmac_key ++ (flat_map u64_bytes (timestamps_of f) ++ (flat_map u64_bytes f._buffer ++ flat_map u64_bytes (sums_of f)))) in
      front_is 8 (last_bytes bytes) (u64_bytes f.version) rest (length-u64_bytes f.version)
      (ends.footer ∙ from_right (flat_map u64_bytes (offsets_of f)) (hash_bytes f.chunk_hash_hmac_key) (flat_map u64_bytes (timestamps_of f)) (flat_map u64_bytes f._buffer) (flat_map u64_bytes (sums_of f))
      ∙ append_assoc (u64_bytes f.version) (flat_map u64_bytes (drop 1 (offsets_of f))) _)
      ∙ ap u64_bytes ends.footer_version

  pub not_unsupported : ¬ IsUnsupported bytes
  not_unsupported unsupported = search (rules, header_is, version_is)

  pub not_too_short : ¬ IsTooShort bytes
  not_too_short short = search (rules, ends.size)

-- the ends of a shard's bytes
module _ (files : List MDBFileInfo) (xorbs : List MDBXorbInfo) (options : LayoutOptions) where
  before_footer : List ℕ
  before_footer =
      ((((shard_header_bytes (header_value options.version) ++ section_bytes file_records files) ++ section_bytes xorb_records xorbs) ++ if_included options.file_table (table_bytes file_records files)) ++ if_included options.xorb_table (table_bytes xorb_records xorbs))
      ++ if_included options.chunk_table (chunk_table_bytes xorbs)

  layout_is : layout_of files xorbs options ≡ before_footer ++ shard_footer_bytes (footer_value files xorbs options)
  unfolding layout_of before_footer
  layout_is = refl

  pub ends_of_layout : FitsFooter (footer_value files xorbs options) → HasHeaderAndFooter (layout_of files xorbs options) (record { header = header_value options.version; metadata = footer_value files xorbs options })
  ends_of_layout fits =
      let bytes = layout_of files xorbs options in
      let footer = shard_footer_bytes (footer_value files xorbs options) in
      let size : length footer ≡ 200 = length-shard_footer_bytes (footer_value files xorbs options) fits.buffer_size in
      let whole : length bytes ≡ length before_footer + 200 = ap length layout_is ∙ length-append before_footer footer ∙ ap (λ n. length before_footer + n) size in
      record {
        size = omega (arith, whole);
        tag = refl;
        header_version = (options.version, refl);
        footer_size = omega arith;
        header = front_is 48 bytes (shard_header_bytes (header_value options.version)) _ (length-shard_header_bytes (header_value options.version)) (layout_from_48 files xorbs options);
        footer_version = refl;
        footer_widths = fits;
        footer = rest_is (length bytes - 200) bytes before_footer footer (omega (arith, whole)) layout_is;
      }

why_not_loaded : (bytes : List ℕ) (info : MDBShardInfo) (old new : Source) (e : CoreError) → HasHeaderAndFooter bytes info → Refusal IsUnsupported IsTooShort bytes old new e → DeviceFailure old new e
why_not_loaded bytes info old new e ends refusal =
    search (rules, not_unsupported bytes info ends, not_too_short bytes info ends)

-- from bytes with such ends these are read, unless the device fails
pub loads_ends : (old new : Source) (info : MDBShardInfo) (r : Result MDBShardInfo CoreError) → HasHeaderAndFooter old.bytes info → MatchResult r (Loads old new) (LoadFails old new)
    → MatchResult r (λ found. found ≡ info) (DeviceFailure old new)
loads_ends old new info r ends loads =
    MatchResult-weaker r loads (λ x found. only_info old.bytes x info found.ends ends) (λ e fails. why_not_loaded old.bytes info old new e ends fails.cause)

pub loads_written : (old new : Source) (version : FormatVersion) (s : Shard) (expiry : Option ℕ) (r : Result MDBShardInfo CoreError) → old.bytes ≡ layout_in version s expiry
    → FitsFooter (info_value_in version s expiry).metadata → MatchResult r (Loads old new) (LoadFails old new) → MatchResult r (λ info. info ≡ info_value_in version s expiry) (DeviceFailure old new)
loads_written old new version s expiry r are fits =
    loads_ends old new (info_value_in version s expiry) r
    (subst (λ bs. HasHeaderAndFooter bs (info_value_in version s expiry)) (sym are) (ends_of_layout (values s.files) (values s.xorbs) (plain_options_in version expiry) fits))

-- the header and the footer in the bytes of a shard are those of its layout
pub ends_of_bytes : (s : Shard) (bytes : List ℕ) (is : IsBytesOf s bytes) → HasHeaderAndFooter bytes (info_value_in is.version s is.expiry)
ends_of_bytes s bytes is =
    subst (λ bs. HasHeaderAndFooter bs (info_value_in is.version s is.expiry)) (sym is.bytes_are)
    (ends_of_layout (values s.files) (values s.xorbs) (plain_options_in is.version is.expiry) (fits_written s is.expiry is.shard is.expiry_fits))

pub info_of_bytes : {s : Shard} {bytes : List ℕ} {info : MDBShardInfo} → (is : IsBytesWithInfo s bytes info) → info ≡ info_value_in is.is_bytes.version s is.is_bytes.expiry
info_of_bytes {s} {bytes} {info} is = only_info bytes info (info_value_in is.is_bytes.version s is.is_bytes.expiry) is.ends (ends_of_bytes s bytes is.is_bytes)

-- bytes without expiry are such bytes
pub bytes_without_expiry : {s : Shard} {bytes : List ℕ} → IsBytesWithoutExpiry s bytes → IsBytesOf s bytes
bytes_without_expiry is = record { shard = is.shard; version = V3; files = tt; expiry = None; expiry_fits = tt; bytes_are = is.bytes_are }
