-- Header and footer of a source.
use Rattle.std.proofs.Common.{◌≡◌, ◌≢◌, inr, Some, ℕ, ◌-◌, ◌^◌, ◌<◌, ◌≤◌, List, ◌++◌, length, take, drop, append-nil, sym, ap, ◌∙◌, subst, arith, rules}
use Rattle.std.proofs.lemmas.Grind.{common_steps}
use Rattle.std.proofs.lemmas.List.{length-append, length-drop, append_assoc, nil_from_length}
use Rattle.std.specs.declared.io.Error.{Error}
use Rattle.xet_base.specs.declared.error.CoreError.{CoreError}
use Rattle.xet_base.specs.Bytes.{u64_bytes}
use Rattle.xet_base.specs.Errors.{IsEndOfInput, IsBareShardVersion, FromDevice}
use Rattle.xet_base.specs.Source.{Source, ReadsBytes, Fails, after_seek, bytes_left}
use Rattle.xet_base.proofs.Bytes.{length-u64_bytes, u64_bytes-injective}
use Rattle.xet_base.proofs.Lists.{front_is}
use Rattle.xet_base.specs.InputLaws.{ReadsBytes-trans}
use Rattle.xet_base.proofs.Reading.{ReadsBytes-consumes}
use Rattle.xet_records.specs.declared.record_reader.FormatVersion.{FormatVersion}
use Rattle.xet_shards.proofs.Ends.Versions.{number_fits}
use Rattle.xet_records.specs.Version.{number_of, IsVersion, version_of}
use Rattle.xet_records.proofs.RecordKinds.{version_known, known_number}
use Rattle.xet_shards.specs.declared.shard_format.ends.header.MDBShardFileHeader.{MDBShardFileHeader}
use Rattle.xet_shards.specs.declared.shard_format.ends.footer.MDBShardFileFooter.{MDBShardFileFooter}
use Rattle.xet_shards.specs.Write.Layout.{header_tag, shard_header_bytes, shard_footer_bytes}
use Rattle.xet_shards.specs.Ends.Ends.{HasHeader, FitsFooter, HasUnsupportedHeader, EndsInHeader, HasUnsupportedFooter, EndsInFooter, last_bytes, Loads, LoadFails, PartFails, Refusal}
use Rattle.xet_shards.specs.Ends.Ends.FormatCase.{unsupported_format}
use Rattle.xet_shards.proofs.Ends.Ends.{unsupported_version}
use Rattle.xet_shards.proofs.Write.Layouts.{length-shard_header_bytes, length-shard_footer_bytes}

-- why a part failed, after calls that did not fail, is why the whole failed
refusal_of : (Unsupported Short Unsupported' Short' : List ℕ → Type 0) (bytes bytes' : List ℕ) (old mid new : Source) (e : CoreError)
    → mid.failures ≡ old.failures → (Unsupported bytes → Unsupported' bytes') → (Short bytes → Short' bytes')
    → Refusal Unsupported Short bytes mid new e → Refusal Unsupported' Short' bytes' old new e
refusal_of Unsupported Short Unsupported' Short' bytes bytes' old mid new e same unsupported short cause =
    search rules

-- a header in two steps
pub read_in_two : (a b c : Source) (tag rest : List ℕ) (h : MDBShardFileHeader) → tag ≡ header_tag → rest ≡ u64_bytes h.version ++ u64_bytes h.footer_size
    → ReadsBytes a b tag → ReadsBytes b c rest → ReadsBytes a c (shard_header_bytes h)
unfolding shard_header_bytes
read_in_two a b c tag rest h is_tag rest_is first last =
    subst (ReadsBytes a c) (λ i. is_tag i ++ rest_is i) (ReadsBytes-trans a b c tag rest first last)

pub other_version_read : (a b c : Source) (tag rest : List ℕ) (e : CoreError) → length tag ≡ 32 → length rest ≡ 16 → ReadsBytes a b tag → ReadsBytes b c rest → IsBareShardVersion e
    → ((version : FormatVersion) → take 8 rest ≢ u64_bytes (number_of version)) → PartFails HasUnsupportedHeader EndsInHeader 48 a c e
other_version_read a b c tag rest e tag_len len first last is differs = record {
  bytes = ap (λ (s : Source). s.bytes) last.after ∙ ap (λ (s : Source). s.bytes) first.after;
  seeks = ap (λ (s : Source). s.seeks) last.after ∙ ap (λ (s : Source). s.seeks) first.after;
  read = omega (arith, ap (λ (s : Source). s.read) last.after, ap (λ (s : Source). s.read) first.after, tag_len, len);
  cause = inr (
    ap (λ (s : Source). s.failures) last.after ∙ ap (λ (s : Source). s.failures) first.after,
    unsupported_format is
        (unsupported_version (Some (bytes_left a)) (Some (bytes_left b)) (Some (bytes_left c)) tag rest tag_len len (ReadsBytes-consumes a b tag first) (ReadsBytes-consumes b c rest last) differs),
  );
}

-- 200 bytes are enough for a footer
has_room : (bytes : List ℕ) → length bytes ≡ 200 → ¬ EndsInFooter bytes
has_room bytes len ends = search rules

-- bytes that begin with a header of a version that is read
pub header_begins : (bytes rest : List ℕ) (h : MDBShardFileHeader) → bytes ≡ shard_header_bytes h ++ rest
    → (48 ≤ length bytes) × (take 32 bytes ≡ header_tag) × (take 8 (drop 32 bytes) ≡ u64_bytes h.version)
unfolding shard_header_bytes
header_begins bytes rest h are =
    let whole = (header_tag ++ u64_bytes h.version) ++ u64_bytes h.footer_size in
    let len : length whole ≡ 48 = simp (length-append, length-u64_bytes) in (
      omega (arith, ap length are ∙ length-append whole rest, len),
      ap (take 32) are,
      ap (λ bs. take 8 (drop 32 bs)) are ∙ front_is 8 _ (u64_bytes h.version) (u64_bytes h.footer_size ++ rest) (length-u64_bytes h.version) (simp (append_assoc)),
    )

abbrev pub header_of : (bytes rest : List ℕ) (h : MDBShardFileHeader) → bytes ≡ shard_header_bytes h ++ rest → IsVersion h.version → HasHeader bytes
header_of bytes rest h are known = record {
  size = (header_begins bytes rest h are).0;
  tag = (header_begins bytes rest h are).1;
  version = version_of h.version;
  version_is = (header_begins bytes rest h are).2 ∙ ap u64_bytes (known_number h.version known);
}

-- bytes have one version
pub one_version : (bytes : List ℕ) (a b : HasHeader bytes) → a.version ≡ b.version
one_version bytes a b =
    sym (version_known a.version)
    ∙ ap version_of (u64_bytes-injective (number_of a.version) (number_of b.version) (number_fits a.version) (number_fits b.version) (sym a.version_is ∙ b.version_is))
    ∙ version_known b.version

-- the first 48 bytes were read, as a header
module _ (old start mid : Source) (h : MDBShardFileHeader) (first : start ≡ after_seek old 0) (read : ReadsBytes start mid (shard_header_bytes h)) where
  reads_header : ReadsBytes (after_seek old 0) mid (shard_header_bytes h)
  reads_header = subst (λ s. ReadsBytes s mid (shard_header_bytes h)) first read

  bytes_same : mid.bytes ≡ old.bytes
  bytes_same = ap (λ (s : Source). s.bytes) reads_header.after

  begins : old.bytes ≡ shard_header_bytes h ++ bytes_left mid
  begins = ReadsBytes-consumes (after_seek old 0) mid (shard_header_bytes h) reads_header

  front_is_header : take 48 old.bytes ≡ shard_header_bytes h
  front_is_header = front_is 48 old.bytes (shard_header_bytes h) (bytes_left mid) (length-shard_header_bytes h) begins

  header_there : IsVersion h.version → HasHeader old.bytes
  header_there two = header_of old.bytes (bytes_left mid) h begins two

  device_failed : (new : Source) (made : ℕ) (f : Error) (e : CoreError) → made ≤ 1 → Fails mid new made f → FromDevice f e → LoadFails old new e
  device_failed new made f e most fails from =
      search (rules, reads_header, length-shard_header_bytes h)

  pub no_length : (new : Source) (f : Error) (e : CoreError) → Fails mid new 0 f → FromDevice f e → LoadFails old new e
  no_length new f e fails from = device_failed new 0 f e (omega arith) fails from

  -- the length is known
  module _ (n : ℕ) (asked : Source) (known : (n ≡ length mid.bytes) × (asked ≡ mid)) (two : IsVersion h.version) where
    pub short_of_footer : (e : CoreError) → IsEndOfInput e → n < 200 → LoadFails old asked e
    short_of_footer e ended short =
        search (rules, reads_header, length-shard_header_bytes h, header_there)

    pub no_seek : (new : Source) (f : Error) (e : CoreError) → Fails asked new 1 f → FromDevice f e → LoadFails old new e
    no_seek new f e fails from = device_failed new 1 f e (omega arith) (subst (λ s. Fails s new 1 f) known.1 fails) from

    -- the last 200 bytes
    module _ (end : Source) (sought : end ≡ after_seek asked (n - 200)) (enough : 200 ≤ n) where
      there : end ≡ after_seek mid (n - 200)
      there = sought ∙ ap (λ s. after_seek s (n - 200)) known.1

      last_is : bytes_left (after_seek mid (n - 200)) ≡ last_bytes old.bytes
      last_is = λ i. drop ((known.0 ∙ ap length bytes_same) i - 200) (bytes_same i)

      size : 200 ≤ length old.bytes
      size = omega (arith, known.0, ap length bytes_same)

      length_last : length (last_bytes old.bytes) ≡ 200
      length_last = omega (arith, length-drop (length old.bytes - 200) old.bytes, size)

      pub not_footer : (new : Source) (e : CoreError) → PartFails HasUnsupportedFooter EndsInFooter 200 end new e → LoadFails old new e
      not_footer new e part =
          search (
            rules,
            there,
            reads_header,
            length-shard_header_bytes h,
            refusal_of,
            header_there,
            size,
            last_is,
            has_room,
            length_last,
          )

      pub found_both : (new : Source) (f : MDBShardFileFooter) → h.tag ≡ header_tag → h.footer_size < 2 ^ 64 → f.version ≡ 1 → FitsFooter f → ReadsBytes end new (shard_footer_bytes f)
          → Loads old new (record { header = h; metadata = f })
      found_both new f tag footer_size one widths took =
          grind (
            arith,
            common_steps,
            there,
            length-shard_footer_bytes,
            ReadsBytes-consumes,
            nil_from_length,
            length-append,
            last_is,
            length_last,
            reads_header,
            length-shard_header_bytes h,
            size,
            front_is_header,
            append-nil,
          )
