-- Findings that are added one after another, and the report that they make.
use Rattle.std.proofs.Common.{◌≡◌, ◌≢◌, ◌⊎◌, ◌↔◌, Bool, true, false, inl, inr, Ok, Err, ℕ, zero, suc, ◌+◌, ◌-◌, ◌<◌, List, [], ◌∷◌, ◌++◌, length, map, take, drop, slice_index_or, refl, sym, ap, ◌∙◌, subst, arith, append-nil, rules}
use Rattle.std.specs.Prelude.{◌^◌, All, Contains, IsTrue, OnOk, if◌then◌else◌}
use Rattle.std.specs.List.Sorted.{IsStrictlySortedBy}
use Rattle.std.specs.declared.cmp.Ordering.TheVariants.{Less}
use Rattle.std.specs.declared.result.Result.{Result}
use borrow.Author.Count.{below_more}
use Rattle.std.proofs.lemmas.List.{append_assoc, take-append-drop}
use Rattle.std.proofs.lemmas.List.Elements.{All-nil, All-cons, All-append, All-weaker, All-head, Contains-push, Contains-append_left, Contains-append_right}
use Rattle.xet_core_structures.specs.declared.error.CoreError.{CoreError}
use Rattle.xet_core_structures.specs.declared.error.CoreError.TheVariants.{InvalidArguments, InvalidShard, OutOfMemory}
use Rattle.xet_core_structures.specs.declared.file_structs.MDBFileInfo.{MDBFileInfo}
use Rattle.xet_core_structures.specs.declared.xorb_structs.MDBXorbInfo.{MDBXorbInfo}
use Rattle.xet_core_structures.specs.declared.merklehash.DataHash.{DataHash}
use Rattle.xet_core_structures.specs.declared.shard_format.MDBShardFileFooter.{MDBShardFileFooter}
use Rattle.xet_core_structures.specs.declared.shard_format.MDBShardInfo.{MDBShardInfo}
use Rattle.xet_core_structures.specs.Ends.{HasHeader, HasHeaderAndFooter}
use Rattle.xet_core_structures.specs.Errors.{IsInvalidShard, IsEndOfInput}
use Rattle.xet_core_structures.specs.FileRecord.{IsWellFormed, file_records, file_records_in}
use Rattle.xet_core_structures.specs.Hash.{IsHash, hash_cmp}
use Rattle.xet_core_structures.specs.WithOptions.{FitsSection, Ascends}
use Rattle.xet_core_structures.specs.Layout.{footer_value, info_of, layout_of}
use Rattle.xet_core_structures.specs.SectionReading.{SectionCase}
use Rattle.xet_core_structures.specs.SectionReading.SectionCase.{not_read, passes_limit}
use Rattle.xet_core_structures.specs.Source.ReadCase.{out_of_memory, out_of_bytes}
use Rattle.xet_core_structures.specs.TwoShards.ByteResults.{LoadRefusal}
use Rattle.xet_core_structures.specs.XorbRecord.{IsXorb, xorb_records}
use Rattle.xet_shards.specs.Read.SectionsBehindHeader.{options_of}
use Rattle.xet_shards.specs.Write.Tables.{hash_in}
use Rattle.xet_core_structures.specs.KeyedHash.{no_key}
use Rattle.xet_shards.proofs.ShardInMemory.ChunkLookups.{All-front}
use Rattle.xet_shards.proofs.Ends.EndsUnique.{only_info, not_unsupported, not_too_short}
use Rattle.xet_shards.proofs.Read.SectionHashes.{ascend_adjacent}
use Rattle.xet_shards.proofs.Ends.Loading.{header_of, one_version}
use Rattle.xet_shards.proofs.Read.SectionsOfBytes.{only_sections, sections_fit, is_layout}
use Rattle.xet_shards.proofs.Read.WholeSections.{files_not_cut, files_not_refused, layout_ends, xorbs_not_cut, xorbs_not_refused}
use Rattle.placed_shards.specs.Content.{HasFilesIn}
use Rattle.placed_shards.proofs.Equations.Reopened.{has_files}
use Rattle.placed_shards.proofs.Items.{all_behind}
use Rattle.shard_bytes.proofs.Formats.{unsupported_so}
use Rattle.shard_bytes.proofs.Walks.{not_refused}
use Rattle.shard_bytes.proofs.Reordered.{front_more, put_together, ends_alike, rows_found}
use Rattle.shard_bytes.specs.declared.check.Section.{Section}
use Rattle.shard_bytes.specs.declared.check.Section.TheVariants.{Files, Xorbs}
use Rattle.shard_bytes.specs.declared.check.Part.{Part}
use Rattle.shard_bytes.specs.declared.check.Part.TheVariants.{Header, FileSection, XorbSection, FileTable, XorbTable, ChunkTable, Footer}
use Rattle.shard_bytes.specs.declared.check.Finding.{Finding}
use Rattle.shard_bytes.specs.declared.check.Finding.TheVariants.{Unsupported, TooShort, Cut, Refused, OutOfOrder, Malformed, Differs, Reordered, Size}
use Rattle.shard_bytes.specs.Checking.{IsContent, IsWhole, IsIntact, IsReadAs, IsOutOfOrder, IsMalformedAt, IsSamePart, IsAlikePart, IsFinding, IsNote}
use Rattle.shard_bytes.specs.Steps.CheckingSteps.{IsReport, Adds, AddsFaults, IsUnreadable, AddsDisorder, AddsMalformed, AddsPart, AddsTable, AddsSize, IsDifference, IsSame, IsAlike, Compares, AddsDifferences}

-- what is known of a success, weakened
pub OnOk-weaker : {T E : Type 0} (r : Result T E) (P Q : Type 0) → (P → Q) → OnOk r P → OnOk r Q
OnOk-weaker (Ok v) P Q weaker is = weaker is
OnOk-weaker (Err e) P Q weaker is = is

-- one hash more in order
at_map : {X Y : Type 0} (f : X → Y) (xs : List X) (i : ℕ) (x : X) (d : Y) → i < length xs → x ≡ slice_index_or xs i x → slice_index_or (map f xs) i d ≡ f x
at_map f [] i x d below is = absurd (omega arith)
at_map f (y ∷ ys) zero x d below is = ap f (sym is)
at_map f (y ∷ ys) (suc i) x d below is = at_map f ys i x d (omega arith) is

pub one_more : {X : Type 0} (f : X → DataHash) (xs : List X) (n : ℕ) (x y : X) → 0 < n → n < length xs → x ≡ slice_index_or xs (n - 1) x → y ≡ slice_index_or xs n y → hash_cmp (f x) (f y) ≡ Less
    → ((k : ℕ) (d : DataHash) → k + 1 < n → hash_cmp (slice_index_or (map f xs) k d) (slice_index_or (map f xs) (k + 1) d) ≡ Less)
    → (k : ℕ) (d : DataHash) → k + 1 < n + 1 → hash_cmp (slice_index_or (map f xs) k d) (slice_index_or (map f xs) (k + 1) d) ≡ Less
one_more f xs n x y some below x_is y_is less before k d under =
    below_more Upto n (λ m m_below j is e. before j e (omega (arith, m_below, is))) here (k + 1) under k refl d
  where
    Upto : ℕ → Type 0
    Upto m = (j : ℕ) → j + 1 ≡ m → (e : DataHash) → hash_cmp (slice_index_or (map f xs) j e) (slice_index_or (map f xs) (j + 1) e) ≡ Less

    here : Upto n
    here j is e =
        let last : j ≡ n - 1 = omega (arith, is) in
        let at_x = ap (λ m. slice_index_or (map f xs) m e) last ∙ at_map f xs (n - 1) x e (omega arith) x_is in
        let at_y = ap (λ m. slice_index_or (map f xs) m e) is ∙ at_map f xs n y e below y_is in
        (λ i. hash_cmp (at_x i) (at_y i)) ∙ less

both_empty : {X : Type 0} (xs ys : List X) → xs ++ ys ≡ [] → (xs ≡ []) × (ys ≡ [])
both_empty [] ys empty = (refl, empty)
both_empty (x ∷ xs) ys empty = cc

-- the same findings under another name, and those of two calls
pub adds_as : (Well Fair : Type 0) (One Other : Finding → Type 0) (a b : List Finding) → ((f : Finding) → One f → Other f) → ((f : Finding) → Other f → One f) → Adds Well Fair One a b → Adds Well Fair Other a b
adds_as Well Fair One Other a b to from adds = record {
  more = adds.more;
  added = adds.added;
  each = All-weaker One Other to adds.more adds.each;
  all = λ f so. adds.all f (from f so);
  none = adds.none;
  notes = adds.notes;
}

-- facts that follow from those that hold if no finding, or only notes, were added
pub adds_well : (P F Q G : Type 0) (IsSo : Finding → Type 0) (a b : List Finding) → (P → Q) → (F → G) → Adds P F IsSo a b → Adds Q G IsSo a b
adds_well P F Q G IsSo a b well fair adds = record {
  more = adds.more;
  added = adds.added;
  each = adds.each;
  all = adds.all;
  none = λ empty. well (adds.none empty);
  notes = λ all. fair (adds.notes all);
}

pub adds_then : (P F Q G : Type 0) (V W : Finding → Type 0) (a b c : List Finding) → Adds P F V a b → Adds Q G W b c → Adds (P × Q) (F × G) (λ f. V f ⊎ W f) a c
adds_then P F Q G V W a b c first next = record {
  more = first.more ++ next.more;
  added = next.added ∙ ap (λ zs. zs ++ next.more) first.added ∙ append_assoc a first.more next.more;
  each = All-append (λ f. V f ⊎ W f) first.more next.more (All-weaker V (λ f. V f ⊎ W f) (λ f so. inl so) first.more first.each) (All-weaker W (λ f. V f ⊎ W f) (λ f so. inr so) next.more next.each);
  all = either;
  none = λ empty. let parts = both_empty first.more next.more empty in (first.none parts.0, next.none parts.1);
  notes = λ all. (first.notes (All-front IsNote first.more next.more all), next.notes (all_behind IsNote first.more next.more all));
}
  where
    either : (f : Finding) → V f ⊎ W f → Contains (first.more ++ next.more) f
    either f (inl so) = Contains-append_left first.more next.more f (first.all f so)
    either f (inr so) = Contains-append_right first.more next.more f (next.all f so)

-- nothing was added, or one finding
pub adds_none : (Well Fair : Type 0) (IsSo : Finding → Type 0) (old new : List Finding) → Well → Fair → ((f : Finding) → ¬ IsSo f) → new ≡ old → Adds Well Fair IsSo old new
adds_none Well Fair IsSo old new well fair never is =
    record { more = []; added = is ∙ sym (append-nil old); each = All-nil IsSo; all = λ f so. absurd (never f so); none = λ empty. well; notes = λ all. fair }

one-not_nil : (f : Finding) → f ∷ [] ≢ []
one-not_nil f empty = cc

adds_one : (Well Fair : Type 0) (IsSo : Finding → Type 0) (f : Finding) (old new : List Finding) → IsSo f → ((g : Finding) → IsSo g → g ≡ f) → (IsNote f → Fair) → new ≡ old ++ f ∷ [] → Adds Well Fair IsSo old new
adds_one Well Fair IsSo f old new so only note is = record {
  more = f ∷ [];
  added = is;
  each = All-cons IsSo f [] so (All-nil IsSo);
  all = λ g is_so. subst (Contains (f ∷ [])) (sym (only g is_so)) (Contains-push [] f);
  none = λ empty. absurd (one-not_nil f empty);
  notes = λ all. note (All-head IsNote f [] all);
}

pub adds_if : (holds : Bool) (P : Type 0) (f : Finding) (old new : List Finding) → (¬ IsNote f) → (IsTrue holds ↔ P) → new ≡ (if holds then old else old ++ f ∷ []) → AddsFaults P (λ g. (g ≡ f) × (¬ P)) old new
adds_if true P f old new fault decides is =
    let yes : IsTrue true = search rules in
    adds_none P P (λ g. (g ≡ f) × (¬ P)) old new (decides.0 yes) (decides.0 yes) (λ g so. so.1 (decides.0 yes)) is
adds_if false P f old new fault decides is =
    let no : ¬ IsTrue false = search rules in
    adds_one P P (λ g. (g ≡ f) × (¬ P)) f old new (refl, λ p. no (decides.1 p)) (λ g so. so.0) (λ note. absurd (fault note)) is

-- hashes that ascend, or one that is out of order
pub in_order : (section : Section) (hashes : List DataHash) (old new : List Finding) → IsStrictlySortedBy hash_cmp hashes → new ≡ old → AddsDisorder section hashes old new
in_order section hashes old new sorted is =
    adds_none (IsStrictlySortedBy hash_cmp hashes) (IsStrictlySortedBy hash_cmp hashes) (λ f. (n : ℕ) × (f ≡ OutOfOrder section n) × IsOutOfOrder n hashes) old new sorted sorted
    (λ f so. so.2.not_less no_key (ascend_adjacent hashes so.0 no_key sorted so.2.some so.2.below)) is

first_only : (hashes : List DataHash) (m n : ℕ) → IsOutOfOrder m hashes → IsOutOfOrder n hashes → ¬ (m < n)
first_only hashes m n one other less =
    let back : m - 1 + 1 ≡ m = omega (arith, one.some) in
    one.not_less no_key (ap (λ k. hash_cmp (slice_index_or hashes (m - 1) no_key) (slice_index_or hashes k no_key)) (sym back) ∙ other.first (m - 1) no_key (omega (arith, one.some, less)))

pub out_of_order : (section : Section) (hashes : List DataHash) (n : ℕ) (old new : List Finding) → IsOutOfOrder n hashes → new ≡ old ++ OutOfOrder section n ∷ [] → AddsDisorder section hashes old new
out_of_order section hashes n old new out is =
    adds_one (IsStrictlySortedBy hash_cmp hashes) (IsStrictlySortedBy hash_cmp hashes) (λ f. (m : ℕ) × (f ≡ OutOfOrder section m) × IsOutOfOrder m hashes) (OutOfOrder section n) old new (n, refl, out)
    (λ g so. so.1 ∙ ap (OutOfOrder section) (only so.0 so.2)) (λ note. absurd note) is
  where
    only : (m : ℕ) → IsOutOfOrder m hashes → m ≡ n
    only m other =
        let not_before = first_only hashes m n other out in
        let not_after = first_only hashes n m out other in
        omega (arith, not_before, not_after)

-- the chunk table is as it was written, or one finding about it is true
module _ (bytes : List ℕ) (info : MDBShardInfo) (written : List ℕ) (footer : MDBShardFileFooter) (old new : List Finding) where
  abbrev SameTable : Type 0
  SameTable = IsSamePart ChunkTable bytes info written footer

  abbrev AlikeTable : Type 0
  AlikeTable = IsAlikePart ChunkTable bytes info written footer

  abbrev IsSaid : Finding → Type 0
  IsSaid f = ((f ≡ Differs ChunkTable) × (¬ AlikeTable)) ⊎ ((f ≡ Reordered) × AlikeTable × (¬ SameTable))

  never_said : AlikeTable → SameTable → (f : Finding) → ¬ IsSaid f
  never_said alike same f (inl (is, differs)) = differs alike
  never_said alike same f (inr (is, there, other)) = other same

  pub table_same : AlikeTable → SameTable → new ≡ old → AddsTable bytes info written footer old new
  table_same alike same is = adds_none SameTable AlikeTable IsSaid old new same alike (never_said alike same) is

-- all parts and the size
module _ (bytes : List ℕ) (info : MDBShardInfo) (written : List ℕ) (footer : MDBShardFileFooter) where
  abbrev Same : Part → Type 0
  Same part = IsSamePart part bytes info written footer

  abbrev Alike : Part → Type 0
  Alike part = IsAlikePart part bytes info written footer

  -- a part is found to differ
  abbrev One : Part → Finding → Type 0
  One part f = (f ≡ Differs part) × (¬ Alike part)

  abbrev IsMoved : Finding → Type 0
  IsMoved f = (f ≡ Reordered) × Alike ChunkTable × (¬ Same ChunkTable)

  abbrev IsOne : Finding → Type 0
  IsOne = IsDifference bytes info written footer

  each_part : (Is : Part → Type 0) → Is Header → Is FileSection → Is XorbSection → Is FileTable → Is XorbTable → Is ChunkTable → Is Footer → (part : Part) → Is part
  each_part Is h fs xs ft xt ct f Header = h
  each_part Is h fs xs ft xt ct f FileSection = fs
  each_part Is h fs xs ft xt ct f XorbSection = xs
  each_part Is h fs xs ft xt ct f FileTable = ft
  each_part Is h fs xs ft xt ct f XorbTable = xt
  each_part Is h fs xs ft xt ct f ChunkTable = ct
  each_part Is h fs xs ft xt ct f Footer = f

  abbrev IsSize : Finding → Type 0
  IsSize f = (f ≡ Size (length written)) × (length bytes ≢ length written)

  -- a difference is that of one of the parts, or of the size
  abbrev OfAll : Finding → Type 0
  OfAll f = ((((((One Header f ⊎ One FileSection f) ⊎ One XorbSection f) ⊎ One FileTable f) ⊎ One XorbTable f) ⊎ (One ChunkTable f ⊎ IsMoved f)) ⊎ One Footer f) ⊎ IsSize f

  to_one : (f : Finding) → OfAll f → IsOne f
  to_one f (inl (inl (inl (inl (inl (inl (inl so))))))) = inl (Header, so.0, so.1)
  to_one f (inl (inl (inl (inl (inl (inl (inr so))))))) = inl (FileSection, so.0, so.1)
  to_one f (inl (inl (inl (inl (inl (inr so)))))) = inl (XorbSection, so.0, so.1)
  to_one f (inl (inl (inl (inl (inr so))))) = inl (FileTable, so.0, so.1)
  to_one f (inl (inl (inl (inr so)))) = inl (XorbTable, so.0, so.1)
  to_one f (inl (inl (inr (inl so)))) = inl (ChunkTable, so.0, so.1)
  to_one f (inl (inl (inr (inr so)))) = inr (inl so)
  to_one f (inl (inr so)) = inl (Footer, so.0, so.1)
  to_one f (inr so) = inr (inr so)

  from_one : (f : Finding) → IsOne f → OfAll f
  from_one f (inl (Header, is, differs)) = inl (inl (inl (inl (inl (inl (inl (is, differs)))))))
  from_one f (inl (FileSection, is, differs)) = inl (inl (inl (inl (inl (inl (inr (is, differs)))))))
  from_one f (inl (XorbSection, is, differs)) = inl (inl (inl (inl (inl (inr (is, differs))))))
  from_one f (inl (FileTable, is, differs)) = inl (inl (inl (inl (inr (is, differs)))))
  from_one f (inl (XorbTable, is, differs)) = inl (inl (inl (inr (is, differs))))
  from_one f (inl (ChunkTable, is, differs)) = inl (inl (inr (inl (is, differs))))
  from_one f (inl (Footer, is, differs)) = inl (inr (is, differs))
  from_one f (inr (inl so)) = inl (inl (inr (inr so)))
  from_one f (inr (inr so)) = inr so

  pub adds_all_parts : (l0 l1 l2 l3 l4 l5 l6 l7 l8 : List Finding) → AddsPart Header bytes info written footer l0 l1 → AddsPart FileSection bytes info written footer l1 l2
      → AddsPart XorbSection bytes info written footer l2 l3 → AddsPart FileTable bytes info written footer l3 l4 → AddsPart XorbTable bytes info written footer l4 l5
      → AddsTable bytes info written footer l5 l6 → AddsPart Footer bytes info written footer l6 l7 → AddsSize bytes written l7 l8 → Compares bytes info written footer l0 l8
  adds_all_parts l0 l1 l2 l3 l4 l5 l6 l7 l8 h fs xs ft xt ct f size =
      let s2 = adds_then (Same Header) (Same Header) (Same FileSection) (Same FileSection) (One Header) (One FileSection) l0 l1 l2 h fs in
      let s3 = adds_then _ _ (Same XorbSection) (Same XorbSection) _ (One XorbSection) l0 l2 l3 s2 xs in
      let s4 = adds_then _ _ (Same FileTable) (Same FileTable) _ (One FileTable) l0 l3 l4 s3 ft in
      let s5 = adds_then _ _ (Same XorbTable) (Same XorbTable) _ (One XorbTable) l0 l4 l5 s4 xt in
      let s6 = adds_then _ _ (Same ChunkTable) (Alike ChunkTable) _ (λ g. One ChunkTable g ⊎ IsMoved g) l0 l5 l6 s5 ct in
      let s7 = adds_then _ _ (Same Footer) (Same Footer) _ (One Footer) l0 l6 l7 s6 f in
      let s8 = adds_then _ _ (length bytes ≡ length written) (length bytes ≡ length written) _ IsSize l0 l7 l8 s7 size in
      adds_well _ _ (IsSame bytes info written footer) (IsAlike bytes info written footer) IsOne l0 l8
      (λ n. (each_part Same n.0.0.0.0.0.0.0 n.0.0.0.0.0.0.1 n.0.0.0.0.0.1 n.0.0.0.0.1 n.0.0.0.1 n.0.0.1 n.0.1, n.1))
      (λ n. (each_part Alike n.0.0.0.0.0.0.0 n.0.0.0.0.0.0.1 n.0.0.0.0.0.1 n.0.0.0.0.1 n.0.0.0.1 n.0.0.1 n.0.1, n.1))
      (adds_as _ _ OfAll IsOne l0 l8 to_one from_one s8)

-- what the library writes of the records in bytes that can be read
module _ (bytes : List ℕ) (info : MDBShardInfo) (files : List MDBFileInfo) (xorbs : List MDBXorbInfo) (read : IsReadAs bytes info files xorbs) where
  version_is : read.sections.header.version ≡ (options_of info).version
  version_is =
      one_version bytes read.sections.header
      (header_of bytes (drop 48 bytes) info.header (sym (take-append-drop 48 bytes) ∙ ap (λ bs. bs ++ drop 48 bytes) read.ends.header) read.ends.header_version)

  pub files_fit : FitsSection (file_records_in (options_of info).version) files
  files_fit = subst (λ v. FitsSection (file_records_in v) files) version_is (sections_fit bytes files xorbs read.sections).0

  pub xorbs_fit : FitsSection xorb_records xorbs
  xorbs_fit = (sections_fit bytes files xorbs read.sections).1

  pub key_fits : IsHash (options_of info).key
  key_fits = read.ends.footer_widths.key

  pub creation_fits : (options_of info).creation < 2 ^ 64
  creation_fits = read.ends.footer_widths.timestamps 0 0 (omega arith)

  pub expiry_fits : (options_of info).expiry < 2 ^ 64
  expiry_fits = read.ends.footer_widths.timestamps 1 0 (omega arith)

  written_ends : HasHeaderAndFooter (layout_of files xorbs (options_of info)) (info_of files xorbs (options_of info))
  written_ends = layout_ends files xorbs (options_of info) files_fit xorbs_fit key_fits creation_fits expiry_fits

  -- it is written and read again, unless an allocation fails
  pub written_unless : (e : CoreError) → (e ≡ OutOfMemory) ⊎ ((e ≡ InvalidArguments) × (¬ HasFilesIn (options_of info).version (record { files = files; xorbs = xorbs; options = options_of info }))) → e ≡ OutOfMemory
  written_unless e (inl is) = is
  written_unless e (inr (is, none)) = absurd (none (has_files (options_of info).version (record { files = files; xorbs = xorbs; options = options_of info }) files_fit.stored))

  pub never_refused : (e : CoreError) → ¬ LoadRefusal (layout_of files xorbs (options_of info)) e
  never_refused = not_refused (layout_of files xorbs (options_of info)) (info_of files xorbs (options_of info)) written_ends

  pub footer_read : (other : MDBShardInfo) → HasHeaderAndFooter (layout_of files xorbs (options_of info)) other → other.metadata ≡ footer_value files xorbs (options_of info)
  footer_read other there = ap (λ (i : MDBShardInfo). i.metadata) (only_info (layout_of files xorbs (options_of info)) other (info_of files xorbs (options_of info)) there written_ends)

-- bytes whose parts are those of the library's are whole, and intact if the rows of its chunk table stand in another order
module _ (bytes : List ℕ) (info : MDBShardInfo) (files : List MDBFileInfo) (xorbs : List MDBXorbInfo) (read : IsReadAs bytes info files xorbs)
    (files_ascend : Ascends file_records files) (xorbs_ascend : Ascends xorb_records xorbs) (files_formed : All IsWellFormed files) (xorbs_formed : All IsXorb xorbs) where
  content : IsContent files xorbs (options_of info)
  content = record {
    files_fit = files_fit bytes info files xorbs read;
    xorbs_fit = xorbs_fit bytes info files xorbs read;
    files_ascend = files_ascend;
    xorbs_ascend = xorbs_ascend;
    files_formed = files_formed;
    xorbs_formed = xorbs_formed;
    key = key_fits bytes info files xorbs read;
    creation = creation_fits bytes info files xorbs read;
    expiry = expiry_fits bytes info files xorbs read;
  }

  abbrev all_written : List ℕ
  all_written = layout_of files xorbs (options_of info)

  abbrev all_footer : MDBShardFileFooter
  all_footer = footer_value files xorbs (options_of info)

  pub whole : IsSame bytes info all_written all_footer → IsWhole bytes
  whole same = record {
    files = files;
    xorbs = xorbs;
    options = options_of info;
    content = content;
    bytes_are = is_layout bytes info files xorbs (options_of info) read.ends (same.0 Footer) same.1 (same.0 Header) (same.0 FileSection) (same.0 XorbSection) (same.0 FileTable) (same.0 XorbTable)
        (same.0 ChunkTable);
  }

  module _ (alike : IsAlike bytes info all_written all_footer) where
    front_same : take all_footer.chunk_lookup_offset bytes ≡ take all_footer.chunk_lookup_offset all_written
    front_same =
        front_more bytes all_written all_footer.xorb_lookup_offset all_footer.chunk_lookup_offset (omega arith)
        (front_more bytes all_written all_footer.file_lookup_offset all_footer.xorb_lookup_offset (omega arith)
        (front_more bytes all_written all_footer.xorb_info_offset all_footer.file_lookup_offset (omega arith)
        (front_more bytes all_written 48 all_footer.xorb_info_offset (omega arith) (front_more bytes all_written 0 48 (omega arith) refl (alike.0 Header)) (alike.0 FileSection)) (alike.0 XorbSection))
        (alike.0 FileTable))
        (alike.0 XorbTable)

    end_same : drop all_footer.footer_offset bytes ≡ drop all_footer.footer_offset all_written
    end_same = ends_alike bytes info files xorbs (options_of info) read.ends (alike.0 Footer) alike.1

    pub intact : IsIntact bytes
    intact =
        let rows = rows_found files xorbs (options_of info) content.xorbs_fit bytes (alike.0 ChunkTable) in
        record {
          files = files;
          xorbs = xorbs;
          options = options_of info;
          rows = rows.0;
          content = content;
          reordering = rows.1;
          bytes_are = put_together files xorbs (options_of info) rows.0 bytes front_same rows.2 end_same;
        }

-- bytes with a header and a footer have a header
abbrev pub header_in : (bytes : List ℕ) (info : MDBShardInfo) → HasHeaderAndFooter bytes info → HasHeader bytes
header_in bytes info ends = header_of bytes (drop 48 bytes) info.header (sym (take-append-drop 48 bytes) ∙ ap (λ bs. bs ++ drop 48 bytes) ends.header) ends.header_version

-- a report of bytes that can be read, from the findings on the order of each section and the differences
module _ (bytes : List ℕ) (info : MDBShardInfo) (files : List MDBFileInfo) (xorbs : List MDBXorbInfo) (read_so : IsReadAs bytes info files xorbs) where
  abbrev written_all : List ℕ
  written_all = layout_of files xorbs (options_of info)

  abbrev footer_all : MDBShardFileFooter
  footer_all = footer_value files xorbs (options_of info)

  abbrev fs : List DataHash
  fs = map (hash_in file_records) files

  abbrev xs : List DataHash
  xs = map (hash_in xorb_records) xorbs

  abbrev Disorder : Section → List DataHash → Finding → Type 0
  Disorder section hashes f = (n : ℕ) × (f ≡ OutOfOrder section n) × IsOutOfOrder n hashes

  abbrev BadFile : Finding → Type 0
  BadFile f = (n : ℕ) × (f ≡ Malformed Files n) × IsMalformedAt IsWellFormed files n

  abbrev BadXorb : Finding → Type 0
  BadXorb f = (n : ℕ) × (f ≡ Malformed Xorbs n) × IsMalformedAt IsXorb xorbs n

  -- what is wrong with the records; and what is wrong beside
  abbrev OfRecords : Finding → Type 0
  OfRecords f = (Disorder Files fs f ⊎ Disorder Xorbs xs f) ⊎ (BadFile f ⊎ BadXorb f)

  abbrev Any : Finding → Type 0
  Any f = OfRecords f ⊎ IsDifference bytes info written_all footer_all f

  to_finding : (f : Finding) → Any f → IsFinding bytes f
  to_finding f (inl (inl (inl (n, is, out)))) = subst (IsFinding bytes) (sym is) (info, files, xorbs, read_so, out)
  to_finding f (inl (inl (inr (n, is, out)))) = subst (IsFinding bytes) (sym is) (info, files, xorbs, read_so, out)
  to_finding f (inl (inr (inl (n, is, bad)))) = subst (IsFinding bytes) (sym is) (info, files, xorbs, read_so, bad)
  to_finding f (inl (inr (inr (n, is, bad)))) = subst (IsFinding bytes) (sym is) (info, files, xorbs, read_so, bad)
  to_finding f (inr (inl (part, is, differs))) = subst (IsFinding bytes) (sym is) (info, files, xorbs, read_so, differs)
  to_finding f (inr (inr (inl (is, alike, differs)))) = subst (IsFinding bytes) (sym is) (info, files, xorbs, read_so, (alike, differs))
  to_finding f (inr (inr (inr (is, differs)))) = subst (IsFinding bytes) (sym is) (info, files, xorbs, read_so, (refl, differs))

  -- however the bytes are read
  module _ (other : MDBShardInfo) (gs : List MDBFileInfo) (ys : List MDBXorbInfo) (read : IsReadAs bytes other gs ys) where
    same_info : other ≡ info
    same_info = only_info bytes other info read.ends read_so.ends

    same_both : (gs ≡ files) × (ys ≡ xorbs)
    same_both = only_sections bytes gs files ys xorbs read.sections read_so.sections

    same_written : layout_of gs ys (options_of other) ≡ written_all
    same_written = λ i. layout_of (same_both.0 i) (same_both.1 i) (options_of (same_info i))

    -- what is said of the bytes and of those that are written is said of the same
    said_too : (Says : MDBShardInfo → List ℕ → MDBShardFileFooter → Type 0) → Says other (layout_of gs ys (options_of other)) (footer_value gs ys (options_of other)) → Says info written_all footer_all
    said_too Says says = subst (λ p. p) (λ i. Says (same_info i) (same_written i) (footer_value (same_both.0 i) (same_both.1 i) (options_of (same_info i)))) says

  from_finding : (f : Finding) → IsFinding bytes f → Any f
  from_finding (Unsupported reason) so = absurd (not_unsupported bytes info read_so.ends (unsupported_so bytes reason so))
  from_finding TooShort so = absurd (not_too_short bytes info read_so.ends so)
  from_finding (Cut Files) (i, e, header, cut) = absurd (files_not_cut bytes files xorbs read_so.sections header cut)
  from_finding (Cut Xorbs) (i, e, header, (gs, there, cut)) = absurd (xorbs_not_cut bytes files xorbs read_so.sections header gs there cut)
  from_finding (Refused Files) (i, e, header, over) = absurd (files_not_refused bytes files xorbs read_so.sections header over)
  from_finding (Refused Xorbs) (i, e, header, (gs, there, over)) = absurd (xorbs_not_refused bytes files xorbs read_so.sections header gs there over)
  from_finding (OutOfOrder Files n) (other, gs, ys, read, out) =
      inl (inl (inl (n, refl, subst (IsOutOfOrder n) (ap (map (hash_in file_records)) (same_both other gs ys read).0) out)))
  from_finding (OutOfOrder Xorbs n) (other, gs, ys, read, out) =
      inl (inl (inr (n, refl, subst (IsOutOfOrder n) (ap (map (hash_in xorb_records)) (same_both other gs ys read).1) out)))
  from_finding (Malformed Files n) (other, gs, ys, read, bad) = inl (inr (inl (n, refl, subst (λ rs. IsMalformedAt IsWellFormed rs n) (same_both other gs ys read).0 bad)))
  from_finding (Malformed Xorbs n) (other, gs, ys, read, bad) = inl (inr (inr (n, refl, subst (λ rs. IsMalformedAt IsXorb rs n) (same_both other gs ys read).1 bad)))
  from_finding (Differs part) (other, gs, ys, read, differs) = inr (inl (part, refl, said_too other gs ys read (λ i w f. ¬ IsAlikePart part bytes i w f) differs))
  from_finding Reordered (other, gs, ys, read, (alike, differs)) =
      inr (inr (inl (refl, said_too other gs ys read (λ i w f. IsAlikePart ChunkTable bytes i w f) alike, said_too other gs ys read (λ i w f. ¬ IsSamePart ChunkTable bytes i w f) differs)))
  from_finding (Size n) (other, gs, ys, read, (is, differs)) =
      let size : n ≡ length written_all = is ∙ ap length (same_written other gs ys read) in
      inr (inr (inr (ap Size size, λ same. differs (same ∙ sym size))))

  pub report_of : (l1 l2 l3 l4 l5 : List Finding) → AddsDisorder Files fs [] l1 → AddsDisorder Xorbs xs l1 l2 → AddsMalformed Files IsWellFormed files l2 l3 → AddsMalformed Xorbs IsXorb xorbs l3 l4
      → AddsDifferences bytes info files xorbs l4 l5 → IsReport bytes l5
  report_of l1 l2 l3 l4 l5 files_order xorbs_order bad_files bad_xorbs compares =
      let order = adds_then FilesAscend FilesAscend XorbsAscend XorbsAscend (Disorder Files fs) (Disorder Xorbs xs) [] l1 l2 files_order xorbs_order in
      let bad = adds_then (All IsWellFormed files) (All IsWellFormed files) (All IsXorb xorbs) (All IsXorb xorbs) BadFile BadXorb l2 l3 l4 bad_files bad_xorbs in
      let records = adds_then _ _ _ _ _ (λ f. BadFile f ⊎ BadXorb f) [] l2 l4 order bad in
      let both = adds_then _ _ (IsSame bytes info written_all footer_all) (IsAlike bytes info written_all footer_all) _ (IsDifference bytes info written_all footer_all) [] l4 l5 records compares in
      let found = adds_as _ _ Any (IsFinding bytes) [] l5 to_finding from_finding both in
      record {
        each = subst (All (IsFinding bytes)) (sym found.added) found.each;
        all = λ f so. subst (λ fs. Contains fs f) (sym found.added) (found.all f so);
        none = λ empty. let n = found.none (sym found.added ∙ empty) in whole bytes info files xorbs read_so n.0.0.0 n.0.0.1 n.0.1.0 n.0.1.1 n.1;
        notes = λ all. let n = found.notes (subst (All IsNote) found.added all) in intact bytes info files xorbs read_so n.0.0.0 n.0.0.1 n.0.1.0 n.0.1.1 n.1;
      }
    where
      FilesAscend : Type 0
      FilesAscend = IsStrictlySortedBy hash_cmp fs

      XorbsAscend : Type 0
      XorbsAscend = IsStrictlySortedBy hash_cmp xs

-- one finding that is true, and no other is
pub one_finding : (bytes : List ℕ) (f : Finding) (findings : List Finding) → (¬ IsNote f) → IsFinding bytes f → ((g : Finding) → IsFinding bytes g → g ≡ f) → findings ≡ f ∷ [] → IsReport bytes findings
one_finding bytes f findings fault so only is = record {
  each = subst (All (IsFinding bytes)) (sym is) (All-cons (IsFinding bytes) f [] so (All-nil (IsFinding bytes)));
  all = λ g is_so. subst (λ fs. Contains fs g) (sym is) (subst (Contains (f ∷ [])) (sym (only g is_so)) (Contains-push [] f));
  none = λ empty. absurd (one-not_nil f (sym is ∙ empty));
  notes = λ all. absurd (fault (All-head IsNote f [] (subst (All IsNote) is all)));
}

-- a section that cannot be read
not_both : (e : CoreError) → IsInvalidShard e → ¬ IsEndOfInput e
not_both (InvalidShard text) invalid end = end
not_both e invalid end = invalid

pub unread_reported : (section : Section) (bytes from : List ℕ) (Passes Ends : List ℕ → Type 0) (e : CoreError) (findings : List Finding) → SectionCase Passes Ends from e → IsUnreadable section e findings
    → (Passes from → IsFinding bytes (Refused section) × ((g : Finding) → IsFinding bytes g → g ≡ Refused section)) → (Ends from → IsFinding bytes (Cut section) × ((g : Finding) → IsFinding bytes g → g ≡ Cut section))
    → IsReport bytes findings
unread_reported section bytes from Passes Ends e findings (not_read (out_of_memory is)) (inl (one, invalid)) passes ends = absurd (subst IsInvalidShard is invalid)
unread_reported section bytes from Passes Ends e findings (not_read (out_of_bytes end short)) (inl (one, invalid)) passes ends = absurd (not_both e invalid end)
unread_reported section bytes from Passes Ends e findings (passes_limit bare over) (inl (one, invalid)) passes ends = let why = passes over in one_finding bytes (Refused section) findings (λ note. note) why.0 why.1 one
unread_reported section bytes from Passes Ends e findings (not_read (out_of_memory is)) (inr (one, some, valid)) passes ends = absurd (some is)
unread_reported section bytes from Passes Ends e findings (not_read (out_of_bytes end short)) (inr (one, some, valid)) passes ends = let why = ends short in one_finding bytes (Cut section) findings (λ note. note) why.0 why.1 one
unread_reported section bytes from Passes Ends e findings (passes_limit bare over) (inr (one, some, valid)) passes ends = absurd (valid (search (rules, bare)))
