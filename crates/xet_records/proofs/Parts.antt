-- The rows of each optional part among the rows of all parts, and the record that has given parts.
use Rattle.std.proofs.Common.{◌≡◌, ℕ, ◌+◌, ◌≤◌, List, [], ◌∷◌, ◌++◌, length, take, drop, flat_map, Bool, true, false, Option, None, Some, refl, sym, ap, ◌∙◌, arith, true≢false, if◌then◌else◌}
use Rattle.std.specs.Prelude.{All, IsTrue, ◌↔◌, ◌<◌, map, sum_by, slice_get, slice_index_or, option_map, option_to_list}
use Rattle.std.specs.Bool.{MatchBool}
use Rattle.std.specs.List.{AllWithin, HoldsAt}
use Rattle.std.proofs.lemmas.List.{length-append, length-map, length-take-le, length-drop, take-append-drop, take-map, drop-map, drop-drop, drop_all}
use Rattle.std.proofs.lemmas.List.Concat.{length-flat_map}
use Rattle.std.proofs.lemmas.List.Elements.{All-append, All-take, All-drop, All-same}
use Rattle.std.proofs.lemmas.Grind.{flat_map-append}
use Rattle.xet_base.proofs.Lists.{front_is, rest_is}
use Rattle.xet_records.specs.declared.file_structs.header.FileDataSequenceHeader.{FileDataSequenceHeader}
use Rattle.xet_records.specs.declared.file_structs.part.OptionalPart.{OptionalPart}
use Rattle.xet_records.specs.declared.file_structs.part.OptionalPart.TheVariants.{Verification, MetadataExt, AuxExt}
use Rattle.xet_records.specs.declared.file_structs.rows.FileDataSequenceEntry.{FileDataSequenceEntry}
use Rattle.xet_records.specs.declared.file_structs.rows.HashRow.{HashRow}
use Rattle.xet_records.specs.declared.file_structs.MDBFileInfo.{MDBFileInfo}
use Rattle.xet_records.specs.FileRow.{clear}
use Rattle.xet_records.specs.Part.{parts, parts_before, part_rows, rows_before, optional_rows_after, rows_of, optional_rows, with_parts, part_of}
use Rattle.xet_records.specs.FileRecord.{FitsItsHeader, as_read}
use Rattle.xet_records.specs.View.{with_parts_if}

-- a fact for each part
pub for_parts : (P : OptionalPart → Type 0) → P Verification → P MetadataExt → P AuxExt → (part : OptionalPart) → P part
for_parts P v m a Verification = v
for_parts P v m a MetadataExt = m
for_parts P v m a AuxExt = a

-- a test of each part is one of all
pub every_part : (P : OptionalPart → Type 0) (b : Bool) → MatchBool b (AllWithin P parts 0 (length parts)) ((k : ℕ) × (k < length parts) × HoldsAt (λ part. ¬ P part) parts k)
    → IsTrue b ↔ ((part : OptionalPart) → P part)
every_part P true all = (λ yes. for_parts P (all 0 Verification (omega arith) (omega arith)) (all 1 Verification (omega arith) (omega arith)) (all 2 Verification (omega arith) (omega arith)), λ each. refl)
every_part P false (k, below, not_there) = (λ no. absurd (true≢false (sym no)), λ each. absurd (not_there Verification (each (slice_index_or parts k Verification))))

-- the rows of parts that are told one by one
abbrev pub these_rows : List HashRow → List HashRow → List HashRow → OptionalPart → List HashRow
these_rows vs ms xs Verification = vs
these_rows vs ms xs MetadataExt = ms
these_rows vs ms xs AuxExt = xs

pub these_counted : (h : FileDataSequenceHeader) (vs ms xs : List HashRow) → length vs ≡ part_rows Verification h → length ms ≡ part_rows MetadataExt h → length xs ≡ part_rows AuxExt h
    → (part : OptionalPart) → length (these_rows vs ms xs part) ≡ part_rows part h
these_counted h vs ms xs v m x = for_parts (λ part. length (these_rows vs ms xs part) ≡ part_rows part h) v m x

-- each part stands between those before it and those after it
abbrev parts_after : OptionalPart → List OptionalPart
parts_after Verification = MetadataExt ∷ AuxExt ∷ []
parts_after MetadataExt = AuxExt ∷ []
parts_after AuxExt = []

parts_are : (part : OptionalPart) → parts ≡ parts_before part ++ part ∷ parts_after part
parts_are Verification = refl
parts_are MetadataExt = refl
parts_are AuxExt = refl

module _ {X : Type 0} (rows : OptionalPart → List X) where
  pub before_part : OptionalPart → List X
  before_part part = flat_map rows (parts_before part)

  pub after_part : OptionalPart → List X
  after_part part = flat_map rows (parts_after part)

  pub rows_split : (part : OptionalPart) → flat_map rows parts ≡ before_part part ++ (rows part ++ after_part part)
  unfolding before_part after_part
  rows_split part = ap (flat_map rows) (parts_are part) ∙ flat_map-append rows (parts_before part) (part ∷ parts_after part)

  length-rows : (count : OptionalPart → ℕ) → ((part : OptionalPart) → length (rows part) ≡ count part) → (ps : List OptionalPart) → length (flat_map rows ps) ≡ sum_by count ps
  length-rows count each ps = length-flat_map rows ps ∙ (λ i. sum_by (λ part. each part i) ps)

  pub length-before_part : (h : FileDataSequenceHeader) → ((part : OptionalPart) → length (rows part) ≡ part_rows part h) → (part : OptionalPart)
      → length (before_part part) ≡ rows_before part h
  unfolding before_part
  length-before_part h each part = length-rows (λ p. part_rows p h) each (parts_before part)

  pub length-parts : (h : FileDataSequenceHeader) → ((part : OptionalPart) → length (rows part) ≡ part_rows part h) → length (flat_map rows parts) ≡ optional_rows_after h
  length-parts h each = length-rows (λ p. part_rows p h) each parts

-- the rows before a part and those of the part are within those of all parts
pub part_within : (h : FileDataSequenceHeader) (part : OptionalPart) → rows_before part h + part_rows part h ≤ optional_rows_after h
part_within h Verification = omega arith
part_within h MetadataExt = omega arith
part_within h AuxExt = omega arith

-- a part of the rows of all parts
pub part-of-parts : (rows : OptionalPart → List HashRow) (h : FileDataSequenceHeader) → ((part : OptionalPart) → length (rows part) ≡ part_rows part h)
    → (part : OptionalPart) → part_of part h (flat_map rows parts) ≡ rows part
part-of-parts rows h each part =
    front_is (part_rows part h) (drop (rows_before part h) (flat_map rows parts)) (rows part) (after_part rows part) (each part)
    (rest_is (rows_before part h) (flat_map rows parts) (before_part rows part) (rows part ++ after_part rows part) (length-before_part rows h each part) (rows_split rows part))

pub length-part_of : (h : FileDataSequenceHeader) (xs : List HashRow) → length xs ≡ optional_rows_after h → (part : OptionalPart) → length (part_of part h xs) ≡ part_rows part h
length-part_of h xs len part =
    length-take-le (part_rows part h) (drop (rows_before part h) xs) (omega (arith, part_within h part, len, length-drop (rows_before part h) xs))

-- the parts of rows, one after another, are the rows
piece_and_rest : {X : Type 0} (start count end : ℕ) (xs rest : List X) → start + count ≡ end → rest ≡ drop end xs → take count (drop start xs) ++ rest ≡ drop start xs
piece_and_rest start count end xs rest ends is =
    ap (λ ys. take count (drop start xs) ++ ys) (is ∙ ap (λ n. drop n xs) (sym ends) ∙ sym (drop-drop count start xs)) ∙ take-append-drop count (drop start xs)

pub parts-of-rows : (h : FileDataSequenceHeader) (xs : List HashRow) → length xs ≡ optional_rows_after h → flat_map (λ part. part_of part h xs) parts ≡ xs
parts-of-rows h xs len =
    let count : OptionalPart → ℕ = λ part. part_rows part h in
    let start : OptionalPart → ℕ = λ part. rows_before part h in
    piece_and_rest (start Verification) (count Verification) (start MetadataExt) xs _ (omega arith)
    (piece_and_rest (start MetadataExt) (count MetadataExt) (start AuxExt) xs _ (omega arith)
    (piece_and_rest (start AuxExt) (count AuxExt) (optional_rows_after h) xs [] (omega arith) (sym (drop_all (optional_rows_after h) xs (omega (arith, len))))))

-- what a part can hold: an optional row is one at most
abbrev pub PartHolds : OptionalPart → List HashRow → Type 0
PartHolds Verification rows = Unit {0}
PartHolds _ rows = length rows ≤ 1

first-of : {X : Type 0} (o : Option X) → slice_get (option_to_list o) 0 ≡ o
first-of None = refl
first-of (Some x) = refl

at_most_one : {X : Type 0} (xs : List X) → length xs ≤ 1 → option_to_list (slice_get xs 0) ≡ xs
at_most_one [] few = refl
at_most_one (x ∷ []) few = refl
at_most_one (x ∷ y ∷ xs) few = absurd (omega (arith, few))

one_row : {X : Type 0} (o : Option X) → length (option_to_list o) ≤ 1
one_row None = omega arith
one_row (Some x) = omega arith

pub holds_own_rows : (r : MDBFileInfo) (part : OptionalPart) → PartHolds part (rows_of part r)
holds_own_rows r Verification = tt
holds_own_rows r MetadataExt = one_row r.metadata_ext
holds_own_rows r AuxExt = one_row r.aux_ext

holds_as_many : (part : OptionalPart) (xs ys : List HashRow) → length ys ≤ length xs → PartHolds part xs → PartHolds part ys
holds_as_many Verification xs ys few holds = tt
holds_as_many MetadataExt xs ys few holds = omega arith
holds_as_many AuxExt xs ys few holds = omega arith

pub holds_announced : (h : FileDataSequenceHeader) (part : OptionalPart) (xs : List HashRow) → length xs ≡ part_rows part h → PartHolds part xs
holds_announced h Verification xs len = tt
holds_announced h MetadataExt xs len = grind (arith, len)
holds_announced h AuxExt xs len = grind (arith, len)

-- a record has the parts that it was made of, and it is what it has
pub rows_of-with_parts : (h : FileDataSequenceHeader) (ss : List FileDataSequenceEntry) (rows : OptionalPart → List HashRow) → ((part : OptionalPart) → PartHolds part (rows part))
    → (part : OptionalPart) → rows_of part (with_parts h ss rows) ≡ rows part
rows_of-with_parts h ss rows holds Verification = refl
rows_of-with_parts h ss rows holds MetadataExt = at_most_one (rows MetadataExt) (holds MetadataExt)
rows_of-with_parts h ss rows holds AuxExt = at_most_one (rows AuxExt) (holds AuxExt)

-- so has one of parts that have the rows that a header announces
pub rows_of-counted : (h : FileDataSequenceHeader) (ss : List FileDataSequenceEntry) (rows : OptionalPart → List HashRow) → ((part : OptionalPart) → length (rows part) ≡ part_rows part h)
    → (part : OptionalPart) → rows_of part (with_parts h ss rows) ≡ rows part
rows_of-counted h ss rows each part = rows_of-with_parts h ss rows (λ p. holds_announced h p (rows p) (each p)) part

pub with_parts-rows_of : (r : MDBFileInfo) → with_parts r.metadata r.segments (λ part. rows_of part r) ≡ r
with_parts-rows_of r = λ i. record { metadata = r.metadata; segments = r.segments; verification = r.verification; metadata_ext = first-of r.metadata_ext i; aux_ext = first-of r.aux_ext i }

-- records of equal headers, segments and parts are equal
pub same_record : (a b : MDBFileInfo) → a.metadata ≡ b.metadata → a.segments ≡ b.segments → ((part : OptionalPart) → rows_of part a ≡ rows_of part b) → a ≡ b
same_record a b header segments rows =
    sym (with_parts-rows_of a) ∙ (λ i. with_parts (header i) (segments i) (λ part. rows part i)) ∙ with_parts-rows_of b

pub optional_rows-with_parts : (h : FileDataSequenceHeader) (ss : List FileDataSequenceEntry) (rows : OptionalPart → List HashRow) → ((part : OptionalPart) → PartHolds part (rows part))
    → optional_rows (with_parts h ss rows) ≡ flat_map rows parts
optional_rows-with_parts h ss rows holds = λ i. flat_map (λ part. rows_of-with_parts h ss rows holds part i) parts

-- a fact of the rows of all parts is one of each part's
pub All-part : (P : HashRow → Type 0) (rows : OptionalPart → List HashRow) → All P (flat_map rows parts) → (part : OptionalPart) → All P (rows part)
All-part P rows all part =
    let split = All-same P (before_part rows part ++ (rows part ++ after_part rows part)) (flat_map rows parts) (sym (rows_split rows part)) all in
    let rest = All-same P (rows part ++ after_part rows part) (drop (length (before_part rows part)) (before_part rows part ++ (rows part ++ after_part rows part)))
    (sym (rest_is (length (before_part rows part)) _ (before_part rows part) _ refl refl)) (All-drop P (length (before_part rows part)) _ split) in
    All-same P (rows part) (take (length (rows part)) (rows part ++ after_part rows part)) (sym (front_is (length (rows part)) _ (rows part) (after_part rows part) refl refl))
    (All-take P (length (rows part)) _ rest)

pub All-parts : (P : HashRow → Type 0) (rows : OptionalPart → List HashRow) → ((part : OptionalPart) → All P (rows part)) → All P (flat_map rows parts)
All-parts P rows each = all parts
  where
    all : (ps : List OptionalPart) → All P (flat_map rows ps)
    all [] = λ k x below. absurd (omega arith)
    all (part ∷ ps) = All-append P (rows part) (flat_map rows ps) (each part) (all ps)

-- the rows of a record as reading returns it
pub rows_of-returned : (r : MDBFileInfo) (part : OptionalPart) → rows_of part (as_read r) ≡ map clear (rows_of part r)
rows_of-returned r part =
    rows_of-with_parts r.metadata r.segments (λ p. map clear (rows_of p r))
    (λ p. holds_as_many p (rows_of p r) (map clear (rows_of p r)) (omega (arith, length-map (rows_of p r) clear)) (holds_own_rows r p)) part

-- as many rows as the header announces
pub length-optional_rows : (r : MDBFileInfo) → FitsItsHeader r → length (optional_rows r) ≡ optional_rows_after r.metadata
length-optional_rows r whole = length-parts (λ part. rows_of part r) r.metadata whole.parts

-- the part of cleared rows
pub part_of-map : (part : OptionalPart) (h : FileDataSequenceHeader) (xs : List HashRow) → part_of part h (map clear xs) ≡ map clear (part_of part h xs)
part_of-map part h xs = ap (take (part_rows part h)) (drop-map clear (rows_before part h) xs) ∙ take-map clear (part_rows part h) (drop (rows_before part h) xs)

-- the rows of a record that keeps some of its parts
pub length-cond-le : (b : Bool) (xs : List HashRow) → length (if b then xs else []) ≤ length xs
length-cond-le true xs = omega arith
length-cond-le false xs = omega arith

pub rows_of-with_parts_if : (stays : OptionalPart → Bool) (h : FileDataSequenceHeader) (r : MDBFileInfo) (part : OptionalPart)
    → rows_of part (with_parts_if stays h r) ≡ (if stays part then rows_of part r else [])
rows_of-with_parts_if stays h r part =
    rows_of-with_parts h r.segments (λ p. if stays p then rows_of p r else [])
    (λ p. holds_as_many p (rows_of p r) (if stays p then rows_of p r else []) (length-cond-le (stays p) (rows_of p r)) (holds_own_rows r p)) part

-- an optional row as reading returns it
pub row-returned : (row : Option HashRow) → slice_get (map clear (option_to_list row)) 0 ≡ option_map clear row
row-returned None = refl
row-returned (Some row) = refl

-- an optional row that is one of two
pub either_row : (b : Bool) (x y : Option HashRow) → slice_get (if b then option_to_list x else option_to_list y) 0 ≡ (if b then x else y)
either_row true x y = first-of x
either_row false x y = first-of y

-- fewer rows of each part are fewer rows of all
pub fewer_rows : (f g : OptionalPart → List HashRow) → ((part : OptionalPart) → length (f part) ≤ length (g part)) → (ps : List OptionalPart)
    → length (flat_map f ps) ≤ length (flat_map g ps)
fewer_rows f g each [] = omega arith
fewer_rows f g each (part ∷ ps) =
    omega (arith, length-append (f part) (flat_map f ps), length-append (g part) (flat_map g ps), each part, fewer_rows f g each ps)

pub rows_of_both : (f g h : OptionalPart → List HashRow) → ((part : OptionalPart) → length (f part) ≤ length (g part) + length (h part)) → (ps : List OptionalPart)
    → length (flat_map f ps) ≤ length (flat_map g ps) + length (flat_map h ps)
rows_of_both f g h each [] = omega arith
rows_of_both f g h each (part ∷ ps) = omega (
  arith,
  length-append (f part) (flat_map f ps),
  length-append (g part) (flat_map g ps),
  length-append (h part) (flat_map h ps),
  each part,
  rows_of_both f g h each ps,
)

-- what the rows of all parts are mapped to is that of each part
pub rows_bytes : {X : Type 0} (f : HashRow → List X) (rows : OptionalPart → List HashRow) (ps : List OptionalPart)
    → flat_map f (flat_map rows ps) ≡ flat_map (λ part. flat_map f (rows part)) ps
rows_bytes f rows [] = refl
rows_bytes f rows (part ∷ ps) = flat_map-append f (rows part) (flat_map rows ps) ∙ ap (λ xs. flat_map f (rows part) ++ xs) (rows_bytes f rows ps)
