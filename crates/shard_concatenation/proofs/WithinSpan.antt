-- What a span of a whole has of bytes that are put one after another.
use Rattle.std.proofs.Common.{◌≡◌, ℕ, zero, suc, ◌+◌, ◌-◌, ◌^◌, ◌<◌, ◌≤◌, ◌⊎◌, inl, inr, Ok, Err, List, [], ◌∷◌, ◌++◌, length, take, drop, get_or, flat_map, refl, sym, ap, ◌∙◌, subst, append_assoc, append-nil, arith}
use Rattle.std.specs.Prelude.{min, slice_range, sum_by, replicate, IfOk}
use Rattle.std.specs.declared.result.Result.{Result}
use Rattle.std.proofs.Math.Seq.{take-length}
use Rattle.xet_base.specs.declared.error.CoreError.{CoreError}
use Rattle.shard_concatenation.specs.Spans.{FillsSpan, FillsSpanWith, spans_from}
use Rattle.std.proofs.lemmas.List.{length-append, length-take, length-drop, take_all, take_more, take-append-le, drop_all, take_min, drop_min, length-replicate}
use Rattle.std.proofs.lemmas.List.Concat.{length-flat_map}
use Rattle.std.proofs.lemmas.List.Folds.{drop_split}
use Rattle.std.proofs.lemmas.List.Sums.{sum_by-cons, sum_by_more, sum_by_more_le}
use Rattle.shard_concatenation.specs.declared.section_parts.SectionPart.{SectionPart}
use Rattle.shard_concatenation.specs.Steps.SpansSteps.{within_span, HoldsSpan}
use Rattle.xet_shards.proofs.ShardInMemory.Walks.{flat_map-push}

drop_append : (n : ℕ) (xs ys : List ℕ) → drop n (xs ++ ys) ≡ drop n xs ++ drop (n - length xs) ys
drop_append zero xs ys = let none : 0 - length xs ≡ 0 = omega arith in ap (λ k. xs ++ drop k ys) (sym none)
drop_append (suc n) [] ys = let all : suc n ≡ suc n - 0 = omega arith in ap (λ k. drop k ys) all
drop_append (suc n) (x ∷ xs) ys = let less : n - length xs ≡ suc n - length (x ∷ xs) = omega arith in drop_append n xs ys ∙ ap (λ k. drop n xs ++ drop k ys) less

take_append : (n : ℕ) (xs ys : List ℕ) → take n (xs ++ ys) ≡ take n xs ++ take (n - length xs) ys
take_append zero xs ys = let none : 0 - length xs ≡ 0 = omega arith in ap (λ k. take k ys) (sym none)
take_append (suc n) [] ys = let all : suc n ≡ suc n - 0 = omega arith in ap (λ k. take k ys) all
take_append (suc n) (x ∷ xs) ys = let less : n - length xs ≡ suc n - length (x ∷ xs) = omega arith in ap (λ l. x ∷ l) (take_append n xs ys) ∙ ap (λ k. x ∷ take n xs ++ take k ys) less

nothing_dropped : (n : ℕ) (none : List ℕ) → none ≡ [] → drop n none ≡ []
nothing_dropped n none is = drop_all n none (omega (arith, ap length is))

nothing_taken : (n : ℕ) (none : List ℕ) → none ≡ [] → take n none ≡ []
nothing_taken n none is = take_all n none (omega (arith, ap length is)) ∙ is

-- what a span has of more bytes
within_more : (from count at : ℕ) (before bytes : List ℕ) → at ≡ length before
    → within_span from count (before ++ bytes) ≡ within_span from count before ++ take (count - (at - from)) (drop (from - at) bytes)
within_more from count at before bytes at_is =
    ap (take count) (drop_append from before bytes) ∙ take_append count (drop from before) (drop (from - length before) bytes)
    ∙ ap (λ n. take count (drop from before) ++ take (count - n) (drop (from - length before) bytes)) (length-drop from before)
    ∙ ap (λ n. take count (drop from before) ++ take (count - (n - from)) (drop (from - n) bytes)) (sym at_is)

-- a slice holds nothing of no bytes
pub nothing_within : (from : ℕ) (slice : List ℕ) → HoldsSpan from [] slice
nothing_within from slice =
    let none : within_span from (length slice) [] ≡ [] = ap (take (length slice)) (nothing_dropped from [] refl) ∙ nothing_taken (length slice) [] refl in
    subst (λ v. take (length v) slice ≡ v) (sym none) refl

-- bytes of which the span has none change nothing
none_within : (from at : ℕ) (before bytes slice : List ℕ) → at ≡ length before → take (length slice - (at - from)) (drop (from - at) bytes) ≡ [] → HoldsSpan from before slice → HoldsSpan from (before ++ bytes) slice
none_within from at before bytes slice at_is none holds =
    let all : within_span from (length slice) (before ++ bytes) ≡ within_span from (length slice) before =
    within_more from (length slice) at before bytes at_is ∙ ap (λ l. within_span from (length slice) before ++ l) none ∙ append-nil (within_span from (length slice) before) in
    subst (λ v. take (length v) slice ≡ v) (sym all) holds

pub more_put : (from at place skip count end : ℕ) (before bytes rest part old new : List ℕ) → at ≡ length before → place ≡ at - from → skip ≡ min (from - at) (length bytes) → rest ≡ drop skip bytes → count ≡ min (length old - place) (length rest) → 0 < count
    → part ≡ take count rest → end ≡ place + length part → take end new ≡ take place old ++ part → length new ≡ length old → HoldsSpan from before old → HoldsSpan from (before ++ bytes) new
more_put from at place skip count end before bytes rest part old new at_is place_is skip_is rest_is count_is some part_is end_is front same holds =
    let w = within_span from (length old) before in
    let room = length old - place in
    let rest_all : rest ≡ drop (from - at) bytes = rest_is ∙ ap (λ k. drop k bytes) skip_is ∙ drop_min (from - at) bytes in
    let part_all : part ≡ take room (drop (from - at) bytes) = part_is ∙ ap (λ k. take k rest) count_is ∙ take_min room rest ∙ ap (take room) rest_all in
    let all : within_span from (length old) (before ++ bytes) ≡ w ++ part =
    within_more from (length old) at before bytes at_is ∙ ap (λ k. w ++ take (length old - k) (drop (from - at) bytes)) (sym place_is) ∙ ap (λ l. w ++ l) (sym part_all) in
    let w_length : length w ≡ place = omega (arith, length-take (length old) (drop from before), length-drop from before, at_is, place_is, some, count_is) in
    let long : length (w ++ part) ≡ end = length-append w part ∙ omega (arith, w_length, end_is) in
    let put : take (length (w ++ part)) new ≡ w ++ part = ap (λ k. take k new) long ∙ front ∙ ap (λ l. l ++ part) (ap (λ k. take k old) (sym w_length) ∙ holds) in
    subst (λ n. take (length (within_span from n (before ++ bytes))) new ≡ within_span from n (before ++ bytes)) (sym same) (subst (λ v. take (length v) new ≡ v) (sym all) put)

pub rest_is : (skip : ℕ) (bytes : List ℕ) → take (length bytes - skip) (drop skip bytes) ≡ drop skip bytes
rest_is skip bytes = take_all (length bytes - skip) (drop skip bytes) (omega (arith, length-drop skip bytes))

-- bytes that are before the span, or none
pub before_span : (from at : ℕ) (before bytes slice : List ℕ) → at ≡ length before → (bytes ≡ []) ⊎ (at + length bytes ≤ from) → HoldsSpan from before slice → HoldsSpan from (before ++ bytes) slice
before_span from at before bytes slice at_is (inl none) holds = subst (λ bs. HoldsSpan from bs slice) (sym (ap (λ bs. before ++ bs) none ∙ append-nil before)) holds
before_span from at before bytes slice at_is (inr early) holds =
    let gone : drop (from - at) bytes ≡ [] = drop_all (from - at) bytes (omega (arith, early)) in
    none_within from at before bytes slice at_is (ap (take (length slice - (at - from))) gone ∙ nothing_taken (length slice - (at - from)) [] refl) holds

-- bytes that are behind the span, or none
pub behind_span : (from : ℕ) (before bytes slice : List ℕ) → (bytes ≡ []) ⊎ (from + length slice ≤ length before) → HoldsSpan from before slice → HoldsSpan from (before ++ bytes) slice
behind_span from before bytes slice (inl none) holds = subst (λ bs. HoldsSpan from bs slice) (sym (ap (λ bs. before ++ bs) none ∙ append-nil before)) holds
behind_span from before bytes slice (inr late) holds =
    let full : length slice - (length before - from) ≡ 0 = omega (arith, late) in
    none_within from (length before) before bytes slice refl (ap (λ n. take n (drop (from - length before) bytes)) full) holds

pub back_out_at : (bytes : List ℕ) (from count size end at : ℕ) → size ≡ count → end ≡ at → (bytes ≡ []) ⊎ (from + count ≤ end) → (bytes ≡ []) ⊎ (from + size ≤ at)
back_out_at bytes from count size end at size_is end_is (inl none) = inl none
back_out_at bytes from count size end at size_is end_is (inr late) = inr (omega (arith, size_is, end_is, late))

-- a slice that holds the span of all bytes is the span
pub span_held : (from count : ℕ) (bytes slice : List ℕ) → length slice ≡ count → from + count ≤ length bytes → HoldsSpan from bytes slice → slice ≡ slice_range bytes from (from + count)
span_held from count bytes slice count_is within holds =
    let w = within_span from (length slice) bytes in
    let long : length w ≡ length slice = omega (arith, length-take (length slice) (drop from bytes), length-drop from bytes, count_is, within) in
    let size : length slice ≡ from + count - from = omega (arith, count_is) in
    sym (take_all (length w) slice (omega (arith, long))) ∙ holds ∙ ap (λ n. take n (drop from bytes)) size

-- the rows of one section more, and of all
pub rows_within : (sections : List SectionPart) (i : ℕ) (d : SectionPart) (from at end : ℕ) (before now new : List ℕ) → i < length sections → at ≡ length before → end ≡ at + sum_by (λ (s : SectionPart). length s.rows.now) (take i sections)
    → ((bytes : List ℕ) → end ≡ length bytes → HoldsSpan from bytes now → HoldsSpan from (bytes ++ (get_or sections i d).rows.now) new)
    → HoldsSpan from (before ++ flat_map (λ (s : SectionPart). s.rows.now) (take i sections)) now → HoldsSpan from (before ++ flat_map (λ (s : SectionPart). s.rows.now) (take (i + 1) sections)) new
rows_within sections i d from at end before now new below at_is end_is put holds =
    let done = flat_map (λ (s : SectionPart). s.rows.now) (take i sections) in
    let row = (get_or sections i d).rows.now in
    let more : flat_map (λ (s : SectionPart). s.rows.now) (take (i + 1) sections) ≡ done ++ row = ap (flat_map (λ (s : SectionPart). s.rows.now)) (take_more sections i d below) ∙ flat_map-push (λ (s : SectionPart). s.rows.now) (take i sections) (get_or sections i d) in
    let long : end ≡ length (before ++ done) = omega (arith, length-append before done, length-flat_map (λ (s : SectionPart). s.rows.now) (take i sections), at_is, end_is) in
    subst (λ bs. HoldsSpan from bs new) (append_assoc before done row ∙ ap (λ l. before ++ l) (sym more)) (put (before ++ done) long holds)

-- any bytes are a span of others
pub any_span : (from size : ℕ) (old new : List ℕ) → length new ≡ length old → from + length old ≤ size → (bytes : List ℕ) × FillsSpan bytes from old new size
any_span from size old new same within =
    let rest = new ++ replicate (size - (from + length old)) 0 in
    let gone : drop from (replicate from 0) ≡ [] = drop_all from (replicate from 0) (omega (arith, length-replicate {A = ℕ} from 0)) in
    let none : from - length (replicate from 0) ≡ 0 = omega (arith, length-replicate {A = ℕ} from 0) in
    let behind : drop from (replicate from 0 ++ rest) ≡ rest = drop_append from (replicate from 0) rest ∙ (λ i. gone i ++ drop (none i) rest) in
    let count : from + length old - from ≡ length new = omega (arith, same) in
    let front : take (from + length old - from) rest ≡ new = ap (λ n. take n rest) count ∙ take-append-le (length new) new (replicate (size - (from + length old)) 0) (omega arith) ∙ take-length new in
    let long : size ≡ length (replicate from 0 ++ rest) =
    omega (arith, same, within, length-append (replicate from 0) rest, length-append new (replicate (size - (from + length old)) 0), length-replicate {A = ℕ} from 0, length-replicate {A = ℕ} (size - (from + length old)) 0) in
    (replicate from 0 ++ rest, (long, inl (within, sym (ap (take (from + length old - from)) behind ∙ front))))

-- a span of bytes that are known was put
pub span_known : (IsMade : List ℕ → Type 0) (IsCause : CoreError → Type 0) (bytes : List ℕ) (from : ℕ) (old new : List ℕ) (r : Result ℕ CoreError) → IfOk r (λ _. IsMade bytes) → IfOk r (FillsSpan bytes from old new) → FillsSpanWith (λ _. Unit {0}) IsCause from old new r
    → FillsSpanWith IsMade IsCause from old new r
span_known IsMade IsCause bytes from old new (Ok size) made fills any = (bytes, made, fills)
span_known IsMade IsCause bytes from old new (Err e) made fills any = any

-- spans that follow one another are what stands from the first of them on
spans_join : (from : ℕ) (sizes bytes : List ℕ) → from + sum_by (λ size. size) sizes ≡ length bytes → flat_map (λ span. span) (spans_from from sizes bytes) ≡ drop from bytes
spans_join from [] bytes sum = sym (drop_all from bytes (omega (arith, sum)))
spans_join from (size ∷ sizes) bytes sum =
    ap (λ l. slice_range bytes from (from + size) ++ l) (spans_join (from + size) sizes bytes (omega (arith, sum, sum_by-cons (λ (n : ℕ). n) size sizes))) ∙ sym (drop_split bytes from (from + size) (omega arith))

pub spans_whole : (sizes bytes : List ℕ) → sum_by (λ size. size) sizes ≡ length bytes → flat_map (λ span. span) (spans_from 0 sizes bytes) ≡ bytes
spans_whole sizes bytes sum = spans_join 0 sizes bytes (omega (arith, sum))

-- a sum that goes on keeps within the whole, and fits
pub room_below : (size : SectionPart → ℕ) (sections : List SectionPart) (i at end : ℕ) (d : SectionPart) → i < length sections → end ≡ at + sum_by size (take i sections) → at + sum_by size sections < 2 ^ 63 → end + size (get_or sections i d) < 2 ^ 64
room_below size sections i at end d below end_is small = omega (arith, sum_by_more_le size sections i d below, end_is, small)

pub end_more : (size : SectionPart → ℕ) (sections : List SectionPart) (i at end : ℕ) (d : SectionPart) → i < length sections → end ≡ at + sum_by size (take i sections) → end + size (get_or sections i d) ≡ at + sum_by size (take (i + 1) sections)
end_more size sections i at end d below end_is = omega (arith, sum_by_more size sections i d below, end_is)
