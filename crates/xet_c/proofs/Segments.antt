-- Segments of a file and its verification rows.
use Rattle.std.proofs.Common.{◌≡◌, ℕ, ◌+◌, ◌<◌, List, [], ◌∷◌, ◌++◌, length, get_or, take, option_map, None, Some, refl, sym, ap, ◌∙◌, arith}
use Rattle.std.specs.Prelude.{slice_get}
use Rattle.std.proofs.lemmas.List.{take_more, length-take-le}
use Rattle.xet_core_structures.specs.declared.file_structs.FileDataSequenceEntry.{FileDataSequenceEntry}
use Rattle.xet_core_structures.specs.declared.file_structs.HashRow.{HashRow}
use Rattle.xet_c.specs.declared.segment.XetFileSegment.{XetFileSegment}
use Rattle.xet_c.specs.declared.segment.XetSegment.{XetSegment}
use Rattle.xet_c.specs.Arguments.{c_segment, c_segments, c_file_segment, words_or_zero}

c_segments-push : (ss : List FileDataSequenceEntry) (rows : List HashRow) (s : FileDataSequenceEntry)
    → c_segments (ss ++ s ∷ []) rows ≡ c_segments ss rows ++ c_file_segment s (option_map (λ row. row.hash) (slice_get rows (length ss))) ∷ []
c_segments-push [] [] s = refl
c_segments-push [] (row ∷ rows) s = refl
c_segments-push (t ∷ ss) [] s = ap (λ cs. c_file_segment t None ∷ cs) (c_segments-push ss [] s)
c_segments-push (t ∷ ss) (row ∷ rows) s = ap (λ cs. c_file_segment t (Some row.hash) ∷ cs) (c_segments-push ss rows s)

c_segments-more : (ss : List FileDataSequenceEntry) (rows : List HashRow) (i : ℕ) (d : FileDataSequenceEntry) → i < length ss
    → c_segments (take (i + 1) ss) rows ≡ c_segments (take i ss) rows ++ c_file_segment (get_or ss i d) (option_map (λ row. row.hash) (slice_get rows i)) ∷ []
c_segments-more ss rows i d below =
    ap (λ front. c_segments front rows) (take_more ss i d below)
    ∙ c_segments-push (take i ss) rows (get_or ss i d)
    ∙ ap (λ n. c_segments (take i ss) rows ++ c_file_segment (get_or ss i d) (option_map (λ row. row.hash) (slice_get rows n)) ∷ []) (length-take-le i ss (omega arith))

pub more_listed : (ss : List FileDataSequenceEntry) (rows : List HashRow) (i : ℕ) (d : FileDataSequenceEntry) (old new : List XetFileSegment) (one : XetSegment) (hash : List ℕ) → i < length ss
    → old ≡ c_segments (take i ss) rows → one ≡ c_segment (get_or ss i d) → hash ≡ words_or_zero (option_map (λ row. row.hash) (slice_get rows i))
    → new ≡ old ++ record { segment = one; verification = hash } ∷ [] → new ≡ c_segments (take (i + 1) ss) rows
more_listed ss rows i d old new one hash below listed one_is hash_is is =
    is ∙ (λ k. listed k ++ record { segment = one_is k; verification = hash_is k } ∷ []) ∙ sym (c_segments-more ss rows i d below)
