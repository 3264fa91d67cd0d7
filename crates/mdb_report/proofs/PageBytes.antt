-- The bytes of a page, as they stand among those of all.
use Rattle.std.proofs.Common.{◌≡◌, ℕ, ◌+◌, ◌-◌, ◌*◌, ◌<◌, ◌≤◌, List, [], ◌∷◌, ◌++◌, map, length, take, drop, get_or, zero, suc, sym, ap, ◌∙◌, arith}
use Rattle.std.specs.List.{concat, enumerate_from}
use Rattle.std.specs.Prelude.{Option, None, Some}
use Rattle.std.proofs.lemmas.List.{drop-append-le, take-append-le, length-drop, length-append, length-take-le, drop-take, take-take}
use Rattle.std.proofs.lemmas.List.FromFn.{length-map-range_with_len, length-enumerate_from, get_or-enumerate_from}
use Rattle.std.proofs.Math.Seq.{drop-append-add}
use Rattle.mdb_report.specs.declared.pages.Page.{Page}
use Rattle.mdb_report.specs.declared.pages.Pages.{Pages}
use Rattle.mdb_report.specs.Pages.{page_bytes, bytes_in}

length_of_all : {A : Type 0} (P : ℕ) (f : A → List ℕ) → ((a : A) → length (f a) ≡ P) → (xs : List A) → length (concat (map f xs)) ≡ length xs * P
length_of_all P f len [] = omega arith
length_of_all P f len (x ∷ xs) =
    let rest = length_of_all P f len xs in
    let both = length-append (f x) (concat (map f xs)) in
    omega (arith, rest, both, len x)

in_first : (P r n : ℕ) (xs ys : List ℕ) → length xs ≡ P → r + n ≤ P → take n (drop r (xs ++ ys)) ≡ take n (drop r xs)
in_first P r n xs ys long fits =
    ap (take n) (drop-append-le r xs ys (omega (arith, long, fits)))
    ∙ take-append-le n (drop r xs) ys (omega (arith, long, fits, length-drop r xs))

past_first : (P m : ℕ) (xs ys : List ℕ) → length xs ≡ P → drop (P + m) (xs ++ ys) ≡ drop m ys
past_first P m xs ys long = ap (λ q. drop (q + m) (xs ++ ys)) (sym long) ∙ drop-append-add xs ys m

in_page : {A : Type 0} (P : ℕ) (f : A → List ℕ) → ((a : A) → length (f a) ≡ P) → (d : A) (xs : List A) (k r n : ℕ) → k < length xs → r + n ≤ P
    → take n (drop (k * P + r) (concat (map f xs))) ≡ take n (drop r (f (get_or xs k d)))
in_page P f len d [] k r n below fits = absurd (omega (arith, below))
in_page P f len d (x ∷ xs) zero r n below fits =
    let start : 0 * P + r ≡ r = omega arith in
    ap (λ m. take n (drop m (f x ++ concat (map f xs)))) start
    ∙ in_first P r n (f x) (concat (map f xs)) (len x) fits
in_page P f len d (x ∷ xs) (suc k) r n below fits =
    let split : suc k * P + r ≡ P + (k * P + r) = omega arith in
    ap (λ m. take n (drop m (f x ++ concat (map f xs)))) split
    ∙ ap (take n) (past_first P (k * P + r) (f x) (concat (map f xs)) (len x))
    ∙ in_page P f len d xs k r n (omega (arith, below)) fits

-- a page has its length, whether it is in memory or not
length_at : (unread : ℕ → ℕ) (number : ℕ) (p : Option Page) → length (page_bytes unread number p) ≡ 16384
length_at unread number None = length-map-range_with_len unread (number * 16384) 16384
length_at unread number (Some page) = page.whole

page_length : (unread : ℕ → ℕ) (p : ℕ × Option Page) → length (page_bytes unread p.0 p.1) ≡ 16384
page_length unread p = length_at unread p.0 p.1

-- all bytes are as many as there are
pub size_of : (unread : ℕ → ℕ) (ps : Pages) → length (bytes_in unread ps) ≡ ps.size
size_of unread ps =
    let numbered = enumerate_from 0 ps.pages.items in
    let f : ℕ × Option Page → List ℕ = λ p. page_bytes unread p.0 p.1 in
    length-take-le ps.size (concat (map f numbered))
    (omega (
      arith,
      ps.covers,
      length-enumerate_from 0 ps.pages.items,
      length_of_all 16384 f (page_length unread) numbered,
    ))

before_end : (size at n : ℕ) (xs : List ℕ) → at + n ≤ size → take n (drop at (take size xs)) ≡ take n (drop at xs)
before_end size at n xs fits =
    let split : size ≡ at + (size - at) = omega (arith, fits) in
    ap (λ m. take n (drop at (take m xs))) split
    ∙ ap (take n) (drop-take at (size - at) xs)
    ∙ take-take n (size - at) (drop at xs) (omega (arith, fits))

-- bytes of a page that is in memory are those of the whole
pub bytes_of_page : (unread : ℕ → ℕ) (ps : Pages) (page : Page) (at number from n : ℕ) → number < length ps.pages.items
    → Some page ≡ get_or ps.pages.items number (Some page)
    → at ≡ number * 16384 + from → from + n ≤ 16384 → at + n ≤ ps.size
    → take n (drop at (bytes_in unread ps)) ≡ take n (drop from page.bytes.items)
bytes_of_page unread ps page at number from n below is at_is fits within =
    let numbered = enumerate_from 0 ps.pages.items in
    let f : ℕ × Option Page → List ℕ = λ p. page_bytes unread p.0 p.1 in
    let here : ℕ × Option Page = (number, Some page) in
    let counted : number < length numbered = omega (arith, below, length-enumerate_from 0 ps.pages.items) in
    before_end ps.size at n (concat (map f numbered)) within
    ∙ ap (λ m. take n (drop m (concat (map f numbered)))) at_is
    ∙ in_page 16384 f (page_length unread) here numbered number from n counted fits
    ∙ ap (λ p. take n (drop from (f p))) (get_or-enumerate_from 0 ps.pages.items number here below)
    ∙ ap (λ p. take n (drop from (page_bytes unread (0 + number) p))) (sym is)
