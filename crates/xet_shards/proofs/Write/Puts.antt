-- Bytes that are put into a slice, one part after another.
use Rattle.std.proofs.Common.{◌≡◌, ℕ, ◌+◌, ◌<◌, List, [], ◌++◌, length, take, drop, flat_map, get_or, sym, ap, ◌∙◌, subst, arith, append_assoc}
use Rattle.std.proofs.lemmas.List.{length-append, drop-drop, flat_map_more, take_more}
use Rattle.xet_shards.specs.Write.Puts.{Puts}

-- bytes that are equal to others were put
pub puts_as : (old new : List ℕ) (at end : ℕ) (bytes others : List ℕ) → bytes ≡ others → end ≡ at + length bytes → take end new ≡ take at old ++ bytes → drop end new ≡ drop end old → Puts old new at end others
puts_as old new at end bytes others are end_is front rest = subst (Puts old new at end) are (record { end_is = end_is; front = front; rest = rest })

pub puts_then : (old mid new : List ℕ) (at m end : ℕ) (xs ys : List ℕ) → Puts old mid at m xs → Puts mid new m end ys → Puts old new at end (xs ++ ys)
puts_then old mid new at m end xs ys first second = record {
  end_is = omega (arith, first.end_is, second.end_is, length-append xs ys);
  front = second.front ∙ ap (λ l. l ++ ys) first.front ∙ append_assoc (take at old) xs ys;
  rest = second.rest ∙ ap (λ n. drop n mid) second.end_is ∙ sym (drop-drop (length ys) m mid) ∙ ap (drop (length ys)) first.rest ∙ drop-drop (length ys) m old ∙ ap (λ n. drop n old) (sym second.end_is);
}

-- the bytes of one element more were put
pub puts_more : {X : Type 0} (bytes_of : X → List ℕ) (xs : List X) (i : ℕ) (d : X) → i < length xs → (old mid new : List ℕ) (at m end : ℕ) → Puts old mid at m (flat_map bytes_of (take i xs))
    → Puts mid new m end (bytes_of (get_or xs i d)) → Puts old new at end (flat_map bytes_of (take (i + 1) xs))
puts_more bytes_of xs i d within old mid new at m end before next =
    let element = get_or xs i d in
    let more : flat_map bytes_of (take i xs) ++ bytes_of element ≡ flat_map bytes_of (take (i + 1) xs) = flat_map_more bytes_of [] (take i xs) element ∙ ap (flat_map bytes_of) (sym (take_more xs i d within)) in
    subst (Puts old new at end) more (puts_then old mid new at m end (flat_map bytes_of (take i xs)) (bytes_of element) before next)
