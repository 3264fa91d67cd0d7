-- Bytes that are put into a slice, one part after another.
use Rattle.std.proofs.Common.{◌≡◌, ℕ, ◌+◌, ◌<◌, ◌≤◌, Ok, Err, List, ◌++◌, length, take, get_or, flat_map, sym, ap, ◌∙◌, subst, append_assoc, arith}
use Rattle.std.specs.Prelude.{IfOk, sum_by}
use Rattle.std.specs.declared.result.Result.{Result}
use Rattle.xet_base.specs.declared.error.CoreError.{CoreError}
use Rattle.placed_shards.specs.Filling.{Fills, FillsWith}
use Rattle.std.proofs.lemmas.List.{length-take-le, take_more, take_all}
use Rattle.std.proofs.Math.Seq.{take-length}
use Rattle.std.proofs.lemmas.List.Sums.{sum_by_more, sum_by_more_le}
use Rattle.shard_concatenation.specs.declared.section_parts.SectionPart.{SectionPart}
use Rattle.shard_concatenation.specs.Steps.PartFilling.{Puts}
use Rattle.xet_shards.proofs.ShardInMemory.Walks.{flat_map-push}

pub puts_then : (old mid new : List ℕ) (at m end : ℕ) (xs ys : List ℕ) → Puts old mid at m xs → Puts mid new m end ys → Puts old new at end (xs ++ ys)
puts_then old mid new at m end xs ys first second = second ∙ ap (λ l. l ++ ys) first ∙ append_assoc (take at old) xs ys

-- where the pieces of all sections have room, so has the next one
pub room_for : (size : SectionPart → ℕ) (sections : List SectionPart) (i at end room : ℕ) (d : SectionPart) → i < length sections → end ≤ at + sum_by size (take i sections) → at + sum_by size sections ≤ room
    → end + size (get_or sections i d) ≤ room
room_for size sections i at end room d below end_is fits = omega (arith, sum_by_more_le size sections i d below, end_is, fits)

pub end_after : (size : SectionPart → ℕ) (sections : List SectionPart) (i at end later : ℕ) (d : SectionPart) → i < length sections → end ≤ at + sum_by size (take i sections) → later ≤ end + size (get_or sections i d)
    → later ≤ at + sum_by size (take (i + 1) sections)
end_after size sections i at end later d below end_is later_is = omega (arith, sum_by_more size sections i d below, end_is, later_is)

-- the rows of some sections were put
pub record HasPutRows (sections : List SectionPart) (i : ℕ) (old now : List ℕ) (at end : ℕ) : Type 0 where
  pub end_is : end ≡ at + sum_by (λ (s : SectionPart). length s.rows.now) (take i sections)
  pub puts : Puts old now at end (flat_map (λ (s : SectionPart). s.rows.now) (take i sections))

pub rows_put : (sections : List SectionPart) (i : ℕ) (d : SectionPart) (old now new : List ℕ) (at end later : ℕ) → i < length sections → HasPutRows sections i old now at end → later ≡ end + length (get_or sections i d).rows.now
    → Puts now new end later (get_or sections i d).rows.now → HasPutRows sections (i + 1) old new at later
rows_put sections i d old now new at end later below before later_is put = record {
  end_is = later_is ∙ omega (arith, before.end_is, sum_by_more (λ (s : SectionPart). length s.rows.now) sections i d below);
  puts = subst (Puts old new at later) (sym (ap (flat_map (λ (s : SectionPart). s.rows.now)) (take_more sections i d below) ∙ flat_map-push (λ (s : SectionPart). s.rows.now) (take i sections) (get_or sections i d)))
      (puts_then old now new at end later _ _ before.puts put);
}

pub all_rows_put : (sections : List SectionPart) (i : ℕ) (old now : List ℕ) (at end : ℕ) → length sections ≤ i → HasPutRows sections i old now at end
    → (end ≡ at + sum_by (λ (s : SectionPart). length s.rows.now) sections) × Puts old now at end (flat_map (λ (s : SectionPart). s.rows.now) sections)
all_rows_put sections i old now at end past before = (
  before.end_is ∙ ap (λ ss. at + sum_by (λ (s : SectionPart). length s.rows.now) ss) (take_all i sections past),
  subst (λ ss. Puts old now at end (flat_map (λ (s : SectionPart). s.rows.now) ss)) (take_all i sections past) before.puts,
)

-- bytes that were put into a slice of their size
pub whole_put : (new bytes : List ℕ) (end : ℕ) → take end new ≡ bytes → length new ≡ length bytes → end ≤ length new → new ≡ bytes
whole_put new bytes end front size within =
    let end_is : length new ≡ end = size ∙ ap length (sym front) ∙ length-take-le end new within in
    sym (take-length new) ∙ ap (λ n. take n new) end_is ∙ front

-- bytes that are known were made
pub fills_known : (IsMade : List ℕ → Type 0) (IsCause : CoreError → Type 0) (bytes old new : List ℕ) (r : Result ℕ CoreError) → IfOk r (λ _. IsMade bytes) → IfOk r (Fills bytes old new) → FillsWith (λ _. Unit {0}) IsCause old new r
    → FillsWith IsMade IsCause old new r
fills_known IsMade IsCause bytes old new (Ok size) made fills any = (bytes, made, fills)
fills_known IsMade IsCause bytes old new (Err e) made fills any = any
