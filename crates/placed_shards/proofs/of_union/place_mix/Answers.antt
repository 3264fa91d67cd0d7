use Rattle.std.proofs.Common.{◌≡◌, ◌≤◌, sym, ap, ◌∙◌, arith}
use Rattle.xet_records.specs.FileRecord.{rows_after}
use Rattle.xet_records.specs.Merging.{mixed_header}
use Rattle.placed_shards.proofs.Mixes.{no_mix, large_mix, mix, mix_stored, makes_mix}
use Rattle.placed_shards.proofs.of_union.place_mix.Goals as goal
use Rattle.placed_shards.proofs.of_union.place_mix.Goals.{then-one-other-via-then-one-other, then-one-other-via-else-one-other+then-rows_after-gt-ROW_LIMIT}

pub returns-then-one-other : goal.returns-then-one-other
returns-then-one-other c =
    let r = c.args.first.now in
    let s = c.args.second.now in
    let header : c.mix_with-header.result ≡ mixed_header r.metadata s.metadata = c.mix_with-header.ensures ∙ (λ i. mixed_header (c.header-one.ensures i) (c.header-other.ensures i)) in
    elim c.then-one-other.branch [
      | then-one-other-via-then-one-other w ↦ no_mix r s c.requires.hash c.requires.lacks c.requires.wants
          (λ same. w.if-one-other.true (ap (λ h. h.num_entries) c.header-one.ensures ∙ same ∙ sym (ap (λ h. h.num_entries) c.header-other.ensures)))
      | then-one-other-via-else-one-other+then-rows_after-gt-ROW_LIMIT w ↦ large_mix r s c.requires.hash c.requires.lacks c.requires.wants c.is_stored.ensures.stored c.is_stored-2.ensures.stored
          (sym (ap (λ h. h.num_entries) c.header-one.ensures) ∙ w.if-one-other.false ∙ ap (λ h. h.num_entries) c.header-other.ensures)
          (omega (arith, w.if-rows_after-gt-ROW_LIMIT.true, w.rows_after.ensures.rows, ap rows_after header))
    ]

pub of_bytes-requires : goal.of_bytes-requires
of_bytes-requires c =
    let r = c.args.first.now in
    let s = c.args.second.now in
    let counts = sym (ap (λ h. h.num_entries) c.header-one.ensures) ∙ c.if-one-other.false ∙ ap (λ h. h.num_entries) c.header-other.ensures in
    let header : c.mix_with-header.result ≡ mixed_header r.metadata s.metadata = c.mix_with-header.ensures ∙ (λ i. mixed_header (c.header-one.ensures i) (c.header-other.ensures i)) in
    let few : rows_after (mixed_header r.metadata s.metadata) ≤ 4294967295 = omega (arith, c.if-rows_after-gt-ROW_LIMIT.false, c.rows_after.ensures.rows, ap rows_after header) in (
      mix r s c.requires.hash c.requires.lacks c.requires.wants c.is_stored.ensures.stored c.is_stored-2.ensures.stored counts,
      mix_stored r s c.requires.hash c.requires.lacks c.requires.wants c.is_stored.ensures.stored c.is_stored-2.ensures.stored counts,
      few,
      c.in_ok-placed.ensures ∙ c.as_slice.ensures.value ∙ c.in_ok-bytes.ensures,
    )

pub returns : goal.returns
returns c =
    let r = c.args.first.now in
    let s = c.args.second.now in
    let counts = sym (ap (λ h. h.num_entries) c.header-one.ensures) ∙ c.if-one-other.false ∙ ap (λ h. h.num_entries) c.header-other.ensures in
    makes_mix r s c.requires.hash c.requires.lacks c.requires.wants c.is_stored.ensures.stored c.is_stored-2.ensures.stored counts c.of_bytes.result
    (c.of_bytes.ensures _ (mix_stored r s c.requires.hash c.requires.lacks c.requires.wants c.is_stored.ensures.stored c.is_stored-2.ensures.stored counts)
    (c.in_ok-placed.ensures ∙ c.as_slice.ensures.value ∙ c.in_ok-bytes.ensures))
