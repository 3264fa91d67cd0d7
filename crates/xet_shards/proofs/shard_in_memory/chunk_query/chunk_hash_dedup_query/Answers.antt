use Rattle.std.proofs.Common.{◌≡◌, ◌≤◌, length, Some, sym, ap, ◌∙◌, subst}
use Rattle.std.specs.Prelude.{option_map}
use Rattle.std.specs.FinMap.{get}
use Rattle.std.proofs.lemmas.Option.{none-some}
use Rattle.xet_base.specs.KeyedHash.{no_key}
use Rattle.xet_records.specs.declared.xorb_structs.MDBXorbInfo.{MDBXorbInfo}
use Rattle.xet_records.specs.XorbRecord.{IsXorb}
use Rattle.xet_shards.specs.ShardInMemory.XorbStore.{shown_location}
use Rattle.xet_shards.specs.ShardInMemory.ChunkQuery.{run_at}
use Rattle.xet_shards.proofs.ShardInMemory.ChunkQueries.{location_within, answer_kept, no_xorb_has}
use Rattle.xet_shards.proofs.shard_in_memory.chunk_query.chunk_hash_dedup_query.Goals.{In_ok-xorb}
use Rattle.xet_shards.proofs.shard_in_memory.chunk_query.chunk_hash_dedup_query.Goals as goal

-- what is found in the fields is in the lookup as contracts see it
in_shown_lookup : (c : In_ok-xorb) → get c.args.xorbs.now.locations c.in_ok-first.field-0.now ≡ Some (shown_location c.in_ok-xorb.field-0.now)
in_shown_lookup c = sym (c.lookup.ensures.locations c.in_ok-first.field-0.now) ∙ ap (option_map shown_location) (sym c.in_ok-xorb.ensures.value)

pub run_at-requires-clause-well_formed : goal.run_at-requires-clause-well_formed
run_at-requires-clause-well_formed c =
    subst IsXorb (sym c.as_ref.ensures) (c.lookup.ensures.well_formed _ _ (in_shown_lookup (goal.at.run_at-requires-clause-well_formed c).In_ok-xorb))

pub run_at-requires-clause-within : goal.run_at-requires-clause-within
run_at-requires-clause-within c =
    let found = c.in_ok-xorb.field-0.now in
    subst (λ (r : MDBXorbInfo). found.1 ≤ length r.chunks) (sym c.as_ref.ensures)
    (location_within c.args.xorbs.now.xorbs c.args.xorbs.now.locations _ (shown_location found) c.lookup.ensures.lookup (in_shown_lookup (goal.at.run_at-requires-clause-within c).In_ok-xorb))

pub returns-clause-answer : goal.returns-clause-answer
returns-clause-answer c =
    let qs = c.args.query_hashes.now in
    let found = c.in_ok-xorb.field-0.now in
    ap Some (c.run_at.ensures ∙ ap (λ (r : MDBXorbInfo). run_at no_key (r, found.1) qs) c.as_ref.ensures)
    ∙ answer_kept c.args.xorbs.now.locations qs c.in_ok-first.field-0.now (shown_location found) c.in_ok-first.ensures.value (in_shown_lookup (goal.at.returns-clause-answer c).In_ok-xorb)

pub returns-in_err-xorb-clause-none : goal.returns-in_err-xorb-clause-none
returns-in_err-xorb-clause-none c =
    let none = sym (c.lookup.ensures.locations c.in_ok-first.field-0.now) ∙ ap (option_map shown_location) (sym c.in_err-xorb.ensures.value) in (
      λ _. no_xorb_has c.args.xorbs.now.xorbs c.args.xorbs.now.locations c.args.query_hashes.now _ c.lookup.ensures.lookup c.in_ok-first.ensures.value none,
      λ _. c.from_residual-in_err-xorb.ensures,
    )

pub returns-clause-none : goal.returns-clause-none
returns-clause-none c = (
  λ none. absurd (none-some _ (sym none)),
  λ unknown. absurd (unknown _ _ (sym c.in_ok-first.ensures.value) (c.lookup.ensures.lookup.present _ _ (in_shown_lookup (goal.at.returns-clause-none c).In_ok-xorb))),
)
