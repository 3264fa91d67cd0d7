use Rattle.std.proofs.Common.{◌≡◌, ◌∷◌, ◌++◌, [], IfSome, Some, sym, subst, rules}
use Rattle.std.specs.declared.cmp.Ordering.TheVariants.{Less}
use Rattle.xet_base.specs.Hash.{hash_cmp}
use Rattle.xet_records.specs.RecordKind.{in_version}
use Rattle.placed_shards.specs.TakenRecords.{TakesRecord}
use Rattle.placed_shards.proofs.Ascending.{AscendsTo, ascends_on, descends, nothing_before}
use Rattle.placed_shards.proofs.Sections.{none_taken, taken_more}
use Rattle.placed_shards.proofs.section.read_ascending.Goals as goal

pub loop-records-init : goal.loop-records-init
loop-records-init g c = rw c.new-records.ensures.items (none_taken (in_version g.P.PlacedRecord.kind c.args.version) c.args.bytes.now, nothing_before g.P.PlacedRecord.kind)

pub returns-then-not-is_after : goal.returns-then-not-is_after
returns-then-not-is_after g c =
    let K = g.P.PlacedRecord.kind in
    let K' = in_version K c.args.version in
    let found = c.loop-records.records.items in
    let rest = c.loop-records.rest.now in
    let next = c.in-Some.next in
    let taken : TakesRecord K' rest c.loop-records.rows_left c.next_record.new.rows_left next.record next.rest.now = rw c.in-Some.is at c.in_ok-next.ensures in
    let not_after : ¬ IfSome c.loop-records.before (λ b. hash_cmp b c.hash-hash.result ≡ Less) = search rules in
    descends K c.args.version c.args.bytes.now found rest c.loop-records.rows_left c.loop-records.invariant.0 c.loop-records.before c.loop-records.invariant.1 _ next.record next.rest.now c.next_record.new.rows_left tt taken
    (subst (λ k. ¬ IfSome c.loop-records.before (λ b. hash_cmp b k ≡ Less)) c.hash-hash.ensures not_after)

pub loop-records-preserved : goal.loop-records-preserved
loop-records-preserved g c =
    let K = g.P.PlacedRecord.kind in
    let K' = in_version K c.args.version in
    let found = c.loop-records.records.items in
    let rest = c.loop-records.rest.now in
    let next = c.in-Some.next in
    let taken : TakesRecord K' rest c.loop-records.rows_left c.next_record.new.rows_left next.record next.rest.now = rw c.in-Some.is at c.in_ok-next.ensures in
    let after : IfSome c.loop-records.before (λ b. hash_cmp b c.hash-hash.result ≡ Less) = search rules in
    rw c.in_ok-push.ensures.items (
      taken_more K' c.args.bytes.now found rest c.loop-records.rows_left c.loop-records.invariant.0 next.record next.rest.now c.next_record.new.rows_left taken,
      subst (λ k. AscendsTo K (found ++ next.record ∷ []) (Some k)) (sym c.hash-hash.ensures)
          (ascends_on K found c.loop-records.before next.record c.loop-records.invariant.1 (subst (λ k. IfSome c.loop-records.before (λ b. hash_cmp b k ≡ Less)) c.hash-hash.ensures after)),
    )
