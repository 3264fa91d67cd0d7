use Rattle.std.proofs.Common.{◌≡◌, ◌<◌, ◌∙◌, ℕ, List, Bor, length, All, sym, ap, subst, arith}
use Rattle.std.proofs.lemmas.Bool.Decides.{nat_tests}
use Rattle.std.proofs.lemmas.Result.{err_from_is_err_and}
use Rattle.std.proofs.lemmas.List.{length-map}
use Rattle.xet_records.specs.FileRecord.{file_records}
use Rattle.xet_records.specs.XorbRecord.{xorb_records}
use Rattle.shard_concatenation.specs.Concatenation.{bytes_of_part, IsPartUnder}
use Rattle.shard_concatenation.specs.Steps.SectionsSteps.{HoldSections}
use Rattle.shard_concatenation.proofs.Concatenation.{first_key, in_order, files_not_refused, xorbs_not_refused}
use Rattle.shard_concatenation.proofs.GatheredParts.{part_splits}
use Rattle.shard_concatenation.proofs.ordered_parts.ordered_parts.Goals as goal

pub returns-clause-gathered : goal.returns-clause-gathered
returns-clause-gathered c = λ key parts fit are.
    let some : 0 < length c.args.shards.now = grind (arith, nat_tests, c.is_empty.ensures, c.if-is_empty.ensures, c.if-is_empty.false) in
    let same : c.in_ok-key.field-0.footer.chunk_hash_hmac_key ≡ key = first_key key parts c.args.shards.now _ c.in_ok-key.field-0 fit are some c.in_ok-key.ensures.split in
    (c.in_ok-gathered.ensures.key ∙ same, c.in_ok-gathered.ensures.gathered parts (subst (λ k. All (IsPartUnder k) parts) (sym same) fit) are)

pub returns-clause-version : goal.returns-clause-version
returns-clause-version c = λ key parts fit are.
    let some : 0 < length c.args.shards.now = grind (arith, nat_tests, c.is_empty.ensures, c.if-is_empty.ensures, c.if-is_empty.false) in
    let same : c.in_ok-key.field-0.footer.chunk_hash_hmac_key ≡ key = first_key key parts c.args.shards.now _ c.in_ok-key.field-0 fit are some c.in_ok-key.ensures.split in
    c.in_ok-gathered.ensures.version parts (subst (λ k. All (IsPartUnder k) parts) (sym same) fit) are

pub returns-clause-order : goal.returns-clause-order
returns-clause-order c = λ key parts fit are each.
    in_order key parts _ _ _ _ fit each (returns-clause-gathered c key parts fit are).1
    (λ records hold. c.in_ok-check_order.ensures.order records (subst (λ ss. HoldSections file_records ss records) (sym c.as_slice.ensures.value) hold))
    (λ records hold. c.in_ok-check_order-2.ensures.order records (subst (λ ss. HoldSections xorb_records ss records) (sym c.as_slice-2.ensures.value) hold))

pub returns-then-is_empty-clause-succeeds : goal.returns-then-is_empty-clause-succeeds
returns-then-is_empty-clause-succeeds c = λ key parts row are.
    let none : length c.args.shards.now ≡ 0 = grind (arith, nat_tests, c.is_empty.ensures, c.if-is_empty.true) in
    absurd (omega (arith, none, row.some, ap length are, length-map parts bytes_of_part, length-map c.args.shards.now (λ (x : Bor (List ℕ)). x.now)))

pub returns-in_err-key-clause-succeeds : goal.returns-in_err-key-clause-succeeds
returns-in_err-key-clause-succeeds c = λ key parts row are.
    let some : 0 < length c.args.shards.now = grind (arith, nat_tests, c.is_empty.ensures, c.if-is_empty.ensures, c.if-is_empty.false) in
    absurd (part_splits key parts c.args.shards.now row.fit are 0 _ some ⊥ c.in_err-key.ensures.split)

pub returns-in_err-gathered-clause-succeeds : goal.returns-in_err-gathered-clause-succeeds
returns-in_err-gathered-clause-succeeds c = λ key parts row are.
    let some : 0 < length c.args.shards.now = grind (arith, nat_tests, c.is_empty.ensures, c.if-is_empty.ensures, c.if-is_empty.false) in
    let same : c.in_ok-key.field-0.footer.chunk_hash_hmac_key ≡ key = first_key key parts c.args.shards.now _ c.in_ok-key.field-0 row.fit are some c.in_ok-key.ensures.split in
    let lacks = c.in_err-gathered.ensures.succeeds parts (subst (λ k. All (IsPartUnder k) parts) (sym same) row.fit) are row.together in
    let p = err_from_is_err_and c.from_residual-in_err-gathered.result c.from_residual-in_err-gathered.ensures.1 in
    rw (p.1) (p.2 ∙ lacks)

pub returns-in_err-check_order-clause-succeeds : goal.returns-in_err-check_order-clause-succeeds
returns-in_err-check_order-clause-succeeds c = λ key parts row are.
    let some : 0 < length c.args.shards.now = grind (arith, nat_tests, c.is_empty.ensures, c.if-is_empty.ensures, c.if-is_empty.false) in
    let same : c.in_ok-key.field-0.footer.chunk_hash_hmac_key ≡ key = first_key key parts c.args.shards.now _ c.in_ok-key.field-0 row.fit are some c.in_ok-key.ensures.split in
    let gathered = c.in_ok-gathered.ensures.gathered parts (subst (λ k. All (IsPartUnder k) parts) (sym same) row.fit) are in
    absurd (files_not_refused key parts _ _ _ _ row gathered _ (λ records hold. c.in_err-check_order.ensures.order records (subst (λ ss. HoldSections file_records ss records) (sym c.as_slice.ensures.value) hold)))

pub returns-in_err-check_order-2-clause-succeeds : goal.returns-in_err-check_order-2-clause-succeeds
returns-in_err-check_order-2-clause-succeeds c = λ key parts row are.
    let some : 0 < length c.args.shards.now = grind (arith, nat_tests, c.is_empty.ensures, c.if-is_empty.ensures, c.if-is_empty.false) in
    let same : c.in_ok-key.field-0.footer.chunk_hash_hmac_key ≡ key = first_key key parts c.args.shards.now _ c.in_ok-key.field-0 row.fit are some c.in_ok-key.ensures.split in
    let gathered = c.in_ok-gathered.ensures.gathered parts (subst (λ k. All (IsPartUnder k) parts) (sym same) row.fit) are in
    absurd (xorbs_not_refused key parts _ _ _ _ row gathered _ (λ records hold. c.in_err-check_order-2.ensures.order records (subst (λ ss. HoldSections xorb_records ss records) (sym c.as_slice-2.ensures.value) hold)))
