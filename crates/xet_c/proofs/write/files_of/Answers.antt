use Rattle.std.proofs.Common.{inr, refl, arith}
use Rattle.xet_c.specs.ListedRecords.{IsListedFile}
use Rattle.xet_c.proofs.Listing.{more_listed, too_few, too_many, are_left}
use Rattle.xet_c.proofs.write.files_of.Goals as goal

pub returns-then-rest-count : goal.returns-then-rest-count
returns-then-rest-count c =
    inr (refl, too_few (λ f. f.segments) IsListedFile c.args.listed.now c.args.segments.now c.loop-file.file-index c.loop-file.rest.now c.loop-file.files.items _ c.loop-file-test.true c.loop-file.invariant c.if-rest-count.true)

pub loop-file-preserved : goal.loop-file-preserved
loop-file-preserved c =
    more_listed (λ f. f.segments) IsListedFile c.args.listed.now c.args.segments.now c.loop-file.file-index c.loop-file.rest.now c.first_items.result.now c.items_after-rest.result.now c.loop-file.files.items _ _ c.in_ok-file_of.field-0 c.loop-file-test.true c.loop-file.invariant
    (omega (arith, c.if-rest-count.false)) c.first_items.ensures c.items_after-rest.ensures c.in_ok-file_of.ensures.ok c.in_ok-push.ensures.items

pub returns-then-not-is_empty : goal.returns-then-not-is_empty
returns-then-not-is_empty c =
    inr (
      refl,
      too_many (λ f. f.segments) IsListedFile c.args.listed.now c.args.segments.now c.loop-file.file-index c.loop-file.rest.now c.loop-file.files.items c.loop-file-test.false c.loop-file.auto.file-index-end c.loop-file.invariant
          (are_left c.loop-file.rest.now c.is_empty.result c.is_empty.ensures c.if-not-is_empty.true),
    )
