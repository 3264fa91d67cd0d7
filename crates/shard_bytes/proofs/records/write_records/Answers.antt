use Rattle.std.proofs.Common.{ap, ◌∙◌, subst}
use Rattle.std.proofs.lemmas.Result.{err_from_is_err_and}
use Rattle.xet_core_structures.specs.Shard.{IsShard}
use Rattle.placed_shards.specs.Content.{Content, content}
use Rattle.placed_shards.specs.Given.{plain_content, shard_of as given_shard}
use Rattle.shard_bytes.proofs.Compositions.{both_outcomes}
use Rattle.shard_bytes.proofs.GivenRecords.{shard_given, can_given, not_given, records_written, records_refused}
use Rattle.shard_bytes.proofs.Sizes.{if_made}
use Rattle.shard_bytes.proofs.records.write_records.Goals as goal

pub returns-in_err-shard-clause-admitted : goal.returns-in_err-shard-clause-admitted
returns-in_err-shard-clause-admitted c =
    let p = err_from_is_err_and c.from_residual.result c.from_residual.ensures.1 in
    rw (p.1, p.2) (not_given c.args.files.items c.args.xorbs.items c.args.version c.in_err-shard.field-0.0 c.in_err-shard.ensures.admitted)

pub returns-clause-written : goal.returns-clause-written
returns-clause-written c =
    let fs = c.args.files.items in
    let xs = c.args.xorbs.items in
    let is = c.with_options-shard.ensures.content ∙ ap (λ (d : Content). record d { options = c.plain.result }) c.in_ok-shard.ensures.made ∙ (λ i. record (plain_content (given_shard fs xs)) { options = c.plain.ensures i }) in
    if_made c.to_bytes.result _ _ _ (λ out written. (records_written fs xs c.args.expiry c.args.version (content c.with_options-shard.result) is out.items written).1) c.to_bytes.ensures

pub returns-clause-shard : goal.returns-clause-shard
returns-clause-shard c =
    let shard = subst IsShard (shard_given c.args.files.items c.args.xorbs.items) c.in_ok-shard.ensures.shard in
    if_made c.to_bytes.result _ _ _ (λ out written. shard) c.to_bytes.ensures

pub returns-clause-readable : goal.returns-clause-readable
returns-clause-readable c =
    let fs = c.args.files.items in
    let xs = c.args.xorbs.items in
    let is = c.with_options-shard.ensures.content ∙ ap (λ (d : Content). record d { options = c.plain.result }) c.in_ok-shard.ensures.made ∙ (λ i. record (plain_content (given_shard fs xs)) { options = c.plain.ensures i }) in
    let shard = subst IsShard (shard_given fs xs) c.in_ok-shard.ensures.shard in
    if_made c.to_bytes.result _ _ _
    (λ out written. let found = records_written fs xs c.args.expiry c.args.version (content c.with_options-shard.result) is out.items written in
    record { shard = shard; version = c.args.version; files = found.0; expiry = c.args.expiry; expiry_fits = c.seconds_fit.ensures; bytes_are = found.1 }) c.to_bytes.ensures

pub returns-clause-admitted : goal.returns-clause-admitted
returns-clause-admitted c =
    let fs = c.args.files.items in
    let xs = c.args.xorbs.items in
    let is = c.with_options-shard.ensures.content ∙ ap (λ (d : Content). record d { options = c.plain.result }) c.in_ok-shard.ensures.made ∙ (λ i. record (plain_content (given_shard fs xs)) { options = c.plain.ensures i }) in
    let made = content c.with_options-shard.result in
    both_outcomes c.to_bytes.result _ _ _ _
    (λ out written. ((can_given fs xs).1 c.in_ok-shard.ensures.admitted, (records_written fs xs c.args.expiry c.args.version made is out.items written).0)) (records_refused fs xs c.args.expiry c.args.version made is) c.to_bytes.ensures
