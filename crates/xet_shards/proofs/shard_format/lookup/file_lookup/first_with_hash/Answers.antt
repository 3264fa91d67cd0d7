use Rattle.std.proofs.Common.{◌+◌, get_or, take, sym, ◌∙◌, subst, None, arith, rules}
use Rattle.std.proofs.lemmas.List.{take_more, take_all}
use Rattle.std.proofs.lemmas.List.Elements.{Contains-get_or}
use Rattle.std.proofs.lemmas.Bool.{both_ways}
use Rattle.xet_base.proofs.HashOrder.{same_hash}
use Rattle.xet_records.specs.Version.{version_of}
use Rattle.xet_shards.specs.Read.SectionReading.{files_of}
use Rattle.xet_shards.proofs.Write.Sections.{files_laws}
use Rattle.xet_shards.specs.Lookup.Lookup.{Visits, LookupAnswer}
use Rattle.xet_shards.specs.Steps.LookupSteps.{NoneHasHash}
use Rattle.xet_shards.proofs.Lookup.Lookups.{visits_read, visits_read_not, missed_more, refusal_after}
use Rattle.xet_shards.proofs.shard_format.lookup.file_lookup.first_with_hash.Goals as goal

pub returns-in_err-file_info-clause-refused : goal.returns-in_err-file_info-clause-refused
returns-in_err-file_info-clause-refused g c =
    let rows = c.args.rows.now in
    let i = c.loop-row.row-index in
    search (
      rules,
      get_or rows i 0,
      Contains-get_or rows i 0 c.loop-row-test.true,
      refusal_after (files_of c.args.info.now) (files_laws (version_of c.args.info.now.header.version)) c.args.info.now.metadata.file_info_offset (get_or rows i 0) (g.S.ShardSource.meaning c.args.source.now) (g.S.ShardSource.meaning c.loop-row.source)
          (g.S.ShardSource.meaning c.read_file_info.new.source) _ c.loop-row.invariant.visits.bytes c.loop-row.invariant.no_failure.failures c.in_err-file_info.ensures.cause,
    )

pub returns-in_err-file_info-clause-visits : goal.returns-in_err-file_info-clause-visits
returns-in_err-file_info-clause-visits g c =
    let rows = c.args.rows.now in
    let i = c.loop-row.row-index in
    let offset = c.args.info.now.metadata.file_info_offset in (
      i + 1,
      subst (λ rs. Visits (files_of c.args.info.now) 1 offset rs (g.S.ShardSource.meaning c.args.source.now) (g.S.ShardSource.meaning c.read_file_info.new.source)) (sym (take_more rows i 0 c.loop-row-test.true))
          (visits_read_not (files_of c.args.info.now) (files_laws (version_of c.args.info.now.header.version)) offset (get_or rows i 0) (take i rows) _ (g.S.ShardSource.meaning c.loop-row.source) _ _ c.loop-row.invariant.visits c.in_err-file_info.ensures),
    )

pub returns-then-eq-clause-visits : goal.returns-then-eq-clause-visits
returns-then-eq-clause-visits g c =
    let rows = c.args.rows.now in
    let i = c.loop-row.row-index in
    let offset = c.args.info.now.metadata.file_info_offset in (
      i + 1,
      subst (λ rs. Visits (files_of c.args.info.now) 1 offset rs (g.S.ShardSource.meaning c.args.source.now) (g.S.ShardSource.meaning c.read_file_info.new.source)) (sym (take_more rows i 0 c.loop-row-test.true))
          (visits_read (files_of c.args.info.now) (files_laws (version_of c.args.info.now.header.version)) offset (get_or rows i 0) (take i rows) _ (g.S.ShardSource.meaning c.loop-row.source) _ _ c.loop-row.invariant.visits c.in_ok-file_info.ensures),
    )

pub loop-row-preserved : goal.loop-row-preserved
loop-row-preserved g c =
    let rows = c.args.rows.now in
    let i = c.loop-row.row-index in
    let offset = c.args.info.now.metadata.file_info_offset in
    subst (λ rs. NoneHasHash (files_of c.args.info.now) offset c.args.hash.now rs (g.S.ShardSource.meaning c.args.source.now) (g.S.ShardSource.meaning c.read_file_info.new.source)) (sym (take_more rows i 0 c.loop-row-test.true))
    (missed_more (files_of c.args.info.now) (files_laws (version_of c.args.info.now.header.version)) offset (get_or rows i 0) c.args.hash.now (take i rows) _ (g.S.ShardSource.meaning c.loop-row.source) _ _ c.loop-row.invariant c.in_ok-file_info.ensures
    (λ same. both_ways c.eq.result c.if-eq.false (c.eq.ensures ∙ (same_hash _ _).1 same)))

pub returns-clause-answer : goal.returns-clause-answer
returns-clause-answer g c =
    let rows = c.args.rows.now in
    let i = c.loop-row.row-index in
    subst (LookupAnswer (files_of c.args.info.now) (g.S.ShardSource.meaning c.args.source.now).bytes c.args.info.now.metadata.file_info_offset c.args.hash.now None)
    (take_all i rows (omega (arith, c.loop-row-test.false))) c.loop-row.invariant.others
