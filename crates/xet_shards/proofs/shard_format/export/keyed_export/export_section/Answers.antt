use Rattle.std.proofs.Common.{[], inr, rules, subst, arith}
use Rattle.std.proofs.lemmas.List.Elements.{All-nil}
use Rattle.std.proofs.lemmas.Result.{err_from_is_err_and}
use Rattle.std.proofs.KnownBytes.{Appends-nil, Appends-trans}
use Rattle.xet_records.specs.RecordKind.{in_version}
use Rattle.xet_records.proofs.RecordKinds.{laws_in, stored_ever}
use Rattle.xet_base.specs.Source.{ReadsBytes}
use Rattle.xet_base.specs.InputLaws.{ReadsBytes-nil, ReadsBytes-trans}
use Rattle.xet_records.specs.Reading.{ReadsEnd}
use Rattle.xet_records.specs.ViewReading.{ReadsNextView}
use Rattle.xet_shards.specs.Write.Section.{section_bytes}
use Rattle.xet_shards.proofs.Export.KeyedExport.{more_written, fewer_rows, one_exported, next_fits, all_passed, not_passed, writing_failed}
use Rattle.xet_shards.proofs.shard_format.export.keyed_export.export_section.Goals as goal

pub export-requires : goal.export-requires
export-requires g c =
    let kind = g.E.Section.Record.SectionRecord.kind in
    let now = g.S.ShardSource.meaning c.loop-buffer.source in
    let new = g.S.ShardSource.meaning c.read.new.source in
    let before = c.loop-buffer.invariant in
    let next = subst (ReadsNextView (in_version kind c.args.version) g.E.ExportedRecord.stored (ReadsBytes now new) c.loop-buffer.rows_left c.read.new.left) c.in-Some.is c.in_ok-next.ensures in
    record {
      stored = stored_ever kind c.args.version _ next.is_stored;
      rows = omega (
        arith,
        next_fits (in_version kind c.args.version) (laws_in kind g.met.E.ExportedRecord.laws c.args.version) _ _ _ _ _ (g.E.ExportedRecord.stored c.in-Some.next) before next,
        g.met.E.ExportedRecord.counts_rows c.args.options.now _ _ before.made.collected,
        fewer_rows kind (g.E.ExportedRecord.exports c.args.aux_ext c.args.options.now) (g.met.E.ExportedRecord.no_more_rows c.args.aux_ext c.args.options.now) before.stored,
      );
    }

pub loop-buffer-init : goal.loop-buffer-init
loop-buffer-init g c = record {
  stored = [];
  are_stored = All-nil _;
  taken = ReadsBytes-nil _;
  rows = omega arith;
  made = record { collected = g.met.E.ExportedRecord.begins c.args.options.now c.new-written.result c.new-written.ensures; bytes = Appends-nil _ };
}

pub loop-buffer-preserved : goal.loop-buffer-preserved
loop-buffer-preserved g c =
    let kind = g.E.Section.Record.SectionRecord.kind in
    let now = g.S.ShardSource.meaning c.loop-buffer.source in
    let new = g.S.ShardSource.meaning c.read.new.source in
    let before = c.loop-buffer.invariant in
    let next = subst (ReadsNextView (in_version kind c.args.version) g.E.ExportedRecord.stored (ReadsBytes now new) c.loop-buffer.rows_left c.read.new.left) c.in-Some.is c.in_ok-next.ensures in
    let wrote = c.in_ok-export.ensures in
    one_exported (in_version kind c.args.version) (laws_in kind g.met.E.ExportedRecord.laws c.args.version) _ _ _ _ _ _ _ (g.E.ExportedRecord.stored c.in-Some.next) (ReadsBytes-trans (g.S.ShardSource.meaning c.args.source.now) now new) before next
    (more_written kind (g.E.ExportedRecord.exports c.args.aux_ext c.args.options.now) _ _ _ (g.W.Write.contents c.loop-buffer.writer) _ before.stored _ before.made wrote.written wrote.appended)

pub returns-in_err-next : goal.returns-in_err-next
returns-in_err-next g c =
    let source = g.S.ShardSource.meaning in
    search (rules, not_passed (in_version g.E.Section.Record.SectionRecord.kind c.args.version) (laws_in g.E.Section.Record.SectionRecord.kind g.met.E.ExportedRecord.laws c.args.version) _ (source c.loop-buffer.source) _ _ c.loop-buffer.invariant _ _ c.in_err-next.ensures)

pub returns-in_err-export : goal.returns-in_err-export
returns-in_err-export g c =
    let kind = g.E.Section.Record.SectionRecord.kind in
    let now = g.S.ShardSource.meaning c.loop-buffer.source in
    let new = g.S.ShardSource.meaning c.read.new.source in
    let next = subst (ReadsNextView (in_version kind c.args.version) g.E.ExportedRecord.stored (ReadsBytes now new) c.loop-buffer.rows_left c.read.new.left) c.in-Some.is c.in_ok-next.ensures in
    let p = err_from_is_err_and c.from_residual-in_err-export.result c.from_residual-in_err-export.ensures.1 in
    rw (p.1, p.2) (inr (writing_failed (g.S.ShardSource.meaning c.args.source.now) new _ _
    (ReadsBytes-trans (g.S.ShardSource.meaning c.args.source.now) now new _ _ c.loop-buffer.invariant.taken next.taken) c.in_err-export.ensures.causes))

pub returns-in_err-write_bookend : goal.returns-in_err-write_bookend
returns-in_err-write_bookend g c =
    let kind = g.E.Section.Record.SectionRecord.kind in
    let now = g.S.ShardSource.meaning c.loop-buffer.source in
    let new = g.S.ShardSource.meaning c.read.new.source in
    let last : ReadsEnd (in_version kind c.args.version) (ReadsBytes now new) c.loop-buffer.rows_left c.read.new.left = search rules in
    let p = err_from_is_err_and c.from_residual-in_err-write_bookend.result c.from_residual-in_err-write_bookend.ensures.1 in
    rw (p.1, p.2) (inr (writing_failed (g.S.ShardSource.meaning c.args.source.now) new _ _
    (ReadsBytes-trans (g.S.ShardSource.meaning c.args.source.now) now new _ _ c.loop-buffer.invariant.taken last.bookend.taken) c.in_err-write_bookend.ensures.causes))

pub returns : goal.returns
unfolding section_bytes
returns g c =
    let kind = g.E.Section.Record.SectionRecord.kind in
    let now = g.S.ShardSource.meaning c.loop-buffer.source in
    let new = g.S.ShardSource.meaning c.read.new.source in
    let before = c.loop-buffer.invariant in
    let last : ReadsEnd (in_version kind c.args.version) (ReadsBytes now new) c.loop-buffer.rows_left c.read.new.left = search rules in
    record {
      stored = before.stored;
      passed = all_passed (in_version kind c.args.version) (laws_in kind g.met.E.ExportedRecord.laws c.args.version) _ now _ _ before new last.bookend;
      collected = before.made.collected;
      written = Appends-trans _ (g.W.Write.contents c.loop-buffer.writer) _ _ _ before.made.bytes c.in_ok-write_bookend.ensures.bytes;
    }
