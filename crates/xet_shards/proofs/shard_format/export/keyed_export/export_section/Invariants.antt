use Rattle.std.proofs.Common.{flat_map}
use Rattle.xet_records.specs.RecordKind.{in_version}
use Rattle.xet_base.specs.Source.{ReadsBytes}
use Rattle.xet_shards.specs.Steps.KeyedExportSteps.{HasExported}
use Rattle.xet_shards.proofs.Export.KeyedExport.{SectionWritten}
use Rattle.xet_shards.proofs.shard_format.export.keyed_export.export_section.Given as goal

abbrev pub invariant-loop-buffer : goal.invariant-loop-buffer
invariant-loop-buffer g l =
    let kind = g.E.Section.Record.SectionRecord.kind in
    HasExported (in_version kind l.version) (ReadsBytes (g.S.ShardSource.meaning l.fn.source) (g.S.ShardSource.meaning l.source))
    (λ stored. SectionWritten kind (g.E.ExportedRecord.has_written l.options l.written) (g.W.Write.contents l.fn.writer) (g.W.Write.contents l.writer) (flat_map (g.E.ExportedRecord.exports l.aux_ext l.options) stored))
    l.rows_left

abbrev pub decreases-loop-buffer : goal.decreases-loop-buffer
decreases-loop-buffer g l = l.rows_left
