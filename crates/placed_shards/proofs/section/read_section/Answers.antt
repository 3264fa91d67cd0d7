use Rattle.std.proofs.Common.{◌∙◌}
use Rattle.xet_records.specs.Reading.{BeginsWithBookend}
use Rattle.xet_records.specs.RecordKind.{in_version}
use Rattle.xet_records.proofs.RecordKinds.{laws_in}
use Rattle.placed_shards.proofs.Sections.{behind_section, section_ends}
use Rattle.placed_shards.proofs.section.read_section.Goals as goal

pub returns : goal.returns
returns g c =
    let K = in_version g.P.PlacedRecord.kind c.args.version in
    let bytes = c.args.bytes.now in
    let found = c.loop-records.records.items in
    let rest = c.loop-records.rest.now in
    let left = c.loop-records.rows_left in
    let ends : BeginsWithBookend K rest = rw c.in_default.is at c.in_ok-next.ensures in (
      section_ends K bytes found rest left c.loop-records.invariant ends,
      c.bytes_from.ensures ∙ behind_section K bytes found rest left c.loop-records.invariant (laws_in g.P.PlacedRecord.kind c.laws.ensures.laws c.args.version),
    )
