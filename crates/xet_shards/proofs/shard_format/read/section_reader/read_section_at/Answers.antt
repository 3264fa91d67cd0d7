use Rattle.std.proofs.Common.{subst}
use Rattle.std.proofs.lemmas.Result.{MatchResult-weaker}
use Rattle.xet_records.specs.RecordKind.{in_version}
use Rattle.xet_records.proofs.RecordKinds.{laws_in}
use Rattle.xet_shards.specs.Read.SectionReading.{StreamsSection, SectionNotStreamed}
use Rattle.xet_shards.proofs.Read.SectionReading.{section_read, section_stops}
use Rattle.xet_shards.proofs.shard_format.read.section_reader.read_section_at.Goals as goal

pub returns : goal.returns
returns g c =
    let K = in_version g.R.SectionRecord.kind c.args.version in
    let laws = laws_in g.R.SectionRecord.kind c.laws.ensures c.args.version in
    let meaning = g.S.ShardSource.meaning in
    let new = meaning c.read_section.new.input in
    MatchResult-weaker c.read_section.result c.read_section.ensures
    (λ found reads. subst (λ s. StreamsSection K s new found.items) c.in_ok-seek_to.ensures (section_read K laws meaning _ _ found.items reads))
    (λ e stops. subst (λ s. SectionNotStreamed K s new e) c.in_ok-seek_to.ensures (section_stops K laws meaning _ _ e stops))
