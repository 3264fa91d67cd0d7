use Rattle.std.proofs.Common.{map, sym, ◌∙◌, subst}
use Rattle.std.specs.Prelude.{All}
use Rattle.std.specs.Map.{values_of}
use Rattle.std.specs.BTreeMap.{values}
use Rattle.std.specs.Io.KnownBytes.{Appends}
use Rattle.std.proofs.lemmas.List.{map-id}
use Rattle.xet_records.specs.FileRecord.{FitsRecord, FitsItsHeader}
use Rattle.xet_shards.specs.Write.WrittenLaws.{written_for}
use Rattle.xet_shards.specs.Write.Layout.{shard_header_bytes, footer_value, layout_of}
use Rattle.xet_shards.proofs.Write.Written.{whole_layout}
use Rattle.xet_shards.proofs.shard_format.ends.info.write_maps.Goals as goal

pub write_values-requires-clause-whole : goal.write_values-requires-clause-whole
write_values-requires-clause-whole g c =
    subst (All FitsItsHeader) (sym (map-id (values_of c.args.files.now.entries))) (λ k r below. (c.requires.files k r below).whole)

pub returns-clause-bytes : goal.returns-clause-bytes
returns-clause-bytes g c =
    let contents = g.W.Write.contents in
    let old = contents c.args.writer.now in
    let new = contents c.write_end.new.writer in
    let header = subst (λ h. Appends old (contents c.serialize.new.writer) (shard_header_bytes h)) c.of_version-header.ensures c.in_ok-serialize.ensures.bytes in
    let rs_are = map-id (values_of c.args.files.now.entries) in
    let fit = subst (All FitsRecord) (sym rs_are) (λ k r below. (c.requires.files k r below).widths) in
    let end = c.in_ok-metadata.ensures.bytes _ _ fit c.in_ok-files.ensures.written (written_for _ _ _ c.in_ok-xorbs.ensures.written) in
    subst (Appends old new) (λ i. layout_of (rs_are i) (map g.V.HoldsRecord.held (values c.args.xorbs.now)) c.args.options.now)
    (whole_layout _ _ _ _ _ _ _ _ header c.in_ok-files.ensures.bytes c.in_ok-xorbs.ensures.bytes end)

pub returns-clause-info : goal.returns-clause-info
returns-clause-info g c =
    let rs_are = map-id (values_of c.args.files.now.entries) in
    let fit = subst (All FitsRecord) (sym rs_are) (λ k r below. (c.requires.files k r below).widths) in
    let footer = c.in_ok-metadata.ensures.footer _ _ fit c.in_ok-files.ensures.written (written_for _ _ _ c.in_ok-xorbs.ensures.written)
    ∙ (λ i. footer_value (rs_are i) (map g.V.HoldsRecord.held (values c.args.xorbs.now)) c.args.options.now) in
    λ i. record { header = c.of_version-header.ensures i; metadata = footer i }
