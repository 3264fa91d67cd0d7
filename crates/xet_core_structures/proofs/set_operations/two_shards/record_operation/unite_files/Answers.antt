use Rattle.std.proofs.Common.{Some, sym}
use Rattle.xet_records.specs.FileRecord.{file_records}
use Rattle.xet_records.proofs.RecordKinds.{file_laws}
use Rattle.xet_core_structures.specs.Records.ByteUnion.{IsEitherFile}
use Rattle.xet_core_structures.proofs.TwoShards.Pairs.{keeps_first, keeps_second, refused_so}
use Rattle.xet_core_structures.proofs.TwoShards.UnitedFiles.{first_includes, second_includes, neither_includes, makes_first, makes_second, cannot_unite, mix_made}
use Rattle.xet_core_structures.proofs.set_operations.two_shards.record_operation.unite_files.Goals as goal

pub returns-in-Equal : goal.returns-in-Equal
returns-in-Equal g c =
    keeps_first file_records file_laws IsEitherFile c.args.first (Some c.args.second) _ _ _ _ c.args.written.now.table.rows c.requires.first c.requires.hash
    (makes_first c.args.first c.args.second _ _ _ _ (first_includes _ _ _ c.compare_flag_superset.ensures c.in-Equal.is)) _ _ _ _ c.keep.result c.keep.ensures

pub returns-in-SuperB : goal.returns-in-SuperB
returns-in-SuperB g c =
    let includes = second_includes _ _ _ c.compare_flag_superset.ensures c.in-SuperB.is in
    keeps_second file_records file_laws IsEitherFile c.args.second (Some c.args.first) _ _ _ _ c.args.written.now.table.rows c.requires.second (sym c.requires.hash)
    (makes_second c.args.second c.args.first _ _ _ _ includes.0 includes.1) _ _ _ _ c.keep-in-SuperB.result c.keep-in-SuperB.ensures

pub returns-then-first-second : goal.returns-then-first-second
returns-then-first-second g c =
    refused_so file_records (Some c.args.first) (Some c.args.second) _ _ _ _
    (cannot_unite c.args.first c.args.second _ _ _ _ c.args.written.now.table.rows (neither_includes _ _ _ c.compare_flag_superset.ensures c.in-Neither.is) c.if-first-second.true)
    c.refuse.result c.refuse.ensures

pub returns-else-first-second : goal.returns-else-first-second
returns-else-first-second g c =
    mix_made c.args.first c.args.second _ _ _ _ c.requires.first c.requires.second c.requires.hash c.if-first-second.false (neither_includes _ _ _ c.compare_flag_superset.ensures c.in-Neither.is)
    c.args.written.now.table.rows _ _ _ _ c.mix.result c.mix.ensures
