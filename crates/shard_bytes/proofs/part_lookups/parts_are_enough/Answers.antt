use Rattle.std.proofs.Common.{inr, refl, take}
use Rattle.xet_core_structures.specs.SectionReading.{files_of}
use Rattle.shard_bytes.specs.RangeReads.{chunk_table_in, file_table_in}
use Rattle.shard_bytes.proofs.CutOut.{fits_there}
use Rattle.shard_bytes.proofs.RangeReads.{answer_of, collides_in_table, looked_up, query_answers}
use Rattle.shard_bytes.proofs.Reading.{source_of}
use Rattle.shard_bytes.proofs.WrittenParts.{file_found, run_found, xorb_found}
use Rattle.shard_bytes.proofs.part_lookups.parts_are_enough.Goals as goal

pub returns-clause-any_file : goal.returns-clause-any_file
returns-clause-any_file c = λ shard info hash answer small ends parts.
    let f = info.metadata in
    record {
      info = info;
      ends = ends;
      before = source_of shard;
      after = source_of shard;
      bytes_are = refl;
      works = refl;
      outcome = (looked_up (files_of info) shard parts.table f.file_info_offset f.file_lookup_offset f.file_lookup_num_entry hash parts.has_rows
          (fits_there (file_table_in f shard) parts.table hash.word0 parts.has_rows small) parts.count parts.old parts.rows answer parts.found
          (answer_of shard info ends files_of (λ i. i.metadata.file_info_offset) hash (take parts.count parts.rows) answer parts.answers)).read;
    }

pub returns-clause-any_collision : goal.returns-clause-any_collision
returns-clause-any_collision c = λ shard info hash table e small ends part refused.
    let f = info.metadata in
    inr (record {
      info = info;
      ends = ends;
      before = source_of shard;
      after = source_of shard;
      bytes_are = refl;
      works = refl;
      outcome = collides_in_table (files_of info) shard table f.file_info_offset f.file_lookup_offset f.file_lookup_num_entry hash part (fits_there (file_table_in f shard) table hash.word0 part small) e refused;
    })

pub returns-clause-file : goal.returns-clause-file
returns-clause-file c = λ s shard info hash answer is parts. file_found is hash answer parts

pub returns-clause-xorb : goal.returns-clause-xorb
returns-clause-xorb c = λ s shard info hash answer is parts. xorb_found is hash answer parts

pub returns-clause-any_query : goal.returns-clause-any_query
returns-clause-any_query c = λ shard info q qs answer small ends parts. record {
  info = info;
  ends = ends;
  before = source_of shard;
  after = source_of shard;
  bytes_are = refl;
  works = refl;
  outcome = query_answers shard info ends q qs answer parts (fits_there (chunk_table_in info.metadata shard) parts.table _ parts.has_rows small);
}

pub returns-clause-query : goal.returns-clause-query
returns-clause-query c = λ s shard info q qs answer is parts. run_found is q qs answer parts
