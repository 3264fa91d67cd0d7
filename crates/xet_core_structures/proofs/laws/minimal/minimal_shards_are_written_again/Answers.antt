use Rattle.xet_core_structures.proofs.LawProofs.MinimalAgain.{read_fits, shard_read, shard_again}
use Rattle.xet_core_structures.proofs.laws.minimal.minimal_shards_are_written_again.Goals as goal

pub returns-clause-read : goal.returns-clause-read
returns-clause-read c = λ with_files with_xorbs kept m n now size first rest left bytes read written back.
    shard_read kept now m n bytes left size (read_fits with_files with_xorbs first rest m read) written back

pub returns-clause-bytes : goal.returns-clause-bytes
returns-clause-bytes c = λ with_files with_xorbs kept m n now size size_again first rest left bytes again read written back written_again.
    shard_again kept now m n bytes again left size size_again (read_fits with_files with_xorbs first rest m read) written back written_again
