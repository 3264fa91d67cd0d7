use Rattle.std.specs.Fn.{FnReturnsAt}
use Rattle.xet_shards.specs.StreamingShard.MinimalShard.{minimal_options}
use Rattle.xet_core_structures.proofs.LawProofs.MinimalAgain.{read_fits, subset_read, subset_eligible}
use Rattle.xet_core_structures.proofs.laws.minimal.subsets_keep_eligible_chunks.Goals as goal

pub returns-clause-read : goal.returns-clause-read
returns-clause-read g c = λ filter m n now size expiry first rest left bytes with_files with_xorbs files_again read subset back.
    (subset_read (FnReturnsAt g.F.Fn filter) files_again m n (minimal_options now expiry) bytes left size (read_fits with_files with_xorbs first rest m read) subset back).2

pub returns-clause-source : goal.returns-clause-source
returns-clause-source g c = λ filter m now size expiry first rest bytes old new hashes with_files with_xorbs read subset left back.
    subset_eligible (FnReturnsAt g.F.Fn filter) m (minimal_options now expiry) bytes old new hashes size (read_fits with_files with_xorbs first rest m read) subset left back
