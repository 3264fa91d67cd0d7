use Rattle.shard_bytes.proofs.ExportedShards.{export_held, only_out_of_memory, follows_by_footer}
use Rattle.shard_bytes.proofs.Whole.{follows_one}
use Rattle.shard_bytes.proofs.export.exports_hold_the_shard.Goals as goal

pub returns-clause-held : goal.returns-clause-held
returns-clause-held c = λ x s bytes out key now shard follows exports. export_held s bytes follows x out shard key now exports

pub returns-clause-refused : goal.returns-clause-refused
returns-clause-refused c = λ x s bytes e fits holds follows refuses. only_out_of_memory s bytes follows x holds fits e refuses

pub returns-clause-by_footer : goal.returns-clause-by_footer
returns-clause-by_footer c = follows_by_footer

pub returns-clause-intact : goal.returns-clause-intact
returns-clause-intact c = follows_one
