use Rattle.std.specs.FinMap as finite
use Rattle.callers.proofs.Callers.{as_written, found_later, costs_of_both}
use Rattle.callers.proofs.uses.find.open_and_find.Goals as goal

pub returns-clause-answer : goal.returns-clause-answer
returns-clause-answer g c s is =
    let meaning = g.S.ShardSource.meaning in
    let old = meaning c.args.source.now in
    let loaded = meaning c.load_from_reader.new.source in
    let new = meaning c.get_file_reconstruction_info.new.source in
    let loads = c.in_ok-info.ensures.read in
    found_later s c.args.hash.now c.get_file_reconstruction_info.result old loaded new loads.failures
    (c.get_file_reconstruction_info.ensures.written s (as_written s old loaded c.in_ok-info.info is loads)).answer

pub returns-clause-costs : goal.returns-clause-costs
returns-clause-costs g c s is =
    let meaning = g.S.ShardSource.meaning in
    let old = meaning c.args.source.now in
    let loaded = meaning c.load_from_reader.new.source in
    let new = meaning c.get_file_reconstruction_info.new.source in
    let loads = c.in_ok-info.ensures.read in
    costs_of_both (finite.values s.files) c.args.hash.now.word0 old loaded new c.in_ok-info.info loads
    (c.get_file_reconstruction_info.ensures.written s (as_written s old loaded c.in_ok-info.info is loads)).costs
