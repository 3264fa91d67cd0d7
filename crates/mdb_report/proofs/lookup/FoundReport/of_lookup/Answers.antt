use Rattle.std.proofs.Common.{◌≡◌, inl, ap, ◌∙◌}
use Rattle.std.proofs.lemmas.Result.{err_from_is_err_and}
use Rattle.xet_core_structures.specs.Source.{Source}
use Rattle.xet_core_structures.proofs.TwoShards.InMemory.{not_loaded}
use Rattle.mdb_report.proofs.lookup.FoundReport.of_lookup.Goals as goal

pub returns-in_err-info : goal.returns-in_err-info
returns-in_err-info c =
    let x : c.new-source.result.source.bytes.now ≡ c.args.bytes.now = ap (λ (s : Source). s.bytes) (c.new-source.ensures ∙ c.new.ensures) in
    let p = err_from_is_err_and c.from_residual.result c.from_residual.ensures.1 in
    rw (p.1, p.2) (inl (inl (not_loaded c.args.bytes.now c.new-source.result.source c.load_from_reader.new.source.source _ x c.in_err-info.ensures.read)))
