use Rattle.std.proofs.Common.{◌≡◌, ap, subst, sym, arith}
use Rattle.std.proofs.lemmas.Grind.{common_steps}
use Rattle.script_lines.specs.Commands.{texts}
use Rattle.script_lines.specs.Words.{SpellsHash}
use Rattle.script_lines.proofs.files_and_xorbs.parse_file.Goals as goal

pub returns : goal.returns
returns c =
    let same : c.with_aux_ext-header.result.file_hash ≡ c.in_ok-hash.hash = grind (arith, common_steps, c.with_aux_ext-header.ensures, c.new-header.ensures) in
    (c.in-Some.hash.now.now, texts c.in-Some.rest.now, ap texts c.in-Some.ensures.cases.0, subst (SpellsHash c.in-Some.hash.now.now) (sym same) c.in_ok-hash.ensures.hash)
