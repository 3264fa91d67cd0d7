use Rattle.std.proofs.Common.{rules, drop, refl, subst}
use Rattle.script_lines.specs.Commands.{texts, BeginWithHash}
use Rattle.script_lines.proofs.Commands.{front_1, rest_is}
use Rattle.script_lines.proofs.command.parse_file_line.Goals as goal

pub returns : goal.returns
returns c =
    let words = c.args.arguments.now in (
      refl,
      (
        texts (drop 1 words),
        front_1 words _ _ c.in-len1-up.len_at_least c.in_ok-shard.ensures.name,
        search rules,
        subst (λ ws. BeginWithHash (texts ws) c.in_ok-file.file.metadata.file_hash) (rest_is words 1) c.in_ok-file.ensures,
      ),
    )
