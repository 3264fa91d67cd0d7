use Rattle.script_lines.proofs.tree.+parse_front.Given as goal

abbrev pub decreases-parse_front : goal.decreases-parse_front
decreases-parse_front l = l.depth
