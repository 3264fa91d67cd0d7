use Rattle.std.proofs.Common.{[], ◌∷◌, refl, rules, arith}
use Rattle.std.proofs.lemmas.Grind.{common_steps}
use Rattle.xet_records.specs.FileRow.{hash_row}
use Rattle.xet_records.proofs.file_structs.rows.HashRowRow.from_bytes.Goals as goal

pub returns : goal.returns
unfolding hash_row
returns c =
    let first = c.split_u64-first.result.0 in
    let second = c.split_u64-second.result.0 in (
      record { hash = c.split_hash.result.0; _unused = first ∷ second ∷ [] },
      record { hash = search rules; unused = record { first = first; second = second; words_are = refl; first_fits = search rules; second_fits = search rules } },
      grind (arith, common_steps),
      refl,
    )
