use Rattle.std.proofs.Common.{[], ◌∷◌, refl, rules}
use Rattle.shard_bytes.proofs.Malformed.{joined_row}
use Rattle.shard_bytes.proofs.check.malformed.split_reserved.Goals as goal

pub returns-clause-row : goal.returns-clause-row
returns-clause-row c =
    let hash = c.split_hash.result.0 in
    let first = c.split_u64-first.result.0 in
    let second = c.split_u64-second.result.0 in (
      record { hash = hash; _unused = first ∷ second ∷ [] },
      record { hash = search rules; unused = record { first = first; second = second; words_are = refl; first_fits = search rules; second_fits = search rules } },
      refl,
      joined_row hash first second c.args.bytes.now c.split_hash.result.1.now c.split_u64-first.result.1.now c.split_u64-second.result.1.now c.split_hash.ensures.bytes c.split_u64-first.ensures.bytes
          c.split_u64-second.ensures.bytes,
    )
