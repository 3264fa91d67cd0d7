use Rattle.std.proofs.Common.{refl}
use Rattle.shard_bytes.specs.Minimal.{RefusesMinimal}
use Rattle.shard_bytes.proofs.MemoryErrors.{from_memory}
use Rattle.shard_bytes.proofs.minimal.hashes_without_xorb.Goals as goal

-- the shard that was read has its files too, which are not kept
pub returns-in_ok-hashes_lacked-in-Ok : goal.returns-in_ok-hashes_lacked-in-Ok
returns-in_ok-hashes_lacked-in-Ok c =
    let read = c.in-Ok.ensures in
    let sections = read.2 in (
      record { files = sections.files; xorbs = c.in-Ok.shard.xorbs },
      (_, (read.0, read.1, record { files = sections.files; mid = sections.mid; file_section = sections.file_section; kept = refl; xorb_section = sections.xorb_section })),
      c.in_ok-hashes_lacked-in-Ok.ensures,
    )

pub returns-in-Err : goal.returns-in-Err
returns-in-Err c = from_memory (RefusesMinimal c.args.bytes.now) c.in-Err.error c.in_memory.result c.in_memory.ensures (λ _. (_, c.in-Err.ensures))
