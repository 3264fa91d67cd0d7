use Rattle.std.proofs.Common.{◌≡◌, length, ap, ◌∙◌, arith, rules}
use Rattle.xet_shards.specs.StreamingShard.MinimalShard.{has_start, mark_starts}
use Rattle.placed_shards.proofs.Marking.{front_of, length-marks}
use Rattle.placed_shards.proofs.marks.with_marks.Goals as goal

pub returns : goal.returns
returns c =
    let x = c.args.xorb in
    let starts = has_start c.args.starts.now in
    let chunks = c.mark_chunks.new.chunks in
    let made : chunks ≡ (mark_starts starts x).chunks = c.mark_chunks.ensures x (search rules) c.requires.hashes in
    let vec = c.into_vec-chunks.result in
    let size : vec.len ≡ length chunks = omega (arith, ap length made, length-marks x starts, ap length c.into_vec-chunks.ensures, vec.ok.0) in
    let same : c.from.result ≡ chunks = c.from.ensures ∙ front_of vec.len chunks _ size in
    λ i. record { metadata = x.metadata; chunks = (same ∙ made) i }
