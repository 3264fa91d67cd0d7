use Rattle.std.proofs.Common.{◌≡◌, length, take, sym, arith}
use Rattle.std.proofs.lemmas.List.{length-take-le}
use Rattle.placed_shards.proofs.Filling.{puts_word, cleared_row}
use Rattle.placed_shards.proofs.putting.put_cleared_row.Goals as goal

pub slice_bounds-put_bytes-end : goal.slice_bounds-put_bytes-end
slice_bounds-put_bytes-end c = sym (length-take-le 32 c.args.row.now (omega (arith, c.requires.row)))

pub put_bytes-end-requires : goal.put_bytes-end-requires
put_bytes-end-requires c =
    let front : length (take 32 c.args.row.now) ≡ 32 = length-take-le 32 c.args.row.now (omega (arith, c.requires.row)) in
    omega (arith, c.requires.room)

pub put_u64-end-requires : goal.put_u64-end-requires
put_u64-end-requires c =
    let front : length (take 32 c.args.row.now) ≡ 32 = length-take-le 32 c.args.row.now (omega (arith, c.requires.row)) in
    omega (arith, c.requires.room, c.put_bytes-end.ensures.end_is)

pub put_u64-requires : goal.put_u64-requires
put_u64-requires c =
    let front : length (take 32 c.args.row.now) ≡ 32 = length-take-le 32 c.args.row.now (omega (arith, c.requires.row)) in
    omega (arith, c.requires.room, c.put_bytes-end.ensures.end_is, c.put_u64-end.ensures.end)

pub returns-clause-end : goal.returns-clause-end
returns-clause-end c =
    let front : length (take 32 c.args.row.now) ≡ 32 = length-take-le 32 c.args.row.now (omega (arith, c.requires.row)) in
    omega (arith, c.put_bytes-end.ensures.end_is, c.put_u64-end.ensures.end, c.put_u64.ensures.end)

pub returns-clause-bytes : goal.returns-clause-bytes
returns-clause-bytes c = λ stored fits row_is.
    cleared_row c.args.row.now c.args.out.now c.put_bytes-end.new.out c.put_u64-end.new.row c.put_u64.new.row c.args.at c.put_bytes-end.result c.put_u64-end.result c.put_u64.result stored row_is
    c.put_bytes-end.ensures
    (puts_word c.put_bytes-end.new.out c.put_u64-end.new.row c.put_bytes-end.result c.put_u64-end.result 0 c.put_u64-end.ensures.end c.put_u64-end.ensures.front c.put_u64-end.ensures.rest)
    (puts_word c.put_u64-end.new.row c.put_u64.new.row c.put_u64-end.result c.put_u64.result 0 c.put_u64.ensures.end c.put_u64.ensures.front c.put_u64.ensures.rest)
