use Rattle.std.proofs.Common.{◌++◌, ℕ, List, slice_index, sym, ap, ◌∙◌, arith}
use Rattle.std.proofs.lemmas.List.{take_all}
use Rattle.xet_base.specs.Bytes.{u32_bytes}
use Rattle.xet_base.proofs.Blake3.{bytes_of_eight}
use Rattle.xet_base.proofs.keyed_hash.tree.words_as_bytes.Goals as goal

pub returns : goal.returns
returns c =
    let before : ℕ → List ℕ → List ℕ = λ i xs. xs ++ u32_bytes (slice_index c.args.w.now i) in
    let two = c.put_u32-at-2.ensures.front ∙ ap (before 1) c.put_u32-at.ensures.front in
    let three = c.put_u32-at-3.ensures.front ∙ ap (before 2) two in
    let four = c.put_u32-at-4.ensures.front ∙ ap (before 3) three in
    let five = c.put_u32-at-5.ensures.front ∙ ap (before 4) four in
    let six = c.put_u32-at-6.ensures.front ∙ ap (before 5) five in
    let seven = c.put_u32-at-7.ensures.front ∙ ap (before 6) six in
    let all = c.put_u32.ensures.front ∙ ap (before 7) seven in
    sym (take_all c.put_u32.result c.put_u32.new.row (omega arith)) ∙ all ∙ bytes_of_eight c.args.w.now (omega arith)
