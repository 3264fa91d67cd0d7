use Rattle.std.proofs.Common.{arith, ◌≡◌, ◌++◌, ◌∙◌, ap, length, take, length-append, append_assoc}
use Rattle.std.proofs.lemmas.List.{take_at}
use Rattle.xet_base.specs.Bytes.{u32_bytes, u64_bytes}
use Rattle.xet_base.proofs.Bytes.{length-u32_bytes, length-u64_bytes}
use Rattle.mdb_assembly.proofs.runs.row_of.Goals as goal

-- the three numbers are the first sixteen bytes
pub returns : goal.returns
returns c =
    let word = u64_bytes c.split_u64-word.result.0 in
    let row = u32_bytes c.split_u32-row.result.0 in
    let index = u32_bytes c.split_u32-index.result.0 in
    let rest = c.split_u32-index.result.1.now in
    let regrouped : word ++ (row ++ (index ++ rest)) ≡ ((word ++ row) ++ index) ++ rest = simp append_assoc in
    let bytes : c.args.bytes.now ≡ ((word ++ row) ++ index) ++ rest =
    c.split_u64-word.ensures.bytes
    ∙ ap (λ l. word ++ l) (c.split_u32-row.ensures.bytes ∙ ap (λ l. row ++ l) c.split_u32-index.ensures.bytes)
    ∙ regrouped in
    let len : length ((word ++ row) ++ index) ≡ 16 =
    omega (
      arith,
      length-append (word ++ row) index,
      length-append word row,
      length-u64_bytes c.split_u64-word.result.0,
      length-u32_bytes c.split_u32-row.result.0,
      length-u32_bytes c.split_u32-index.result.0,
    ) in
    ap (take 16) bytes ∙ take_at ((word ++ row) ++ index) rest 16 len
