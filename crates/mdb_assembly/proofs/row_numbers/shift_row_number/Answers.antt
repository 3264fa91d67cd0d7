use Rattle.std.proofs.Common.{arith, rules, subst, ◌≡◌, ◌+◌, ◌++◌}
use Rattle.xet_base.specs.Bytes.{u32_bytes}
use Rattle.mdb_assembly.proofs.RowNumbers.{number_read, number_put}
use Rattle.mdb_assembly.proofs.row_numbers.shift_row_number.Goals as goal

pub returns-in-Some-clause-value : goal.returns-in-Some-clause-value
returns-in-Some-clause-value c = λ before after number len fits are.
    let is = number_read before after _ _ number c.split_u32-number.result.0 _ len fits (search rules) are c.split_u32-number.ensures.bytes in
    let value : c.in-Some.shifted ≡ c.args.first + number = omega (arith, is, c.in-Some.ensures) in
    subst (λ n. c.put_u32.new.row ≡ before ++ (u32_bytes n ++ after)) value
    (number_put before after _ c.put_u32.new.row number c.in-Some.shifted _ _ len are c.put_u32.ensures.end c.put_u32.ensures.front c.put_u32.ensures.rest)

pub returns-in-None-clause-value : goal.returns-in-None-clause-value
returns-in-None-clause-value c = λ before after number len fits are.
    let is = number_read before after _ _ number c.split_u32-number.result.0 _ len fits (search rules) are c.split_u32-number.ensures.bytes in
    omega (arith, is, c.in-None.ensures)
