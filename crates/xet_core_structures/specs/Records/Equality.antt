-- Equality of errors, under a name that clauses can cite.
use Rattle.std.specs.Prelude.{Bool}
use Rattle.xet_base.specs.declared.error.CoreError.{CoreError}
use Rattle.xet_base.specs.contracts.error.CoreErrorPartialEq as equality

-- the result of `==` on errors
abbrev pub error_eq : CoreError → CoreError → Bool
error_eq = (equality.TheImpl.ghosts).eq
