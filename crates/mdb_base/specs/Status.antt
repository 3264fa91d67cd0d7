-- Exit statuses.
use Rattle.std.specs.Prelude.{ℕ}
use Rattle.mdb_base.specs.declared.status.Status.{Status}
use Rattle.mdb_base.specs.declared.status.Status.TheVariants.{Done, Failed, Nothing, Misused, Found, Partial}

-- the number that the process ends with
abbrev pub number_of : Status → ℕ
number_of Done = 0
number_of Failed = 1
number_of Nothing = 1
number_of Misused = 2
number_of Found = 3
number_of Partial = 4

-- what a check that finds something makes of the status so far: only a success changes
abbrev pub after_finding : Status → Status
after_finding Done = Found
after_finding Failed = Failed
after_finding Nothing = Nothing
after_finding Misused = Misused
after_finding Found = Found
after_finding Partial = Partial

-- what files that were left out make of the status of the others: only a success changes
abbrev pub after_leaving_out : Status → Status
after_leaving_out Done = Partial
after_leaving_out Failed = Failed
after_leaving_out Nothing = Nothing
after_leaving_out Misused = Misused
after_leaving_out Found = Found
after_leaving_out Partial = Partial
