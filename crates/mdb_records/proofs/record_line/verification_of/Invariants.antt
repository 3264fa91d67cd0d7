use Rattle.std.proofs.Common.{◌≡◌, take, map}
use Rattle.mdb_records.proofs.record_line.verification_of.Given as goal

abbrev pub invariant-loop-hash : goal.invariant-loop-hash
invariant-loop-hash l = map (λ row. record { 0 = row.hash }) l.made ≡ take l.hash-index l.hashes
