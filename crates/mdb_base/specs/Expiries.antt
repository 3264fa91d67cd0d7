-- The expiry of a shard, and the earliest of some.
use Rattle.std.specs.Prelude.{ℕ, ◌≡◌, ◌≤◌, Option, Some, None}
use Rattle.std.specs.Prelude.{List, All, Contains, IfSome, IsNone, map, min}
use Rattle.std.specs.Borrow.{Bor}
use Rattle.std.specs.List.{AllZip}
use Rattle.xet_core_structures.specs.declared.shard_format.MDBShardInfo.{MDBShardInfo}
use Rattle.xet_core_structures.specs.Ends.{HasHeaderAndFooter}
use Rattle.mdb_report.specs.ExpiryReport.{expiry_in}
use Rattle.mdb_base.specs.Keys.{NoInfos}
use Rattle.mdb_base.specs.declared.failure.Failure.{Failure}
use Rattle.mdb_base.specs.declared.request.NewExpiry.{NewExpiry}
use Rattle.mdb_base.specs.declared.request.NewExpiry.TheVariants.{Unset, At, Earliest}

-- the expiry that a footer says
abbrev pub shard_expiry : MDBShardInfo → Option ℕ
shard_expiry info = expiry_in info.metadata.shard_key_expiry

-- the earlier of two expiries, where none is later than any
abbrev pub earlier_of : Option ℕ → Option ℕ → Option ℕ
earlier_of None other = other
earlier_of (Some one) None = Some one
earlier_of (Some one) (Some other) = Some (min one other)

-- an expiry is the earliest of some: one of them, and none is before it; or none, as all are
abbrev pub IsEarliest : List (Option ℕ) → Option ℕ → Type 0
IsEarliest expiries None = All (λ x. IsNone x) expiries
IsEarliest expiries (Some expiry) =
    Contains expiries (Some expiry) × All (λ x. IfSome x (λ other. expiry ≤ other)) expiries

-- the expiry of what is made of inputs, each with its file: of the earliest, none is before it that an
-- input has
abbrev pub IsNewExpiry : NewExpiry → List (Bor (List ℕ) × Bor (List ℕ)) → Option ℕ → Type 0
IsNewExpiry Unset inputs expiry = expiry ≡ None
IsNewExpiry (At time) inputs expiry = expiry ≡ Some time
IsNewExpiry Earliest inputs expiry =
    (infos : List MDBShardInfo) × AllZip (λ p info. HasHeaderAndFooter p.1.now info) inputs infos
    × IsEarliest (map shard_expiry infos) expiry

-- why the expiry of what is made of inputs is not known: it is theirs, and not all have header and
-- footer, or memory is lacking
abbrev pub NoNewExpiry : NewExpiry → List (Bor (List ℕ) × Bor (List ℕ)) → Failure → Type 0
NoNewExpiry wanted inputs failure = (wanted ≡ Earliest) × NoInfos inputs failure
