use Rattle.std.proofs.Common.{refl}
use Rattle.std.proofs.lemmas.Result.{MatchResult-weaker}
use Rattle.xet_records.proofs.RecordKinds.{chunks_after}
use Rattle.xet_records.proofs.xorb_structs.MDBXorbInfoSectionRecord.skip_rows_after.Goals as goal

pub returns : goal.returns
returns g c =
    let h = c.args.header in
    MatchResult-weaker c.skip_rows.result c.skip_rows.ensures (λ v rows. (record { metadata = h; chunks = rows.0 }, refl, chunks_after _ h rows.0 rows.1)) (λ e fails. fails)
