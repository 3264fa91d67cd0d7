use Rattle.std.proofs.Common.{refl}
use Rattle.xet_records.specs.FileRecord.{file_records}
use Rattle.xet_records.specs.View.{IsWholeFile}
use Rattle.xet_records.proofs.Views.{shown_as}
use Rattle.xet_records.proofs.KeptParts.{kept-whole}
use Rattle.xet_records.proofs.file_structs.view.MDBFileInfoView.kept_header.Goals as goal

pub returns-then-kept-clause-fits : goal.returns-then-kept-clause-fits
returns-then-kept-clause-fits c =
    let shown = shown_as file_records IsWholeFile c.self.inside.header c.self.inside.bytes _ _ _ refl c.self.view_is c.self.invariant in
    kept-whole c.args.kept c.args.self.now shown.whole.parts

pub returns-else-kept-clause-fits : goal.returns-else-kept-clause-fits
returns-else-kept-clause-fits c =
    let shown = shown_as file_records IsWholeFile c.self.inside.header c.self.inside.bytes _ _ _ refl c.self.view_is c.self.invariant in
    kept-whole c.args.kept c.args.self.now shown.whole.parts
