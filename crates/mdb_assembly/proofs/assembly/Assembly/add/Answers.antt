use Rattle.std.proofs.Common.{inr, subst, sym}
use Rattle.std.proofs.lemmas.Result.{on_ok_weaker, IfErr-weaker}
use Rattle.mdb_assembly.specs.Assembly.{AddFails, AddsFiles, AddsPart, AddsRows, AddsXorbs, BeginsPart, FitFiles, FitSection, FitSums, FitXorbs, StepFails, AssemblyState, state_of}
use Rattle.mdb_assembly.proofs.AddedParts.{begins_part, fit_files, fit_xorbs, step_fails}
use Rattle.mdb_assembly.proofs.assembly.Assembly.add.Goals as goal

-- the header, and then the rows of the files
pub returns-in-Files-clause-added : goal.returns-in-Files-clause-added
returns-in-Files-clause-added g c =
    let contents = g.F.Write.contents in
    let part = c.args.part.now in
    let info = c.in_ok-footer.field-0 in
    let old = state_of contents c.args.self.now in
    let new = state_of contents c.add_files.new.self in
    let begun : AssemblyState = record (state_of contents c.write_header.new.self) { counts = c.in_ok-self.field-0 } in
    let begins : BeginsPart info.metadata part old begun =
    begins_part contents info.metadata part c.args.self.now c.write_header.new.self c.in_ok-self.field-0
    c.in_ok-write_header.ensures.header c.in_ok-write_header.ensures.written c.in_ok-write_header.ensures.others
    c.in_ok-self.ensures in
    on_ok_weaker {P = AddsFiles info.metadata part begun new} {Q = AddsPart c.args.section part old new}
    c.add_files.result (λ rows. (
      info,
      begun,
      c.in_ok-footer.ensures,
      begins,
      subst (λ section. AddsRows section info.metadata part begun new) (sym c.in-Files.is) rows,
    )) c.add_files.ensures.added

-- the files have no room after the header only if they have none before
pub returns-in-Files-clause-causes : goal.returns-in-Files-clause-causes
returns-in-Files-clause-causes g c =
    let contents = g.F.Write.contents in
    let part = c.args.part.now in
    let info = c.in_ok-footer.field-0 in
    let old = state_of contents c.args.self.now in
    let begun : AssemblyState = record (state_of contents c.write_header.new.self) { counts = c.in_ok-self.field-0 } in
    let begins : BeginsPart info.metadata part old begun =
    begins_part contents info.metadata part c.args.self.now c.write_header.new.self c.in_ok-self.field-0
    c.in_ok-write_header.ensures.header c.in_ok-write_header.ensures.written c.in_ok-write_header.ensures.others
    c.in_ok-self.ensures in
    IfErr-weaker c.add_files.result (StepFails (FitFiles info.metadata part begun)) (AddFails c.args.section part old)
    (λ e fails. inr (
      info,
      c.in_ok-footer.ensures,
      step_fails (FitFiles info.metadata part begun) (FitSums info.metadata old.counts × FitSection c.args.section info.metadata part old)
          e (λ fit. fit_files info.metadata part old begun begins
          (subst (λ section. FitSection section info.metadata part old) c.in-Files.is fit.1)) fails,
    )) c.add_files.ensures.causes

-- the header, and then the rows of the xorbs
pub returns-in-Xorbs-clause-added : goal.returns-in-Xorbs-clause-added
returns-in-Xorbs-clause-added g c =
    let contents = g.F.Write.contents in
    let part = c.args.part.now in
    let info = c.in_ok-footer.field-0 in
    let old = state_of contents c.args.self.now in
    let new = state_of contents c.add_xorbs.new.self in
    let begun : AssemblyState = record (state_of contents c.write_header.new.self) { counts = c.in_ok-self.field-0 } in
    let begins : BeginsPart info.metadata part old begun =
    begins_part contents info.metadata part c.args.self.now c.write_header.new.self c.in_ok-self.field-0
    c.in_ok-write_header.ensures.header c.in_ok-write_header.ensures.written c.in_ok-write_header.ensures.others
    c.in_ok-self.ensures in
    on_ok_weaker {P = AddsXorbs info.metadata part begun new} {Q = AddsPart c.args.section part old new}
    c.add_xorbs.result (λ rows. (
      info,
      begun,
      c.in_ok-footer.ensures,
      begins,
      subst (λ section. AddsRows section info.metadata part begun new) (sym c.in-Xorbs.is) rows,
    )) c.add_xorbs.ensures.added

-- the xorbs have no room after the header only if they have none before
pub returns-in-Xorbs-clause-causes : goal.returns-in-Xorbs-clause-causes
returns-in-Xorbs-clause-causes g c =
    let contents = g.F.Write.contents in
    let part = c.args.part.now in
    let info = c.in_ok-footer.field-0 in
    let old = state_of contents c.args.self.now in
    let begun : AssemblyState = record (state_of contents c.write_header.new.self) { counts = c.in_ok-self.field-0 } in
    let begins : BeginsPart info.metadata part old begun =
    begins_part contents info.metadata part c.args.self.now c.write_header.new.self c.in_ok-self.field-0
    c.in_ok-write_header.ensures.header c.in_ok-write_header.ensures.written c.in_ok-write_header.ensures.others
    c.in_ok-self.ensures in
    IfErr-weaker c.add_xorbs.result (StepFails (FitXorbs info.metadata part begun)) (AddFails c.args.section part old)
    (λ e fails. inr (
      info,
      c.in_ok-footer.ensures,
      step_fails (FitXorbs info.metadata part begun) (FitSums info.metadata old.counts × FitSection c.args.section info.metadata part old)
          e (λ fit. fit_xorbs info.metadata part old begun begins
          (subst (λ section. FitSection section info.metadata part old) c.in-Xorbs.is fit.1)) fails,
    )) c.add_xorbs.ensures.causes
