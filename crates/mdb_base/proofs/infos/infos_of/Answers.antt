use Rattle.std.proofs.Common.{arith, rules, List, ℕ, Bor, ◌≡◌, length}
use Rattle.std.proofs.Common.{[], ◌∷◌, ◌++◌, take, zip, ap, sym, subst, ◌∙◌, inr}
use Rattle.std.specs.List.{AllZip}
use Rattle.std.proofs.lemmas.List.{take_all, length-append}
use Rattle.std.proofs.lemmas.Slice.Zip.{zip_turn, zip_end, length-zip, all_zipped_more}
use Rattle.xet_core_structures.specs.TwoShards.ByteResults.{LoadRefusal}
use Rattle.mdb_report.specs.Faults.{IsFaultOf}
use Rattle.xet_core_structures.specs.Ends.{HasHeaderAndFooter}
use Rattle.xet_core_structures.specs.declared.shard_format.MDBShardInfo.{MDBShardInfo}
use Rattle.mdb_base.proofs.Zipped.{take_turn, contains_turn}
use Rattle.mdb_base.proofs.infos.infos_of.Goals as goal

abbrev HasInfo : Bor (List ℕ) × Bor (List ℕ) → MDBShardInfo → Type 0
HasInfo p info = HasHeaderAndFooter p.1.now info

-- the failure is on the file of this turn
pub returns-in-Err : goal.returns-in-Err
returns-in-Err c =
    let files = c.args.files.now in
    let inputs = c.args.inputs.now in
    let turn =
    zip_turn files inputs c.loop-file.yielded c.into_iter-file-iterator.result c.loop-file.file-iterator
    c.next.new.self c.next.result (search rules) (search rules) c.loop-file.yielded_by
    (c.in-Some.file, c.in-Some.bytes) c.in-Some.is c.next.ensures.steps in
    let found =
    contains_turn files inputs (length c.loop-file.yielded) c.in-Some.file.now c.in-Some.bytes.now turn.0 turn.1
    (turn.2 c.in-Some.file.now) (turn.3 c.in-Some.bytes.now) in
    let refusal : LoadRefusal c.in-Some.bytes.now.now c.in-Err.error = c.in-Err.ensures in
    let fault : IsFaultOf c.in-Some.bytes.now.now c.in-Err.error c.on_file.result.fault =
    subst (IsFaultOf c.in-Some.bytes.now.now c.in-Err.error) (sym c.on_file.ensures.fault) c.fault_of.ensures.is in
    inr (c.in-Some.file.now, c.in-Some.bytes.now, found, c.on_file.ensures.subject, (c.in-Err.error, refusal, fault))

is_pushed : (c : goal.Else-is_err)
    → c.push.new.self.items ≡ c.loop-file.infos.items ++ c.in-Ok.info ∷ []
is_pushed c = search rules

-- one more header and footer, of the shard of this turn
pub loop-file-preserved : goal.loop-file-preserved
loop-file-preserved c =
    let files = c.args.files.now in
    let inputs = c.args.inputs.now in
    let yielded = c.loop-file.yielded in
    let pair : Bor (List ℕ) × Bor (List ℕ) = (c.in-Some.file.now, c.in-Some.bytes.now) in
    let turn =
    zip_turn files inputs yielded c.into_iter-file-iterator.result c.loop-file.file-iterator c.next.new.self
    c.next.result (search rules) (search rules) c.loop-file.yielded_by (c.in-Some.file, c.in-Some.bytes)
    c.in-Some.is c.next.ensures.steps in
    let more =
    take_turn files inputs (length yielded) c.in-Some.file.now c.in-Some.bytes.now turn.0 turn.1
    (turn.2 c.in-Some.file.now) (turn.3 c.in-Some.bytes.now) in
    let count = length-append yielded ((c.in-Some.file, c.in-Some.bytes) ∷ []) in
    let longer =
    all_zipped_more HasInfo (take (length yielded) (zip files inputs)) c.loop-file.infos.items pair
    c.in-Ok.info c.loop-file.invariant c.in-Ok.ensures in
    subst (λ l. AllZip HasInfo l c.push.new.self.items) (sym more ∙ ap (λ n. take n (zip files inputs)) (sym count)) (
    subst (AllZip HasInfo (take (length yielded) (zip files inputs) ++ pair ∷ [])) (sym (is_pushed c)) longer
    )

-- all shards were met
pub returns : goal.returns
returns c =
    let zipped = zip c.args.files.now c.args.inputs.now in
    let count =
    zip_end c.args.files.now c.args.inputs.now c.loop-file.yielded c.into_iter-file-iterator.result
    c.loop-file.file-iterator c.next.new.self c.next.result (search rules) (search rules) c.loop-file.yielded_by
    c.in-None.is c.next.ensures.steps in
    subst (λ l. AllZip (λ p info. HasHeaderAndFooter p.1.now info) l c.loop-file.infos.items) (
    take_all (length c.loop-file.yielded) zipped (omega (arith, count, length-zip c.args.files.now c.args.inputs.now))
    ) c.loop-file.invariant
