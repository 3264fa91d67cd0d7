use Rattle.std.proofs.Common.{◌≡◌, ◌+◌, ◌*◌, List, drop, map, ap, ◌∙◌, subst, arith}
use Rattle.std.proofs.lemmas.List.{drop-drop}
use Rattle.std.proofs.lemmas.Result.{IfOk-weaker}
use Rattle.xet_core_structures.specs.declared.xorb_structs.MDBXorbInfo.{MDBXorbInfo}
use Rattle.xet_core_structures.specs.FileRecord.{IsWellFormed, file_records, file_records_in}
use Rattle.xet_core_structures.specs.KeyedExport.{BadSection, xorbs_after}
use Rattle.xet_core_structures.specs.SectionReading.{IsSection}
use Rattle.xet_core_structures.specs.XorbRecord.{IsXorb, xorb_records}
use Rattle.xet_shards.specs.Write.Section.{total_rows}
use Rattle.xet_shards.specs.Write.Tables.{hash_in}
use Rattle.shard_bytes.specs.declared.check.Section.TheVariants.{Files, Xorbs}
use Rattle.shard_bytes.specs.Checking.{IsReadAs}
use Rattle.shard_bytes.specs.Steps.CheckingSteps.{IsReport, IsUnreadable, AddsDisorder, AddsMalformed}
use Rattle.shard_bytes.proofs.Checking.{header_in, report_of}
use Rattle.shard_bytes.proofs.Reading.{files_unread, xorbs_unread}
use Rattle.shard_bytes.proofs.check.check_sections.Goals as goal
use Rattle.shard_bytes.proofs.check.check_sections.Goals.{In-Ok}

pub returns-in-Err-clause-report : goal.returns-in-Err-clause-report
returns-in-Err-clause-report c =
    let bytes = c.args.bytes.now in
    let e = c.in-Err.error in
    let bad = subst (λ p. p) (λ i. BadSection (file_records_in (c.of_header-version.ensures i)) (c.bytes_from-from_files.ensures i) e) c.in-Err.ensures in
    IfOk-weaker c.section_findings.result (λ found. IsUnreadable Files e found.items) (λ found. IsReport bytes found.items)
    (λ found unreadable. files_unread bytes c.args.info.now c.requires e found.items bad unreadable)
    c.section_findings.ensures.report

-- the files were read
the_files : (c : In-Ok) → IsSection (file_records_in (header_in c.args.bytes.now c.args.info.now c.requires).version) (drop 48 c.args.bytes.now) c.in-Ok.files.records.items
the_files c = subst (λ p. p) (λ i. IsSection (file_records_in (c.of_header-version.ensures i)) (c.bytes_from-from_files.ensures i) c.in-Ok.files.records.items) c.in-Ok.ensures.0

-- what comes after them
after_files : (c : In-Ok) → c.in-Ok.files.rest.now ≡ drop (xorbs_after c.in-Ok.files.records.items) c.args.bytes.now
after_files c =
    let size = 48 * (total_rows file_records c.in-Ok.files.records.items + 1) in
    c.in-Ok.ensures.1 ∙ ap (drop size) c.bytes_from-from_files.ensures ∙ drop-drop size 48 c.args.bytes.now ∙ ap (λ n. drop n c.args.bytes.now) (omega arith)

pub returns-in-Err-read_section-clause-report : goal.returns-in-Err-read_section-clause-report
returns-in-Err-read_section-clause-report c =
    let f = (goal.at.returns-in-Err-read_section-clause-report c).In-Ok in
    let bytes = c.args.bytes.now in
    let e = c.in-Err-read_section.error in
    let bad = subst (λ bs. BadSection xorb_records bs e) (after_files f) c.in-Err-read_section.ensures in
    IfOk-weaker c.section_findings-in-Err-read_section.result (λ found. IsUnreadable Xorbs e found.items) (λ found. IsReport bytes found.items)
    (λ found unreadable. xorbs_unread bytes c.args.info.now c.requires c.in-Ok.files.records.items (the_files f) e found.items bad unreadable)
    c.section_findings-in-Err-read_section.ensures.report

-- both sections were read
read_so : (c : In-Ok) (xorbs : List MDBXorbInfo) → IsSection xorb_records c.in-Ok.files.rest.now xorbs → IsReadAs c.args.bytes.now c.args.info.now c.in-Ok.files.records.items xorbs
read_so c xorbs section = record {
  ends = c.requires;
  sections = record {
    header = header_in c.args.bytes.now c.args.info.now c.requires;
    file_section = the_files c;
    xorb_section = subst (λ bs. IsSection xorb_records bs xorbs) (after_files c) section;
  };
}

pub push_differences-requires-clause-read : goal.push_differences-requires-clause-read
push_differences-requires-clause-read c =
    read_so (goal.at.push_differences-requires-clause-read c).In-Ok c.in-Ok-read_section.xorbs.records.items c.in-Ok-read_section.ensures.0

pub returns-clause-report : goal.returns-clause-report
returns-clause-report c =
    let files = c.in-Ok.files.records.items in
    let xorbs = c.in-Ok-read_section.xorbs.records.items in
    let is_files = c.as_slice-files.ensures.value in
    let is_xorbs = c.as_slice-xorbs.ensures.value in
    let l1 = c.push_disorder.new.findings.items in
    let l2 = c.push_disorder-2.new.findings.items in
    let l3 = c.push_malformed.new.findings.items in
    let l4 = c.push_malformed-2.new.findings.items in
    report_of c.args.bytes.now c.args.info.now files xorbs (read_so (goal.at.returns-clause-report c).In-Ok xorbs c.in-Ok-read_section.ensures.0) l1 l2 l3 l4 c.push_differences.new.findings.items
    (subst (λ p. p) (λ i. AddsDisorder Files (map (hash_in file_records) (is_files i)) (c.new-findings.ensures.items i) l1) c.in_ok-push_disorder.ensures.added)
    (subst (λ rs. AddsDisorder Xorbs (map (hash_in xorb_records) rs) l1 l2) is_xorbs c.in_ok-push_disorder-2.ensures.added)
    (subst (λ rs. AddsMalformed Files IsWellFormed rs l2 l3) is_files c.in_ok-push_malformed.ensures.added)
    (subst (λ rs. AddsMalformed Xorbs IsXorb rs l3 l4) is_xorbs c.in_ok-push_malformed-2.ensures.added)
    c.in_ok-push_differences.ensures.added
