-- What is opened of the records that are selected, whether by a scan or by tables.
use Rattle.std.proofs.Common.{◌≡◌, inl, inr, ℕ, ◌+◌, ◌*◌, ◌≤◌, List, [], ◌∷◌, length, refl, ap, sym, ◌∙◌, subst, arith}
use Rattle.std.specs.Prelude.{All}
use Rattle.std.proofs.lemmas.List.Elements.{All-filter}
use Rattle.xet_base.specs.declared.error.CoreError.{CoreError}
use Rattle.xet_base.specs.declared.error.CoreError.TheVariants.{OutOfMemory}
use Rattle.xet_records.specs.FileRecord.{file_records, FitsRecord}
use Rattle.xet_records.specs.Limits.{MAX_ROWS}
use Rattle.xet_records.specs.Version.{version_of}
use Rattle.xet_records.specs.XorbRecord.{xorb_records}
use Rattle.xet_records.proofs.RecordKinds.{stored_ever}
use Rattle.xet_shards.specs.Read.SectionReading.{files_of}
use Rattle.xet_shards.specs.declared.shard_format.ends.options.LayoutOptions.{LayoutOptions}
use Rattle.xet_shards.specs.Write.Section.{total_rows}
use Rattle.xet_shards.specs.Write.Tables.{hash_in}
use Rattle.xet_shards.proofs.Ends.EndsUnique.{not_too_short, not_unsupported}
use Rattle.xet_shards.proofs.Write.Sections.{files_laws}
use Rattle.xet_core_structures.specs.TwoShards.ByteResults.{keyed_options}
use Rattle.xet_core_structures.proofs.LawProofs.UnionSizes.{rows_held}
use Rattle.xet_core_structures.proofs.Records.ListMaps.{shard_of, values-list_map}
use Rattle.xet_core_structures.proofs.Records.RecordsAsRead.{all_handed}
use Rattle.placed_shards.specs.declared.range.HashRange.{HashRange}
use Rattle.placed_shards.specs.declared.selection.Access.{Access}
use Rattle.placed_shards.specs.declared.selection.Access.TheVariants.{Scan, Tables}
use Rattle.placed_shards.specs.declared.selection.Selection.{Selection}
use Rattle.placed_shards.specs.ByTables.{OpensByTables, ByTablesRefusal}
use Rattle.placed_shards.specs.Content.{Content, AscendBoth, content_within, with_all_tables}
use Rattle.placed_shards.specs.Findings.{AreOpened}
use Rattle.placed_shards.specs.Opening.{Opens}
use Rattle.placed_shards.specs.Ranges.{is_within}
use Rattle.placed_shards.specs.Selections.{OpensWithin, OpensBy, OpensSelected, RefusalBy, SelectedRefusal}
use Rattle.placed_shards.proofs.OneByTables.{one_by_tables, rows_by_tables}
use Rattle.placed_shards.proofs.Opening.{opened_ascend, opened_shard, opens_once, read_well}
use Rattle.placed_shards.proofs.Within.{rows_passing, those_ascend}

-- bytes have one list of files and one of xorbs that are selected
opens_within_once : (range : HashRange) (x : List ℕ) (c d : Content) → OpensWithin range x c → OpensWithin range x d → c ≡ d
opens_within_once range x c d one other = one.2 ∙ ap (λ e. with_all_tables (content_within range e)) (opens_once x one.0 other.0 one.1 other.1) ∙ sym other.2

opens_by_once : (access : Access) (range : HashRange) (x : List ℕ) (c d : Content) → OpensBy access range x c → OpensBy access range x d → c ≡ d
opens_by_once Scan range x c d one other = opens_within_once range x c d one other
opens_by_once Tables range x c d one other = one_by_tables range x c d one other

pub opens_selected_once : (selection : Selection) (x : List ℕ) (c d : Content) → OpensSelected selection x c → OpensSelected selection x d → c ≡ d
opens_selected_once selection = opens_by_once selection.access selection.range

pub opened_once : (selection : Selection) (inputs : List (List ℕ)) (cs ds : List Content) → AreOpened selection inputs cs → AreOpened selection inputs ds → cs ≡ ds
opened_once selection [] [] [] one other = refl
opened_once selection [] [] (d ∷ ds) one other = absurd other
opened_once selection [] (c ∷ cs) ds one other = absurd one
opened_once selection (x ∷ inputs) [] ds one other = absurd one
opened_once selection (x ∷ inputs) (c ∷ cs) [] one other = absurd other
opened_once selection (x ∷ inputs) (c ∷ cs) (d ∷ ds) one other =
    let first = opens_selected_once selection x c d one.0 other.0 in
    let rest = opened_once selection inputs cs ds one.1 other.1 in
    λ i. first i ∷ rest i

-- they are opened, unless an allocation fails
found_by_tables : (range : HashRange) (x : List ℕ) (c : Content) (e : CoreError) → OpensByTables range x c → ByTablesRefusal range x e → e ≡ OutOfMemory
found_by_tables range x c e opens (inl none) = none
found_by_tables range x c e opens (inr (inl (inl (is, unsupported)))) = absurd (not_unsupported x opens.info opens.ends unsupported)
found_by_tables range x c e opens (inr (inl (inr (is, short)))) = absurd (not_too_short x opens.info opens.ends short)
found_by_tables range x c e opens (inr (inr (invalid, never))) = absurd (never c opens)

found_by : (access : Access) (range : HashRange) (x : List ℕ) (c : Content) (e : CoreError) → OpensBy access range x c → RefusalBy access range x e → e ≡ OutOfMemory
found_by Scan range x c e opens refusal = read_well x opens.0 e opens.1 refusal
found_by Tables range x c e opens refusal = found_by_tables range x c e opens refusal

pub selected_well : (selection : Selection) (x : List ℕ) (c : Content) (e : CoreError) → OpensSelected selection x c → SelectedRefusal selection x e → e ≡ OutOfMemory
selected_well selection = found_by selection.access selection.range

-- what is known of them: they ascend, fit sections, and have no more rows than the bytes; all options but the key are plain
pub record IsSelected (x : List ℕ) (c : Content) : Type 0 where
  pub ascend : AscendBoth c
  pub options_are : c.options ≡ keyed_options c.options.key
  pub file_rows : total_rows file_records c.files ≤ MAX_ROWS
  pub xorb_rows : total_rows xorb_records c.xorbs ≤ MAX_ROWS
  pub fit : All FitsRecord c.files
  pub few : 48 * (total_rows file_records c.files + total_rows xorb_records c.xorbs) ≤ 2 * length x

within_is : (range : HashRange) (x : List ℕ) (whole : Content) → Opens x whole → IsSelected x (with_all_tables (content_within range whole))
within_is range x whole opens =
    let ascend = opened_ascend x whole opens in
    let files = rows_passing file_records (is_within range) whole.files in
    let xorbs = rows_passing xorb_records (is_within range) whole.xorbs in
    record {
      ascend = record {
        files = those_ascend file_records (is_within range) whole.files ascend.files;
        xorbs = those_ascend xorb_records (is_within range) whole.xorbs ascend.xorbs;
      };
      options_are = refl;
      file_rows = omega (arith, files, opens.lists.files.writable.rows);
      xorb_rows = omega (arith, xorbs, opens.lists.xorbs.writable.rows);
      fit = All-filter (λ r. is_within range (hash_in file_records r)) FitsRecord whole.files
          (λ k r below. (stored_ever file_records (version_of opens.info.header.version) _ (opens.lists.files.writable.stored k r below)).widths);
      few = omega (
        arith,
        files,
        xorbs,
        rows_held x (shard_of (record { files = whole.files; xorbs = whole.xorbs })) (opened_shard x whole opens),
        ap (total_rows file_records) (values-list_map file_records whole.files ascend.files),
        ap (total_rows xorb_records) (values-list_map xorb_records whole.xorbs ascend.xorbs),
      );
    }

by_tables_is : (range : HashRange) (x : List ℕ) (c : Content) → OpensByTables range x c → IsSelected x c
by_tables_is range x c opens = record {
  ascend = record { files = opens.files.ascends; xorbs = opens.xorbs.ascends };
  options_are = opens.options_are ∙ ap (λ (o : LayoutOptions). keyed_options o.key) (sym opens.options_are);
  file_rows = omega (arith, opens.files.rows, opens.files.fits);
  xorb_rows = omega (arith, opens.xorbs.rows, opens.xorbs.fits);
  fit = λ k r below. (stored_ever file_records (version_of opens.info.header.version) _
      (all_handed (files_of opens.info) (files_laws (version_of opens.info.header.version)) opens.files.stored c.files opens.files.records.are_stored opens.files.returned k r below)).widths;
  few = rows_by_tables range x c opens;
}

by_is : (access : Access) (range : HashRange) (x : List ℕ) (c : Content) → OpensBy access range x c → IsSelected x c
by_is Scan range x c (whole, opens, is) = subst (IsSelected x) (sym is) (within_is range x whole opens)
by_is Tables range x c opens = by_tables_is range x c opens

pub selected : (selection : Selection) (x : List ℕ) (c : Content) → OpensSelected selection x c → IsSelected x c
selected selection = by_is selection.access selection.range
