-- A search in rows that are cut out of a table of written bytes finds what the shard has.
use Rattle.std.proofs.Common.{◌≡◌, inl, inr, true, ℕ, min, List, Ok, Err, refl, sym, ap, ◌∙◌, arith}
use Rattle.std.specs.Prelude.{MatchResult, IsOkAnd}
use Rattle.xet_core_structures.specs.declared.error.CoreError.{CoreError}
use Rattle.xet_core_structures.specs.declared.error.CoreError.TheVariants.{TruncatedHashCollision}
use Rattle.xet_core_structures.specs.declared.file_structs.MDBFileInfo.{MDBFileInfo}
use Rattle.xet_core_structures.specs.declared.xorb_structs.MDBXorbInfo.{MDBXorbInfo}
use Rattle.xet_core_structures.specs.declared.shard_format.MDBShardFileFooter.{MDBShardFileFooter}
use Rattle.xet_core_structures.specs.Errors.{CoreResult}
use Rattle.xet_core_structures.specs.Lookup.{Collides, IndexFailsAmong, IndexFinds, IsRowAndIndex, LooksUpIndex, StartsAmong}
use Rattle.xet_core_structures.specs.Source.{Source}
use Rattle.xet_core_structures.specs.Table.{Table, table_at, offset_of_row, FitsTable}
use Rattle.xet_core_structures.specs.WithOptions.{IsBytesWithOptions}
use Rattle.xet_records.specs.RecordKind.{RecordKind}
use Rattle.xet_records.proofs.RecordKinds.{KindLaws}
use Rattle.xet_shards.specs.Lookup.WrittenChunks.{RowsAmong}
use Rattle.xet_shards.specs.declared.shard_format.ends.options.LayoutOptions.{LayoutOptions}
use Rattle.xet_shards.proofs.Lookup.ChunkTables.{chunk_index_written}
use Rattle.xet_shards.proofs.Lookup.TableLookups.{IsLookedUp, index_written}
use Rattle.shard_bytes.specs.PartLookups.{CollidesAmong, FindsPlaces, FindsRowsIn, RefusesPlaces, RefusesTableRows}
use Rattle.shard_bytes.specs.RangeReads.{HasRowsWith, chunk_table_in}
use Rattle.shard_bytes.proofs.CutOut.{collides_of, places_of, rows_of, same_hits, sorted_part}
use Rattle.shard_bytes.proofs.Reading.{source_of}

-- a table of the starts of records
module _ {H R : Type 0} (K : RecordKind H R) (laws : KindLaws K) (d : R) (records : List R) (offset start count : ℕ) (shard : List ℕ)
    (looked : IsLookedUp K d records offset start count (source_of shard)) where
  abbrev of_shard : Table
  of_shard = table_at (source_of shard) start count 4

  abbrev src : Source
  src = source_of shard

  pub starts_fit : FitsTable of_shard
  unfolding offset_of_row
  starts_fit = record {
    countable = omega (arith, looked.count_is, looked.few, looked.section.fits.rows);
    placed = omega (arith, looked.start_fits, looked.count_is, looked.few, looked.section.fits.rows);
  }

  module _ (table : List ℕ) (word : ℕ) (cut : HasRowsWith of_shard table word) where
    -- a search that makes no seek
    looks_up : (r : CoreResult ℕ) (old new : List ℕ) → MatchResult r (IndexFinds of_shard word old new) (λ e. (e ≡ TruncatedHashCollision word) × Collides of_shard word) → LooksUpIndex of_shard word old new src src r
    looks_up (Ok n) old new finds = record {
      found = finds;
      no_failure = record { bytes = refl; failures = refl; last_failure = refl };
      refused = tt;
      kept = refl;
      bounds = λ sorted. record { made = 0; seeks = omega arith; few = omega arith; read = omega arith };
      even = λ is. omega arith;
    }
    looks_up (Err e) old new (is, collides) = record {
      found = tt;
      no_failure = tt;
      refused = inl (refl, is, collides);
      kept = refl;
      bounds = λ sorted. record { made = 0; seeks = omega arith; few = omega arith; read = omega arith };
      even = λ is. omega arith;
    }

    no_device : (e : CoreError) → IndexFailsAmong K records word src src e → CollidesAmong K records word e
    no_device e (inl failed) = absurd (omega (arith, failed.0))
    no_device e (inr collides) = collides

    -- the rows that are found are the starts of records with the word
    pub starts_found : (r : CoreResult ℕ) (old new : List ℕ) → MatchResult r (FindsRowsIn table word old new) (RefusesTableRows table word)
        → MatchResult r (StartsAmong K records word new) (CollidesAmong K records word)
    starts_found (Ok n) old new finds =
        index_written K laws d records offset start count src looked src word old new (Ok n) (looks_up (Ok n) old new (rows_of of_shard table word cut starts_fit n old new finds.finds))
    starts_found (Err e) old new (inl (is, not_whole)) = absurd (not_whole cut.is_part.whole)
    starts_found (Err e) old new (inr (is, collides)) =
        no_device e (index_written K laws d records offset start count src looked src word old new (Err e) (looks_up (Err e) old new (is, collides_of of_shard table word cut starts_fit collides)))

-- a chunk table
module _ (files : List MDBFileInfo) (xorbs : List MDBXorbInfo) (options : LayoutOptions) (footer : MDBShardFileFooter) (shard table : List ℕ) (word : ℕ)
    (is : IsBytesWithOptions files xorbs options shard footer) (with_table : options.chunk_table ≡ true) (cut : HasRowsWith (chunk_table_in footer shard) table word) where
  abbrev chunks_of_shard : Table
  chunks_of_shard = chunk_table_in footer shard

  -- the places that are found are those of chunks with the word
  pub chunks_found : (r : CoreResult ℕ) (old new : List (ℕ × ℕ)) → MatchResult r (FindsPlaces table word old new) (RefusesPlaces table)
      → IsOkAnd r (RowsAmong xorbs word old new)
  chunks_found (Ok n) old new finds =
      chunk_index_written files xorbs options (source_of shard) footer is with_table word (source_of shard) old new (Ok n) (places_of chunks_of_shard table word cut IsRowAndIndex n old new finds.found)
      (λ sorted. finds.all (sorted_part chunks_of_shard table cut.before cut.is_part sorted) ∙ ap (λ k. min k 8) (sym (same_hits chunks_of_shard table word cut))) tt
  chunks_found (Err e) old new (is_error, not_whole) = absurd (not_whole cut.is_part.whole)
