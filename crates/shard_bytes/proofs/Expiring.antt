-- The bytes of a shard with another expiry.
use Rattle.std.proofs.Common.{◌≡◌, ℕ, ◌-◌, List, ◌++◌, length, take, Some, sym, ap, ◌∙◌, subst, refl, length-append, arith}
use Rattle.std.specs.FinMap.{values}
use Rattle.std.proofs.Math.Seq.{take-append_seam}
use Rattle.xet_core_structures.specs.declared.file_structs.MDBFileInfo.{MDBFileInfo}
use Rattle.xet_core_structures.specs.declared.xorb_structs.MDBXorbInfo.{MDBXorbInfo}
use Rattle.xet_core_structures.specs.declared.shard_format.MDBShardInfo.{MDBShardInfo}
use Rattle.xet_core_structures.specs.FileRecord.{file_records}
use Rattle.xet_core_structures.specs.Layout.{if_included, shard_header_bytes, header_value, shard_footer_bytes, footer_value, layout_of, layout, plain_options}
use Rattle.xet_core_structures.specs.Shard.{Shard}
use Rattle.xet_core_structures.specs.WrittenShard.{IsBytesWithoutExpiry}
use Rattle.xet_core_structures.specs.XorbRecord.{xorb_records}
use Rattle.xet_shards.specs.declared.shard_writer.LayoutOptions.{LayoutOptions}
use Rattle.xet_shards.specs.Write.Section.{section_bytes}
use Rattle.xet_shards.specs.Write.Tables.{table_bytes, chunk_table_bytes}
use Rattle.xet_shards.proofs.Ends.EndsUnique.{only_info, ends_of_bytes, bytes_without_expiry}
use Rattle.xet_shards.proofs.Write.Layouts.{length-shard_footer_bytes}
use Rattle.xet_core_structures.specs.declared.error.CoreError.{CoreError}
use Rattle.xet_core_structures.specs.TwoShards.ByteResults.{LoadRefusal}
use Rattle.shard_bytes.specs.Expiry.{HasNewExpiry}
use Rattle.shard_bytes.proofs.Walks.{not_refused as never_refused}

-- all but the last bytes, which are as many
front_of : (n : ℕ) (front back : List ℕ) → length back ≡ n → take (length (front ++ back) - n) (front ++ back) ≡ front
front_of n front back size =
    let whole = length-append front back in
    let here : length (front ++ back) - n ≡ length front = omega (arith, whole, size) in
    ap (λ k. take k (front ++ back)) here ∙ take-append_seam front back

module _ (files : List MDBFileInfo) (xorbs : List MDBXorbInfo) (options : LayoutOptions) where
  before_footer : List ℕ
  before_footer =
      ((((shard_header_bytes (header_value options.version) ++ section_bytes file_records files) ++ section_bytes xorb_records xorbs) ++ if_included options.file_table (table_bytes file_records files)) ++ if_included options.xorb_table (table_bytes xorb_records xorbs))
      ++ if_included options.chunk_table (chunk_table_bytes xorbs)

  layout_is : (expiry : ℕ) → layout_of files xorbs (record options { expiry = expiry }) ≡ before_footer ++ shard_footer_bytes (footer_value files xorbs (record options { expiry = expiry }))
  unfolding layout_of before_footer
  layout_is expiry = refl

  with_footer : (old new : ℕ) → take (length (layout_of files xorbs (record options { expiry = old })) - 200) (layout_of files xorbs (record options { expiry = old })) ++ shard_footer_bytes (footer_value files xorbs (record options { expiry = new }))
      ≡ layout_of files xorbs (record options { expiry = new })
  with_footer old new =
      let footer = shard_footer_bytes (footer_value files xorbs (record options { expiry = old })) in
      let size = length-shard_footer_bytes (footer_value files xorbs (record options { expiry = old })) refl in
      ap (λ bs. take (length bs - 200) bs ++ shard_footer_bytes (footer_value files xorbs (record options { expiry = new }))) (layout_is old)
      ∙ ap (λ bs. bs ++ shard_footer_bytes (footer_value files xorbs (record options { expiry = new }))) (front_of 200 before_footer footer size)
      ∙ sym (layout_is new)

-- the bytes of a shard without expiry become those of the shard with one
pub expiry_of_shard : (s : Shard) (expiry : ℕ) (bytes changed : List ℕ) → IsBytesWithoutExpiry s bytes → HasNewExpiry expiry bytes changed → changed ≡ layout s (Some expiry)
expiry_of_shard s expiry bytes changed is new =
    let found = only_info bytes new.info _ new.ends (ends_of_bytes s bytes (bytes_without_expiry is)) in
    new.changed_is
    ∙ ap (λ (i : MDBShardInfo). take (length bytes - 200) bytes ++ shard_footer_bytes (record i.metadata { shard_key_expiry = expiry })) found
    ∙ ap (λ bs. take (length bs - 200) bs ++ shard_footer_bytes (footer_value (values s.files) (values s.xorbs) (plain_options (Some expiry)))) is.bytes_are
    ∙ with_footer (values s.files) (values s.xorbs) (plain_options (Some expiry)) 18446744073709551615 expiry

-- header and footer of a shard's bytes are read
pub not_refused : (s : Shard) (bytes given : List ℕ) (e : CoreError) → given ≡ bytes → IsBytesWithoutExpiry s bytes → ¬ LoadRefusal given e
not_refused s bytes given e same is refusal = never_refused bytes _ (ends_of_bytes s bytes (bytes_without_expiry is)) e (subst (λ bs. LoadRefusal bs e) same refusal)
