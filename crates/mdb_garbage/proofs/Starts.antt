-- The starts of chunks, one after another.
use Rattle.std.proofs.Common.{◌≡◌, ◌⊎◌, inl, inr, ℕ, ◌+◌, ◌<◌, ◌≤◌, List, length, get_or, take, sym, ap, ◌∙◌, arith}
use Rattle.std.specs.Prelude.{slice_get}
use Rattle.std.proofs.lemmas.Option.{same_Some, slice_get_within, slice_get-get_or}
use Rattle.xet_records.specs.declared.xorb_structs.XorbChunkSequenceEntry.{XorbChunkSequenceEntry}
use Rattle.xet_records.specs.declared.xorb_structs.MDBXorbInfo.{MDBXorbInfo}
use Rattle.xet_records.specs.XorbRecord.{total_bytes}
use Rattle.mdb_garbage.specs.declared.finding.Misfit.{Misfit}
use Rattle.mdb_garbage.specs.declared.finding.Misfit.TheVariants.{Unnamed, Total, Start, Lacking, Outside, Bytes}
use Rattle.mdb_garbage.specs.Garbage.{StartsAdd, IsStart}
use Rattle.mdb_garbage.proofs.FileSegments.{below_or_at}

pub starts_on : (chunks : List XorbChunkSequenceEntry) (index sum : ℕ) (d : XorbChunkSequenceEntry) → index < length chunks → sum ≡ total_bytes (take index chunks)
    → (get_or chunks index d).chunk_byte_range_start ≡ sum → StartsAdd chunks index → StartsAdd chunks (index + 1)
starts_on chunks index sum d low sum_is start starts j c below at = of (below_or_at j index below) where
  of : (j < index) ⊎ (j ≡ index) → c.chunk_byte_range_start ≡ total_bytes (take j chunks)
  of (inl less) = starts j c less at
  of (inr same) =
      let c_is : get_or chunks index d ≡ c = same_Some _ _ (sym (slice_get-get_or chunks index d low) ∙ sym (ap (slice_get chunks) same) ∙ at) in
      ap (λ (x : XorbChunkSequenceEntry). x.chunk_byte_range_start) (sym c_is) ∙ start ∙ sum_is ∙ sym (ap (λ n. total_bytes (take n chunks)) same)

pub none_starts : (x : MDBXorbInfo) (n : ℕ) → StartsAdd x.chunks n → length x.chunks ≤ n → (misfit : Misfit) → ¬ IsStart x misfit
none_starts x n starts past (Start i said sum) ((c, at, said_is), sum_is, differ, before) =
    differ (sym said_is ∙ starts i c (omega (arith, past, slice_get_within x.chunks i c at)) at ∙ sym sum_is)
none_starts x n starts past Unnamed is = is
none_starts x n starts past (Total said sum) is = is
none_starts x n starts past (Lacking s) is = is
none_starts x n starts past (Outside s chunks) is = is
none_starts x n starts past (Bytes s sum) is = is
