-- Xorbs under no key are as they are.
use Rattle.std.proofs.Common.{◌≡◌, true, List, [], ◌∷◌, map, refl, if◌then◌else◌}
use Rattle.xet_base.specs.declared.merklehash.DataHash.{DataHash}
use Rattle.xet_base.specs.Hash.{hash_eq}
use Rattle.xet_base.specs.KeyedHash.{hmac, no_key}
use Rattle.xet_records.specs.declared.xorb_structs.MDBXorbInfo.{MDBXorbInfo}
use Rattle.xet_records.specs.declared.xorb_structs.XorbChunkSequenceEntry.{XorbChunkSequenceEntry}
use Rattle.xet_shards.specs.Export.KeyedExport.{keyed_chunk, keyed_xorbs}

module _ (key : DataHash) (none : hash_eq key no_key ≡ true) where
  chunks_as_they_are : (chunks : List XorbChunkSequenceEntry) → map (keyed_chunk key) chunks ≡ chunks
  chunks_as_they_are [] = refl
  chunks_as_they_are (c ∷ chunks) = λ i. record c { chunk_hash = if none i then c.chunk_hash else hmac key c.chunk_hash } ∷ chunks_as_they_are chunks i

  pub xorbs_as_they_are : (xorbs : List MDBXorbInfo) → keyed_xorbs key xorbs ≡ xorbs
  xorbs_as_they_are [] = refl
  xorbs_as_they_are (x ∷ xorbs) = λ i. record x { chunks = chunks_as_they_are x.chunks i } ∷ xorbs_as_they_are xorbs i
