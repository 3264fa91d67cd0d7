-- Places of chunks, as they are shown.
use Rattle.std.proofs.Common.{◌≡◌, ℕ, List, map, Ok, Err, Result, MatchResult}
use Rattle.std.specs.Prelude.{IfOk, IfErr}
use Rattle.std.specs.declared.vec.Vec.{Vec}
use Rattle.xet_core_structures.specs.declared.error.CoreError.{CoreError}
use Rattle.xet_core_structures.specs.declared.error.CoreError.TheVariants.{OutOfMemory}
use Rattle.xet_core_structures.specs.declared.xorb_structs.MDBXorbInfo.{MDBXorbInfo}
use Rattle.shard_bytes.specs.PartLookups.{ArePlacesAmong}
use Rattle.xet_c.specs.declared.part_lookups.XetChunkPlace.{XetChunkPlace}
use Rattle.xet_c.specs.ShownParts.{AreChunksWith, c_chunk_place}

pub chunks_shown : {Z : Type 0} (xorbs : List MDBXorbInfo) (word : ℕ) (found : List (ℕ × ℕ)) (result : Result (Vec XetChunkPlace Z) CoreError) → ArePlacesAmong xorbs word found
    → IfOk result (λ shown. shown.items ≡ map c_chunk_place found) → IfErr result (λ e. e ≡ OutOfMemory)
    → MatchResult result (λ shown. AreChunksWith xorbs word shown.items) (λ e. e ≡ OutOfMemory)
chunks_shown xorbs word found (Ok shown) among are causes = (found, among, are)
chunks_shown xorbs word found (Err e) among are causes = causes
