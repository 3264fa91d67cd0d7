use Rattle.std.proofs.Common.{◌<◌, true, length, take, get_or, set, sym, ap, ◌∙◌, arith}
use Rattle.std.proofs.lemmas.List.{take_all, take_more}
use Rattle.xet_records.specs.declared.xorb_structs.XorbChunkSequenceEntry.{XorbChunkSequenceEntry}
use Rattle.xet_records.specs.declared.xorb_structs.MDBXorbInfo.{MDBXorbInfo}
use Rattle.xet_shards.specs.declared.streaming_shard.file_start.FileStart.{FileStart}
use Rattle.xet_shards.specs.StreamingShard.MinimalShard.{has_start, marked_if, mark_starts}
use Rattle.placed_shards.proofs.Marking.{no_marks, one_more_mark}
use Rattle.placed_shards.proofs.marks.mark_chunks.Goals as goal

abbrev no_start : FileStart
no_start = record { xorb_hash = record { word0 = 0; word1 = 0; word2 = 0; word3 = 0 }; chunk_index = 0 }

abbrev no_chunk : XorbChunkSequenceEntry
no_chunk = record { chunk_hash = record { word0 = 0; word1 = 0; word2 = 0; word3 = 0 }; chunk_byte_range_start = 0; unpacked_segment_bytes = 0; flags = 0; _unused = 0 }

pub loop-start-init : goal.loop-start-init
loop-start-init c x same hashes = sym same ∙ ap (λ (y : MDBXorbInfo). y.chunks) (sym (no_marks x))

pub loop-start-preserved : goal.loop-start-preserved
loop-start-preserved c x same hashes =
    let starts = c.args.starts.now in
    let i = c.loop-start.start-index in
    let below = c.loop-start-test.true in
    let s = get_or starts i no_start in
    let before = take i starts in
    let marked = c.with_global_dedup_flag.result in
    let so_far = c.loop-start.invariant x same hashes in
    let within : s.chunk_index < length x.chunks = omega (arith, c.requires i no_start below, ap length same) in
    ap (λ cs. set cs s.chunk_index marked) so_far
    ∙ one_more_mark x before s (hashes i no_start below) within marked no_chunk
    (c.with_global_dedup_flag.ensures ∙ ap (λ cs. marked_if true (get_or cs s.chunk_index no_chunk)) so_far)
    ∙ ap (λ ss. (mark_starts (has_start ss) x).chunks) (sym (take_more starts i no_start below))

pub returns : goal.returns
returns c x same hashes =
    c.loop-start.invariant x same hashes ∙ ap (λ ss. (mark_starts (has_start ss) x).chunks) (take_all c.loop-start.start-index c.args.starts.now c.loop-start-test.false)
