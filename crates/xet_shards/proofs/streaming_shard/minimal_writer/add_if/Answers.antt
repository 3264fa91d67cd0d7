use Rattle.std.proofs.Common.{◌≡◌, ◌+◌, ◌++◌, false, ap, ◌∙◌, subst, sym, true≢false, append-nil, arith}
use Rattle.xet_records.specs.declared.xorb_structs.XorbChunkSequenceHeader.{XorbChunkSequenceHeader}
use Rattle.xet_records.specs.XorbRecord.{xorb_row_count}
use Rattle.xet_shards.specs.Content.Shard.{xorb_hash_of}
use Rattle.xet_shards.specs.Write.Written.{AddsRecord, HasWrittenFor}
use Rattle.xet_shards.specs.StreamingShard.MinimalShard.{has_start, mark_starts}
use Rattle.xet_shards.specs.Steps.MinimalWriting.{marked_if_wanted}
use Rattle.xet_shards.proofs.Write.Written.{xorb_written}
use Rattle.xet_shards.proofs.StreamingShard.MinimalWriting.{rows_marked}
use Rattle.xet_shards.proofs.streaming_shard.minimal_writer.add_if.Goals as goal
use Rattle.xet_shards.proofs.streaming_shard.minimal_writer.add_if.Goals.{then-wanted+in_ok-add+in_ok-write_marked, else-wanted}

pub returns-clause-written : goal.returns-clause-written
returns-clause-written g c = λ before have.
    let x = c.args.xorb.now in
    let old = c.args.written.now in
    elim c.if-wanted.branch [
      | then-wanted+in_ok-add+in_ok-write_marked w ↦
          let marked = mark_starts (has_start c.args.starts.now) x in
          let new = w.add.new.self in
          let header = w.header.ensures in
          let rows : 1 + w.header.result.now.num_entries ≡ xorb_row_count marked =
          omega (arith, ap (λ (h : XorbChunkSequenceHeader). h.num_entries) header, c.requires.stored.count, rows_marked (has_start c.args.starts.now) x) in
          let added : AddsRecord old.table new.table (xorb_hash_of marked).word0 (xorb_row_count marked) =
          subst (λ n. AddsRecord old.table new.table (xorb_hash_of marked).word0 n) rows
          (subst (λ (h : XorbChunkSequenceHeader). AddsRecord old.table new.table h.xorb_hash.word0 (1 + w.header.result.now.num_entries)) header w.in_ok-add.ensures.table) in
          subst (λ v. HasWrittenFor false v (before ++ marked_if_wanted c.args.wanted c.args.starts.now x)) (sym w.written-is)
          (subst (λ b. HasWrittenFor false new (before ++ marked_if_wanted b c.args.starts.now x)) (sym w.if-wanted.true)
          (xorb_written false old new before marked have added (λ none. absurd (true≢false (sym none)))
          (w.in_ok-add.ensures.bytes ∙ ap (λ (h : XorbChunkSequenceHeader). old.stored_bytes + h.num_bytes_in_xorb) header)
          (w.in_ok-add.ensures.bytes_on_disk ∙ ap (λ (h : XorbChunkSequenceHeader). old.stored_bytes_on_disk + h.num_bytes_on_disk) header)))
      | else-wanted w ↦
          subst (λ v. HasWrittenFor false v (before ++ marked_if_wanted c.args.wanted c.args.starts.now x)) (sym w.written-is)
          (subst (λ b. HasWrittenFor false old (before ++ marked_if_wanted b c.args.starts.now x)) (sym w.if-wanted.false)
          (subst (HasWrittenFor false old) (sym (append-nil before)) have))
    ]
