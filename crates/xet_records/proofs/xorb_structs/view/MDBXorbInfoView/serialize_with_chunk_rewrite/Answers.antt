use Rattle.std.proofs.Common.{[], ◌∷◌, ◌++◌, flat_map, sym, ap, ◌∙◌, subst, append-nil, arith}
use Rattle.std.proofs.lemmas.List.{append_assoc, take_all}
use Rattle.std.proofs.lemmas.Grind.{flat_map-append}
use Rattle.std.specs.Io.KnownBytes.{Appends}
use Rattle.std.proofs.KnownBytes.{Appends-trans}
use Rattle.xet_records.specs.declared.xorb_structs.MDBXorbInfo.{MDBXorbInfo}
use Rattle.xet_records.specs.XorbRow.{xorb_header_row, chunk_row}
use Rattle.xet_records.specs.View.{Rewrites}
use Rattle.xet_records.proofs.XorbViews.{none_rewritten, one_rewritten}
use Rattle.xet_records.proofs.xorb_structs.view.MDBXorbInfoView.serialize_with_chunk_rewrite.Goals as goal

pub loop-index-init : goal.loop-index-init
loop-index-init g c = (
  [],
  none_rewritten _,
  subst (Appends (g.W.Write.contents c.args.writer.now) (g.W.Write.contents c.write_row.new.writer))
      (ap xorb_header_row (sym c.self.invariant.same_header) ∙ ap (λ (r : MDBXorbInfo). xorb_header_row r.metadata) c.self.view_is
      ∙ sym (append-nil (xorb_header_row c.args.self.now.metadata))) c.in_ok-write_row.ensures.bytes,
)

pub loop-index-preserved : goal.loop-index-preserved
loop-index-preserved g c =
    let before = c.loop-index.invariant in
    let row = chunk_row c.rewrite-chunk.result in
    let header = xorb_header_row c.args.self.now.metadata in (
      before.0 ++ c.rewrite-chunk.result ∷ [],
      one_rewritten _ c.args.self.now.chunks before.0 c.loop-index.index c.chunk.result c.rewrite-chunk.result c.chunk.ensures c.rewrite-chunk.ensures before.1,
      subst (Appends (g.W.Write.contents c.args.writer.now) (g.W.Write.contents c.write_row-in-loop-index.new.writer))
          (append_assoc header (flat_map chunk_row before.0) row ∙ ap (λ bs. header ++ (flat_map chunk_row before.0 ++ bs)) (sym (append-nil row))
          ∙ ap (λ bs. header ++ bs) (sym (flat_map-append chunk_row before.0 (c.rewrite-chunk.result ∷ []))))
          (Appends-trans _ (g.W.Write.contents c.loop-index.writer) _ _ _ before.2 c.in_ok-write_row-2.ensures.bytes),
    )

pub returns-clause-bytes : goal.returns-clause-bytes
returns-clause-bytes g c =
    let after = c.loop-index.invariant in
    (after.0, subst (λ zs. Rewrites (goal.F-post g c.args.rewrite) zs after.0) (take_all c.loop-index.index c.args.self.now.chunks (omega arith)) after.1, after.2)
