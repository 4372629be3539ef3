use Rattle.std.proofs.Common.{◌∙◌, arith, refl}
use Rattle.gv_report.proofs.PutLemmas.{put_more, put_prefix}
use Rattle.gv_report.proofs.pieces.put_all.Goals as goal

pub returns-then-not-put_piece-clause-prefix : goal.returns-then-not-put_piece-clause-prefix
returns-then-not-put_piece-clause-prefix g c = λ _.
    put_prefix (g.K.Sink.written c.args.out.now) (g.K.Sink.written c.loop-at.out) (g.K.Sink.written c.put_piece.new.out) c.args.text.now c.loop-at.at c.piece_end-end.result _ (omega (arith, c.piece_end-end.ensures.onward)) c.piece_end-end.ensures.within refl
    c.loop-at.invariant.written (c.if-not-put_piece.ensures.prefix refl)

pub loop-at-preserved : goal.loop-at-preserved
loop-at-preserved g c = record {
  written = put_more (g.K.Sink.written c.args.out.now) (g.K.Sink.written c.loop-at.out) (g.K.Sink.written c.put_piece.new.out) c.args.text.now c.loop-at.at c.piece_end-end.result _ (omega (arith, c.piece_end-end.ensures.onward)) c.piece_end-end.ensures.within refl
      c.loop-at.invariant.written (c.if-not-put_piece.ensures.done refl);
  calm = c.if-not-put_piece.ensures.calm refl ∙ c.loop-at.invariant.calm;
  within = c.piece_end-end.ensures.within;
}
