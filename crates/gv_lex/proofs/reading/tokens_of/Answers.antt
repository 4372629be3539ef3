use Rattle.std.proofs.Common.{◌-◌, append-nil, take, drop, length, subst, arith}
use Rattle.std.proofs.lemmas.List.{take_rest}
use Rattle.gv_text.specs.Judging.{HasTokens}
use Rattle.gv_text.proofs.Cuts.{all_read}
use Rattle.gv_lex.specs.Layout.{laid}
use Rattle.gv_lex.specs.Reading.{own}
use Rattle.gv_lex.proofs.OwnPieces.{own_turned}
use Rattle.gv_lex.proofs.reading.tokens_of.Goals as goal

pub loop-at-preserved : goal.loop-at-preserved
loop-at-preserved c =
    let text = c.args.text.now in
    let at = c.loop-at.at in
    own_turned text at c.loop-at.out.items c.in-Ok.form c.in-Ok.len (take (length text - at) (drop at text)) c.lay.new.out.items
    (take_rest text at) c.loop-at.invariant c.in-Ok.ensures.piece c.in_ok-lay-in-Ok.ensures

pub returns : goal.returns
returns c =
    subst (HasTokens own c.args.text.now) (append-nil c.loop-at.out.items)
    (all_read own c.args.text.now c.loop-at.at (laid c.loop-at.at) c.loop-at.out.items c.loop-at.invariant (omega arith))
