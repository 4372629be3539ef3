use Rattle.std.proofs.Common.{◌-◌, take, drop, length, subst, sym, arith}
use Rattle.std.proofs.lemmas.List.{take_rest}
use Rattle.gv_text.specs.Judging.{HasTokens}
use Rattle.gv_text.proofs.Cuts.{all_read}
use Rattle.gv_tokens.specs.Layout.{laid}
use Rattle.gv_tokens.specs.Reading.{go}
use Rattle.gv_tokens.proofs.GoPieces.{go_turned}
use Rattle.gv_tokens.proofs.reading.tokens_of.Goals as goal

pub loop-at-preserved : goal.loop-at-preserved
loop-at-preserved c =
    let text = c.args.text.now in
    let at = c.loop-at.at in
    go_turned text at c.loop-at.pending c.loop-at.out.items c.in-Ok.form c.in-Ok.len (take (length text - at) (drop at text))
    c.in_ok-pending-in-Ok.pending c.lay.new.out.items (take_rest text at) c.loop-at.invariant c.in-Ok.ensures.piece
    c.in_ok-pending-in-Ok.ensures.tokens c.in_ok-pending-in-Ok.ensures.pending

pub returns : goal.returns
returns c =
    subst (HasTokens go c.args.text.now) (sym c.in_ok-insert.ensures)
    (all_read go c.args.text.now c.loop-at.at (laid c.loop-at.at c.loop-at.pending) c.loop-at.out.items c.loop-at.invariant (omega arith))
