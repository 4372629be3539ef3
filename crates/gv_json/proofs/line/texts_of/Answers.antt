use Rattle.std.proofs.Common.{◌<◌, ap, ◌∙◌, length, arith}
use Rattle.serde_json.specs.Data.{string}
use Rattle.gv_json.specs.Line.{as_text}
use Rattle.gv_json.proofs.LineLemmas.{texts_next}
use Rattle.gv_json.proofs.line.texts_of.Goals as goal

pub loop-line-preserved : goal.loop-line-preserved
loop-line-preserved c =
    let lt : c.loop-line.line-index < length c.args.lines.now = omega arith in
    texts_next c.loop-line.texts.items c.push.new.self.items c.in_ok-text_of.field-0 c.args.lines.now c.loop-line.line-index c.line-item.result lt c.line-item.is
    c.loop-line.invariant c.in_ok-push.ensures.items
    (c.in_ok-text_of.ensures ∙ ap (λ l. string (as_text l)) c.as_slice.ensures)
