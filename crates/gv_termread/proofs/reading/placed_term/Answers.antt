use Rattle.gv_text.proofs.Answered.{only_so, fault_so}
use Rattle.gv_termread.specs.Reading.{IsPlacedRead, IsRefusedFrom}
use Rattle.gv_termread.proofs.Decided.{placed_decided}
use Rattle.gv_termread.proofs.reading.placed_term.Goals as goal

pub returns : goal.returns
returns c =
    let text = c.args.text.now in
    let tokens = c.args.tokens.now in
    let at = c.args.at in
    let depth = c.args.depth in
    let result = c.placed_from.result in
    let read = c.placed_from.ensures.read in
    let refused = c.placed_from.ensures.refused in
    let one = placed_decided text tokens at depth in
    record {
      read = read;
      only = λ tree next h. only_so (λ v. v) text (IsPlacedRead text tokens at depth) (IsRefusedFrom text tokens at depth) one result read refused (tree, next) h;
      refused = refused;
      fault = fault_so (λ v. v) text (IsPlacedRead text tokens at depth) (IsRefusedFrom text tokens at depth) one result read refused;
    }
