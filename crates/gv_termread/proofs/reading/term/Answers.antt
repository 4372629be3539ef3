use Rattle.std.proofs.Common.{List, IfOk, IfErr, subst}
use Rattle.gv_base.specs.declared.token.Token.{Token}
use Rattle.gv_text.specs.Answers.{Refuses}
use Rattle.gv_text.proofs.Answered.{only_so, fault_so}
use Rattle.gv_termread.specs.Reading.{IsRead, IsRefusedFrom}
use Rattle.gv_termread.proofs.Decided.{raw_decided}
use Rattle.gv_termread.proofs.reading.term.Goals as goal

pub returns : goal.returns
returns c =
    let text = c.args.text.now in
    let tokens = c.args.tokens.now.items in
    let at = c.args.at in
    let depth = c.args.depth in
    let result = c.term_from.result in
    let read = subst (λ (ts : List Token). IfOk result (IsRead text ts at depth)) c.deref.ensures.value c.term_from.ensures.read in
    let refused = subst (λ (ts : List Token). IfErr result (Refuses text (IsRefusedFrom text ts at depth))) c.deref.ensures.value c.term_from.ensures.refused in
    let one = raw_decided text tokens at depth in
    record {
      read = read;
      only = λ tree next h. only_so (λ v. v) text (IsRead text tokens at depth) (IsRefusedFrom text tokens at depth) one result read refused (tree, next) h;
      refused = refused;
      fault = fault_so (λ v. v) text (IsRead text tokens at depth) (IsRefusedFrom text tokens at depth) one result read refused;
    }
