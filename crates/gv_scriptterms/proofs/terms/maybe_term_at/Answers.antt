use Rattle.std.proofs.Common.{◌≡◌, Option, Some, None, sym, ap, ◌∙◌}
use Rattle.std.specs.Prelude.{option_map}
use Rattle.gv_terms.specs.declared.tree.RawTerm.{RawTerm}
use Rattle.gv_termread.specs.declared.placed.PlacedTerm.{PlacedTerm}
use Rattle.gv_scriptterms.proofs.Steps.{raw, term_there}
use Rattle.gv_scriptterms.proofs.terms.maybe_term_at.Goals as goal

pub term_at-requires-clause-some : goal.term_at-requires-clause-some
term_at-requires-clause-some c =
    let m = c.in-WordTerm.ensures c.requires.some.whole c.requires.some.part in
    term_there c.args.text.now c.args.nodes.now c.args.at c.in-WordTerm.term m.of_term c.requires.some.within m.at_term

pub returns-in-NoTerm : goal.returns-in-NoTerm
returns-in-NoTerm c = λ whole is. sym (ap (λ (o : Option PlacedTerm). option_map raw o) (c.in-NoTerm.ensures whole is))

pub returns-in_ok-found-in-WordTerm : goal.returns-in_ok-found-in-WordTerm
returns-in_ok-found-in-WordTerm c = λ whole is.
    let m = c.in-WordTerm.ensures whole is in
    ap (λ (t : RawTerm). Some t) (c.in_ok-found-in-WordTerm.ensures m.of_term m.at_term.is) ∙ sym (ap (λ (o : Option PlacedTerm). option_map raw o) m.made)
