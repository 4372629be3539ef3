use Rattle.std.proofs.Common.{◌≡◌, ℕ, List, arith, subst, sym, ◌∙◌}
use Rattle.gv_termread.specs.declared.placed.PlacedTerm.{PlacedTerm}
use Rattle.gv_scriptnodes.proofs.Taken.{none_taken, same_taken, all_taken}
use Rattle.gv_scriptterms.proofs.Steps.{TermsAt, Left, raw, term_there, terms_there, one_more}
use Rattle.gv_scriptterms.proofs.terms.terms_at.Goals as goal

pub term_at-requires-clause-some : goal.term_at-requires-clause-some
term_at-requires-clause-some c =
    let i = c.loop-before.invariant in
    let m = c.in-Term.ensures i.some.whole i.some.part in
    term_there c.args.text.now c.args.nodes.now c.loop-before.place c.in-Term.term m.of_term i.some.within m.at_term

pub term_at-requires-in-NextTerm-clause-some : goal.term_at-requires-in-NextTerm-clause-some
term_at-requires-in-NextTerm-clause-some c =
    let i = c.loop-before.invariant in
    let m = c.in-NextTerm.ensures i.some.whole i.some.part in
    term_there c.args.text.now c.args.nodes.now c.loop-before.place c.in-NextTerm.term m.of_term i.some.within m.at_term

pub loop-before-preserved-in-Term : goal.loop-before-preserved-in-Term
loop-before-preserved-in-Term c =
    let text = c.args.text.now in
    let nodes = c.args.nodes.now in
    let i = c.loop-before.invariant in
    let m = c.in-Term.ensures i.some.whole i.some.part in
    record {
      some = terms_there text nodes c.loop-before.place c.in-Term.before m.of_terms i.some.within m.at_terms;
      left = λ whole is.
          one_more text nodes c.loop-before.place c.in-Term.before c.in_ok-last-in-Term.last c.loop-before.terms.items c.push.new.self.items whole (i.left whole is) c.in_ok-push-in-Term.ensures.items
          (λ rest at. let n = c.in-Term.ensures rest at in record { rest = n.of_terms; last = n.of_term; at = n.at_terms.is; same = c.in_ok-last-in-Term.ensures n.of_term n.at_term.is; made = n.made });
    }

pub loop-before-preserved-in-NextTerm : goal.loop-before-preserved-in-NextTerm
loop-before-preserved-in-NextTerm c =
    let text = c.args.text.now in
    let nodes = c.args.nodes.now in
    let i = c.loop-before.invariant in
    let m = c.in-NextTerm.ensures i.some.whole i.some.part in
    record {
      some = terms_there text nodes c.loop-before.place c.in-NextTerm.before m.of_terms i.some.within m.at_terms;
      left = λ whole is.
          one_more text nodes c.loop-before.place c.in-NextTerm.before c.in_ok-last-in-NextTerm.last c.loop-before.terms.items c.push-in-NextTerm.new.self.items whole (i.left whole is) c.in_ok-push-in-NextTerm.ensures.items
          (λ rest at. let n = c.in-NextTerm.ensures rest at in record { rest = n.of_terms; last = n.of_term; at = n.at_terms.is; same = c.in_ok-last-in-NextTerm.ensures n.of_term n.at_term.is; made = n.made });
    }

pub loop-before-preserved-in-InTerms : goal.loop-before-preserved-in-InTerms
loop-before-preserved-in-InTerms c =
    let text = c.args.text.now in
    let nodes = c.args.nodes.now in
    let i = c.loop-before.invariant in
    let m = c.in-InTerms.ensures i.some.whole i.some.part in
    record {
      some = terms_there text nodes c.loop-before.place c.in-InTerms.same m.of_terms i.some.within m.at_terms;
      left = λ whole is.
          same_taken (TermsAt text nodes) raw c.loop-before.place c.in-InTerms.same c.loop-before.terms.items whole (i.left whole is)
          (λ rest at. let n = c.in-InTerms.ensures rest at in subst (TermsAt text nodes c.in-InTerms.same) (sym n.made) n.at_terms.is);
    }

pub loop-before-preserved : goal.loop-before-preserved
loop-before-preserved c =
    let text = c.args.text.now in
    let nodes = c.args.nodes.now in
    let i = c.loop-before.invariant in
    let m = c.in-WordTerms.ensures i.some.whole i.some.part in
    record {
      some = terms_there text nodes c.loop-before.place c.in-WordTerms.same m.of_terms i.some.within m.at_terms;
      left = λ whole is.
          same_taken (TermsAt text nodes) raw c.loop-before.place c.in-WordTerms.same c.loop-before.terms.items whole (i.left whole is)
          (λ rest at. let n = c.in-WordTerms.ensures rest at in subst (TermsAt text nodes c.in-WordTerms.same) (sym n.made) n.at_terms.is);
    }

pub loop-before-smaller-in-Term : goal.loop-before-smaller-in-Term
loop-before-smaller-in-Term c = let i = c.loop-before.invariant in let m = c.in-Term.ensures i.some.whole i.some.part in m.at_terms.before

pub loop-before-smaller-in-NextTerm : goal.loop-before-smaller-in-NextTerm
loop-before-smaller-in-NextTerm c = let i = c.loop-before.invariant in let m = c.in-NextTerm.ensures i.some.whole i.some.part in m.at_terms.before

pub loop-before-smaller-in-InTerms : goal.loop-before-smaller-in-InTerms
loop-before-smaller-in-InTerms c = let i = c.loop-before.invariant in let m = c.in-InTerms.ensures i.some.whole i.some.part in m.at_terms.before

pub loop-before-smaller : goal.loop-before-smaller
loop-before-smaller c = let i = c.loop-before.invariant in let m = c.in-WordTerms.ensures i.some.whole i.some.part in m.at_terms.before

pub returns : goal.returns
returns c = λ whole is.
    c.reverse.ensures.items
    ∙ all_taken (TermsAt c.args.text.now c.args.nodes.now) raw c.loop-before.place c.loop-before.terms.items whole (c.loop-before.invariant.left whole is) (λ rest at. c.in-NoTerms.ensures rest at)
