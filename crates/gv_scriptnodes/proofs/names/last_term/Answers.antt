use Rattle.std.proofs.Common.{◌≡◌, List, sym, refl, subst, arith}
use Rattle.gv_termread.specs.declared.generated.term_acts.Part.TheVariants.{Other as POther}
use Rattle.gv_termread.specs.declared.placed.PlacedTerm.{PlacedTerm}
use Rattle.gv_scriptsyntax.specs.declared.generated.script_acts.ScriptPart.TheVariants.{Terms as PTerms}
use Rattle.gv_scriptsyntax.specs.Nodes.{IsPartAt}
use Rattle.gv_scriptnodes.specs.Places.{act_at}
use Rattle.gv_scriptnodes.proofs.NameActs.{term_is, next_term_is, in_terms_is, word_terms_is}
use Rattle.gv_scriptnodes.proofs.Ends.{terms_end}
use Rattle.gv_scriptsyntax.specs.declared.generated.script_table.TheConstants.{ACT_TERM, ACT_NEXT_TERM, ACT_IN_TERMS, ACT_WORD_TERMS}
use Rattle.gv_scriptnodes.proofs.names.last_term.Goals as goal

pub returns-then-act-eq-ACT_TERM-clause-is : goal.returns-then-act-eq-ACT_TERM-clause-is
returns-then-act-eq-ACT_TERM-clause-is c = λ whole is.
    let e : act_at c.args.nodes.now c.args.at ≡ ACT_TERM = grind (arith, c.act_of-act.ensures, c.if-act-eq-ACT_TERM.true) in
    let n = term_is c.args.text.now c.args.nodes.now c.args.at e whole is in
    record { rest = n.terms; last = n.term; at = n.at_terms c.place_of-before.result c.place_of-before.ensures; same = refl; made = n.made }

pub returns-then-act-eq-ACT_NEXT_TERM-clause-is : goal.returns-then-act-eq-ACT_NEXT_TERM-clause-is
returns-then-act-eq-ACT_NEXT_TERM-clause-is c = λ whole is.
    let e : act_at c.args.nodes.now c.args.at ≡ ACT_NEXT_TERM = grind (arith, c.act_of-act.ensures, c.if-act-eq-ACT_NEXT_TERM.true) in
    let n = next_term_is c.args.text.now c.args.nodes.now c.args.at e whole is in
    record { rest = n.terms; last = n.term; at = n.at_terms c.place_of-before-then-act-eq-ACT_NEXT_TERM.result c.place_of-before-then-act-eq-ACT_NEXT_TERM.ensures; same = refl; made = n.made }

pub returns-then-act-eq-ACT_IN_TERMS-clause-is : goal.returns-then-act-eq-ACT_IN_TERMS-clause-is
returns-then-act-eq-ACT_IN_TERMS-clause-is c = λ whole is.
    let e : act_at c.args.nodes.now c.args.at ≡ ACT_IN_TERMS = grind (arith, c.act_of-act.ensures, c.if-act-eq-ACT_IN_TERMS.true) in
    let n = in_terms_is c.args.text.now c.args.nodes.now c.args.at e whole is in
    subst (λ (terms : List PlacedTerm). IsPartAt c.args.text.now c.args.nodes.now c.place_of-same.result (POther (PTerms terms))) (sym n.made) (n.at_terms c.place_of-same.result c.place_of-same.ensures)

pub returns-then-act-eq-ACT_WORD_TERMS-clause-is : goal.returns-then-act-eq-ACT_WORD_TERMS-clause-is
returns-then-act-eq-ACT_WORD_TERMS-clause-is c = λ whole is.
    let e : act_at c.args.nodes.now c.args.at ≡ ACT_WORD_TERMS = grind (arith, c.act_of-act.ensures, c.if-act-eq-ACT_WORD_TERMS.true) in
    let n = word_terms_is c.args.text.now c.args.nodes.now c.args.at e whole is in
    subst (λ (terms : List PlacedTerm). IsPartAt c.args.text.now c.args.nodes.now c.place_of-same-then-act-eq-ACT_WORD_TERMS.result (POther (PTerms terms))) (sym n.made) (n.at_terms c.place_of-same-then-act-eq-ACT_WORD_TERMS.result c.place_of-same-then-act-eq-ACT_WORD_TERMS.ensures)

pub returns-clause-is : goal.returns-clause-is
returns-clause-is c = λ whole is. terms_end c.args.text.now c.args.nodes.now c.args.at c.requires.within whole is (grind (arith, c.act_of-act.ensures, c.if-act-eq-ACT_TERM.false, c.if-act-eq-ACT_NEXT_TERM.false, c.if-act-eq-ACT_IN_TERMS.false, c.if-act-eq-ACT_WORD_TERMS.false))
