use Rattle.std.proofs.Common.{◌≡◌, List, sym, subst, arith}
use Rattle.gv_termread.specs.declared.generated.term_acts.Part.TheVariants.{Other as POther}
use Rattle.gv_scriptsyntax.specs.declared.tree.Par.{Par}
use Rattle.gv_scriptnodes.proofs.Taken.{par_same}
use Rattle.gv_scriptsyntax.specs.declared.generated.script_acts.ScriptPart.TheVariants.{Pars as PPars}
use Rattle.gv_scriptsyntax.specs.Nodes.{IsPartAt}
use Rattle.gv_scriptnodes.specs.Places.{act_at}
use Rattle.gv_scriptnodes.proofs.NameActs.{par_is, next_par_is, in_pars_is}
use Rattle.gv_scriptnodes.proofs.Ends.{pars_end}
use Rattle.gv_scriptsyntax.specs.declared.generated.script_table.TheConstants.{ACT_PAR, ACT_NEXT_PAR, ACT_IN_PARS}
use Rattle.gv_scriptnodes.proofs.names.last_par.Goals as goal

pub returns-then-act-eq-ACT_PAR-clause-is : goal.returns-then-act-eq-ACT_PAR-clause-is
returns-then-act-eq-ACT_PAR-clause-is c = λ whole is.
    let e : act_at c.args.nodes.now c.args.at ≡ ACT_PAR = grind (arith, c.act_of-act.ensures, c.if-act-eq-ACT_PAR.true) in
    let n = par_is c.args.text.now c.args.nodes.now c.args.at e whole is in
    record {
      rest = n.pars;
      last = record { name = n.name; sort = n.sort };
      at = n.at_pars c.place_of-before.result c.place_of-before.ensures;
      same = par_same c.token_of-name.result n.name c.token_of-sort.result n.sort (n.at_name c.token_of-name.result c.token_of-name.ensures) (n.at_sort c.token_of-sort.result c.token_of-sort.ensures);
      made = n.made;
    }

pub returns-then-act-eq-ACT_NEXT_PAR-clause-is : goal.returns-then-act-eq-ACT_NEXT_PAR-clause-is
returns-then-act-eq-ACT_NEXT_PAR-clause-is c = λ whole is.
    let e : act_at c.args.nodes.now c.args.at ≡ ACT_NEXT_PAR = grind (arith, c.act_of-act.ensures, c.if-act-eq-ACT_NEXT_PAR.true) in
    let n = next_par_is c.args.text.now c.args.nodes.now c.args.at e whole is in
    record {
      rest = n.pars;
      last = record { name = n.name; sort = n.sort };
      at = n.at_pars c.place_of-before-then-act-eq-ACT_NEXT_PAR.result c.place_of-before-then-act-eq-ACT_NEXT_PAR.ensures;
      same = par_same c.token_of-name-then-act-eq-ACT_NEXT_PAR.result n.name c.token_of-sort-then-act-eq-ACT_NEXT_PAR.result n.sort (n.at_name c.token_of-name-then-act-eq-ACT_NEXT_PAR.result c.token_of-name-then-act-eq-ACT_NEXT_PAR.ensures) (n.at_sort c.token_of-sort-then-act-eq-ACT_NEXT_PAR.result c.token_of-sort-then-act-eq-ACT_NEXT_PAR.ensures);
      made = n.made;
    }

pub returns-then-act-eq-ACT_IN_PARS-clause-is : goal.returns-then-act-eq-ACT_IN_PARS-clause-is
returns-then-act-eq-ACT_IN_PARS-clause-is c = λ whole is.
    let e : act_at c.args.nodes.now c.args.at ≡ ACT_IN_PARS = grind (arith, c.act_of-act.ensures, c.if-act-eq-ACT_IN_PARS.true) in
    let n = in_pars_is c.args.text.now c.args.nodes.now c.args.at e whole is in
    subst (λ (pars : List Par). IsPartAt c.args.text.now c.args.nodes.now c.place_of-same.result (POther (PPars pars))) (sym n.made) (n.at_pars c.place_of-same.result c.place_of-same.ensures)

pub returns-clause-is : goal.returns-clause-is
returns-clause-is c = λ whole is. pars_end c.args.text.now c.args.nodes.now c.args.at c.requires.within whole is (grind (arith, c.act_of-act.ensures, c.if-act-eq-ACT_PAR.false, c.if-act-eq-ACT_NEXT_PAR.false, c.if-act-eq-ACT_IN_PARS.false))
