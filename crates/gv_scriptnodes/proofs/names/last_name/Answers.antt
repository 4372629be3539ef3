use Rattle.std.proofs.Common.{◌≡◌, List, sym, subst, arith}
use Rattle.gv_termread.specs.declared.generated.term_acts.Part.TheVariants.{Other as POther}
use Rattle.gv_termread.specs.declared.token.SeenToken.{SeenToken}
use Rattle.gv_scriptsyntax.specs.declared.generated.script_acts.ScriptPart.TheVariants.{Names as PNames}
use Rattle.gv_scriptsyntax.specs.Nodes.{IsPartAt}
use Rattle.gv_scriptnodes.specs.Places.{act_at}
use Rattle.gv_scriptnodes.proofs.NameActs.{name_is, next_name_is, in_names_is, word_names_is}
use Rattle.gv_scriptnodes.proofs.Ends.{names_end}
use Rattle.gv_scriptsyntax.specs.declared.generated.script_table.TheConstants.{ACT_NAME, ACT_NEXT_NAME, ACT_IN_NAMES, ACT_WORD_NAMES}
use Rattle.gv_scriptnodes.proofs.names.last_name.Goals as goal

pub returns-then-act-eq-ACT_NAME-clause-is : goal.returns-then-act-eq-ACT_NAME-clause-is
returns-then-act-eq-ACT_NAME-clause-is c = λ whole is.
    let e : act_at c.args.nodes.now c.args.at ≡ ACT_NAME = grind (arith, c.act_of-act.ensures, c.if-act-eq-ACT_NAME.true) in
    let n = name_is c.args.text.now c.args.nodes.now c.args.at e whole is in
    record { rest = n.names; last = n.name; at = n.at_names c.place_of-before.result c.place_of-before.ensures; same = n.at_name c.token_of-name.result c.token_of-name.ensures; made = n.made }

pub returns-then-act-eq-ACT_NEXT_NAME-clause-is : goal.returns-then-act-eq-ACT_NEXT_NAME-clause-is
returns-then-act-eq-ACT_NEXT_NAME-clause-is c = λ whole is.
    let e : act_at c.args.nodes.now c.args.at ≡ ACT_NEXT_NAME = grind (arith, c.act_of-act.ensures, c.if-act-eq-ACT_NEXT_NAME.true) in
    let n = next_name_is c.args.text.now c.args.nodes.now c.args.at e whole is in
    record { rest = n.names; last = n.name; at = n.at_names c.place_of-before-then-act-eq-ACT_NEXT_NAME.result c.place_of-before-then-act-eq-ACT_NEXT_NAME.ensures; same = n.at_name c.token_of-name-then-act-eq-ACT_NEXT_NAME.result c.token_of-name-then-act-eq-ACT_NEXT_NAME.ensures; made = n.made }

pub returns-then-act-eq-ACT_IN_NAMES-clause-is : goal.returns-then-act-eq-ACT_IN_NAMES-clause-is
returns-then-act-eq-ACT_IN_NAMES-clause-is c = λ whole is.
    let e : act_at c.args.nodes.now c.args.at ≡ ACT_IN_NAMES = grind (arith, c.act_of-act.ensures, c.if-act-eq-ACT_IN_NAMES.true) in
    let n = in_names_is c.args.text.now c.args.nodes.now c.args.at e whole is in
    subst (λ (names : List SeenToken). IsPartAt c.args.text.now c.args.nodes.now c.place_of-same.result (POther (PNames names))) (sym n.made) (n.at_names c.place_of-same.result c.place_of-same.ensures)

pub returns-then-act-eq-ACT_WORD_NAMES-clause-is : goal.returns-then-act-eq-ACT_WORD_NAMES-clause-is
returns-then-act-eq-ACT_WORD_NAMES-clause-is c = λ whole is.
    let e : act_at c.args.nodes.now c.args.at ≡ ACT_WORD_NAMES = grind (arith, c.act_of-act.ensures, c.if-act-eq-ACT_WORD_NAMES.true) in
    let n = word_names_is c.args.text.now c.args.nodes.now c.args.at e whole is in
    subst (λ (names : List SeenToken). IsPartAt c.args.text.now c.args.nodes.now c.place_of-same-then-act-eq-ACT_WORD_NAMES.result (POther (PNames names))) (sym n.made) (n.at_names c.place_of-same-then-act-eq-ACT_WORD_NAMES.result c.place_of-same-then-act-eq-ACT_WORD_NAMES.ensures)

pub returns-clause-is : goal.returns-clause-is
returns-clause-is c = λ whole is. names_end c.args.text.now c.args.nodes.now c.args.at c.requires.within whole is (grind (arith, c.act_of-act.ensures, c.if-act-eq-ACT_NAME.false, c.if-act-eq-ACT_NEXT_NAME.false, c.if-act-eq-ACT_IN_NAMES.false, c.if-act-eq-ACT_WORD_NAMES.false))
