use Rattle.std.proofs.Common.{◌≡◌, ◌++◌, reverse, List, [], ◌∷◌, sym, ap, ◌∙◌}
use Rattle.gv_grammar.specs.declared.symbols.Symbol.{Symbol}
use Rattle.gv_grammar.specs.declared.symbols.Symbol.TheVariants.{Token, Name, Act}
use Rattle.gv_grammar.specs.declared.steps.Step.TheVariants.{Take, Do}
use Rattle.gv_grammar.specs.Derivation.{tables_of, symbols_of}
use Rattle.gv_grammar.specs.Predictive.{certificate_of}
use Rattle.gv_grammar.specs.Engine.{IsSound}
use Rattle.gv_grammar.proofs.Theory.{sound_token, sound_act, sound_rule, reach_rule}
use Rattle.gv_grammar.proofs.Narrowing.{popped, takes_token, refuses_token, refuses_rule, narrows_rule, narrows_act, shown_of, pushed_more}
use Rattle.gv_grammar.proofs.derivation.take_class.Goals as goal

pub returns-then-not-has : goal.returns-then-not-has
returns-then-not-has c =
    let g = tables_of c.args.grammar.now in
    let top : reverse c.loop-symbol.stack.items ≡ Token c.in-Token.set ∷ reverse c.pop.new.self.items = popped _ _ _ _ c.in-Some.ensures.items c.in-Token.is in
    let i = c.loop-symbol.invariant in
    (i.added, i.steps, refuses_token g c.args.class c.in-Token.set _ _ i.added (sym c.has.ensures ∙ c.if-not-has.true) (rw top at i.narrows))

pub returns-in-Token : goal.returns-in-Token
returns-in-Token c =
    let g = tables_of c.args.grammar.now in
    let top : reverse c.loop-symbol.stack.items ≡ Token c.in-Token.set ∷ reverse c.pop.new.self.items = popped _ _ _ _ c.in-Some.ensures.items c.in-Token.is in
    let i = c.loop-symbol.invariant in (
      i.added ++ Take ∷ [],
      pushed_more _ _ _ i.added Take c.in_ok-push-in-Token.ensures.items i.steps,
      takes_token g c.args.class c.in-Token.set _ _ i.added (sym c.has.ensures ∙ c.if-not-has.false) (rw top at i.narrows),
      sound_token g (certificate_of g) (shown_of g c.requires.predictive) c.in-Token.set _ (rw top at i.sound),
    )

pub loop-symbol-preserved-in-Continue-branch-2 : goal.loop-symbol-preserved-in-Continue-branch-2
loop-symbol-preserved-in-Continue-branch-2 c =
    let g = tables_of c.args.grammar.now in
    let top : reverse c.loop-symbol.stack.items ≡ Act c.in-Act.act ∷ reverse c.pop.new.self.items = popped _ _ _ _ c.in-Some.ensures.items c.in-Act.is in
    let i = c.loop-symbol.invariant in
    record {
      sound = sound_act g (certificate_of g) (shown_of g c.requires.predictive) c.in-Act.act _ (rw top at i.sound);
      added = i.added ++ Do c.in-Act.act ∷ [];
      steps = pushed_more _ _ _ i.added (Do c.in-Act.act) c.in_ok-push-in-Act.ensures.items i.steps;
      narrows = narrows_act g c.args.class c.in-Act.act _ _ i.added (rw top at i.narrows);
    }

pub loop-symbol-smaller : goal.loop-symbol-smaller
loop-symbol-smaller c =
    let g = tables_of c.args.grammar.now in
    let top : reverse c.loop-symbol.stack.items ≡ Name c.in-Name.name ∷ reverse c.pop.new.self.items = popped _ _ _ _ c.in-Some.ensures.items c.in-Name.is in
    let pushed : reverse c.push_all.new.stack.items ≡ symbols_of g c.in-Some-rule_for.rule ++ reverse c.pop.new.self.items =
    c.in_ok-push_all-in-Some-rule_for.ensures ∙ ap (λ (ss : List Symbol). ss ++ reverse c.pop.new.self.items) c.row.ensures in
    rw (top, pushed) (reach_rule g (certificate_of g) (shown_of g c.requires.predictive) c.in-Some-rule_for.rule c.in-Name.name _ c.in-Some-rule_for.ensures.some.0)

pub loop-symbol-preserved : goal.loop-symbol-preserved
loop-symbol-preserved c =
    let g = tables_of c.args.grammar.now in
    let top : reverse c.loop-symbol.stack.items ≡ Name c.in-Name.name ∷ reverse c.pop.new.self.items = popped _ _ _ _ c.in-Some.ensures.items c.in-Name.is in
    let pushed : reverse c.push_all.new.stack.items ≡ symbols_of g c.in-Some-rule_for.rule ++ reverse c.pop.new.self.items =
    c.in_ok-push_all-in-Some-rule_for.ensures ∙ ap (λ (ss : List Symbol). ss ++ reverse c.pop.new.self.items) c.row.ensures in
    let i = c.loop-symbol.invariant in
    let f = c.in-Some-rule_for.ensures.some in
    let s : IsSound g (certificate_of g) (Name c.in-Name.name ∷ reverse c.pop.new.self.items) = rw top at i.sound in
    record {
      sound = rw pushed (sound_rule g (certificate_of g) (shown_of g c.requires.predictive) c.in-Some-rule_for.rule c.in-Name.name _ f.0 s);
      added = i.added;
      steps = i.steps;
      narrows = rw pushed (narrows_rule g (certificate_of g) (shown_of g c.requires.predictive) c.args.class c.in-Name.name c.in-Some-rule_for.rule _ _ i.added s f.0 f.1 (rw top at i.narrows));
    }

pub returns-in-None : goal.returns-in-None
returns-in-None c =
    let g = tables_of c.args.grammar.now in
    let top : reverse c.loop-symbol.stack.items ≡ Name c.in-Name.name ∷ reverse c.pop.new.self.items = popped _ _ _ _ c.in-Some.ensures.items c.in-Name.is in
    let i = c.loop-symbol.invariant in
    (i.added, i.steps, refuses_rule g (certificate_of g) (shown_of g c.requires.predictive) c.args.class c.in-Name.name _ _ i.added (rw top at i.sound) c.in-None.ensures.none (rw top at i.narrows))
