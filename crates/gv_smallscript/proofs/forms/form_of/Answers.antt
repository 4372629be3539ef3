use Rattle.std.proofs.Common.{List, sym, ap, subst, ◌∙◌}
use Rattle.gv_base.specs.declared.token.Token.{Token}
use Rattle.gv_smallscript.specs.declared.forms.SmallBlock.{SmallBlock}
use Rattle.gv_smallscript.specs.SmallScript.{texts, AreBlocks}
use Rattle.gv_smallscript.proofs.Answers.{none_of, some_of}
use Rattle.gv_smallscript.proofs.Blocks.{not_fewer}
use Rattle.gv_smallscript.proofs.forms.form_of.Goals as goal

pub returns-then-tokens-lt70-clause-none : goal.returns-then-tokens-lt70-clause-none
returns-then-tokens-lt70-clause-none c = λ s is. not_fewer c.args.text.now c.args.tokens.now c.if-tokens-lt70.true is.declared

pub returns-then-not-are_spelled-clause-none : goal.returns-then-not-are_spelled-clause-none
returns-then-not-are_spelled-clause-none c = λ s is.
    c.are_spelled.ensures.no c.if-not-are_spelled.true (ap (λ (ts : List Token). texts c.args.text.now ts) c.split_at.ensures.front ∙ is.declared)

pub returns-in_default-clause-none : goal.returns-in_default-clause-none
returns-in_default-clause-none c = λ s is.
    none_of c.in_ok-ops.field-0 c.in_default.is c.in_ok-ops.ensures.none s.ops (subst (λ (ts : List Token). AreBlocks c.args.text.now s.ops ts) (sym c.split_at.ensures.back) is.ops)

pub returns-clause-found : goal.returns-clause-found
returns-clause-found c = record {
  declared = ap (λ (ts : List Token). texts c.args.text.now ts) (sym c.split_at.ensures.front) ∙ c.are_spelled.ensures.yes c.if-not-are_spelled.false;
  ops =
      subst (λ (ts : List Token). AreBlocks c.args.text.now c.in-Some.ops ts) c.split_at.ensures.back
      (some_of c.in_ok-ops.field-0 c.in-Some.ops (λ (bs : List SmallBlock). AreBlocks c.args.text.now bs c.split_at.result.1.now) c.in-Some.is c.in_ok-ops.ensures.found);
}
