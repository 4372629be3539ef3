use Rattle.std.proofs.Common.{ℕ, List, ◌∷◌, sym, ap, ◌∙◌}
use Rattle.std.specs.Prelude.{slice_get, codes}
use Rattle.gv_base.specs.declared.token.Token.{Token}
use Rattle.gv_smallscript.specs.SmallScript.{texts, commands}
use Rattle.gv_smallscript.proofs.Texts.{begun, first_is, rest_is}
use Rattle.gv_smallscript.proofs.forms.block_of.Goals as goal

pub returns-then-not-same_bytes-clause-none : goal.returns-then-not-same_bytes-clause-none
returns-then-not-same_bytes-clause-none c = λ b is.
    c.same_bytes.ensures.no c.if-not-same_bytes.true
    (c.text_of.ensures ∙ first_is c.args.text.now c.args.tokens.now c.token_at-op.result b (ap (λ (ts : List Token). slice_get ts 0) (sym c.split_at.ensures.front) ∙ c.token_at-op.ensures) is)

pub returns-then-not-are_spelled-clause-none : goal.returns-then-not-are_spelled-clause-none
returns-then-not-are_spelled-clause-none c = λ b is.
    c.are_spelled.ensures.no c.if-not-are_spelled.true (ap (λ (ts : List Token). texts c.args.text.now ts) c.split_at.ensures.back ∙ rest_is c.args.text.now c.args.tokens.now b is)

pub returns-clause-found : goal.returns-clause-found
returns-clause-found c =
    let front = c.split_at.ensures.front in
    let name = sym c.text_of-2.ensures ∙ sym c.in_ok-name.ensures in
    record {
      spelled =
          begun c.args.text.now c.args.tokens.now c.token_at-op.result c.token_at-name.result (codes "op") commands
          (ap (λ (ts : List Token). slice_get ts 0) (sym front) ∙ c.token_at-op.ensures) (ap (λ (ts : List Token). slice_get ts 1) (sym front) ∙ c.token_at-name.ensures)
          (sym c.text_of.ensures ∙ c.same_bytes.ensures.yes c.if-not-same_bytes.false)
          (ap (λ (ts : List Token). texts c.args.text.now ts) (sym c.split_at.ensures.back) ∙ c.are_spelled.ensures.yes c.if-not-are_spelled.false)
          ∙ ap (λ (n : List ℕ). codes "op" ∷ n ∷ commands) name;
      step = c.token_at-step.result;
      step_is = c.token_at-step.ensures;
      place_is = c.place_in-step.ensures;
    }
