use Rattle.std.proofs.Common.{List, [], ◌∷◌, ◌++◌, sym, subst, arith}
use Rattle.std.specs.Prelude.{take}
use Rattle.gv_base.specs.declared.token.Token.{Token}
use Rattle.gv_smallscript.specs.declared.forms.SmallBlock.{SmallBlock}
use Rattle.gv_smallscript.specs.SmallScript.{IsBlock, AreBlocks}
use Rattle.gv_smallscript.proofs.Answers.{none_of, some_of}
use Rattle.gv_smallscript.proofs.Blocks.{AreBehind, one_more, one_only, none_left, some_left, all_found, not_empty, empty}
use Rattle.gv_smallscript.proofs.Once.{same_block}
use Rattle.gv_smallscript.proofs.forms.blocks_of.Goals as goal

pub returns-in_default-clause-none : goal.returns-in_default-clause-none
returns-in_default-clause-none c = λ bs is.
    let text = c.args.text.now in
    let left = c.loop-left.left.now in
    let test = c.loop-left-test.true in
    none_left text c.loop-left.blocks bs left
    (λ b k. none_of c.in_ok-block.field-0 c.in_default.is c.in_ok-block.ensures.none b (subst (λ (ts : List Token). IsBlock text b ts) (sym c.split_at.ensures.front) k))
    (omega (arith, test)) (c.loop-left.invariant.only bs is)

pub loop-left-preserved : goal.loop-left-preserved
loop-left-preserved c =
    let text = c.args.text.now in
    let left = c.loop-left.left.now in
    let done = c.loop-left.blocks in
    let block = c.in-Some.block in
    let test = c.loop-left-test.true in
    let pushed = c.in_ok-push.ensures.ok in
    let is : IsBlock text block (take 13 left) =
    subst (λ (ts : List Token). IsBlock text block ts) c.split_at.ensures.front
    (some_of c.in_ok-block.field-0 block (λ (b : SmallBlock). IsBlock text b c.split_at.result.0.now) c.in-Some.is c.in_ok-block.ensures.found) in
    record {
      found = λ bs are.
          subst (λ (ds : List SmallBlock). AreBlocks text (ds ++ bs) c.args.tokens.now) (sym pushed)
          (one_more text done bs block left c.args.tokens.now c.loop-left.invariant.found is (subst (λ (ts : List Token). AreBlocks text bs ts) c.split_at.ensures.back are));
      only = λ bs are.
          subst (λ (ds : List SmallBlock). AreBehind text ds c.split_at.result.1.now bs) (sym pushed)
          (subst (λ (ts : List Token). AreBehind text (done ++ block ∷ []) ts bs) (sym c.split_at.ensures.back)
          (one_only text done bs block left (λ x k. same_block text x block (take 13 left) k is) (omega (arith, test)) (c.loop-left.invariant.only bs are)));
    }

pub returns-then-not-is_empty-clause-none : goal.returns-then-not-is_empty-clause-none
returns-then-not-is_empty-clause-none c = λ bs is.
    let left = c.loop-left.left.now in
    let test = c.loop-left-test.false in
    some_left c.args.text.now c.loop-left.blocks bs left (omega (arith, test)) (λ e. not_empty left c.is_empty.result c.is_empty.ensures c.if-not-is_empty.true e) (c.loop-left.invariant.only bs is)

pub returns-clause-found : goal.returns-clause-found
returns-clause-found c =
    let left = c.loop-left.left.now in
    all_found c.args.text.now c.loop-left.blocks left c.args.tokens.now c.loop-left.invariant.found (empty left c.is_empty.result c.is_empty.ensures c.if-not-is_empty.false)
