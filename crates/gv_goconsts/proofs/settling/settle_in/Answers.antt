use Rattle.std.proofs.Common.{List, [], Option, None, length, get_or, set, refl, ap, ◌∙◌, arith}
use Rattle.std.specs.Prelude.{replicate, slice_get}
use Rattle.gv_operands.specs.declared.types.Class.{Class}
use Rattle.gv_gonamed.specs.Laws.{with_these}
use Rattle.gv_goconsts.specs.Constants.{names_of, made_of}
use Rattle.gv_goconsts.proofs.Orders.{none_settled, settled_more, all_settled}
use Rattle.gv_goconsts.proofs.Walks.{as_many, rows_named}
use Rattle.gv_goconsts.proofs.settling.settle_in.Goals as goal

pub loop-at-init : goal.loop-at-init
loop-at-init c = record {
  sized = c.requires.sized;
  locals = refl;
  within = omega arith;
  settled = λ s p cs h e o. record {
    classes = replicate (length c.args.constants.now) None;
    seen = e;
    settled = none_settled s p cs c.args.order.now (length c.args.constants.now) (as_many c.args.nodes.now c.args.constants.now cs h);
  };
}

pub loop-at-preserved : goal.loop-at-preserved
loop-at-preserved c = record {
  sized = c.settle.ensures.sized;
  locals = c.settle.ensures.locals ∙ c.loop-at.invariant.locals;
  within = (let k = c.loop-at-test.true in omega (arith, k));
  settled = λ s p cs h e o.
      let w = c.loop-at.invariant.settled s p cs h e o in
      let n = get_or c.args.order.now c.loop-at.at 0 in
      record {
        classes = set w.classes n (made_of (with_these s p w.classes) (slice_get cs n));
        seen = c.settle.ensures.settled s p w.classes cs w.seen h;
        settled = settled_more s p cs (names_of (with_these s p []) cs) c.args.order.now c.loop-at.at 0 w.classes (rows_named s p cs) o c.loop-at-test.true w.settled;
      };
}

pub returns-clause-settled : goal.returns-clause-settled
returns-clause-settled c = λ s p cs h e o.
    let w = c.loop-at.invariant.settled s p cs h e o in
    let k = c.loop-at-test.false in
    let a = c.loop-at.invariant.within in
    let b = o.within in
    let r = rows_named s p cs in
    let d = r.sized in
    w.seen ∙ ap (λ (ks : List (Option Class)). with_these s p ks)
    (all_settled s p cs (names_of (with_these s p []) cs) c.args.order.now c.loop-at.at w.classes r o (omega (arith, k)) w.settled (omega (arith, a, b, d)))
