use Rattle.std.proofs.Common.{◌≡◌, ◌+◌, ◌<◌, All, Err, ◌∙◌, length, map, refl, sym, ap, subst, arith}
use Rattle.std.proofs.lemmas.List.Elements.{All-get_or}
use Rattle.std.proofs.lemmas.Result.{IfErr-weaker}
use Rattle.gv_spec.specs.Atomic.{atomic_of}
use Rattle.gv_spec.specs.History.{entry_of, move_of, walked, IsMoveOf}
use Rattle.gv_spec.specs.Walks.{Missing, moved_beside, walk}
use Rattle.gv_history.specs.Fault.{fields_at_end, IsFaultOf, IsUnexplained}
use Rattle.gv_history.specs.declared.fault.WalkCause.TheVariants as cause
use Rattle.gv_history.specs.declared.fault.WalkFault.TheVariants as fault
use Rattle.gv_history.specs.Walker.{walk_in}
use Rattle.gv_history.proofs.WalkerLemmas.{moved_ops}
use Rattle.gv_history.proofs.WalkingLemmas.{none_left, some_left, turn, refusal, ended, missing, explained, handed_on, unexplained}
use Rattle.gv_history.proofs.walking.walk.Goals as goal

pub loop-i-init : goal.loop-i-init
loop-i-init c =
    let first = c.in_ok-walker.ensures.first in
    record {
      beside = rw (first, c.as_slice-left.ensures.value, c.deref-m-items.ensures.value) refl;
      boots = omega (arith, c.in_ok-walker.ensures.boots);
      ops = λ n op args h. absurd (let none = ap (λ w. w.table n) first in let clash = sym none ∙ h in cc);
    }

pub loop-i-preserved : goal.loop-i-preserved
loop-i-preserved c =
    let s = c.args.spec.now in
    let i = c.loop-i.i in
    let items = c.deref-m-items.result.now in
    let m = c.m-item.result in
    let all = walked s c.args.history.now.items c.args.moves.now.items in
    let within : i < length items = omega arith in
    let moves = subst (λ xs. All (IsMoveOf s) xs) (sym c.deref-m-items.ensures.value) c.requires.moves in
    let of : IsMoveOf s m = subst (λ x. IsMoveOf s x) (sym c.m-item.is) (All-get_or (IsMoveOf s) items i m within moves) in
    record {
      beside = turn s i (walk_in c.loop-i.walker) c.loop-i.left.now items all c.loop-i.invariant.beside (walk_in c.step.new.self) m c.rest_after-left.result.now within c.m-item.is c.rest_after-left.ensures c.in_ok-step.ensures.step;
      boots = omega (arith, c.loop-i.invariant.boots, c.in_ok-step.ensures.boots);
      ops = moved_ops s (walk_in c.loop-i.walker) (walk_in c.step.new.self) (map entry_of c.loop-i.left.now) m of c.loop-i.invariant.ops c.in_ok-step.ensures.step;
    }

pub returns-then-is_empty-clause-passes : goal.returns-then-is_empty-clause-passes
returns-then-is_empty-clause-passes c =
    let s = c.args.spec.now in
    let all = walked s c.args.history.now.items c.args.moves.now.items in
    ap fields_at_end (ended s c.loop-i.i (walk_in c.loop-i.walker) c.loop-i.left.now c.deref-m-items.result.now all c.loop-i.invariant.beside c.loop-i-test.false (none_left c.loop-i.left.now c.is_empty.result c.is_empty.ensures c.if-is_empty.true))

pub returns-then-is_empty-clause-explains : goal.returns-then-is_empty-clause-explains
returns-then-is_empty-clause-explains c =
    let s = c.args.spec.now in
    let history = map entry_of c.args.history.now.items in
    let moves = map move_of c.args.moves.now.items in
    let w = walk_in c.loop-i.walker in
    explained (atomic_of s) history moves w (ended s c.loop-i.i w c.loop-i.left.now c.deref-m-items.result.now (walk (atomic_of s) history moves) c.loop-i.invariant.beside c.loop-i-test.false (none_left c.loop-i.left.now c.is_empty.result c.is_empty.ensures c.if-is_empty.true))

pub returns-else-is_empty-clause-fault : goal.returns-else-is_empty-clause-fault
returns-else-is_empty-clause-fault c =
    let s = c.args.spec.now in
    let all = walked s c.args.history.now.items c.args.moves.now.items in
    let told = missing s c.loop-i.i (walk_in c.loop-i.walker) c.loop-i.left.now c.deref-m-items.result.now all c.loop-i.invariant.beside c.loop-i-test.false (some_left c.loop-i.left.now c.is_empty.result c.is_empty.ensures c.if-is_empty.false) in
    let reached : c.loop-i.i ≡ c.len.result = omega (arith, ap length c.deref-m-items.ensures.value) in
    subst (λ k. all ≡ Err (record { index = k + 1; cause = Missing })) reached told

pub returns-in_err-step-clause-fault : goal.returns-in_err-step-clause-fault
returns-in_err-step-clause-fault c =
    let s = c.args.spec.now in
    let i = c.loop-i.i in
    let items = c.deref-m-items.result.now in
    let m = c.m-item.result in
    let w = walk_in c.loop-i.walker in
    let all = walked s c.args.history.now.items c.args.moves.now.items in
    let within : i < length items = omega arith in
    handed_on (i + 1) (moved_beside (atomic_of s) w (map entry_of c.loop-i.left.now) (move_of m)) all c.from_residual-in_err-step.result c.in_err-step.field-0.0
    c.from_residual-in_err-step.ensures.1 c.in_err-step.ensures.step (λ cause e. refusal s i w c.loop-i.left.now items all c.loop-i.invariant.beside m cause within c.m-item.is e)

pub returns-in_err-step-clause-unexplained : goal.returns-in_err-step-clause-unexplained
returns-in_err-step-clause-unexplained c =
    let s = c.args.spec.now in
    let history = c.args.history.now.items in
    let moves = c.args.moves.now.items in
    IfErr-weaker c.from_residual-in_err-step.result (IsFaultOf (walked s history moves)) (IsUnexplained s moves history) (λ e h. unexplained s history moves e h) (returns-in_err-step-clause-fault c)

pub returns-else-is_empty-clause-unexplained : goal.returns-else-is_empty-clause-unexplained
returns-else-is_empty-clause-unexplained c =
    unexplained c.args.spec.now c.args.history.now.items c.args.moves.now.items (fault.At (c.len.result + 1) cause.Missing) (returns-else-is_empty-clause-fault c)
