use Rattle.std.proofs.Common.{◌≡◌, ◌<◌, ◌++◌, ◌∷◌, [], map, None, rules, arith, ap, subst}
use Rattle.std.specs.Prelude.{reverse}
use Rattle.gv_spec.specs.History.{move_of}
use Rattle.gv_judge.specs.declared.search.Frame.{Frame}
use Rattle.gv_judge.specs.declared.search.Search.{Search}
use Rattle.gv_judge.specs.Open.{AreLeft, Advances, framed, work}
use Rattle.gv_judge.proofs.Paths.{last_frame, node_done, popped, work_last}
use Rattle.gv_judge.proofs.search.Search.next.Goals as goal

pub loop-node-init : goal.loop-node-init
loop-node-init c = λ todo h. h.left

pub loop-node-smaller-in-Some : goal.loop-node-smaller-in-Some
loop-node-smaller-in-Some c =
    let s = c.args.spec.now in
    let f : Frame = record { node = c.in-Some.node; turn = None } in
    let rest = c.pop.new.self.items in
    let e : c.loop-node.self.frames.items ≡ c.pop.new.self.items ++ (record { node = c.in-Some.node; turn = None }) ∷ [] = search rules in
    let same : work s c.loop-node.self.frames.items ≡ work s (c.pop.new.self.items ++ (record { node = c.in-Some.node; turn = None }) ∷ []) = ap (work s) e in
    let one = work_last s c.args.history.now rest f in
    let less : work s c.pop.new.self.items < work s c.loop-node.self.frames.items = omega (arith, same, one) in
    less

pub loop-node-preserved-in-Some : goal.loop-node-preserved-in-Some
loop-node-preserved-in-Some c = λ todo h.
    let s = c.args.spec.now in
    let history = c.args.history.now in
    let rest = c.pop.new.self.items in
    let f : Frame = record { node = c.in-Some.node; turn = None } in
    let e : c.loop-node.self.frames.items ≡ c.pop.new.self.items ++ (record { node = c.in-Some.node; turn = None }) ∷ [] = search rules in
    let ms = map move_of c.loop-node.self.moves in
    let left = last_frame s history c.loop-node.self.frames.items rest f ms todo e (c.loop-node.invariant todo h) in
    subst (λ ms. AreLeft s history (reverse c.pop.new.self.items) ms todo) (popped c.loop-node.self.moves c.pop-in-None.new.self c.pop-in-None.result c.pop-in-None.ensures)
    (node_done s history c.in-Some.node (reverse rest) ms todo left)

pub returns-then-branch : goal.returns-then-branch
returns-then-branch c = λ todo h.
    let s = c.args.spec.now in
    let history = c.args.history.now in
    let n = c.in-Some.field-0.node in
    let t = c.in-Some-turn.turn in
    let old : Search = record { frames = c.pop.new.self; moves = c.loop-node.self.moves; is_full = c.loop-node.self.is_full } in
    let e : c.loop-node.self.frames.items ≡ c.pop.new.self.items ++ (framed c.in-Some.field-0.node c.in-Some-turn.turn) ∷ [] = search rules in
    let left = last_frame s history c.loop-node.self.frames.items c.pop.new.self.items (framed n t) (map move_of c.loop-node.self.moves) todo e (c.loop-node.invariant todo h) in
    (subst (λ b. Advances s history b n t old c.take.new.self) c.if-branch.true c.in_ok-take-in-Some-turn.ensures) todo left

pub loop-node-preserved : goal.loop-node-preserved
loop-node-preserved c = λ todo h.
    let s = c.args.spec.now in
    let history = c.args.history.now in
    let n = c.in-Some.field-0.node in
    let t = c.in-Some-turn.turn in
    let old : Search = record { frames = c.pop.new.self; moves = c.loop-node.self.moves; is_full = c.loop-node.self.is_full } in
    let e : c.loop-node.self.frames.items ≡ c.pop.new.self.items ++ (framed c.in-Some.field-0.node c.in-Some-turn.turn) ∷ [] = search rules in
    let left = last_frame s history c.loop-node.self.frames.items c.pop.new.self.items (framed n t) (map move_of c.loop-node.self.moves) todo e (c.loop-node.invariant todo h) in
    (subst (λ b. Advances s history b n t old c.take.new.self) c.if-branch.false c.in_ok-take-in-Some-turn.ensures).0 todo left
