use Rattle.std.proofs.Common.{◌++◌, ◌∷◌, [], eqb, eqb-true, eq-eqb, length, map, refl, ap, subst, ◌∙◌}
use Rattle.std.specs.Prelude.{reverse}
use Rattle.gv_spec.specs.History.{move_of}
use Rattle.gv_judge.specs.declared.search.Search.{Search}
use Rattle.gv_judge.proofs.Paths.{IsAfter, child_ready, stayed, advanced}
use Rattle.gv_judge.proofs.search.Search.take.Goals as goal

pub first_turn-requires-clause-node : goal.first_turn-requires-clause-node
first_turn-requires-clause-node c =
    let s = c.args.spec.now in
    let h = c.args.history.now in
    child_ready s h c.args.node c.args.turn c.in-Some.child (reverse c.args.self.now.frames.items) (map move_of c.args.self.now.moves) c.requires.at.0 c.requires.at.1
    (subst (IsAfter s h c.args.node c.args.turn) c.in-Some.is c.in_ok-child.ensures)

pub returns-in-None : goal.returns-in-None
returns-in-None c =
    let s = c.args.spec.now in
    let h = c.args.history.now in
    let new : Search = record { frames = c.push.new.self; moves = c.args.self.now.moves; is_full = c.args.self.now.is_full } in
    stayed s h c.args.node c.args.turn c.in_ok-later.later c.args.self.now new c.in_ok-later.ensures.moves (c.in_ok-later.ensures.turn h)
    (subst (IsAfter s h c.args.node c.args.turn) c.in-None.is c.in_ok-child.ensures) c.in_ok-push.ensures.items refl

pub returns : goal.returns
returns c =
    let s = c.args.spec.now in
    let h = c.args.history.now in
    let child = c.in-Some.child in
    let new : Search = record { frames = c.push-in-Some.new.self; moves = c.push-in-Some-2.new.self; is_full = eqb c.in-Some.child.place (length c.args.history.now) } in
    advanced s h c.args.node c.args.turn c.in_ok-later.later c.args.self.now new c.in_ok-later.ensures.moves (c.in_ok-later.ensures.turn h) child c.in_ok-turn-in-Some.turn
    c.in_ok-shown.shown (subst (IsAfter s h c.args.node c.args.turn) c.in-Some.is c.in_ok-child.ensures) c.in_ok-turn-in-Some.ensures.moves c.in_ok-turn-in-Some.ensures.turn
    c.in_ok-shown.ensures
    (c.in_ok-push-in-Some.ensures.items ∙ ap (λ l. l ++ (record { node = c.in-Some.child; turn = c.in_ok-turn-in-Some.turn }) ∷ []) c.in_ok-push.ensures.items)
    c.in_ok-push-in-Some-2.ensures.ok ((λ e. eqb-true child.place (length h) e), (λ e. eq-eqb child.place (length h) e))
