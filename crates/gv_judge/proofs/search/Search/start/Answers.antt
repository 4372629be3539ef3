use Rattle.std.proofs.Common.{◌≡◌, ◌↔◌, ◌++◌, Bool, eqb, eqb-true, List, [], ◌∷◌, length, refl, sym, ap, ◌∙◌, arith}
use Rattle.std.specs.Prelude.{IsTrue}
use Rattle.gv_judge.specs.declared.search.Search.{Search}
use Rattle.gv_judge.proofs.Paths.{begun_at}
use Rattle.gv_judge.proofs.search.Search.start.Goals as goal

empty_told : {A : Type 0} (xs : List A) (b : Bool) → b ≡ eqb (length xs) 0 → IsTrue b ↔ (xs ≡ [])
empty_told [] b e = ((λ _. refl), (λ _. e))
empty_told (x ∷ xs) b e =
    ((λ t. absurd (let none : length (x ∷ xs) ≡ 0 = eqb-true (length (x ∷ xs)) 0 (sym e ∙ t) in omega (arith, none))), (λ f. absurd (let clash = f in cc)))

pub returns-clause-at : goal.returns-clause-at
returns-clause-at c =
    let x : Search = record { frames = c.push.new.self; moves = c.new.result; is_full = c.is_empty.result } in
    begun_at c.args.spec.now c.args.history.now x c.in_ok-node.node c.in_ok-turn.turn c.in_ok-node.ensures c.in_ok-turn.ensures.moves c.in_ok-turn.ensures.turn
    (c.in_ok-push.ensures.items ∙ ap (λ l. l ++ (record { node = c.in_ok-node.node; turn = c.in_ok-turn.turn }) ∷ []) c.new-frames.ensures.items)
    c.new.ensures (empty_told c.args.history.now c.is_empty.result c.is_empty.ensures)
