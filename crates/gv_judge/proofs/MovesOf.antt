-- Moves that show a specification's history are of the specification.
use Rattle.std.proofs.Common.{◌≡◌, ℕ, List, [], ◌∷◌, map, sym, subst}
use Rattle.std.specs.List.{All}
use Rattle.std.proofs.lemmas.List.Elements.{All-nil, All-cons, All-head, All-tail}
use Rattle.gv_atomic.specs.declared.spec.Spec.{Spec}
use Rattle.gv_spec.specs.declared.entry.Entry as held_entry
use Rattle.gv_spec.specs.declared.entry.Entry.TheVariants as held
use Rattle.gv_spec.specs.declared.explanation.Move as held_moves
use Rattle.gv_spec.specs.declared.explanation.Move.TheVariants as held_move
use Rattle.gv_spec.specs.Move.{entries_of}
use Rattle.gv_spec.specs.History.{entry_of, move_of, IsEntryOf, IsMoveOf}
use Rattle.gv_judge.specs.declared.judging.Judged as judged
use Rattle.gv_judge.specs.declared.judging.Judged.TheVariants as answer
use Rattle.gv_judge.specs.Judged.{IsJudgement, AreMovesOf}

entry_is : (s : Spec) (e f : held_entry.Entry) → entry_of e ≡ entry_of f → IsEntryOf s f → IsEntryOf s e
entry_is s (held.Call n op args) (held.Call m o vs) q h =
    (let ops : op ≡ o = cc in let values : args ≡ vs = cc in
    subst (λ a. IsEntryOf s (held.Call n op a)) (sym values) (subst (λ k. IsEntryOf s (held.Call n k vs)) (sym ops) h))
entry_is s (held.Call n op args) (held.Answer m reply) q h = absurd (let clash = q in cc)
entry_is s (held.Call n op args) held.Crash q h = absurd (let clash = q in cc)
entry_is s (held.Call n op args) held.Boot q h = absurd (let clash = q in cc)
entry_is s (held.Answer n reply) f q h = tt
entry_is s held.Crash f q h = tt
entry_is s held.Boot f q h = tt

pub moves_of_spec : (s : Spec) (moves : List held_moves.Move) (history : List held_entry.Entry) → entries_of (map move_of moves) ≡ map entry_of history
    → All (IsEntryOf s) history → All (IsMoveOf s) moves
moves_of_spec s [] history e all = All-nil (IsMoveOf s)
moves_of_spec s (held_move.Act n choices ∷ moves) history e all = All-cons (IsMoveOf s) (held_move.Act n choices) moves tt (moves_of_spec s moves history e all)
moves_of_spec s (held_move.Boot choices ∷ moves) [] e all = absurd (let clash = e in cc)
moves_of_spec s (held_move.Boot choices ∷ moves) (f ∷ history) e all =
    (let rest : entries_of (map move_of moves) ≡ map entry_of history = cc in
    All-cons (IsMoveOf s) (held_move.Boot choices) moves tt (moves_of_spec s moves history rest (All-tail (IsEntryOf s) f history all)))
moves_of_spec s (held_move.Other x ∷ moves) [] e all = absurd (let clash = e in cc)
moves_of_spec s (held_move.Other x ∷ moves) (f ∷ history) e all =
    (let first : entry_of x ≡ entry_of f = cc in
    let rest : entries_of (map move_of moves) ≡ map entry_of history = cc in
    All-cons (IsMoveOf s) (held_move.Other x) moves (entry_is s x f first (All-head (IsEntryOf s) f history all))
    (moves_of_spec s moves history rest (All-tail (IsEntryOf s) f history all)))

-- so are those that a judge answers
pub judged_of_spec : (s : Spec) (history : List held_entry.Entry) (most : ℕ) → All (IsEntryOf s) history → (j : judged.Judged) → IsJudgement s history most j → AreMovesOf s j
judged_of_spec s history most all (answer.Yes moves) h = moves_of_spec s moves history h.full all
judged_of_spec s history most all answer.No h = tt
judged_of_spec s history most all answer.Spent h = tt
