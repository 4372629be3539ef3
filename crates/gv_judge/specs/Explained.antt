-- The search for an explanation of a history by a written specification.
use Rattle.std.specs.Prelude.{◌≡◌, ◌↔◌, ◌+◌, ◌*◌, ◌≤◌, List, [], ◌∷◌, map, length, None, All}
use Rattle.gv_terms.specs.declared.value.Value.{Value}
use Rattle.gv_atomic.specs.declared.spec.Spec.{Spec}
use Rattle.gv_spec.specs.declared.entry.Entry as held_entry
use Rattle.gv_spec.specs.declared.explanation.Move as held_moves
use Rattle.gv_spec.specs.declared.explanation.Move.TheVariants as held_move
use Rattle.gv_spec.specs.Move.{Move}
use Rattle.gv_spec.specs.Atomic.{atomic_of}
use Rattle.gv_spec.specs.History.{entry_of, move_of, IsExplanation}
use Rattle.gv_judge.specs.Choosing.{choosing_of}
use Rattle.gv_judge.specs.Search.{nodes, IsFull}
use Rattle.gv_judge.specs.Bound.{IsOneByOne}
use Rattle.gv_judge.specs.SearchLaws.{IsIn, AreWords, AreWritten}

-- the nodes of a history, in their order
abbrev pub search_order : Spec → List held_entry.Entry → List (List (Move Value))
search_order s history = nodes (atomic_of s) (choosing_of s) (map entry_of history)

-- the full nodes are exactly the explanations whose boots tell their choices
abbrev pub FullNodesAreExplanations : Spec → Type 0
FullNodesAreExplanations s = (history : List held_entry.Entry) (moves : List held_moves.Move) → AreWritten (map move_of moves)
    → (IsIn (map move_of moves) (search_order s history) × IsFull (map entry_of history) (map move_of moves)) ↔ IsExplanation s moves history

-- the choices of moves are words, as those of every move that a program holds
abbrev pub HoldWords : List held_moves.Move → Type 0
HoldWords [] = Unit {0}
HoldWords (held_move.Act n choices ∷ moves) = AreWords choices × HoldWords moves
HoldWords (held_move.Boot choices ∷ moves) = AreWords choices × HoldWords moves
HoldWords (held_move.Other e ∷ moves) = HoldWords moves

-- the history has no explanation
abbrev pub IsUnexplained : Spec → List held_entry.Entry → Type 0
IsUnexplained s history = (moves : List held_moves.Move) → HoldWords moves → IsExplanation s moves history → ⊥

-- a history without a full node has no explanation
abbrev pub NoFullNodeNoExplanation : Spec → Type 0
NoFullNodeNoExplanation s = (history : List held_entry.Entry)
    → ((moves : List (Move Value)) → IsIn moves (search_order s history) → IsFull (map entry_of history) moves → ⊥) → IsUnexplained s history

-- no operation picks anything, and no crash does
pub record PicksNothing (s : Spec) : Type 0 where
  pub ops : All (λ o. o.picks ≡ []) s.ops
  pub crash : s.crash_picks ≡ []

-- a history in which nothing crashes and each call answers before the next one starts has at most twice as many nodes as entries, and one
abbrev pub FewNodesWithoutPicks : Spec → Type 0
FewNodesWithoutPicks s = PicksNothing s → (history : List held_entry.Entry) → IsOneByOne None (map entry_of history)
    → length (search_order s history) ≤ 2 * length history + 1
