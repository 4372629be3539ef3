-- What the nodes of the search are, said without the tree.
use Rattle.std.specs.Prelude.{◌≡◌, ◌↔◌, ◌⊎◌, ℕ, ◌<◌, ◌^◌, List, [], ◌∷◌, ◌++◌, Ok, Some}
use Rattle.gv_spec.specs.Entry as entry
use Rattle.gv_spec.specs.Move as move
use Rattle.gv_spec.specs.Entry.{Entry}
use Rattle.gv_spec.specs.Move.{Move, entries_of}
use Rattle.gv_spec.specs.Specification.{Specification}
use Rattle.gv_spec.specs.Walks.{WalkState, first_walk, walk_from, Explains}
use Rattle.gv_judge.specs.Search.{Choosing, nodes, IsFull, IsFirstFull, AreNoneFull, IsSpent}

-- x is one of these
abbrev pub IsIn : {A : Type 0} → A → List A → Type 0
IsIn x [] = ⊥
IsIn x (y ∷ ys) = (x ≡ y) ⊎ IsIn x ys

-- choices are words
abbrev pub AreWords : List ℕ → Type 0
AreWords [] = Unit {0}
AreWords (c ∷ choices) = (c < 2 ^ 64) × AreWords choices

-- the lists of words that the specification allows, and no others
pub record IsChoosing {F V : Type 0} (atomic : Specification F V) (choosing : Choosing F V) : Type 0 where
  pub acts : (op : ℕ) (args : List V) (fields : F) (choices : List ℕ) → IsIn choices (choosing.of_operation op args fields) → AreWords choices
  pub act : (op : ℕ) (args : List V) (fields : F) (choices : List ℕ) (after : F × V) → AreWords choices → atomic.applied op args choices fields ≡ Some after
      → IsIn choices (choosing.of_operation op args fields)
  pub boots : (fields : F) (choices : List ℕ) → IsIn choices (choosing.of_crash fields) → AreWords choices
  pub boot : (fields : F) (choices : List ℕ) (after : F) → AreWords choices → atomic.crashed choices fields ≡ Some after
      → IsIn choices (choosing.of_crash fields)

-- a move as a list of moves has it: its choices are words, and a boot tells its choices
abbrev pub IsWritten : {V : Type 0} → Move V → Type 0
IsWritten (move.Act n choices) = AreWords choices
IsWritten (move.Boot choices) = AreWords choices
IsWritten (move.Other entry.Boot) = ⊥
IsWritten (move.Other e) = Unit {0}

abbrev pub AreWritten : {V : Type 0} → List (Move V) → Type 0
AreWritten [] = Unit {0}
AreWritten (m ∷ moves) = IsWritten m × AreWritten moves

-- the walk takes the moves, and what they show is the beginning of the history
pub record IsNode {F V : Type 0} (atomic : Specification F V) (history : List (Entry V)) (moves : List (Move V)) : Type 0 where
  pub end : WalkState F V
  pub passes : walk_from atomic (first_walk atomic) moves ≡ Ok end
  pub left : List (Entry V)
  pub shows : history ≡ entries_of moves ++ left
  pub written : AreWritten moves

module _ (F V : Type 0) where
  -- the nodes of the tree are the lists of moves that the walk takes and that show the beginning of the history
  abbrev pub NodesAreWalks : Type 0
  NodesAreWalks = (atomic : Specification F V) (choosing : Choosing F V) → IsChoosing atomic choosing → (history : List (Entry V)) (moves : List (Move V))
      → IsIn moves (nodes atomic choosing history) ↔ IsNode atomic history moves

  -- and so the full ones are the explanations of the history
  abbrev pub FullNodesExplain : Type 0
  FullNodesExplain = (atomic : Specification F V) (choosing : Choosing F V) → IsChoosing atomic choosing → (history : List (Entry V)) (moves : List (Move V))
      → (IsIn moves (nodes atomic choosing history) × IsFull history moves) ↔ (Explains atomic moves history × AreWritten moves)

-- of the three answers to a search no two hold
pub record AnswersExclude (V : Type 0) : Type 0 where
  pub first_or_none : (all : List (List (Move V))) (history : List (Entry V)) (most : ℕ) (moves : List (Move V))
      → IsFirstFull all history most moves → AreNoneFull all history most → ⊥
  pub first_or_spent : (all : List (List (Move V))) (history : List (Entry V)) (most : ℕ) (moves : List (Move V))
      → IsFirstFull all history most moves → IsSpent all history most → ⊥
  pub none_or_spent : (all : List (List (Move V))) (history : List (Entry V)) (most : ℕ) → AreNoneFull all history most → IsSpent all history most → ⊥
  -- and there is one first full node at most
  pub one_first : (all : List (List (Move V))) (history : List (Entry V)) (most : ℕ) (moves others : List (Move V))
      → IsFirstFull all history most moves → IsFirstFull all history most others → moves ≡ others
