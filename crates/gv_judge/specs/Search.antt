-- The search for an explanation of a history: a tree whose nodes are lists of moves, and the order of its nodes.
use Rattle.std.specs.Prelude.{◌≡◌, ℕ, ◌+◌, ◌*◌, ◌<◌, ◌≤◌, zero, suc, List, [], ◌∷◌, ◌++◌, length, map, take, Result, Ok, Err, All}
use Rattle.std.specs.List.{flat_map}
use Rattle.gv_spec.specs.Entry as entry
use Rattle.gv_spec.specs.Move as move
use Rattle.gv_spec.specs.Entry.{Entry}
use Rattle.gv_spec.specs.Move.{Move, shown, entries_of}
use Rattle.gv_spec.specs.Specification.{Specification}
use Rattle.gv_spec.specs.Walks.{Standing, Called, WalkState, WalkCause, first_walk, walk_moved, left_after}

-- so many numbers from n on
abbrev pub count_up : ℕ → ℕ → List ℕ
count_up zero n = []
count_up (suc more) n = n ∷ count_up more (n + 1)

-- a number that no call of the history bears, and none above it
abbrev pub call_bound : {V : Type 0} → List (Entry V) → ℕ
call_bound [] = 0
call_bound (entry.Call n op args ∷ left) = n + 1 + call_bound left
call_bound (e ∷ left) = call_bound left

-- the lists of choices that an operation with these arguments allows on these fields, and those that a crash allows,
-- each in ascending order
pub record Choosing (F V : Type 0) : Type 0 where
  pub of_operation : ℕ → List V → F → List (List ℕ)
  pub of_crash : F → List (List ℕ)

module _ {F V : Type 0} (atomic : Specification F V) (choosing : Choosing F V) where
  -- the acts of the call under a number that stands so: one for each list of choices
  abbrev pub acts_of : F → ℕ → Standing V → List (Move V)
  acts_of fields n (Called op args) = map (λ cs. move.Act n cs) (choosing.of_operation op args fields)
  acts_of fields n _ = []

  -- the acts of the calls under these numbers
  abbrev pub acts_under : WalkState F V → List ℕ → List (Move V)
  acts_under w numbers = flat_map (λ n. acts_of w.fields n (w.table n)) numbers

  -- the moves that show the history's next entry: a boot for each list of choices
  abbrev pub showing : F → List (Entry V) → List (Move V)
  showing fields [] = []
  showing fields (entry.Boot ∷ left) = map (λ cs. move.Boot cs) (choosing.of_crash fields)
  showing fields (e ∷ left) = move.Other e ∷ []

  -- what may be added to a node's moves, in order: first the history's next entry, then acts by ascending numbers of calls
  abbrev pub additions : ℕ → WalkState F V → List (Entry V) → List (Move V)
  additions bound w left = showing w.fields left ++ acts_under w (count_up bound 0)

  -- the nodes that begin with a move; a move that the walk refuses begins none
  abbrev pub beginning : (WalkState F V → List (Entry V) → List (List (Move V))) → List (Entry V) → Move V → Result (WalkState F V) WalkCause
      → List (List (Move V))
  beginning deeper left m (Ok u) = map (λ ms. m ∷ ms) (deeper u (left_after left (shown m)))
  beginning deeper left m (Err cause) = []

  -- A node and all nodes below it, each as its moves from there on: the node first, then its children with all below them, in
  -- the order of what they add. `depth` moves are added at most.
  abbrev pub nodes_from : ℕ → ℕ → WalkState F V → List (Entry V) → List (List (Move V))
  nodes_from bound zero w left = [] ∷ []
  nodes_from bound (suc depth) w left =
      [] ∷ flat_map (λ m. beginning (λ u rest. nodes_from bound depth u rest) left m (walk_moved atomic w m)) (additions bound w left)

  -- All nodes for a history, in the order of the search: the node at place k, from 1, has the number k. No node has more moves
  -- than twice the history's entries, since each act has a call.
  abbrev pub nodes : List (Entry V) → List (List (Move V))
  nodes history = nodes_from (call_bound history) (2 * length history) (first_walk atomic) history

-- a node is full where it holds the whole history
abbrev pub IsFull : {V : Type 0} → List (Entry V) → List (Move V) → Type 0
IsFull history moves = entries_of moves ≡ history

-- the first full node, and the number of it is at most `most`
pub record IsFirstFull {V : Type 0} (all : List (List (Move V))) (history : List (Entry V)) (most : ℕ) (moves : List (Move V)) : Type 0 where
  pub before : List (List (Move V))
  pub behind : List (List (Move V))
  pub order : all ≡ before ++ moves ∷ behind
  pub none_before : All (λ ms. IsFull history ms → ⊥) before
  pub full : IsFull history moves
  pub number : length before + 1 ≤ most

-- at most so many nodes, and none is full
pub record AreNoneFull {V : Type 0} (all : List (List (Move V))) (history : List (Entry V)) (most : ℕ) : Type 0 where
  pub count : length all ≤ most
  pub none : All (λ ms. IsFull history ms → ⊥) all

-- more nodes, and none of the first so many is full
pub record IsSpent {V : Type 0} (all : List (List (Move V))) (history : List (Entry V)) (most : ℕ) : Type 0 where
  pub count : most < length all
  pub none : All (λ ms. IsFull history ms → ⊥) (take most all)
