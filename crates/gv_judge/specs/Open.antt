-- What a search has still to go through: the nodes below each node of its path.
use Rattle.std.specs.Prelude.{◌≡◌, ◌↔◌, ℕ, ◌+◌, ◌<◌, ◌≤◌, zero, suc, Bool, true, false, List, [], ◌∷◌, ◌++◌, map, reverse, length, Some, IsTrue}
use Rattle.std.specs.List.{flat_map}
use Rattle.gv_terms.specs.declared.value.Value.{Value}
use Rattle.gv_atomic.specs.declared.spec.Spec.{Spec}
use Rattle.gv_spec.specs.declared.entry.Entry as held_entry
use Rattle.gv_spec.specs.Entry.{Entry}
use Rattle.gv_spec.specs.Move.{Move, entries_of}
use Rattle.gv_spec.specs.Specification.{Specification}
use Rattle.gv_spec.specs.Walks.{WalkState, walk_moved}
use Rattle.gv_spec.specs.Atomic.{atomic_of}
use Rattle.gv_spec.specs.History.{entry_of, move_of}
use Rattle.gv_judge.specs.declared.node.Node.{Node}
use Rattle.gv_judge.specs.declared.turn.Turn as turns
use Rattle.gv_judge.specs.declared.search.Frame.{Frame}
use Rattle.gv_judge.specs.declared.search.Search.{Search}
use Rattle.gv_judge.specs.Choosing.{choosing_of}
use Rattle.gv_judge.specs.Explained.{search_order}
use Rattle.gv_judge.specs.Search.{Choosing, call_bound, additions, beginning, nodes_from, IsFull}
use Rattle.gv_judge.specs.Room.{room, IsBound}
use Rattle.gv_judge.specs.Node.{StandsAt}
use Rattle.gv_judge.specs.Turn.{turn_moves, IsTurn}

-- the nodes below a node that begin with these moves
abbrev pub nodes_below : {F V : Type 0} → Specification F V → Choosing F V → ℕ → ℕ → WalkState F V → List (Entry V) → List (Move V) → List (List (Move V))
nodes_below atomic choosing bound zero w left ms = []
nodes_below atomic choosing bound (suc depth) w left ms =
    flat_map (λ m. beginning atomic choosing (λ u rest. nodes_from atomic choosing bound depth u rest) left m (walk_moved atomic w m)) ms

-- Below the node of these moves there are still these nodes to come, those that begin with the frame's turn and later ones.
pub record IsLeft (s : Spec) (history : List held_entry.Entry) (f : Frame) (moves : List (Move Value)) (own : List (List (Move Value))) : Type 0 where
  pub walk : WalkState (List Value) Value
  pub depth : ℕ
  pub left : List (Entry Value)
  pub shows : map entry_of history ≡ entries_of moves ++ left
  pub stands : StandsAt s (entries_of moves) f.node walk
  pub bound : IsBound (call_bound (map entry_of history)) walk left
  pub room : room (call_bound (map entry_of history)) walk left ≤ depth
  pub gone : List (Move Value)
  pub added : additions (atomic_of s) (choosing_of s) (call_bound (map entry_of history)) walk left ≡ gone ++ turn_moves s f.node f.turn
  pub is_turn : IsTurn s history f.node f.turn
  pub below : own ≡ map (λ ms. moves ++ ms) (nodes_below (atomic_of s) (choosing_of s) (call_bound (map entry_of history)) depth walk left (turn_moves s f.node f.turn))

-- a list without its last item
abbrev pub but_last : {A : Type 0} → List A → List A
but_last [] = []
but_last (x ∷ []) = []
but_last (x ∷ y ∷ xs) = x ∷ but_last (y ∷ xs)

-- the nodes that are to come below the last frame's node, and then below those of the frames before it
abbrev pub AreLeft : Spec → List held_entry.Entry → List Frame → List (Move Value) → List (List (Move Value)) → Type 0
AreLeft s history [] moves todo = todo ≡ []
AreLeft s history (f ∷ frames) moves todo =
    (own : List (List (Move Value))) × (later : List (List (Move Value))) × (todo ≡ own ++ later) × IsLeft s history f moves own
    × AreLeft s history frames (but_last moves) later

-- the search stands at the node of its moves, and these are to come
pub record IsAt (s : Spec) (history : List held_entry.Entry) (x : Search) (todo : List (List (Move Value))) : Type 0 where
  pub full : IsTrue x.is_full ↔ IsFull (map entry_of history) (map move_of x.moves)
  pub left : AreLeft s history (reverse x.frames.items) (map move_of x.moves) todo

-- it goes to the next node of these, or there is none
abbrev pub Goes : Spec → List held_entry.Entry → Bool → Search → List (List (Move Value)) → Type 0
Goes s history true x todo = (rest : List (List (Move Value))) × (todo ≡ map move_of x.moves ∷ rest) × IsAt s history x rest
Goes s history false x todo = todo ≡ []

-- a frame with this turn
abbrev pub framed : Node → turns.Turn → Frame
framed n t = record { node = n; turn = Some t }

-- it stands at the first node, and all others are to come
abbrev pub Begins : Spec → List held_entry.Entry → Search → Type 0
Begins s history x = (todo : List (List (Move Value))) × (search_order s history ≡ [] ∷ todo) × IsAt s history x todo

-- wherever it stood, it goes to the next node
abbrev pub GoesFrom : Spec → List held_entry.Entry → Search → Search → Bool → Type 0
GoesFrom s history old new b = (todo : List (List (Move Value))) → IsAt s history old todo → Goes s history b new todo

-- it stands at a node
abbrev pub Stands : Spec → List held_entry.Entry → Search → Type 0
Stands s history x = (todo : List (List (Move Value))) × IsAt s history x todo

-- the frame with this turn is the last one of its path
abbrev pub HasTaken : Spec → List held_entry.Entry → Node → turns.Turn → Search → Type 0
HasTaken s history n t x = (todo : List (List (Move Value))) × AreLeft s history (framed n t ∷ reverse x.frames.items) (map move_of x.moves) todo

-- how many moves are still to be added to the nodes of the path, and how many nodes it has
abbrev pub work : Spec → List Frame → ℕ
work s [] = 0
work s (f ∷ frames) = suc (length (turn_moves s f.node f.turn)) + work s frames

-- A turn is taken: it goes to the next node, or its move is refused and there is less to do.
abbrev pub Advances : Spec → List held_entry.Entry → Bool → Node → turns.Turn → Search → Search → Type 0
Advances s history true n t old new = (todo : List (List (Move Value)))
    → AreLeft s history (framed n t ∷ reverse old.frames.items) (map move_of old.moves) todo → Goes s history true new todo
Advances s history false n t old new =
    ((todo : List (List (Move Value))) → AreLeft s history (framed n t ∷ reverse old.frames.items) (map move_of old.moves) todo
    → AreLeft s history (reverse new.frames.items) (map move_of new.moves) todo)
    × (work s new.frames.items < work s (old.frames.items ++ framed n t ∷ []))
