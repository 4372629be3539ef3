-- How a search goes from node to node.
use Rattle.std.proofs.Common.{◌≡◌, ◌↔◌, ℕ, ◌+◌, ◌*◌, ◌≤◌, zero, suc, true, false, List, [], ◌∷◌, ◌++◌, map, length, take, drop, Option, Some, None, Ok, Err, refl, sym, ap, subst, ◌∙◌, arith, inl, append-nil, append_assoc}
use Rattle.std.specs.Prelude.{reverse, IsTrue, MatchOption}
use Rattle.std.proofs.lemmas.List.{reverse-append}
use Rattle.gv_terms.specs.declared.value.Value.{Value}
use Rattle.gv_atomic.specs.declared.spec.Spec.{Spec}
use Rattle.gv_spec.specs.declared.entry.Entry as held_entry
use Rattle.gv_spec.specs.declared.explanation.Move as held_moves
use Rattle.gv_spec.specs.Entry.{Entry}
use Rattle.gv_spec.specs.Entry as entry
use Rattle.gv_spec.specs.Move as move
use Rattle.gv_spec.specs.Move.{Move, shown, entries_of}
use Rattle.gv_spec.specs.Walks.{WalkState, WalkCause, NeverCalled, first_walk, walk_moved, left_after}
use Rattle.gv_spec.specs.Atomic.{atomic_of}
use Rattle.gv_spec.specs.History.{entry_of, move_of}
use Rattle.gv_judge.specs.declared.node.Node.{Node}
use Rattle.gv_judge.specs.declared.turn.Turn as turns
use Rattle.gv_judge.specs.declared.search.Frame.{Frame}
use Rattle.gv_judge.specs.declared.search.Search.{Search}
use Rattle.gv_judge.specs.Choosing.{choosing_of}
use Rattle.gv_judge.specs.Explained.{search_order}
use Rattle.gv_judge.specs.Search.{call_bound, showing, additions, IsFull}
use Rattle.gv_judge.specs.SearchLaws.{IsIn}
use Rattle.gv_judge.specs.Room.{waiting, IsBound}
use Rattle.gv_judge.specs.Node.{IsReady, StandsAt, StandsHere, Takes}
use Rattle.gv_judge.specs.Turn.{acts_from, move_first, moves_later, turn_moves, IsTurn}
use Rattle.gv_judge.specs.Open.{nodes_below, IsLeft, but_last, AreLeft, IsAt, work, framed, Advances}
use Rattle.gv_judge.proofs.Members.{in_right}
use Rattle.gv_judge.proofs.Choosing.{is_choosing}
use Rattle.gv_judge.proofs.Waiting.{IsNext}
use Rattle.gv_judge.proofs.SearchLaws.{added_next}
use Rattle.gv_judge.proofs.Later.{map_append, map_twice, map_same}
use Rattle.gv_judge.proofs.Adding.{first_is_all, shown_before, place_within}
use Rattle.gv_judge.proofs.Tree.{node_first, none_below, refused_below, begun_below}

but_last_is : {A : Type 0} (xs : List A) (x : A) → but_last (xs ++ x ∷ []) ≡ xs
but_last_is [] x = refl
but_last_is (y ∷ []) x = refl
but_last_is (y ∷ z ∷ xs) x = ap (λ l. y ∷ l) (but_last_is (z ∷ xs) x)

entries_append : (ms ns : List (Move Value)) → entries_of (ms ++ ns) ≡ entries_of ms ++ entries_of ns
entries_append [] ns = refl
entries_append (move.Act n choices ∷ ms) ns = entries_append ms ns
entries_append (move.Boot choices ∷ ms) ns = ap (λ es. entry.Boot ∷ es) (entries_append ms ns)
entries_append (move.Other e ∷ ms) ns = ap (λ es. e ∷ es) (entries_append ms ns)

map_last : {A B : Type 0} (f : A → B) (xs : List A) (x : A) → map f (xs ++ x ∷ []) ≡ map f xs ++ f x ∷ []
map_last f xs x = map_append f xs (x ∷ [])

reverse_last : {A : Type 0} (xs : List A) (x : A) → reverse (xs ++ x ∷ []) ≡ x ∷ reverse xs
reverse_last xs x = reverse-append xs (x ∷ [])

none_waits_first : (b : ℕ) → waiting {V = Value} (λ n. NeverCalled) b ≡ 0
none_waits_first zero = refl
none_waits_first (suc b) = (let rest = none_waits_first b in omega (arith, rest))

length_map : (h : List held_entry.Entry) → length (map entry_of h) ≡ length h
length_map [] = refl
length_map (x ∷ h) = ap suc (length_map h)

length_parts : (xs ys : List (Entry Value)) → length (xs ++ ys) ≡ length xs + length ys
length_parts [] ys = omega arith
length_parts (x ∷ xs) ys = (let r = length_parts xs ys in omega (arith, r))

no_left : (left : List (Entry Value)) → length left ≡ 0 → left ≡ []
no_left [] e = refl
no_left (x ∷ left) e = absurd (omega (arith, e))

-- the moves when the last one is taken off
pub popped : (old new : List held_moves.Move) (r : Option held_moves.Move) → MatchOption r ((old ≡ []) × (new ≡ [])) (λ last. old ≡ new ++ last ∷ [])
    → but_last (map move_of old) ≡ map move_of new
popped old new None h = ap (λ l. but_last (map move_of l)) h.0 ∙ ap (map move_of) (sym h.1)
popped old new (Some m) h = ap (λ l. but_last (map move_of l)) h ∙ ap but_last (map_last move_of new m) ∙ but_last_is (map move_of new) (move_of m)

module _ (s : Spec) (history : List held_entry.Entry) where
  -- ---- a frame without a turn has none left

  pub done_left : (n : Node) (moves : List (Move Value)) (own : List (List (Move Value))) → IsLeft s history (record { node = n; turn = None }) moves own → own ≡ []
  done_left n moves own l = l.below ∙ ap (λ ns. map (λ ms. moves ++ ms) ns) (none_below (atomic_of s) (choosing_of s) (call_bound (map entry_of history)) l.depth l.walk l.left)

  -- ---- a turn's move

  -- the turn's move shows what comes next
  turn_next : (n : Node) (t : turns.Turn) (moves : List (Move Value)) (own : List (List (Move Value))) → (l : IsLeft s history (framed n t) moves own) → IsNext l.left (move_first t)
  turn_next n t moves own l =
      (added_next (atomic_of s) (choosing_of s) (is_choosing s) (call_bound (map entry_of history)) l.walk l.left (move_first t)
      (subst (λ ms. IsIn (move_first t) ms) (sym l.added) (in_right (move_first t) l.gone (move_first t ∷ moves_later s n t) (inl refl)))).0

  module _ (n : Node) (t : turns.Turn) (later : Option turns.Turn) (moves : List (Move Value)) (own : List (List (Move Value)))
      (l : IsLeft s history (framed n t) moves own) (later_is : turn_moves s n later ≡ moves_later s n t) (is_later : IsTurn s history n later) where
    -- what the frame with the later turn has left
    frame_later : IsLeft s history (record { node = n; turn = later }) moves
        (map (λ ms. moves ++ ms) (nodes_below (atomic_of s) (choosing_of s) (call_bound (map entry_of history)) l.depth l.walk l.left (turn_moves s n later)))
    frame_later = record {
      walk = l.walk;
      depth = l.depth;
      left = l.left;
      shows = l.shows;
      stands = l.stands;
      bound = l.bound;
      room = l.room;
      gone = l.gone ++ move_first t ∷ [];
      added = l.added ∙ ap (λ ms. l.gone ++ move_first t ∷ ms) (sym later_is) ∙ sym (append_assoc l.gone (move_first t ∷ []) (turn_moves s n later));
      is_turn = is_later;
      below = refl;
    }

    -- a refused move leaves them
    pub left_refused : (cause : WalkCause) → walk_moved (atomic_of s) l.walk (move_first t) ≡ Err cause → IsLeft s history (record { node = n; turn = later }) moves own
    left_refused cause e =
        let same : own ≡ map (λ ms. moves ++ ms) (nodes_below (atomic_of s) (choosing_of s) (call_bound (map entry_of history)) l.depth l.walk l.left (turn_moves s n later)) =
        l.below
        ∙ ap (λ ns. map (λ ms. moves ++ ms) ns) (refused_below (atomic_of s) (choosing_of s) (call_bound (map entry_of history)) l.depth l.walk l.left (move_first t) (moves_later s n t) cause e)
        ∙ ap (λ ns. map (λ ms. moves ++ ms) (nodes_below (atomic_of s) (choosing_of s) (call_bound (map entry_of history)) l.depth l.walk l.left ns)) (sym later_is) in
        subst (IsLeft s history (record { node = n; turn = later }) moves) (sym same) frame_later

    -- a move that is taken: its node comes, then those below it, then those of the later turns
    pub record Taken (child : Node) (turn : Option turns.Turn) : Type 0 where
      pub under : List (List (Move Value))
      pub behind : List (List (Move Value))
      pub order : own ≡ (moves ++ move_first t ∷ []) ∷ (under ++ behind)
      pub new : IsLeft s history (record { node = child; turn = turn }) (moves ++ move_first t ∷ []) under
      pub old : IsLeft s history (record { node = n; turn = later }) moves behind

    pub taken : (child : Node) (turn : Option turns.Turn) (u : WalkState (List Value) Value) → walk_moved (atomic_of s) l.walk (move_first t) ≡ Ok u
        → StandsAt s (entries_of moves ++ entries_of (move_first t ∷ [])) child u
        → turn_moves s child turn ≡ additions (atomic_of s) (choosing_of s) (call_bound (map entry_of history)) u (left_after l.left (shown (move_first t)))
        → IsTurn s history child turn → Taken child turn
    taken child turn u e stands all is_turn =
        let atomic = atomic_of s in
        let choosing = choosing_of s in
        let bound = call_bound (map entry_of history) in
        let m = move_first t in
        let next = turn_next n t moves own l in
        let b = begun_below atomic choosing bound l.depth l.walk u l.left m (moves_later s n t) e next l.bound l.room in
        let left = left_after l.left (shown m) in
        let ahead = moves ++ m ∷ [] in
        let under = nodes_below atomic choosing bound b.deeper u left (additions atomic choosing bound u left) in
        let behind = nodes_below atomic choosing bound l.depth l.walk l.left (moves_later s n t) in
        record {
          under = map (λ ms. ahead ++ ms) (nodes_below atomic choosing bound b.deeper u left (turn_moves s child turn));
          behind = map (λ ms. moves ++ ms) (nodes_below atomic choosing bound l.depth l.walk l.left (turn_moves s n later));
          order = l.below ∙ ap (λ ns. map (λ ms. moves ++ ms) ns) b.below
              ∙ ap (λ ns. ahead ∷ ns) (map_append (λ ms. moves ++ ms) (map (λ ns. m ∷ ns) under) behind
              ∙ ap (λ ns. ns ++ map (λ ms. moves ++ ms) behind) (map_twice (λ ns. m ∷ ns) (λ ms. moves ++ ms) under ∙ ahead_of moves m under)
              ∙ ap (λ ms. map (λ ns. ahead ++ ns) (nodes_below atomic choosing bound b.deeper u left ms) ++ map (λ ns. moves ++ ns) behind) (sym all)
              ∙ ap (λ ms. map (λ ns. ahead ++ ns) (nodes_below atomic choosing bound b.deeper u left (turn_moves s child turn))
              ++ map (λ ns. moves ++ ns) (nodes_below atomic choosing bound l.depth l.walk l.left ms)) (sym later_is));
          new = record {
            walk = u;
            depth = b.deeper;
            left = left;
            shows = l.shows ∙ ap (λ es. entries_of moves ++ es) next ∙ sym (append_assoc (entries_of moves) (entries_of (m ∷ [])) left)
                ∙ ap (λ es. es ++ left) (sym (entries_append moves (m ∷ [])));
            stands = subst (λ es. StandsAt s es child u) (sym (entries_append moves (m ∷ []))) stands;
            bound = b.within;
            room = b.room;
            gone = [];
            added = sym all;
            is_turn = is_turn;
            below = refl;
          };
          old = frame_later;
        }
      where
        ahead_of : (moves : List (Move Value)) (m : Move Value) (ns : List (List (Move Value))) → map (λ ms. moves ++ m ∷ ms) ns ≡ map (λ ms. (moves ++ m ∷ []) ++ ms) ns
        ahead_of moves m [] = refl
        ahead_of moves m (ms ∷ ns) = ap (λ l. l ∷ map (λ ms. moves ++ m ∷ ms) ns) (sym (append_assoc moves (m ∷ []) ms)) ∙ ap (λ l. ((moves ++ m ∷ []) ++ ms) ∷ l) (ahead_of moves m ns)

  -- ---- the whole path

  -- what is told of the node after a turn
  abbrev pub IsAfter : Node → turns.Turn → Option Node → Type 0
  IsAfter n t o = StandsHere s n (λ before w. before ≡ map entry_of (take n.place history) → Takes s before w (move_first t) o)

  -- a node to which nothing more is added is left
  pub node_done : (n : Node) (frames : List Frame) (moves : List (Move Value)) (todo : List (List (Move Value)))
      → AreLeft s history (record { node = n; turn = None } ∷ frames) moves todo → AreLeft s history frames (but_last moves) todo
  node_done n frames moves todo h =
      let none : h.0 ≡ [] = done_left n moves h.0 h.3 in
      subst (AreLeft s history frames (but_last moves)) (sym (h.2 ∙ ap (λ o. o ++ h.1) none)) h.4

  module _ (n : Node) (t : turns.Turn) (later : Option turns.Turn) (frames : List Frame) (moves : List (Move Value)) (later_is : turn_moves s n later ≡ moves_later s n t) (is_later : IsTurn s history n later) where
    -- a turn whose move is refused
    pub path_refused : IsAfter n t None → (todo : List (List (Move Value))) → AreLeft s history (framed n t ∷ frames) moves todo → AreLeft s history (record { node = n; turn = later } ∷ frames) moves todo
    path_refused refuses todo h =
        let l = h.3 in
        let no = refuses (entries_of moves) l.walk l.stands (shown_before s history (entries_of moves) l.left n l.walk 0 l.shows l.stands) in
        (h.0, h.1, h.2, left_refused n t later moves h.0 l later_is is_later no.0 no.1, h.4)

    -- a turn whose move is taken
    pub path_taken : (child : Node) (turn : Option turns.Turn) → IsAfter n t (Some child)
        → turn_moves s child turn ≡ showing (atomic_of s) (choosing_of s) child.fields.values (map entry_of (drop child.place history)) ++ acts_from s child.fields.values child.waiting.items
        → IsTurn s history child turn
        → (todo : List (List (Move Value))) → AreLeft s history (framed n t ∷ frames) moves todo
        → (rest : List (List (Move Value))) × (todo ≡ (moves ++ move_first t ∷ []) ∷ rest)
        × AreLeft s history (record { node = child; turn = turn } ∷ record { node = n; turn = later } ∷ frames) (moves ++ move_first t ∷ []) rest
    path_taken child turn takes all is_turn todo h =
        let l = h.3 in
        let m = move_first t in
        let yes = takes (entries_of moves) l.walk l.stands (shown_before s history (entries_of moves) l.left n l.walk 0 l.shows l.stands) in
        let next = turn_next n t moves h.0 l in
        let b = begun_below (atomic_of s) (choosing_of s) (call_bound (map entry_of history)) l.depth l.walk yes.0 l.left m (moves_later s n t) yes.1 next l.bound l.room in
        let split : map entry_of history ≡ (entries_of moves ++ entries_of (m ∷ [])) ++ left_after l.left (shown m) =
        l.shows ∙ ap (λ es. entries_of moves ++ es) next ∙ sym (append_assoc (entries_of moves) (entries_of (m ∷ [])) (left_after l.left (shown m))) in
        let additions_are = first_is_all s history (entries_of moves ++ entries_of (m ∷ [])) (left_after l.left (shown m)) child yes.0 (call_bound (map entry_of history)) split yes.2 b.within in
        let taken_so = taken n t later moves h.0 l later_is is_later child turn yes.0 yes.1 yes.2 (all ∙ additions_are) is_turn in (
          taken_so.under ++ (taken_so.behind ++ h.1),
          h.2 ∙ ap (λ o. o ++ h.1) taken_so.order ∙ ap (λ o. (moves ++ m ∷ []) ∷ o) (append_assoc taken_so.under taken_so.behind h.1),
          (
            taken_so.under,
            taken_so.behind ++ h.1,
            refl,
            taken_so.new,
            subst (λ ms. AreLeft s history (record { node = n; turn = later } ∷ frames) ms (taken_so.behind ++ h.1)) (sym (but_last_is moves m)) (taken_so.behind, h.1, refl, taken_so.old, h.4),
          ),
        )

  -- ---- the start

  first_bound : IsBound (call_bound (map entry_of history)) (first_walk (atomic_of s)) (map entry_of history)
  first_bound = record { table = λ n op args h. absurd (let clash = h in cc); history = omega arith }

  pub path_first : (n : Node) (turn : Option turns.Turn) → StandsAt s [] n (first_walk (atomic_of s))
      → turn_moves s n turn ≡ showing (atomic_of s) (choosing_of s) n.fields.values (map entry_of (drop n.place history)) ++ acts_from s n.fields.values n.waiting.items
      → IsTurn s history n turn
      → (todo : List (List (Move Value))) × (search_order s history ≡ [] ∷ todo) × AreLeft s history (record { node = n; turn = turn } ∷ []) [] todo
  path_first n turn stands all is_turn =
      let bound = call_bound (map entry_of history) in
      let additions_are = first_is_all s history [] (map entry_of history) n (first_walk (atomic_of s)) bound refl stands first_bound in
      let all_additions = all ∙ additions_are in
      let below = nodes_below (atomic_of s) (choosing_of s) bound (2 * length (map entry_of history)) (first_walk (atomic_of s)) (map entry_of history) (turn_moves s n turn) in (
        map (λ ms. ms) below,
        node_first (atomic_of s) (choosing_of s) bound (2 * length (map entry_of history)) (first_walk (atomic_of s)) (map entry_of history)
            ∙ ap (λ ms. [] ∷ nodes_below (atomic_of s) (choosing_of s) bound (2 * length (map entry_of history)) (first_walk (atomic_of s)) (map entry_of history) ms) (sym all_additions)
            ∙ ap (λ ns. [] ∷ ns) (sym (map_same below)),
        (
          map (λ ms. ms) below,
          [],
          sym (append-nil (map (λ ms. ms) below)),
          record {
            walk = first_walk (atomic_of s);
            depth = 2 * length (map entry_of history);
            left = map entry_of history;
            shows = refl;
            stands = stands;
            bound = first_bound;
            room = (let none = none_waits_first (call_bound (map entry_of history)) in omega (arith, none));
            gone = [];
            added = sym all_additions;
            is_turn = is_turn;
            below = refl;
          },
          refl,
        ),
      )

  -- ---- full nodes

  pub full_there : (n : Node) (w : WalkState (List Value) Value) (moves : List (Move Value)) (left : List (Entry Value)) → map entry_of history ≡ entries_of moves ++ left
      → StandsAt s (entries_of moves) n w → (n.place ≡ length history) ↔ IsFull (map entry_of history) moves
  full_there n w moves left split stands =
      let maps = length_map history in
      let long : length (map entry_of history) ≡ length (entries_of moves ++ left) = ap length split in
      let parts = length_parts (entries_of moves) left in
      let p = stands.place in (
        (λ e. (let none = no_left left (omega (arith, maps, long, parts, p, e)) in sym (split ∙ ap (λ es. entries_of moves ++ es) none ∙ append-nil (entries_of moves)))),
        (λ f. (let same : length (entries_of moves) ≡ length (map entry_of history) = ap length f in omega (arith, same, maps, p))),
      )

  -- ---- how much is to do

  pub work_last : (frames : List Frame) (f : Frame) → work s (frames ++ f ∷ []) ≡ work s frames + suc (length (turn_moves s f.node f.turn))
  work_last [] f = omega arith
  work_last (g ∷ frames) f = (let rest = work_last frames f in omega (arith, rest))

  -- ---- the search goes on

  -- the last frame
  pub last_frame : (frames rest : List Frame) (f : Frame) (moves : List (Move Value)) (todo : List (List (Move Value))) → frames ≡ rest ++ f ∷ []
      → AreLeft s history (reverse frames) moves todo → AreLeft s history (f ∷ reverse rest) moves todo
  last_frame frames rest f moves todo e h = subst (λ fs. AreLeft s history fs moves todo) (ap reverse e ∙ reverse_last rest f) h

  -- what stands of it
  pub record Standing (n : Node) (t : turns.Turn) : Type 0 where
    pub ready : IsReady s n
    pub turn : IsTurn s history n (Some t)
    pub place : n.place ≤ length history

  pub frame_stands : (n : Node) (t : turns.Turn) (frames : List Frame) (moves : List (Move Value)) (todo : List (List (Move Value)))
      → AreLeft s history (framed n t ∷ frames) moves todo → Standing n t
  frame_stands n t frames moves todo h =
      (let l = h.3 in record { ready = l.stands.ready; turn = l.is_turn; place = place_within s history (entries_of moves) l.left n l.walk 0 l.shows l.stands })

  module _ (n : Node) (t : turns.Turn) (later : Option turns.Turn) (old new : Search) (later_is : turn_moves s n later ≡ moves_later s n t) (is_later : IsTurn s history n later) where
    pub stayed : IsAfter n t None → new.frames.items ≡ old.frames.items ++ (record { node = n; turn = later }) ∷ [] → new.moves ≡ old.moves → Advances s history false n t old new
    stayed refuses frames moves = (
      (λ todo h. subst (λ ms. AreLeft s history (reverse new.frames.items) ms todo) (ap (map move_of) (sym moves))
          (subst (λ fs. AreLeft s history fs (map move_of old.moves) todo) (sym (ap reverse frames ∙ reverse_last old.frames.items (record { node = n; turn = later })))
          (path_refused n t later (reverse old.frames.items) (map move_of old.moves) later_is is_later refuses todo h))),
      (let now : work s new.frames.items ≡ work s old.frames.items + suc (length (turn_moves s n later)) = ap (work s) frames ∙ work_last old.frames.items (record { node = n; turn = later }) in
          let before = work_last old.frames.items (framed n t) in
          let same : length (turn_moves s n later) ≡ length (moves_later s n t) = ap length later_is in
          omega (arith, now, before, same)),
    )

    pub advanced : (child : Node) (turn : Option turns.Turn) (shown_move : held_moves.Move) → IsAfter n t (Some child)
        → turn_moves s child turn ≡ showing (atomic_of s) (choosing_of s) child.fields.values (map entry_of (drop child.place history)) ++ acts_from s child.fields.values child.waiting.items
        → IsTurn s history child turn → move_of shown_move ≡ move_first t
        → new.frames.items ≡ (old.frames.items ++ (record { node = n; turn = later }) ∷ []) ++ (record { node = child; turn = turn }) ∷ []
        → new.moves ≡ old.moves ++ shown_move ∷ [] → IsTrue new.is_full ↔ (child.place ≡ length history) → Advances s history true n t old new
    advanced child turn shown_move takes all is_turn shown_is frames moves full todo h =
        let ms = map move_of old.moves in
        let p = path_taken n t later (reverse old.frames.items) ms later_is is_later child turn takes all is_turn todo h in
        let ahead : map move_of new.moves ≡ map move_of old.moves ++ move_first t ∷ [] =
        ap (map move_of) moves ∙ map_last move_of old.moves shown_move ∙ ap (λ m. map move_of old.moves ++ m ∷ []) shown_is in
        let turned : reverse new.frames.items ≡ record { node = child; turn = turn } ∷ record { node = n; turn = later } ∷ reverse old.frames.items =
        ap reverse frames ∙ reverse_last (old.frames.items ++ (record { node = n; turn = later }) ∷ []) (record { node = child; turn = turn })
        ∙ ap (λ fs. (record { node = child; turn = turn }) ∷ fs) (reverse_last old.frames.items (record { node = n; turn = later })) in
        let top = p.2.3 in
        let is_full = full_there child top.walk (map move_of old.moves ++ move_first t ∷ []) top.left top.shows top.stands in (
          p.0,
          p.1 ∙ ap (λ m. m ∷ p.0) (sym ahead),
          record {
            full = subst (λ m. IsTrue new.is_full ↔ IsFull (map entry_of history) m) (sym ahead) ((λ x. is_full.0 (full.0 x)), (λ x. full.1 (is_full.1 x)));
            left = subst (λ fs. AreLeft s history fs (map move_of new.moves) p.0) (sym turned)
                (subst (λ m. AreLeft s history (record { node = child; turn = turn } ∷ record { node = n; turn = later } ∷ reverse old.frames.items) m p.0) (sym ahead) p.2);
          },
        )

  pub child_ready : (n : Node) (t : turns.Turn) (child : Node) (frames : List Frame) (moves : List (Move Value)) (todo : List (List (Move Value)))
      → AreLeft s history (framed n t ∷ frames) moves todo → IsAfter n t (Some child) → IsReady s child
  child_ready n t child frames moves todo h takes =
      (let l = h.3 in (takes (entries_of moves) l.walk l.stands (shown_before s history (entries_of moves) l.left n l.walk 0 l.shows l.stands)).2.ready)

  empty_full : (h : List held_entry.Entry) → (h ≡ []) ↔ ([] ≡ map entry_of h)
  empty_full [] = ((λ _. refl), (λ _. refl))
  empty_full (x ∷ h) = ((λ e. absurd (let clash = e in cc)), (λ e. absurd (let clash = e in cc)))

  pub begun_at : (x : Search) (n : Node) (turn : Option turns.Turn) → StandsAt s [] n (first_walk (atomic_of s))
      → turn_moves s n turn ≡ showing (atomic_of s) (choosing_of s) n.fields.values (map entry_of (drop n.place history)) ++ acts_from s n.fields.values n.waiting.items
      → IsTurn s history n turn → x.frames.items ≡ (record { node = n; turn = turn }) ∷ [] → x.moves ≡ [] → IsTrue x.is_full ↔ (history ≡ [])
      → (todo : List (List (Move Value))) × (search_order s history ≡ [] ∷ todo) × IsAt s history x todo
  begun_at x n turn stands all is_turn frames moves full =
      let p = path_first n turn stands all is_turn in
      let none = empty_full history in
      let told : IsTrue x.is_full ↔ IsFull (map entry_of history) [] = ((λ h. none.0 (full.0 h)), (λ h. full.1 (none.1 h))) in (
        p.0,
        p.1,
        record {
          full = subst (λ ms. IsTrue x.is_full ↔ IsFull (map entry_of history) (map move_of ms)) (sym moves) told;
          left = subst (λ ms. AreLeft s history (reverse x.frames.items) (map move_of ms) p.0) (sym moves)
              (subst (λ fs. AreLeft s history (reverse fs) [] p.0) (sym frames) p.2);
        },
      )
