-- The nodes below a node, move by move.
use Rattle.std.proofs.Common.{◌≡◌, ℕ, ◌≤◌, zero, suc, List, [], ◌∷◌, ◌++◌, map, Ok, Err, refl, ap, ◌∙◌, arith}
use Rattle.gv_spec.specs.Entry.{Entry}
use Rattle.gv_spec.specs.Move.{Move, shown}
use Rattle.gv_spec.specs.Specification.{Specification}
use Rattle.gv_spec.specs.Walks.{WalkState, WalkCause, walk_moved, left_after}
use Rattle.gv_spec.proofs.WalkLaws.{moved_walked}
use Rattle.gv_judge.specs.Search.{Choosing, additions, beginning, nodes_from}
use Rattle.gv_judge.specs.Room.{room, IsBound}
use Rattle.gv_judge.specs.Open.{nodes_below}
use Rattle.gv_judge.proofs.Waiting.{IsNext, falls, stays_bound}

module _ {F V : Type 0} (atomic : Specification F V) (choosing : Choosing F V) (bound : ℕ) where
  -- a node and those below it
  pub node_first : (depth : ℕ) (w : WalkState F V) (left : List (Entry V))
      → nodes_from atomic choosing bound depth w left ≡ [] ∷ nodes_below atomic choosing bound depth w left (additions atomic choosing bound w left)
  node_first zero w left = refl
  node_first (suc depth) w left = refl

  pub none_below : (depth : ℕ) (w : WalkState F V) (left : List (Entry V)) → nodes_below atomic choosing bound depth w left [] ≡ []
  none_below zero w left = refl
  none_below (suc depth) w left = refl

  -- a move that is refused begins none
  pub refused_below : (depth : ℕ) (w : WalkState F V) (left : List (Entry V)) (m : Move V) (ms : List (Move V)) (cause : WalkCause) → walk_moved atomic w m ≡ Err cause
      → nodes_below atomic choosing bound depth w left (m ∷ ms) ≡ nodes_below atomic choosing bound depth w left ms
  refused_below zero w left m ms cause e = refl
  refused_below (suc depth) w left m ms cause e =
      ap (λ r. beginning atomic choosing (λ u rest. nodes_from atomic choosing bound depth u rest) left m r ++ nodes_below atomic choosing bound (suc depth) w left ms) e

  -- what a move begins: its node, those below it, and those that begin with the later moves
  pub record Begun (depth : ℕ) (w u : WalkState F V) (left : List (Entry V)) (m : Move V) (ms : List (Move V)) : Type 0 where
    pub deeper : ℕ
    pub room : room bound u (left_after left (shown m)) ≤ deeper
    pub within : IsBound bound u (left_after left (shown m))
    pub below : nodes_below atomic choosing bound depth w left (m ∷ ms)
        ≡ (m ∷ []) ∷ (map (λ ns. m ∷ ns) (nodes_below atomic choosing bound deeper u (left_after left (shown m)) (additions atomic choosing bound u (left_after left (shown m))))
        ++ nodes_below atomic choosing bound depth w left ms)

  pub begun_below : (depth : ℕ) (w u : WalkState F V) (left : List (Entry V)) (m : Move V) (ms : List (Move V)) → walk_moved atomic w m ≡ Ok u → IsNext left m
      → IsBound bound w left → room bound w left ≤ depth → Begun depth w u left m ms
  begun_below zero w u left m ms e next b long = (let fall = falls atomic bound w u left m (moved_walked atomic w u m e) next b in absurd (omega (arith, fall, long)))
  begun_below (suc depth) w u left m ms e next b long =
      let walked = moved_walked atomic w u m e in
      let fall = falls atomic bound w u left m walked next b in
      let later = nodes_below atomic choosing bound (suc depth) w left ms in
      record {
        deeper = depth;
        room = omega (arith, fall, long);
        within = stays_bound atomic bound w u left m walked next b;
        below = ap (λ r. beginning atomic choosing (λ u rest. nodes_from atomic choosing bound depth u rest) left m r ++ later) e
            ∙ ap (λ ns. map (λ ms. m ∷ ms) ns ++ later) (node_first depth u (left_after left (shown m)));
      }
