-- The walk beside a history, move by move.
use Rattle.std.proofs.Common.{◌≡◌, ℕ, ◌+◌, List, ◌∷◌, Result, Ok, Err, sym, ap, ◌∙◌}
use Rattle.gv_spec.specs.Entry.{Entry}
use Rattle.gv_spec.specs.Move.{Move, shown}
use Rattle.gv_spec.specs.Specification.{Specification}
use Rattle.gv_spec.specs.Walks.{WalkState, WalkCause, WalkFault, located, left_after, moved_beside, walk_beside}

module _ {F V : Type 0} (atomic : Specification F V) where
  -- the walk goes on after a move that isn't refused
  pub after_move : (index : ℕ) (w u : WalkState F V) (left : List (Entry V)) (m : Move V) (moves : List (Move V)) (all : Result (WalkState F V) WalkFault)
      → walk_beside atomic index w left (m ∷ moves) ≡ all → moved_beside atomic w left m ≡ Ok u → walk_beside atomic (index + 1) u (left_after left (shown m)) moves ≡ all
  after_move index w u left m moves all h e = sym (ap (λ r. located index (λ next. walk_beside atomic (index + 1) next (left_after left (shown m)) moves) r) e) ∙ h

  -- it ends at one that is
  pub at_refusal : (index : ℕ) (w : WalkState F V) (left : List (Entry V)) (m : Move V) (moves : List (Move V)) (all : Result (WalkState F V) WalkFault) (cause : WalkCause)
      → walk_beside atomic index w left (m ∷ moves) ≡ all → moved_beside atomic w left m ≡ Err cause → all ≡ Err (record { index = index; cause = cause })
  at_refusal index w left m moves all cause h e = sym h ∙ ap (λ r. located index (λ next. walk_beside atomic (index + 1) next (left_after left (shown m)) moves) r) e
