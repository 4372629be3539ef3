-- Laws of walks and explanations, over any specification.
use Rattle.std.specs.Prelude.{◌≡◌, ◌≢◌, ◌↔◌, ℕ, List, [], ◌∷◌, ◌++◌, Some, Ok}
use Rattle.gv_spec.specs.Entry as entry
use Rattle.gv_spec.specs.Move as move
use Rattle.gv_spec.specs.Entry.{Entry}
use Rattle.gv_spec.specs.Move.{Move, shown, entries_of}
use Rattle.gv_spec.specs.Specification.{Specification}
use Rattle.gv_spec.specs.Walks.{WalkState, first_walk, walk_from, Explains, walk}

-- among these moves call n starts and then acts, and the act's reply is this one
pub record ActsWith {F V : Type 0} (atomic : Specification F V) (n : ℕ) (reply : V) (moves : List (Move V)) : Type 0 where
  pub op : ℕ
  pub args : List V
  pub before : List (Move V)
  pub between : List (Move V)
  pub since : List (Move V)
  pub choices : List ℕ
  pub parts : moves ≡ (before ++ move.Other (entry.Call n op args) ∷ between) ++ move.Act n choices ∷ since
  -- where the walk stands just before the act
  pub at : WalkState F V
  pub reached : walk_from atomic (first_walk atomic) (before ++ move.Other (entry.Call n op args) ∷ between) ≡ Ok at
  -- and what the fields are after it
  pub fields : F
  pub replied : atomic.applied op args choices at.fields ≡ Some (fields, reply)

-- some moves explain the history
abbrev pub HasExplanation : {F V : Type 0} → Specification F V → List (Entry V) → Type 0
HasExplanation {F} {V} atomic history = (moves : List (Move V)) × Explains atomic moves history

-- after a boot under some allowed choices the operation replies this, under some allowed choices
pub record CanReply {F V : Type 0} (atomic : Specification F V) (op : ℕ) (args : List V) (reply : V) : Type 0 where
  pub boot_choices : List ℕ
  pub booted : F
  pub boots : atomic.crashed boot_choices atomic.first_fields ≡ Some booted
  pub choices : List ℕ
  pub fields : F
  pub replies : atomic.applied op args choices booted ≡ Some (fields, reply)

-- the history of a boot and of one call that is answered
abbrev pub one_call : {V : Type 0} → ℕ → List V → V → List (Entry V)
one_call op args reply = entry.Boot ∷ entry.Call 1 op args ∷ entry.Answer 1 reply ∷ []

module _ (F V : Type 0) where
  -- the walk beside a history has no fault exactly where the moves explain the history
  abbrev pub WalkTells : Type 0
  WalkTells = (atomic : Specification F V) (history : List (Entry V)) (moves : List (Move V)) (end : WalkState F V)
      → (walk atomic history moves ≡ Ok end) ↔ ((entries_of moves ≡ history) × (walk_from atomic (first_walk atomic) moves ≡ Ok end))

  -- a call acts at most once, whatever it chooses
  abbrev pub ActsOnce : Type 0
  ActsOnce = (atomic : Specification F V) (history : List (Entry V)) (n : ℕ) (choices others : List ℕ) (front middle rest : List (Move V))
      → Explains atomic (front ++ move.Act n choices ∷ (middle ++ move.Act n others ∷ rest)) history → ⊥

  -- an answered call has acted since its start, and its answer is the reply of that act
  abbrev pub AnsweredActs : Type 0
  AnsweredActs = (atomic : Specification F V) (history : List (Entry V)) (n : ℕ) (reply : V) (front rest : List (Move V))
      → Explains atomic (front ++ move.Other (entry.Answer n reply) ∷ rest) history → ActsWith atomic n reply front

  -- a call that a boot has left behind acts no more
  abbrev pub NoActAfterBoot : Type 0
  NoActAfterBoot = (atomic : Specification F V) (history : List (Entry V)) (n op : ℕ) (args : List V) (choices : List ℕ) (boot : Move V)
      → (front middle later rest : List (Move V)) → shown boot ≡ Some entry.Boot
      → Explains atomic (front ++ move.Other (entry.Call n op args) ∷ (middle ++ boot ∷ (later ++ move.Act n choices ∷ rest))) history → ⊥

  -- a history with a reply that its call's operation gives from no fields under no choices has no explanation
  abbrev pub NoWrongReply : Type 0
  NoWrongReply = (atomic : Specification F V) (n op : ℕ) (args : List V) (reply : V) (front middle rest : List (Entry V))
      → ((choices : List ℕ) (fields after : F) → atomic.applied op args choices fields ≢ Some (after, reply))
      → (moves : List (Move V)) → Explains atomic moves (front ++ entry.Call n op args ∷ (middle ++ entry.Answer n reply ∷ rest)) → ⊥

  -- one call after a boot has an explanation exactly where it answers with a reply of its operation on
  -- fields that the recovery may have left
  abbrev pub OneCallReplies : Type 0
  OneCallReplies = (atomic : Specification F V) (op : ℕ) (args : List V) (reply : V)
      → HasExplanation atomic (one_call op args reply) ↔ CanReply atomic op args reply
