-- Specifications that choose nothing: total functions, and the walk along acts and boots without
-- choices. What such a specification means is the same with choices and without (`PlainLaws`).
use Rattle.std.specs.Prelude.{◌≡◌, ◌↔◌, ℕ, Bool, if◌then◌else◌, List, [], ◌∷◌, map, Option, Some, None, Result, Ok, Err, IsTrue}
use Rattle.gv_spec.specs.Entry as entry
use Rattle.gv_spec.specs.Move as move
use Rattle.gv_spec.specs.Entry.{Entry}
use Rattle.gv_spec.specs.Move.{Move}
use Rattle.gv_spec.specs.Specification.{Specification}
use Rattle.gv_spec.specs.Walks.{Standing, NeverCalled, Called, Acted, Answered, dropped, WalkState, WalkCause, Repeated, NotCalled, ActedAlready, NotActed, WrongReply, entered, onward, first_walk, walk_from, Explains}
use Rattle.gv_spec.specs.WalkLaws.{HasExplanation}

pub record Plain (F V : Type 0) : Type 0 where
  pub first_fields : F
  pub applied : ℕ → List V → F → F × V
  pub crashed : F → F
  pub same : V → V → Bool
  pub decides : (x y : V) → IsTrue (same x y) ↔ (x ≡ y)

-- this where nothing is chosen; no choice is allowed
abbrev pub unless_chosen : {A : Type 0} → List ℕ → A → Option A
unless_chosen [] x = Some x
unless_chosen (choice ∷ choices) x = None

-- the specification allows no choice, and without one it does what the plain one does
pub record IsPlain {F V : Type 0} (atomic : Specification F V) (plain : Plain F V) : Type 0 where
  pub first : atomic.first_fields ≡ plain.first_fields
  pub applied : (op : ℕ) (args : List V) (choices : List ℕ) (fields : F)
      → atomic.applied op args choices fields ≡ unless_chosen choices (plain.applied op args fields)
  pub crashed : (choices : List ℕ) (fields : F) → atomic.crashed choices fields ≡ unless_chosen choices (plain.crashed fields)
  pub same : (x y : V) → atomic.same x y ≡ plain.same x y

-- ---- the walk without choices

pub data PlainMove (V : Type 0) : Type 0 where
  Act : ℕ → PlainMove V
  Other : Entry V → PlainMove V

abbrev pub plain_entries : {V : Type 0} → List (PlainMove V) → List (Entry V)
plain_entries [] = []
plain_entries (Act n ∷ moves) = plain_entries moves
plain_entries (Other e ∷ moves) = e ∷ plain_entries moves

module _ {F V : Type 0} (plain : Plain F V) where
  abbrev pub plain_first : WalkState F V
  plain_first = record { fields = plain.first_fields; table = λ n. NeverCalled }

  abbrev pub plain_called : WalkState F V → ℕ → ℕ → List V → Standing V → Result (WalkState F V) WalkCause
  plain_called w n op args NeverCalled = Ok (record w { table = entered w.table n (Called op args) })
  plain_called w n op args _ = Err Repeated

  abbrev pub plain_acted : WalkState F V → ℕ → Standing V → Result (WalkState F V) WalkCause
  plain_acted w n (Called op args) = Ok (record {
    fields = (plain.applied op args w.fields).0;
    table = entered w.table n (Acted (plain.applied op args w.fields).1);
  })
  plain_acted w n (Acted reply) = Err ActedAlready
  plain_acted w n _ = Err NotCalled

  abbrev pub plain_answered : WalkState F V → ℕ → V → Standing V → Result (WalkState F V) WalkCause
  plain_answered w n reply (Acted kept) =
      if plain.same reply kept then Ok (record w { table = entered w.table n Answered }) else Err WrongReply
  plain_answered w n reply (Called op args) = Err NotActed
  plain_answered w n reply _ = Err NotCalled

  abbrev pub plain_moved : WalkState F V → PlainMove V → Result (WalkState F V) WalkCause
  plain_moved w (Act n) = plain_acted w n (w.table n)
  plain_moved w (Other (entry.Call n op args)) = plain_called w n op args (w.table n)
  plain_moved w (Other (entry.Answer n reply)) = plain_answered w n reply (w.table n)
  plain_moved w (Other entry.Crash) = Ok w
  plain_moved w (Other entry.Boot) = Ok (record { fields = plain.crashed w.fields; table = λ n. dropped (w.table n) })

  abbrev pub plain_walk : WalkState F V → List (PlainMove V) → Result (WalkState F V) WalkCause
  plain_walk w [] = Ok w
  plain_walk w (m ∷ moves) = onward (λ next. plain_walk next moves) (plain_moved w m)

  pub record PlainExplains (moves : List (PlainMove V)) (history : List (Entry V)) : Type 0 where
    pub entries : plain_entries moves ≡ history
    pub end : WalkState F V
    pub passes : plain_walk plain_first moves ≡ Ok end

-- ---- with choices and without

-- a move that chooses nothing
abbrev pub choosing_none : {V : Type 0} → PlainMove V → Move V
choosing_none (Act n) = move.Act n []
choosing_none (Other e) = move.Other e

-- a move without its choices
abbrev pub erased : {V : Type 0} → Move V → PlainMove V
erased (move.Act n choices) = Act n
erased (move.Boot choices) = Other entry.Boot
erased (move.Other e) = Other e

abbrev pub HasPlainExplanation : {F V : Type 0} → Plain F V → List (Entry V) → Type 0
HasPlainExplanation {F} {V} plain history = (moves : List (PlainMove V)) × PlainExplains plain moves history

module _ (F V : Type 0) where
  -- moves that choose nothing are walked as without choices: to the same end, or refused for the same cause
  abbrev pub SameWalks : Type 0
  SameWalks = (atomic : Specification F V) (plain : Plain F V) → IsPlain atomic plain → (moves : List (PlainMove V))
      → walk_from atomic (first_walk atomic) (map choosing_none moves) ≡ plain_walk plain (plain_first plain) moves

  -- what explains a history by a specification that allows no choice explains it without its choices
  abbrev pub ErasedExplains : Type 0
  ErasedExplains = (atomic : Specification F V) (plain : Plain F V) → IsPlain atomic plain → (moves : List (Move V)) (history : List (Entry V))
      → Explains atomic moves history → PlainExplains plain (map erased moves) history

  -- a history has an explanation with choices exactly where it has one without
  abbrev pub SameExplained : Type 0
  SameExplained = (atomic : Specification F V) (plain : Plain F V) → IsPlain atomic plain → (history : List (Entry V))
      → HasExplanation atomic history ↔ HasPlainExplanation plain history
