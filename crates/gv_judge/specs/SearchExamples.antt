-- The search, worked on two histories by computation.
use Rattle.std.specs.Prelude.{◌≡◌, ℕ, suc, zero, true, List, [], ◌∷◌, take, Option, Some, None, ◌==◌}
use Rattle.std.proofs.Common.{eqb-true, eq-eqb}
use Rattle.gv_spec.specs.Entry as entry
use Rattle.gv_spec.specs.Move as move
use Rattle.gv_spec.specs.Entry.{Entry}
use Rattle.gv_spec.specs.Move.{Move}
use Rattle.gv_spec.specs.Specification.{Specification}
use Rattle.gv_judge.specs.Search.{Choosing, nodes}
use Rattle.gv_judge.specs.Choosing.{words_within}

-- nothing is chosen
abbrev pub unchosen : {A : Type 0} → List ℕ → A → Option A
unchosen [] x = Some x
unchosen (c ∷ choices) x = None

abbrev pub chooses_nothing : Choosing ℕ ℕ
chooses_nothing = record { of_operation = λ op args fields. [] ∷ []; of_crash = λ fields. [] ∷ [] }

-- one place: operation 0 writes its argument and replies 0, operation 1 replies what stands there, and a crash keeps it
abbrev pub place_applied : ℕ → List ℕ → ℕ → ℕ × ℕ
place_applied zero (v ∷ args) n = (v, 0)
place_applied op args n = (n, n)

abbrev pub place : Specification ℕ ℕ
place = record {
  first_fields = 0;
  allows = λ op args. true;
  applied = λ op args choices n. unchosen choices (place_applied op args n);
  crashed = λ choices n. unchosen choices n;
  same = ◌==◌;
  decides = λ x y. (eqb-true x y, eq-eqb x y);
}

-- a count: operation 0 raises it and replies what it was, and a crash clears it
abbrev pub count : Specification ℕ ℕ
count = record {
  first_fields = 0;
  allows = λ op args. true;
  applied = λ op args choices n. unchosen choices (suc n, n);
  crashed = λ choices n. unchosen choices 0;
  same = ◌==◌;
  decides = λ x y. (eqb-true x y, eq-eqb x y);
}

-- a write that a crash cuts off, two more crashes, and a read that shows what was written
abbrev pub written_before : List (Entry ℕ)
written_before = entry.Boot ∷ entry.Call 1 0 (7 ∷ []) ∷ entry.Crash ∷ entry.Crash ∷ entry.Crash ∷ entry.Boot ∷ entry.Call 2 1 [] ∷ entry.Answer 2 7 ∷ []

-- a first increment that answers 5
abbrev pub wrong_answer : List (Entry ℕ)
wrong_answer = entry.Boot ∷ entry.Call 1 0 [] ∷ entry.Answer 1 5 ∷ []

abbrev pub shown_boot : Move ℕ
shown_boot = move.Boot []

abbrev pub called : Move ℕ
called = move.Other (entry.Call 1 0 (7 ∷ []))

abbrev pub crash : Move ℕ
crash = move.Other entry.Crash

abbrev pub read : Move ℕ
read = move.Other (entry.Call 2 1 [])

-- the first nine nodes leave the write out and end at the wrong reply of the read; the next five have it act before the last
-- boot, and the last of them is full
abbrev pub first_nodes : List (List (Move ℕ))
first_nodes =
    [] ∷ (shown_boot ∷ []) ∷ (shown_boot ∷ called ∷ []) ∷ (shown_boot ∷ called ∷ crash ∷ []) ∷ (shown_boot ∷ called ∷ crash ∷ crash ∷ [])
    ∷ (shown_boot ∷ called ∷ crash ∷ crash ∷ crash ∷ []) ∷ (shown_boot ∷ called ∷ crash ∷ crash ∷ crash ∷ shown_boot ∷ [])
    ∷ (shown_boot ∷ called ∷ crash ∷ crash ∷ crash ∷ shown_boot ∷ read ∷ [])
    ∷ (shown_boot ∷ called ∷ crash ∷ crash ∷ crash ∷ shown_boot ∷ read ∷ move.Act 2 [] ∷ [])
    ∷ (shown_boot ∷ called ∷ crash ∷ crash ∷ crash ∷ move.Act 1 [] ∷ [])
    ∷ (shown_boot ∷ called ∷ crash ∷ crash ∷ crash ∷ move.Act 1 [] ∷ shown_boot ∷ [])
    ∷ (shown_boot ∷ called ∷ crash ∷ crash ∷ crash ∷ move.Act 1 [] ∷ shown_boot ∷ read ∷ [])
    ∷ (shown_boot ∷ called ∷ crash ∷ crash ∷ crash ∷ move.Act 1 [] ∷ shown_boot ∷ read ∷ move.Act 2 [] ∷ [])
    ∷ (shown_boot ∷ called ∷ crash ∷ crash ∷ crash ∷ move.Act 1 [] ∷ shown_boot ∷ read ∷ move.Act 2 [] ∷ move.Other (entry.Answer 2 7) ∷ []) ∷ []

pub record WorkedSearches : Type 0 where
  pub first : take 14 (nodes place chooses_nothing written_before) ≡ first_nodes
  -- the wrong answer has four nodes, and none of them is full
  pub wrong : nodes count chooses_nothing wrong_answer
      ≡ [] ∷ (shown_boot ∷ []) ∷ (shown_boot ∷ move.Other (entry.Call 1 0 []) ∷ []) ∷ (shown_boot ∷ move.Other (entry.Call 1 0 []) ∷ move.Act 1 [] ∷ []) ∷ []
  -- words that fit a bound ascend, and 0 fits a bound of 0
  pub three : words_within 3 ≡ 0 ∷ 1 ∷ 2 ∷ []
  pub none : words_within 0 ≡ 0 ∷ []
