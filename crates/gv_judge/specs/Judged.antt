-- What the judge's answers say of a history.
use Rattle.std.specs.Prelude.{ℕ, List, map, All}
use Rattle.gv_atomic.specs.declared.spec.Spec.{Spec}
use Rattle.gv_spec.specs.declared.entry.Entry as held_entry
use Rattle.gv_spec.specs.History.{entry_of, move_of, IsMoveOf, IsExplanation}
use Rattle.gv_judge.specs.declared.judging.Judged as judged
use Rattle.gv_judge.specs.declared.judging.Judged.TheVariants as answer
use Rattle.gv_judge.specs.Search.{IsFirstFull, AreNoneFull, IsSpent}
use Rattle.gv_judge.specs.Explained.{search_order, IsUnexplained}

-- the first full node, no full node, or none among the first ones
abbrev pub IsJudgement : Spec → List held_entry.Entry → ℕ → judged.Judged → Type 0
IsJudgement s history most (answer.Yes moves) = IsFirstFull (search_order s history) (map entry_of history) most (map move_of moves)
IsJudgement s history most answer.No = AreNoneFull (search_order s history) (map entry_of history) most
IsJudgement s history most answer.Spent = IsSpent (search_order s history) (map entry_of history) most

-- the moves explain the history, or nothing does
abbrev pub Tells : Spec → List held_entry.Entry → judged.Judged → Type 0
Tells s history (answer.Yes moves) = IsExplanation s moves history
Tells s history answer.No = IsUnexplained s history
Tells s history answer.Spent = Unit {0}

abbrev pub IsDecided : judged.Judged → Type 0
IsDecided (answer.Yes moves) = Unit {0}
IsDecided answer.No = Unit {0}
IsDecided answer.Spent = ⊥

-- the moves are of the specification
abbrev pub AreMovesOf : Spec → judged.Judged → Type 0
AreMovesOf s (answer.Yes moves) = All (IsMoveOf s) moves
AreMovesOf s answer.No = Unit {0}
AreMovesOf s answer.Spent = Unit {0}
