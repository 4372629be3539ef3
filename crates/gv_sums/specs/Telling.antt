-- What the check of a linear certificate asks, part by part, and what it tells.
use Rattle.std.specs.Prelude.{◌⊎◌, Bool, List, [], ◌∷◌, ◌++◌, is_some}
use Rattle.gv_terms.specs.declared.tree.TermTree.{TermTree}
use Rattle.gv_linear.specs.declared.answer.Linear.{Linear}
use Rattle.gv_linear.specs.declared.answer.Linear.TheVariants.{Yes}
use Rattle.gv_certs.specs.declared.cause.Cause.{Cause}
use Rattle.gv_certs.specs.declared.cause.Cause.TheVariants as cause
use Rattle.gv_certs.specs.declared.fault.RuleFault.{RuleFault}
use Rattle.gv_certs.specs.declared.fault.RuleFault.TheVariants as fault
use Rattle.gv_terms.specs.declared.operator.Operator.TheVariants as op
use Rattle.gv_certs.specs.Trees.{over_two, parts_under, and_pass}
use Rattle.gv_certs.specs.Known.{is_known}
use Rattle.gv_certs.specs.Sums.{is_sum, comparison_of, order_of}
use Rattle.gv_certs.specs.Proving.{Premise, asks, AllHold, FirstFails, is_known_of, row_premises, order_premises, Sum, Answers, IsCauseOf, Certificate, Fails}

abbrev pub is_sum_of : List TermTree → TermTree → Premise
is_sum_of facts t = asks (is_sum facts t) cause.NotAPlus

-- a term is `a + b` where the two are known to sum to a word, or `a - b` where b is known to be at most a
abbrev pub is_plus : List TermTree → TermTree → Bool
is_plus facts t = and_pass (parts_under op.Plus t) (λ a b. is_known facts (over_two op.Fits a b))

abbrev pub is_minus : List TermTree → TermTree → Bool
is_minus facts t = and_pass (parts_under op.Minus t) (λ a b. is_known facts (over_two op.AtMost b a))

-- of one row
abbrev pub row_asks : List TermTree → TermTree → List Premise
row_asks facts f = is_known_of facts f ∷ asks (is_some (comparison_of f)) cause.Mismatch ∷ []

-- what is asked once the sums are
abbrev pub later_premises : List TermTree → TermTree → Sum → List Premise
later_premises facts f s = row_premises facts s.rows ++ order_premises s (order_of f)

-- all that holds, and the factors show a contradiction
abbrev pub IsShown : List TermTree → TermTree → Sum → Type 0
IsShown facts f s = AllHold (later_premises facts f s) × Answers s (order_of f) Yes

-- the cause of the first of these that fails, or of what the factors show
abbrev pub IsLaterCause : List TermTree → TermTree → Sum → Cause → Type 0
IsLaterCause facts f s k =
    FirstFails (later_premises facts f s) k ⊎ (AllHold (later_premises facts f s) × ((answer : Linear) × Answers s (order_of f) answer × IsCauseOf answer k))

abbrev pub IsLaterFault : List TermTree → TermTree → Sum → RuleFault → Type 0
IsLaterFault facts f s fault.NoMemory = Unit {0}
IsLaterFault facts f s (fault.Cause k) = IsLaterCause facts f s k

-- memory was refused, or this is the cause of an answer
abbrev pub IsFaultOf : Linear → RuleFault → Type 0
IsFaultOf answer fault.NoMemory = Unit {0}
IsFaultOf answer (fault.Cause k) = IsCauseOf answer k

-- memory was refused, or this is the cause of the certificate's first premise that fails
abbrev pub IsFailure : List TermTree → TermTree → Certificate → RuleFault → Type 0
IsFailure facts f c fault.NoMemory = Unit {0}
IsFailure facts f c (fault.Cause k) = Fails facts f c k
