-- Formulas as steps that make terms on a stack, each operator behind its parts: how the code has the table of the axioms.
use Rattle.std.specs.Prelude.{◌≡◌, ℕ, ◌-◌, List, [], ◌∷◌, ◌++◌, Option, Some, length, take, drop, map, slice_get, slice_range}
use Rattle.gv_terms.specs.declared.operator.Operator.TheVariants as op
use Rattle.gv_terms.specs.declared.tree.TermTree.{TermTree}
use Rattle.gv_terms.specs.declared.tree.TermTree.TheVariants as tree
use Rattle.gv_axioms.specs.declared.row.Row.{Row}
use Rattle.gv_axioms.specs.declared.row.Premise.{Premise as Asked}
use Rattle.gv_axioms.specs.declared.row.Span.{Span}
use Rattle.gv_axioms.specs.declared.generated.table.TheConstants.{KINDS, STEPS, PREMISES}
use Rattle.gv_axioms.specs.declared.step.Step.{Step}
use Rattle.gv_axioms.specs.declared.step.Step.TheVariants as step
use Rattle.gv_axioms.specs.Schema.{Axiom, Pattern, Premise}
use Rattle.gv_axioms.specs.Schema.Pattern.{part, literal, copied, zero, over0, over1, over2, over3}
use Rattle.gv_axioms.specs.Filling.{with_some, made, held, zero_term, sorted, sort_at, as_formula}
use Rattle.gv_axioms.specs.Instances.{is_asked, asked_first}

abbrev pub postfix : Pattern → List Step
postfix (part i) = step.Part i ∷ []
postfix (literal i) = step.Literal i ∷ []
postfix (copied i) = step.Copied i ∷ []
postfix (zero i) = step.Zero i ∷ []
postfix (over0 o) = step.Apply o 0 ∷ []
postfix (over1 o p) = postfix p ++ (step.Apply o 1 ∷ [])
postfix (over2 o p q) = postfix p ++ (postfix q ++ (step.Apply o 2 ∷ []))
postfix (over3 o p q r) = postfix p ++ (postfix q ++ (postfix r ++ (step.Apply o 3 ∷ [])))

-- the term that a step makes over parts and a stack of terms
abbrev pub step_tree : List TermTree → Step → List TermTree → Option TermTree
step_tree ts (step.Part i) stack = slice_get ts i
step_tree ts (step.Literal i) stack = with_some (with_some (slice_get ts i) made) (λ m. sorted (tree.Apply (op.Number m.0) []))
step_tree ts (step.Copied i) stack = with_some (with_some (slice_get ts i) made) (λ m. Some m.1)
step_tree ts (step.Zero i) stack = with_some (with_some (sort_at ts i) held) zero_term
step_tree ts (step.Apply o n) stack = sorted (tree.Apply o (drop (length stack - n) stack))

-- how many terms a step takes from the stack
abbrev pub taken : Step → ℕ
taken (step.Apply o n) = n
taken _ = 0

-- the stack after a step, and after several
abbrev pub after : List TermTree → Step → List TermTree → Option (List TermTree)
after ts s stack = with_some (step_tree ts s stack) (λ t. Some (take (length stack - taken s) stack ++ (t ∷ [])))

abbrev pub run : List TermTree → List Step → List TermTree → Option (List TermTree)
run ts [] stack = Some stack
run ts (s ∷ rest) stack = with_some (after ts s stack) (run ts rest)

-- what the steps make: the last term
abbrev pub made_by : List TermTree → List Step → Option TermTree
made_by ts steps = with_some (run ts steps []) (λ stack. slice_get stack (length stack - 1))

-- the same, where it is a formula; the steps stand in the table
abbrev pub formula_by : List TermTree → Span → Option TermTree
formula_by ts s = with_some (made_by ts (slice_range STEPS s.from s.to)) as_formula

-- the formulas of the premises that are asked for
abbrev pub asked_by : List TermTree → List Asked → Option (List TermTree)
asked_by ts [] = Some []
asked_by ts (r ∷ rest) = asked_first (is_asked ts r.bytes) (formula_by ts r.steps) (asked_by ts rest)

-- the code's row of the table is the axiom
abbrev pub premise_read : Asked → Option ℕ × List Step
premise_read r = (r.bytes, slice_range STEPS r.steps.from r.steps.to)

abbrev pub premise_written : Premise → Option ℕ × List Step
premise_written p = (p.bytes, postfix p.formula)

pub record IsWritten (row : Row) (a : Axiom) : Type 0 where
  pub kinds : slice_range KINDS row.kinds.from row.kinds.to ≡ a.kinds
  pub premises : map premise_read (slice_range PREMISES row.premises.from row.premises.to) ≡ map premise_written a.premises
  pub conclusion : slice_range STEPS row.conclusion.from row.conclusion.to ≡ postfix a.conclusion
