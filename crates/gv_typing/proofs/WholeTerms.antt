-- Whole terms that must have a sort that passes.
use Rattle.std.proofs.Common.{◌≡◌, ℕ, ◌<◌, Bool, true, false, ◌&&◌, List, [], length-append, Option, Some, None, Result, Ok, Err, IfErr, length, refl, sym, subst, ap, ◌∙◌, arith}
use Rattle.std.specs.Prelude.{nat_lt}
use Rattle.std.proofs.lemmas.Bool.{lt-ltb, ltb-true}
use Rattle.gv_base.specs.Codes.{code_number}
use Rattle.gv_base.specs.declared.answers.Code.{Code}
use Rattle.gv_base.specs.declared.answers.Code.TheVariants as code
use Rattle.gv_terms.specs.Resolving.{resolved}
use Rattle.gv_terms.proofs.RawFaults.{unresolved, faultless}
use Rattle.gv_text.specs.Answers.{IsNotAfter, IsFirst}
use Rattle.gv_termread.specs.declared.placed.PlacedTerm.{PlacedTerm}
use Rattle.gv_typing.specs.declared.term_fault.TermFault.{TermFault}
use Rattle.gv_typing.specs.declared.term_fault.TermFault.TheVariants as answer
use Rattle.gv_typing.specs.Placing.{HasPlacedFault, HasTermFault, inside, other_sort, IsCause}
use Rattle.gv_typing.proofs.PlacedFaults.{itself}
use Rattle.gv_terms.specs.declared.sort.Sort.{Sort}
use Rattle.gv_terms.specs.declared.var.Var.{Var}
use Rattle.gv_terms.specs.declared.tree.TermTree.{TermTree}
use Rattle.gv_terms.specs.declared.term.Term.{Term}
use Rattle.gv_terms.specs.Trees.{sort_of}
use Rattle.gv_terms.specs.Store.{tree_at, Grows}
use Rattle.gv_terms.specs.declared.operator.Operator.TheVariants as op
use Rattle.gv_terms.specs.declared.tree.TermTree.TheVariants as tree
use Rattle.gv_terms.proofs.ValueSorts.{left, right}
use Rattle.std.proofs.lemmas.List.{get_or_append_left}
use Rattle.gv_terms.specs.Scopes.{is_closed}
use Rattle.gv_terms.specs.Values.{is_sort}

-- a fault of a node is the first of the term
inside_first : (vars : List Var) (passes : Option Sort → Bool) (term : PlacedTerm) (m n : ℕ) (c d : Code) → IsFirst code_number (HasPlacedFault vars term.term term.places) m c → HasTermFault vars passes term n d
    → IsNotAfter code_number m c n d
inside_first vars passes term m n c d first (inside h) = first.others n d h
inside_first vars passes term m n c d first (other_sort t e q) = let none = unresolved vars first.there.there in absurd cc

inside_cause : (vars : List Var) (passes : Option Sort → Bool) (term : PlacedTerm) (e : TermFault) → IsCause (HasPlacedFault vars term.term term.places) e → IsCause (HasTermFault vars passes term) e
inside_cause vars passes term answer.NoMemory h = tt
inside_cause vars passes term (answer.At start c) h = record { there = inside h.there; others = λ n d k. inside_first vars passes term start n c d h k }

pub inside_err : (vars : List Var) (passes : Option Sort → Bool) (term : PlacedTerm) (r : Result Term TermFault) → IfErr r (IsCause (HasPlacedFault vars term.term term.places)) → IfErr r (IsCause (HasTermFault vars passes term))
inside_err vars passes term (Ok t) h = tt
inside_err vars passes term (Err e) h = inside_cause vars passes term e h

other_only : (vars : List Var) (passes : Option Sort → Bool) (term : PlacedTerm) (t : TermTree) (n : ℕ) (d : Code) → resolved vars term.term ≡ Some t → HasTermFault vars passes term n d → IsNotAfter code_number term.start code.WrongType n d
other_only vars passes term t n d e (inside h) = absurd (faultless vars term.term t e h.path d h.there)
other_only vars passes term t n d e (other_sort u f q) = itself term.start code.WrongType

-- another sort is the only fault
pub other_first : (vars : List Var) (passes : Option Sort → Bool) (term : PlacedTerm) (t : TermTree) → resolved vars term.term ≡ Some t → passes (sort_of t) ≡ false → IsFirst code_number (HasTermFault vars passes term) term.start code.WrongType
other_first vars passes term t e q = record { there = other_sort t e q; others = λ n d h. other_only vars passes term t n d e h }

-- a term that has its sort has no fault
pub no_fault : (vars : List Var) (passes : Option Sort → Bool) (term : PlacedTerm) (t : TermTree) → resolved vars term.term ≡ Some t → passes (sort_of t) ≡ true → (n : ℕ) (d : Code) → HasTermFault vars passes term n d → ⊥
no_fault vars passes term t e q n d (inside h) = faultless vars term.term t e h.path d h.there
no_fault vars passes term t e q n d (other_sort u f p) =
    let same : u ≡ t = cc in
    let r : passes (sort_of t) ≡ false = subst (λ (v : TermTree). passes (sort_of v) ≡ false) same p in
    absurd cc
