-- The code's table is that of the definitions.
use Rattle.std.proofs.Common.{◌≡◌, ℕ, zero, suc, List, [], ◌∷◌, Option, Some, None, length, get_or, map, option_map, refl, ap, sym, ◌∙◌, ◌-◌, ◌<◌, ◌≤◌, Bor, IfSome, IfNone, arith}
use Rattle.std.specs.Prelude.{slice_get, slice_range}
use Rattle.std.specs.Option.{option_copied}
use Rattle.std.specs.Slice.{IsItemAt}
use Rattle.gv_axioms.specs.declared.kind.Kind.{Kind}
use Rattle.gv_axioms.specs.declared.step.Step.{Step}
use Rattle.gv_axioms.specs.declared.row.Row.{Row}
use Rattle.gv_axioms.specs.declared.generated.table.TheConstants.{KINDS, STEPS, PREMISES, ROWS}
use Rattle.gv_axioms.specs.Schema.{Axiom}
use Rattle.gv_axioms.specs.Instances.{numbered}
use Rattle.gv_axioms.specs.Table.{table}
use Rattle.gv_axioms.specs.Steps.{postfix, premise_read, premise_written, IsWritten}

abbrev All3 : Type 0
All3 = List Kind × List (Option ℕ × List Step) × List Step

abbrev row_read : Row → All3
row_read r = (slice_range KINDS r.kinds.from r.kinds.to, map premise_read (slice_range PREMISES r.premises.from r.premises.to), slice_range STEPS r.conclusion.from r.conclusion.to)

abbrev axiom_written : Axiom → All3
axiom_written a = (a.kinds, map premise_written a.premises, postfix a.conclusion)

rows_are : map row_read ROWS ≡ map axiom_written table
rows_are = refl

get_map : {A B : Type 0} (f : A → B) (xs : List A) (i : ℕ) → slice_get (map f xs) i ≡ option_map f (slice_get xs i)
get_map f [] i = refl
get_map f (x ∷ xs) zero = refl
get_map f (x ∷ xs) (suc i) = get_map f xs i

same_place : (i : ℕ) → option_map row_read (slice_get ROWS i) ≡ option_map axiom_written (slice_get table i)
same_place i = sym (get_map row_read ROWS i) ∙ ap (λ rs. slice_get rs i) rows_are ∙ get_map axiom_written table i

pub no_row : (i : ℕ) → slice_get ROWS i ≡ None → slice_get table i ≡ None
no_row i e = pick (slice_get table i) (ap (option_map row_read) (sym e) ∙ same_place i)
  where
    pick : (o : Option Axiom) → None ≡ option_map axiom_written o → o ≡ None
    pick None f = refl
    pick (Some a) f = absurd cc

pub row_there : (i : ℕ) (r : Row) → slice_get ROWS i ≡ Some r → (a : Axiom) × (slice_get table i ≡ Some a) × IsWritten r a
row_there i r e = pick (slice_get table i) refl (ap (option_map row_read) (sym e) ∙ same_place i)
  where
    written : (a : Axiom) → row_read r ≡ axiom_written a → IsWritten r a
    written a f = record { kinds = ap (λ x. x.0) f; premises = ap (λ x. x.1) f; conclusion = ap (λ x. x.2) f }

    pick : (o : Option Axiom) → slice_get table i ≡ o → Some (row_read r) ≡ option_map axiom_written o → (a : Axiom) × (slice_get table i ≡ Some a) × IsWritten r a
    pick None g f = absurd cc
    pick (Some a) g f = let same : row_read r ≡ axiom_written a = cc in (a, g, written a same)

pub found : (n : ℕ) (o : Option Row) → (n ≡ 0 → ⊥) → o ≡ slice_get ROWS (n - 1) → IfSome o (λ r. (a : Axiom) × (numbered n ≡ Some a) × IsWritten r a)
found zero o ne e = absurd (ne refl)
found (suc n) None ne e = tt
found (suc n) (Some r) ne e = let same : suc n - 1 ≡ n = omega arith in row_there n r (sym (e ∙ ap (slice_get ROWS) same))

pub not_found : (n : ℕ) (o : Option Row) → (n ≡ 0 → ⊥) → o ≡ slice_get ROWS (n - 1) → IfNone o (numbered n ≡ None)
not_found zero o ne e = absurd (ne refl)
not_found (suc n) None ne e = let same : suc n - 1 ≡ n = omega arith in no_row n (sym (e ∙ ap (slice_get ROWS) same))
not_found (suc n) (Some r) ne e = tt

got : {X : Type 0} (xs : List X) (i : ℕ) (x : X) → i < length xs → x ≡ get_or xs i x → slice_get xs i ≡ Some x
got [] i x lt e = absurd (omega arith)
got (y ∷ xs) zero x lt e = ap Some (sym e)
got (y ∷ xs) (suc i) x lt e = got xs i x (omega arith) e

none_got : {X : Type 0} (xs : List X) (i : ℕ) → length xs ≤ i → slice_get xs i ≡ None
none_got [] i le = refl
none_got (y ∷ xs) zero le = absurd (omega arith)
none_got (y ∷ xs) (suc i) le = none_got xs i (omega arith)

-- what is lent of a list is what it has there
pub looked_up : {X : Type 0} (xs : List X) (i : ℕ) (r : Option (Bor X)) → IsItemAt xs i r → option_copied r ≡ slice_get xs i
looked_up xs i None h = sym (none_got xs i h.3)
looked_up xs i (Some x) h = sym (got xs i x.now h.3.0 h.1)
