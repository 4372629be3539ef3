-- What tables and sets say of a specification, of a program and of the predicates, books and cuts that may be named.
use Rattle.std.specs.Prelude.{◌≡◌, ℕ, Bool, false, List, [], ◌∷◌, length, Option, Some, None, option_map, slice_get}
use Rattle.std.specs.Option.{option_and_then}
use Rattle.gv_terms.specs.declared.sort.Sort.{Sort}
use Rattle.gv_terms.specs.declared.sort.Sort.TheVariants.{Ref}
use Rattle.gv_terms.specs.Values.{is_sort}
use Rattle.gv_lang.specs.declared.program.Proc.{Proc}
use Rattle.gv_lang.specs.declared.program.Program.{Program}
use Rattle.gv_atomic.specs.declared.spec.Spec.{Spec}
use Rattle.gv_scriptnames.specs.Scopes.{Shape, named, Scope, is_cell, is_field, op_named, pred_named, proc_named, proc_of_op}
use Rattle.gv_scriptfaults.specs.declared.names.NameSet.{NameSet}
use Rattle.gv_scriptfaults.specs.declared.names.Table.{Table}
use Rattle.gv_scriptfaults.specs.declared.scoped.Params.{Params}
use Rattle.gv_scriptfaults.specs.declared.scoped.Known.{Known}
use Rattle.gv_scriptfaults.specs.declared.scoped.Outside.{Outside}
use Rattle.gv_scriptfaults.specs.Procs.{AreFacts}
use Rattle.gv_scriptfaults.specs.Tables.{has, Holds, entry}

-- one parameter, a reference
abbrev pub is_one_ref : List (Option Sort) → Bool
is_one_ref (of ∷ []) = is_sort Ref of
is_one_ref params = false

abbrev pub params_of : Shape → Params
params_of s = record { count = length s.params; is_one_ref = is_one_ref s.params }

-- the cells, fields and operations of a specification and a program
pub record IsKnown (spec : Spec) (program : Program) (k : Known) : Type 0 where
  pub cells : (n : List ℕ) → has k.cells n ≡ is_cell program n
  pub fields : (n : List ℕ) → has k.fields n ≡ is_field spec n
  pub ops : (n : List ℕ) → entry k.ops n ≡ option_map (λ o. length o.params) (op_named spec n)
  pub facts : (i : ℕ) → AreFacts (slice_get program.procs i) (slice_get k.facts i)
  pub procs : (n : List ℕ) → proc_named program n ≡ option_and_then (slice_get program.procs) (entry k.procs n)
  pub methods : (n : List ℕ) → proc_of_op program n ≡ option_and_then (slice_get program.procs) (entry k.methods n)

-- the predicates and the books of a scope
pub record IsOutside (sc : Scope) (o : Outside) : Type 0 where
  pub preds : (n : List ℕ) → entry o.preds n ≡ option_map params_of (pred_named sc n)
  pub books : Holds sc.books o.books

-- and its cuts
pub record Sees (spec : Spec) (program : Program) (sc : Scope) (k : Known) (o : Outside) (cuts : NameSet) : Type 0 where
  pub known : IsKnown spec program k
  pub outside : IsOutside sc o
  pub beside : Holds sc.cuts cuts

-- ---- places of procedures

-- the place is one of the procedure, or there is neither
abbrev pub IsPlace : List Proc → Option Proc → Option ℕ → Type 0
IsPlace procs None None = Unit {0}
IsPlace procs None (Some i) = ⊥
IsPlace procs (Some p) None = ⊥
IsPlace procs (Some p) (Some i) = slice_get procs i ≡ Some p

-- a table has the places of some of the procedures by their names
abbrev pub ArePlaces : List Proc → List Proc → Table ℕ → Type 0
ArePlaces procs some t = (n : List ℕ) → IsPlace procs (named (λ p. p.name) some n) (entry t n)
