-- A specification as it was written, as an atomic specification, and what its assignments do.
use Rattle.std.specs.Prelude.{◌≡◌, ◌↔◌, ℕ, ◌<◌, Bool, true, false, ◌&&◌, List, [], ◌∷◌, Option, Some, None, IsTrue, Ok, map, length, nat_eq, slice_get}
use Rattle.std.specs.List.{find}
use Rattle.gv_terms.specs.declared.sort.Sort.{Sort}
use Rattle.gv_terms.specs.declared.tree.TermTree.{TermTree}
use Rattle.gv_terms.specs.declared.term.Term.{Term}
use Rattle.gv_terms.specs.declared.value.Value.{Value}
use Rattle.gv_terms.specs.declared.value.Env.{Env}
use Rattle.gv_terms.specs.declared.var.Var.{Var}
use Rattle.gv_atomic.specs.declared.spec.Assign.{Assign}
use Rattle.gv_atomic.specs.declared.spec.Op.{Op}
use Rattle.gv_atomic.specs.declared.spec.Spec.{Spec}
use Rattle.gv_terms.specs.Values.{has_sort, value_eq}
use Rattle.gv_terms.specs.Trees.{sort_of}
use Rattle.gv_terms.specs.Store.{tree_at}
use Rattle.gv_atomic.specs.Typed.{var_of}
use Rattle.gv_atomic.specs.Specification.{op_env, first_fields, crash_env, crashed}
use Rattle.gv_atomic.specs.Choices.{term_value}
use Rattle.gv_terms.proofs.Equality.{value_eq_decides}
use Rattle.gv_spec.specs.Meaning.{allows, applied}
use Rattle.gv_spec.specs.Specification.{Specification}
use Rattle.gv_spec.specs.Move.{Move}
use Rattle.gv_spec.specs.Walks.{WalkState, first_walk, walk_from}
use Rattle.gv_spec.specs.WalkLaws.{HasExplanation, CanReply, one_call}

-- as many values as variables, each of its variable's sort
abbrev pub are_of : List Var → List Value → Bool
are_of [] [] = true
are_of (x ∷ vars) (v ∷ values) = has_sort v x.sort && are_of vars values
are_of [] (v ∷ values) = false
are_of (x ∷ vars) [] = false

-- the fields as variables
abbrev pub field_vars : Spec → List Var
field_vars s = map var_of s.fields

-- whether there is such an operation and these are arguments of its parameters' sorts
abbrev pub are_args_of : Option Op → List Value → Bool
are_args_of None args = false
are_args_of (Some o) args = are_of o.params args

abbrev pub are_args : Spec → ℕ → List Value → Bool
are_args s op args = are_args_of (slice_get s.ops op) args

-- the atomic specification that a written one means: an operation may be called with arguments of its
-- parameters' sorts that meet its condition, and acts under choices that its picks allow
abbrev pub atomic_of : Spec → Specification (List Value) Value
atomic_of s = record {
  first_fields = first_fields s;
  allows = λ op args. are_args s op args && allows s op args;
  applied = applied s;
  crashed = crashed s;
  same = value_eq;
  decides = value_eq_decides;
}

-- the sort of the term that an operation replies; where it replies none there is no sort, and `Unit` alone
-- is a value without one
abbrev pub term_sort : List TermTree → Option Term → Option Sort
term_sort ts None = None
term_sort ts (Some t) = sort_of (tree_at ts t.id)

abbrev pub reply_sort_of : Spec → Option Op → Option Sort
reply_sort_of s None = None
reply_sort_of s (Some o) = term_sort s.store o.reply

abbrev pub reply_sort : Spec → ℕ → Option Sort
reply_sort s op = reply_sort_of s (slice_get s.ops op)

-- the value that an assignment gives, or the old one where there is none
abbrev pub own_value : List TermTree → Env → Option Assign → Option Value → Option Value
own_value ts env None old = old
own_value ts env (Some a) old = Some (term_value ts env a.term)

-- each field has the value of its own assignment under the one valuation, and a field without an
-- assignment stays
pub record EachItsOwn (ts : List TermTree) (env : Env) (body : List Assign) (old new : List Value) : Type 0 where
  pub as_many : length new ≡ length old
  pub each : (n : ℕ) → n < length old → slice_get new n ≡ own_value ts env (find (λ a. nat_eq a.field n) body) (slice_get old n)

-- an operation's assignments all speak of the old fields, the arguments and the choices
abbrev pub EachOfOp : Spec → ℕ → List Value → List ℕ → List Value → List Value → Type 0
EachOfOp s op args choices old new = (o : Op) → slice_get s.ops op ≡ Some o → EachItsOwn s.store (op_env s o args choices old) o.body old new

-- and those of a crash of the old fields and its choices
abbrev pub EachOfCrash : Spec → List ℕ → List Value → List Value → Type 0
EachOfCrash s choices old new = EachItsOwn s.store (crash_env s choices old) s.crash old new

-- wherever a walk from the first fields ends, its fields are of their sorts
abbrev pub WalksKeepSorts : Spec → Type 0
WalksKeepSorts s = (moves : List (Move Value)) (end : WalkState (List Value) Value)
    → walk_from (atomic_of s) (first_walk (atomic_of s)) moves ≡ Ok end → IsTrue (are_of (field_vars s) end.fields)

-- one call after a boot has an explanation exactly where the crash and the operation may choose so that it
-- answers with the operation's reply on the first fields after a crash
abbrev pub FirstCallReplies : Spec → Type 0
FirstCallReplies s = (op : ℕ) (args : List Value) (reply : Value) → HasExplanation (atomic_of s) (one_call op args reply) ↔ CanReply (atomic_of s) op args reply
