-- What an atomic specification means: its first fields, what an operation replies and leaves under choices,
-- and what a crash leaves.
use Rattle.std.specs.Prelude.{ℕ, ◌<◌, List, [], ◌∷◌, ◌++◌, Bool, if◌then◌else◌, Option, Some, None, map, slice_set, length, IfSome}
use Rattle.std.specs.List.{All}
use Rattle.gv_terms.specs.declared.tree.TermTree.{TermTree}
use Rattle.gv_terms.specs.declared.term.Term.{Term}
use Rattle.gv_terms.specs.declared.value.Value.{Value}
use Rattle.gv_terms.specs.declared.value.Value.TheVariants as val
use Rattle.gv_terms.specs.declared.value.Binding.{Binding}
use Rattle.gv_terms.specs.declared.value.Env.{Env}
use Rattle.gv_terms.specs.declared.var.Var.{Var}
use Rattle.gv_terms.specs.Values.{truth_of}
use Rattle.gv_atomic.specs.declared.spec.Field.{Field}
use Rattle.gv_atomic.specs.declared.spec.Pick.{Pick}
use Rattle.gv_atomic.specs.declared.spec.Assign.{Assign}
use Rattle.gv_atomic.specs.declared.spec.Op.{Op}
use Rattle.gv_atomic.specs.declared.spec.Spec.{Spec}
use Rattle.gv_atomic.specs.Choices.{bound, binds, term_value, picks_bound, are_allowed}

abbrev pub names_of_fields : List Field → List (List ℕ)
names_of_fields fields = map (λ f. f.name) fields

abbrev pub names_of_params : List Var → List (List ℕ)
names_of_params params = map (λ v. v.name) params

-- the fields under their names, and an operation's arguments under its parameters'
abbrev pub fields_bound : List Field → List Value → List Binding
fields_bound fields values = bound (names_of_fields fields) values

abbrev pub args_bound : List Var → List Value → List Binding
args_bound params args = bound (names_of_params params) args

-- the fields after assignments whose terms all speak of one valuation
abbrev pub assigned : List TermTree → Env → List Assign → List Value → List Value
assigned ts env [] fields = fields
assigned ts env (a ∷ body) fields = assigned ts env body (slice_set fields a.field (term_value ts env a.term))

abbrev pub reply_value : List TermTree → Env → Option Term → Value
reply_value ts env None = val.Unit
reply_value ts env (Some t) = term_value ts env t

-- the first fields
abbrev pub first_fields : Spec → List Value
first_fields s = map (λ f. term_value s.store (binds []) f.first) s.fields

-- whether an operation may be called with these arguments
abbrev pub op_allows : Spec → Op → List Value → Bool
op_allows s o args = truth_of (term_value s.store (binds (args_bound o.params args)) o.allowed)

-- what stands before an operation's picks: the fields and the arguments
abbrev pub op_before : Spec → Op → List Value → List Value → List Binding
op_before s o args fields = fields_bound s.fields fields ++ args_bound o.params args

-- whether an operation may choose these numbers
abbrev pub op_chooses : Spec → Op → List Value → List ℕ → List Value → Bool
op_chooses s o args choices fields = are_allowed s.store (op_before s o args fields) o.picks choices

-- the valuation of an operation's body: the fields, the arguments and the picks
abbrev pub op_env : Spec → Op → List Value → List ℕ → List Value → Env
op_env s o args choices fields = binds (op_before s o args fields ++ picks_bound o.picks choices)

-- the fields after an operation with these arguments and choices, and its reply
abbrev pub op_fields : Spec → Op → List Value → List ℕ → List Value → List Value
op_fields s o args choices fields = assigned s.store (op_env s o args choices fields) o.body fields

abbrev pub op_reply : Spec → Op → List Value → List ℕ → List Value → Value
op_reply s o args choices fields = reply_value s.store (op_env s o args choices fields) o.reply

-- both, where the choices are allowed
abbrev pub op_applied : Spec → Op → List Value → List ℕ → List Value → Option (List Value × Value)
op_applied s o args choices fields =
    if op_chooses s o args choices fields then Some (op_fields s o args choices fields, op_reply s o args choices fields) else None

-- whether a crash may choose these numbers
abbrev pub crash_chooses : Spec → List ℕ → List Value → Bool
crash_chooses s choices fields = are_allowed s.store (fields_bound s.fields fields) s.crash_picks choices

-- the valuation of a crash: the fields and its picks
abbrev pub crash_env : Spec → List ℕ → List Value → Env
crash_env s choices fields = binds (fields_bound s.fields fields ++ picks_bound s.crash_picks choices)

-- the fields after a crash with these choices and the recovery from it
abbrev pub crash_fields : Spec → List ℕ → List Value → List Value
crash_fields s choices fields = assigned s.store (crash_env s choices fields) s.crash fields

abbrev pub crashed : Spec → List ℕ → List Value → Option (List Value)
crashed s choices fields = if crash_chooses s choices fields then Some (crash_fields s choices fields) else None

-- the terms of picks are of the store
abbrev pub ArePicksWithin : List TermTree → List Pick → Type 0
ArePicksWithin ts picks = All (λ p. p.bound.id < length ts) picks

-- the terms of an operation are of the store
pub record IsOpWithin (ts : List TermTree) (o : Op) : Type 0 where
  pub allowed : o.allowed.id < length ts
  pub picks : ArePicksWithin ts o.picks
  pub body : All (λ a. a.term.id < length ts) o.body
  pub reply : IfSome o.reply (λ t. t.id < length ts)
