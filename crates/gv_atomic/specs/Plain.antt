-- What a specification means that picks nothing.
use Rattle.std.specs.Prelude.{ℕ, List, [], ◌∷◌, ◌++◌, Option, Some, None}
use Rattle.gv_terms.specs.declared.value.Value.{Value}
use Rattle.gv_terms.specs.declared.value.Env.{Env}
use Rattle.gv_atomic.specs.declared.spec.Op.{Op}
use Rattle.gv_atomic.specs.declared.spec.Spec.{Spec}
use Rattle.gv_atomic.specs.Choices.{binds}
use Rattle.gv_atomic.specs.Specification.{fields_bound, args_bound, assigned, reply_value}

-- the valuation of an operation's terms: the fields and the arguments
abbrev pub plain_env : Spec → Op → List Value → List Value → Env
plain_env s o args fields = binds (fields_bound s.fields fields ++ args_bound o.params args)

-- the fields after an operation, and its reply
abbrev pub plain_fields : Spec → Op → List Value → List Value → List Value
plain_fields s o args fields = assigned s.store (plain_env s o args fields) o.body fields

abbrev pub plain_reply : Spec → Op → List Value → List Value → Value
plain_reply s o args fields = reply_value s.store (plain_env s o args fields) o.reply

-- the fields after a crash
abbrev pub plain_crashed : Spec → List Value → List Value
plain_crashed s fields = assigned s.store (binds (fields_bound s.fields fields)) s.crash fields

-- this where nothing is chosen
abbrev pub unless_chosen : {A : Type 0} → List ℕ → A → Option A
unless_chosen [] x = Some x
unless_chosen (c ∷ choices) x = None
