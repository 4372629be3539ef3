-- The lists of choices that a written specification allows, in ascending order.
use Rattle.std.specs.Prelude.{ℕ, ◌^◌, List, [], ◌∷◌, ◌++◌, map, Option, Some, None, slice_get, nat_lt, nat_eq, if◌then◌else◌}
use Rattle.std.specs.List.{flat_map}
use Rattle.gv_terms.specs.declared.tree.TermTree.{TermTree}
use Rattle.gv_terms.specs.declared.value.Value.{Value}
use Rattle.gv_terms.specs.declared.value.Binding.{Binding}
use Rattle.gv_atomic.specs.declared.spec.Pick.{Pick}
use Rattle.gv_atomic.specs.declared.spec.Op.{Op}
use Rattle.gv_atomic.specs.declared.spec.Spec.{Spec}
use Rattle.gv_atomic.specs.Choices.{picked, limit_of}
use Rattle.gv_atomic.specs.Specification.{fields_bound, op_before}
use Rattle.gv_judge.specs.Search.{Choosing, count_up}

-- how many words fit a bound: as many as it says, or 0 alone where it is 0
abbrev pub how_many : ℕ → ℕ
how_many limit = if nat_lt limit (2 ^ 64) then (if nat_eq limit 0 then 1 else limit) else 2 ^ 64

-- the words that fit a bound
abbrev pub words_within : ℕ → List ℕ
words_within limit = count_up (how_many limit) 0

-- the lists of words that picks allow; lists are ordered by their first different number
abbrev pub allowed_lists : List TermTree → List Binding → List Pick → List (List ℕ)
allowed_lists ts before [] = [] ∷ []
allowed_lists ts before (p ∷ picks) =
    flat_map (λ c. map (λ choices. c ∷ choices) (allowed_lists ts (before ++ picked p c ∷ []) picks)) (words_within (limit_of ts before p))

abbrev pub lists_of_op : Spec → Option Op → List Value → List Value → List (List ℕ)
lists_of_op s None args fields = []
lists_of_op s (Some o) args fields = allowed_lists s.store (op_before s o args fields) o.picks

abbrev pub choosing_of : Spec → Choosing (List Value) Value
choosing_of s = record {
  of_operation = λ op args fields. lists_of_op s (slice_get s.ops op) args fields;
  of_crash = λ fields. allowed_lists s.store (fields_bound s.fields fields) s.crash_picks;
}
