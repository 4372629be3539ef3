-- A specification of the small form: its setting, and what it means for values of calls.
use Rattle.std.specs.Prelude.{ℕ, ◌^◌, ◌==◌, nat_lt, List, [], ◌∷◌, map, length, slice_get, Option, Some, None, is_some, if◌then◌else◌, option_map, option_and_then}
use Rattle.std.specs.Option.{option_map_or}
use Rattle.gv_base.specs.declared.small.Small.{Small}
use Rattle.gv_base.specs.declared.small.SmallOp.{SmallOp}
use Rattle.gv_terms.specs.declared.value.Value.{Value}
use Rattle.gv_terms.specs.declared.value.Value.TheVariants as value
use Rattle.gv_terms.specs.Values.{value_eq}
use Rattle.gv_terms.proofs.Equality.{value_eq_decides}
use Rattle.gv_spec.specs.Specification.{Specification}
use Rattle.gv_spec.specs.Plain.{unless_chosen}
use Rattle.gv_smallprogram.specs.Sums.{sum_value}
use Rattle.gv_runs.specs.Machine.{Setting}

-- no disk, and the operations in their order
abbrev pub setting_of : Small → Setting
setting_of small = record { disks = 0; blocks = 0; names = map (λ op. op.name) small.ops }

-- ---- arguments

-- a number below 2 ^ 64
abbrev pub word_in : Value → Option ℕ
word_in (value.Word n) = if nat_lt n (2 ^ 64) then Some n else None
word_in _ = None

abbrev pub words_in : List Value → Option (List ℕ)
words_in [] = Some []
words_in (v ∷ vs) = option_and_then (λ n. option_map (λ ns. n ∷ ns) (words_in vs)) (word_in v)

-- the Sum of as many numbers as the operation has parameters
abbrev pub sum_of : List ℕ → SmallOp → Option ℕ
sum_of ns op = if length ns == length op.params then Some (sum_value op ns) else None

-- what the operation under a number replies to these arguments, where it takes them
abbrev pub reply_to : Small → ℕ → List Value → Option ℕ
reply_to small number args = option_and_then (λ op. option_and_then (λ ns. sum_of ns op) (words_in args)) (slice_get small.ops number)

-- ---- the specification

abbrev pub word_or_zero : Option ℕ → Value
word_or_zero o = value.Word (option_map_or (λ n. n) o 0)

-- it has no fields, an operation replies its Sum, and nothing is chosen
abbrev pub specification_of : Small → Specification (Unit {0}) Value
specification_of small = record {
  first_fields = tt;
  allows = λ number args. is_some (reply_to small number args);
  applied = λ number args choices fields. unless_chosen choices (fields, word_or_zero (reply_to small number args));
  crashed = λ choices fields. unless_chosen choices fields;
  same = value_eq;
  decides = value_eq_decides;
}
