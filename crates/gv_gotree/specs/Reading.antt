-- The small form of a package read from the front, step by step.
use Rattle.std.specs.Prelude.{◌≡◌, ℕ, Bool, true, false, if◌then◌else◌, List, [], ◌∷◌, ◌++◌, map, Option, Some, None, option_map, option_and_then, codes}
use Rattle.gv_base.specs.declared.small.Small.{Small}
use Rattle.gv_base.specs.declared.small.SmallOp.{SmallOp}
use Rattle.gv_base.specs.declared.small.Part.{Part}
use Rattle.gv_base.specs.declared.small.Turn.{Turn}
use Rattle.gv_small.specs.Tokens.{Token, named, plain}
use Rattle.gv_small.specs.Forms.{is_name, is_operation_name, is_distinct}
use Rattle.gv_small.specs.Reading.{Read, behind_all, word_at, parameters, sum_at, past_semicolon, distinct_names, all_of}

-- the receiver and the name of a method, up to its parameters
abbrev pub method_head : List ℕ → List Token → Read (List ℕ × List ℕ)
method_head type_name ts =
    option_and_then (λ a. option_and_then (λ b. option_and_then (λ c. option_and_then (λ d. option_and_then (λ e. option_and_then (λ f.
    option_map (λ after. ((b.0, f.0), after)) (behind_all (plain (codes "(")) f.1))
    (word_at is_operation_name e)) (behind_all (plain (codes ")")) d)) (behind_all (named type_name ∷ []) c))
    (behind_all (plain (codes "*")) b.1)) (word_at is_name a)) (behind_all (plain (codes "func (")) ts)

-- the body of a method, behind its parameters
abbrev pub method_body : List (List ℕ) → List Token → Read (Part × List Turn)
method_body params ts =
    option_and_then (λ a. option_and_then (λ s. option_map (λ after. (s.0, after)) (behind_all (plain (codes "} ;")) (past_semicolon s.1)))
    (sum_at params a)) (behind_all (plain (codes ") uint64 { return")) ts)

abbrev pub operation : List ℕ → List (List ℕ) → Part × List Turn → SmallOp
operation name params sum = record { name = name; params = params; first = sum.0; rest = sum.1 }

abbrev pub method : List ℕ → List Token → Read SmallOp
method type_name ts =
    option_and_then (λ h. option_and_then (λ p. option_and_then (λ _. option_map (λ s. (operation h.0.1 p.0 s.0, s.1)) (method_body p.0 p.1))
    (distinct_names (h.0.0 ∷ p.0))) (parameters (plain (codes "uint64")) h.1)) (method_head type_name ts)

abbrev pub is_nothing : List Token → Bool
is_nothing [] = true
is_nothing (t ∷ ts) = false

abbrev pub methods : List ℕ → List Token → Read (List SmallOp)
methods type_name ts = all_of is_nothing (method type_name) ts

-- behind the result type of Recover, up to the methods
abbrev pub package_end : List ℕ → List Token → Option (List Token)
package_end type_name ts =
    option_and_then (λ a. option_and_then (λ b. option_and_then (λ c. option_and_then (λ d. behind_all (plain (codes "} ;")) (past_semicolon d))
    (behind_all (plain (codes "{ }")) c)) (behind_all (named type_name ∷ []) b)) (behind_all (plain (codes "{ return &")) a))
    (behind_all (named type_name ∷ []) ts)

-- the struct's name, up to the methods
abbrev pub package_head : List Token → Read (List ℕ)
package_head ts =
    option_and_then (λ a. option_and_then (λ b. option_and_then (λ c. option_and_then (λ d. option_and_then (λ e.
    option_map (λ after. (d.0, after)) (package_end d.0 e))
    (behind_all (plain (codes "struct { } ; func Recover ( ) *")) d.1)) (word_at is_name c)) (behind_all (plain (codes "; type")) b.1))
    (word_at is_name a)) (behind_all (plain (codes "package")) ts)

abbrev pub package_ops : List Token → Option (List SmallOp)
package_ops ts =
    option_and_then (λ h. option_and_then (λ m. option_map (λ _. m.0) (distinct_names (map (λ op. op.name) m.0))) (methods h.0 h.1))
    (package_head ts)
