-- Programs of a good shape.
use Rattle.std.specs.Prelude.{ℕ, ◌-◌, ◌^◌, Bool, true, false, not, ◌&&◌, List, [], ◌∷◌, Option, Some, None, map, length, sum, slice_get, option_map, nat_eq, nat_lt, nat_le, if◌then◌else◌}
use Rattle.std.specs.Option.{unwrap_or}
use Rattle.std.specs.List.{list_all, list_any}
use Rattle.std.specs.Str.{bytes_eq}
use Rattle.gv_lang.specs.declared.program.LocalKind.{LocalKind}
use Rattle.gv_lang.specs.declared.program.LocalKind.TheVariants as kind
use Rattle.gv_lang.specs.Tree.{Proc, Program}
use Rattle.gv_lang.specs.Graph.{size}
use Rattle.gv_lang.specs.Shape.{is_shaped}
use Rattle.gv_lang.specs.Kinds.{kind_eq, params_of, is_typed_block}

-- one more than the greatest number of structs, of procedures and of commands
abbrev pub too_many : ℕ
too_many = 2 ^ 32 - 1

abbrev pub is_fine_proc : Program → Proc → Bool
is_fine_proc g p = nat_le p.params (length p.locals) && is_typed_block g p.locals p.results p.body && is_shaped p.body

-- ---- recovery and operations

abbrev pub is_ref : List LocalKind → Bool
is_ref [] = false
is_ref (k ∷ ks) = kind_eq k kind.Ref

-- recovery has no parameter and one result, a reference
abbrev pub is_recovery : Option Proc → Bool
is_recovery None = false
is_recovery (Some p) = nat_eq p.params 0 && nat_eq (length p.results) 1 && is_ref p.results

-- an operation's first parameter is a reference, its receiver, and it has at most one result
abbrev pub is_operation : Option Proc → Bool
is_operation None = false
is_operation (Some p) = is_ref (params_of p) && nat_le (length p.results) 1

-- what follows the first dot, where there is one
abbrev pub after_dot : List ℕ → Option (List ℕ)
after_dot [] = None
after_dot (c ∷ cs) = if nat_eq c 46 then Some cs else after_dot cs

-- the name of a procedure's method
abbrev pub method_of : List ℕ → List ℕ
method_of name = unwrap_or (after_dot name) name

abbrev pub method_at : Program → ℕ → List ℕ
method_at g op = method_of (unwrap_or (option_map (λ p. p.name) (slice_get g.procs op)) [])

abbrev pub are_distinct : List (List ℕ) → Bool
are_distinct [] = true
are_distinct (name ∷ names) = not (list_any (bytes_eq name) names) && are_distinct names

abbrev pub commands : Program → ℕ
commands g = sum (map (λ p. size p.body) g.procs)

abbrev pub are_few : Program → Bool
are_few g = nat_lt (length g.structs) too_many && nat_lt (length g.procs) too_many && nat_lt (commands g) too_many

-- numbers in range; operands, arguments and results of the kinds that their places want; recovery and operations
-- of their shapes, no two operations with one method's name; each Break and Continue within a Loop, each Loop's
-- body ending in Continue, each procedure's body in a way out; not too many structs, procedures and commands
abbrev pub is_well_shaped : Program → Bool
is_well_shaped g =
    list_all (is_fine_proc g) g.procs
    && is_recovery (slice_get g.procs g.recover)
    && list_all (λ op. is_operation (slice_get g.procs op)) g.ops
    && are_distinct (map (method_at g) g.ops)
    && are_few g
