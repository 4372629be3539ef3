-- Names that a specification's text declares, and the variables that its terms see.
use Rattle.std.specs.Prelude.{ℕ, ◌+◌, List, [], ◌∷◌, ◌++◌, Option, Some, None, option_map, map, if◌then◌else◌, slice_range}
use Rattle.std.specs.Str.{bytes_eq}
use Rattle.gv_terms.specs.declared.sort.Sort.TheVariants as sort
use Rattle.gv_terms.specs.declared.var.Var.{Var}
use Rattle.gv_atomic.specs.Typed.{names_of}
use Rattle.gv_atomic.specs.Marks.{is_new}
use Rattle.gv_specread.specs.declared.tree.Span.{Span}
use Rattle.gv_specread.specs.declared.tree.FieldTree.{FieldTree}
use Rattle.gv_specread.specs.declared.tree.ParamTree.{ParamTree}
use Rattle.gv_specread.specs.declared.tree.PickTree.{PickTree}
use Rattle.gv_specread.specs.declared.tree.OpTree.{OpTree}
use Rattle.gv_specs.specs.declared.field_table.NumberedSort.{NumberedSort}

-- the bytes of a name
abbrev pub name_in : List ℕ → Span → List ℕ
name_in text s = slice_range text s.start s.end

-- ---- what is declared

abbrev pub field_var : List ℕ → FieldTree → Var
field_var text f = record { name = name_in text f.name; sort = f.sort.sort }

abbrev pub param_var : List ℕ → ParamTree → Var
param_var text p = record { name = name_in text p.name; sort = p.sort.sort }

-- a picked number is a word
abbrev pub pick_var : List ℕ → PickTree → Var
pick_var text p = record { name = name_in text p.name; sort = sort.Word }

-- operations are declared apart from variables, and only their names count
abbrev pub op_var : List ℕ → OpTree → Var
op_var text o = record { name = name_in text o.name; sort = sort.Word }

-- ---- scopes

-- variables with one more; one whose name is a constant of terms, or is borne by one of these, doesn't count
abbrev pub with_var : List Var → Var → List Var
with_var vars v = if is_new (names_of vars) v.name then vars ++ v ∷ [] else vars

-- and with several more
abbrev pub with_vars : List Var → List Var → List Var
with_vars vars [] = vars
with_vars vars (v ∷ vs) = with_vars (with_var vars v) vs

-- the variables that fields, parameters and picks make
abbrev pub with_fields : List ℕ → List Var → List FieldTree → List Var
with_fields text vars fields = with_vars vars (map (field_var text) fields)

abbrev pub with_params : List ℕ → List Var → List ParamTree → List Var
with_params text vars params = with_vars vars (map (param_var text) params)

abbrev pub with_picks : List ℕ → List Var → List PickTree → List Var
with_picks text vars picks = with_vars vars (map (pick_var text) picks)

abbrev pub with_ops : List ℕ → List Var → List OpTree → List Var
with_ops text vars ops = with_vars vars (map (op_var text) ops)

-- ---- fields

-- what a name is among fields: the number and the sort of one of them, or none
abbrev pub Named : Type 0
Named = List ℕ → Option NumberedSort

-- the first field that bears a name
abbrev pub field_named : List ℕ → List FieldTree → Named
field_named text [] n = None
field_named text (f ∷ fields) n = if bytes_eq (name_in text f.name) n
    then Some (record { number = 0; sort = f.sort.sort })
    else option_map (λ e. record { number = e.number + 1; sort = e.sort }) (field_named text fields n)
