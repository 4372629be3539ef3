-- When a specification is typed.
use Rattle.std.specs.Prelude.{ℕ, List, [], ◌∷◌, ◌++◌, Bool, true, false, not, ◌&&◌, ◌||◌, Option, Some, None, nat_eq, nat_lt, nat_le, length, map, slice_get, is_some, codes}
use Rattle.std.specs.List.{list_all, find}
use Rattle.std.specs.Str.{bytes_eq}
use Rattle.gv_terms.specs.declared.sort.Sort.{Sort}
use Rattle.gv_terms.specs.declared.sort.Sort.TheVariants as sort
use Rattle.gv_terms.specs.declared.tree.TermTree.{TermTree}
use Rattle.gv_terms.specs.declared.term.Term.{Term}
use Rattle.gv_terms.specs.declared.var.Var.{Var}
use Rattle.gv_atomic.specs.declared.spec.Field.{Field}
use Rattle.gv_atomic.specs.declared.spec.Pick.{Pick}
use Rattle.gv_atomic.specs.declared.spec.Assign.{Assign}
use Rattle.gv_atomic.specs.declared.spec.Op.{Op}
use Rattle.gv_terms.specs.Values.{is_sort}
use Rattle.gv_terms.specs.Trees.{sort_of}
use Rattle.gv_terms.specs.Store.{tree_at}
use Rattle.gv_terms.specs.Scopes.{is_closed}

-- the sorts of parameters and replies
abbrev pub is_plain : Sort → Bool
is_plain sort.Word = true
is_plain sort.Bool = true
is_plain sort.Bytes = true
is_plain _ = false

-- the sorts of fields
abbrev pub is_field_sort : Sort → Bool
is_field_sort sort.Refs = false
is_field_sort sort.Ref = false
is_field_sort sort.SliceS = false
is_field_sort sort.Call = false
is_field_sort sort.Name = false
is_field_sort _ = true

-- a term of the store, of this sort, over these variables
abbrev pub is_term : List TermTree → List Var → Sort → Term → Bool
is_term ts vars s t = nat_lt t.id (length ts) && (is_sort s (sort_of (tree_at ts t.id)) && is_closed vars (tree_at ts t.id))

abbrev pub var_of : Field → Var
var_of f = record { name = f.name; sort = f.sort }

-- a picked number is a word
abbrev pub pick_var : Pick → Var
pick_var p = record { name = p.name; sort = sort.Word }

-- variables, and then those of picks
abbrev pub with_picks : List Var → List Pick → List Var
with_picks vars picks = vars ++ map pick_var picks

abbrev pub names_of : List Var → List (List ℕ)
names_of vars = map (λ v. v.name) vars

-- an initial term has no variable
abbrev pub is_field : List TermTree → Field → Bool
is_field ts f = is_field_sort f.sort && is_term ts [] f.sort f.first

-- the bound of a pick is a word over the variables and the earlier picks
abbrev pub are_picks : List TermTree → List Var → List Pick → Bool
are_picks ts vars [] = true
are_picks ts vars (p ∷ picks) = is_term ts vars sort.Word p.bound && are_picks ts (vars ++ pick_var p ∷ []) picks

-- the term has the field's sort
abbrev pub is_assigned : List TermTree → List Var → Option Var → Term → Bool
is_assigned ts vars None t = false
is_assigned ts vars (Some f) t = is_term ts vars f.sort t

abbrev pub is_assign : List TermTree → List Var → List Var → Assign → Bool
is_assign ts fields vars a = is_assigned ts vars (slice_get fields a.field) a.term

-- no two are equal
abbrev pub are_distinct : {A : Type 0} → (A → A → Bool) → List A → Bool
are_distinct eq [] = true
are_distinct eq (x ∷ xs) = not (is_some (find (eq x) xs)) && are_distinct eq xs

-- each field is assigned at most once
abbrev pub is_body : List TermTree → List Var → List Var → List Assign → Bool
is_body ts fields vars body = list_all (is_assign ts fields vars) body && are_distinct (λ a b. nat_eq a.field b.field) body

abbrev pub is_some_plain : Option Sort → Bool
is_some_plain None = false
is_some_plain (Some s) = is_plain s

abbrev pub is_reply : List TermTree → List Var → Option Term → Bool
is_reply ts vars None = true
is_reply ts vars (Some t) = nat_lt t.id (length ts) && (is_some_plain (sort_of (tree_at ts t.id)) && is_closed vars (tree_at ts t.id))

abbrev pub differs : List ℕ → List ℕ → Bool
differs n word = not (bytes_eq n word)

-- the name is none of the words that are constants in every term
abbrev pub is_free : List ℕ → Bool
is_free n =
    differs n (codes "true") && (differs n (codes "false") && (differs n (codes "nil") && (differs n (codes "nilslice")
    && (differs n (codes "nocall") && (differs n (codes "mapww") && differs n (codes "mapwb"))))))

-- distinct names, none of them a constant
abbrev pub are_names : List (List ℕ) → Bool
are_names ns = list_all is_free ns && are_distinct bytes_eq ns

-- picks over some variables, which bear other names than these, and assignments over all of them
abbrev pub is_chosen_body : List TermTree → List Var → List Var → List Pick → List Assign → Bool
is_chosen_body ts fields vars picks body =
    are_names (names_of (with_picks vars picks)) && (are_picks ts vars picks && is_body ts fields (with_picks vars picks) body)

-- parameters of plain sorts, which bear other names than the fields, and a condition on them alone
abbrev pub is_head : List TermTree → List Var → Op → Bool
is_head ts fields o = list_all (λ v. is_plain v.sort) o.params && (are_names (names_of (fields ++ o.params)) && is_term ts o.params sort.Bool o.allowed)

-- a bound speaks of the fields, the parameters and the earlier picks, the body and the reply of the fields,
-- the parameters and all picks
abbrev pub is_op : List TermTree → List Var → Op → Bool
is_op ts fields o =
    is_head ts fields o && (is_chosen_body ts fields (fields ++ o.params) o.picks o.body && is_reply ts (with_picks (fields ++ o.params) o.picks) o.reply)

-- at most two disks, of 1 to 65,536 blocks
abbrev pub are_disks : ℕ → ℕ → Bool
are_disks disks blocks = (nat_eq disks 0 && nat_eq blocks 0) || (nat_lt 0 disks && (nat_le disks 2 && (nat_lt 0 blocks && nat_le blocks 65536)))

-- the crash speaks of the fields and of its own picks alone
abbrev pub is_typed : ℕ → ℕ → List Field → List Op → List Pick → List Assign → List TermTree → Bool
is_typed disks blocks fields ops crash_picks crash ts =
    are_disks disks blocks && (list_all (is_field ts) fields && (are_names (names_of (map var_of fields)) && (are_names (map (λ o. o.name) ops)
    && (list_all (is_op ts (map var_of fields)) ops && is_chosen_body ts (map var_of fields) (map var_of fields) crash_picks crash))))
