-- Bodies as they are read.
use Rattle.std.specs.Prelude.{◌≡◌, ℕ, List, Option, Some, None, is_some, map}
use Rattle.std.specs.List.{find}
use Rattle.std.specs.HashSet.{HashSet, contains}
use Rattle.std.specs.Str.{bytes_eq}
use Rattle.std.specs.declared.hash.FoldHasher.{FoldHasher}
use Rattle.std.specs.declared.hash.BuildHasherDefault.{BuildHasherDefault}
use Rattle.gv_base.specs.declared.answers.Code.{Code}
use Rattle.gv_base.specs.declared.answers.Code.TheVariants.{Undeclared}
use Rattle.gv_terms.specs.declared.tree.TermTree.{TermTree}
use Rattle.gv_terms.specs.declared.var.Var.{Var}
use Rattle.gv_terms.specs.Values.{is_sort}
use Rattle.gv_termread.specs.declared.placed.PlacedTerm.{PlacedTerm}
use Rattle.gv_typing.specs.Placing.{HasTermFault}
use Rattle.gv_specread.specs.declared.tree.AssignTree.{AssignTree}
use Rattle.gv_specread.specs.declared.tree.BodyTree.{BodyTree}
use Rattle.gv_specs.specs.declared.bodies.Body.{Body}
use Rattle.gv_specs.specs.declared.field_table.NumberedSort.{NumberedSort}
use Rattle.gv_specs.specs.Names.{name_in, Named, with_picks}
use Rattle.gv_specs.specs.Spelled.{IsBody, IsReply}

-- no field bears the name
pub data IsUndeclared (entry : Option NumberedSort) (start : ℕ) : ℕ → Code → Type 0 where
  undeclared : entry ≡ None → IsUndeclared entry start start Undeclared

-- the faults of a term that is assigned to a field
abbrev pub HasAssignedFault : List Var → Option NumberedSort → PlacedTerm → ℕ → Code → Type 0
HasAssignedFault vars None term at code = ⊥
HasAssignedFault vars (Some e) term at code = HasTermFault vars (is_sort e.sort) term at code

-- the names of these assignments
abbrev pub AreAssigned : List ℕ → List AssignTree → HashSet (List ℕ) (BuildHasherDefault FoldHasher) → Type 0
AreAssigned text before assigned = (n : List ℕ) → contains bytes_eq assigned n ≡ is_some (find (bytes_eq n) (map (λ b. name_in text b.name) before))

-- a body and its reply are those of a text, behind the variables before its picks
pub record IsMadeBody (text : List ℕ) (ts : List TermTree) (named : Named) (vars : List Var) (tree : BodyTree) (b : Body) : Type 0 where
  pub body : IsBody text ts named vars tree.picks tree.assigns b.picks b.assigns
  pub reply : IsReply ts (with_picks text vars tree.picks) tree.reply b.reply
