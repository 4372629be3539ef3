-- Which specification a tree spells: its names, sorts and numbers, and for each of its terms a term of the store with the tree that the
-- text's term stands for.
use Rattle.std.specs.Prelude.{◌≡◌, ℕ, ◌<◌, List, [], length, map, option_map, Option, Some, None, take}
use Rattle.gv_terms.specs.declared.operator.Operator.TheVariants as op
use Rattle.gv_terms.specs.declared.tree.TermTree.{TermTree}
use Rattle.gv_terms.specs.declared.tree.TermTree.TheVariants as tree
use Rattle.gv_terms.specs.declared.term.Term.{Term}
use Rattle.gv_terms.specs.declared.var.Var.{Var}
use Rattle.gv_terms.specs.Resolving.{resolved}
use Rattle.gv_terms.specs.Store.{tree_at}
use Rattle.gv_atomic.specs.declared.spec.Field.{Field}
use Rattle.gv_atomic.specs.declared.spec.Pick.{Pick}
use Rattle.gv_atomic.specs.declared.spec.Assign.{Assign}
use Rattle.gv_atomic.specs.declared.spec.Op.{Op}
use Rattle.gv_atomic.specs.declared.spec.Spec.{Spec}
use Rattle.gv_termread.specs.declared.placed.PlacedTerm.{PlacedTerm}
use Rattle.gv_specread.specs.declared.tree.PlacedNumber.{PlacedNumber}
use Rattle.gv_specread.specs.declared.tree.DisksTree.{DisksTree}
use Rattle.gv_specread.specs.declared.tree.DisksTree.TheVariants as disks
use Rattle.gv_specread.specs.declared.tree.FieldTree.{FieldTree}
use Rattle.gv_specread.specs.declared.tree.PickTree.{PickTree}
use Rattle.gv_specread.specs.declared.tree.AssignTree.{AssignTree}
use Rattle.gv_specread.specs.declared.tree.ReplyTree.{ReplyTree}
use Rattle.gv_specread.specs.declared.tree.OpTree.{OpTree}
use Rattle.gv_specread.specs.declared.tree.SpecTree.{SpecTree}
use Rattle.gv_specs.specs.Names.{name_in, Named, field_named, param_var, with_fields, with_params, with_picks}
use Rattle.gv_specs.specs.Told.{AreEach}

-- ---- terms

-- a term of a store is what a text's term stands for among variables
pub record IsTermOf (ts : List TermTree) (vars : List Var) (t : PlacedTerm) (term : Term) : Type 0 where
  pub within : term.id < length ts
  pub same : resolved vars t.term ≡ Some (tree_at ts term.id)

-- where no condition stands, all arguments are allowed
pub data IsAllowed (ts : List TermTree) (vars : List Var) : Option PlacedTerm → Term → Type 0 where
  written : (t : PlacedTerm) (term : Term) → IsTermOf ts vars t term → IsAllowed ts vars (Some t) term
  always : (term : Term) → term.id < length ts → tree_at ts term.id ≡ tree.Apply (op.True) [] → IsAllowed ts vars None term

pub data IsReply (ts : List TermTree) (vars : List Var) : Option ReplyTree → Option Term → Type 0 where
  written_reply : (r : ReplyTree) (term : Term) → IsTermOf ts vars r.term term → IsReply ts vars (Some r) (Some term)
  no_reply : IsReply ts vars None None

-- ---- fields and bodies

pub record IsField (text : List ℕ) (ts : List TermTree) (t : FieldTree) (f : Field) : Type 0 where
  pub name : f.name ≡ name_in text t.name
  pub its_sort : f.sort ≡ t.sort.sort
  pub leased : f.leased ≡ t.leased
  pub first : IsTermOf ts [] t.first f.first

pub record IsPick (text : List ℕ) (ts : List TermTree) (vars : List Var) (t : PickTree) (p : Pick) : Type 0 where
  pub name : p.name ≡ name_in text t.name
  pub bound : IsTermOf ts vars t.bound p.bound

-- the field is the first one that bears the name, by its number
pub record IsAssign (text : List ℕ) (ts : List TermTree) (named : Named) (vars : List Var) (t : AssignTree) (a : Assign) : Type 0 where
  pub name : option_map (λ e. e.number) (named (name_in text t.name)) ≡ Some a.field
  pub term : IsTermOf ts vars t.term a.term

-- over fields, by their names, and the variables before the picks
pub record IsBody (text : List ℕ) (ts : List TermTree) (named : Named) (vars : List Var)
    (trees : List PickTree) (assigns : List AssignTree) (picks : List Pick) (body : List Assign) : Type 0 where
  pub chosen : AreEach (λ i t p. IsPick text ts (with_picks text vars (take i trees)) t p) trees picks
  pub assigned : AreEach (λ i t a. IsAssign text ts named (with_picks text vars trees) t a) assigns body

-- ---- operations and the whole

pub record IsOp (text : List ℕ) (ts : List TermTree) (named : Named) (fields : List Var) (t : OpTree) (o : Op) : Type 0 where
  pub name : o.name ≡ name_in text t.name
  pub params : o.params ≡ map (param_var text) t.params
  pub allowed : IsAllowed ts (with_params text [] t.params) t.allowed o.allowed
  pub body : IsBody text ts named (with_params text fields t.params) t.body.picks t.body.assigns o.picks o.body
  pub reply : IsReply ts (with_picks text (with_params text fields t.params) t.body.picks) t.body.reply o.reply

-- how many disks there are, of how many blocks each
pub data AreDisks : DisksTree → ℕ → ℕ → Type 0 where
  no_disk : AreDisks disks.Zero 0 0
  one_disk : (n : PlacedNumber) → AreDisks (disks.One n) 1 n.value
  two_disks : (n : PlacedNumber) → AreDisks (disks.Two n) 2 n.value

pub record IsSpelled (text : List ℕ) (t : SpecTree) (s : Spec) : Type 0 where
  pub its_disks : AreDisks t.disks s.disks s.blocks
  pub fields : AreEach (λ i f g. IsField text s.store f g) t.fields s.fields
  pub ops : AreEach (λ i o p. IsOp text s.store (field_named text t.fields) (with_fields text [] t.fields) o p) t.ops s.ops
  pub crash : IsBody text s.store (field_named text t.fields) (with_fields text [] t.fields) t.crash.picks t.crash.assigns s.crash_picks s.crash
