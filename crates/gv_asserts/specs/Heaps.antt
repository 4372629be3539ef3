-- Which path of the logic the state of a path stands for.
use Rattle.std.specs.Prelude.{◌≡◌, List, [], map, Option, Some, None, option_map}
use Rattle.gv_terms.specs.declared.term.Term.{Term}
use Rattle.gv_terms.specs.declared.tree.TermTree.{TermTree}
use Rattle.gv_terms.specs.Store.{tree_at, trees_at}
use Rattle.gv_resources.specs.Ghost as ghost
use Rattle.gv_assertions.specs.Atoms as logic
use Rattle.gv_assertions.specs.Atoms.{Instance}
use Rattle.gv_lang.specs.Tree.{Block}
use Rattle.gv_lockstep.specs.Sites.{Site, sites, nth, plain, to_do}
use Rattle.gv_seats.specs.Paths as path
use Rattle.gv_seats.specs.Paths.{Path}
use Rattle.gv_commands.specs.declared.atom.Inst.{Inst}
use Rattle.gv_asserts.specs.declared.heap.Mode.{Mode}
use Rattle.gv_asserts.specs.declared.heap.Mode.TheVariants as mode
use Rattle.gv_asserts.specs.declared.heap.Bracket.{Bracket}
use Rattle.gv_asserts.specs.declared.heap.Bracket.TheVariants as bracket
use Rattle.gv_asserts.specs.declared.heap.At.{At}
use Rattle.gv_asserts.specs.declared.heap.Heap.{Heap}
use Rattle.gv_asserts.specs.Atoms.{atom_at}

abbrev pub mode_of : Mode → ghost.Mode
mode_of mode.Own = ghost.Owned
mode_of mode.Sharing = ghost.Sharing
mode_of mode.Shared = ghost.Shared

abbrev pub bracket_of : Bracket → path.Bracket
bracket_of bracket.Closed = path.Closed
bracket_of bracket.Opened = path.Opened
bracket_of bracket.Used = path.Used

abbrev pub instance_at : List TermTree → Inst Term → logic.Atom
instance_at st i = Instance i.pred (trees_at st i.args)

abbrev pub local_at : List TermTree → Option Term → Option TermTree
local_at st t = option_map (λ x. tree_at st x.id) t

abbrev pub atoms_at : List TermTree → Heap → List logic.Atom
atoms_at st h = map (λ s. atom_at st s.atom) h.atoms.items

-- The state stands for the path, over the trees of a store. What the path has still to do is told by the point, and what its procedure
-- asks and promises by the script, but for the crash condition.
pub record IsHeapOf (st : List TermTree) (h : Heap) (p : Path) : Type 0 where
  pub locals : p.locals ≡ map (local_at st) h.locals
  pub vars : p.vars ≡ h.vars
  pub facts : p.facts ≡ trees_at st h.facts
  pub atoms : p.atoms ≡ atoms_at st h
  pub mode : p.mode ≡ mode_of h.mode
  pub bracket : p.bracket ≡ bracket_of h.bracket
  pub booted : p.booted ≡ h.booted
  pub stepped : p.stepped ≡ h.stepped
  pub standing : p.standing ≡ h.standing
  pub crash : p.procedure.crash ≡ option_map (instance_at st) h.crash

-- the path stands at the state's point of a procedure with this body: what is to do from there on is what the path has still to do
abbrev pub IsAtPoint : Block → Option At → Path → Type 0
IsAtPoint body None p = p.todo ≡ []
IsAtPoint body (Some at) p = (s : Site) × (nth (sites body) at.point ≡ Some s) × (p.todo ≡ plain (to_do s))
