-- Specifications that differ in their stores alone.
use Rattle.std.specs.Prelude.{◌≡◌, ℕ, Bool, List, Option, map, option_map}
use Rattle.gv_terms.specs.declared.sort.Sort.{Sort}
use Rattle.gv_terms.specs.declared.tree.TermTree.{TermTree}
use Rattle.gv_terms.specs.declared.var.Var.{Var}
use Rattle.gv_terms.specs.Store.{tree_at}
use Rattle.gv_atomic.specs.declared.spec.Field.{Field}
use Rattle.gv_atomic.specs.declared.spec.Pick.{Pick}
use Rattle.gv_atomic.specs.declared.spec.Assign.{Assign}
use Rattle.gv_atomic.specs.declared.spec.Op.{Op}
use Rattle.gv_atomic.specs.declared.spec.Spec.{Spec}
use Rattle.gv_specs.specs.Reading.{Spells}

-- ---- parts with trees in the place of terms

pub record ShownField : Type 0 where
  pub name : List ℕ
  pub its_sort : Sort
  pub leased : Bool
  pub first : TermTree

pub record ShownPick : Type 0 where
  pub name : List ℕ
  pub bound : TermTree

pub record ShownAssign : Type 0 where
  pub field : ℕ
  pub term : TermTree

pub record ShownOp : Type 0 where
  pub name : List ℕ
  pub params : List Var
  pub allowed : TermTree
  pub picks : List ShownPick
  pub body : List ShownAssign
  pub reply : Option TermTree

abbrev pub shown_field : List TermTree → Field → ShownField
shown_field ts f = record { name = f.name; its_sort = f.sort; leased = f.leased; first = tree_at ts f.first.id }

abbrev pub shown_pick : List TermTree → Pick → ShownPick
shown_pick ts p = record { name = p.name; bound = tree_at ts p.bound.id }

abbrev pub shown_assign : List TermTree → Assign → ShownAssign
shown_assign ts a = record { field = a.field; term = tree_at ts a.term.id }

abbrev pub shown_op : List TermTree → Op → ShownOp
shown_op ts o = record {
  name = o.name;
  params = o.params;
  allowed = tree_at ts o.allowed.id;
  picks = map (shown_pick ts) o.picks;
  body = map (shown_assign ts) o.body;
  reply = option_map (λ t. tree_at ts t.id) o.reply;
}

-- ---- the whole

pub record AreAlike (s t : Spec) : Type 0 where
  pub count : s.disks ≡ t.disks
  pub blocks : s.blocks ≡ t.blocks
  pub fields : map (shown_field s.store) s.fields ≡ map (shown_field t.store) t.fields
  pub ops : map (shown_op s.store) s.ops ≡ map (shown_op t.store) t.ops
  pub crash_picks : map (shown_pick s.store) s.crash_picks ≡ map (shown_pick t.store) t.crash_picks
  pub crash : map (shown_assign s.store) s.crash ≡ map (shown_assign t.store) t.crash

-- a text spells one specification at most, stores aside
abbrev pub SpellsOne : Type 0
SpellsOne = (text : List ℕ) (s t : Spec) → Spells text s → Spells text t → AreAlike s t
