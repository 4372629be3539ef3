-- The operations of a package and of a specification by their names, and where they differ.
use Rattle.std.specs.Prelude.{◌≡◌, ℕ, List, [], ◌∷◌, Option, Some, None, option_map, map, if◌then◌else◌}
use Rattle.std.specs.Cmp.Lexicographic.{slice_cmp}
use Rattle.std.specs.Ordering.{nat_cmp}
use Rattle.std.specs.declared.cmp.Ordering.TheVariants.{Less}
use Rattle.std.specs.Str.{bytes_eq}
use Rattle.gv_base.specs.declared.small.Small.{Small}
use Rattle.gv_base.specs.declared.small.SmallOp.{SmallOp}
use Rattle.gv_terms.specs.declared.sort.Sort.{Sort}
use Rattle.gv_terms.specs.declared.sort.Sort.TheVariants as sort
use Rattle.gv_terms.specs.declared.tree.TermTree.{TermTree}
use Rattle.gv_atomic.specs.declared.spec.Op.{Op}
use Rattle.gv_atomic.specs.declared.spec.Spec.{Spec}
use Rattle.gv_spec.specs.Atomic.{term_sort}

-- the first of some with a name
abbrev pub named : {A : Type 0} → (A → List ℕ) → List ℕ → List A → Option A
named name_of name [] = None
named name_of name (x ∷ xs) = if bytes_eq (name_of x) name then Some x else named name_of name xs

-- the sorts of what an operation takes, in order, and of what it replies, where it replies something
pub record Signature : Type 0 where
  pub params : List Sort
  pub reply : Option Sort

-- in a package of the small form all are numbers of 64 bits
abbrev pub small_signature : SmallOp → Signature
small_signature op = record { params = map (λ name. sort.Word) op.params; reply = Some sort.Word }

abbrev pub spec_signature : List TermTree → Op → Signature
spec_signature ts op = record { params = map (λ v. v.sort) op.params; reply = term_sort ts op.reply }

abbrev pub in_package : Small → List ℕ → Option Signature
in_package p name = option_map small_signature (named (λ op. op.name) name p.ops)

abbrev pub in_spec : Spec → List ℕ → Option Signature
in_spec s name = option_map (spec_signature s.store) (named (λ op. op.name) name s.ops)

-- both have the same operations: the same names, and under each name the same sorts
abbrev pub SameOperations : Small → Spec → Type 0
SameOperations p s = (name : List ℕ) → in_package p name ≡ in_spec s name

-- one of them has no operation with the name, or they take or reply other sorts
abbrev pub IsDiffering : Small → Spec → List ℕ → Type 0
IsDiffering p s name = in_package p name ≡ in_spec s name → ⊥

-- no other name under which they differ comes before this one, in the order of bytes
pub record IsFirstDiffering (p : Small) (s : Spec) (name : List ℕ) : Type 0 where
  pub differs : IsDiffering p s name
  pub first : (other : List ℕ) → IsDiffering p s other → slice_cmp nat_cmp other name ≡ Less → ⊥
