-- An expression is nothing where a constant that it names is nothing.
use Rattle.std.proofs.Common.{◌≡◌, ℕ, ◌⊎◌, inl, inr, ⊎_elim, Bool, true, false, List, [], ◌∷◌, ◌++◌, Option, Some, None, refl, ap, ◌∙◌}
use Rattle.std.specs.Prelude.{if◌then◌else◌, option_map}
use Rattle.gv_cycles.specs.Leading.{IsIn}
use Rattle.gv_gosyntax.specs.declared.lexeme.Lexeme.{Lexeme}
use Rattle.gv_operands.specs.declared.types.Class.{Class}
use Rattle.gv_operands.specs.declared.part.Spot.{Spot}
use Rattle.gv_operands.specs.declared.part.Part.{Part}
use Rattle.gv_gotypes.specs.declared.names.Library.{Library}
use Rattle.gv_gotypes.specs.declared.names.Entity.{Entity}
use Rattle.gv_gotypes.specs.declared.names.Entity.TheVariants.{Imported, StructOf, ConstantOf, ProcedureOf, Variable}
use Rattle.gv_gotypes.specs.declared.names.Found.{Found}
use Rattle.gv_gotypes.specs.Types.{Finding}
use Rattle.gv_gotypes.specs.Trees.{Expr, Constant, Name, Paren, Convert, Select, Index, Slice, Unary, Binary, Bound, left_out, bound}
use Rattle.gv_gotypes.specs.Scopes.{Package, Env, found, name_in, constant_class}
use Rattle.gv_gotypes.specs.Places.{Outcome, spot_of, part_of, refusals, is_nothing, some_is_nothing, whole_form, form}
use Rattle.gv_gotypes.specs.Expressions.{operand, bound_parts, entity_outcome, found_outcome, select_outcome, select_from, library_in, library_of, convert_outcome, index_outcome, slice_outcome, sliced, binary_outcome, unary_outcome}
use Rattle.gv_gotypes.specs.Constants.{named_by, named_by_bound, constant_number}
use Rattle.gv_gonamed.specs.Laws.{NothingOfNothing}
use Rattle.gv_gonamed.proofs.Members.{in_one}

entity_nothing : (p : Package) (at : ℕ) (e : Entity) (n : ℕ) → IsIn n (constant_number (Some e)) → constant_class p n ≡ None → (entity_outcome p at e).class ≡ None
entity_nothing p at (ConstantOf m) n (inl q) none = ap (λ k. constant_class p k) q ∙ none
entity_nothing p at (ConstantOf m) n (inr h) none = absurd h
entity_nothing p at (Imported l) n h none = absurd h
entity_nothing p at (StructOf m) n h none = absurd h
entity_nothing p at (ProcedureOf m) n h none = absurd h
entity_nothing p at (Variable d k) n h none = absurd h

found_nothing : (env : Env) (t : Lexeme) (o : Option Found) (n : ℕ) → IsIn n (constant_number (option_map (λ f. f.entity) o)) → constant_class env.declared n ≡ None
    → (found_outcome env t o).class ≡ None
found_nothing env t None n h none = absurd h
found_nothing env t (Some f) n h none = entity_nothing env.declared t.start f.entity n h none

library_alone : (e : Option Entity) (l : Library) (n : ℕ) → library_in e ≡ Some l → IsIn n (constant_number e) → ⊥
library_alone None l n q h = absurd cc
library_alone (Some (Imported k)) l n q h = h
library_alone (Some (ConstantOf m)) l n q h = absurd cc
library_alone (Some (StructOf m)) l n q h = absurd cc
library_alone (Some (ProcedureOf m)) l n q h = absurd cc
library_alone (Some (Variable d k)) l n q h = absurd cc

-- what names a package names no constant
package_names_none : (env : Env) (e : Expr) (l : Library) (n : ℕ) → library_of env e ≡ Some l → IsIn n (named_by env e) → ⊥
package_names_none env (Name t) l n q h = library_alone (option_map (λ f. f.entity) (found env (name_in env.source t))) l n q h
package_names_none env (Constant t) l n q h = absurd cc
package_names_none env (Paren t e) l n q h = absurd cc
package_names_none env (Convert t e) l n q h = absurd cc
package_names_none env (Select e t) l n q h = absurd cc
package_names_none env (Index e i) l n q h = absurd cc
package_names_none env (Slice e a b) l n q h = absurd cc
package_names_none env (Unary t e) l n q h = absurd cc
package_names_none env (Binary a t b) l n q h = absurd cc

from_nothing : (env : Env) (e : Spot) (t : Lexeme) (l : Option Library) (o : Outcome) → ((k : Library) → l ≡ Some k → ⊥) → o.class ≡ None → (select_from env e t l o).class ≡ None
from_nothing env e t (Some l) o f none = absurd (f l refl)
from_nothing env e t None o f none = ap (λ (c : Option Class). (select_outcome env e t c).class) none

-- ---- forms of several parts

index_right : (e i : Spot) (c : Option Class) → (index_outcome e i c None).class ≡ None
index_right e i None = refl
index_right e i (Some c) = refl

binary_right : (t : Lexeme) (a b : Spot) (c : Option Class) → (binary_outcome t a b c None).class ≡ None
binary_right t a b None = refl
binary_right t a b (Some c) = refl

tested : (b : Bool) (fs : List Finding) (made : Option Class) (start : ℕ) → b ≡ true → (if b then record { class = None; findings = fs } else whole_form fs made start).class ≡ None
tested true fs made start e = refl
tested false fs made start e = absurd cc

nothing_form : (ps : List Part) (fs : List Finding) (made : Option Class) (start : ℕ) → some_is_nothing ps ≡ true → (form ps fs made start).class ≡ None
nothing_form ps fs made start e = tested (some_is_nothing ps) fs made start e

unary_nothing : (t : Lexeme) (e : Spot) (c : Option Class) → c ≡ None → (unary_outcome t e c).class ≡ None
unary_nothing t e None q = refl
unary_nothing t e (Some c) q = absurd cc

or_else : (b s : Bool) → s ≡ true → (if b then true else s) ≡ true
or_else true s e = refl
or_else false s e = e

both_ways : (b s r : Bool) → (s ≡ true → r ≡ true) → (if b then true else s) ≡ true → (if b then true else r) ≡ true
both_ways true s r f e = refl
both_ways false s r f e = f e

nothing_left : (ps qs : List Part) → some_is_nothing ps ≡ true → some_is_nothing (ps ++ qs) ≡ true
nothing_left [] qs e = absurd cc
nothing_left (p ∷ ps) qs e = both_ways (is_nothing p) (some_is_nothing ps) (some_is_nothing (ps ++ qs)) (nothing_left ps qs) e

nothing_right : (ps qs : List Part) → some_is_nothing qs ≡ true → some_is_nothing (ps ++ qs) ≡ true
nothing_right [] qs e = e
nothing_right (p ∷ ps) qs e = or_else (is_nothing p) (some_is_nothing (ps ++ qs)) (nothing_right ps qs e)

slice_nothing : (e : Spot) (c : Option Class) (ps : List Part) → (c ≡ None) ⊎ (some_is_nothing ps ≡ true) → (slice_outcome e c ps).class ≡ None
slice_nothing e c ps (inl q) = let all : List Part = record { spot = e; class = c } ∷ ps in
    nothing_form all (refusals all) (sliced c ps) e.start (ap (λ (d : Option Class). some_is_nothing (record { spot = e; class = d } ∷ ps)) q)
slice_nothing e c ps (inr q) = let all : List Part = record { spot = e; class = c } ∷ ps in
    nothing_form all (refusals all) (sliced c ps) e.start (or_else (is_nothing (record { spot = e; class = c })) (some_is_nothing ps) q)

-- ---- every form

mutual
  nothing_of : (env : Env) (e : Expr) (n : ℕ) → IsIn n (named_by env e) → constant_class env.declared n ≡ None → (operand env e).class ≡ None
  nothing_of env (Constant t) n h none = absurd h
  nothing_of env (Name t) n h none = found_nothing env t (found env (name_in env.source t)) n h none
  nothing_of env (Paren t e) n h none = nothing_of env e n h none
  nothing_of env (Convert w e) n h none = ap (λ (c : Option Class). (convert_outcome w (spot_of e) c).class) (nothing_of env e n h none)
  nothing_of env (Select e t) n h none = from_nothing env (spot_of e) t (library_of env e) (operand env e) (λ l q. package_names_none env e l n q h) (nothing_of env e n h none)
  nothing_of env (Index e i) n h none = ⊎_elim
      (λ k. ap (λ (c : Option Class). (index_outcome (spot_of e) (spot_of i) c (operand env i).class).class) (nothing_of env e n k none))
      (λ k. ap (λ (d : Option Class). (index_outcome (spot_of e) (spot_of i) (operand env e).class d).class) (nothing_of env i n k none) ∙ index_right (spot_of e) (spot_of i) (operand env e).class)
      (in_one n (named_by env e) (named_by env i) h)
  nothing_of env (Slice e a b) n h none =
      let ps = bound_parts env a in
      let qs = bound_parts env b in
      slice_nothing (spot_of e) (operand env e).class (ps ++ qs) (⊎_elim
      (λ k. inl (nothing_of env e n k none))
      (λ k. inr (⊎_elim
      (λ l. nothing_left ps qs (bound_nothing env a n l none))
      (λ l. nothing_right ps qs (bound_nothing env b n l none))
      (in_one n (named_by_bound env a) (named_by_bound env b) k)))
      (in_one n (named_by env e) (named_by_bound env a ++ named_by_bound env b) h))
  nothing_of env (Unary t e) n h none = unary_nothing t (spot_of e) (operand env e).class (nothing_of env e n h none)
  nothing_of env (Binary a t b) n h none = ⊎_elim
      (λ k. ap (λ (c : Option Class). (binary_outcome t (spot_of a) (spot_of b) c (operand env b).class).class) (nothing_of env a n k none))
      (λ k. ap (λ (d : Option Class). (binary_outcome t (spot_of a) (spot_of b) (operand env a).class d).class) (nothing_of env b n k none) ∙ binary_right t (spot_of a) (spot_of b) (operand env a).class)
      (in_one n (named_by env a) (named_by env b) h)

  bound_nothing : (env : Env) (b : Bound) (n : ℕ) → IsIn n (named_by_bound env b) → constant_class env.declared n ≡ None → some_is_nothing (bound_parts env b) ≡ true
  bound_nothing env left_out n h none = absurd h
  bound_nothing env (bound e) n h none = ap (λ (c : Option Class). some_is_nothing (part_of e c ∷ [])) (nothing_of env e n h none)

pub nothing_of_nothing : NothingOfNothing
nothing_of_nothing = nothing_of
