-- An expression is the same where the constants that it names are.
use Rattle.std.proofs.Common.{◌≡◌, ℕ, inl, List, [], ◌∷◌, ◌++◌, Option, Some, None, refl, ap, ◌∙◌}
use Rattle.std.specs.Prelude.{option_map}
use Rattle.gv_cycles.specs.Leading.{IsIn}
use Rattle.gv_gosyntax.specs.declared.lexeme.Lexeme.{Lexeme}
use Rattle.gv_operands.specs.declared.types.Base.{Base}
use Rattle.gv_operands.specs.declared.types.Base.TheVariants.{Struct, Mutex}
use Rattle.gv_operands.specs.declared.types.GoType.TheVariants.{Pointer}
use Rattle.gv_operands.specs.declared.types.Class.{Class}
use Rattle.gv_operands.specs.declared.types.Class.TheVariants.{Run}
use Rattle.gv_operands.specs.declared.part.Spot.{Spot}
use Rattle.gv_operands.specs.declared.part.Part.{Part}
use Rattle.gv_gotypes.specs.declared.names.Library.{Library}
use Rattle.gv_gotypes.specs.declared.names.Entity.{Entity}
use Rattle.gv_gotypes.specs.declared.names.Entity.TheVariants.{Imported, StructOf, ConstantOf, ProcedureOf, Variable}
use Rattle.gv_gotypes.specs.declared.names.Found.{Found}
use Rattle.gv_gotypes.specs.Types.{Finding}
use Rattle.gv_gotypes.specs.Trees.{Expr, Constant, Name, Paren, Convert, Select, Index, Slice, Unary, Binary, Bound, left_out, bound}
use Rattle.gv_gotypes.specs.Scopes.{Source, Package, found, name_in}
use Rattle.gv_gotypes.specs.Members.{base_member}
use Rattle.gv_gotypes.specs.Places.{Outcome, spot_of, part_of, refusals, behind}
use Rattle.gv_gotypes.specs.Expressions.{operand, bound_parts, bound_findings, entity_outcome, found_outcome, member_outcome, class_member, unless_refused, select_outcome, select_from, library_of, convert_outcome, index_outcome, slice_outcome, binary_outcome, unary_outcome}
use Rattle.gv_gotypes.specs.Constants.{with_constants, named_by, named_by_bound, constant_number}
use Rattle.gv_gonamed.specs.Laws.{with_these, class_in, NamesAlike, RestsOnNamed}
use Rattle.gv_gonamed.proofs.Members.{in_first, in_second}

-- ---- what is named

mutual
  names_alike : (s : Source) (p : Package) (ks js : List (Option Class)) (e : Expr) → named_by (with_these s p ks) e ≡ named_by (with_these s p js) e
  names_alike s p ks js (Constant t) = refl
  names_alike s p ks js (Name t) = refl
  names_alike s p ks js (Paren t e) = names_alike s p ks js e
  names_alike s p ks js (Convert t e) = names_alike s p ks js e
  names_alike s p ks js (Select e t) = names_alike s p ks js e
  names_alike s p ks js (Index e i) = let x = names_alike s p ks js e in let y = names_alike s p ks js i in cc
  names_alike s p ks js (Slice e a b) = let x = names_alike s p ks js e in let y = bounds_alike s p ks js a in let z = bounds_alike s p ks js b in cc
  names_alike s p ks js (Unary t e) = names_alike s p ks js e
  names_alike s p ks js (Binary a t b) = let x = names_alike s p ks js a in let y = names_alike s p ks js b in cc

  bounds_alike : (s : Source) (p : Package) (ks js : List (Option Class)) (b : Bound) → named_by_bound (with_these s p ks) b ≡ named_by_bound (with_these s p js) b
  bounds_alike s p ks js left_out = refl
  bounds_alike s p ks js (bound e) = names_alike s p ks js e

pub all_names_alike : NamesAlike
all_names_alike = names_alike

-- ---- names and members

abbrev AreAlike : Package → List (Option Class) → List (Option Class) → List ℕ → Type 0
AreAlike p ks js ns = (n : ℕ) → IsIn n ns → class_in p ks n ≡ class_in p js n

first_alike : (p : Package) (ks js : List (Option Class)) (ns ms : List ℕ) → AreAlike p ks js (ns ++ ms) → AreAlike p ks js ns
first_alike p ks js ns ms h = λ n k. h n (in_first n ns ms k)

second_alike : (p : Package) (ks js : List (Option Class)) (ns ms : List ℕ) → AreAlike p ks js (ns ++ ms) → AreAlike p ks js ms
second_alike p ks js ns ms h = λ n k. h n (in_second n ns ms k)

entity_alike : (p : Package) (ks js : List (Option Class)) (at : ℕ) (e : Entity) → AreAlike p ks js (constant_number (Some e))
    → entity_outcome (with_constants p ks) at e ≡ entity_outcome (with_constants p js) at e
entity_alike p ks js at (ConstantOf n) h = let q : class_in p ks n ≡ class_in p js n = h n (inl refl) in ap (λ (c : Option Class). record { class = c; findings = [] }) q
entity_alike p ks js at (Imported l) h = refl
entity_alike p ks js at (StructOf n) h = refl
entity_alike p ks js at (ProcedureOf n) h = refl
entity_alike p ks js at (Variable d k) h = refl

found_alike : (s : Source) (p : Package) (ks js : List (Option Class)) (t : Lexeme) (o : Option Found) → AreAlike p ks js (constant_number (option_map (λ f. f.entity) o))
    → found_outcome (with_these s p ks) t o ≡ found_outcome (with_these s p js) t o
found_alike s p ks js t None h = refl
found_alike s p ks js t (Some f) h = let q = entity_alike p ks js t.start f.entity h in cc

base_alike : (p : Package) (ks js : List (Option Class)) (b : Base) (name : List ℕ) → base_member (with_constants p ks) b name ≡ base_member (with_constants p js) b name
base_alike p ks js (Struct n) name = refl
base_alike p ks js Mutex name = refl

class_alike : (s : Source) (p : Package) (ks js : List (Option Class)) (c : Class) (t : Lexeme) (start : ℕ) → class_member (with_these s p ks) c t start ≡ class_member (with_these s p js) c t start
class_alike s p ks js (Run (Pointer b)) t start = let q = base_alike p ks js b (name_in s t) in ap (λ m. member_outcome m t.start start) q
class_alike s p ks js c t start = refl

select_alike : (s : Source) (p : Package) (ks js : List (Option Class)) (e : Spot) (t : Lexeme) (c : Option Class) → select_outcome (with_these s p ks) e t c ≡ select_outcome (with_these s p js) e t c
select_alike s p ks js e t None = refl
select_alike s p ks js e t (Some c) = ap (λ (o : Outcome). unless_refused (refusals (record { spot = e; class = Some c } ∷ [])) o) (class_alike s p ks js c t e.start)

from_alike : (s : Source) (p : Package) (ks js : List (Option Class)) (e : Spot) (t : Lexeme) (l : Option Library) (o : Outcome)
    → select_from (with_these s p ks) e t l o ≡ select_from (with_these s p js) e t l o
from_alike s p ks js e t (Some l) o = refl
from_alike s p ks js e t None o = ap (λ (x : Outcome). behind o.findings x) (select_alike s p ks js e t o.class)

library_alike : (s : Source) (p : Package) (ks js : List (Option Class)) (e : Expr) → library_of (with_these s p ks) e ≡ library_of (with_these s p js) e
library_alike s p ks js (Name t) = refl
library_alike s p ks js e = refl

-- ---- every form

sliced_alike : (e : Spot) {o r : Outcome} {ps qs ts us : List Part} {fs gs hs is : List Finding} → o ≡ r → ps ≡ ts → qs ≡ us → fs ≡ hs → gs ≡ is
    → behind (o.findings ++ (fs ++ gs)) (slice_outcome e o.class (ps ++ qs)) ≡ behind (r.findings ++ (hs ++ is)) (slice_outcome e r.class (ts ++ us))
sliced_alike e x y z v w = cc

mutual
  alike : (s : Source) (p : Package) (ks js : List (Option Class)) (e : Expr) → AreAlike p ks js (named_by (with_these s p ks) e) → operand (with_these s p ks) e ≡ operand (with_these s p js) e
  alike s p ks js (Constant t) h = refl
  alike s p ks js (Name t) h = found_alike s p ks js t (found (with_these s p ks) (name_in s t)) h
  alike s p ks js (Paren t e) h = alike s p ks js e h
  alike s p ks js (Convert w e) h = ap (λ (o : Outcome). behind o.findings (convert_outcome w (spot_of e) o.class)) (alike s p ks js e h)
  alike s p ks js (Select e t) h =
      from_alike s p ks js (spot_of e) t (library_of (with_these s p ks) e) (operand (with_these s p ks) e)
      ∙ (ap (λ l. select_from (with_these s p js) (spot_of e) t l (operand (with_these s p ks) e)) (library_alike s p ks js e)
      ∙ ap (λ (o : Outcome). select_from (with_these s p js) (spot_of e) t (library_of (with_these s p js) e) o) (alike s p ks js e h))
  alike s p ks js (Index e i) h =
      let x = alike s p ks js e (first_alike p ks js (named_by (with_these s p ks) e) (named_by (with_these s p ks) i) h) in
      let y = alike s p ks js i (second_alike p ks js (named_by (with_these s p ks) e) (named_by (with_these s p ks) i) h) in
      ap (λ (o : Outcome). behind (o.findings ++ (operand (with_these s p ks) i).findings) (index_outcome (spot_of e) (spot_of i) o.class (operand (with_these s p ks) i).class)) x
      ∙ ap (λ (o : Outcome). behind ((operand (with_these s p js) e).findings ++ o.findings) (index_outcome (spot_of e) (spot_of i) (operand (with_these s p js) e).class o.class)) y
  alike s p ks js (Slice e a b) h =
      let ns = named_by (with_these s p ks) e in
      let ms = named_by_bound (with_these s p ks) a in
      let os = named_by_bound (with_these s p ks) b in
      let rest = second_alike p ks js ns (ms ++ os) h in
      let x = alike s p ks js e (first_alike p ks js ns (ms ++ os) h) in
      let y = bound_alike s p ks js a (first_alike p ks js ms os rest) in
      let z = bound_alike s p ks js b (second_alike p ks js ms os rest) in
      sliced_alike (spot_of e) x y.0 z.0 y.1 z.1
  alike s p ks js (Unary t e) h = ap (λ (o : Outcome). behind o.findings (unary_outcome t (spot_of e) o.class)) (alike s p ks js e h)
  alike s p ks js (Binary a t b) h =
      let x = alike s p ks js a (first_alike p ks js (named_by (with_these s p ks) a) (named_by (with_these s p ks) b) h) in
      let y = alike s p ks js b (second_alike p ks js (named_by (with_these s p ks) a) (named_by (with_these s p ks) b) h) in
      ap (λ (o : Outcome). behind (o.findings ++ (operand (with_these s p ks) b).findings) (binary_outcome t (spot_of a) (spot_of b) o.class (operand (with_these s p ks) b).class)) x
      ∙ ap (λ (o : Outcome). behind ((operand (with_these s p js) a).findings ++ o.findings) (binary_outcome t (spot_of a) (spot_of b) (operand (with_these s p js) a).class o.class)) y

  bound_alike : (s : Source) (p : Package) (ks js : List (Option Class)) (b : Bound) → AreAlike p ks js (named_by_bound (with_these s p ks) b)
      → (bound_parts (with_these s p ks) b ≡ bound_parts (with_these s p js) b) × (bound_findings (with_these s p ks) b ≡ bound_findings (with_these s p js) b)
  bound_alike s p ks js left_out h = (refl, refl)
  bound_alike s p ks js (bound e) h = let x = alike s p ks js e h in
      (ap (λ (o : Outcome). part_of e o.class ∷ []) x, ap (λ (o : Outcome). o.findings) x)

pub rests_on_named : RestsOnNamed
rests_on_named = alike
