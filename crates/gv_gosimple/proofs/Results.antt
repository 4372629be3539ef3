-- What a call and a read of a map give to several left sides.
use Rattle.std.proofs.Common.{◌≡◌, ℕ, ◌==◌, Bool, true, false, ◌||◌, not, List, [], ◌∷◌, ◌++◌, length, Option, Some, None, refl, sym, ap, ◌∙◌, arith}
use Rattle.std.specs.Prelude.{if◌then◌else◌}
use Rattle.gv_base.specs.declared.answers.Code.TheVariants.{WrongType, WrongCount}
use Rattle.gv_operands.specs.declared.types.GoType.{GoType}
use Rattle.gv_operands.specs.declared.part.Want.{Want}
use Rattle.gv_gotypes.specs.Types.{Fault, unless}
use Rattle.gv_gotypes.specs.Trees.{Expr, Call, Value, Result}
use Rattle.gv_gotypes.specs.Scopes.{Env}
use Rattle.gv_gotypes.specs.Places.{start_of}
use Rattle.gv_gotypes.specs.Calls.{placed, answer, call_start}
use Rattle.gv_gotypes.specs.Expressions.{operand}
use Rattle.gv_gotypes.specs.Assigning.{Target, is_unlike, some_unlike, result_findings, read_findings, right_findings, is_map_read}
use Rattle.gv_gotyped.specs.First.{first_of}
use Rattle.gv_gosimple.specs.Lefts.{unlike_first, wants_of}

-- ---- left sides by what they want

pub record Wanted (want : Want) (more : List Want) (ts : List Target) : Type 0 where
  pub of_first : Target
  pub of_rest : List Target
  pub same : ts ≡ of_first ∷ of_rest
  pub is : want ≡ of_first.wants
  pub are : more ≡ wants_of of_rest

pub wanted_first : (want : Want) (more : List Want) (ts : List Target) → want ∷ more ≡ wants_of ts → Wanted want more ts
wanted_first want more [] e = absurd cc
wanted_first want more (t ∷ ts) e = let p : want ≡ t.wants = cc in let q : more ≡ wants_of ts = cc in record { of_first = t; of_rest = ts; same = refl; is = p; are = q }

pub as_many : (ts : List Target) → length (wants_of ts) ≡ length ts
as_many [] = refl
as_many (t ∷ ts) = let e = as_many ts in omega (arith, e)

pub unwanted : (ts : List Target) → [] ≡ wants_of ts → ts ≡ []
unwanted [] e = refl
unwanted (t ∷ ts) e = absurd cc

-- ---- one after another

-- those that are left, and their types
pub record Left (ts : List Target) (all : List (Option GoType)) (wants : List Want) (kinds : List (Option GoType)) : Type 0 where
  pub left : List Target
  pub wanted : wants ≡ wants_of left
  pub same : some_unlike ts all ≡ some_unlike left kinds

unlike_by : (b : Bool) (t : Target) (k : Option GoType) (ts : List Target) (ks : List (Option GoType)) → is_unlike t.wants k ≡ b → some_unlike (t ∷ ts) (k ∷ ks) ≡ (b || some_unlike ts ks)
unlike_by b t k ts ks e = ap (λ (x : Bool). x || some_unlike ts ks) e

pub left_unlike : (ts : List Target) (all : List (Option GoType)) (wants more : List Want) (kinds rest : List (Option GoType)) (want : Want) (kind : Option GoType)
    → (l : Left ts all wants kinds) → wants ≡ want ∷ more → kinds ≡ kind ∷ rest → is_unlike want kind ≡ true → some_unlike ts all ≡ true
left_unlike ts all wants more kinds rest want kind l w k h =
    let f = wanted_first want more l.left (sym w ∙ l.wanted) in
    l.same ∙ ap (λ (xs : List Target). some_unlike xs kinds) f.same ∙ ap (λ (ks : List (Option GoType)). some_unlike (f.of_first ∷ f.of_rest) ks) k
    ∙ unlike_by true f.of_first kind f.of_rest rest (ap (λ (x : Want). is_unlike x kind) (sym f.is) ∙ h)

pub left_more : (ts : List Target) (all : List (Option GoType)) (wants more : List Want) (kinds rest : List (Option GoType)) (want : Want) (kind : Option GoType)
    → (l : Left ts all wants kinds) → wants ≡ want ∷ more → kinds ≡ kind ∷ rest → is_unlike want kind ≡ false → Left ts all more rest
left_more ts all wants more kinds rest want kind l w k h =
    let f = wanted_first want more l.left (sym w ∙ l.wanted) in record {
      left = f.of_rest;
      wanted = f.are;
      same = l.same ∙ ap (λ (xs : List Target). some_unlike xs kinds) f.same ∙ ap (λ (ks : List (Option GoType)). some_unlike (f.of_first ∷ f.of_rest) ks) k
          ∙ unlike_by false f.of_first kind f.of_rest rest (ap (λ (x : Want). is_unlike x kind) (sym f.is) ∙ h);
    }

no_kinds : (ts : List Target) → some_unlike ts [] ≡ false
no_kinds [] = refl
no_kinds (t ∷ ts) = refl

pub left_none : (ts : List Target) (all : List (Option GoType)) (wants : List Want) (kinds : List (Option GoType)) → (l : Left ts all wants kinds) → wants ≡ [] → some_unlike ts all ≡ false
left_none ts all wants kinds l w = l.same ∙ ap (λ (xs : List Target). some_unlike xs kinds) (unwanted l.left (sym w ∙ l.wanted)) ∙ refl

pub left_no_kinds : (ts : List Target) (all : List (Option GoType)) (wants : List Want) (kinds : List (Option GoType)) → (l : Left ts all wants kinds) → kinds ≡ [] → some_unlike ts all ≡ false
left_no_kinds ts all wants kinds l k = l.same ∙ ap (λ (ks : List (Option GoType)). some_unlike l.left ks) k ∙ no_kinds l.left

pub first_unlike : (b : Bool) (wants more : List Want) (kinds rest : List (Option GoType)) (want : Want) (kind : Option GoType)
    → wants ≡ want ∷ more → kinds ≡ kind ∷ rest → unlike_first wants kinds ≡ b → is_unlike want kind ≡ b
first_unlike b wants more kinds rest want kind w k h =
    sym (ap (λ (xs : List Want). unlike_first xs kinds) w ∙ ap (λ (ks : List (Option GoType)). unlike_first (want ∷ more) ks) k) ∙ h

-- ---- what is told of results

equal : (m n : ℕ) → m ≡ n → (m == n) ≡ true
equal m n e = grind arith

unequal : (m n : ℕ) → (m ≡ n → ⊥) → (m == n) ≡ false
unequal m n e = grind arith

counted : (b : Bool) (ts : List Target) (ks : List (Option GoType)) (statement start : ℕ) → (length ks == length ts) ≡ b
    → first_of (result_findings ts (Some ks) statement start) ≡ first_of (if b then unless (not (some_unlike ts ks)) start WrongType else Fault statement WrongCount ∷ [])
counted b ts ks statement start e = ap (λ (x : Bool). first_of (if x then unless (not (some_unlike ts ks)) start WrongType else Fault statement WrongCount ∷ [])) e

pub other_number : (ts : List Target) (wants : List Want) (ks : List (Option GoType)) (statement start : ℕ) → wants ≡ wants_of ts → (length ks ≡ length wants → ⊥)
    → Some (record { start = statement; code = WrongCount }) ≡ first_of (result_findings ts (Some ks) statement start)
other_number ts wants ks statement start w h =
    let e : length wants ≡ length ts = ap length w ∙ as_many ts in
    sym (counted false ts ks statement start (unequal (length ks) (length ts) (λ q. h (q ∙ sym e))))

pub same_number : (ts : List Target) (wants : List Want) (ks : List (Option GoType)) (statement start : ℕ) → wants ≡ wants_of ts → length ks ≡ length wants
    → first_of (unless (not (some_unlike ts ks)) start WrongType) ≡ first_of (result_findings ts (Some ks) statement start)
same_number ts wants ks statement start w h =
    sym (counted true ts ks statement start (equal (length ks) (length ts) (h ∙ ap length w ∙ as_many ts)))

pub typed_by : (b : Bool) (start : ℕ) → first_of (unless (not b) start WrongType) ≡ (if b then Some (record { start = start; code = WrongType }) else None)
typed_by true start = refl
typed_by false start = refl

pub unlike_told : (b : Bool) (start : ℕ) → b ≡ true → Some (record { start = start; code = WrongType }) ≡ first_of (unless (not b) start WrongType)
unlike_told true start h = refl
unlike_told false start h = absurd cc

pub alike_told : (b : Bool) (start : ℕ) → b ≡ false → None ≡ first_of (unless (not b) start WrongType)
alike_told false start h = refl
alike_told true start h = absurd cc

-- ---- one left side, and others

pub lone_value : (env : Env) (ts : List Target) (wants : List Want) (want : Want) (statement : ℕ) (e : Expr) → wants ≡ want ∷ [] → wants ≡ wants_of ts → first_of (placed env want e) ≡ first_of (right_findings env ts statement (Value e))
lone_value env ts wants want statement e o w =
    let f = wanted_first want [] ts (sym o ∙ w) in
    ap (λ (x : Want). first_of (placed env x e)) f.is
    ∙ sym (ap (λ (xs : List Target). first_of (right_findings env xs statement (Value e))) (f.same ∙ ap (λ (xs : List Target). f.of_first ∷ xs) (unwanted f.of_rest f.are)))

pub other_value : (env : Env) (ts : List Target) (statement : ℕ) (e : Expr) → (length ts ≡ 1 → ⊥)
    → right_findings env ts statement (Value e) ≡ (operand env e).findings ++ read_findings ts (is_map_read env e) (operand env e).class statement (start_of e)
other_value env [] statement e h = refl
other_value env (t ∷ []) statement e h = absurd (h refl)
other_value env (t ∷ u ∷ ts) statement e h = refl

pub some_result : (env : Env) (ts : List Target) (statement : ℕ) (c : Call)
    → right_findings env ts statement (Result c) ≡ (answer env c).findings ++ result_findings ts (answer env c).results statement (call_start c)
some_result env [] statement c = refl
some_result env (t ∷ []) statement c = refl
some_result env (t ∷ u ∷ ts) statement c = refl
