-- One method of the struct with a number, where there is one.
use Rattle.std.proofs.Common.{◌≡◌, ℕ, zero, suc, ◌+◌, ◌<◌, ◌≤◌, Bool, true, false, cond, not, ◌||◌, ◌==◌, List, [], ◌∷◌, Option, Some, None, length, get_or, set, refl, sym, ap, ◌∙◌, subst, arith}
use Rattle.std.proofs.lemmas.Bool.{eq-eqb}
use Rattle.std.specs.Prelude.{slice_get, is_some}
use Rattle.gv_base.specs.declared.answers.Code.TheVariants.{Twice}
use Rattle.gv_gotypes.specs.Types.{unless}
use Rattle.gv_gotypes.specs.Scopes.{StructType, Package, is_blank}
use Rattle.gv_gotypes.specs.Members.{field_from}
use Rattle.gv_gotypes.specs.Files.{is_taken, is_earlier}
use Rattle.gv_gotyped.specs.declared.fault.Fault.{Fault}
use Rattle.gv_gotyped.specs.First.{first_of}
use Rattle.gv_gonames.specs.declared.span.Span.{Span}
use Rattle.gv_gonames.specs.Structs.{StructOf, with_method}
use Rattle.gv_goseen.specs.Naming.{method_twice_in, AreBelow, AreFrom, IsGrown}
use Rattle.gv_gomethods.specs.Methods.{with_method_of, AreIn, method_twice_of, IsGrowing, IsGrowingIn, AreGrowing}

pub none_added : (name : Span) (procedure number : ℕ) (ts : List StructOf) → with_method_of None name procedure number ts ≡ ts
none_added name procedure number [] = refl
none_added name procedure number (t ∷ ts) = ap (λ (us : List StructOf). t ∷ us) (none_added name procedure (suc number) ts)

differ : (a b : ℕ) → a < b → (b == a) ≡ false
differ a b h = grind arith

-- numbers from some one on are those of no struct here
past_by : (name : Span) (procedure n number : ℕ) (ts : List StructOf) → number + length ts ≤ n → with_method_of (Some n) name procedure number ts ≡ ts
past_by name procedure n number [] h = refl
past_by name procedure n number (t ∷ ts) h =
    ap (λ (b : Bool). cond b (with_method t name procedure) t ∷ with_method_of (Some n) name procedure (suc number) ts) (differ number n (below number (length ts) n h))
    ∙ ap (λ (us : List StructOf). t ∷ us) (past_by name procedure n (suc number) ts (on number (length ts) n h))
  where
    below : (a b c : ℕ) → a + suc b ≤ c → a < c
    below a b c h = omega (arith, h)

    on : (a b c : ℕ) → a + suc b ≤ c → suc a + b ≤ c
    on a b c h = omega (arith, h)

pub past : (name : Span) (procedure n : ℕ) (ts : List StructOf) → length ts ≤ n → with_method_of (Some n) name procedure 0 ts ≡ ts
past name procedure n ts h = past_by name procedure n 0 ts (omega (arith, h))

behind_it : (name : Span) (procedure n number : ℕ) (ts : List StructOf) → n < number → with_method_of (Some n) name procedure number ts ≡ ts
behind_it name procedure n number [] h = refl
behind_it name procedure n number (t ∷ ts) h =
    ap (λ (b : Bool). cond b (with_method t name procedure) t ∷ with_method_of (Some n) name procedure (suc number) ts) (other n number h)
    ∙ ap (λ (us : List StructOf). t ∷ us) (behind_it name procedure n (suc number) ts (omega (arith, h)))
  where
    other : (a b : ℕ) → a < b → (a == b) ≡ false
    other a b h = grind arith

there_by : (name : Span) (procedure number i : ℕ) (ts : List StructOf) (t d : StructOf) → i < length ts → t ≡ get_or ts i d
    → with_method_of (Some (number + i)) name procedure number ts ≡ set ts i (with_method t name procedure)
there_by name procedure number i [] t d h e = absurd (omega (arith, h))
there_by name procedure number zero (u ∷ ts) t d h e =
    ap (λ (b : Bool). cond b (with_method u name procedure) u ∷ with_method_of (Some (number + 0)) name procedure (suc number) ts) (same number)
    ∙ ap (λ (us : List StructOf). with_method u name procedure ∷ us) (behind_it name procedure (number + 0) (suc number) ts (omega arith))
    ∙ ap (λ (v : StructOf). with_method v name procedure ∷ ts) (sym e)
  where
    same : (n : ℕ) → (n + 0 == n) ≡ true
    same n = grind arith
there_by name procedure number (suc i) (u ∷ ts) t d h e =
    ap (λ (b : Bool). cond b (with_method u name procedure) u ∷ with_method_of (Some (number + suc i)) name procedure (suc number) ts) (other number i)
    ∙ ap (λ (n : ℕ). u ∷ with_method_of (Some n) name procedure (suc number) ts) (on number i)
    ∙ ap (λ (us : List StructOf). u ∷ us) (there_by name procedure (suc number) i ts t d (less i (length ts) h) e)
  where
    other : (n j : ℕ) → (n + suc j == n) ≡ false
    other n j = grind arith

    on : (n j : ℕ) → n + suc j ≡ suc n + j
    on n j = omega arith

    less : (a b : ℕ) → suc a < suc b → a < b
    less a b h = omega (arith, h)

pub there : (name : Span) (procedure n : ℕ) (ts : List StructOf) (t d : StructOf) → n < length ts → t ≡ get_or ts n d
    → with_method_of (Some n) name procedure 0 ts ≡ set ts n (with_method t name procedure)
there name procedure n ts t d h e = ap (λ (m : ℕ). with_method_of (Some m) name procedure 0 ts) (none n) ∙ there_by name procedure 0 n ts t d h e
  where
    none : (n : ℕ) → n ≡ 0 + n
    none n = omega arith

pub in_there : (text : List ℕ) (n : ℕ) (ts : List StructOf) (d : StructOf) → AreIn text ts → n < length ts → (get_or ts n d).text ≡ text
in_there text n [] d a h = absurd (omega (arith, h))
in_there text zero (t ∷ ts) d a h = a.0
in_there text (suc n) (t ∷ ts) d a h = in_there text n ts d a.1 (less n (length ts) h)
  where
    less : (a b : ℕ) → suc a < suc b → a < b
    less a b h = omega (arith, h)

-- ---- what is told

not_taken : (blank taken : Bool) (start : ℕ) → taken ≡ false → None ≡ first_of (unless (blank || not taken) start Twice)
not_taken true taken start e = refl
not_taken false taken start e = ap (λ (b : Bool). first_of (unless (not b) start Twice)) (sym e)

pub none_told : (p : Package) (procedure : ℕ) (name : List ℕ) (start : ℕ) → None ≡ first_of (method_twice_of p procedure name None start)
none_told p procedure name start = not_taken (is_blank name) false start refl

got : {T : Type 0} (ts : List T) (n : ℕ) → length ts ≤ n → slice_get ts n ≡ None
got [] n h = refl
got (t ∷ ts) zero h = absurd (omega (arith, h))
got (t ∷ ts) (suc n) h = got ts n (less (length ts) n h)
  where
    less : (a b : ℕ) → suc a ≤ suc b → a ≤ b
    less a b h = omega (arith, h)

pub past_told : (p : Package) (procedure n : ℕ) (ts : List StructOf) (name : List ℕ) (start : ℕ) → length ts ≤ n → AreGrowing p procedure ts
    → None ≡ first_of (method_twice_of p procedure name (Some n) start)
past_told p procedure n ts name start h g = not_taken (is_blank name) (is_taken p procedure name (Some n)) start
    (ap (λ (o : Option StructType). elim o [ None ↦ false | Some s ↦ is_some (field_from 0 s.fields name) || is_earlier s.methods procedure name ])
    (subst (λ (o : Option StructOf). IsGrowingIn p procedure n o) (got ts n h) (g n)))

got_there : {T : Type 0} (ts : List T) (n : ℕ) (t d : T) → n < length ts → t ≡ get_or ts n d → slice_get ts n ≡ Some t
got_there [] n t d h e = absurd (omega (arith, h))
got_there (u ∷ ts) zero t d h e = ap Some (sym e)
got_there (u ∷ ts) (suc n) t d h e = got_there ts n t d (less n (length ts) h) e
  where
    less : (a b : ℕ) → suc a < suc b → a < b
    less a b h = omega (arith, h)

pub there_growing : (p : Package) (procedure n : ℕ) (ts : List StructOf) (t d : StructOf) → n < length ts → t ≡ get_or ts n d → AreGrowing p procedure ts → IsGrowing p procedure n t.struct
there_growing p procedure n ts t d h e g = subst (λ (o : Option StructOf). IsGrowingIn p procedure n o) (got_there ts n t d h e) (g n)
