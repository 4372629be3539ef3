-- What is kept is the least of all that was met.
use Rattle.std.proofs.Common.{◌≡◌, ℕ, ◌≤◌, ◌⊎◌, inl, inr, ⊎_elim, Bool, true, false, cond, ◌||◌, ◌&&◌, List, [], ◌∷◌, Option, Some, None, refl, sym, ap, subst, arith, ◌∙◌}
use Rattle.std.specs.Prelude.{nat_lt, nat_eq, MatchOption}
use Rattle.std.proofs.lemmas.Bool.{ltb-true, ltb-false, eqb-true, eq-eqb, false≢true}
use Rattle.gv_base.specs.Codes.{code_number}
use Rattle.gv_base.specs.declared.answers.Code.{Code}
use Rattle.gv_text.specs.Answers.{IsFirst, IsNotAfter}
use Rattle.gv_typing.specs.declared.term_fault.Fault.{Fault}
use Rattle.gv_lang.specs.declared.program.Program.{Program}
use Rattle.gv_atomic.specs.declared.spec.Spec.{Spec}
use Rattle.gv_scriptnames.specs.declared.outline.Outline.{Outline}
use Rattle.gv_scriptnames.specs.Faults.{HasOutlineFault}
use Rattle.gv_scriptnames.specs.Found.{Found, IsIn, found}
use Rattle.gv_scriptnames.proofs.Once.{all_found}
use Rattle.gv_scriptfaults.specs.First.{IsFirstFault}
use Rattle.gv_scriptfaults.specs.Least.{is_before, with_one, after}

abbrev Before : ℕ → Code → ℕ → Code → Type 0
Before = IsNotAfter code_number

abbrev Told : Option Fault → ℕ → Code → Type 0
Told None at code = ⊥
Told (Some f) at code = (f.start ≡ at) × (f.code ≡ code)

-- nothing is a fault, or this is the first
abbrev pub Tells : (ℕ → Code → Type 0) → Option Fault → Type 0
Tells Has first = MatchOption first ((at : ℕ) (code : Code) → Has at code → ⊥) (λ f. IsFirst code_number Has f.start f.code)

itself : (at : ℕ) (c : Code) → Before at c at c
itself at c = record { place = omega arith; number = λ e. omega arith }

at_most : (a b c : ℕ) → a ≤ b → b ≤ c → a ≤ c
at_most a b c p q = omega arith

between : (a b c : ℕ) → a ≤ b → b ≤ c → a ≡ c → (a ≡ b) × (b ≡ c)
between a b c p q e = (omega arith, omega arith)

not_after : (f g h : ℕ) (c d e : Code) → Before f c g d → Before g d h e → Before f c h e
not_after f g h c d e a b = record {
  place = at_most f g h a.place b.place;
  number = λ q. let same = between f g h a.place b.place q in at_most (code_number c) (code_number d) (code_number e) (a.number same.0) (b.number same.1);
}

-- by the two tests
before_so : (a b m n : ℕ) → (nat_lt a b || (nat_eq a b && nat_lt m n)) ≡ true → (a ≤ b) × (a ≡ b → m ≤ n)
before_so a b m n e = by (nat_lt a b) (nat_eq a b) (nat_lt m n) refl refl refl e
  where
    by : (p q r : Bool) → nat_lt a b ≡ p → nat_eq a b ≡ q → nat_lt m n ≡ r → (p || (q && r)) ≡ true → (a ≤ b) × (a ≡ b → m ≤ n)
    by true q r x y z e = let l = ltb-true a b x in (omega (arith, l), λ s. omega (arith, l, s))
    by false true true x y z e = let s = eqb-true a b y in let l = ltb-true m n z in (omega (arith, s), λ t. omega (arith, l))
    by false true false x y z e = absurd (false≢true e)
    by false false r x y z e = absurd (false≢true e)

behind_so : (a b m n : ℕ) → (nat_lt a b || (nat_eq a b && nat_lt m n)) ≡ false → (b ≤ a) × (b ≡ a → n ≤ m)
behind_so a b m n e = by (nat_lt a b) (nat_eq a b) (nat_lt m n) refl refl refl e
  where
    by : (p q r : Bool) → nat_lt a b ≡ p → nat_eq a b ≡ q → nat_lt m n ≡ r → (p || (q && r)) ≡ false → (b ≤ a) × (b ≡ a → n ≤ m)
    by true q r x y z e = absurd (false≢true (sym e))
    by false true true x y z e = absurd (false≢true (sym e))
    by false true false x y z e = (ltb-false a b x, λ s. ltb-false m n z)
    by false false r x y z e = (ltb-false a b x, λ s. absurd (false≢true (sym y ∙ eq-eqb a b (sym s))))

before_is : (at : ℕ) (code : Code) (g : Fault) → is_before at code g ≡ true → Before at code g.start g.code
before_is at code g e = let h = before_so at g.start (code_number code) (code_number g.code) e in record { place = h.0; number = h.1 }

behind_is : (at : ℕ) (code : Code) (g : Fault) → is_before at code g ≡ false → Before g.start g.code at code
behind_is at code g e = let h = behind_so at g.start (code_number code) (code_number g.code) e in record { place = h.0; number = h.1 }

-- one of those that were met is told, and it stands before this one or with it
record IsTold (first : Option Fault) (m : ℕ) (c : Code) : Type 0 where
  f : Fault
  told : first ≡ Some f
  before : Before f.start f.code m c

moved : (f g : ℕ) (c d : Code) (m : ℕ) (k : Code) → f ≡ m → c ≡ k → Before g d f c → Before g d m k
moved f g c d m k p q h = subst (λ (n : ℕ). Before g d n k) p (subst (λ (x : Code). Before g d f x) q h)

one_told : (first : Option Fault) (at : ℕ) (code : Code) (m : ℕ) (c : Code) → Told first m c ⊎ ((at ≡ m) × (code ≡ c)) → IsTold (with_one first at code) m c
one_told None at code m c (inl h) = absurd h
one_told None at code m c (inr h) = record { f = record { start = at; code = code }; told = refl; before = moved at at code code m c h.0 h.1 (itself at code) }
one_told (Some g) at code m c h = by (is_before at code g) refl h
  where
    by : (b : Bool) → is_before at code g ≡ b → Told (Some g) m c ⊎ ((at ≡ m) × (code ≡ c)) → IsTold (with_one (Some g) at code) m c
    by true e (inl h) = record { f = record { start = at; code = code }; told = ap (λ b. Some (cond b (record { start = at; code = code }) g)) e; before = moved g.start at g.code code m c h.0 h.1 (before_is at code g e) }
    by true e (inr h) = record { f = record { start = at; code = code }; told = ap (λ b. Some (cond b (record { start = at; code = code }) g)) e; before = moved at at code code m c h.0 h.1 (itself at code) }
    by false e (inl h) = record { f = g; told = ap (λ b. Some (cond b (record { start = at; code = code }) g)) e; before = moved g.start g.start g.code g.code m c h.0 h.1 (itself g.start g.code) }
    by false e (inr h) = record { f = g; told = ap (λ b. Some (cond b (record { start = at; code = code }) g)) e; before = moved at g.start code g.code m c h.0 h.1 (behind_is at code g e) }

one_there : (first : Option Fault) (at : ℕ) (code : Code) (m : ℕ) (c : Code) → Told (with_one first at code) m c → Told first m c ⊎ ((at ≡ m) × (code ≡ c))
one_there None at code m c h = inr h
one_there (Some g) at code m c h = by (is_before at code g) h
  where
    by : (b : Bool) → Told (Some (cond b (record { start = at; code = code }) g)) m c → Told (Some g) m c ⊎ ((at ≡ m) × (code ≡ c))
    by true h = inr h
    by false h = inl h

told_so : (first : Option Fault) (f : Fault) → first ≡ Some f → Told first f.start f.code
told_so None f e = absurd cc
told_so (Some g) f e = let q : g ≡ f = cc in (ap (λ x. x.start) q, ap (λ x. x.code) q)

-- after one more, the rest
then_rest : (first : Option Fault) (at : ℕ) (code : Code) (fs : Found) (last : Option Fault) → Tells (λ m c. Told (with_one first at code) m c ⊎ IsIn fs m c) last
    → Tells (λ m c. Told first m c ⊎ (((at ≡ m) × (code ≡ c)) ⊎ IsIn fs m c)) last
then_rest first at code fs None h = λ m c w. ⊎_elim
    (λ t. let o = one_told first at code m c (inl t) in h o.f.start o.f.code (inl (told_so (with_one first at code) o.f o.told)))
    (λ v. ⊎_elim (λ t. let o = one_told first at code m c (inr t) in h o.f.start o.f.code (inl (told_so (with_one first at code) o.f o.told))) (λ i. h m c (inr i)) v) w
then_rest first at code fs (Some f) h = record {
  there = ⊎_elim (λ t. ⊎_elim (λ x. inl x) (λ y. inr (inl y)) (one_there first at code f.start f.code t)) (λ i. inr (inr i)) h.there;
  others = λ m c w. ⊎_elim
      (λ t. let o = one_told first at code m c (inl t) in not_after f.start o.f.start m f.code o.f.code c (h.others o.f.start o.f.code (inl (told_so (with_one first at code) o.f o.told))) o.before)
      (λ v. ⊎_elim
      (λ t. let o = one_told first at code m c (inr t) in not_after f.start o.f.start m f.code o.f.code c (h.others o.f.start o.f.code (inl (told_so (with_one first at code) o.f o.told))) o.before)
      (λ i. h.others m c (inr i)) v) w;
}

tells_after : (first : Option Fault) (fs : Found) → Tells (λ m c. Told first m c ⊎ IsIn fs m c) (after first fs)
tells_after None [] = λ m c h. ⊎_elim (λ (t : ⊥). t) (λ (i : ⊥). i) h
tells_after (Some f) [] = record { there = inl (refl, refl); others = λ m c h. ⊎_elim (λ t. moved f.start f.start f.code f.code m c t.0 t.1 (itself f.start f.code)) (λ (i : ⊥). absurd i) h }
tells_after first (f ∷ fs) = then_rest first f.0 f.1 fs (after (with_one first f.0 f.1) fs) (tells_after (with_one first f.0 f.1) fs)

pub tells_same : (P Q : ℕ → Code → Type 0) (first : Option Fault) → ((m : ℕ) (c : Code) → P m c → Q m c) → ((m : ℕ) (c : Code) → Q m c → P m c) → Tells P first → Tells Q first
tells_same P Q None there back h = λ m c q. h m c (back m c q)
tells_same P Q (Some f) there back h = record { there = there f.start f.code h.there; others = λ m c q. h.others m c (back m c q) }

-- from the start on
pub first_of_all : (fs : Found) (first : Option Fault) → first ≡ after None fs → Tells (IsIn fs) first
first_of_all fs first e =
    subst (λ (o : Option Fault). Tells (IsIn fs) o) (sym e)
    (tells_same (λ m c. ⊥ ⊎ IsIn fs m c) (IsIn fs) (after None fs) (λ m c h. ⊎_elim (λ (t : ⊥). absurd t) (λ i. i) h) (λ m c i. inr i) (tells_after None fs))

pub first_is : (text : List ℕ) (spec : Spec) (program : Program) (s : Outline) (first : Option Fault) → first ≡ after None (found text spec program s) → IsFirstFault text spec program s first
first_is text spec program s first e =
    let same = all_found text spec program s in
    tells_same (IsIn (found text spec program s)) (HasOutlineFault text spec program s) first same.only same.all (first_of_all (found text spec program s) first e)
