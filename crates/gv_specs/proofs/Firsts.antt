-- The first of several faults.
use Rattle.std.proofs.Common.{◌≡◌, ℕ, ◌≤◌, ◌⊎◌, inl, inr, ⊎_elim, Bool, true, false, Option, Some, None, refl, sym, subst, arith}
use Rattle.gv_base.specs.Codes.{code_number}
use Rattle.gv_base.specs.declared.answers.Code.{Code}
use Rattle.gv_text.specs.Answers.{IsFirst, IsNotAfter}
use Rattle.gv_typing.specs.declared.term_fault.Fault.{Fault}
use Rattle.gv_typing.proofs.PlacedFaults.{itself}
use Rattle.gv_specs.specs.Told.{IsFault, this, IsFaultUnless, this_unless, TellsFirst, IsTold, Adds}

abbrev Before : ℕ → Code → ℕ → Code → Type 0
Before = IsNotAfter code_number

at_most : (a b c : ℕ) → a ≤ b → b ≤ c → a ≤ c
at_most a b c p q = omega arith

between : (a b c : ℕ) → a ≤ b → b ≤ c → a ≡ c → (a ≡ b) × (b ≡ c)
between a b c p q e = (omega arith, omega arith)

pub not_after : (f g h : ℕ) (c d e : Code) → Before f c g d → Before g d h e → Before f c h e
not_after f g h c d e a b = record {
  place = at_most f g h a.place b.place;
  number = λ q. let same = between f g h a.place b.place q in at_most (code_number c) (code_number d) (code_number e) (a.number same.0) (b.number same.1);
}

-- the same faults
pub tells_same : (P Q : ℕ → Code → Type 0) (first : Option Fault) → ((m : ℕ) (c : Code) → P m c → Q m c) → ((m : ℕ) (c : Code) → Q m c → P m c) → TellsFirst P first → TellsFirst Q first
tells_same P Q None there back h = λ m c q. h m c (back m c q)
tells_same P Q (Some f) there back h = record { there = there f.start f.code h.there; others = λ m c q. h.others m c (back m c q) }

pub adds_same : (P Q : ℕ → Code → Type 0) (old first : Option Fault) → ((m : ℕ) (c : Code) → P m c → Q m c) → ((m : ℕ) (c : Code) → Q m c → P m c) → Adds P old first → Adds Q old first
adds_same P Q old first there back = tells_same (λ m c. IsTold old m c ⊎ P m c) (λ m c. IsTold old m c ⊎ Q m c) first
    (λ m c h. ⊎_elim (λ t. inl t) (λ p. inr (there m c p)) h) (λ m c h. ⊎_elim (λ t. inl t) (λ q. inr (back m c q)) h)

-- nothing was looked at
pub adds_nothing : (P : ℕ → Code → Type 0) (old : Option Fault) → ((m : ℕ) (c : Code) → P m c → ⊥) → Adds P old old
adds_nothing P None never = λ m c h. ⊎_elim (λ (t : ⊥). t) (λ p. never m c p) h
adds_nothing P (Some f) never = record {
  there = inl (refl, refl);
  others = λ m c h. ⊎_elim
      (λ (t : IsTold (Some f) m c). subst (λ (n : ℕ). Before f.start f.code n c) (sym t.0) (subst (λ (d : Code). Before f.start f.code f.start d) (sym t.1) (itself f.start f.code)))
      (λ p. absurd (never m c p)) h;
}

-- one thing after another
pub adds_then : (P Q : ℕ → Code → Type 0) (a b c : Option Fault) → Adds P a b → Adds Q b c → Adds (λ m k. P m k ⊎ Q m k) a c
adds_then P Q a None None p q = λ m k h. ⊎_elim (λ t. p m k (inl t)) (λ h2. ⊎_elim (λ x. p m k (inr x)) (λ y. q m k (inr y)) h2) h
adds_then P Q a (Some g) None p q = absurd (q g.start g.code (inl (refl, refl)))
adds_then P Q a None (Some f) p q = record {
  there = ⊎_elim (λ (t : ⊥). absurd t) (λ y. inr (inr y)) q.there;
  others = λ m k h. ⊎_elim (λ t. absurd (p m k (inl t))) (λ h2. ⊎_elim (λ x. absurd (p m k (inr x))) (λ y. q.others m k (inr y)) h2) h;
}
adds_then P Q a (Some g) (Some f) p q = record {
  there = ⊎_elim
      (λ (t : IsTold (Some g) f.start f.code).
      subst (λ (m : ℕ). IsTold a m f.code ⊎ (P m f.code ⊎ Q m f.code)) (sym t.0)
      (subst (λ (k : Code). IsTold a g.start k ⊎ (P g.start k ⊎ Q g.start k)) (sym t.1)
      (⊎_elim (λ u. inl u) (λ x. inr (inl x)) p.there)))
      (λ y. inr (inr y)) q.there;
  others = λ m k h.
      let f_g : Before f.start f.code g.start g.code = q.others g.start g.code (inl (refl, refl)) in
      ⊎_elim (λ t. not_after f.start g.start m f.code g.code k f_g (p.others m k (inl t)))
      (λ h2. ⊎_elim (λ x. not_after f.start g.start m f.code g.code k f_g (p.others m k (inr x))) (λ y. q.others m k (inr y)) h2) h;
}

-- what was told stays told
pub still_told : (P : ℕ → Code → Type 0) (old first : Option Fault) → Adds P old first → first ≡ None → old ≡ None
still_told P None first h e = refl
still_told P (Some f) None h e = absurd (h f.start f.code (inl (refl, refl)))
still_told P (Some f) (Some g) h e = absurd cc

-- where nothing is told there is no fault
pub untold : (P : ℕ → Code → Type 0) (old first : Option Fault) → Adds P old first → first ≡ None → (m : ℕ) (c : Code) → P m c → ⊥
untold P old None h e = λ m c p. h m c (inr p)
untold P old (Some g) h e = absurd cc

-- from the start on
pub told_all : (P : ℕ → Code → Type 0) (old first : Option Fault) → old ≡ None → Adds P old first → TellsFirst P first
told_all P None first e h = tells_same (λ m c. ⊥ ⊎ P m c) P first (λ m c x. ⊎_elim (λ (t : ⊥). absurd t) (λ p. p) x) (λ m c p. inr p) h
told_all P (Some f) first e h = absurd cc

-- one fault

is_this : (start m : ℕ) (kind c : Code) → IsFault start kind m c → (m ≡ start) × (c ≡ kind)
is_this start m kind c this = (refl, refl)

-- the first of one fault alone
this_first : (start : ℕ) (kind : Code) (m : ℕ) (c : Code) → IsFault start kind m c → Before start kind m c
this_first start kind m c this = itself start kind

pub note_first : (start : ℕ) (kind : Code) (g : Fault) → g.start ≡ start → g.code ≡ kind → Adds (IsFault start kind) None (Some g)
note_first start kind g s k = record {
  there = inr (subst (λ (m : ℕ). IsFault start kind m g.code) (sym s) (subst (λ (d : Code). IsFault start kind start d) (sym k) this));
  others = λ m c h. ⊎_elim (λ (t : ⊥). absurd t)
      (λ w. subst (λ (n : ℕ). Before n g.code m c) (sym s) (subst (λ (d : Code). Before start d m c) (sym k) (this_first start kind m c w))) h;
}

-- the fault beside an earlier one
pub note_more : (old g r : Fault) → ((r ≡ old) × Before old.start old.code g.start g.code) ⊎ ((r ≡ g) × Before g.start g.code old.start old.code) → Adds (IsFault g.start g.code) (Some old) (Some r)
note_more old g r h = ⊎_elim
    (λ (x : (r ≡ old) × Before old.start old.code g.start g.code). subst (λ (y : Fault). Adds (IsFault g.start g.code) (Some old) (Some y)) (sym x.0) (record {
      there = inl (refl, refl);
      others = λ m c w. ⊎_elim
          (λ (t : IsTold (Some old) m c). subst (λ (n : ℕ). Before old.start old.code n c) (sym t.0) (subst (λ (d : Code). Before old.start old.code old.start d) (sym t.1) (itself old.start old.code)))
          (λ v. not_after old.start g.start m old.code g.code c x.1 (this_first g.start g.code m c v)) w;
    }))
    (λ (x : (r ≡ g) × Before g.start g.code old.start old.code). subst (λ (y : Fault). Adds (IsFault g.start g.code) (Some old) (Some y)) (sym x.0) (record {
      there = inr this;
      others = λ m c w. ⊎_elim
          (λ (t : IsTold (Some old) m c). subst (λ (n : ℕ). Before g.start g.code n c) (sym t.0) (subst (λ (d : Code). Before g.start g.code old.start d) (sym t.1) x.1))
          (λ v. this_first g.start g.code m c v) w;
    }))
    h

pub note_none : (old : Option Fault) (g : Fault) → old ≡ None → Adds (IsFault g.start g.code) old (Some g)
note_none old g e = subst (λ (o : Option Fault). Adds (IsFault g.start g.code) o (Some g)) (sym e) (note_first g.start g.code g refl refl)

pub note_some : (old : Option Fault) (f g r : Fault) → old ≡ Some f → ((r ≡ f) × Before f.start f.code g.start g.code) ⊎ ((r ≡ g) × Before g.start g.code f.start f.code) → Adds (IsFault g.start g.code) old (Some r)
note_some old f g r e h = subst (λ (o : Option Fault). Adds (IsFault g.start g.code) o (Some r)) (sym e) (note_more f g r h)

-- a fault unless something holds

not_this : (start : ℕ) (kind : Code) (m : ℕ) (c : Code) (b : Bool) → b ≡ true → IsFaultUnless b start kind m c → ⊥
not_this start kind m c b e (this_unless f) = absurd cc

pub want_holds : (b : Bool) (start : ℕ) (kind : Code) (old : Option Fault) → b ≡ true → Adds (IsFaultUnless b start kind) old old
want_holds b start kind old e = adds_nothing (IsFaultUnless b start kind) old (λ m c w. not_this start kind m c b e w)

unless_there : (b : Bool) (start : ℕ) (kind : Code) (m : ℕ) (c : Code) → b ≡ false → IsFault start kind m c → IsFaultUnless b start kind m c
unless_there b start kind m c e this = this_unless e

unless_back : (b : Bool) (start : ℕ) (kind : Code) (m : ℕ) (c : Code) → IsFaultUnless b start kind m c → IsFault start kind m c
unless_back b start kind m c (this_unless e) = this

pub want_fails : (b : Bool) (start : ℕ) (kind : Code) (old first : Option Fault) → b ≡ false → Adds (IsFault start kind) old first → Adds (IsFaultUnless b start kind) old first
want_fails b start kind old first e = adds_same (IsFault start kind) (IsFaultUnless b start kind) old first (λ m c w. unless_there b start kind m c e w) (λ m c w. unless_back b start kind m c w)

-- the first of some faults

pub adds_first : (Has : ℕ → Code → Type 0) (s : ℕ) (k : Code) (a b : Option Fault) → IsFirst code_number Has s k → Adds (IsFault s k) a b → Adds Has a b
adds_first Has s k a None first h = absurd (h s k (inr this))
adds_first Has s k a (Some f) first h = record {
  there = ⊎_elim (λ t. inl t)
      (λ (w : IsFault s k f.start f.code). let e = is_this s f.start k f.code w in inr (subst (λ (m : ℕ). Has m f.code) (sym e.0) (subst (λ (c : Code). Has s c) (sym e.1) first.there))) h.there;
  others = λ m c w. ⊎_elim (λ t. h.others m c (inl t)) (λ x. not_after f.start s m f.code k c (h.others s k (inr this)) (first.others m c x)) w;
}

pub never_untold : (s : ℕ) (k : Code) (a b : Option Fault) → Adds (IsFault s k) a b → b ≡ None → ⊥
never_untold s k a b h e = untold (IsFault s k) a b h e s k this
