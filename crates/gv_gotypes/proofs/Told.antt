-- The fault that is told is the first of those that are found.
use Rattle.std.proofs.Common.{◌≡◌, ℕ, ◌≤◌, ◌⊎◌, inl, inr, ⊎_elim, Bool, true, false, ◌&&◌, ◌||◌, List, [], ◌∷◌, Option, Some, None, refl, arith}
use Rattle.std.specs.Prelude.{MatchOption, if◌then◌else◌, nat_lt, nat_le, ◌==◌}
use Rattle.gv_base.specs.Codes.{code_number}
use Rattle.gv_base.specs.declared.answers.Code.{Code}
use Rattle.gv_text.specs.Answers.{IsFirst, IsNotAfter}
use Rattle.gv_text.proofs.FirstOnes.{one_first, same}
use Rattle.gv_gotypes.specs.Trees.{File}
use Rattle.gv_gotypes.specs.Scopes.{Source}
use Rattle.gv_gotypes.specs.Types.{Finding, Fault, Outer, Assigned}
use Rattle.gv_gotypes.specs.Told.{IsFound, is_told_before, first_with, told}
use Rattle.gv_gotypes.specs.Files.{file_findings, IsTyped}
use Rattle.gv_gotypes.specs.Laws.{IsRefused, AreDecided, AreTold}

abbrev Before : ℕ → Code → ℕ → Code → Type 0
Before = IsNotAfter code_number

-- the same of numbers
place_before : (m n i j : ℕ) → (nat_lt m n || m == n && nat_le i j) ≡ true → m ≤ n
place_before m n i j e = grind arith

number_before : (m n i j : ℕ) → (nat_lt m n || m == n && nat_le i j) ≡ true → m ≡ n → i ≤ j
number_before m n i j e q = grind arith

place_after : (m n i j : ℕ) → (nat_lt m n || m == n && nat_le i j) ≡ false → n ≤ m
place_after m n i j e = grind arith

number_after : (m n i j : ℕ) → (nat_lt m n || m == n && nat_le i j) ≡ false → n ≡ m → j ≤ i
number_after m n i j e q = grind arith

told_before : (m n : ℕ) (c d : Code) → is_told_before m c n d ≡ true → Before m c n d
told_before m n c d e = record {
  place = place_before m n (code_number c) (code_number d) e;
  number = λ q. number_before m n (code_number c) (code_number d) e q;
}

told_after : (m n : ℕ) (c d : Code) → is_told_before m c n d ≡ false → Before n d m c
told_after m n c d e = record {
  place = place_after m n (code_number c) (code_number d) e;
  number = λ q. number_after m n (code_number c) (code_number d) e q;
}

at_most : (a b c : ℕ) → a ≤ b → b ≤ c → a ≤ c
at_most a b c p q = omega arith

between : (a b c : ℕ) → a ≤ b → b ≤ c → a ≡ c → (a ≡ b) × (b ≡ c)
between a b c p q e = (omega arith, omega arith)

-- what is before something is before all that comes after it
not_after : (f g h : ℕ) (c d e : Code) → Before f c g d → Before g d h e → Before f c h e
not_after f g h c d e a b = record {
  place = at_most f g h a.place b.place;
  number = λ q. let same = between f g h a.place b.place q in at_most (code_number c) (code_number d) (code_number e) (a.number same.0) (b.number same.1);
}

-- ---- one fault more

-- what is told of these findings
abbrev Tells : List Finding → Option (ℕ × Code) → Type 0
Tells fs o = MatchOption o ((at : ℕ) (code : Code) → IsFound fs at code → ⊥) (λ p. IsFirst code_number (IsFound fs) p.0 p.1)

itself : (at other : ℕ) (code other_code : Code) → at ≡ other → code ≡ other_code → Before at code other other_code
itself at other code other_code p q = same at other code other_code p q

alone : (fs : List Finding) (at : ℕ) (code : Code) → ((m : ℕ) (c : Code) → IsFound fs m c → ⊥) → IsFirst code_number (IsFound (Fault at code ∷ fs)) at code
alone fs at code none = record {
  there = inl (refl, refl);
  others = λ m c h. ⊎_elim (λ (e : (at ≡ m) × (code ≡ c)). itself at m code c e.0 e.1) (λ w. absurd (none m c w)) h;
}

new_first : (fs : List Finding) (at : ℕ) (code : Code) (p : ℕ × Code) → IsFirst code_number (IsFound fs) p.0 p.1 → Before at code p.0 p.1
    → IsFirst code_number (IsFound (Fault at code ∷ fs)) at code
new_first fs at code p first b = record {
  there = inl (refl, refl);
  others = λ m c h. ⊎_elim (λ (e : (at ≡ m) × (code ≡ c)). itself at m code c e.0 e.1) (λ w. not_after at p.0 m code p.1 c b (first.others m c w)) h;
}

old_first : (fs : List Finding) (at : ℕ) (code : Code) (p : ℕ × Code) → IsFirst code_number (IsFound fs) p.0 p.1 → Before p.0 p.1 at code
    → IsFirst code_number (IsFound (Fault at code ∷ fs)) p.0 p.1
old_first fs at code p first b = record {
  there = inr first.there;
  others = λ m c h. ⊎_elim (λ (e : (at ≡ m) × (code ≡ c)). not_after p.0 at m p.1 code c b (itself at m code c e.0 e.1)) (λ w. first.others m c w) h;
}

of_two : (fs : List Finding) (at : ℕ) (code : Code) (p : ℕ × Code) (b : Bool) → is_told_before at code p.0 p.1 ≡ b
    → IsFirst code_number (IsFound fs) p.0 p.1 → Tells (Fault at code ∷ fs) (Some (if b then (at, code) else p))
of_two fs at code p true e first = new_first fs at code p first (told_before at p.0 code p.1 e)
of_two fs at code p false e first = old_first fs at code p first (told_after at p.0 code p.1 e)

one_more : (fs : List Finding) (at : ℕ) (code : Code) (o : Option (ℕ × Code)) → Tells fs o → Tells (Fault at code ∷ fs) (Some (first_with at code o))
one_more fs at code None h = alone fs at code h
one_more fs at code (Some p) h = of_two fs at code p (is_told_before at code p.0 p.1) refl h

pub tells : (fs : List Finding) → Tells fs (told fs)
tells [] = λ at code h. h
tells (Fault at code ∷ fs) = one_more fs at code (told fs) (tells fs)
tells (Outer at declared ∷ fs) = tells fs
tells (Assigned declared ∷ fs) = tells fs

-- ---- packages

pub all_told : AreTold
all_told s f = tells (file_findings s f)

either_way : (s : Source) (f : File) (o : Option (ℕ × Code)) → Tells (file_findings s f) o → IsTyped s f ⊎ IsRefused s f
either_way s f None h = inl h
either_way s f (Some p) h = inr (p.0, p.1, h)

pub all_decided : AreDecided
all_decided s f = record {
  one_of = either_way s f (told (file_findings s f)) (tells (file_findings s f));
  one_refusal = λ m n c d p q. one_first (IsFound (file_findings s f)) m n c d p q;
  not_both = λ h r. h r.0 r.1 r.2.there;
}
