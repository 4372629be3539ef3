-- The fault that is told of two lists is the earlier one of those that are told of each.
use Rattle.std.proofs.Common.{◌≡◌, ℕ, ◌≤◌, ◌<◌, Bool, true, false, ◌&&◌, ◌||◌, List, [], ◌∷◌, ◌++◌, Option, Some, None, refl, sym, ap, ◌∙◌, arith}
use Rattle.std.specs.Prelude.{if◌then◌else◌, nat_lt, nat_le, ◌==◌, option_map}
use Rattle.gv_base.specs.Codes.{code_number}
use Rattle.gv_base.specs.declared.answers.Code.{Code}
use Rattle.gv_gotypes.specs.Types.{Finding, Fault as FaultAt, Outer, Assigned}
use Rattle.gv_gotypes.specs.Told.{is_told_before, first_with, told}
use Rattle.gv_gotyped.specs.declared.fault.Fault.{Fault}
use Rattle.gv_gotyped.specs.First.{fault_of, first_of, earlier, earliest}

abbrev before : Fault → Fault → Bool
before f g = is_told_before f.start f.code g.start g.code

-- what a test of two places and two numbers says
place_before : (m n i j : ℕ) → (nat_lt m n || m == n && nat_le i j) ≡ true → m ≤ n
place_before m n i j e = grind arith

number_before : (m n i j : ℕ) → (nat_lt m n || m == n && nat_le i j) ≡ true → m ≡ n → i ≤ j
number_before m n i j e q = grind arith

place_after : (m n i j : ℕ) → (nat_lt m n || m == n && nat_le i j) ≡ false → n ≤ m
place_after m n i j e = grind arith

number_after : (m n i j : ℕ) → (nat_lt m n || m == n && nat_le i j) ≡ false → n ≡ m → j < i
number_after m n i j e q = grind arith

all_one : (a b c : ℕ) → a ≤ b → b ≤ c → c ≤ a → (a ≡ b) × (b ≡ c) × (c ≡ a)
all_one a b c p q r = (omega arith, omega arith, omega arith)

round_up : (i j k : ℕ) → i ≤ j → j ≤ k → k < i → ⊥
round_up i j k p q r = omega arith

round_down : (i j k : ℕ) → j < i → k < j → i ≤ k → ⊥
round_down i j k p q r = omega arith

-- the test of the first and the third by those of the first two and of the last two
through_by : (a b c i j k : ℕ) (r : Bool) → (nat_lt a c || a == c && nat_le i k) ≡ r
    → (nat_lt a b || a == b && nat_le i j) ≡ true → (nat_lt b c || b == c && nat_le j k) ≡ true → r ≡ true
through_by a b c i j k true e p q = refl
through_by a b c i j k false e p q =
    let same = all_one a b c (place_before a b i j p) (place_before b c j k q) (place_after a c i k e) in
    absurd (round_up i j k (number_before a b i j p same.0) (number_before b c j k q same.1) (number_after a c i k e same.2))

through : (a b c i j k : ℕ) → (nat_lt a b || a == b && nat_le i j) ≡ true → (nat_lt b c || b == c && nat_le j k) ≡ true → (nat_lt a c || a == c && nat_le i k) ≡ true
through a b c i j k p q = through_by a b c i j k (nat_lt a c || a == c && nat_le i k) refl p q

back_by : (a b c i j k : ℕ) (r : Bool) → (nat_lt a c || a == c && nat_le i k) ≡ r
    → (nat_lt a b || a == b && nat_le i j) ≡ false → (nat_lt b c || b == c && nat_le j k) ≡ false → r ≡ false
back_by a b c i j k false e p q = refl
back_by a b c i j k true e p q =
    let same = all_one c b a (place_after b c j k q) (place_after a b i j p) (place_before a c i k e) in
    absurd (round_down i j k (number_after a b i j p same.1) (number_after b c j k q same.0) (number_before a c i k e same.2))

back : (a b c i j k : ℕ) → (nat_lt a b || a == b && nat_le i j) ≡ false → (nat_lt b c || b == c && nat_le j k) ≡ false → (nat_lt a c || a == c && nat_le i k) ≡ false
back a b c i j k p q = back_by a b c i j k (nat_lt a c || a == c && nat_le i k) refl p q

left : (f g : Fault) → before f g ≡ true → earlier f g ≡ f
left f g e = ap (λ (b : Bool). if b then f else g) e

right : (f g : Fault) → before f g ≡ false → earlier f g ≡ g
right f g e = ap (λ (b : Bool). if b then f else g) e

-- the earlier one of three
of_three : (f g h : Fault) (p q : Bool) → before f g ≡ p → before g h ≡ q → earlier (earlier f g) h ≡ earlier f (earlier g h)
of_three f g h true true d e =
    ap (λ (x : Fault). earlier x h) (left f g d)
    ∙ left f h (through f.start g.start h.start (code_number f.code) (code_number g.code) (code_number h.code) d e)
    ∙ sym (ap (λ (x : Fault). earlier f x) (left g h e) ∙ left f g d)
of_three f g h true false d e = ap (λ (x : Fault). earlier x h) (left f g d) ∙ sym (ap (λ (x : Fault). earlier f x) (right g h e))
of_three f g h false true d e =
    ap (λ (x : Fault). earlier x h) (right f g d) ∙ left g h e ∙ sym (ap (λ (x : Fault). earlier f x) (left g h e) ∙ right f g d)
of_three f g h false false d e =
    ap (λ (x : Fault). earlier x h) (right f g d) ∙ right g h e
    ∙ sym (ap (λ (x : Fault). earlier f x) (right g h e)
    ∙ right f h (back f.start g.start h.start (code_number f.code) (code_number g.code) (code_number h.code) d e))

pub earliest_of_three : (a b c : Option Fault) → earliest (earliest a b) c ≡ earliest a (earliest b c)
earliest_of_three None b c = refl
earliest_of_three (Some f) None None = refl
earliest_of_three (Some f) None (Some h) = refl
earliest_of_three (Some f) (Some g) None = refl
earliest_of_three (Some f) (Some g) (Some h) = ap (λ (x : Fault). Some x) (of_three f g h (before f g) (before g h) refl refl)

one_of : (b : Bool) (at : ℕ) (code : Code) (p : ℕ × Code)
    → fault_of (if b then (at, code) else p) ≡ (if b then fault_of (at, code) else fault_of p)
one_of true at code p = refl
one_of false at code p = refl

behind_it : (at : ℕ) (code : Code) (o : Option (ℕ × Code)) → Some (fault_of (first_with at code o)) ≡ earliest (Some (fault_of (at, code))) (option_map fault_of o)
behind_it at code None = refl
behind_it at code (Some p) = ap (λ (x : Fault). Some x) (one_of (is_told_before at code p.0 p.1) at code p)

pub first_more : (at : ℕ) (code : Code) (fs : List Finding) → first_of (FaultAt at code ∷ fs) ≡ earliest (Some (fault_of (at, code))) (first_of fs)
first_more at code fs = behind_it at code (told fs)

pub first_both : (fs gs : List Finding) → first_of (fs ++ gs) ≡ earliest (first_of fs) (first_of gs)
first_both [] gs = refl
first_both (FaultAt at code ∷ fs) gs =
    first_more at code (fs ++ gs)
    ∙ ap (λ (x : Option Fault). earliest (Some (fault_of (at, code))) x) (first_both fs gs)
    ∙ sym (earliest_of_three (Some (fault_of (at, code))) (first_of fs) (first_of gs))
    ∙ ap (λ (x : Option Fault). earliest x (first_of gs)) (sym (first_more at code fs))
first_both (Outer at declared ∷ fs) gs = first_both fs gs
first_both (Assigned declared ∷ fs) gs = first_both fs gs

pub earliest_none : (a : Option Fault) → earliest a None ≡ a
earliest_none None = refl
earliest_none (Some f) = refl

pub first_of_two : (fs gs : List Finding) (a b : Option Fault) → a ≡ first_of fs → b ≡ first_of gs → earliest a b ≡ first_of (fs ++ gs)
first_of_two fs gs a b d e =
    ap (λ (x : Option Fault). earliest x b) d ∙ ap (λ (x : Option Fault). earliest (first_of fs) x) e ∙ sym (first_both fs gs)

pub first_of_lists : (fs gs hs : List Finding) (a b c x : Option Fault) → a ≡ first_of fs → b ≡ first_of gs → c ≡ first_of hs → x ≡ earliest b c
    → earliest a x ≡ first_of (fs ++ (gs ++ hs))
first_of_lists fs gs hs a b c x d e f g = first_of_two fs (gs ++ hs) a x d (g ∙ first_of_two gs hs b c e f)
