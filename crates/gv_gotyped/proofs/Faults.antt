-- What is found of parts where they stand are faults.
use Rattle.std.proofs.Common.{◌≡◌, ℕ, Bool, true, false, ◌&&◌, ◌==◌, List, [], ◌∷◌, ◌++◌, Option, Some, None, refl, sym, ap, ◌∙◌}
use Rattle.std.specs.Prelude.{if◌then◌else◌, nat_lt}
use Rattle.gv_base.specs.declared.answers.Code.{Code}
use Rattle.gv_base.specs.declared.answers.Code.TheVariants as code
use Rattle.gv_gosyntax.specs.declared.generated.gosyntax_table.TheConstants.{CLASS_UINT64}
use Rattle.gv_operands.specs.declared.types.GoType.{GoType}
use Rattle.gv_operands.specs.declared.types.GoType.TheVariants.{Word, Byte, Boolean}
use Rattle.gv_operands.specs.declared.types.Value.{Value}
use Rattle.gv_operands.specs.declared.types.Value.TheVariants.{Count}
use Rattle.gv_operands.specs.declared.types.Kind.TheVariants.{Untyped, OfWord, OfByte, OfBool}
use Rattle.gv_operands.specs.declared.types.Class.{Class}
use Rattle.gv_operands.specs.declared.types.Class.TheVariants.{Run, Fixed, Shifted, Nil, Length}
use Rattle.gv_operands.specs.Types.{has_nil}
use Rattle.gv_operands.specs.declared.part.Spot.{Spot}
use Rattle.gv_operands.specs.declared.part.Part.{Part}
use Rattle.gv_gotypes.specs.Types.{Finding, Fault as FaultAt, Outer, Assigned, unless}
use Rattle.gv_gotypes.specs.Places.{refusal, part_refusal, refusals, unlike, misfit}
use Rattle.gv_gotypes.specs.Expressions.{too_large_beside, zero_divisor, too_large_compared, binary_refusals, convert_refusals, is_comparing, is_dividing}
use Rattle.gv_gotyped.specs.declared.fault.Fault.{Fault}
use Rattle.gv_gotyped.specs.First.{first_of, earliest, AreFaults}
use Rattle.gv_gotyped.proofs.Firsts.{first_both, earliest_none}

pub both_faults : (fs gs : List Finding) → AreFaults fs → AreFaults gs → AreFaults (fs ++ gs)
both_faults [] gs p q = q
both_faults (FaultAt at c ∷ fs) gs p q = both_faults fs gs p q
both_faults (Outer at declared ∷ fs) gs p q = absurd p
both_faults (Assigned declared ∷ fs) gs p q = absurd p

faults_if : (b : Bool) (at : ℕ) (c : Code) → AreFaults (if b then FaultAt at c ∷ [] else [])
faults_if true at c = tt
faults_if false at c = tt

faults_unless : (b : Bool) (at : ℕ) (c : Code) → AreFaults (if b then [] else FaultAt at c ∷ [])
faults_unless true at c = tt
faults_unless false at c = tt

pub faults_of : (e : Spot) (c : Class) → AreFaults (refusal e c)
faults_of e (Run t) = tt
faults_of e (Fixed k None) = tt
faults_of e (Fixed k (Some v)) = tt
faults_of e Shifted = tt
faults_of e Nil = tt
faults_of e Length = tt

pub faults_of_part : (s : Spot) (c : Option Class) → AreFaults (part_refusal (record { spot = s; class = c }))
faults_of_part s None = tt
faults_of_part s (Some c) = faults_of s c

pub faults_of_parts : (ps : List Part) → AreFaults (refusals ps)
faults_of_parts [] = tt
faults_of_parts (p ∷ ps) = both_faults (part_refusal p) (refusals ps) (faults_of_part p.spot p.class) (faults_of_parts ps)

beside : (c : Class) (e : Spot) (d : Class) → AreFaults (too_large_beside c e d)
beside (Run Byte) e (Fixed Untyped (Some (Count n))) = faults_unless (nat_lt n 256) e.start code.ConstTooLarge
beside c e d = tt

zero : (sign : ℕ) (e : Spot) (d : Class) → AreFaults (zero_divisor sign e d)
zero sign e (Fixed k (Some (Count n))) = faults_if (is_dividing sign && n == 0) e.start code.ConstTooLarge
zero sign e d = tt

compared : (b : Bool) (x y : Spot) (c d : Class) → AreFaults (if b then too_large_beside c y d ++ too_large_beside d x c else [])
compared true x y c d = both_faults (too_large_beside c y d) (too_large_beside d x c) (beside c y d) (beside d x c)
compared false x y c d = tt

pub faults_of_binary : (sign : ℕ) (x y : Spot) (c d : Class) → AreFaults (binary_refusals sign x y c d)
faults_of_binary sign x y c d =
    both_faults (refusals (record { spot = x; class = Some c } ∷ record { spot = y; class = Some d } ∷ [])) (too_large_compared sign x y c d ++ zero_divisor sign y d)
    (faults_of_parts (record { spot = x; class = Some c } ∷ record { spot = y; class = Some d } ∷ []))
    (both_faults (too_large_compared sign x y c d) (zero_divisor sign y d) (compared (is_comparing sign) x y c d) (zero sign y d))

unless_word : (b : Bool) (e : Spot) → AreFaults (if b then [] else refusals (record { spot = e; class = Some Length } ∷ []))
unless_word true e = tt
unless_word false e = tt

pub faults_of_convert : (word : ℕ) (e : Spot) (c : Class) → AreFaults (convert_refusals word e c)
faults_of_convert word e Length = unless_word (word == CLASS_UINT64) e
faults_of_convert word e (Run t) = tt
faults_of_convert word e (Fixed k v) = faults_of_parts (record { spot = e; class = Some (Fixed k v) } ∷ [])
faults_of_convert word e Shifted = tt
faults_of_convert word e Nil = tt

-- ---- what is told of them

pub first_of_one : (p : Part) → first_of (refusals (p ∷ [])) ≡ first_of (part_refusal p)
first_of_one p = first_both (part_refusal p) [] ∙ earliest_none (first_of (part_refusal p))

pub first_of_pair : (p q : Part) → first_of (refusals (p ∷ q ∷ [])) ≡ earliest (first_of (part_refusal p)) (first_of (part_refusal q))
first_of_pair p q =
    first_both (part_refusal p) (refusals (q ∷ [])) ∙ ap (λ (x : Option Fault). earliest (first_of (part_refusal p)) x) (first_of_one q)

pub first_of_places : (x y : Spot) (c d : Class) (a b : Option Fault) → a ≡ first_of (refusal x c) → b ≡ first_of (refusal y d)
    → earliest a b ≡ first_of (refusals (record { spot = x; class = Some c } ∷ record { spot = y; class = Some d } ∷ []))
first_of_places x y c d a b e f =
    ap (λ (z : Option Fault). earliest z b) e ∙ ap (λ (z : Option Fault). earliest (first_of (refusal x c)) z) f
    ∙ sym (first_of_pair (record { spot = x; class = Some c }) (record { spot = y; class = Some d }))

-- ---- what an operand has against a type, whatever type that is

pub run_misfit : (e : Spot) (t u : GoType) → first_of (unlike e t (Some u)) ≡ first_of (misfit e t (Run u))
run_misfit e Word u = refl
run_misfit e Byte u = refl
run_misfit e t u = refl

pub nil_misfit : (e : Spot) (t : GoType) → first_of (unless (has_nil t) e.start code.WrongType) ≡ first_of (misfit e t Nil)
nil_misfit e Word = refl
nil_misfit e Byte = refl
nil_misfit e t = refl

pub length_misfit : (e : Spot) (t : GoType) → first_of (unlike e t None) ≡ first_of (misfit e t Length)
length_misfit e Word = refl
length_misfit e Byte = refl
length_misfit e t = refl

pub word_misfit : (e : Spot) (t : GoType) (v : Option Value) → first_of (unlike e t (Some Word)) ≡ first_of (misfit e t (Fixed OfWord v))
word_misfit e Word v = refl
word_misfit e Byte v = refl
word_misfit e t v = refl

pub byte_misfit : (e : Spot) (t : GoType) (v : Option Value) → first_of (unlike e t (Some Byte)) ≡ first_of (misfit e t (Fixed OfByte v))
byte_misfit e Word v = refl
byte_misfit e Byte v = refl
byte_misfit e t v = refl

pub truth_misfit : (e : Spot) (t : GoType) (v : Option Value) → first_of (unlike e t (Some Boolean)) ≡ first_of (misfit e t (Fixed OfBool v))
truth_misfit e Word v = refl
truth_misfit e Byte v = refl
truth_misfit e t v = refl
