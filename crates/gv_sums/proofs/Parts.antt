-- Premises of a linear certificate, one after another.
use Rattle.std.proofs.Common.{◌≡◌, inl, inr, ℕ, zero, suc, ◌+◌, ◌<◌, List, [], ◌∷◌, ◌++◌, map, length, drop, take, get_or, Bool, true, false, ◌||◌, Option, Some, None, refl, sym, ap, ◌∙◌, subst, arith}
use Rattle.std.proofs.lemmas.List.{append_assoc}
use Rattle.std.specs.Prelude.{Result, Ok, Err, IfOk, IfErr}
use Rattle.std.proofs.Math.IntN.{ℤ, pos}
use Rattle.std.proofs.lemmas.List.{drop_more, take_more, map-append}
use Rattle.std.proofs.lemmas.List.Elements.{All-nil, All-cons, All-append}
use Rattle.std.specs.List.{All}
use Rattle.gv_terms.specs.declared.term.Term.{Term}
use Rattle.gv_terms.specs.declared.tree.TermTree.{TermTree}
use Rattle.gv_terms.specs.Store.{tree_at, trees_at, AreIn, Grows}
use Rattle.gv_linear.specs.declared.answer.Linear.{Linear}
use Rattle.gv_linear.specs.declared.answer.Linear.TheVariants.{Yes}
use Rattle.gv_certs.specs.declared.cause.Cause.TheVariants as cause
use Rattle.gv_certs.specs.declared.fault.RuleFault.{RuleFault}
use Rattle.gv_certs.specs.declared.fault.RuleFault.TheVariants as fault
use Rattle.gv_terms.specs.declared.operator.Operator.TheVariants as op
use Rattle.gv_certs.specs.Trees.{over_two, parts_under, and_pass}
use Rattle.gv_certs.specs.Known.{is_known}
use Rattle.gv_certs.specs.Sums.{is_sum, Comparison, comparison_of, order_of, denied}
use Rattle.gv_certs.specs.Proving.{Premise, AllHold, FirstFails, row_premises, with_comparison, comparisons, all_rows, matrix, unknowns, are_narrow_sums, order_premises, sum_premises, factors, Sum, Answers, linear, Proves}
use Rattle.gv_linear.specs.declared.row.Row.{Row}
use Rattle.gv_linear.specs.Row.{IsInOrder}
use Rattle.gv_linear.specs.Answer.{IsAnswer}
use Rattle.gv_sums.proofs.Alike.{length_like, rows_in_order, answer_like}
use Rattle.gv_side.specs.Telling.{IsFault}
use Rattle.gv_side.proofs.Lists.{all_append, fault_in_front, fault_behind, trees_same}
use Rattle.gv_known.proofs.Nodes.{tree_kept}
use Rattle.gv_sums.specs.declared.factored.FactoredTerm.{FactoredTerm}
use Rattle.gv_sums.specs.declared.comparison.Compared.{Compared}
use Rattle.gv_sums.specs.Reading.{AreLike, rows_over, comparison_at, comparisons_at, IsWithin, row_at, formulas_in, sum_at, factors_of}
use Rattle.gv_sums.specs.Telling.{is_sum_of, row_asks, later_premises, IsShown, IsLaterFault, IsFaultOf, IsFailure}

abbrev pub none : Term
none = record { id = 0 }

abbrev pub no_row : FactoredTerm
no_row = record { factor = pos 0; formula = none }

abbrev make_sum : List TermTree → List (ℤ × TermTree) → Sum
make_sum sums rows = record { sums = sums; rows = rows }

-- ---- listed sums

abbrev pub sums_asked : List TermTree → List TermTree → List Term → List Premise
sums_asked facts st ts = map (is_sum_of facts) (trees_at st ts)

pub from_here : (facts st : List TermTree) (ts : List Term) (i : ℕ) → i < length ts → sums_asked facts st (drop i ts) ≡ is_sum_of facts (tree_at st (get_or ts i none).id) ∷ sums_asked facts st (drop (i + 1) ts)
from_here facts st ts i lt = ap (sums_asked facts st) (drop_more ts i none lt)

-- ---- rows

abbrev pub rows_asked : List TermTree → List TermTree → List FactoredTerm → List Premise
rows_asked facts st rs = row_premises facts (map (row_at st) rs)

pub row_here : (facts st : List TermTree) (rs : List FactoredTerm) (i : ℕ) → i < length rs
    → rows_asked facts st (drop i rs) ≡ row_asks facts (tree_at st (get_or rs i no_row).formula.id) ++ rows_asked facts st (drop (i + 1) rs)
row_here facts st rs i lt = ap (rows_asked facts st) (drop_more rs i no_row lt)

with_all : (o : Option Comparison) (x y z : List Comparison) → z ≡ x ++ y → with_comparison o z ≡ with_comparison o x ++ y
with_all None x y z e = e
with_all (Some c) x y z e = ap (λ cs. c ∷ cs) e

split : (x y : List (ℤ × TermTree)) → comparisons (x ++ y) ≡ comparisons x ++ comparisons y
split [] y = refl
split (r ∷ x) y = with_all (comparison_of r.1) (comparisons x) (comparisons y) (comparisons (x ++ y)) (split x y)

-- one comparison more
pub comparison_more : (st : List TermTree) (rs : List FactoredTerm) (i : ℕ) (cs ds : List Compared) (c : Compared) → i < length rs
    → comparison_of (tree_at st (get_or rs i no_row).formula.id) ≡ Some (comparison_at st c) → ds ≡ cs ++ c ∷ []
    → comparisons_at st cs ≡ comparisons (map (row_at st) (take i rs)) → comparisons_at st ds ≡ comparisons (map (row_at st) (take (i + 1) rs))
comparison_more st rs i cs ds c lt is e stand =
    let row = get_or rs i no_row in
    ap (comparisons_at st) e ∙ map-append (comparison_at st) cs (c ∷ [])
    ∙ ap (λ ds. ds ++ comparison_at st c ∷ []) stand
    ∙ sym (ap (λ qs. comparisons (map (row_at st) qs)) (take_more rs i no_row lt)
    ∙ ap comparisons (map-append (row_at st) (take i rs) (row ∷ []))
    ∙ split (map (row_at st) (take i rs)) (row_at st row ∷ [])
    ∙ ap (λ o. comparisons (map (row_at st) (take i rs)) ++ with_comparison o []) is)

pub row_within : (st : List TermTree) (rs : List FactoredTerm) (i : ℕ) → AreIn st (formulas_in rs) → i < length rs → (get_or rs i no_row).formula.id < length st
row_within st [] i within lt = absurd (omega arith)
row_within st (r ∷ rs) zero within lt = within 0 none (omega arith)
row_within st (r ∷ rs) (suc i) within lt = row_within st rs i (λ k d l. within (suc k) d (omega arith)) (omega arith)

pub all_within_more : (st : List TermTree) (cs ds : List Compared) (c : Compared) → All (IsWithin st) cs → IsWithin st c → ds ≡ cs ++ c ∷ [] → All (IsWithin st) ds
all_within_more st cs ds c within here e = subst (All (IsWithin st)) (sym e) (All-append (IsWithin st) cs (c ∷ []) within (All-cons (IsWithin st) c [] here (All-nil (IsWithin st))))

-- ---- what is asked once the sums are

module _ (facts : List TermTree) (f : TermTree) (s : Sum) where
  -- an error in a row
  pub in_rows : (e : RuleFault) → IsFault (row_premises facts s.rows) e → IsLaterFault facts f s e
  in_rows fault.NoMemory h = tt
  in_rows (fault.Cause k) h = inl (fault_in_front (row_premises facts s.rows) (order_premises s (order_of f)) (fault.Cause k) h)

  pub no_order : AllHold (row_premises facts s.rows) → order_of f ≡ None → IsLaterFault facts f s (fault.Cause cause.Mismatch)
  no_order rows e =
      inl (fault_behind (row_premises facts s.rows) (order_premises s (order_of f)) (fault.Cause cause.Mismatch) rows
      (subst (λ o. IsFault (order_premises s o) (fault.Cause cause.Mismatch)) (sym e) (inl (refl, refl))))

  module _ (c : Comparison) (rows : AllHold (row_premises facts s.rows)) (e : order_of f ≡ Some c) (narrow : are_narrow_sums s.sums (all_rows s c) ≡ true) where
    all_asked : AllHold (later_premises facts f s)
    all_asked = all_append (row_premises facts s.rows) (order_premises s (order_of f)) rows (subst (λ o. AllHold (order_premises s o)) (sym e) (narrow, tt))

    answers : (answer : Linear) → IsAnswer (matrix s.sums (all_rows s c)) (factors s) (length (unknowns s.sums (all_rows s c))) answer → Answers s (order_of f) answer
    answers answer is = subst (λ o. Answers s o answer) (sym e) is

    pub shown : {A : Type 0} (r : Result A RuleFault) (answer : Linear) → IsAnswer (matrix s.sums (all_rows s c)) (factors s) (length (unknowns s.sums (all_rows s c))) answer
        → IfOk r (λ _. answer ≡ Yes) → IfOk r (λ _. IsShown facts f s)
    shown (Err x) answer is h = tt
    shown (Ok a) answer is h = (all_asked, subst (Answers s (order_of f)) h (answers answer is))

    pub not_shown : {A : Type 0} (r : Result A RuleFault) (answer : Linear) → IsAnswer (matrix s.sums (all_rows s c)) (factors s) (length (unknowns s.sums (all_rows s c))) answer
        → IfErr r (IsFaultOf answer) → IfErr r (IsLaterFault facts f s)
    not_shown (Ok a) answer is h = tt
    not_shown (Err fault.NoMemory) answer is h = tt
    not_shown (Err (fault.Cause k)) answer is h = inr (all_asked, (answer, answers answer is, h))

  -- ---- all of it

  abbrev asked : List Premise
  asked = map (is_sum_of facts) s.sums

  together : sum_premises facts f s ≡ asked ++ later_premises facts f s
  together = append_assoc asked (row_premises facts s.rows) (order_premises s (order_of f))

  pub sums_first : (e : RuleFault) → IsFault asked e → IsFailure facts f (linear s) e
  sums_first fault.NoMemory h = tt
  sums_first (fault.Cause k) h = inl (subst (λ ps. FirstFails ps k) (sym together) (fault_in_front asked (later_premises facts f s) (fault.Cause k) h))

  pub all_shown : AllHold asked → IsShown facts f s → Proves facts f (linear s)
  all_shown sums h = (subst AllHold (sym together) (all_append asked (later_premises facts f s) sums h.0), h.1)

  pub later_first : AllHold asked → (e : RuleFault) → IsLaterFault facts f s e → IsFailure facts f (linear s) e
  later_first sums fault.NoMemory h = tt
  later_first sums (fault.Cause k) h = elim h [
    | inl early ↦ inl (subst (λ ps. FirstFails ps k) (sym together) (fault_behind asked (later_premises facts f s) (fault.Cause k) sums early))
    | inr late ↦ inr (subst AllHold (sym together) (all_append asked (later_premises facts f s) sums late.0), late.1)
  ]

-- ---- a sum or a difference

abbrev pub minus_test : List TermTree → TermTree → Bool
minus_test facts t = and_pass (parts_under op.Minus t) (λ a b. is_known facts (over_two op.AtMost b a))

pub second_test : (a b : Bool) → a ≡ false → b ≡ (a || b)
second_test a b e = ap (λ c. c || b) (sym e)

-- a premise of a grown store is that of the first one
pub sum_kept : (old new : List TermTree) (facts : List Term) (t : Term) → AreIn old facts → t.id < length old → Grows old new → is_sum (trees_at new facts) (tree_at new t.id) ≡ is_sum (trees_at old facts) (tree_at old t.id)
sum_kept old new facts t within lt grows =
    ap (λ fs. is_sum fs (tree_at new t.id)) (trees_same old new facts within grows) ∙ ap (is_sum (trees_at old facts)) (tree_kept old new t lt grows)

-- ---- rows in order

pub in_order_here : (rows rows' : List Row) (n m : ℕ) → AreLike m rows rows' → n ≡ m → All (IsInOrder n) rows
in_order_here rows rows' n m like e = subst (λ k. All (IsInOrder k) rows) (sym e) (rows_in_order m rows rows' like)

pub length_here : (st : List TermTree) (sums us : List Term) (cs : List Compared) (rows : List Row) (m : ℕ) → AreLike m rows (rows_over st sums us cs) → length rows ≡ length cs
length_here st sums us cs rows m like = length_like m rows (rows_over st sums us cs) like ∙ rows_length cs
  where
    rows_length : (ds : List Compared) → length (rows_over st sums us ds) ≡ length ds
    rows_length [] = refl
    rows_length (d ∷ ds) = ap suc (rows_length ds)

trees_length : (st : List TermTree) (ts : List Term) → length (trees_at st ts) ≡ length ts
trees_length st [] = refl
trees_length st (t ∷ ts) = ap suc (trees_length st ts)

pub count_is : (st us : List TermTree) (ts : List Term) (n : ℕ) → n ≡ length ts → trees_at st ts ≡ us → n ≡ length us
count_is st us ts n e f = e ∙ sym (trees_length st ts) ∙ ap length f

pub answer_here : (rows rows' rows'' : List Row) (factors factors' : List ℤ) (n m n' : ℕ) (answer : Linear) → AreLike m rows rows' → n ≡ m → rows' ≡ rows'' → factors ≡ factors' → n ≡ n'
    → IsAnswer rows factors n answer → IsAnswer rows'' factors' n' answer
answer_here rows rows' rows'' factors factors' n m n' answer like e is f g h =
    let here : IsAnswer rows' factors n answer = answer_like n rows rows' factors (subst (λ k. AreLike k rows rows') (sym e) like) answer h in
    subst (λ r. IsAnswer r factors' n' answer) is (subst (λ x. IsAnswer rows' x n' answer) f (subst (λ k. IsAnswer rows' factors k answer) g here))

pub factors_length : (rows : List FactoredTerm) → length (factors_of rows) ≡ length rows + 1
factors_length [] = omega arith
factors_length (r ∷ rows) = let rest = factors_length rows in omega (arith, rest)

-- the last comparison is the goal denied
pub with_denied : (st : List TermTree) (cs ds : List Compared) (rows : List FactoredTerm) (sums : List Term) (c : Compared) (o : Comparison) → comparisons_at st cs ≡ comparisons (map (row_at st) rows)
    → ds ≡ cs ++ c ∷ [] → comparison_at st c ≡ denied o → comparisons_at st ds ≡ all_rows (sum_at st sums rows) o
with_denied st cs ds rows sums c o told e is =
    ap (comparisons_at st) e ∙ map-append (comparison_at st) cs (c ∷ []) ∙ ap (λ xs. xs ++ comparison_at st c ∷ []) told ∙ ap (λ d. comparisons (map (row_at st) rows) ++ d ∷ []) is

factors_are : (st : List TermTree) (rows : List FactoredTerm) → map (λ r. r.factor) rows ≡ map (λ r. r.0) (map (row_at st) rows)
factors_are st [] = refl
factors_are st (r ∷ rows) = ap (λ zs. r.factor ∷ zs) (factors_are st rows)

-- the answer to the comparisons is that to the certificate
pub of_certificate : (st : List TermTree) (ds : List Compared) (rows : List FactoredTerm) (sums : List Term) (o : Comparison) (answer : Linear) → comparisons_at st ds ≡ all_rows (sum_at st sums rows) o
    → IsAnswer (matrix (trees_at st sums) (comparisons_at st ds)) (map (λ r. r.factor) rows ++ (pos 1 ∷ [])) (length (unknowns (trees_at st sums) (comparisons_at st ds))) answer
    → IsAnswer (matrix (trees_at st sums) (all_rows (sum_at st sums rows) o)) (factors (sum_at st sums rows)) (length (unknowns (trees_at st sums) (all_rows (sum_at st sums rows) o))) answer
of_certificate st ds rows sums o answer e h =
    subst (λ cs. IsAnswer (matrix (trees_at st sums) cs) (factors (sum_at st sums rows)) (length (unknowns (trees_at st sums) cs)) answer) e
    (subst (λ zs. IsAnswer (matrix (trees_at st sums) (comparisons_at st ds)) (zs ++ (pos 1 ∷ [])) (length (unknowns (trees_at st sums) (comparisons_at st ds))) answer) (factors_are st rows) h)

pub narrow_of : (st : List TermTree) (ds : List Compared) (rows : List FactoredTerm) (sums : List Term) (o : Comparison) → comparisons_at st ds ≡ all_rows (sum_at st sums rows) o
    → are_narrow_sums (trees_at st sums) (comparisons_at st ds) ≡ true → are_narrow_sums (trees_at st sums) (all_rows (sum_at st sums rows) o) ≡ true
narrow_of st ds rows sums o e h = subst (λ cs. are_narrow_sums (trees_at st sums) cs ≡ true) e h

-- ---- a store that grows

pub rows_kept : (old new : List TermTree) (rs : List FactoredTerm) → AreIn old (formulas_in rs) → Grows old new → map (row_at new) rs ≡ map (row_at old) rs
rows_kept old new [] within grows = refl
rows_kept old new (r ∷ rs) within grows =
    ap (λ t. (r.factor, t) ∷ map (row_at new) rs) (tree_kept old new r.formula (within 0 none (omega arith)) grows)
    ∙ ap (λ xs. row_at old r ∷ xs) (rows_kept old new rs (λ k d lt. within (suc k) d (omega arith)) grows)

pub sum_at_kept : (old new : List TermTree) (sums : List Term) (rs : List FactoredTerm) → AreIn old sums → AreIn old (formulas_in rs) → Grows old new → sum_at new sums rs ≡ sum_at old sums rs
sum_at_kept old new sums rs within inside grows =
    ap (λ ts. make_sum ts (map (row_at new) rs)) (trees_same old new sums within grows) ∙ ap (make_sum (trees_at old sums)) (rows_kept old new rs inside grows)

pub shown_kept : (F G : List TermTree) (f g : TermTree) (s t : Sum) → G ≡ F → g ≡ f → t ≡ s → IsShown G g t → IsShown F f s
shown_kept F G f g s t a b c h = subst (IsShown F f) c (subst (λ x. IsShown F x t) b (subst (λ E. IsShown E g t) a h))

pub fault_kept : (F G : List TermTree) (f g : TermTree) (s t : Sum) (e : RuleFault) → G ≡ F → g ≡ f → t ≡ s → IsLaterFault G g t e → IsLaterFault F f s e
fault_kept F G f g s t e a b c h = subst (λ x. IsLaterFault F f x e) c (subst (λ x. IsLaterFault F x t e) b (subst (λ E. IsLaterFault E g t e) a h))
