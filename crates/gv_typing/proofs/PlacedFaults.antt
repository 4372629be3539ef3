-- The faults of a term with their places, and the first of them.
use Rattle.std.proofs.Common.{◌≡◌, ℕ, zero, suc, true, ◌+◌, ◌<◌, ◌≤◌, ◌⊎◌, inl, inr, ⊎_elim, List, [], ◌∷◌, ◌++◌, Option, Some, None, map, take, length, get_or, refl, sym, ap, ◌∙◌, subst, arith, rules, MatchOption, Result, Ok, Err, IfOk, IfErr, IsSome, length-append}
use Rattle.std.specs.Prelude.{slice_get}
use Rattle.std.proofs.Math.Seq.{take-length}
use Rattle.gv_base.specs.Codes.{code_number}
use Rattle.gv_base.specs.declared.answers.Code.{Code}
use Rattle.gv_base.specs.declared.answers.Code.TheVariants as code
use Rattle.gv_terms.specs.declared.var.Var.{Var}
use Rattle.gv_terms.specs.declared.operator.Operator.{Operator}
use Rattle.gv_terms.specs.declared.tree.TermTree.{TermTree}
use Rattle.gv_terms.specs.declared.tree.TermTree.TheVariants as tree
use Rattle.gv_terms.specs.declared.tree.RawTerm.{RawTerm, the_lemmas, out-RawTerm}
use Rattle.gv_terms.specs.declared.tree.RawTerm.TheVariants as raw
use Rattle.gv_terms.specs.declared.tree.RawTerm.TheOpen.{Variable, Apply}
use Rattle.gv_terms.specs.Trees.{sort_of}
use Rattle.gv_terms.specs.Scopes.{sort_under, is_closed}
use Rattle.gv_terms.specs.Resolving.{all_there, resolved, HasFault, undeclared, wrong_type, of_part}
use Rattle.gv_terms.specs.declared.term.Term.{Term}
use Rattle.gv_terms.specs.Store.{tree_at, trees_at, AreIn, Grows}
use Rattle.gv_terms.proofs.RawTrees.{missing, all_some, sorted_node, resolved_fit}
use Rattle.gv_terms.proofs.RawParts.{good_part}
use Rattle.gv_terms.proofs.RawFaults.{unresolved, faultless}
use Rattle.gv_text.specs.Answers.{IsNotAfter, IsFirst}
use Rattle.gv_termread.specs.declared.placed.Places.{Places}
use Rattle.gv_typing.specs.declared.term_fault.Fault.{Fault}
use Rattle.gv_typing.specs.declared.term_fault.TermFault.{TermFault}
use Rattle.gv_typing.specs.declared.term_fault.TermFault.TheVariants as answer
use Rattle.gv_typing.specs.Placing.{start_of, place_below, start_at, HasPlacedFault, IsFirstWith, IsCause, IsUnknown, IsUnsorted}

-- Terms.

open_variable : (n : List ℕ) → out-RawTerm (raw.Variable n) ≡ Variable n
open_variable n = search (rules, the_lemmas)

open_apply : (o : Operator) (parts : List RawTerm) → out-RawTerm (raw.Apply o parts) ≡ Apply o parts
open_apply o parts = search (rules, the_lemmas)

apart : (n : List ℕ) (o : Operator) (parts : List RawTerm) → raw.Variable n ≡ raw.Apply o parts → ⊥
apart n o parts e = let f = sym (open_variable n) ∙ ap out-RawTerm e ∙ open_apply o parts in absurd cc

same_apply : (o p : Operator) (ps qs : List RawTerm) → raw.Apply o ps ≡ raw.Apply p qs → (o ≡ p) × (ps ≡ qs)
same_apply o p ps qs e = let f = sym (open_apply o ps) ∙ ap out-RawTerm e ∙ open_apply p qs in (cc, cc)

get_within : {X : Type 0} (xs : List X) (i : ℕ) (x : X) → slice_get xs i ≡ Some x → i < length xs
get_within [] i x e = absurd cc
get_within (y ∷ xs) zero x e = omega arith
get_within (y ∷ xs) (suc i) x e = let l = get_within xs i x e in omega (arith, l)

-- What a fault is of.

record OwnFault (vars : List Var) (o : Operator) (parts : List RawTerm) (p : Places) (at : ℕ) (c : Code) : Type 0 where
  trees : List TermTree
  stand : map (resolved vars) parts ≡ map Some trees
  none : sort_of (tree.Apply o trees) ≡ None
  place : start_of p ≡ at
  kind : code.WrongType ≡ c

-- a fault of one of the first so many parts
pub record PartFault (vars : List Var) (p : Places) (parts : List RawTerm) (k at : ℕ) (c : Code) : Type 0 where
  pub number : ℕ
  pub part : RawTerm
  pub first : number < k
  pub got : slice_get parts number ≡ Some part
  pub fault : HasPlacedFault vars part (place_below p number) at c

variable_fault : (vars : List Var) (n : List ℕ) (p : Places) {t : RawTerm} {path : List ℕ} {c : Code} → HasFault vars t path c → t ≡ raw.Variable n → (start_at p path ≡ start_of p) × (c ≡ code.Undeclared)
variable_fault vars n p (undeclared m e) is = (refl, refl)
variable_fault vars n p (wrong_type o parts ts e w) is = absurd (apart n o parts (sym is))
variable_fault vars n p (of_part o parts i part at h) is = absurd (apart n o parts (sym is))

apply_fault : (vars : List Var) (o : Operator) (parts : List RawTerm) (p : Places) (at : ℕ) {t : RawTerm} {path : List ℕ} {c : Code} → HasFault vars t path c → t ≡ raw.Apply o parts → start_at p path ≡ at
    → OwnFault vars o parts p at c ⊎ PartFault vars p parts (length parts) at c
apply_fault vars o parts p at (undeclared m e) is q = absurd (apart m o parts is)
apply_fault vars o parts p at (wrong_type r ps ts e w) is q =
    let same = same_apply r o ps parts is in
    inl (record {
      trees = ts;
      stand = ap (map (resolved vars)) (sym same.1) ∙ e;
      none = ap (λ s. sort_of (tree.Apply s ts)) (sym same.0) ∙ w;
      place = q;
      kind = refl;
    })
apply_fault vars o parts p at (of_part r ps i part {path} {c} got h) is q =
    let here : slice_get parts i ≡ Some part = ap (λ qs. slice_get qs i) (sym (same_apply r o ps parts is).1) ∙ got in
    inr (record {
      number = i;
      part = part;
      first = get_within parts i part here;
      got = here;
      fault = record { path = path; there = h; place = q };
    })

placed_faultless : (vars : List Var) (t : RawTerm) (u : TermTree) (p : Places) (at : ℕ) (c : Code) → resolved vars t ≡ Some u → HasPlacedFault vars t p at c → ⊥
placed_faultless vars t u p at c e h = faultless vars t u e h.path c h.there

parts_faultless : (vars : List Var) (p : Places) (parts : List RawTerm) (ts : List TermTree) (at : ℕ) (c : Code) → map (resolved vars) parts ≡ map Some ts → (k : ℕ) → PartFault vars p parts k at c → ⊥
parts_faultless vars p parts ts at c e k h =
    let none : all_there (map (resolved vars) parts) ≡ None = missing vars parts h.number h.part h.got (unresolved vars h.fault.there) in
    let some : all_there (map (resolved vars) parts) ≡ Some ts = ap all_there e ∙ all_some ts in
    absurd cc

get_taken : {X : Type 0} (xs : List X) (k i : ℕ) (x : X) → i < k → slice_get xs i ≡ Some x → slice_get (take k xs) i ≡ Some x
get_taken [] k i x l e = absurd cc
get_taken (y ∷ xs) zero i x l e = absurd (omega (arith, l))
get_taken (y ∷ xs) (suc k) zero x l e = e
get_taken (y ∷ xs) (suc k) (suc i) x l e = get_taken xs k i x (omega (arith, l)) e

-- the same of the first parts
first_faultless : (vars : List Var) (p : Places) (parts : List RawTerm) (k : ℕ) (ts : List TermTree) (at : ℕ) (c : Code) → map (resolved vars) (take k parts) ≡ map Some ts → PartFault vars p parts k at c → ⊥
first_faultless vars p parts k ts at c e h =
    parts_faultless vars p (take k parts) ts at c e k (record { number = h.number; part = h.part; first = h.first; got = get_taken parts k h.number h.part h.first h.got; fault = h.fault })

-- Places and numbers.

abbrev Before : ℕ → Code → ℕ → Code → Type 0
Before = IsNotAfter code_number

same_le : (m : ℕ) → m ≤ m
same_le m = omega arith

le_le : (l m n : ℕ) → l ≤ m → m ≤ n → l ≤ n
le_le l m n p q = omega arith

between : (l m n : ℕ) → l ≤ m → m ≤ n → l ≡ n → (l ≡ m) × (m ≡ n)
between l m n p q e = (omega arith, omega arith)

pub itself : (at : ℕ) (c : Code) → IsNotAfter code_number at c at c
itself at c = record { place = same_le at; number = λ e. same_le (code_number c) }

not_after : (f g h : ℕ) (c d e : Code) → Before f c g d → Before g d h e → Before f c h e
not_after f g h c d e a b = record {
  place = le_le f g h a.place b.place;
  number = λ q. let same = between f g h a.place b.place q in le_le (code_number c) (code_number d) (code_number e) (a.number same.0) (b.number same.1);
}

-- The first fault.

pub first_unknown : (vars : List Var) (n : List ℕ) (p : Places) → sort_under vars n ≡ None → IsFirst code_number (HasPlacedFault vars (raw.Variable n) p) (start_of p) code.Undeclared
first_unknown vars n p e = record {
  there = record { path = []; there = undeclared n e; place = refl };
  others = λ at c h.
      let q = variable_fault vars n p h.there refl in
      subst (λ (m : ℕ). Before (start_of p) code.Undeclared m c) (sym q.0 ∙ h.place)
      (subst (λ (d : Code). Before (start_of p) code.Undeclared (start_of p) d) (sym q.1) (itself (start_of p) code.Undeclared));
}

pub first_own : (vars : List Var) (o : Operator) (parts : List RawTerm) (p : Places) (ts : List TermTree) → map (resolved vars) parts ≡ map Some ts → sort_of (tree.Apply o ts) ≡ None
    → IsFirst code_number (HasPlacedFault vars (raw.Apply o parts) p) (start_of p) code.WrongType
first_own vars o parts p ts e w = record {
  there = record { path = []; there = wrong_type o parts ts e w; place = refl };
  others = λ at c h. ⊎_elim
      (λ (own : OwnFault vars o parts p at c).
      subst (λ (m : ℕ). Before (start_of p) code.WrongType m c) own.place
      (subst (λ (d : Code). Before (start_of p) code.WrongType (start_of p) d) own.kind (itself (start_of p) code.WrongType)))
      (λ (of : PartFault vars p parts (length parts) at c). absurd (parts_faultless vars p parts ts at c e (length parts) of))
      (apply_fault vars o parts p at h.there refl h.place);
}

pub first_of_parts : (vars : List Var) (o : Operator) (parts : List RawTerm) (p : Places) (at : ℕ) (c : Code) → IsFirst code_number (PartFault vars p parts (length parts)) at c
    → IsFirst code_number (HasPlacedFault vars (raw.Apply o parts) p) at c
first_of_parts vars o parts p at c first =
    let f = first.there in
    record {
      there = record { path = f.number ∷ f.fault.path; there = of_part o parts f.number f.part f.got f.fault.there; place = f.fault.place };
      others = λ at' d h. ⊎_elim
          (λ (own : OwnFault vars o parts p at' d). absurd (parts_faultless vars p parts own.trees at c own.stand (length parts) f))
          (λ (of : PartFault vars p parts (length parts) at' d). first.others at' d of)
          (apply_fault vars o parts p at' h.there refl h.place);
    }

-- How far the parts are read.

-- the first parts stand for these trees, or this is the first of their faults
abbrev pub Stand : List Var → Places → List RawTerm → ℕ → Option Fault → List TermTree → Type 0
Stand vars p parts k first ts = MatchOption first (map (resolved vars) (take k parts) ≡ map Some ts) (λ f. IsFirst code_number (PartFault vars p parts k) f.start f.code)

-- a fault of one part more is one of the first, or of the last
more_part : (vars : List Var) (p : Places) (parts : List RawTerm) (k : ℕ) (part : RawTerm) (at : ℕ) (c : Code) → slice_get parts k ≡ Some part → PartFault vars p parts (k + 1) at c
    → PartFault vars p parts k at c ⊎ HasPlacedFault vars part (place_below p k) at c
more_part vars p parts k part at c got h = ⊎_elim (λ (l : h.number < k). inl (record { number = h.number; part = h.part; first = l; got = h.got; fault = h.fault })) last (below h.number k h.first)
  where
    below : (i n : ℕ) → i < n + 1 → (i < n) ⊎ (i ≡ n)
    below zero zero l = inr refl
    below zero (suc n) l = inl (omega arith)
    below (suc i) zero l = absurd (omega (arith, l))
    below (suc i) (suc n) l = ⊎_elim (λ a. inl (omega (arith, a))) (λ e. inr (ap suc e)) (below i n (omega (arith, l)))

    last : h.number ≡ k → PartFault vars p parts k at c ⊎ HasPlacedFault vars part (place_below p k) at c
    last e =
        let here : slice_get parts k ≡ Some h.part = ap (slice_get parts) (sym e) ∙ h.got in
        let same : h.part ≡ part = cc in
        inr (subst (λ (t : RawTerm). HasPlacedFault vars t (place_below p k) at c) same (subst (λ (i : ℕ). HasPlacedFault vars h.part (place_below p i) at c) e h.fault))

still_part : (vars : List Var) (p : Places) (parts : List RawTerm) (k : ℕ) (at : ℕ) (c : Code) → PartFault vars p parts k at c → PartFault vars p parts (k + 1) at c
still_part vars p parts k at c h = record { number = h.number; part = h.part; first = let l = h.first in omega (arith, l); got = h.got; fault = h.fault }

last_part : (vars : List Var) (p : Places) (parts : List RawTerm) (k : ℕ) (part : RawTerm) (at : ℕ) (c : Code) → slice_get parts k ≡ Some part → HasPlacedFault vars part (place_below p k) at c → PartFault vars p parts (k + 1) at c
last_part vars p parts k part at c got h = record { number = k; part = part; first = omega arith; got = got; fault = h }

-- one part more that has no fault, where one before it has
pub more_good : (vars : List Var) (p : Places) (parts : List RawTerm) (k : ℕ) (part : RawTerm) (f : Fault) (t : TermTree) → slice_get parts k ≡ Some part → IsFirst code_number (PartFault vars p parts k) f.start f.code
    → resolved vars part ≡ Some t → IsFirst code_number (PartFault vars p parts (k + 1)) f.start f.code
more_good vars p parts k part f t got first good = record {
  there = still_part vars p parts k f.start f.code first.there;
  others = λ at c h. ⊎_elim (λ (old : PartFault vars p parts k at c). first.others at c old)
      (λ (last : HasPlacedFault vars part (place_below p k) at c). absurd (placed_faultless vars part t (place_below p k) at c good last)) (more_part vars p parts k part at c got h);
}

-- the first fault of the part is the first of all
last_first : (vars : List Var) (p : Places) (parts : List RawTerm) (k : ℕ) (part : RawTerm) (g : Fault) → slice_get parts k ≡ Some part → IsFirst code_number (HasPlacedFault vars part (place_below p k)) g.start g.code
    → ((at : ℕ) (c : Code) → PartFault vars p parts k at c → Before g.start g.code at c) → IsFirst code_number (PartFault vars p parts (k + 1)) g.start g.code
last_first vars p parts k part g got is below = record {
  there = last_part vars p parts k part g.start g.code got is.there;
  others = λ at c h. ⊎_elim (λ (old : PartFault vars p parts k at c). below at c old) (λ (last : HasPlacedFault vars part (place_below p k) at c). is.others at c last) (more_part vars p parts k part at c got h);
}

-- or an earlier one stays the first
still_first : (vars : List Var) (p : Places) (parts : List RawTerm) (k : ℕ) (part : RawTerm) (f g : Fault) → slice_get parts k ≡ Some part → IsFirst code_number (PartFault vars p parts k) f.start f.code
    → IsFirst code_number (HasPlacedFault vars part (place_below p k)) g.start g.code → Before f.start f.code g.start g.code → IsFirst code_number (PartFault vars p parts (k + 1)) f.start f.code
still_first vars p parts k part f g got first is below = record {
  there = still_part vars p parts k f.start f.code first.there;
  others = λ at c h. ⊎_elim (λ (old : PartFault vars p parts k at c). first.others at c old)
      (λ (last : HasPlacedFault vars part (place_below p k) at c). not_after f.start g.start at f.code g.code c below (is.others at c last)) (more_part vars p parts k part at c got h);
}

-- one part more that has a fault
pub more_faulty : (vars : List Var) (p : Places) (parts : List RawTerm) (k : ℕ) (part : RawTerm) (first : Option Fault) (ts : List TermTree) (g r : Fault) → slice_get parts k ≡ Some part → Stand vars p parts k first ts
    → IsFirst code_number (HasPlacedFault vars part (place_below p k)) g.start g.code → IsFirstWith first g r → IsFirst code_number (PartFault vars p parts (k + 1)) r.start r.code
more_faulty vars p parts k part None ts g r got e is with_g =
    subst (λ (x : Fault). IsFirst code_number (PartFault vars p parts (k + 1)) x.start x.code) (sym with_g)
    (last_first vars p parts k part g got is (λ at c h. absurd (first_faultless vars p parts k ts at c e h)))
more_faulty vars p parts k part (Some f) ts g r got first is with_g =
    ⊎_elim
    (λ (old : (r ≡ f) × Before f.start f.code g.start g.code).
    subst (λ (x : Fault). IsFirst code_number (PartFault vars p parts (k + 1)) x.start x.code) (sym old.0) (still_first vars p parts k part f g got first is old.1))
    (λ (new : (r ≡ g) × Before g.start g.code f.start f.code).
    subst (λ (x : Fault). IsFirst code_number (PartFault vars p parts (k + 1)) x.start x.code) (sym new.0)
    (last_first vars p parts k part g got is (λ at c h. not_after g.start f.start at g.code f.code c new.1 (first.others at c h))))
    with_g

-- Answers.

pub variable_err : (vars : List Var) (n : List ℕ) (p : Places) (t : RawTerm) (at : ℕ) (r : Result Term TermFault) → t ≡ raw.Variable n → at ≡ start_of p → IfErr r (IsUnknown vars n at) → IfErr r (IsCause (HasPlacedFault vars t p))
variable_err vars n p t at (Ok x) is e h = tt
variable_err vars n p t at (Err answer.NoMemory) is e h = tt
variable_err vars n p t at (Err (answer.At start c)) is e h =
    subst (λ (u : RawTerm). IsFirst code_number (HasPlacedFault vars u p) start c) (sym is)
    (subst (λ (d : Code). IsFirst code_number (HasPlacedFault vars (raw.Variable n) p) start d) (sym h.2)
    (subst (λ (m : ℕ). IsFirst code_number (HasPlacedFault vars (raw.Variable n) p) m code.Undeclared) (sym (h.1 ∙ e)) (first_unknown vars n p h.0)))

pub apply_err : (vars : List Var) (o : Operator) (parts : List RawTerm) (p : Places) (t : RawTerm) (ts : List TermTree) (at : ℕ) (r : Result Term TermFault) → t ≡ raw.Apply o parts → map (resolved vars) parts ≡ map Some ts → at ≡ start_of p
    → IfErr r (IsUnsorted o ts at) → IfErr r (IsCause (HasPlacedFault vars t p))
apply_err vars o parts p t ts at (Ok x) is all e h = tt
apply_err vars o parts p t ts at (Err answer.NoMemory) is all e h = tt
apply_err vars o parts p t ts at (Err (answer.At start c)) is all e h =
    subst (λ (u : RawTerm). IsFirst code_number (HasPlacedFault vars u p) start c) (sym is)
    (subst (λ (d : Code). IsFirst code_number (HasPlacedFault vars (raw.Apply o parts) p) start d) (sym h.2)
    (subst (λ (m : ℕ). IsFirst code_number (HasPlacedFault vars (raw.Apply o parts) p) m code.WrongType) (sym (h.1 ∙ e)) (first_own vars o parts p ts all h.0)))

pub apply_tree : (vars : List Var) (o : Operator) (parts : List RawTerm) (t : RawTerm) (us ts : List TermTree) (r : Result Term TermFault) → t ≡ raw.Apply o parts → map (resolved vars) parts ≡ map Some us
    → IfOk r (λ x. tree_at ts x.id ≡ tree.Apply o us) → IfOk r (λ x. IsSome (sort_of (tree.Apply o us))) → IfOk r (λ x. resolved vars t ≡ Some (tree_at ts x.id))
apply_tree vars o parts t us ts (Ok x) is all made sorted = ap (resolved vars) is ∙ sorted_node vars o parts us all sorted ∙ ap Some (sym made)
apply_tree vars o parts t us ts (Err e) is all made sorted = tt

-- all parts
pub at_end : (vars : List Var) (p : Places) (items parts : List RawTerm) (k : ℕ) (first : Option Fault) (ts : List TermTree) → length items ≡ k → items ≡ parts → Stand vars p items k first ts → Stand vars p parts (length parts) first ts
at_end vars p items parts k first ts e is stand =
    subst (λ (qs : List RawTerm). Stand vars p qs (length qs) first ts) is (subst (λ (n : ℕ). Stand vars p items n first ts) (sym e) stand)

pub all_good : (vars : List Var) (p : Places) (parts : List RawTerm) (ts : List TermTree) → Stand vars p parts (length parts) None ts → map (resolved vars) parts ≡ map Some ts
all_good vars p parts ts e = ap (map (resolved vars)) (sym (take-length parts)) ∙ e

got : (items : List RawTerm) (i : ℕ) (part : RawTerm) → i < length items → part ≡ get_or items i part → slice_get items i ≡ Some part
got [] i part lt is = absurd (omega (arith, lt))
got (p ∷ items) zero part lt is = ap Some (sym is)
got (p ∷ items) (suc i) part lt is = got items i part (omega (arith, lt)) is

-- a part that has a term
pub stand_good : (vars : List Var) (p : Places) (items : List RawTerm) (i : ℕ) (part : RawTerm) (first again : Option Fault) (old new : List TermTree) (terms more : List Term) (t : Term) → i < length items → part ≡ get_or items i part
    → AreIn old terms → Grows old new → Stand vars p items i first (trees_at old terms) → resolved vars part ≡ Some (tree_at new t.id) → more ≡ terms ++ t ∷ [] → again ≡ first → Stand vars p items (i + 1) again (trees_at new more)
stand_good vars p items i part None again old new terms more t lt is within grows stand good e f =
    subst (λ (o : Option Fault). Stand vars p items (i + 1) o (trees_at new more)) (sym f) (good_part vars items i part old new terms more t lt is within grows stand good e)
stand_good vars p items i part (Some g) again old new terms more t lt is within grows stand good e f =
    subst (λ (o : Option Fault). Stand vars p items (i + 1) o (trees_at new more)) (sym f) (more_good vars p items i part g (tree_at new t.id) (got items i part lt is) stand good)

-- a part that has a fault
pub stand_faulty : (vars : List Var) (p q : Places) (items : List RawTerm) (i : ℕ) (part : RawTerm) (first again : Option Fault) (ts us : List TermTree) (g r : Fault) → i < length items → part ≡ get_or items i part → q ≡ place_below p i
    → Stand vars p items i first ts → IsFirst code_number (HasPlacedFault vars part q) g.start g.code → IsFirstWith first g r → again ≡ Some r → Stand vars p items (i + 1) again us
stand_faulty vars p q items i part first again ts us g r lt is place stand faulty with_g f =
    subst (λ (o : Option Fault). Stand vars p items (i + 1) o us) (sym f)
    (more_faulty vars p items i part first ts g r (got items i part lt is) stand (subst (λ (x : Places). IsFirst code_number (HasPlacedFault vars part x) g.start g.code) place faulty) with_g)

-- terms of a store are terms of it after it grew
pub still_in : (old new : List TermTree) (terms : List Term) → AreIn old terms → Grows old new → AreIn new terms
still_in old new terms within grows k d lt =
    let inside = within k d lt in
    omega (arith, inside, ap length grows.1, length-append old grows.0)

-- What follows from a term's tree.

pub ok_sorted : (vars : List Var) (n : RawTerm) (ts : List TermTree) (r : Result Term TermFault) → IfOk r (λ t. resolved vars n ≡ Some (tree_at ts t.id)) → IfOk r (λ t. IsSome (sort_of (tree_at ts t.id)))
ok_sorted vars n ts (Ok t) e = (resolved_fit vars n (tree_at ts t.id) e).0
ok_sorted vars n ts (Err f) e = tt

pub ok_closed : (vars : List Var) (n : RawTerm) (ts : List TermTree) (r : Result Term TermFault) → IfOk r (λ t. resolved vars n ≡ Some (tree_at ts t.id)) → IfOk r (λ t. is_closed vars (tree_at ts t.id) ≡ true)
ok_closed vars n ts (Ok t) e = (resolved_fit vars n (tree_at ts t.id) e).1
ok_closed vars n ts (Err f) e = tt

pub ok_faultless : (vars : List Var) (n : RawTerm) (ts : List TermTree) (r : Result Term TermFault) → IfOk r (λ t. resolved vars n ≡ Some (tree_at ts t.id)) → IfOk r (λ t. (path : List ℕ) (c : Code) → HasFault vars n path c → ⊥)
ok_faultless vars n ts (Ok t) e = faultless vars n (tree_at ts t.id) e
ok_faultless vars n ts (Err f) e = tt
