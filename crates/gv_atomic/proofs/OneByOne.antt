-- Picks and assignments, one after another.
use Rattle.std.proofs.Common.{◌≡◌, ℕ, List, [], ◌∷◌, ◌++◌, Bool, true, false, ◌&&◌, cond, not, Option, Some, None, nat_eq, map, length, take, drop, get_or, ◌-◌, ◌<◌, ◌≤◌, ◌||◌, arith, is_some, is_none, refl, sym, ap, ◌∙◌, append_assoc, append-nil, eqb-true, eq-eqb}
use Rattle.std.specs.Option.{option_or}
use Rattle.std.specs.List.{find, list_all, list_any}
use Rattle.std.specs.Bool.{OnTrue}
use Rattle.std.proofs.Math.Seq.{take-length}
use Rattle.std.specs.Str.{bytes_eq}
use Rattle.std.proofs.lemmas.List.{map-append}
use Rattle.gv_terms.specs.declared.sort.Sort.{Sort}
use Rattle.gv_terms.specs.declared.sort.Sort.TheVariants as sort
use Rattle.gv_terms.specs.declared.tree.TermTree.{TermTree}
use Rattle.gv_terms.specs.declared.var.Var.{Var}
use Rattle.gv_terms.specs.Scopes.{sort_under, is_among}
use Rattle.gv_atomic.specs.declared.spec.Pick.{Pick}
use Rattle.gv_atomic.specs.declared.spec.Assign.{Assign}
use Rattle.gv_atomic.specs.Typed.{names_of, is_free, are_names, are_distinct, are_picks, pick_var, with_picks, is_term}
use Rattle.gv_atomic.specs.Marks.{AreMarks, is_new}
use Rattle.gv_atomic.proofs.Vars.{named, under_append, among_left, among_right}
use Rattle.std.proofs.lemmas.List.Folds.{list_all-append}
use Rattle.gv_atomic.proofs.OpenTerms.{marks_more}
use Rattle.gv_atomic.proofs.DistinctNames.{names_more, names_stop, both, parted, second_false, first_false, distinct_more, not_distinct}

-- A name beside those of two lists of variables.

-- whether a name is new, by its look-ups
pub new_by : (xs ys : List Var) (n : List ℕ) → is_new (names_of (xs ++ ys)) n ≡ (is_free n && not (is_some (sort_under (xs ++ ys) n)))
new_by xs ys n = ap (λ b. is_free n && not b) (named (xs ++ ys) n)

found_in : (o p : Option Sort) → o ≡ None → option_or o p ≡ p
found_in o p e = ap (λ q. option_or q p) e

pub none_both : (xs ys : List Var) (n : List ℕ) → is_some (sort_under (xs ++ ys) n) ≡ false → is_none (sort_under ys n) ≡ true
none_both xs ys n e = by (sort_under xs n) (sort_under ys n) (ap is_some (sym (under_append xs ys n)) ∙ e)
  where
    by : (o p : Option Sort) → is_some (option_or o p) ≡ false → is_none p ≡ true
    by None None f = refl
    by None (Some s) f = absurd cc
    by (Some r) p f = absurd cc

-- One variable after another: those declared so far, and those left.

pub names_append : (xs ys : List Var) → names_of (xs ++ ys) ≡ names_of xs ++ names_of ys
names_append xs ys = map-append (λ v. v.name) xs ys

-- a new name among the names
pub declared_more : (xs own : List Var) (v : Var) → are_names (names_of (xs ++ own)) ≡ true → is_new (names_of (xs ++ own)) v.name ≡ true → are_names (names_of (xs ++ (own ++ v ∷ []))) ≡ true
declared_more xs own v e f =
    ap (λ vs. are_names (names_of vs)) (sym (append_assoc xs own (v ∷ [])))
    ∙ ap are_names (names_append (xs ++ own) (v ∷ []))
    ∙ names_more (names_of (xs ++ own)) v.name e f

-- a name that isn't new, whatever comes behind it
pub declared_stop : (xs own left whole : List Var) (v : Var) → own ++ v ∷ left ≡ whole → is_new (names_of (xs ++ own)) v.name ≡ false → are_names (names_of (xs ++ whole)) ≡ false
declared_stop xs own left whole v is f =
    ap (λ vs. are_names (names_of (xs ++ vs))) (sym is)
    ∙ ap (λ vs. are_names (names_of vs)) (sym (append_assoc xs own (v ∷ left)))
    ∙ ap are_names (names_append (xs ++ own) (v ∷ left))
    ∙ names_stop (names_of (xs ++ own)) v.name (names_of left) f

-- one more is declared
pub declared_next : (own new left whole : List Var) (v : Var) → own ++ v ∷ left ≡ whole → new ≡ own ++ v ∷ [] → new ++ left ≡ whole
declared_next own new left whole v is e = ap (λ vs. vs ++ left) e ∙ append_assoc own (v ∷ []) left ∙ is

-- none is left
pub declared_all : (own whole : List Var) → own ++ [] ≡ whole → own ≡ whole
declared_all own whole e = sym (append-nil own) ∙ e

-- The same of picks, whose bounds speak of what is declared so far.

pub picks_next : (ts : List TermTree) (xs own new : List Var) (p : Pick) (left : List Pick) (b : Bool) → are_picks ts (xs ++ own) (p ∷ left) ≡ b → is_term ts (xs ++ own) sort.Word p.bound ≡ true → new ≡ own ++ pick_var p ∷ [] → are_picks ts (xs ++ new) left ≡ b
picks_next ts xs own new p left b e f g =
    ap (λ vs. are_picks ts (xs ++ vs) left) g
    ∙ ap (λ vs. are_picks ts vs left) (sym (append_assoc xs own (pick_var p ∷ [])))
    ∙ sym (ap (λ c. c && are_picks ts ((xs ++ own) ++ pick_var p ∷ []) left) f)
    ∙ e

pub picks_stop : (ts : List TermTree) (xs own : List Var) (p : Pick) (left : List Pick) (b : Bool) → are_picks ts (xs ++ own) (p ∷ left) ≡ b → is_term ts (xs ++ own) sort.Word p.bound ≡ false → b ≡ false
picks_stop ts xs own p left b e f = sym e ∙ ap (λ c. c && are_picks ts ((xs ++ own) ++ pick_var p ∷ []) left) f

-- a pick that is not typed or whose name isn't new
pub pick_refused : (ts : List TermTree) (xs own0 own : List Var) (picks : List Pick) (p : Pick) (left : List Pick) → own ++ map pick_var (p ∷ left) ≡ own0 ++ map pick_var picks → are_picks ts (xs ++ own) (p ∷ left) ≡ are_picks ts (xs ++ own0) picks
    → (is_term ts (xs ++ own) sort.Word p.bound && is_new (names_of (xs ++ own)) p.name) ≡ false
    → (are_names (names_of (with_picks (xs ++ own0) picks)) && are_picks ts (xs ++ own0) picks) ≡ false
pick_refused ts xs own0 own picks p left is test f = by (is_term ts (xs ++ own) sort.Word p.bound) refl f
  where
    by : (b : Bool) → is_term ts (xs ++ own) sort.Word p.bound ≡ b → (b && is_new (names_of (xs ++ own)) p.name) ≡ false → (are_names (names_of (with_picks (xs ++ own0) picks)) && are_picks ts (xs ++ own0) picks) ≡ false
    by false e g =
        second_false (are_names (names_of (with_picks (xs ++ own0) picks))) (are_picks ts (xs ++ own0) picks)
        (picks_stop ts xs own p left (are_picks ts (xs ++ own0) picks) test e)
    by true e g =
        first_false (are_names (names_of (with_picks (xs ++ own0) picks))) (are_picks ts (xs ++ own0) picks)
        (ap (λ vs. are_names (names_of vs)) (append_assoc xs own0 (map pick_var picks))
        ∙ declared_stop xs own (map pick_var left) (own0 ++ map pick_var picks) (pick_var p) is g)

-- what was among the variables is among them and one more
pub among_more : (xs own new : List Var) (v : Var) → new ≡ own ++ v ∷ [] → (n : List ℕ) (s : Sort) → is_among (xs ++ own) n s ≡ true → is_among (xs ++ new) n s ≡ true
among_more xs own new v e n s h =
    ap (λ vs. is_among (xs ++ vs) n s) e
    ∙ ap (λ vs. is_among vs n s) (sym (append_assoc xs own (v ∷ [])))
    ∙ among_left (xs ++ own) (v ∷ []) n s h

-- Assignments, by the fields that they assign.

abbrev pub fields_assigned : List Assign → List ℕ
fields_assigned body = map (λ a. a.field) body

abbrev pub same_field : Assign → Assign → Bool
same_field a b = nat_eq a.field b.field

flip_nat : (x y : ℕ) (b : Bool) → nat_eq x y ≡ b → nat_eq y x ≡ b
flip_nat x y true e = let same : x ≡ y = eqb-true x y e in eq-eqb y x (sym same)
flip_nat x y false e = other (nat_eq y x) refl
  where
    other : (c : Bool) → nat_eq y x ≡ c → c ≡ false
    other true f = let same : y ≡ x = eqb-true y x f in let g : nat_eq x y ≡ true = eq-eqb x y (sym same) in absurd cc
    other false f = refl

-- the test on assignments is the one on their fields
finds : (x : Assign) (body : List Assign) → is_some (find (same_field x) body) ≡ is_some (find (nat_eq x.field) (fields_assigned body))
finds x [] = refl
finds x (y ∷ body) = step (nat_eq x.field y.field) (finds x body)
  where
    step : (b : Bool) → is_some (find (same_field x) body) ≡ is_some (find (nat_eq x.field) (fields_assigned body)) → is_some (cond b (Some y) (find (same_field x) body)) ≡ is_some (cond b (Some y.field) (find (nat_eq x.field) (fields_assigned body)))
    step true h = refl
    step false h = h

pub by_fields : (body : List Assign) → are_distinct same_field body ≡ are_distinct nat_eq (fields_assigned body)
by_fields [] = refl
by_fields (x ∷ body) = ap (λ b. not b && are_distinct same_field body) (finds x body) ∙ ap (λ b. not (is_some (find (nat_eq x.field) (fields_assigned body))) && b) (by_fields body)

pub numbers_more : (xs : List ℕ) (x : ℕ) → are_distinct nat_eq xs ≡ true → is_some (find (nat_eq x) xs) ≡ false → are_distinct nat_eq (xs ++ x ∷ []) ≡ true
numbers_more = distinct_more nat_eq flip_nat

pub numbers_stop : (xs : List ℕ) (x : ℕ) (ys : List ℕ) → is_some (find (nat_eq x) xs) ≡ true → are_distinct nat_eq (xs ++ x ∷ ys) ≡ false
numbers_stop = not_distinct nat_eq flip_nat

-- whether a number is among those of a set
found_any : (p : ℕ → Bool) (xs : List ℕ) → list_any p xs ≡ is_some (find p xs)
found_any p [] = refl
found_any p (x ∷ xs) = step (p x) (found_any p xs)
  where
    step : (b : Bool) → list_any p xs ≡ is_some (find p xs) → (b || list_any p xs) ≡ is_some (cond b (Some x) (find p xs))
    step true h = refl
    step false h = h

negation : (a b : Bool) → a ≡ not b → not a ≡ b
negation a true e = ap not e
negation a false e = ap not e

pub was_assigned : (keys : List ℕ) (x : ℕ) (added : Bool) → added ≡ not (list_any (nat_eq x) keys) → added ≡ false → is_some (find (nat_eq x) keys) ≡ true
was_assigned keys x added told e = sym (found_any (nat_eq x) keys) ∙ sym (negation added (list_any (nat_eq x) keys) told) ∙ ap not e

pub was_unassigned : (keys : List ℕ) (x : ℕ) (added : Bool) → added ≡ not (list_any (nat_eq x) keys) → added ≡ true → is_some (find (nat_eq x) keys) ≡ false
was_unassigned keys x added told e = sym (found_any (nat_eq x) keys) ∙ sym (negation added (list_any (nat_eq x) keys) told) ∙ ap not e

pub one_assigned : (keys new : List ℕ) (x : ℕ) (added : Bool) → added ≡ not (list_any (nat_eq x) keys) → added ≡ true → new ≡ cond (list_any (nat_eq x) keys) keys (keys ++ x ∷ []) → new ≡ keys ++ x ∷ []
one_assigned keys new x added told e is = is ∙ ap (λ b. cond b keys (keys ++ x ∷ [])) (sym (negation added (list_any (nat_eq x) keys) told) ∙ ap not e)

pub fields_next : (keys new : List ℕ) (x : ℕ) (left whole : List ℕ) → keys ++ x ∷ left ≡ whole → new ≡ keys ++ x ∷ [] → new ++ left ≡ whole
fields_next keys new x left whole is e = ap (λ ks. ks ++ left) e ∙ append_assoc keys (x ∷ []) left ∙ is

-- The first of what is left, and the others.

pub split_first : {A : Type 0} (xs : List A) (x : A) → 1 ≤ length xs → x ≡ get_or xs 0 x → xs ≡ x ∷ take (length xs - 1) (drop 1 xs)
split_first [] x long e = absurd (omega (arith, long))
split_first (y ∷ ys) x long e =
    let size : length (y ∷ ys) - 1 ≡ length ys = omega arith in
    ap (λ z. z ∷ ys) (sym e) ∙ ap (λ zs. x ∷ zs) (sym (ap (λ n. take n ys) size ∙ take-length ys))

pub split_head : {A : Type 0} (xs : List A) (d : A) → 1 ≤ length xs → xs ≡ get_or xs 0 d ∷ take (length xs - 1) (drop 1 xs)
split_head [] d long = absurd (omega (arith, long))
split_head (y ∷ ys) d long = split_first (y ∷ ys) y long refl

pub none_left : {A : Type 0} (xs : List A) → length xs < 1 → xs ≡ []
none_left [] short = refl
none_left (y ∷ ys) short = absurd (omega (arith, short))

pub on_true : (b : Bool) (P : Type 0) → OnTrue b P → b ≡ true → P
on_true true P h e = h
on_true false P h e = absurd cc

-- The last names are distinct where all are.

distinct_behind : {A : Type 0} (eq : A → A → Bool) (xs ys : List A) → are_distinct eq (xs ++ ys) ≡ true → are_distinct eq ys ≡ true
distinct_behind eq [] ys e = e
distinct_behind eq (x ∷ xs) ys e = distinct_behind eq xs ys (parted (not (is_some (find (eq x) (xs ++ ys)))) (are_distinct eq (xs ++ ys)) e).1

names_behind : (ms ns : List (List ℕ)) → are_names (ms ++ ns) ≡ true → are_names ns ≡ true
names_behind ms ns e =
    let two = parted (list_all is_free (ms ++ ns)) (are_distinct bytes_eq (ms ++ ns)) e in
    both (list_all is_free ns) (are_distinct bytes_eq ns)
    (parted (list_all is_free ms) (list_all is_free ns) (sym (list_all-append is_free ms ns) ∙ two.0)).1
    (distinct_behind bytes_eq ms ns two.1)

-- parameters by themselves, where they were declared beside fields
pub params_named : (fields none own params : List Var) → none ≡ [] → own ≡ params → are_names (names_of (fields ++ params)) ≡ true → are_names (names_of (none ++ own)) ≡ true
params_named fields none own params e f h =
    ap (λ vs. are_names (names_of (vs ++ own))) e ∙ ap (λ vs. are_names (names_of vs)) f
    ∙ names_behind (names_of fields) (names_of params) (ap are_names (sym (names_append fields params)) ∙ h)

-- and what a condition on them has seen
pub params_marked : (ts : List TermTree) (fields none own params : List Var) (number : ℕ) (b : Bool) (marks : List ℕ) → none ≡ [] → own ≡ params → OnTrue b (AreMarks ts (none ++ own) number marks) → OnTrue b (AreMarks ts (fields ++ params) number marks)
params_marked ts fields none own params number true marks e f h =
    marks_more (none ++ own) (fields ++ params) (λ n s g. among_right fields params n s (ap (λ vs. is_among vs n s) (sym f) ∙ ap (λ vs. is_among (vs ++ own) n s) (sym e) ∙ g)) ts number marks h
params_marked ts fields none own params number false marks e f h = tt
