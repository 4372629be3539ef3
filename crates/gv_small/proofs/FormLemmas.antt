-- The grammar of the small forms, and its reading from the front.
use Rattle.std.proofs.Common.{◌≡◌, ℕ, zero, suc, ◌+◌, ◌<◌, ◌≤◌, Bool, true, false, cond, List, [], ◌∷◌, ◌++◌, length, Option, Some, None, refl, sym, ap, subst, ◌∙◌, arith, rules, tests, ◌⊎◌, inl, inr}
use Rattle.std.specs.Prelude.{option_map, option_and_then, ◌==◌, ◌||◌, ◌&&◌, not}
use Rattle.std.proofs.lemmas.Slice.Eq.{bytes_eq-Decides}
use Rattle.std.specs.Str.{bytes_eq}
use Rattle.gv_base.specs.declared.small.Part.{Part}
use Rattle.gv_base.specs.declared.small.Part.TheVariants.{Param, Number}
use Rattle.gv_base.specs.declared.small.Turn.{Turn}
use Rattle.gv_small.specs.Tokens.{Token, named, signed, arrowed}
use Rattle.gv_small.specs.Forms.{is_name, part_of, Many, IsNextParameter, next, AreParameters, none, some, IsTurn, plus, minus, IsSum, number, turns, MayEnd, absent, present, is_distinct, more}
use Rattle.gv_small.specs.Reading.{Read, is_same, behind_all, word_at, begins_with_sign, parameter, next_parameter, no_comma, more_parameters, parameters, no_turn, turn_sign, part_at, turn, after_part, sum_at, past_semicolon, distinct_names}
use Rattle.gv_small.specs.Reading as reading
use Rattle.gv_small.proofs.Many.{Shrinks, IsFound, IsRead, all_of_found, all_of_read}
use Rattle.gv_small.proofs.Cuts.{false_true}

-- ---- options

pub then_some : {A B : Type 0} (f : A → Option B) (o : Option A) (y : B) → option_and_then f o ≡ Some y → (x : A) × (o ≡ Some x) × (f x ≡ Some y)
then_some f None y e = absurd cc
then_some f (Some x) y e = (x, refl, e)

pub map_some : {A B : Type 0} (f : A → B) (o : Option A) (y : B) → option_map f o ≡ Some y → (x : A) × (o ≡ Some x) × (f x ≡ y)
map_some f None y e = absurd cc
map_some f (Some x) y e = (x, refl, cc)

-- the same for a reasoning that goes on
pub then_case : {A B : Type 0} {C : Type 0} (f : A → Option B) (o : Option A) (y : B) → option_and_then f o ≡ Some y → ((x : A) → o ≡ Some x → f x ≡ Some y → C) → C
then_case f None y e k = absurd cc
then_case f (Some x) y e k = k x refl e

pub map_case : {A B : Type 0} {C : Type 0} (f : A → B) (o : Option A) (y : B) → option_map f o ≡ Some y → ((x : A) → o ≡ Some x → f x ≡ y → C) → C
map_case f None y e k = absurd cc
map_case f (Some x) y e k = k x refl cc

pub if_some : {A : Type 0} (b : Bool) (x y : A) → cond b (Some x) None ≡ Some y → (b ≡ true) × (x ≡ y)
if_some true x y e = (refl, cc)
if_some false x y e = absurd cc

-- the two parts of what is read
pub first_is : {A B : Type 0} (p q : A × B) → Some p ≡ Some q → p.0 ≡ q.0
first_is p q e = let same : p ≡ q = cc in ap (λ z. z.0) same

pub second_is : {A B : Type 0} (p q : A × B) → Some p ≡ Some q → p.1 ≡ q.1
second_is p q e = let same : p ≡ q = cc in ap (λ z. z.1) same

-- ---- tokens

pub same_is : (s t : Token) → is_same s t ≡ true → s ≡ t
same_is (named v) (named w) e = ap named ((bytes_eq-Decides v w).0 e)
same_is (named v) arrowed e = absurd (false_true e)
same_is (named v) (signed b) e = absurd (false_true e)
same_is arrowed (named w) e = absurd (false_true e)
same_is arrowed arrowed e = refl
same_is arrowed (signed b) e = absurd (false_true e)
same_is (signed a) (named w) e = absurd (false_true e)
same_is (signed a) arrowed e = absurd (false_true e)
same_is (signed a) (signed b) e = let k : a ≡ b = search (rules, tests, e) in ap signed k

pub is_same_self : (t : Token) → is_same t t ≡ true
is_same_self (named v) = (bytes_eq-Decides v v).1 refl
is_same_self arrowed = refl
is_same_self (signed b) = search (rules, tests)

behind_step : (ws ts r : List Token) (w t : Token) → (behind_all ws ts ≡ Some r → ts ≡ ws ++ r) → (b : Bool) → is_same w t ≡ b → cond b (behind_all ws ts) None ≡ Some r → t ∷ ts ≡ (w ∷ ws) ++ r
behind_step ws ts r w t ih true q e = ap (λ u. u ∷ ts) (sym (same_is w t q)) ∙ ap (λ (us : List Token). w ∷ us) (ih e)
behind_step ws ts r w t ih false q e = absurd cc

pub behind_found : (ws ts r : List Token) → behind_all ws ts ≡ Some r → ts ≡ ws ++ r
behind_found [] ts r e = cc
behind_found (w ∷ ws) [] r e = absurd cc
behind_found (w ∷ ws) (t ∷ ts) r e = behind_step ws ts r w t (behind_found ws ts r) (is_same w t) refl e

pub behind_front : (ws r : List Token) → behind_all ws (ws ++ r) ≡ Some r
behind_front [] r = refl
behind_front (w ∷ ws) r = rw (is_same_self w) (behind_front ws r)

pub length_behind : (ws r : List Token) → length r ≤ length (ws ++ r)
length_behind [] r = omega arith
length_behind (w ∷ ws) r = let k = length_behind ws r in omega (arith, k)

pub behind_shorter : (ws ts r : List Token) → behind_all ws ts ≡ Some r → length r ≤ length ts
behind_shorter ws ts r e = subst (λ (us : List Token). length r ≤ length us) (sym (behind_found ws ts r e)) (length_behind ws r)

-- the word that comes first
pub word_found : (p : List ℕ → Bool) (ts : List Token) (w : List ℕ) (r : List Token) → word_at p ts ≡ Some (w, r) → (ts ≡ named w ∷ r) × (p w ≡ true)
word_found p [] w r e = absurd cc
word_found p (named v ∷ ts) w r e = go (p v) refl e
  where
    go : (b : Bool) → p v ≡ b → cond {A = Read (List ℕ)} b (Some (v, ts)) None ≡ Some (w, r) → (named v ∷ ts ≡ named w ∷ r) × (p w ≡ true)
    go true q e =
        let P : List ℕ × List Token = (v, ts) in
        let Q : List ℕ × List Token = (w, r) in
        let v_is : v ≡ w = first_is P Q e in
        let rest_is : ts ≡ r = second_is P Q e in
        (ap (λ x. named x ∷ ts) v_is ∙ ap (λ (us : List Token). named w ∷ us) rest_is, ap p (sym v_is) ∙ q)
    go false q e = absurd cc
word_found p (arrowed ∷ ts) w r e = absurd cc
word_found p (signed b ∷ ts) w r e = absurd cc

pub word_read : (p : List ℕ → Bool) (w : List ℕ) (r : List Token) → p w ≡ true → word_at p (named w ∷ r) ≡ Some (w, r)
word_read p w r e = rw e refl

pub sign_found : (b : ℕ) (ts : List Token) → begins_with_sign b ts ≡ true → (r : List Token) × (ts ≡ signed b ∷ r)
sign_found b [] e = absurd (false_true e)
sign_found b (named w ∷ ts) e = absurd (false_true e)
sign_found b (arrowed ∷ ts) e = absurd (false_true e)
sign_found b (signed c ∷ ts) e = let k : c ≡ b = search (rules, tests, e) in (ts, ap (λ x. signed x ∷ ts) k)

-- ---- parameters

module _ (kind : List Token) where
  pub parameter_found : (ts : List Token) (n : List ℕ) (r : List Token) → parameter kind ts ≡ Some (n, r) → (ts ≡ named n ∷ (kind ++ r)) × (is_name n ≡ true)
  parameter_found ts n r e =
      let (x, word, rest) = then_some _ (word_at is_name ts) (n, r) e in
      let (after, kinds, pair) = map_some _ (behind_all kind x.1) (n, r) rest in
      let name_is : x.0 ≡ n = ap (λ z. z.0) pair in
      let after_is : after ≡ r = ap (λ z. z.1) pair in
      let w = word_found is_name ts x.0 x.1 word in
      let b = behind_found kind x.1 after kinds in
      (w.0 ∙ ap (λ v. named v ∷ x.1) name_is ∙ ap (λ (us : List Token). named n ∷ us) (b ∙ ap (λ (us : List Token). kind ++ us) after_is), ap is_name (sym name_is) ∙ w.1)

  pub parameter_read : (n : List ℕ) (r : List Token) → is_name n ≡ true → parameter kind (named n ∷ (kind ++ r)) ≡ Some (n, r)
  parameter_read n r e = rw (e, behind_front kind r) refl

  pub next_found : IsFound no_comma (next_parameter kind) (IsNextParameter kind)
  next_found ts n r e =
      let (after, comma, rest) = then_some _ (behind_all (signed 44 ∷ []) ts) (n, r) e in
      let c = behind_found (signed 44 ∷ []) ts after comma in
      let p = parameter_found after n r rest in
      subst (λ (us : List Token). IsNextParameter kind n us r) (sym (c ∙ ap (λ (us : List Token). signed 44 ∷ us) p.0)) (next p.1)

  pub next_read : IsRead no_comma (next_parameter kind) (IsNextParameter kind)
  next_read n ts r (next e) = (parameter_read n r e, refl)

  pub next_shrinks : Shrinks (next_parameter kind)
  next_shrinks ts n r e =
      let (after, comma, rest) = then_some _ (behind_all (signed 44 ∷ []) ts) (n, r) e in
      let c = behind_found (signed 44 ∷ []) ts after comma in
      let p = parameter_found after n r rest in
      let l = length_behind kind r in
      subst (λ (us : List Token). length r < length us) (sym (c ∙ ap (λ (us : List Token). signed 44 ∷ us) p.0)) (omega (arith, l))

  pub parameters_found : (ts : List Token) (ns : List (List ℕ)) (r : List Token) → parameters kind ts ≡ Some (ns, r) → AreParameters kind ns ts r
  parameters_found ts ns r e = go (begins_with_sign 41 ts) refl e
    where
      go : (b : Bool) → begins_with_sign 41 ts ≡ b → cond {A = Read (List (List ℕ))} b (Some ([], ts)) (option_and_then (λ x. option_map (λ y. (x.0 ∷ y.0, y.1)) (more_parameters kind x.1)) (parameter kind ts)) ≡ Some (ns, r) → AreParameters kind ns ts r
      go true q e =
          let P : List (List ℕ) × List Token = ([], ts) in
          let Q : List (List ℕ) × List Token = (ns, r) in
          let ns_is : [] ≡ ns = first_is P Q e in
          let r_is : ts ≡ r = second_is P Q e in
          subst (λ (ms : List (List ℕ)). AreParameters kind ms ts r) ns_is (subst (λ (us : List Token). AreParameters kind [] ts us) r_is none)
      go false q e =
          let (x, one, rest) = then_some _ (parameter kind ts) (ns, r) e in
          let (y, others, pair) = map_some _ (more_parameters kind x.1) (ns, r) rest in
          let ns_is : x.0 ∷ y.0 ≡ ns = ap (λ z. z.0) pair in
          let r_is : y.1 ≡ r = ap (λ z. z.1) pair in
          let p = parameter_found ts x.0 x.1 one in
          let m = all_of_found no_comma (next_parameter kind) (IsNextParameter kind) next_found x.1 y.0 y.1 others in
          let all : AreParameters kind (x.0 ∷ y.0) (named x.0 ∷ (kind ++ x.1)) y.1 = some p.1 m.0 in
          let all' : AreParameters kind (x.0 ∷ y.0) ts y.1 = subst (λ (us : List Token). AreParameters kind (x.0 ∷ y.0) us y.1) (sym p.0) all in
          subst (λ (ms : List (List ℕ)). AreParameters kind ms ts r) ns_is (subst (λ (us : List Token). AreParameters kind (x.0 ∷ y.0) ts us) r_is all')

  closing_no_comma : (r : List Token) → begins_with_sign 41 r ≡ true → no_comma r ≡ true
  closing_no_comma r e = let f = sign_found 41 r e in rw f.1 refl

  pub parameters_read : (ns : List (List ℕ)) (ts r : List Token) → AreParameters kind ns ts r → begins_with_sign 41 r ≡ true → parameters kind ts ≡ Some (ns, r)
  parameters_read ns ts r none e = rw e refl
  parameters_read (n ∷ ns) ts r (some {ts = us} q m) e =
      rw (parameter_read n us q, all_of_read no_comma (next_parameter kind) (IsNextParameter kind) next_shrinks next_read ns us r m (closing_no_comma r e)) refl

-- ---- Sums

-- the sign of a turn
abbrev IsSign : Bool → List Token → List Token → Type 0
IsSign false ts r = ts ≡ signed 43 ∷ r
IsSign true ts r = ts ≡ signed 45 ∷ r

sign_is : (ts : List Token) (m : Bool) (r : List Token) → turn_sign ts ≡ Some (m, r) → IsSign m ts r
sign_is [] m r e = absurd cc
sign_is (named w ∷ ts) m r e = absurd cc
sign_is (arrowed ∷ ts) m r e = absurd cc
sign_is (signed b ∷ ts) m r e = go (b == 43) refl (b == 45) refl e
  where
    made : (n : Bool) → IsSign n (signed b ∷ ts) ts → cond {A = Read Bool} true (Some (n, ts)) None ≡ Some (m, r) → IsSign m (signed b ∷ ts) r
    made n s e =
        let P : Bool × List Token = (n, ts) in
        let Q : Bool × List Token = (m, r) in
        let n_is : n ≡ m = first_is P Q e in
        let r_is : ts ≡ r = second_is P Q e in
        subst (λ x. IsSign x (signed b ∷ ts) r) n_is (subst (λ (us : List Token). IsSign n (signed b ∷ ts) us) r_is s)

    go : (t : Bool) → (b == 43) ≡ t → (u : Bool) → (b == 45) ≡ u → cond {A = Read Bool} t (Some (false, ts)) (cond u (Some (true, ts)) None) ≡ Some (m, r) → IsSign m (signed b ∷ ts) r
    go true f u g e = let k : b ≡ 43 = search (rules, tests, f) in made false (ap (λ x. signed x ∷ ts) k) e
    go false f true g e = let k : b ≡ 45 = search (rules, tests, g) in made true (ap (λ x. signed x ∷ ts) k) e
    go false f false g e = absurd cc

module _ (params : List (List ℕ)) where
  pub part_found : (ts : List Token) (part : Part) (r : List Token) → part_at params ts ≡ Some (part, r) → (w : List ℕ) × (ts ≡ named w ∷ r) × (part_of params w ≡ Some part)
  part_found ts part r e =
      let (x, word, rest) = then_some _ (word_at (λ w. true) ts) (part, r) e in
      let (q, q_is, pair) = map_some _ (part_of params x.0) (part, r) rest in
      let part_is : q ≡ part = ap (λ z. z.0) pair in
      let r_is : x.1 ≡ r = ap (λ z. z.1) pair in
      let w = word_found (λ w. true) ts x.0 x.1 word in
      (x.0, w.0 ∙ ap (λ (us : List Token). named x.0 ∷ us) r_is, q_is ∙ ap Some part_is)

  with_sign : (m : Bool) (ts us r : List Token) (w : List ℕ) (part : Part) → IsSign m ts us → us ≡ named w ∷ r → part_of params w ≡ Some part → IsTurn params (record { minus = m; part = part }) ts r
  with_sign false ts us r w part s e p = subst (λ (vs : List Token). IsTurn params (record { minus = false; part = part }) vs r) (sym (s ∙ ap (λ (vs : List Token). signed 43 ∷ vs) e)) (plus p)
  with_sign true ts us r w part s e p = subst (λ (vs : List Token). IsTurn params (record { minus = true; part = part }) vs r) (sym (s ∙ ap (λ (vs : List Token). signed 45 ∷ vs) e)) (minus p)

  pub turn_found : IsFound no_turn (turn params) (IsTurn params)
  turn_found ts t r e =
      let (x, sign, rest) = then_some _ (turn_sign ts) (t, r) e in
      let (y, part, pair) = map_some _ (part_at params x.1) (t, r) rest in
      let t_is : record { minus = x.0; part = y.0 } ≡ t = ap (λ z. z.0) pair in
      let r_is : y.1 ≡ r = ap (λ z. z.1) pair in
      let (w, us_is, p) = part_found x.1 y.0 y.1 part in
      let k = with_sign x.0 ts x.1 y.1 w y.0 (sign_is ts x.0 x.1 sign) us_is p in
      subst (λ z. IsTurn params z ts r) t_is (subst (λ (us : List Token). IsTurn params (record { minus = x.0; part = y.0 }) ts us) r_is k)

  pub turn_read : IsRead no_turn (turn params) (IsTurn params)
  turn_read t ts r (plus {w = w} p) = (rw p refl, refl)
  turn_read t ts r (minus {w = w} p) = (rw p refl, refl)

  turn_length : (t : Turn) (ts r : List Token) → IsTurn params t ts r → length r < length ts
  turn_length t ts r (plus p) = omega arith
  turn_length t ts r (minus p) = omega arith

  pub turn_shrinks : Shrinks (turn params)
  turn_shrinks ts t r e = turn_length t ts r (turn_found ts t r e)

  pub sum_found : (ts : List Token) (first : Part) (rest : List Turn) (r : List Token) → sum_at params ts ≡ Some ((first, rest), r) → IsSum params first rest ts r
  sum_found ts first rest r e =
      let (x, part, e1) = then_some _ (part_at params ts) ((first, rest), r) e in
      let (w, ts_is, p) = part_found ts x.0 x.1 part in
      subst (λ (us : List Token). IsSum params first rest us r) (sym ts_is) (by_part w x.1 x.0 p e1)
    where
      by_part : (w : List ℕ) (us : List Token) (part : Part) → part_of params w ≡ Some part → after_part params part us ≡ Some ((first, rest), r) → IsSum params first rest (named w ∷ us) r
      by_part w us (Number v) p e =
          let P : (Part × List Turn) × List Token = ((Number v, []), us) in
          let Q : (Part × List Turn) × List Token = ((first, rest), r) in
          let sum_is : P.0 ≡ Q.0 = first_is P Q e in
          let r_is : us ≡ r = second_is P Q e in
          let made : IsSum params (Number v) [] (named w ∷ us) us = number p in
          let at_r = subst (λ (vs : List Token). IsSum params (Number v) [] (named w ∷ us) vs) r_is made in
          let at_first = subst (λ x. IsSum params x [] (named w ∷ us) r) (ap (λ z. z.0) sum_is) at_r in
          subst (λ (xs : List Turn). IsSum params first xs (named w ∷ us) r) (ap (λ z. z.1) sum_is) at_first
      by_part w us (Param i) p e =
          let (y, all, pair) = map_some _ (reading.turns params us) ((first, rest), r) e in
          let m = all_of_found no_turn (turn params) (IsTurn params) turn_found us y.0 y.1 all in
          let r_is : y.1 ≡ r = ap (λ z. z.1) pair in
          let first_is : Param i ≡ first = ap (λ z. z.0.0) pair in
          let rest_is : y.0 ≡ rest = ap (λ z. z.0.1) pair in
          let made : IsSum params (Param i) y.0 (named w ∷ us) y.1 = turns p m.0 in
          let at_r = subst (λ (vs : List Token). IsSum params (Param i) y.0 (named w ∷ us) vs) r_is made in
          let at_first = subst (λ x. IsSum params x y.0 (named w ∷ us) r) first_is at_r in
          subst (λ (xs : List Turn). IsSum params first xs (named w ∷ us) r) rest_is at_first

  pub sum_read : (first : Part) (rest : List Turn) (ts r : List Token) → IsSum params first rest ts r → no_turn r ≡ true → sum_at params ts ≡ Some ((first, rest), r)
  sum_read first rest ts r (number {w = w} p) e = rw p refl
  sum_read first rest ts r (turns {w = w} {ts = us} p m) e = rw (p, all_of_read no_turn (turn params) (IsTurn params) turn_shrinks turn_read rest us r m e) refl

-- ---- lengths

module _ {S A : Type 0} (P : A → List S → List S → Type 0) where
  pub many_length : ((a : A) (ts r : List S) → P a ts r → length r ≤ length ts) → (xs : List A) (ts r : List S) → Many P xs ts r → length r ≤ length ts
  many_length h xs ts r none = omega arith
  many_length h (x ∷ xs) ts r (more {middle = m} p k) =
      let a : length m ≤ length ts = h x ts m p in
      let b : length r ≤ length m = many_length h xs m r k in
      omega (arith, a, b)

next_length : (kind : List Token) (n : List ℕ) (ts r : List Token) → IsNextParameter kind n ts r → length r ≤ length ts
next_length kind n ts r (next e) = let l = length_behind kind r in omega (arith, l)

pub parameters_length : (kind : List Token) (ns : List (List ℕ)) (ts r : List Token) → AreParameters kind ns ts r → length r ≤ length ts
parameters_length kind ns ts r none = omega arith
parameters_length kind (n ∷ ns) ts r (some {ts = us} e m) =
    let l = length_behind kind us in
    let k : length r ≤ length us = many_length (IsNextParameter kind) (next_length kind) ns us r m in
    omega (arith, l, k)

pub sum_length : (params : List (List ℕ)) (first : Part) (rest : List Turn) (ts r : List Token) → IsSum params first rest ts r → length r < length ts
sum_length params first rest ts r (number p) = omega arith
sum_length params first rest ts r (turns {ts = us} p m) =
    let k : length r ≤ length us = many_length (IsTurn params) (λ t vs q h. let l : length q < length vs = turn_length params t vs q h in omega (arith, l)) rest us r m in
    omega (arith, k)

pub may_end_length : (ts r : List Token) → MayEnd ts r → length r ≤ length ts
may_end_length ts r absent = omega arith
may_end_length ts r present = omega arith

-- ---- semicolons and names

pub past_found : (ts : List Token) → MayEnd ts (past_semicolon ts)
past_found [] = absent
past_found (named w ∷ ts) = absent
past_found (arrowed ∷ ts) = absent
past_found (signed b ∷ ts) = go (b == 59) refl
  where
    go : (t : Bool) → (b == 59) ≡ t → MayEnd (signed b ∷ ts) (cond (b == 59) ts (signed b ∷ ts))
    go true e = let k : b ≡ 59 = search (rules, tests, e) in rw e (subst (λ x. MayEnd (signed x ∷ ts) ts) (sym k) present)
    go false e = rw e absent

-- no semicolon comes first
abbrev pub BeginsNoEnd : List Token → Type 0
BeginsNoEnd ts = past_semicolon ts ≡ ts

pub past_read : (ts r : List Token) → MayEnd ts r → BeginsNoEnd r → past_semicolon ts ≡ r
past_read ts r absent e = e
past_read ts r present e = refl

pub distinct_found : (ns ms : List (List ℕ)) → distinct_names ns ≡ Some ms → is_distinct ns ≡ true
distinct_found ns ms e = (if_some (is_distinct ns) ns ms e).0
