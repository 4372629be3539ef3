-- The levels along the steps are those of the tokens.
use Rattle.std.proofs.Common.{◌≡◌, ℕ, suc, ◌+◌, ◌-◌, ◌<◌, ◌≤◌, Bool, true, false, List, [], ◌∷◌, ◌++◌, length, Some, None, Option, refl, sym, ap, subst, ◌∙◌, arith}
use Rattle.std.specs.Prelude.{if◌then◌else◌, nat_lt, ◌==◌}
use Rattle.gv_grammar.specs.declared.symbols.Symbol.{Symbol}
use Rattle.gv_grammar.specs.declared.steps.Step.{Step}
use Rattle.gv_grammar.specs.declared.steps.Step.TheVariants.{Take, Do}
use Rattle.gv_grammar.specs.Derivation.{Tables, Derives, Spells, done, token, act, named, symbols_of}
use Rattle.gv_grammar.specs.Predictive.{Certificate, MayBegin, certificate_of, is_shown_by, entry}
use Rattle.gv_grammar.specs.Engine.{look, IsSound}
use Rattle.gv_grammar.specs.declared.levels.TheConstants.{OPEN, SAVE, RESTORE, OPEN_BEFORE}
use Rattle.gv_grammar.specs.Levels.{deep_from, takes_in, top, below_top}
use Rattle.gv_grammar.proofs.Theory.{entry_of, sound_token, sound_act, sound_rule, sound_start}
use Rattle.gv_grammar.proofs.Narrowing.{shown_of}

pub takes_append : (xs ys : List Step) → takes_in (xs ++ ys) ≡ takes_in xs + takes_in ys
takes_append [] ys = omega arith
takes_append (Take ∷ xs) ys = let e = takes_append xs ys in omega (arith, e)
takes_append (Do number ∷ xs) ys = takes_append xs ys

-- a step a token
pub counted : {g : Tables} {ss : List Symbol} {ps : List Step} {us : List ℕ} → Derives g ss ps us → takes_in ps ≡ length us
counted done = refl
counted (token t d) = let e = counted d in omega (arith, e)
counted (act d) = counted d
counted (named rule n d) = counted d

-- Both branches keep a claim.
pub one_if : {X : Type 0} (P : X → Type 0) (b : Bool) {x y : X} → P x → P y → P (if b then x else y)
one_if P true p q = p
one_if P false p q = q

pub two_if : {X Y : Type 0} (P : X → Y → Type 0) (b : Bool) {x y : X} {x' y' : Y} → P x x' → P y y' → P (if b then x else y) (if b then x' else y')
two_if P true p q = p
two_if P false p q = q

-- as `deep_from`, with the number of the token that shows it
abbrev pub told_from : ℕ → ℕ → List ℕ → ℕ → List Step → Option (ℕ × ℕ)
told_from limit level saved at [] = None
told_from limit level saved at (Take ∷ steps) = told_from limit level saved (at + 1) steps
told_from limit level saved at (Do number ∷ steps) =
    if number == OPEN then (if nat_lt level limit then told_from limit (level + 1) saved at steps else Some (at, at))
    else (if number == OPEN_BEFORE then (if nat_lt level limit then told_from limit (level + 1) saved at steps else Some (at - 1, at))
    else (if number == SAVE then told_from limit level (level ∷ saved) at steps
    else (if number == RESTORE then told_from limit (top level saved) (below_top saved) at steps
    else told_from limit level saved at steps)))

-- the same token; it shows itself, or the next one does
abbrev pub Matches : Option ℕ → Option (ℕ × ℕ) → Type 0
Matches None None = Unit {0}
Matches None (Some x) = ⊥
Matches (Some i) None = ⊥
Matches (Some i) (Some x) = (i ≡ x.0) × (i ≤ x.1) × (x.1 ≤ i + 1)

pub deep_told : (limit level : ℕ) (saved : List ℕ) (at : ℕ) (ps : List Step) → Matches (deep_from limit level saved at ps) (told_from limit level saved at ps)
deep_told limit level saved at [] = tt
deep_told limit level saved at (Take ∷ ps) = deep_told limit level saved (at + 1) ps
deep_told limit level saved at (Do number ∷ ps) =
    two_if Matches (number == OPEN) (two_if Matches (nat_lt level limit) (deep_told limit (level + 1) saved at ps) (refl, omega arith, omega arith))
    (two_if Matches (number == OPEN_BEFORE) (two_if Matches (nat_lt level limit) (deep_told limit (level + 1) saved at ps) (refl, omega arith, omega arith))
    (two_if Matches (number == SAVE) (deep_told limit level (level ∷ saved) at ps)
    (two_if Matches (number == RESTORE) (deep_told limit (top level saved) (below_top saved) at ps) (deep_told limit level saved at ps))))

pub told_of : (deep : Option ℕ) (told : Option (ℕ × ℕ)) → Matches deep told → (i : ℕ) → deep ≡ Some i → (m : ℕ) × (told ≡ Some (i, m)) × (i ≤ m) × (m ≤ i + 1)
told_of None told h i e = absurd cc
told_of (Some j) None h i e = absurd h
told_of (Some j) (Some x) h i e =
    let q : j ≡ i = cc in
    let p : x.0 ≡ i = sym h.0 ∙ q in
    (x.1, ap (λ (k : ℕ). Some (k, x.1)) p, subst (λ (k : ℕ). k ≤ x.1) q h.1, subst (λ (k : ℕ). x.1 ≤ k + 1) q h.2)

pub deep_of : (deep : Option ℕ) (told : Option (ℕ × ℕ)) → Matches deep told → (x : ℕ × ℕ) → told ≡ Some x → deep ≡ Some x.0
deep_of None None h x e = absurd cc
deep_of None (Some y) h x e = absurd h
deep_of (Some j) None h x e = absurd h
deep_of (Some j) (Some y) h x e = let q : y ≡ x = cc in ap (λ (k : ℕ). Some k) (h.0 ∙ ap (λ (z : ℕ × ℕ). z.0) q)

pub none_of : (deep : Option ℕ) (told : Option (ℕ × ℕ)) → Matches deep told → deep ≡ None → told ≡ None
none_of None None h e = refl
none_of None (Some y) h e = absurd h
none_of (Some j) told h e = absurd cc

pub near_of : (deep : Option ℕ) (told : Option (ℕ × ℕ)) → Matches deep told → (x : ℕ × ℕ) → told ≡ Some x → x.1 ≤ x.0 + 1
near_of None None h x e = absurd cc
near_of None (Some y) h x e = absurd h
near_of (Some j) None h x e = absurd h
near_of (Some j) (Some y) h x e =
    let q : y ≡ x = cc in
    let l : y.1 ≤ y.0 + 1 = subst (λ (k : ℕ). y.1 ≤ k + 1) h.0 h.2 in
    subst (λ (z : ℕ × ℕ). z.1 ≤ z.0 + 1) q l

abbrev FromAt : ℕ → Option (ℕ × ℕ) → Type 0
FromAt at found = (x : ℕ × ℕ) → found ≡ Some x → at ≤ x.1

some_from : (at i : ℕ) → FromAt at (Some (i, at))
some_from at i x f = let q : (i, at) ≡ x = cc in subst (λ (y : ℕ × ℕ). at ≤ y.1) q (omega arith)

-- the token that shows it is not behind
pub told_at : (limit level : ℕ) (saved : List ℕ) (at : ℕ) (ps : List Step) → FromAt at (told_from limit level saved at ps)
told_at limit level saved at [] x e = absurd cc
told_at limit level saved at (Take ∷ ps) x e = let l = told_at limit level saved (at + 1) ps x e in omega (arith, l)
told_at limit level saved at (Do number ∷ ps) x e =
    one_if (FromAt at) (number == OPEN) (one_if (FromAt at) (nat_lt level limit) (told_at limit (level + 1) saved at ps) (some_from at at))
    (one_if (FromAt at) (number == OPEN_BEFORE) (one_if (FromAt at) (nat_lt level limit) (told_at limit (level + 1) saved at ps) (some_from at (at - 1)))
    (one_if (FromAt at) (number == SAVE) (told_at limit level (level ∷ saved) at ps)
    (one_if (FromAt at) (number == RESTORE) (told_at limit (top level saved) (below_top saved) at ps) (told_at limit level saved at ps)))) x e

abbrev Keeps : Option (ℕ × ℕ) → Option (ℕ × ℕ) → Type 0
Keeps before after = (x : ℕ × ℕ) → before ≡ Some x → after ≡ Some x

same_kept : (y : ℕ × ℕ) → Keeps (Some y) (Some y)
same_kept y x e = e

-- what is found is found whatever follows
pub told_more : (limit level : ℕ) (saved : List ℕ) (at : ℕ) (ps qs : List Step) → Keeps (told_from limit level saved at ps) (told_from limit level saved at (ps ++ qs))
told_more limit level saved at [] qs x e = absurd cc
told_more limit level saved at (Take ∷ ps) qs x e = told_more limit level saved (at + 1) ps qs x e
told_more limit level saved at (Do number ∷ ps) qs x e =
    two_if Keeps (number == OPEN) (two_if Keeps (nat_lt level limit) (told_more limit (level + 1) saved at ps qs) (same_kept (at, at)))
    (two_if Keeps (number == OPEN_BEFORE) (two_if Keeps (nat_lt level limit) (told_more limit (level + 1) saved at ps qs) (same_kept (at - 1, at)))
    (two_if Keeps (number == SAVE) (told_more limit level (level ∷ saved) at ps qs)
    (two_if Keeps (number == RESTORE) (told_more limit (top level saved) (below_top saved) at ps qs) (told_more limit level saved at ps qs)))) x e

abbrev Agree : ℕ → Option (ℕ × ℕ) → Option (ℕ × ℕ) → Type 0
Agree end one other = (x : ℕ × ℕ) → one ≡ Some x → x.1 < end → other ≡ Some x

same_agrees : (end : ℕ) (y : ℕ × ℕ) → Agree end (Some y) (Some y)
same_agrees end y x e l = e

module _ (g : Tables) (c : Certificate) (shown : is_shown_by g c ≡ true) where
  -- Two lists with a common front agree on a token too deep that is shown in it.
  agree_from : (front us vs : List ℕ) {ss : List Symbol} {ps qs : List Step} {ks ls : List ℕ} → IsSound g c ss
      → Derives g ss ps ks → ks ≡ front ++ us → Derives g ss qs ls → ls ≡ front ++ vs
      → (limit level : ℕ) (saved : List ℕ) (at : ℕ) → Agree (at + length front) (told_from limit level saved at ps) (told_from limit level saved at qs)
  agree_from [] us vs {ps = ps} s d e d' e' limit level saved at x f l = let b = told_at limit level saved at ps x f in absurd (omega (arith, b, l))
  agree_from (k ∷ front) us vs s done e d' e' limit level saved at x f l = absurd cc
  agree_from (k ∷ front) us vs s (token {set = set} {more = more} {classes = ks} t d) e (token {classes = ls} t' d') e' limit level saved at x f l =
      let q : ks ≡ front ++ us = cc in
      let q' : ls ≡ front ++ vs = cc in
      let l' : x.1 < (at + 1) + length front = omega (arith, l) in
      agree_from front us vs (sound_token g c shown set more s) d q d' q' limit level saved (at + 1) x f l'
  agree_from (k ∷ front) us vs s (act {number = number} {more = more} d) e (act d') e' limit level saved at x f l =
      let r = sound_act g c shown number more s in
      let end = at + suc (length front) in
      two_if (Agree end) (number == OPEN) (two_if (Agree end) (nat_lt level limit) (agree_from (k ∷ front) us vs r d e d' e' limit (level + 1) saved at) (same_agrees end (at, at)))
      (two_if (Agree end) (number == OPEN_BEFORE) (two_if (Agree end) (nat_lt level limit) (agree_from (k ∷ front) us vs r d e d' e' limit (level + 1) saved at) (same_agrees end (at - 1, at)))
      (two_if (Agree end) (number == SAVE) (agree_from (k ∷ front) us vs r d e d' e' limit level (level ∷ saved) at)
      (two_if (Agree end) (number == RESTORE) (agree_from (k ∷ front) us vs r d e d' e' limit (top level saved) (below_top saved) at) (agree_from (k ∷ front) us vs r d e d' e' limit level saved at)))) x f l
  agree_from (k ∷ front) us vs {ps = ps} {qs = qs} {ks = ks} {ls = ls} s (named {name = name} rule {more = more} n d) e (named rule' n' d') e' limit level saved at x f l =
      let a = entry_of g c shown rule name more ps ks s n d in
      let b = entry_of g c shown rule' name more qs ls s n' d' in
      let w : look ks ≡ look ls = ap look e ∙ sym (ap look e') in
      let q : entry g name (look ks) ≡ entry g name (look ls) = ap (entry g name) w in
      let r : rule' ≡ rule = omega (arith, a, b, q) in
      agree_from (k ∷ front) us vs (sound_rule g c shown rule name more n s) d e (subst (λ (y : ℕ). Derives g (symbols_of g y ++ more) qs ls) r d') e' limit level saved at x f l

-- the same from a root on
pub agree : (g : Tables) (root : ℕ) → MayBegin g root → (front us vs : List ℕ) (ps qs : List Step) → Spells g root ps (front ++ us) → Spells g root qs (front ++ vs)
    → (limit level : ℕ) (x : ℕ × ℕ) → told_from limit level [] 0 ps ≡ Some x → x.1 < length front → told_from limit level [] 0 qs ≡ Some x
agree g root p front us vs ps qs d d' limit level x f l = agree_from g (certificate_of g) (shown_of g p.0) front us vs (sound_start g (certificate_of g) (shown_of g p.0) root p.1) d refl d' refl limit level [] 0 x f (omega (arith, l))
