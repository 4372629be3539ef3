-- Marks for the token taken last.
use Rattle.std.proofs.Common.{◌≡◌, ℕ, suc, zero, ◌+◌, ◌-◌, ◌<◌, ◌≤◌, Bool, true, false, not, ◌&&◌, ◌||◌, List, [], ◌∷◌, ◌++◌, length, Some, None, Option, refl, sym, subst, arith}
use Rattle.std.specs.Prelude.{if◌then◌else◌, nat_lt, ◌==◌}
use Rattle.std.proofs.lemmas.Bool.{false≢true}
use Rattle.gv_grammar.specs.declared.symbols.Symbol.{Symbol}
use Rattle.gv_grammar.specs.declared.symbols.Symbol.TheVariants.{Token, Name, Act}
use Rattle.gv_grammar.specs.declared.steps.Step.{Step}
use Rattle.gv_grammar.specs.declared.steps.Step.TheVariants.{Take, Do}
use Rattle.gv_grammar.specs.declared.levels.TheConstants.{OPEN, SAVE, RESTORE, OPEN_BEFORE}
use Rattle.gv_grammar.specs.Derivation.{Tables, Derives, Spells, done, token, act, named, symbols_of, takes}
use Rattle.gv_grammar.specs.Predictive.{Certificate, MayBegin, certificate_of, is_shown_by, is_prompt, are_prompt, has_token_first, shows_late}
use Rattle.gv_grammar.specs.Engine.{IsSound}
use Rattle.gv_grammar.specs.Levels.{takes_in, top, below_top}
use Rattle.gv_grammar.proofs.Tests.{both, all_append}
use Rattle.gv_grammar.proofs.Theory.{rule_facts, sound_token, sound_act, sound_rule, sound_start}
use Rattle.gv_grammar.proofs.Ends.{ends, are_prompt_steps}
use Rattle.gv_grammar.proofs.Depths.{told_from, told_at, deep_told, near_of, one_if, two_if}
use Rattle.gv_grammar.specs.Levels.{deep_from}
use Rattle.gv_grammar.proofs.Narrowing.{shown_of}

-- no mark for the token taken last before the next one is taken
abbrev pub prompt_front : List Step → Bool
prompt_front [] = true
prompt_front (Take ∷ ps) = true
prompt_front (Do number ∷ ps) = not (number == OPEN_BEFORE) && prompt_front ps

-- the same behind this many tokens
abbrev prompt_after : ℕ → List Step → Bool
prompt_after zero ps = prompt_front ps
prompt_after (suc n) [] = true
prompt_after (suc n) (Take ∷ ps) = prompt_after n ps
prompt_after (suc n) (Do number ∷ ps) = prompt_after (suc n) ps

all_prompt : (ps : List Step) → are_prompt_steps ps ≡ true → prompt_front ps ≡ true
all_prompt [] h = refl
all_prompt (Take ∷ ps) h = refl
all_prompt (Do number ∷ ps) h = let h' = both (not (number == OPEN_BEFORE)) (are_prompt_steps ps) h in rw (h'.0) (all_prompt ps h'.1)

prompt_rest : (steps rest : List Step) (n : ℕ) → n ≡ takes_in steps → prompt_after n (steps ++ rest) ≡ true → prompt_front rest ≡ true
prompt_rest [] rest zero e h = h
prompt_rest [] rest (suc n) e h = absurd (omega (arith, e))
prompt_rest (Take ∷ steps) rest zero e h = absurd (omega (arith, e))
prompt_rest (Take ∷ steps) rest (suc n) e h = prompt_rest steps rest n (omega (arith, e)) h
prompt_rest (Do number ∷ steps) rest zero e h = prompt_rest steps rest zero e (both (not (number == OPEN_BEFORE)) (prompt_front (steps ++ rest)) h).1
prompt_rest (Do number ∷ steps) rest (suc n) e h = prompt_rest steps rest (suc n) e h

prompt_shows : (ss : List Symbol) → are_prompt ss ≡ true → shows_late ss ≡ true
prompt_shows [] h = refl
prompt_shows (Token set ∷ more) h = h
prompt_shows (Name name ∷ more) h = h
prompt_shows (Act number ∷ more) h = let h' = both (not (number == OPEN_BEFORE)) (are_prompt more) h in rw (h'.0) h'.1

first_append : (row more : List Symbol) → has_token_first row ≡ true → has_token_first (row ++ more) ≡ true
first_append [] more h = absurd (false≢true h)
first_append (Token set ∷ row) more h = refl
first_append (Name name ∷ row) more h = absurd (false≢true h)
first_append (Act number ∷ row) more h = absurd (false≢true h)

shows_append : (row more : List Symbol) → shows_late row ≡ true → are_prompt more ≡ true → shows_late (row ++ more) ≡ true
shows_append [] more h p = prompt_shows more p
shows_append (Token set ∷ row) more h p = all_append is_prompt row more h p
shows_append (Name name ∷ row) more h p = all_append is_prompt row more h p
shows_append (Act number ∷ row) more h p =
    let h' = both (not (number == OPEN_BEFORE) || has_token_first row) (are_prompt row) h in
    let q : are_prompt (row ++ more) ≡ true = all_append is_prompt row more h'.1 p in
    rw q (go (number == OPEN_BEFORE) h'.0)
  where
    go : (b : Bool) → (not b || has_token_first row) ≡ true → ((not b || has_token_first (row ++ more)) && true) ≡ true
    go true e = rw (first_append row more e) refl
    go false e = refl

module _ (g : Tables) (c : Certificate) (shown : is_shown_by g c ≡ true) where
  -- A list that begins so and whose steps have no mark for the last token of its front, which the next token would show.
  settle_from : (front rest : List ℕ) {ss : List Symbol} {ps : List Step} {ks : List ℕ} → IsSound g c ss → shows_late ss ≡ true → (front ≡ [] → are_prompt ss ≡ true)
      → Derives g ss ps ks → ks ≡ front ++ rest → (qs : List Step) × (vs : List ℕ) × Derives g ss qs (front ++ vs) × (prompt_after (length front) qs ≡ true)
  settle_from [] rest {ss = ss} s h p d e = let (qs, vs, d', q) = ends g c shown ss s.known in (qs, vs, d', all_prompt qs (q (p refl)))
  settle_from (k ∷ front) rest s h p done e = absurd cc
  settle_from (k ∷ front) rest s h p (token {set = set} {class = class} {more = more} {classes = ks} t d) e =
      let q : class ≡ k = cc in
      let r : ks ≡ front ++ rest = cc in
      let (qs, vs, d', a) = settle_from front rest (sound_token g c shown set more s) (prompt_shows more h) (λ _. h) d r in
      (Take ∷ qs, vs, token (subst (λ (x : ℕ). takes g set x ≡ true) q t) d', a)
  settle_from (k ∷ front) rest s h p (act {number = number} {more = more} d) e =
      let m = (both (not (number == OPEN_BEFORE) || has_token_first more) (are_prompt more) h).1 in
      let (qs, vs, d', a) = settle_from (k ∷ front) rest (sound_act g c shown number more s) (prompt_shows more m) (λ _. m) d e in
      (Do number ∷ qs, vs, act d', a)
  settle_from (k ∷ front) rest s h p (named {name = name} rule {more = more} n d) e =
      let f = rule_facts g c shown rule name n in
      let none : (k ∷ front) ≡ [] → are_prompt (symbols_of g rule ++ more) ≡ true = λ x. absurd cc in
      let (qs, vs, d', a) = settle_from (k ∷ front) rest (sound_rule g c shown rule name more n s) (shows_append (symbols_of g rule) more f.late h) none d e in
      (qs, vs, named rule n d', a)

pub settle : (g : Tables) (root : ℕ) → MayBegin g root → (front rest : List ℕ) (ps : List Step) → Spells g root ps (front ++ rest)
    → (qs : List Step) × (vs : List ℕ) × Spells g root qs (front ++ vs) × ((steps after : List Step) → qs ≡ steps ++ after → takes_in steps ≡ length front → prompt_front after ≡ true)
settle g root p front rest ps d =
    let (qs, vs, d', a) = settle_from g (certificate_of g) (shown_of g p.0) front rest (sound_start g (certificate_of g) (shown_of g p.0) root p.1) refl (λ _. refl) d refl in
    let q : (steps after : List Step) → qs ≡ steps ++ after → takes_in steps ≡ length front → prompt_front after ≡ true =
    λ steps after e t. prompt_rest steps after (length front) (sym t) (subst (λ (xs : List Step). prompt_after (length front) xs ≡ true) e a) in
    (qs, vs, d', q)

abbrev TokenFrom : ℕ → Option (ℕ × ℕ) → Type 0
TokenFrom at found = (x : ℕ × ℕ) → found ≡ Some x → at ≤ x.0

-- without such a mark, the token too deep is not behind
prompt_at : (limit level : ℕ) (saved : List ℕ) (at : ℕ) (ps : List Step) → prompt_front ps ≡ true → TokenFrom at (told_from limit level saved at ps)
prompt_at limit level saved at [] h x e = absurd cc
prompt_at limit level saved at (Take ∷ ps) h x e =
    let l = told_at limit level saved (at + 1) ps x e in
    let n = near_of (deep_from limit level saved (at + 1) ps) (told_from limit level saved (at + 1) ps) (deep_told limit level saved (at + 1) ps) x e in
    omega (arith, l, n)
prompt_at limit level saved at (Do number ∷ ps) h x e =
    one_if (TokenFrom at) (number == OPEN) (one_if (TokenFrom at) (nat_lt level limit) (prompt_at limit (level + 1) saved at ps h'.1) here)
    (apart (number == OPEN_BEFORE) _ _ h'.0
    (one_if (TokenFrom at) (number == SAVE) (prompt_at limit level (level ∷ saved) at ps h'.1)
    (one_if (TokenFrom at) (number == RESTORE) (prompt_at limit (top level saved) (below_top saved) at ps h'.1) (prompt_at limit level saved at ps h'.1)))) x e
  where
    h' : (not (number == OPEN_BEFORE) ≡ true) × (prompt_front ps ≡ true)
    h' = both (not (number == OPEN_BEFORE)) (prompt_front ps) h

    here : TokenFrom at (Some (at, at))
    here y f = let q : (at, at) ≡ y = cc in subst (λ (z : ℕ × ℕ). at ≤ z.0) q (omega arith)

    apart : (b : Bool) (y z : Option (ℕ × ℕ)) → not b ≡ true → TokenFrom at z → TokenFrom at (if b then y else z)
    apart true y z n t = absurd (false≢true n)
    apart false y z n t = t

abbrev Later : ℕ → Option (ℕ × ℕ) → Option (ℕ × ℕ) → Type 0
Later at before after = before ≡ None → (x : ℕ × ℕ) → after ≡ Some x → at ≤ x.0

found_now : (end : ℕ) (y : ℕ × ℕ) → Later end (Some y) (Some y)
found_now end y n x e = absurd cc

-- where nothing is found, what is found later is behind
pub later_prompt : (limit level : ℕ) (saved : List ℕ) (at : ℕ) (ps qs : List Step) → prompt_front qs ≡ true
    → Later (at + takes_in ps) (told_from limit level saved at ps) (told_from limit level saved at (ps ++ qs))
later_prompt limit level saved at [] qs h n x e = let l = prompt_at limit level saved at qs h x e in omega (arith, l)
later_prompt limit level saved at (Take ∷ ps) qs h n x e = let l = later_prompt limit level saved (at + 1) ps qs h n x e in omega (arith, l)
later_prompt limit level saved at (Do number ∷ ps) qs h n x e =
    let end = at + takes_in ps in
    two_if (Later end) (number == OPEN) (two_if (Later end) (nat_lt level limit) (later_prompt limit (level + 1) saved at ps qs h) (found_now end (at, at)))
    (two_if (Later end) (number == OPEN_BEFORE) (two_if (Later end) (nat_lt level limit) (later_prompt limit (level + 1) saved at ps qs h) (found_now end (at - 1, at)))
    (two_if (Later end) (number == SAVE) (later_prompt limit level (level ∷ saved) at ps qs h)
    (two_if (Later end) (number == RESTORE) (later_prompt limit (top level saved) (below_top saved) at ps qs h) (later_prompt limit level saved at ps qs h)))) n x e

takes_one : (g : Tables) {ss : List Symbol} {ps : List Step} {us : List ℕ} → has_token_first ss ≡ true → Derives g ss ps us → 0 < length us
takes_one g h done = absurd (false≢true h)
takes_one g h (token t d) = omega arith
takes_one g h (act d) = absurd (false≢true h)
takes_one g h (named rule n d) = absurd (false≢true h)

-- a token too deep that the next one shows has a next one before this end
abbrev Shown : ℕ → Option (ℕ × ℕ) → Type 0
Shown end found = (x : ℕ × ℕ) → found ≡ Some x → x.0 < x.1 → x.1 < end

module _ (g : Tables) (c : Certificate) (shown : is_shown_by g c ≡ true) where
  shown_from : {ss : List Symbol} {ps : List Step} {us : List ℕ} → shows_late ss ≡ true → Derives g ss ps us
      → (limit level : ℕ) (saved : List ℕ) (at : ℕ) → Shown (at + length us) (told_from limit level saved at ps)
  shown_from h done limit level saved at x e l = absurd cc
  shown_from h (token {more = more} t d) limit level saved at x e l =
      let b = shown_from (prompt_shows more h) d limit level saved (at + 1) x e l in omega (arith, b)
  shown_from h (act {number = number} {more = more} {steps = ps} {classes = us} d) limit level saved at x e l =
      let end = at + length us in
      let h' = both (not (number == OPEN_BEFORE) || has_token_first more) (are_prompt more) h in
      let s = prompt_shows more h'.1 in
      one_if (Shown end) (number == OPEN) (one_if (Shown end) (nat_lt level limit) (shown_from s d limit (level + 1) saved at) (itself end))
      (late (number == OPEN_BEFORE) h'.0 (shown_from s d limit (level + 1) saved at)
      (one_if (Shown end) (number == SAVE) (shown_from s d limit level (level ∷ saved) at)
      (one_if (Shown end) (number == RESTORE) (shown_from s d limit (top level saved) (below_top saved) at) (shown_from s d limit level saved at)))) x e l
    where
      itself : (end : ℕ) → Shown end (Some (at, at))
      itself end y f m = let q : (at, at) ≡ y = cc in absurd (subst (λ (z : ℕ × ℕ). z.0 < z.1 → ⊥) q (λ k. omega (arith, k)) m)

      late : (b : Bool) {z : Option (ℕ × ℕ)} → (not b || has_token_first more) ≡ true → Shown (at + length us) (told_from limit (level + 1) saved at ps) → Shown (at + length us) z
          → Shown (at + length us) (if b then (if nat_lt level limit then told_from limit (level + 1) saved at ps else Some (at - 1, at)) else z)
      late false f i t = t
      late true f i t = one_if (Shown (at + length us)) (nat_lt level limit) i last
        where
          last : Shown (at + length us) (Some (at - 1, at))
          last y m k =
              let q : (at - 1, at) ≡ y = cc in
              let n = takes_one g f d in
              subst (λ (z : ℕ × ℕ). z.1 < at + length us) q (omega (arith, n))
  shown_from h (named {name = name} rule {more = more} n d) limit level saved at x e l =
      let f = rule_facts g c shown rule name n in
      shown_from (shows_append (symbols_of g rule) more f.late h) d limit level saved at x e l

pub shown_within : (g : Tables) (root : ℕ) → MayBegin g root → (ps : List Step) (us : List ℕ) → Spells g root ps us → (limit level : ℕ) (x : ℕ × ℕ) → told_from limit level [] 0 ps ≡ Some x → x.0 < x.1 → x.1 < length us
shown_within g root p ps us d limit level x e l =
    let b = shown_from g (certificate_of g) (shown_of g p.0) refl d limit level [] 0 x e l in omega (arith, b)
