-- What a predictive table gives.
use Rattle.std.proofs.Common.{◌≡◌, ℕ, ◌+◌, ◌<◌, Bool, true, false, cond, ◌&&◌, eqb, List, [], ◌∷◌, ◌++◌, length, Some, ◌⊎◌, inl, inr, ⊎_elim, refl, sym, subst, ◌∙◌, arith, append_assoc}
use Rattle.std.specs.Prelude.{slice_get, slice_index, nat_lt, drop, ◌*◌}
use Rattle.std.proofs.lemmas.List.{get_or-drop}
use Rattle.std.specs.List.{enumerate_from, list_all}
use Rattle.std.proofs.lemmas.Bool.Decides.{nat_tests}
use Rattle.gv_grammar.specs.declared.symbols.Symbol.{Symbol}
use Rattle.gv_grammar.specs.declared.symbols.Symbol.TheVariants.{Token, Name, Act}
use Rattle.gv_grammar.specs.declared.steps.Step.{Step}
use Rattle.gv_grammar.specs.Derivation.{Tables, Derives, done, token, act, named, is_among, members, symbols_of}
use Rattle.gv_grammar.specs.Predictive.{Certificate, row, is_empty, empties, beginnings, reach, follows_hold, is_known, predicts, entry, rule_holds, root_holds, is_shown_by, is_within, closes, shows_late}
use Rattle.gv_grammar.specs.Engine.{look, Begins, Fits, IsSound}
use Rattle.gv_grammar.proofs.Tests.{both, either_left, either_right, then_so, among_append, within_among, all_among, all_append, all_at}

-- derivations side by side
pub derives_append : (g : Tables) {xs ys : List Symbol} {ps : List Step} {us : List ℕ} {qs : List Step} {vs : List ℕ} → Derives g xs ps us → Derives g ys qs vs → Derives g (xs ++ ys) (ps ++ qs) (us ++ vs)
derives_append g done e = e
derives_append g (token t d) e = token t (derives_append g d e)
derives_append g (act d) e = act (derives_append g d e)
derives_append g {ys = ys} {qs = qs} {vs = vs} (named rule {more = more} {steps = rules} {classes = classes} n d) e =
    named rule n (subst (λ (ss : List Symbol). Derives g ss (rules ++ qs) (classes ++ vs)) (append_assoc (symbols_of g rule) more ys) (derives_append g d e))

module _ (g : Tables) (c : Certificate) where
  -- a class that may be the first of what these symbols derive
  abbrev pub Starts : List Symbol → ℕ → Type 0
  Starts [] k = ⊥
  Starts (Token set ∷ more) k = is_among k (members g set) ≡ true
  Starts (Act number ∷ more) k = Starts more k
  Starts (Name name ∷ more) k = (is_among k (row c.first name) ≡ true) ⊎ ((is_empty c name ≡ true) × Starts more k)

  starts_listed : (xs : List Symbol) (k : ℕ) → Starts xs k → is_among k (beginnings g c xs) ≡ true
  starts_listed [] k h = absurd h
  starts_listed (Token set ∷ more) k h = h
  starts_listed (Act number ∷ more) k h = starts_listed more k h
  starts_listed (Name name ∷ more) k h =
      rw among_append (⊎_elim (λ i. either_left _ _ i)
      (λ i. let j : is_among k (cond (is_empty c name) (beginnings g c more) []) ≡ true = rw (i.0) (starts_listed more k i.1) in either_right _ _ j) h)

  begins_append : (xs ys : List Symbol) (k : ℕ) → Begins g c (xs ++ ys) k → Starts xs k ⊎ ((empties g c xs ≡ true) × Begins g c ys k)
  begins_append [] ys k h = inr (refl, h)
  begins_append (Token set ∷ more) ys k h = inl h
  begins_append (Act number ∷ more) ys k h = begins_append more ys k h
  begins_append (Name name ∷ more) ys k h =
      ⊎_elim (λ i. inl (inl i))
      (λ i. ⊎_elim (λ j. inl (inr (i.0, j))) (λ j. inr (rw (i.0) j.0, j.1)) (begins_append more ys k i.1)) h

  reach_append : (xs ys : List Symbol) → reach g c (xs ++ ys) ≡ reach g c xs + cond (empties g c xs) (reach g c ys) 0
  reach_append [] ys = omega arith
  reach_append (Token set ∷ more) ys = refl
  reach_append (Act number ∷ more) ys = rw (reach_append more ys) (omega arith)
  reach_append (Name name ∷ more) ys =
      elim (is_empty c name) as (λ b. slice_index c.weight name + cond b (reach g c (more ++ ys)) 0 ≡ (slice_index c.weight name + cond b (reach g c more) 0) + cond (b && empties g c more) (reach g c ys) 0) [
        | true ↦ rw (reach_append more ys) (omega arith)
        | false ↦ omega arith
      ]

  pub record RuleFacts (rule name : ℕ) : Type 0 where
    pub known : list_all (is_known g c) (symbols_of g rule) ≡ true
    pub first : is_within (beginnings g c (symbols_of g rule)) (row c.first name) ≡ true
    pub empty : empties g c (symbols_of g rule) ≡ true → is_empty c name ≡ true
    pub follow : follows_hold g c name (symbols_of g rule) ≡ true
    pub predicted : predicts g c name rule (beginnings g c (symbols_of g rule)) ≡ true
    pub predicted_empty : empties g c (symbols_of g rule) ≡ true → predicts g c name rule (row c.follow name) ≡ true
    pub falls : nat_lt (reach g c (symbols_of g rule)) (slice_index c.weight name) ≡ true
    pub late : shows_late (symbols_of g rule) ≡ true

  -- what the whole test says
  pub record ShownFacts : Type 0 where
    pub roots : list_all (root_holds g c) g.roots ≡ true
    pub rules : list_all (rule_holds g c) (enumerate_from 0 g.names) ≡ true
    pub closing : list_all (closes g c) (enumerate_from 0 c.closing) ≡ true

  pub shown_facts : is_shown_by g c ≡ true → ShownFacts
  shown_facts shown =
      let rules = list_all (rule_holds g c) (enumerate_from 0 g.names) in
      let closing = list_all (closes g c) (enumerate_from 0 c.closing) in
      let h1 = both (list_all (root_holds g c) g.roots) (rules && closing) shown in
      let h2 = both rules closing h1.1 in
      record { roots = h1.0; rules = h2.0; closing = h2.1 }

  module _ (shown : is_shown_by g c ≡ true) where
    pub rule_facts : (rule name : ℕ) → slice_get g.names rule ≡ Some name → RuleFacts rule name
    rule_facts rule name e =
        let z : 0 + rule ≡ rule = omega arith in
        let h0 : rule_holds g c (rule, name) ≡ true = subst (λ (r : ℕ). rule_holds g c (r, name) ≡ true) z (all_at (rule_holds g c) g.names 0 rule name (shown_facts shown).rules e) in
        let h1 = both _ _ h0 in
        let h2 = both _ _ h1.1 in
        let h3 = both _ _ h2.1 in
        let h4 = both _ _ h3.1 in
        let h5 = both _ _ h4.1 in
        let h6 = both _ _ h5.1 in
        let h7 = both _ _ h6.1 in
        record {
          known = h1.0;
          first = h2.0;
          empty = then_so _ _ h3.0;
          follow = h4.0;
          predicted = h5.0;
          predicted_empty = then_so _ _ h6.0;
          falls = h7.0;
          late = h7.1;
        }

    -- what is derived begins as foreseen
    pub begins : {ss : List Symbol} {ps : List Step} {us : List ℕ} → Derives g ss ps us → Begins g c ss (look us)
    begins done = refl
    begins (token t d) = t
    begins (act d) = begins d
    begins (named {name = name} rule {more = more} {classes = us} n d) =
        let f = rule_facts rule name n in
        ⊎_elim (λ i. inl (within_among (look us) _ _ f.first (starts_listed (symbols_of g rule) (look us) i)))
        (λ i. inr (f.empty i.0, i.1)) (begins_append (symbols_of g rule) more (look us) (begins d))

    fits_append : (name : ℕ) (xs ys : List Symbol) → follows_hold g c name xs ≡ true → ((k : ℕ) → Begins g c ys k → is_among k (row c.follow name) ≡ true)
        → Fits g c ys → Fits g c (xs ++ ys)
    fits_append name [] ys h b f = f
    fits_append name (Token set ∷ more) ys h b f = fits_append name more ys h b f
    fits_append name (Act number ∷ more) ys h b f = fits_append name more ys h b f
    fits_append name (Name inner ∷ more) ys h b f =
        let h1 = both _ _ h in
        let h2 = both _ _ h1.1 in (
          λ k i. ⊎_elim (λ j. within_among k _ _ h1.0 (starts_listed more k j))
              (λ j. within_among k _ _ (then_so _ _ h2.0 j.0) (b k j.1)) (begins_append more ys k i),
          fits_append name more ys h2.1 b f,
        )

    -- a rule keeps the stack sound
    pub sound_rule : (rule name : ℕ) (more : List Symbol) → slice_get g.names rule ≡ Some name → IsSound g c (Name name ∷ more) → IsSound g c (symbols_of g rule ++ more)
    sound_rule rule name more n s =
        let f = rule_facts rule name n in
        record {
          fits = fits_append name (symbols_of g rule) more f.follow s.fits.0 s.fits.1;
          known = all_append (is_known g c) (symbols_of g rule) more f.known (both _ _ s.known).1;
        }

    pub sound_token : (set : ℕ) (more : List Symbol) → IsSound g c (Token set ∷ more) → IsSound g c more
    sound_token set more s = record { fits = s.fits; known = (both _ _ s.known).1 }

    pub sound_act : (number : ℕ) (more : List Symbol) → IsSound g c (Act number ∷ more) → IsSound g c more
    sound_act number more s = record { fits = s.fits; known = s.known }

    -- and falls
    pub reach_rule : (rule name : ℕ) (more : List Symbol) → slice_get g.names rule ≡ Some name → reach g c (symbols_of g rule ++ more) < reach g c (Name name ∷ more)
    reach_rule rule name more n =
        let f = rule_facts rule name n in
        let l : reach g c (symbols_of g rule) < slice_index c.weight name = grind (arith, nat_tests, f.falls) in
        rw (reach_append (symbols_of g rule) more) (go (empties g c (symbols_of g rule)) f.empty l)
      where
        go : (b : Bool) → (b ≡ true → is_empty c name ≡ true) → reach g c (symbols_of g rule) < slice_index c.weight name
            → reach g c (symbols_of g rule) + cond b (reach g c more) 0 < slice_index c.weight name + cond (is_empty c name) (reach g c more) 0
        go true e l = rw (e refl) (omega arith)
        go false e l = omega arith

    -- a rule that goes on is the table's
    pub entry_of : (rule name : ℕ) (more : List Symbol) (ps : List Step) (us : List ℕ) → IsSound g c (Name name ∷ more) → slice_get g.names rule ≡ Some name
        → Derives g (symbols_of g rule ++ more) ps us → entry g name (look us) ≡ rule + 1
    entry_of rule name more ps us s n d =
        let f = rule_facts rule name n in
        in_line (name * g.width) (look us) g.table ∙
        ⊎_elim (λ i. same (all_among (λ class. eqb (slice_index (drop (name * g.width) g.table) class) (rule + 1)) (look us) (beginnings g c (symbols_of g rule)) f.predicted (starts_listed (symbols_of g rule) (look us) i)))
        (λ i. same (all_among (λ class. eqb (slice_index (drop (name * g.width) g.table) class) (rule + 1)) (look us) (row c.follow name) (f.predicted_empty i.0) (s.fits.0 (look us) i.1)))
        (begins_append (symbols_of g rule) more (look us) (begins d))
      where
        same : {m k : ℕ} → eqb m k ≡ true → m ≡ k
        same h = grind (arith, nat_tests)

        in_line : (n k : ℕ) (xs : List ℕ) → slice_index xs (n + k) ≡ slice_index (drop n xs) k
        in_line n k xs = sym (get_or-drop n xs k 0)

    -- the one rule that may go on is the table's
    pub decided : (name : ℕ) (more : List Symbol) (ps : List Step) (us : List ℕ) → IsSound g c (Name name ∷ more) → Derives g (Name name ∷ more) ps us
        → (rule : ℕ) × (slice_get g.names rule ≡ Some name) × (entry g name (look us) ≡ rule + 1) × Derives g (symbols_of g rule ++ more) ps us
    decided name more ps us s (named rule n d) = (rule, n, entry_of rule name more ps us s n d, d)

    -- a root alone
    pub sound_start : (root : ℕ) → is_among root g.roots ≡ true → IsSound g c (Name root ∷ [])
    sound_start root i =
        let h = both (nat_lt root (length c.closing)) (is_among 0 (row c.follow root)) (all_among (root_holds g c) root g.roots (shown_facts shown).roots i) in
        record { fits = (λ k b. subst (λ (j : ℕ). is_among j (row c.follow root) ≡ true) (sym b) h.1, tt); known = rw (h.0) refl }
