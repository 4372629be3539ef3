-- Every sound stack derives something.
use Rattle.std.proofs.Common.{◌≡◌, ℕ, suc, zero, ◌+◌, ◌<◌, Bool, true, false, not, eqb, List, [], ◌∷◌, ◌++◌, length, Some, None, Option, refl, sym, ap, subst, ◌∙◌, arith}
use Rattle.std.specs.Prelude.{slice_get, slice_index, nat_lt}
use Rattle.std.specs.List.{list_all}
use Rattle.std.proofs.lemmas.Bool.{false≢true}
use Rattle.std.proofs.lemmas.Bool.Decides.{nat_tests}
use Rattle.gv_grammar.specs.declared.symbols.Symbol.{Symbol}
use Rattle.gv_grammar.specs.declared.symbols.Symbol.TheVariants.{Token, Name, Act}
use Rattle.gv_grammar.specs.declared.steps.Step.{Step}
use Rattle.gv_grammar.specs.declared.steps.Step.TheVariants.{Take, Do}
use Rattle.gv_grammar.specs.Derivation.{Tables, Derives, done, token, act, named, is_among, members, symbols_of, takes}
use Rattle.gv_grammar.specs.Predictive.{Certificate, is_known, is_shown_by, is_below, closes, is_rule_of, are_prompt}
use Rattle.gv_grammar.specs.declared.levels.TheConstants.{OPEN_BEFORE}
use Rattle.gv_grammar.proofs.Tests.{both, all_at, all_append}
use Rattle.gv_grammar.proofs.Theory.{derives_append, shown_facts}

-- a step that is no mark for the token taken last
abbrev pub is_prompt_step : Step → Bool
is_prompt_step Take = true
is_prompt_step (Do number) = not (eqb number OPEN_BEFORE)

abbrev pub are_prompt_steps : List Step → Bool
are_prompt_steps ps = list_all is_prompt_step ps

-- Some list is derived; without marks for the token taken last, where the symbols have none.
abbrev pub Derivable : Tables → List Symbol → Type 0
Derivable g ss = (ps : List Step) × (us : List ℕ) × Derives g ss ps us × (are_prompt ss ≡ true → are_prompt_steps ps ≡ true)

some_get : (xs : List ℕ) (i : ℕ) → nat_lt i (length xs) ≡ true → (x : ℕ) × (slice_get xs i ≡ Some x)
some_get [] i h = absurd (grind (arith, nat_tests))
some_get (x ∷ xs) zero h = (x, refl)
some_get (x ∷ xs) (suc i) h = some_get xs i (grind (arith, nat_tests))

rule_is : (g : Tables) (name rule : ℕ) → is_rule_of g name rule ≡ true → slice_get g.names rule ≡ Some name
rule_is g name rule h = go (slice_get g.names rule) refl h
  where
    go : (o : Option ℕ) → slice_get g.names rule ≡ o → (elim o [ None ↦ false | Some found ↦ eqb found name ]) ≡ true → slice_get g.names rule ≡ Some name
    go None e h = absurd (false≢true h)
    go (Some found) e h = let q : found ≡ name = grind (arith, nat_tests) in e ∙ ap Some q

taken : (g : Tables) (set : ℕ) (ms : List ℕ) → members g set ≡ ms → not (eqb (length ms) 0) ≡ true → (class : ℕ) × (takes g set class ≡ true)
taken g set [] e h = absurd (false≢true h)
taken g set (m ∷ ms) e h =
    let q : eqb m m ≡ true = grind (arith, nat_tests) in
    let t : is_among m (m ∷ ms) ≡ true = rw q refl in
    (m, subst (λ (xs : List ℕ). is_among m xs ≡ true) (sym e) t)

derivable_token : (g : Tables) (set : ℕ) (more : List Symbol) → not (eqb (length (members g set)) 0) ≡ true → Derivable g more → Derivable g (Token set ∷ more)
derivable_token g set more h (ps, us, d, q) = let (class, t) = taken g set (members g set) refl h in (Take ∷ ps, class ∷ us, token t d, q)

derivable_act : (g : Tables) (number : ℕ) (more : List Symbol) → Derivable g more → Derivable g (Act number ∷ more)
derivable_act g number more (ps, us, d, q) =
    let p : are_prompt (Act number ∷ more) ≡ true → are_prompt_steps (Do number ∷ ps) ≡ true = λ h. let h' = both (not (eqb number OPEN_BEFORE)) (are_prompt more) h in rw (h'.0) (q h'.1) in
    (Do number ∷ ps, us, act d, p)

derivable_more : (g : Tables) (name : ℕ) (more : List Symbol) → Derivable g (Name name ∷ []) → Derivable g more → Derivable g (Name name ∷ more)
derivable_more g name more (ps, us, d, q) (qs, vs, e, r) = (ps ++ qs, us ++ vs, derives_append g d e, λ h. all_append is_prompt_step ps qs (q refl) (r h))

module _ (g : Tables) (c : Certificate) where
  ends_below : (depth : ℕ) → ((name : ℕ) → nat_lt name (length c.closing) ≡ true → slice_index c.depth name < depth → Derivable g (Name name ∷ []))
      → (ss : List Symbol) → list_all (is_below g c depth) ss ≡ true → Derivable g ss
  ends_below depth f [] h = ([], [], done, λ q. refl)
  ends_below depth f (Token set ∷ more) h = let h' = both _ _ h in derivable_token g set more h'.0 (ends_below depth f more h'.1)
  ends_below depth f (Act number ∷ more) h = let h' = both _ _ h in derivable_act g number more (ends_below depth f more h'.1)
  ends_below depth f (Name name ∷ more) h =
      let h' = both _ _ h in
      let k = both _ _ h'.0 in
      derivable_more g name more (f name k.0 (lt k.1)) (ends_below depth f more h'.1)
    where
      lt : nat_lt (slice_index c.depth name) depth ≡ true → slice_index c.depth name < depth
      lt e = grind (arith, nat_tests)

  -- a rule that ends has no mark for the token taken last
  prompt_below : (depth : ℕ) (ss : List Symbol) → list_all (is_below g c depth) ss ≡ true → are_prompt ss ≡ true
  prompt_below depth [] h = refl
  prompt_below depth (Token set ∷ more) h = prompt_below depth more (both (is_below g c depth (Token set)) (list_all (is_below g c depth) more) h).1
  prompt_below depth (Name name ∷ more) h = prompt_below depth more (both (is_below g c depth (Name name)) (list_all (is_below g c depth) more) h).1
  prompt_below depth (Act number ∷ more) h = let h' = both (not (eqb number OPEN_BEFORE)) (list_all (is_below g c depth) more) h in rw (h'.0) (prompt_below depth more h'.1)

  module _ (shown : is_shown_by g c ≡ true) where
    ends_name : (depth name : ℕ) → nat_lt name (length c.closing) ≡ true → slice_index c.depth name < depth → Derivable g (Name name ∷ [])
    ends_name zero name h l = absurd (omega arith)
    ends_name (suc depth) name h l =
        let (rule, e) = some_get c.closing name h in
        let z : 0 + name ≡ name = omega arith in
        let k0 : closes g c (name, rule) ≡ true = subst (λ (n : ℕ). closes g c (n, rule) ≡ true) z (all_at (closes g c) c.closing 0 name rule (shown_facts g c shown).closing e) in
        let k = both _ _ k0 in
        let (ps, us, d, q) = ends_below (slice_index c.depth name) (λ n m j. ends_name depth n m (omega arith)) (symbols_of g rule) k.1 in
        (ps, us, named rule (rule_is g name rule k.0) (subst (λ (ss : List Symbol). Derives g ss ps us) (sym (nil (symbols_of g rule))) d), λ h. q (prompt_below (slice_index c.depth name) (symbols_of g rule) k.1))
      where
        nil : (xs : List Symbol) → xs ++ [] ≡ xs
        nil [] = refl
        nil (x ∷ xs) = ap (λ ys. x ∷ ys) (nil xs)

    -- every stack of known symbols
    pub ends : (ss : List Symbol) → list_all (is_known g c) ss ≡ true → Derivable g ss
    ends [] h = ([], [], done, λ q. refl)
    ends (Token set ∷ more) h = let h' = both _ _ h in derivable_token g set more h'.0 (ends more h'.1)
    ends (Act number ∷ more) h = derivable_act g number more (ends more h)
    ends (Name name ∷ more) h = let h' = both _ _ h in derivable_more g name more (ends_name (suc (slice_index c.depth name)) name h'.0 (omega arith)) (ends more h'.1)
