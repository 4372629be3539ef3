-- From what is spelled to its steps: readings, which grow symbol by symbol from the back.
use Rattle.std.proofs.Common.{◌≡◌, ◌⊎◌, ⊎_elim, ℕ, ◌+◌, ◌-◌, ◌≤◌, Bool, true, false, eqb, List, ◌∷◌, ◌++◌, Option, Some, None, refl, sym, ap, subst, ◌∙◌, append_assoc, arith}
use Rattle.std.specs.Prelude.{slice_get, nat_lt, map, if◌then◌else◌}
use Rattle.std.proofs.lemmas.Bool.Decides.{nat_tests}
use Rattle.gv_grammar.specs.declared.symbols.Symbol.{Symbol}
use Rattle.gv_grammar.specs.declared.symbols.Symbol.TheVariants.{Token, Name, Act}
use Rattle.gv_grammar.specs.declared.steps.Step.{Step}
use Rattle.gv_grammar.specs.declared.steps.Step.TheVariants.{Take, Do}
use Rattle.gv_grammar.specs.declared.levels.TheConstants.{OPEN, SAVE, RESTORE, OPEN_BEFORE, FIRST_ACT}
use Rattle.gv_grammar.specs.Derivation.{Tables, Derives, token, act, named, symbols_of, takes}
use Rattle.gv_grammar.specs.Levels.{deep_from}
use Rattle.gv_grammar.specs.Text.{Placed, plain, opens, tokens_of, first_above}
use Rattle.gv_grammar.specs.Building.{run}

-- The symbols derive the tokens, by steps that lead from parts to a result, and from a level to the levels of the tokens.
pub record Reading {X P : Type 0} (g : Tables) (class_of : X → ℕ) (part_of : X → P) (make : ℕ → List P → Option (List P))
    (ss : List Symbol) (us : List (Placed X)) (level : ℕ) (saved : List ℕ) (parts : List P) (final : Option (List P)) : Type 0 where
  pub steps : List Step
  pub derives : Derives g ss steps (map class_of (tokens_of us))
  pub runs : run part_of make steps (tokens_of us) parts ≡ final
  pub levels : (limit at : ℕ) → deep_from limit level saved at steps ≡ first_above limit at us

-- The same behind a token that opens a level, as the first of these tokens shows.
pub record Late {X P : Type 0} (g : Tables) (class_of : X → ℕ) (part_of : X → P) (make : ℕ → List P → Option (List P))
    (ss : List Symbol) (us : List (Placed X)) (level : ℕ) (saved : List ℕ) (parts : List P) (final : Option (List P)) : Type 0 where
  pub steps : List Step
  pub derives : Derives g ss steps (map class_of (tokens_of us))
  pub runs : run part_of make steps (tokens_of us) parts ≡ final
  pub levels : (limit at : ℕ) → deep_from limit level saved (at + 1) steps ≡ (if nat_lt level limit then first_above limit (at + 1) us else Some at)

-- what an act makes that is no mark
abbrev pub effect : {P : Type 0} → (ℕ → List P → Option (List P)) → ℕ → List P → Option (List P)
effect make number parts = if nat_lt number FIRST_ACT then None else make number parts

effect_is : {P : Type 0} {made : List P} (b : Bool) (x : Option (List P)) → (if b then None else x) ≡ Some made → (b ≡ false) × (x ≡ Some made)
effect_is true x e = absurd cc
effect_is false x e = (refl, e)

-- an act that is no mark leaves the levels
unmarked : (number limit level : ℕ) (saved : List ℕ) (at : ℕ) (steps : List Step) → nat_lt number FIRST_ACT ≡ false → deep_from limit level saved at (Do number ∷ steps) ≡ deep_from limit level saved at steps
unmarked number limit level saved at steps h =
    let l : 4 ≤ number = grind (arith, nat_tests) in
    let a : eqb number 0 ≡ false = grind (arith, nat_tests) in
    let b : eqb number 3 ≡ false = grind (arith, nat_tests) in
    let d : eqb number 1 ≡ false = grind (arith, nat_tests) in
    let e : eqb number 2 ≡ false = grind (arith, nat_tests) in
    rw (a, b, d, e) refl

module _ {X P : Type 0} {g : Tables} {class_of : X → ℕ} {part_of : X → P} {make : ℕ → List P → Option (List P)} where
  -- a token that opens nothing, of a class in the set
  pub tk_in : (set : ℕ) {t : X} {s : List Symbol} {us : List (Placed X)} {n : ℕ} {kept : List ℕ} {parts : List P} {final : Option (List P)} → takes g set (class_of t) ≡ true
      → Reading g class_of part_of make s us n kept (part_of t ∷ parts) final → Reading g class_of part_of make (Token set ∷ s) (plain t ∷ us) n kept parts final
  tk_in set e r = record {
    steps = Take ∷ r.steps;
    derives = token e r.derives;
    runs = r.runs;
    levels = λ limit at. r.levels limit (at + 1);
  }

  -- of this class
  pub tk : (set class : ℕ) {t : X} {s : List Symbol} {us : List (Placed X)} {n : ℕ} {kept : List ℕ} {parts : List P} {final : Option (List P)} → class_of t ≡ class → takes g set class ≡ true
      → Reading g class_of part_of make s us n kept (part_of t ∷ parts) final → Reading g class_of part_of make (Token set ∷ s) (plain t ∷ us) n kept parts final
  tk set class i e r = tk_in set (subst (λ (k : ℕ). takes g set k ≡ true) (sym i) e) r

  -- a token that opens a level, of a class in the set
  pub op_in : (set : ℕ) {t : X} {s : List Symbol} {us : List (Placed X)} {n : ℕ} {kept : List ℕ} {parts : List P} {final : Option (List P)} → takes g set (class_of t) ≡ true
      → Reading g class_of part_of make s us (n + 1) kept (part_of t ∷ parts) final → Reading g class_of part_of make (Act OPEN ∷ Token set ∷ s) (opens n t ∷ us) n kept parts final
  op_in set {n = n} e r = record {
    steps = Do OPEN ∷ Take ∷ r.steps;
    derives = act (token e r.derives);
    runs = r.runs;
    levels = λ limit at. ap (λ (found : Option ℕ). if nat_lt n limit then found else Some at) (r.levels limit (at + 1));
  }

  -- of this class
  pub op : (set class : ℕ) {t : X} {s : List Symbol} {us : List (Placed X)} {n : ℕ} {kept : List ℕ} {parts : List P} {final : Option (List P)} → class_of t ≡ class → takes g set class ≡ true
      → Reading g class_of part_of make s us (n + 1) kept (part_of t ∷ parts) final → Reading g class_of part_of make (Act OPEN ∷ Token set ∷ s) (opens n t ∷ us) n kept parts final
  op set class i e r = op_in set (subst (λ (k : ℕ). takes g set k ≡ true) (sym i) e) r

  -- a level is kept
  pub sv : {s : List Symbol} {us : List (Placed X)} {n : ℕ} {kept : List ℕ} {parts : List P} {final : Option (List P)}
      → Reading g class_of part_of make s us n (n ∷ kept) parts final → Reading g class_of part_of make (Act SAVE ∷ s) us n kept parts final
  sv r = record { steps = Do SAVE ∷ r.steps; derives = act r.derives; runs = r.runs; levels = r.levels }

  -- and given back
  pub rs : {s : List Symbol} {us : List (Placed X)} {n m : ℕ} {kept : List ℕ} {parts : List P} {final : Option (List P)}
      → Reading g class_of part_of make s us n kept parts final → Reading g class_of part_of make (Act RESTORE ∷ s) us m (n ∷ kept) parts final
  rs r = record { steps = Do RESTORE ∷ r.steps; derives = act r.derives; runs = r.runs; levels = r.levels }

  -- an act that is no mark
  pub ac : (number : ℕ) {s : List Symbol} {us : List (Placed X)} {level : ℕ} {kept : List ℕ} {parts made : List P} {final : Option (List P)} → effect make number parts ≡ Some made
      → Reading g class_of part_of make s us level kept made final → Reading g class_of part_of make (Act number ∷ s) us level kept parts final
  ac number {us = us} {level = level} {kept = kept} {parts = parts} {made = made} e r =
      let (none, q) = effect_is (nat_lt number FIRST_ACT) (make number parts) e in
      record {
        steps = Do number ∷ r.steps;
        derives = act r.derives;
        runs = rw (none, q) r.runs;
        levels = λ limit at. unmarked number limit level kept at r.steps none ∙ r.levels limit at;
      }

  -- a name, by one of its rules
  pub ru : (rule : ℕ) {name : ℕ} {s : List Symbol} {us : List (Placed X)} {n : ℕ} {kept : List ℕ} {parts : List P} {final : Option (List P)} → slice_get g.names rule ≡ Some name
      → Reading g class_of part_of make (symbols_of g rule ++ s) us n kept parts final → Reading g class_of part_of make (Name name ∷ s) us n kept parts final
  ru rule e r = record { steps = r.steps; derives = named rule e r.derives; runs = r.runs; levels = r.levels }

  -- the mark for the token before, with the token that shows it
  pub late_mark : (set class : ℕ) {t : X} {s : List Symbol} {us : List (Placed X)} {n : ℕ} {kept : List ℕ} {parts : List P} {final : Option (List P)} → class_of t ≡ class → takes g set class ≡ true
      → Reading g class_of part_of make s us (n + 1) kept (part_of t ∷ parts) final → Late g class_of part_of make (Act OPEN_BEFORE ∷ Token set ∷ s) (plain t ∷ us) n kept parts final
  late_mark set class {t = t} {us = us} {n = n} {kept = kept} i e r = record {
    steps = Do OPEN_BEFORE ∷ Take ∷ r.steps;
    derives = act (token (subst (λ (k : ℕ). takes g set k ≡ true) (sym i) e) r.derives);
    runs = r.runs;
    levels = λ limit at.
        let q : (at + 1) - 1 ≡ at = omega arith in
        rw q (ap (λ (found : Option ℕ). if nat_lt n limit then found else Some at) (r.levels limit ((at + 1) + 1)));
  }

  pub late_rule : (rule : ℕ) {name : ℕ} {s : List Symbol} {us : List (Placed X)} {n : ℕ} {kept : List ℕ} {parts : List P} {final : Option (List P)} → slice_get g.names rule ≡ Some name
      → Late g class_of part_of make (symbols_of g rule ++ s) us n kept parts final → Late g class_of part_of make (Name name ∷ s) us n kept parts final
  late_rule rule e r = record { steps = r.steps; derives = named rule e r.derives; runs = r.runs; levels = r.levels }

  -- the token that opens a level, as the next one shows
  pub late_token : (set class : ℕ) {t : X} {s : List Symbol} {us : List (Placed X)} {n : ℕ} {kept : List ℕ} {parts : List P} {final : Option (List P)} → class_of t ≡ class → takes g set class ≡ true
      → Late g class_of part_of make s us n kept (part_of t ∷ parts) final → Reading g class_of part_of make (Token set ∷ s) (opens n t ∷ us) n kept parts final
  late_token set class i e r = record {
    steps = Take ∷ r.steps;
    derives = token (subst (λ (k : ℕ). takes g set k ≡ true) (sym i) e) r.derives;
    runs = r.runs;
    levels = λ limit at. r.levels limit at;
  }

  -- lists regrouped
  pub re : {ss : List Symbol} {n : ℕ} {kept : List ℕ} {parts : List P} {final : Option (List P)} (xs ys zs : List (Placed X))
      → Reading g class_of part_of make ss (xs ++ (ys ++ zs)) n kept parts final → Reading g class_of part_of make ss ((xs ++ ys) ++ zs) n kept parts final
  re {ss} {n} {kept} {parts} {final} xs ys zs r = subst (λ (us : List (Placed X)). Reading g class_of part_of make ss us n kept parts final) (sym (append_assoc xs ys zs)) r

-- a token of one of two classes that a set has
pub one_of_two : (g : Tables) (set a b k : ℕ) → takes g set a ≡ true → takes g set b ≡ true → (k ≡ a) ⊎ (k ≡ b) → takes g set k ≡ true
one_of_two g set a b k p q h =
    ⊎_elim (λ (e : k ≡ a). subst (λ (j : ℕ). takes g set j ≡ true) (sym e) p) (λ (e : k ≡ b). subst (λ (j : ℕ). takes g set j ≡ true) (sym e) q) h
