-- What a grammar has from the fragment that it contains.
use Rattle.std.proofs.Common.{eqb, ◌≡◌, ℕ, zero, suc, ◌+◌, Bool, true, false, List, [], ◌∷◌, ◌++◌, length, Option, Some, None, refl, sym, ap, subst, ◌∙◌, arith}
use Rattle.std.specs.Prelude.{slice_get, nat_lt, drop, if◌then◌else◌}
use Rattle.std.proofs.lemmas.Bool.Decides.{nat_tests}
use Rattle.gv_grammar.specs.declared.symbols.Symbol.{Symbol}
use Rattle.gv_grammar.specs.declared.symbols.Symbol.TheVariants.{Token, Name, Act}
use Rattle.gv_grammar.specs.declared.levels.TheConstants.{OPEN, FIRST_ACT}
use Rattle.gv_grammar.specs.Derivation.{Tables, symbols_of, members, takes, is_among}
use Rattle.gv_grammar.specs.Building.{Reduction, accepts, made_by, act_of}
use Rattle.gv_grammar.specs.Fragment.{Fragment, Contains, HasRules, HasSets}
use Rattle.gv_grammar.specs.Text.{Placed, plain, opens}
use Rattle.gv_grammar.proofs.Building.{accepted_within, accepts_first, made_first}
use Rattle.gv_grammar.proofs.Spelling.{Reading, effect, ru, tk_in, op_in, ac}
use Rattle.gv_grammar.proofs.Meaning.{Meant, RulesMean}

rule_in : (g : Tables) (names : List ℕ) (at : ℕ) (rules : List (ℕ × List Symbol)) → HasRules g names at rules → (i : ℕ) (rule : ℕ × List Symbol) → slice_get rules i ≡ Some rule
    → (slice_get names i ≡ Some rule.0) × (symbols_of g (at + i) ≡ rule.1)
rule_in g names at [] h i rule e = absurd cc
rule_in g [] at (r ∷ rules) h i rule e = absurd h
rule_in g (name ∷ names) at (r ∷ rules) h zero rule e =
    let q : r ≡ rule = cc in
    let z : at + 0 ≡ at = omega arith in
    subst (λ (x : ℕ × List Symbol). (Some name ≡ Some x.0) × (symbols_of g (at + 0) ≡ x.1)) q (ap Some h.0, rw z h.1)
rule_in g (name ∷ names) at (r ∷ rules) h (suc i) rule e =
    let z : at + suc i ≡ (at + 1) + i = omega arith in
    rw z (rule_in g names (at + 1) rules h.2 i rule e)

set_in : (g : Tables) (at : ℕ) (sets : List (List ℕ)) → HasSets g at sets → (i : ℕ) (set : List ℕ) → slice_get sets i ≡ Some set → members g (at + i) ≡ set
set_in g at [] h i set e = absurd cc
set_in g at (s ∷ sets) h zero set e =
    let q : s ≡ set = cc in
    let z : at + 0 ≡ at = omega arith in
    rw z (h.0 ∙ q)
set_in g at (s ∷ sets) h (suc i) set e =
    let z : at + suc i ≡ (at + 1) + i = omega arith in
    rw z (set_in g (at + 1) sets h.1 i set e)

-- a class is among itself alone
pub sole : (m : ℕ) {k : ℕ} → k ≡ m → is_among k (m ∷ []) ≡ true
sole m {k = k} e = let q : eqb m k ≡ true = grind (arith, nat_tests) in rw q refl

module _ {P : Type 0} {g : Tables} {acts : List (Reduction P)} {f : Fragment P} (c : Contains g acts f) where
  -- a set takes its classes and no others
  pub takes_of : (set k : ℕ) {row : List ℕ} → slice_get f.sets set ≡ Some row → takes g set k ≡ is_among k row
  takes_of set k {row = row} e =
      let z : 0 + set ≡ set = omega arith in
      ap (is_among k) (subst (λ (s : ℕ). members g s ≡ row) z (set_in g 0 f.sets c.sets set row e))

  -- a token that was taken is of a class of the set
  pub in_set : (set k : ℕ) {row : List ℕ} → slice_get f.sets set ≡ Some row → takes g set k ≡ true → is_among k row ≡ true
  in_set set k e h = sym (takes_of set k e) ∙ h

  module _ {X : Type 0} {class_of : X → ℕ} {part_of : X → P} where
    -- a name, by one of the fragment's rules
    pub ru_of : (rule : ℕ) {name : ℕ} {row : List Symbol} {s : List Symbol} {us : List (Placed X)} {n : ℕ} {kept : List ℕ} {parts : List P} {final : Option (List P)} → slice_get f.rules rule ≡ Some (name, row)
        → Reading g class_of part_of (act_of acts) (row ++ s) us n kept parts final → Reading g class_of part_of (act_of acts) (Name name ∷ s) us n kept parts final
    ru_of rule {name = name} {row = row} {s = s} {us = us} {n = n} {kept = kept} {parts = parts} {final = final} e r =
        let (a, b) = rule_in g g.names 0 f.rules c.rules rule (name, row) e in
        let z : 0 + rule ≡ rule = omega arith in
        ru rule a (subst (λ (ss : List Symbol). Reading g class_of part_of (act_of acts) (ss ++ s) us n kept parts final) (sym (subst (λ (i : ℕ). symbols_of g i ≡ row) z b)) r)

    -- a token that opens nothing, of a class in the set
    pub tk_of : (set : ℕ) {row : List ℕ} {t : X} {s : List Symbol} {us : List (Placed X)} {n : ℕ} {kept : List ℕ} {parts : List P} {final : Option (List P)} → slice_get f.sets set ≡ Some row → is_among (class_of t) row ≡ true
        → Reading g class_of part_of (act_of acts) s us n kept (part_of t ∷ parts) final → Reading g class_of part_of (act_of acts) (Token set ∷ s) (plain t ∷ us) n kept parts final
    tk_of set {t = t} e i r = tk_in set (takes_of set (class_of t) e ∙ i) r

    -- a token that opens a level, of a class in the set
    pub op_of : (set : ℕ) {row : List ℕ} {t : X} {s : List Symbol} {us : List (Placed X)} {n : ℕ} {kept : List ℕ} {parts : List P} {final : Option (List P)} → slice_get f.sets set ≡ Some row → is_among (class_of t) row ≡ true
        → Reading g class_of part_of (act_of acts) s us (n + 1) kept (part_of t ∷ parts) final → Reading g class_of part_of (act_of acts) (Act OPEN ∷ Token set ∷ s) (opens n t ∷ us) n kept parts final
    op_of set {t = t} e i r = op_in set (takes_of set (class_of t) e ∙ i) r

    -- one of the fragment's acts
    pub ac_of : (number : ℕ) {s : List Symbol} {us : List (Placed X)} {n : ℕ} {kept : List ℕ} {parts made : List P} {final : Option (List P)} → effect (act_of f.acts) number parts ≡ Some made
        → Reading g class_of part_of (act_of acts) s us n kept made final → Reading g class_of part_of (act_of acts) (Act number ∷ s) us n kept parts final
    ac_of number {parts = parts} {made = made} e r = ac number (go (nat_lt number FIRST_ACT) (accepts f.acts number parts) refl e) r
      where
        go : (mark accepted : Bool) → accepts f.acts number parts ≡ accepted → (if mark then None else (if accepted then Some (made_by f.acts number parts) else None)) ≡ Some made
            → (if mark then None else act_of acts number parts) ≡ Some made
        go true accepted a e = absurd cc
        go false false a e = absurd cc
        go false true a e =
            let l = accepted_within f.acts number parts a in
            let q : accepts acts number parts ≡ true = ap (λ (xs : List (Reduction P)). accepts xs number parts) c.same ∙ (accepts_first f.acts c.more number parts l ∙ a) in
            let m : made_by acts number parts ≡ made_by f.acts number parts = ap (λ (xs : List (Reduction P)). made_by xs number parts) c.same ∙ made_first f.acts c.more number parts l in
            rw (q, m) e

-- each of these rules keeps the meaning of its name
abbrev pub RowsMean : (g : Tables) (X : Type 0) (class_of : X → ℕ) (M : ℕ → List X → Type 0) → List (ℕ × List Symbol) → Type 0
RowsMean g X class_of M [] = Unit {0}
RowsMean g X class_of M (rule ∷ rules) = ((us : List X) → Meant g X class_of M rule.1 us → M rule.0 us) × RowsMean g X class_of M rules

-- the rules of a fragment, and then the others
pub with_rows : (g : Tables) (X : Type 0) (class_of : X → ℕ) (M : ℕ → List X → Type 0) (names : List ℕ) (at : ℕ) (rules : List (ℕ × List Symbol)) → HasRules g names at rules → RowsMean g X class_of M rules
    → RulesMean g X class_of M (drop (length rules) names) (at + length rules) → RulesMean g X class_of M names at
with_rows g X class_of M names at [] h m rest =
    let z : at + 0 ≡ at = omega arith in
    subst (λ (i : ℕ). RulesMean g X class_of M names i) z rest
with_rows g X class_of M [] at (rule ∷ rules) h m rest = absurd h
with_rows g X class_of M (name ∷ names) at (rule ∷ rules) h m rest =
    let z : at + suc (length rules) ≡ (at + 1) + length rules = omega arith in (
      λ us t. subst (λ (n : ℕ). M n us) (sym h.0) (m.0 us (subst (λ (ss : List Symbol). Meant g X class_of M ss us) h.1 t)),
      with_rows g X class_of M names (at + 1) rules h.2 m.1 (subst (λ (i : ℕ). RulesMean g X class_of M (drop (length rules) names) i) z rest),
    )
