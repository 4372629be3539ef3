-- Which acts make a part of a kind, by their numbers.
use Rattle.std.proofs.Common.{◌≡◌, ℕ, zero, suc, ◌+◌, ◌-◌, ◌≤◌, Bool, true, false, List, [], ◌∷◌, length, Option, Some, None, refl, sym, ap, subst, ◌∙◌, arith}
use Rattle.std.specs.Prelude.{drop, slice_get, option_map, if◌then◌else◌}
use Rattle.std.proofs.lemmas.Bool.{false≢true}
use Rattle.std.proofs.lemmas.Option.{slice_get-map}
use Rattle.gv_grammar.specs.declared.levels.TheConstants.{FIRST_ACT}
use Rattle.gv_grammar.specs.Building.{Reduction, has_tops}
use Rattle.gv_grammar.specs.Derivation.{is_among}
use Rattle.gv_gosyntax.specs.declared.generated.gosyntax_acts.Part.{Part}
use Rattle.gv_gosyntax.specs.declared.node.Node.{Node}
use Rattle.gv_gosyntax.specs.declared.node.Node.TheVariants.{Made}
use Rattle.gv_gosyntax.specs.Making.{Making, reduction_of}
use Rattle.gv_gosyntax.specs.GosyntaxActs.{gosyntax_makings}
use Rattle.gv_gosyntax.specs.Nodes.{done_by, IsPartAt, IsFormed}
use Rattle.gv_gonodes.specs.Places.{IsMadeBy}
use Rattle.gv_gonodes.proofs.Opened.{opened, same_act, act_with}

-- the numbers of those whose parts pass a test, where the first one has this number
abbrev pub acts_of : (Part → Bool) → ℕ → List (Making Part) → List Part → List ℕ
acts_of test n [] parts = []
acts_of test n (m ∷ ms) parts = if test (m.makes parts) then n ∷ acts_of test (suc n) ms parts else acts_of test (suc n) ms parts

more_among : (b : Bool) (n at : ℕ) (ns : List ℕ) → is_among at ns ≡ true → is_among at (if b then n ∷ ns else ns) ≡ true
more_among true n at ns h = grind (arith)
more_among false n at ns h = h

first_among : (b : Bool) (n : ℕ) (ns : List ℕ) → b ≡ true → is_among n (if b then n ∷ ns else ns) ≡ true
first_among true n ns h = grind (arith)
first_among false n ns h = absurd (false≢true h)

among : (test : Part → Bool) (ms : List (Making Part)) (n i : ℕ) (parts : List Part) (m : Making Part) → slice_get ms i ≡ Some m
    → test (m.makes parts) ≡ true → is_among (n + i) (acts_of test n ms parts) ≡ true
among test [] n i parts m e h = absurd cc
among test (k ∷ ms) n zero parts m e h =
    let q : k ≡ m = cc in
    let z : n + 0 ≡ n = omega arith in
    subst (λ (a : ℕ). is_among a (acts_of test n (k ∷ ms) parts) ≡ true) (sym z)
    (first_among (test (k.makes parts)) n (acts_of test (suc n) ms parts) (ap (λ (x : Making Part). test (x.makes parts)) q ∙ h))
among test (k ∷ ms) n (suc i) parts m e h =
    let z : n + suc i ≡ suc n + i = omega arith in
    subst (λ (a : ℕ). is_among a (acts_of test n (k ∷ ms) parts) ≡ true) (sym z)
    (more_among (test (k.makes parts)) n (suc n + i) (acts_of test (suc n) ms parts) (among test ms (suc n) i parts m e h))

found_among : (found : Option (Making Part)) (test : Part → Bool) (i : ℕ) (parts rest : List Part) (part : Part) → slice_get gosyntax_makings i ≡ found → test part ≡ true
    → act_with (option_map reduction_of found) parts ≡ Some (part ∷ rest) → is_among (4 + i) (acts_of test 4 gosyntax_makings parts) ≡ true
found_among None test i parts rest part e passed h = absurd cc
found_among (Some m) test i parts rest part e passed h = go (has_tops m.takes parts) h
  where
    go : (b : Bool) → (if b then Some (m.makes parts ∷ drop (length m.takes) parts) else None) ≡ Some (part ∷ rest) → is_among (4 + i) (acts_of test 4 gosyntax_makings parts) ≡ true
    go false h = absurd cc
    go true h = let made : m.makes parts ≡ part = cc in among test gosyntax_makings 4 i parts m e (ap test made ∙ passed)

made_among : (test : Part → Bool) (act : ℕ) (parts rest : List Part) (part : Part) → FIRST_ACT ≤ act → test part ≡ true → done_by act parts ≡ Some (part ∷ rest)
    → is_among act (acts_of test 4 gosyntax_makings parts) ≡ true
unfolding done_by
made_among test act parts rest part l passed h =
    let z : act ≡ 4 + (act - FIRST_ACT) = omega (arith, l) in
    subst (λ (a : ℕ). is_among a (acts_of test 4 gosyntax_makings parts) ≡ true) (sym z)
    (found_among (slice_get gosyntax_makings (act - FIRST_ACT)) test (act - FIRST_ACT) parts rest part refl passed
    (subst (λ (found : Option (Reduction Part)). act_with found parts ≡ Some (part ∷ rest)) (slice_get-map reduction_of gosyntax_makings (act - FIRST_ACT)) h))

-- the act that made a part that passes a test
pub record Among (test : Part → Bool) (act : ℕ) : Type 0 where
  pub parts : List Part
  pub one_of : is_among act (acts_of test 4 gosyntax_makings parts) ≡ true

pub made_there : (test : Part → Bool) (nodes : List Node) (at act : ℕ) (part : Part) → FIRST_ACT ≤ act → IsMadeBy nodes at act → IsPartAt nodes at part → test part ≡ true → Among test act
made_there test nodes at act part l by is passed =
    let o = opened nodes at (Made by.raw by.from) part by.node is in
    record { parts = o.parts; one_of = made_among test act o.parts o.rest part l passed (same_act by.raw act o.parts by.number ∙ o.done) }
