-- Which acts make a part of a kind, by their numbers.
use Rattle.std.proofs.Common.{◌≡◌, ℕ, zero, suc, ◌-◌, ◌<◌, Bool, true, false, List, [], ◌∷◌, ◌++◌, length, Some, None, refl, sym, ap, ◌∙◌, arith}
use Rattle.std.specs.Prelude.{slice_get, map, if◌then◌else◌}
use Rattle.std.proofs.lemmas.Bool.{false≢true}
use Rattle.gv_grammar.specs.declared.levels.TheConstants.{FIRST_ACT}
use Rattle.gv_grammar.specs.Building.{Reduction, has_tops}
use Rattle.gv_grammar.specs.Derivation.{is_among}
use Rattle.gv_termread.specs.declared.generated.term_acts.Part.{Part}
use Rattle.gv_termread.specs.declared.generated.term_acts.Part.TheVariants.{Term as PTerm}
use Rattle.gv_termread.specs.declared.placed.PlacedTerm.{PlacedTerm}
use Rattle.gv_termread.specs.TermActs.{is_term, term_acts}
use Rattle.gv_scriptsyntax.specs.declared.generated.script_acts.ScriptPart.{ScriptPart}
use Rattle.gv_scriptsyntax.specs.declared.node.Node.{Node}
use Rattle.gv_scriptsyntax.specs.declared.node.Node.TheVariants.{Made}
use Rattle.gv_scriptsyntax.specs.Making.{Making, reduction_of}
use Rattle.gv_scriptsyntax.specs.ScriptActs.{script_makings}
use Rattle.gv_scriptsyntax.specs.Nodes.{Parts, done_by, IsPartAt}
use Rattle.gv_scriptnodes.proofs.Made.{acts_of, made_among}
use Rattle.gv_scriptnodes.proofs.Opened.{opened}
use Rattle.gv_certnodes.specs.Places.{IsMadeBy}
use Rattle.gv_certnodes.proofs.Opened.{same_act, act_with}

-- the act that made a part that passes a test
pub record Among (test : Part ScriptPart → Bool) (act : ℕ) : Type 0 where
  pub parts : Parts
  pub one_of : is_among act (acts_of test 14 script_makings parts) ≡ true

pub made_there : (test : Part ScriptPart → Bool) (text : List ℕ) (nodes : List Node) (at act : ℕ) (part : Part ScriptPart) → IsMadeBy nodes at act → IsPartAt text nodes at part
    → is_term part ≡ false → test part ≡ true → Among test act
made_there test text nodes at act part by is other passed =
    let o = opened text nodes at (Made by.raw by.from) part by.node is in
    record { parts = o.parts; one_of = made_among text test act o.parts o.rest part other passed (same_act text by.raw act o.parts by.number ∙ o.done) }

-- ---- terms: no own act makes one

abbrev NoTerm : Reduction (Part ScriptPart) → Type 0
NoTerm act = (parts rest : Parts) (t : PlacedTerm) → act.makes parts ≡ PTerm t ∷ rest → ⊥

abbrev AllNoTerm : List (Reduction (Part ScriptPart)) → Type 0
AllNoTerm [] = Unit {0}
AllNoTerm (act ∷ acts) = NoTerm act × AllNoTerm acts

abbrev some_term : List (Making (Part ScriptPart)) → Parts → Bool
some_term [] parts = false
some_term (m ∷ ms) parts = if is_term (m.makes parts) then true else some_term ms parts

no_terms : (parts : Parts) → some_term script_makings parts ≡ false
no_terms parts = refl

split : (b c : Bool) → (if b then true else c) ≡ false → (b ≡ false) × (c ≡ false)
split true c h = absurd cc
split false c h = (refl, h)

made_no_term : (m : Making (Part ScriptPart)) → ((parts : Parts) → is_term (m.makes parts) ≡ false) → NoTerm (reduction_of m)
made_no_term m none parts rest t e =
    let q : m.makes parts ≡ PTerm t = cc in
    false≢true (sym (none parts) ∙ ap is_term q)

own_no_term : (ms : List (Making (Part ScriptPart))) → ((parts : Parts) → some_term ms parts ≡ false) → AllNoTerm (map reduction_of ms)
own_no_term [] h = tt
own_no_term (m ∷ ms) h = (
  made_no_term m (λ parts. (split (is_term (m.makes parts)) (some_term ms parts) (h parts)).0),
  own_no_term ms (λ parts. (split (is_term (m.makes parts)) (some_term ms parts) (h parts)).1),
)

found_no_term : (acts : List (Reduction (Part ScriptPart))) → AllNoTerm acts → (i : ℕ) (parts rest : Parts) (t : PlacedTerm) → act_with (slice_get acts i) parts ≡ Some (PTerm t ∷ rest) → ⊥
found_no_term [] h i parts rest t e = cc
found_no_term (act ∷ acts) h zero parts rest t e = go (has_tops act.takes parts) e
  where
    go : (b : Bool) → (if b then Some (act.makes parts) else None) ≡ Some (PTerm t ∷ rest) → ⊥
    go false e = cc
    go true e = let r : act.makes parts ≡ PTerm t ∷ rest = cc in h.0 parts rest t r
found_no_term (act ∷ acts) h (suc i) parts rest t e = found_no_term acts h.1 i parts rest t e

-- an act that makes a term stands before all that make none
found_before : (acts own : List (Reduction (Part ScriptPart))) → AllNoTerm own → (i : ℕ) (parts rest : Parts) (t : PlacedTerm)
    → act_with (slice_get (acts ++ own) i) parts ≡ Some (PTerm t ∷ rest) → i < length acts
found_before [] own h i parts rest t e = absurd (found_no_term own h i parts rest t e)
found_before (act ∷ acts) own h zero parts rest t e = omega arith
found_before (act ∷ acts) own h (suc i) parts rest t e = let l = found_before acts own h i parts rest t e in omega (arith, l)

makes_term : (text : List ℕ) (act : ℕ) (parts rest : Parts) (t : PlacedTerm) → done_by text act parts ≡ Some (PTerm t ∷ rest) → act - FIRST_ACT < 10
unfolding done_by
makes_term text act parts rest t h = found_before (term_acts text) (map reduction_of script_makings) (own_no_term script_makings no_terms) (act - FIRST_ACT) parts rest t h

pub term_there : (text : List ℕ) (nodes : List Node) (at act : ℕ) (whole : PlacedTerm) → IsMadeBy nodes at act → IsPartAt text nodes at (PTerm whole) → act < 14
term_there text nodes at act whole by is =
    let o = opened text nodes at (Made by.raw by.from) (PTerm whole) by.node is in
    let l = makes_term text act o.parts o.rest whole (same_act text by.raw act o.parts by.number ∙ o.done) in
    omega (arith, l)
