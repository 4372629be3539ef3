-- Which acts make a part of a kind, by the numbers of the acts.
use Rattle.std.proofs.Common.{◌≡◌, ℕ, zero, suc, ◌+◌, ◌-◌, Bool, true, false, ◌⊎◌, inl, inr, List, [], ◌∷◌, ◌++◌, length, Option, Some, None, refl, sym, ap, subst, ◌∙◌, arith}
use Rattle.std.specs.Prelude.{drop, slice_get, map, option_map, if◌then◌else◌}
use Rattle.std.proofs.lemmas.Bool.{false≢true}
use Rattle.std.proofs.lemmas.Option.{slice_get-map}
use Rattle.gv_grammar.specs.declared.levels.TheConstants.{FIRST_ACT}
use Rattle.gv_grammar.specs.Building.{Reduction, has_tops}
use Rattle.gv_grammar.specs.Derivation.{is_among}
use Rattle.gv_termread.specs.declared.generated.term_acts.Part.{Part}
use Rattle.gv_termread.specs.declared.generated.term_acts.Part.TheVariants.{Token as PToken, Term as PTerm}
use Rattle.gv_termread.specs.declared.placed.PlacedTerm.{PlacedTerm}
use Rattle.gv_termread.specs.TermActs.{is_token, is_term, term_acts, made_binary, made_unary, made_number, made_constant, made_variable, made_paren, made_maker, made_of_one, made_of_two, made_of_three}
use Rattle.gv_termread.specs.Trees.{number, constant, variable, in_parens, maker, apply, unary, binary}
use Rattle.gv_scriptsyntax.specs.declared.generated.script_acts.ScriptPart.{ScriptPart}
use Rattle.gv_scriptsyntax.specs.Making.{Making, reduction_of}
use Rattle.gv_scriptsyntax.specs.ScriptActs.{script_makings}
use Rattle.gv_scriptsyntax.specs.Nodes.{Parts, done_by}

-- ---- acts of terms make terms

abbrev MakesTerm : Reduction (Part ScriptPart) → Type 0
MakesTerm act = (parts rest : Parts) (part : Part ScriptPart) → has_tops act.takes parts ≡ true → act.makes parts ≡ part ∷ rest → is_term part ≡ true

abbrev AllMakeTerms : List (Reduction (Part ScriptPart)) → Type 0
AllMakeTerms [] = Unit {0}
AllMakeTerms (act ∷ acts) = MakesTerm act × AllMakeTerms acts

this_term : (t : PlacedTerm) (parts rest : Parts) (part : Part ScriptPart) → PTerm t ∷ parts ≡ part ∷ rest → is_term part ≡ true
this_term t parts rest part e = let q : part ≡ PTerm t = cc in ap is_term q

binary_makes : MakesTerm (record { takes = is_term ∷ is_token ∷ is_term ∷ []; makes = made_binary })
binary_makes (PTerm b ∷ PToken s ∷ PTerm a ∷ behind) rest part h e = this_term (binary s a b) behind rest part e
binary_makes other rest part h e = absurd (false≢true h)

unary_makes : MakesTerm (record { takes = is_term ∷ is_token ∷ []; makes = made_unary })
unary_makes (PTerm b ∷ PToken s ∷ behind) rest part h e = this_term (unary s b) behind rest part e
unary_makes other rest part h e = absurd (false≢true h)

number_makes : MakesTerm (record { takes = is_token ∷ []; makes = made_number })
number_makes (PToken s ∷ behind) rest part h e = this_term (number s) behind rest part e
number_makes other rest part h e = absurd (false≢true h)

constant_makes : MakesTerm (record { takes = is_token ∷ []; makes = made_constant })
constant_makes (PToken s ∷ behind) rest part h e = this_term (constant s) behind rest part e
constant_makes other rest part h e = absurd (false≢true h)

variable_makes : (text : List ℕ) → MakesTerm (record { takes = is_token ∷ []; makes = made_variable text })
variable_makes text (PToken s ∷ behind) rest part h e = this_term (variable text s) behind rest part e
variable_makes text other rest part h e = absurd (false≢true h)

paren_makes : MakesTerm (record { takes = is_token ∷ is_term ∷ is_token ∷ []; makes = made_paren })
paren_makes (PToken c ∷ PTerm a ∷ PToken o ∷ behind) rest part h e = this_term (in_parens o a) behind rest part e
paren_makes other rest part h e = absurd (false≢true h)

maker_makes : MakesTerm (record { takes = is_token ∷ is_term ∷ is_token ∷ is_token ∷ is_token ∷ is_token ∷ []; makes = made_maker })
maker_makes (PToken c ∷ PTerm a ∷ PToken s ∷ PToken k ∷ PToken o ∷ PToken f ∷ behind) rest part h e = this_term (maker f k a) behind rest part e
maker_makes other rest part h e = absurd (false≢true h)

of_one_makes : MakesTerm (record { takes = is_token ∷ is_term ∷ is_token ∷ is_token ∷ []; makes = made_of_one })
of_one_makes (PToken c ∷ PTerm a ∷ PToken o ∷ PToken f ∷ behind) rest part h e = this_term (apply f (a ∷ [])) behind rest part e
of_one_makes other rest part h e = absurd (false≢true h)

of_two_makes : MakesTerm (record { takes = is_token ∷ is_term ∷ is_token ∷ is_term ∷ is_token ∷ is_token ∷ []; makes = made_of_two })
of_two_makes (PToken c ∷ PTerm b ∷ PToken s ∷ PTerm a ∷ PToken o ∷ PToken f ∷ behind) rest part h e = this_term (apply f (a ∷ b ∷ [])) behind rest part e
of_two_makes other rest part h e = absurd (false≢true h)

of_three_makes : MakesTerm (record { takes = is_token ∷ is_term ∷ is_token ∷ is_term ∷ is_token ∷ is_term ∷ is_token ∷ is_token ∷ []; makes = made_of_three })
of_three_makes (PToken c ∷ PTerm d ∷ PToken r ∷ PTerm b ∷ PToken s ∷ PTerm a ∷ PToken o ∷ PToken f ∷ behind) rest part h e = this_term (apply f (a ∷ b ∷ d ∷ [])) behind rest part e
of_three_makes other rest part h e = absurd (false≢true h)

terms_make : (text : List ℕ) → AllMakeTerms (term_acts {O = ScriptPart} text)
terms_make text = (binary_makes, (unary_makes, (number_makes, (constant_makes, (variable_makes text, (paren_makes, (maker_makes, (of_one_makes, (of_two_makes, (of_three_makes, tt))))))))))

-- ---- own acts, by what they make

-- the numbers of those whose parts pass a test, where the first one has this number
abbrev pub acts_of : (Part ScriptPart → Bool) → ℕ → List (Making (Part ScriptPart)) → Parts → List ℕ
acts_of test n [] parts = []
acts_of test n (m ∷ ms) parts = if test (m.makes parts) then n ∷ acts_of test (suc n) ms parts else acts_of test (suc n) ms parts

more_among : (b : Bool) (n at : ℕ) (ns : List ℕ) → is_among at ns ≡ true → is_among at (if b then n ∷ ns else ns) ≡ true
more_among true n at ns h = grind (arith)
more_among false n at ns h = h

first_among : (b : Bool) (n : ℕ) (ns : List ℕ) → b ≡ true → is_among n (if b then n ∷ ns else ns) ≡ true
first_among true n ns h = grind (arith)
first_among false n ns h = absurd (false≢true h)

among : (test : Part ScriptPart → Bool) (ms : List (Making (Part ScriptPart))) (n i : ℕ) (parts : Parts) (m : Making (Part ScriptPart)) → slice_get ms i ≡ Some m
    → test (m.makes parts) ≡ true → is_among (n + i) (acts_of test n ms parts) ≡ true
among test [] n i parts m e h = absurd cc
among test (k ∷ ms) n zero parts m e h =
    let q : k ≡ m = cc in
    let z : n + 0 ≡ n = omega arith in
    subst (λ (a : ℕ). is_among a (acts_of test n (k ∷ ms) parts) ≡ true) (sym z)
    (first_among (test (k.makes parts)) n (acts_of test (suc n) ms parts) (ap (λ (x : Making (Part ScriptPart)). test (x.makes parts)) q ∙ h))
among test (k ∷ ms) n (suc i) parts m e h =
    let z : n + suc i ≡ suc n + i = omega arith in
    subst (λ (a : ℕ). is_among a (acts_of test n (k ∷ ms) parts) ≡ true) (sym z)
    (more_among (test (k.makes parts)) n (suc n + i) (acts_of test (suc n) ms parts) (among test ms (suc n) i parts m e h))

-- ---- all acts

abbrev act_with : Option (Reduction (Part ScriptPart)) → Parts → Option Parts
act_with found parts = if (elim found [ None ↦ false | Some act ↦ has_tops act.takes parts ]) then Some (elim found [ None ↦ parts | Some act ↦ act.makes parts ]) else None

-- an act of terms, or an own one
record Own (i : ℕ) (parts rest : Parts) (part : Part ScriptPart) : Type 0 where
  number : ℕ
  making : Making (Part ScriptPart)
  same : i ≡ 10 + number
  there : slice_get script_makings number ≡ Some making
  made : making.makes parts ≡ part

own_found : (found : Option (Making (Part ScriptPart))) (number : ℕ) (parts rest : Parts) (part : Part ScriptPart) → slice_get script_makings number ≡ found
    → act_with (option_map reduction_of found) parts ≡ Some (part ∷ rest) → Own (10 + number) parts rest part
own_found None number parts rest part e h = absurd cc
own_found (Some m) number parts rest part e h = go (has_tops m.takes parts) h
  where
    go : (b : Bool) → (if b then Some (m.makes parts ∷ drop (length m.takes) parts) else None) ≡ Some (part ∷ rest) → Own (10 + number) parts rest part
    go false h = absurd cc
    go true h = record { number = number; making = m; same = refl; there = e; made = cc }

term_or_own : (acts : List (Reduction (Part ScriptPart))) → AllMakeTerms acts → (i : ℕ) (parts rest : Parts) (part : Part ScriptPart)
    → act_with (slice_get (acts ++ map reduction_of script_makings) i) parts ≡ Some (part ∷ rest)
    → (is_term part ≡ true) ⊎ ((number : ℕ) × (i ≡ length acts + number) × (act_with (option_map reduction_of (slice_get script_makings number)) parts ≡ Some (part ∷ rest)))
term_or_own [] all i parts rest part h =
    inr (i, omega arith, subst (λ (found : Option (Reduction (Part ScriptPart))). act_with found parts ≡ Some (part ∷ rest)) (slice_get-map reduction_of script_makings i) h)
term_or_own (a ∷ acts) all zero parts rest part h = go (has_tops a.takes parts) refl h
  where
    go : (b : Bool) → has_tops a.takes parts ≡ b → (if b then Some (a.makes parts) else None) ≡ Some (part ∷ rest)
        → (is_term part ≡ true) ⊎ ((number : ℕ) × (zero ≡ length (a ∷ acts) + number) × (act_with (option_map reduction_of (slice_get script_makings number)) parts ≡ Some (part ∷ rest)))
    go false q h = absurd cc
    go true q h = inl (all.0 parts rest part q cc)
term_or_own (a ∷ acts) all (suc i) parts rest part h = elim (term_or_own acts all.1 i parts rest part h) [
  | inl t ↦ inl t
  | inr o ↦ inr (o.0, (let e = o.1 in omega (arith, e)), o.2)
]

-- of an act that makes something but a term, its number is among those whose parts pass a test that this passes
pub made_among : (text : List ℕ) (test : Part ScriptPart → Bool) (act : ℕ) (parts rest : Parts) (part : Part ScriptPart) → is_term part ≡ false → test part ≡ true
    → done_by text act parts ≡ Some (part ∷ rest) → is_among act (acts_of test 14 script_makings parts) ≡ true
unfolding done_by
made_among text test act parts rest part other passed h = elim (term_or_own (term_acts text) (terms_make text) (act - FIRST_ACT) parts rest part h) [
  | inl t ↦ absurd (false≢true (sym other ∙ t))
  | inr o ↦
      let own = own_found (slice_get script_makings o.0) o.0 parts rest part refl o.2 in
      let e = o.1 in
      let k = own.same in
      let z : act ≡ 14 + own.number = omega (arith, e, k) in
      subst (λ (a : ℕ). is_among a (acts_of test 14 script_makings parts) ≡ true) (sym z)
      (among test script_makings 14 own.number parts own.making own.there (ap test own.made ∙ passed))
]
