-- No act makes a token, so a part that is a token is a node by itself.
use Rattle.std.proofs.Common.{◌≡◌, ℕ, zero, suc, ◌-◌, Bool, true, false, List, [], ◌∷◌, ◌++◌, Option, Some, None, refl, sym, ap, ◌∙◌}
use Rattle.std.specs.Prelude.{slice_get, map, if◌then◌else◌}
use Rattle.std.proofs.lemmas.Bool.{false≢true}
use Rattle.gv_grammar.specs.declared.levels.TheConstants.{FIRST_ACT}
use Rattle.gv_grammar.specs.Building.{Reduction, has_tops}
use Rattle.gv_termread.specs.declared.generated.term_acts.Part.{Part}
use Rattle.gv_termread.specs.declared.generated.term_acts.Part.TheVariants.{Token as PToken, Term as PTerm}
use Rattle.gv_termread.specs.declared.token.SeenToken.{SeenToken}
use Rattle.gv_termread.specs.TermActs.{is_token, is_term, term_acts, made_binary, made_unary, made_number, made_constant, made_variable, made_paren, made_maker, made_of_one, made_of_two, made_of_three}
use Rattle.gv_scriptsyntax.specs.declared.generated.script_acts.ScriptPart.{ScriptPart}
use Rattle.gv_scriptsyntax.specs.declared.node.Node.{Node}
use Rattle.gv_scriptsyntax.specs.declared.node.Node.TheVariants.{Token, Made}
use Rattle.gv_scriptsyntax.specs.Making.{Making, reduction_of}
use Rattle.gv_scriptsyntax.specs.ScriptActs.{script_acts, script_makings}
use Rattle.gv_scriptsyntax.specs.Nodes.{Parts, placed, done_by}
use Rattle.gv_scriptnodes.specs.Places.{IsChild, IsTokenOf}
use Rattle.gv_scriptnodes.proofs.Opened.{Opened, opened, part_at}

abbrev NoToken : Reduction (Part ScriptPart) → Type 0
NoToken act = (parts rest : Parts) (t : SeenToken) → has_tops act.takes parts ≡ true → act.makes parts ≡ PToken t ∷ rest → ⊥

abbrev AllNoToken : List (Reduction (Part ScriptPart)) → Type 0
AllNoToken [] = Unit {0}
AllNoToken (act ∷ acts) = NoToken act × AllNoToken acts

both_no_token : (xs ys : List (Reduction (Part ScriptPart))) → AllNoToken xs → AllNoToken ys → AllNoToken (xs ++ ys)
both_no_token [] ys h g = g
both_no_token (x ∷ xs) ys h g = (h.0, both_no_token xs ys h.1 g)

-- ---- own acts

abbrev some_token : List (Making (Part ScriptPart)) → Parts → Bool
some_token [] parts = false
some_token (m ∷ ms) parts = if is_token (m.makes parts) then true else some_token ms parts

no_tokens : (parts : Parts) → some_token script_makings parts ≡ false
no_tokens parts = refl

split : (b c : Bool) → (if b then true else c) ≡ false → (b ≡ false) × (c ≡ false)
split true c h = absurd cc
split false c h = (refl, h)

made_no_token : (m : Making (Part ScriptPart)) → ((parts : Parts) → is_token (m.makes parts) ≡ false) → NoToken (reduction_of m)
made_no_token m none parts rest t h e =
    let q : m.makes parts ≡ PToken t = cc in
    false≢true (sym (none parts) ∙ ap is_token q)

own_no_token : (ms : List (Making (Part ScriptPart))) → ((parts : Parts) → some_token ms parts ≡ false) → AllNoToken (map reduction_of ms)
own_no_token [] h = tt
own_no_token (m ∷ ms) h = (
  made_no_token m (λ parts. (split (is_token (m.makes parts)) (some_token ms parts) (h parts)).0),
  own_no_token ms (λ parts. (split (is_token (m.makes parts)) (some_token ms parts) (h parts)).1),
)

-- ---- acts of terms

binary_no_token : NoToken (record { takes = is_term ∷ is_token ∷ is_term ∷ []; makes = made_binary })
binary_no_token (PTerm b ∷ PToken s ∷ PTerm a ∷ behind) rest t h e = cc
binary_no_token other rest t h e = absurd (false≢true h)

unary_no_token : NoToken (record { takes = is_term ∷ is_token ∷ []; makes = made_unary })
unary_no_token (PTerm b ∷ PToken s ∷ behind) rest t h e = cc
unary_no_token other rest t h e = absurd (false≢true h)

number_no_token : NoToken (record { takes = is_token ∷ []; makes = made_number })
number_no_token (PToken s ∷ behind) rest t h e = cc
number_no_token other rest t h e = absurd (false≢true h)

constant_no_token : NoToken (record { takes = is_token ∷ []; makes = made_constant })
constant_no_token (PToken s ∷ behind) rest t h e = cc
constant_no_token other rest t h e = absurd (false≢true h)

variable_no_token : (text : List ℕ) → NoToken (record { takes = is_token ∷ []; makes = made_variable text })
variable_no_token text (PToken s ∷ behind) rest t h e = cc
variable_no_token text other rest t h e = absurd (false≢true h)

paren_no_token : NoToken (record { takes = is_token ∷ is_term ∷ is_token ∷ []; makes = made_paren })
paren_no_token (PToken c ∷ PTerm a ∷ PToken o ∷ behind) rest t h e = cc
paren_no_token other rest t h e = absurd (false≢true h)

maker_no_token : NoToken (record { takes = is_token ∷ is_term ∷ is_token ∷ is_token ∷ is_token ∷ is_token ∷ []; makes = made_maker })
maker_no_token (PToken c ∷ PTerm a ∷ PToken s ∷ PToken k ∷ PToken o ∷ PToken f ∷ behind) rest t h e = cc
maker_no_token other rest t h e = absurd (false≢true h)

of_one_no_token : NoToken (record { takes = is_token ∷ is_term ∷ is_token ∷ is_token ∷ []; makes = made_of_one })
of_one_no_token (PToken c ∷ PTerm a ∷ PToken o ∷ PToken f ∷ behind) rest t h e = cc
of_one_no_token other rest t h e = absurd (false≢true h)

of_two_no_token : NoToken (record { takes = is_token ∷ is_term ∷ is_token ∷ is_term ∷ is_token ∷ is_token ∷ []; makes = made_of_two })
of_two_no_token (PToken c ∷ PTerm b ∷ PToken s ∷ PTerm a ∷ PToken o ∷ PToken f ∷ behind) rest t h e = cc
of_two_no_token other rest t h e = absurd (false≢true h)

of_three_no_token : NoToken (record { takes = is_token ∷ is_term ∷ is_token ∷ is_term ∷ is_token ∷ is_term ∷ is_token ∷ is_token ∷ []; makes = made_of_three })
of_three_no_token (PToken c ∷ PTerm d ∷ PToken r ∷ PTerm b ∷ PToken s ∷ PTerm a ∷ PToken o ∷ PToken f ∷ behind) rest t h e = cc
of_three_no_token other rest t h e = absurd (false≢true h)

terms_no_token : (text : List ℕ) → AllNoToken (term_acts {O = ScriptPart} text)
terms_no_token text = (binary_no_token, (unary_no_token, (number_no_token, (constant_no_token, (variable_no_token text, (paren_no_token, (maker_no_token, (of_one_no_token, (of_two_no_token, (of_three_no_token, tt))))))))))

-- ---- all acts

abbrev act_with : Option (Reduction (Part ScriptPart)) → Parts → Option Parts
act_with found parts = if (elim found [ None ↦ false | Some act ↦ has_tops act.takes parts ]) then Some (elim found [ None ↦ parts | Some act ↦ act.makes parts ]) else None

found_no_token : (acts : List (Reduction (Part ScriptPart))) → AllNoToken acts → (i : ℕ) (parts rest : Parts) (t : SeenToken) → act_with (slice_get acts i) parts ≡ Some (PToken t ∷ rest) → ⊥
found_no_token [] h i parts rest t e = cc
found_no_token (act ∷ acts) h zero parts rest t e = go (has_tops act.takes parts) refl e
  where
    go : (b : Bool) → has_tops act.takes parts ≡ b → (if b then Some (act.makes parts) else None) ≡ Some (PToken t ∷ rest) → ⊥
    go false q e = cc
    go true q e = let r : act.makes parts ≡ PToken t ∷ rest = cc in h.0 parts rest t q r
found_no_token (act ∷ acts) h (suc i) parts rest t e = found_no_token acts h.1 i parts rest t e

pub makes_no_token : (text : List ℕ) (act : ℕ) (parts rest : Parts) (t : SeenToken) → done_by text act parts ≡ Some (PToken t ∷ rest) → ⊥
unfolding done_by
makes_no_token text act parts rest t h =
    found_no_token (script_acts text) (both_no_token (term_acts text) (map reduction_of script_makings) (terms_no_token text) (own_no_token script_makings no_tokens)) (act - FIRST_ACT) parts rest t h

-- a node that is a token is that token
pub token_there : (text : List ℕ) (nodes : List Node) (at number place : ℕ) (node : Node) (token : SeenToken) → IsChild text nodes at number place → slice_get nodes place ≡ Some node
    → ((t : SeenToken) → node ≡ Token t → token ≡ t) → IsTokenOf text nodes at number token
token_there text nodes at number place node token is there same = record {
  same = λ parts rest t before e. go parts rest t (opened text nodes place node (PToken t) there (part_at text nodes at number place parts rest (PToken t) is before e));
}
  where
    at_token : (n : Node) → node ≡ n → (t : SeenToken) (parts rest : Parts) → placed text n parts ≡ Some (PToken t ∷ rest) → token ≡ t
    at_token (Token u) q t parts rest h = let r : u ≡ t = cc in same u q ∙ r
    at_token (Made act from) q t parts rest h = absurd (makes_no_token text act parts rest t h)

    go : (parts rest : Parts) (t : SeenToken) → Opened text nodes place node (PToken t) → token ≡ t
    go parts rest t o = at_token node refl t o.parts o.rest o.done
