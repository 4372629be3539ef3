-- What nodes name is what their part names.
use Rattle.std.proofs.Common.{◌≡◌, ℕ, zero, suc, ◌+◌, ◌-◌, Bool, true, false, List, [], ◌∷◌, ◌++◌, Option, Some, None, refl, sym, ap, ◌∙◌, arith}
use Rattle.std.specs.Prelude.{take, slice_get, map, if◌then◌else◌}
use Rattle.std.specs.Option.{option_and_then}
use Rattle.std.proofs.lemmas.Bool.{false≢true}
use Rattle.gv_grammar.specs.declared.levels.TheConstants.{FIRST_ACT}
use Rattle.gv_grammar.specs.Building.{Reduction, has_tops}
use Rattle.gv_termread.specs.declared.generated.term_acts.Part.{Part}
use Rattle.gv_termread.specs.declared.generated.term_acts.Part.TheVariants.{Token as PToken, Term as PTerm}
use Rattle.gv_termread.specs.TermActs.{is_token, is_term, made_binary, made_unary, made_number, made_constant, made_variable, made_paren, made_maker, made_of_one, made_of_two, made_of_three}
use Rattle.gv_scriptsyntax.specs.declared.generated.script_acts.ScriptPart.{ScriptPart}
use Rattle.gv_scriptsyntax.specs.declared.node.Node.{Node}
use Rattle.gv_scriptsyntax.specs.declared.node.Node.TheVariants.{Token, Made}
use Rattle.gv_scriptsyntax.specs.Making.{Making, reduction_of}
use Rattle.gv_scriptsyntax.specs.ScriptActs.{script_acts, script_makings}
use Rattle.gv_scriptsyntax.specs.Nodes.{Parts, placed, built, done_by}
use Rattle.gv_scriptsyntax.proofs.Nodes.{built_end}
use Rattle.gv_scriptnames.specs.Mentions.{Mentions}
use Rattle.gv_scriptnodes.specs.Gathered.{in_parts, named_by, by_node, named_at}
use Rattle.gv_scriptnodes.proofs.Opened.{take_one}
use Rattle.gv_scriptnodes.proofs.Gathering.{nil_right}
use Rattle.gv_scriptnodes.proofs.CommandActs.{AllAdd, own_add}

abbrev Adding : ℕ → Reduction (Part ScriptPart) → Type 0
Adding n act = (parts : Parts) → has_tops act.takes parts ≡ true → in_parts (act.makes parts) ≡ in_parts parts ++ named_by n parts

abbrev AllAdding : ℕ → List (Reduction (Part ScriptPart)) → Type 0
AllAdding n [] = Unit {0}
AllAdding n (act ∷ acts) = Adding n act × AllAdding (suc n) acts

own_adding : (n : ℕ) (ms : List (Making (Part ScriptPart))) → AllAdd n ms → AllAdding n (map reduction_of ms)
own_adding n [] all = tt
own_adding n (m ∷ ms) all = (all.0, own_adding (suc n) ms all.1)

-- ---- acts of terms

binary_adding : Adding 4 (record { takes = is_term ∷ is_token ∷ is_term ∷ []; makes = made_binary })
binary_adding (PTerm b ∷ PToken s ∷ PTerm a ∷ rest) h = simp (nil_right) refl
binary_adding other h = absurd (false≢true h)

unary_adding : Adding 5 (record { takes = is_term ∷ is_token ∷ []; makes = made_unary })
unary_adding (PTerm b ∷ PToken s ∷ rest) h = simp (nil_right) refl
unary_adding other h = absurd (false≢true h)

number_adding : Adding 6 (record { takes = is_token ∷ []; makes = made_number })
number_adding (PToken s ∷ rest) h = simp (nil_right) refl
number_adding other h = absurd (false≢true h)

constant_adding : Adding 7 (record { takes = is_token ∷ []; makes = made_constant })
constant_adding (PToken s ∷ rest) h = simp (nil_right) refl
constant_adding other h = absurd (false≢true h)

variable_adding : (text : List ℕ) → Adding 8 (record { takes = is_token ∷ []; makes = made_variable text })
variable_adding text (PToken s ∷ rest) h = simp (nil_right) refl
variable_adding text other h = absurd (false≢true h)

paren_adding : Adding 9 (record { takes = is_token ∷ is_term ∷ is_token ∷ []; makes = made_paren })
paren_adding (PToken c ∷ PTerm a ∷ PToken o ∷ rest) h = simp (nil_right) refl
paren_adding other h = absurd (false≢true h)

maker_adding : Adding 10 (record { takes = is_token ∷ is_term ∷ is_token ∷ is_token ∷ is_token ∷ is_token ∷ []; makes = made_maker })
maker_adding (PToken c ∷ PTerm a ∷ PToken s ∷ PToken k ∷ PToken o ∷ PToken f ∷ rest) h = simp (nil_right) refl
maker_adding other h = absurd (false≢true h)

of_one_adding : Adding 11 (record { takes = is_token ∷ is_term ∷ is_token ∷ is_token ∷ []; makes = made_of_one })
of_one_adding (PToken c ∷ PTerm a ∷ PToken o ∷ PToken f ∷ rest) h = simp (nil_right) refl
of_one_adding other h = absurd (false≢true h)

of_two_adding : Adding 12 (record { takes = is_token ∷ is_term ∷ is_token ∷ is_term ∷ is_token ∷ is_token ∷ []; makes = made_of_two })
of_two_adding (PToken c ∷ PTerm b ∷ PToken s ∷ PTerm a ∷ PToken o ∷ PToken f ∷ rest) h = simp (nil_right) refl
of_two_adding other h = absurd (false≢true h)

of_three_adding : Adding 13 (record { takes = is_token ∷ is_term ∷ is_token ∷ is_term ∷ is_token ∷ is_term ∷ is_token ∷ is_token ∷ []; makes = made_of_three })
of_three_adding (PToken c ∷ PTerm d ∷ PToken r ∷ PTerm b ∷ PToken s ∷ PTerm a ∷ PToken o ∷ PToken f ∷ rest) h = simp (nil_right) refl
of_three_adding other h = absurd (false≢true h)

all_adding : (text : List ℕ) → AllAdding 4 (script_acts text)
all_adding text = (binary_adding, (unary_adding, (number_adding, (constant_adding, (variable_adding text, (paren_adding, (maker_adding, (of_one_adding, (of_two_adding, (of_three_adding, own_adding 14 script_makings own_add))))))))))

-- ---- all acts

abbrev act_with : Option (Reduction (Part ScriptPart)) → Parts → Option Parts
act_with found parts = if (elim found [ None ↦ false | Some act ↦ has_tops act.takes parts ]) then Some (elim found [ None ↦ parts | Some act ↦ act.makes parts ]) else None

found_adding : (n : ℕ) (acts : List (Reduction (Part ScriptPart))) → AllAdding n acts → (i : ℕ) (parts made : Parts) → act_with (slice_get acts i) parts ≡ Some made
    → in_parts made ≡ in_parts parts ++ named_by (n + i) parts
found_adding n [] all i parts made e = absurd cc
found_adding n (act ∷ acts) all zero parts made e = go (has_tops act.takes parts) refl e
  where
    go : (b : Bool) → has_tops act.takes parts ≡ b → (if b then Some (act.makes parts) else None) ≡ Some made → in_parts made ≡ in_parts parts ++ named_by (n + zero) parts
    go false q e = absurd cc
    go true q e =
        let r : made ≡ act.makes parts = cc in
        let z : n ≡ n + zero = omega arith in
        ap in_parts r ∙ (all.0 parts q ∙ ap (λ (k : ℕ). in_parts parts ++ named_by k parts) z)
found_adding n (act ∷ acts) all (suc i) parts made e =
    let z : suc n + i ≡ n + suc i = omega arith in
    found_adding (suc n) acts all.1 i parts made e ∙ ap (λ (k : ℕ). in_parts parts ++ named_by k parts) z

-- the marks name nothing, as the first act does
same_named : (act : ℕ) (parts : Parts) → named_by (4 + (act - FIRST_ACT)) parts ≡ named_by act parts
same_named zero parts = refl
same_named (suc zero) parts = refl
same_named (suc (suc zero)) parts = refl
same_named (suc (suc (suc zero))) parts = refl
same_named (suc (suc (suc (suc n)))) parts = let z : 4 + (suc (suc (suc (suc n))) - FIRST_ACT) ≡ suc (suc (suc (suc n))) = omega arith in ap (λ (k : ℕ). named_by k parts) z

pub done_adding : (text : List ℕ) (act : ℕ) (parts made : Parts) → done_by text act parts ≡ Some made → in_parts made ≡ in_parts parts ++ named_by act parts
unfolding done_by
done_adding text act parts made h =
    found_adding 4 (script_acts text) (all_adding text) (act - FIRST_ACT) parts made h ∙ ap (λ (ms : Mentions). in_parts parts ++ ms) (same_named act parts)

-- ---- nodes

pub named_of : (text : List ℕ) (nodes : List Node) (at : ℕ) (node : Node) (parts : Parts) → slice_get nodes at ≡ Some node → built text (take at nodes) ≡ Some parts
    → named_at text nodes at ≡ by_node node (Some parts)
named_of text nodes at node parts e b =
    ap (λ (found : Option Node). elim found [ None ↦ [] | Some n ↦ by_node n (built text (take at nodes)) ]) e ∙ ap (λ (ps : Option Parts). by_node node ps) b

placed_adding : (text : List ℕ) (node : Node) (parts made : Parts) → placed text node parts ≡ Some made → in_parts made ≡ in_parts parts ++ by_node node (Some parts)
placed_adding text (Token t) parts made h = let r : made ≡ PToken t ∷ parts = cc in ap in_parts r
placed_adding text (Made act from) parts made h = done_adding text act parts made h

-- what a node makes names what the parts before it name, and what it names itself
pub node_adding : (text : List ℕ) (nodes : List Node) (at : ℕ) (node : Node) (parts made : Parts) → slice_get nodes at ≡ Some node → built text (take at nodes) ≡ Some parts
    → built text (take (at + 1) nodes) ≡ Some made → in_parts made ≡ in_parts parts ++ named_at text nodes at
node_adding text nodes at node parts made e b m =
    let z : at + 1 ≡ suc at = omega arith in
    let step : option_and_then (λ ps. placed text node ps) (built text (take at nodes)) ≡ Some made =
    sym (built_end text (take at nodes) node) ∙ (sym (ap (built text) (take_one nodes at node e)) ∙ (sym (ap (λ (n : ℕ). built text (take n nodes)) z) ∙ m)) in
    let here : placed text node parts ≡ Some made = sym (ap (λ (ps : Option Parts). option_and_then (λ qs. placed text node qs) ps) b) ∙ step in
    placed_adding text node parts made here ∙ ap (λ (ms : Mentions). in_parts parts ++ ms) (sym (named_of text nodes at node parts e b))
