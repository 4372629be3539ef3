-- Nodes by the acts that make them.
use Rattle.std.proofs.Common.{◌≡◌, ℕ, ◌+◌, ◌-◌, ◌<◌, false, List, ◌∷◌, length, Option, Some, None, sym, ap, ◌∙◌, arith}
use Rattle.std.specs.Prelude.{take, drop, slice_get, if◌then◌else◌}
use Rattle.std.proofs.lemmas.Bool.{false≢true}
use Rattle.gv_grammar.specs.declared.levels.TheConstants.{FIRST_ACT}
use Rattle.gv_grammar.specs.Building.{Reduction, has_tops}
use Rattle.gv_termread.specs.declared.generated.term_acts.Part.{Part}
use Rattle.gv_termread.specs.declared.generated.term_acts.Part.TheVariants.{Token as PToken}
use Rattle.gv_termread.specs.TermActs.{is_token}
use Rattle.gv_scriptsyntax.specs.declared.generated.script_acts.ScriptPart.{ScriptPart}
use Rattle.gv_scriptsyntax.specs.declared.node.Node.{Node}
use Rattle.gv_scriptsyntax.specs.declared.node.Node.TheVariants.{Token, Made}
use Rattle.gv_scriptsyntax.specs.ScriptActs.{script_acts}
use Rattle.gv_scriptsyntax.specs.Nodes.{Parts, placed, built, done_by, arity, IsPartAt, HasParts, IsFormed}
use Rattle.gv_scriptsyntax.proofs.Leaving.{act_leaves}
use Rattle.gv_scriptsyntax.proofs.Nodes.{within_end}
use Rattle.gv_scriptnodes.specs.Places.{IsChild}
use Rattle.gv_scriptnodes.proofs.Opened.{opened, part_at}
use Rattle.gv_certnodes.specs.Places.{IsMade, IsMadeBy, IsBefore}

abbrev pub act_with : Option (Reduction (Part ScriptPart)) → Parts → Option Parts
act_with found parts = if (elim found [ None ↦ false | Some act ↦ has_tops act.takes parts ]) then Some (elim found [ None ↦ parts | Some act ↦ act.makes parts ]) else None

-- acts are told by their numbers behind the marks
pub same_act : (text : List ℕ) (raw act : ℕ) (parts : Parts) → raw - FIRST_ACT ≡ act - FIRST_ACT → done_by text act parts ≡ done_by text raw parts
unfolding done_by
same_act text raw act parts e = ap (λ (n : ℕ). act_with (slice_get (script_acts text) n) parts) (sym e)

-- the parts that an act takes are there
pub has_parts : (text : List ℕ) (nodes : List Node) (at act number : ℕ) → IsFormed text nodes → IsMadeBy nodes at act → number < arity act → HasParts text nodes at (number + 1)
has_parts text nodes at act number formed made less =
    let one = formed at (Made made.raw made.from) made.node in
    let o = opened text nodes at (Made made.raw made.from) one.part made.node (record { before = one.before; made = one.made }) in
    let enough = (act_leaves text act o.parts (one.part ∷ o.rest) (same_act text made.raw act o.parts made.number ∙ o.done)).enough in
    record { parts = o.parts; made = o.before; enough = omega (arith, less, enough) }

pub at_part : (text : List ℕ) (nodes : List Node) (end number place : ℕ) (parts rest : Parts) (part : Part ScriptPart) → IsChild text nodes end number place
    → built text (take end nodes) ≡ Some parts → drop number parts ≡ part ∷ rest → IsBefore text nodes end place part
at_part text nodes end number place parts rest part is before e = record { before = is.before; is = part_at text nodes end number place parts rest part is before e }

-- what is no token is made by an act
pub some_made : (text : List ℕ) (nodes : List Node) (at : ℕ) (part : Part ScriptPart) → at < length nodes → IsPartAt text nodes at part → is_token part ≡ false → IsMade nodes at
some_made text nodes at part l is none =
    let there = within_end text nodes at l in
    let o = opened text nodes at there.0 part there.1 is in
    go there.0 there.1 o.parts o.rest o.done
  where
    go : (node : Node) → slice_get nodes at ≡ Some node → (parts rest : Parts) → placed text node parts ≡ Some (part ∷ rest) → IsMade nodes at
    go (Token t) e parts rest h = let q : part ≡ PToken t = cc in absurd (false≢true (sym none ∙ ap is_token q))
    go (Made act from) e parts rest h = record { act = act; from = from; node = e }
