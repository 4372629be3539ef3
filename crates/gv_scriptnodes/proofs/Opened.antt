-- What stands before a node, and what the node makes of it.
use Rattle.std.proofs.Common.{◌≡◌, ℕ, zero, suc, ◌+◌, ◌<◌, ◌≤◌, List, [], ◌∷◌, ◌++◌, length, Option, Some, None, refl, sym, ap, ◌∙◌, arith}
use Rattle.std.specs.Prelude.{take, drop, slice_get}
use Rattle.std.specs.Option.{option_and_then}
use Rattle.std.proofs.lemmas.Option.{slice_get_within}
use Rattle.gv_grammar.specs.declared.levels.TheConstants.{FIRST_ACT}
use Rattle.gv_termread.specs.declared.generated.term_acts.Part.{Part}
use Rattle.gv_scriptsyntax.specs.declared.generated.script_acts.ScriptPart.{ScriptPart}
use Rattle.gv_scriptsyntax.specs.declared.node.Node.{Node}
use Rattle.gv_scriptsyntax.specs.declared.node.Node.TheVariants.{Token, Made}
use Rattle.gv_scriptsyntax.specs.Nodes.{Parts, placed, built, done_by, arity, IsPartAt, HasParts, IsFormed}
use Rattle.gv_scriptsyntax.proofs.Leaving.{act_leaves}
use Rattle.gv_scriptsyntax.proofs.Nodes.{built_end}
use Rattle.gv_scriptnodes.specs.Places.{IsChild, act_at, act_in}

-- ---- one node

pub take_one : {X : Type 0} (xs : List X) (at : ℕ) (x : X) → slice_get xs at ≡ Some x → take (suc at) xs ≡ take at xs ++ x ∷ []
take_one [] at x e = absurd cc
take_one {X} (y ∷ xs) zero x e = let q : y ≡ x = cc in ap (λ (z : X). z ∷ []) q
take_one {X} (y ∷ xs) (suc at) x e = ap (λ (ys : List X). y ∷ ys) (take_one xs at x e)

-- the node that an act makes
pub record MadeAt (nodes : List Node) (at act : ℕ) : Type 0 where
  pub from : ℕ
  pub node : slice_get nodes at ≡ Some (Made act from)

pub made_at : (nodes : List Node) (at act : ℕ) → act_at nodes at ≡ act → FIRST_ACT ≤ act → MadeAt nodes at act
made_at nodes at act e l = go (slice_get nodes at) refl e
  where
    go : (found : Option Node) → slice_get nodes at ≡ found → elim found [ None ↦ 0 | Some node ↦ act_in node ] ≡ act → MadeAt nodes at act
    go None q h = absurd (omega (arith, h, l))
    go (Some (Token t)) q h = absurd (omega (arith, h, l))
    go (Some (Made a from)) q h = record { from = from; node = q ∙ ap (λ (n : ℕ). Some (Made n from)) h }

pub made_within : (nodes : List Node) (at act : ℕ) → act_at nodes at ≡ act → FIRST_ACT ≤ act → at < length nodes
made_within nodes at act e l = let m = made_at nodes at act e l in slice_get_within nodes at (Made act m.from) m.node

module _ (text : List ℕ) where
  pub record Opened (nodes : List Node) (at : ℕ) (node : Node) (part : Part ScriptPart) : Type 0 where
    pub parts : Parts
    pub rest : Parts
    pub before : built text (take at nodes) ≡ Some parts
    pub done : placed text node parts ≡ Some (part ∷ rest)

  pub opened : (nodes : List Node) (at : ℕ) (node : Node) (part : Part ScriptPart) → slice_get nodes at ≡ Some node → IsPartAt text nodes at part → Opened nodes at node part
  opened nodes at node part there is = go (built text (take at nodes)) refl step
    where
      one : at + 1 ≡ suc at
      one = omega arith

      step : option_and_then (λ made. placed text node made) (built text (take at nodes)) ≡ Some (part ∷ is.before)
      step = sym (built_end text (take at nodes) node) ∙ sym (ap (built text) (take_one nodes at node there)) ∙ sym (ap (λ (n : ℕ). built text (take n nodes)) one) ∙ is.made

      go : (made : Option Parts) → built text (take at nodes) ≡ made → option_and_then (λ (m : Parts). placed text node m) made ≡ Some (part ∷ is.before) → Opened nodes at node part
      go None e h = absurd cc
      go (Some parts) e h = record { parts = parts; rest = is.before; before = e; done = h }

  -- the same where an act makes the node
  pub record OpenedAct (nodes : List Node) (at act : ℕ) (part : Part ScriptPart) : Type 0 where
    pub parts : Parts
    pub rest : Parts
    pub before : built text (take at nodes) ≡ Some parts
    pub done : done_by text act parts ≡ Some (part ∷ rest)

  pub opened_act : (nodes : List Node) (at act : ℕ) (part : Part ScriptPart) → act_at nodes at ≡ act → FIRST_ACT ≤ act → IsPartAt text nodes at part → OpenedAct nodes at act part
  opened_act nodes at act part e l is =
      let m = made_at nodes at act e l in
      let o = opened nodes at (Made act m.from) part m.node is in
      record { parts = o.parts; rest = o.rest; before = o.before; done = o.done }

  -- the parts that an act takes are there
  pub has_parts : (nodes : List Node) (at act number : ℕ) → IsFormed text nodes → act_at nodes at ≡ act → FIRST_ACT ≤ act → number < arity act → HasParts text nodes at (number + 1)
  has_parts nodes at act number formed e l less =
      let m = made_at nodes at act e l in
      let one = formed at (Made act m.from) m.node in
      let o = opened nodes at (Made act m.from) one.part m.node (record { before = one.before; made = one.made }) in
      let enough = (act_leaves text act o.parts (one.part ∷ o.rest) o.done).enough in
      record { parts = o.parts; made = o.before; enough = omega (arith, less, enough) }

  pub part_at : (nodes : List Node) (end number place : ℕ) (parts rest : Parts) (part : Part ScriptPart) → IsChild text nodes end number place
      → built text (take end nodes) ≡ Some parts → drop number parts ≡ part ∷ rest → IsPartAt text nodes place part
  part_at nodes end number place parts rest part is before e =
      record { before = rest; made = is.part parts before ∙ ap (λ (ps : Parts). Some ps) e }
