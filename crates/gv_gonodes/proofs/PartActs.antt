-- Part nodes by the acts that make them. Made by tools/nodes.py from gosyntax.grammar: edit that.
use Rattle.std.proofs.Common.{◌≡◌, ℕ, true, List, [], ◌∷◌, Option, Some, None, refl, ap, ◌∙◌}
use Rattle.std.specs.Prelude.{drop, take}
use Rattle.gv_grammar.specs.Building.{has_tops}
use Rattle.gv_gosyntax.specs.declared.generated.gosyntax_acts.Part.{Part}
use Rattle.gv_gosyntax.specs.declared.generated.gosyntax_acts.Part.TheVariants.{Part as PPart, Simple as PSimple}
use Rattle.gv_gosyntax.specs.declared.tree.Simple.{Simple}
use Rattle.gv_gosyntax.specs.declared.node.Node.{Node}
use Rattle.gv_gosyntax.specs.declared.node.Node.TheVariants.{Made}
use Rattle.gv_gosyntax.specs.declared.generated.gosyntax_table.TheConstants as act
use Rattle.gv_gosyntax.specs.GosyntaxActs.{is_simple, made_no_part, made_part}
use Rattle.gv_gosyntax.specs.Nodes.{built, IsPartAt}
use Rattle.gv_gonodes.specs.Places.{IsMadeBy, IsPartOf}
use Rattle.gv_gonodes.specs.Part.{IsPart}
use Rattle.gv_gonodes.proofs.Opened.{opened, at_part, same_act}
use Rattle.gv_gonodes.proofs.Tops.{accepted, top_simple}

no_part_end : (nodes : List Node) (at : ℕ)
    → (whole : Option Simple) (parts rest : List Part) (behind : List Part) → built (take at nodes) ≡ Some parts → parts ≡ behind
    → PPart whole ∷ rest ≡ PPart (made_no_part parts) ∷ drop 0 parts → whole ≡ None
no_part_end nodes at whole parts rest behind before shape q =
    let made : whole ≡ made_no_part parts = cc in
    made ∙ ap (λ (ps : List Part). made_no_part ps) shape

pub no_part_is : (nodes : List Node) (at : ℕ) → IsMadeBy nodes at act.ACT_NO_PART
    → (whole : Option Simple) → IsPartAt nodes at (PPart whole) → whole ≡ None
no_part_is nodes at by whole is =
    let o = opened nodes at (Made by.raw by.from) (PPart whole) by.node is in
    let a = accepted act.ACT_NO_PART o.parts (PPart whole ∷ o.rest) (same_act by.raw act.ACT_NO_PART o.parts by.number ∙ o.done) in
    go o.parts o.rest o.before a.0 a.1
  where
    go : (parts rest : List Part) → built (take at nodes) ≡ Some parts → has_tops ([]) parts ≡ true → PPart whole ∷ rest ≡ PPart (made_no_part parts) ∷ drop 0 parts → whole ≡ None
    go parts rest before h q =
        no_part_end nodes at whole parts rest parts before refl q

part_end : (nodes : List Node) (at : ℕ) (at_simple : ℕ) → IsPartOf nodes at 0 at_simple
    → (whole : Option Simple) (parts rest : List Part) (simple : Simple) (behind : List Part) → built (take at nodes) ≡ Some parts → parts ≡ PSimple simple ∷ behind
    → PPart whole ∷ rest ≡ PPart (made_part parts) ∷ drop 1 parts → IsPart nodes at at_simple whole
part_end nodes at at_simple known_simple whole parts rest simple behind before shape q =
    let made : whole ≡ made_part parts = cc in
    record {
      of_simple = simple;
      at_simple = at_part nodes at 0 at_simple parts (behind) (PSimple simple) known_simple before (ap (λ (ps : List Part). drop 0 ps) shape);
      made = made ∙ ap (λ (ps : List Part). made_part ps) shape;
    }

pub part_is : (nodes : List Node) (at : ℕ) (at_simple : ℕ) → IsMadeBy nodes at act.ACT_PART → IsPartOf nodes at 0 at_simple
    → (whole : Option Simple) → IsPartAt nodes at (PPart whole) → IsPart nodes at at_simple whole
part_is nodes at at_simple by known_simple whole is =
    let o = opened nodes at (Made by.raw by.from) (PPart whole) by.node is in
    let a = accepted act.ACT_PART o.parts (PPart whole ∷ o.rest) (same_act by.raw act.ACT_PART o.parts by.number ∙ o.done) in
    go o.parts o.rest o.before a.0 a.1
  where
    go : (parts rest : List Part) → built (take at nodes) ≡ Some parts → has_tops (is_simple ∷ []) parts ≡ true → PPart whole ∷ rest ≡ PPart (made_part parts) ∷ drop 1 parts → IsPart nodes at at_simple whole
    go parts rest before h q =
        top_simple ([]) parts h (λ x0 r0 e0 h0.
        part_end nodes at at_simple known_simple whole parts rest x0 r0 before e0 q)
