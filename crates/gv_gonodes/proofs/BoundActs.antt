-- Bound nodes by the acts that make them. Made by tools/nodes.py from gosyntax.grammar: edit that.
use Rattle.std.proofs.Common.{◌≡◌, ℕ, true, List, [], ◌∷◌, Option, Some, None, refl, ap, ◌∙◌}
use Rattle.std.specs.Prelude.{drop, take}
use Rattle.gv_grammar.specs.Building.{has_tops}
use Rattle.gv_gosyntax.specs.declared.generated.gosyntax_acts.Part.{Part}
use Rattle.gv_gosyntax.specs.declared.generated.gosyntax_acts.Part.TheVariants.{Bound as PBound, Expr as PExpr}
use Rattle.gv_gosyntax.specs.declared.tree.Expr.{Expr}
use Rattle.gv_gosyntax.specs.declared.node.Node.{Node}
use Rattle.gv_gosyntax.specs.declared.node.Node.TheVariants.{Made}
use Rattle.gv_gosyntax.specs.declared.generated.gosyntax_table.TheConstants as act
use Rattle.gv_gosyntax.specs.GosyntaxActs.{is_expr, made_bound, made_no_bound}
use Rattle.gv_gosyntax.specs.Nodes.{built, IsPartAt}
use Rattle.gv_gonodes.specs.Places.{IsMadeBy, IsPartOf}
use Rattle.gv_gonodes.specs.Bound.{IsBound}
use Rattle.gv_gonodes.proofs.Opened.{opened, at_part, same_act}
use Rattle.gv_gonodes.proofs.Tops.{accepted, top_expr}

no_bound_end : (nodes : List Node) (at : ℕ)
    → (whole : Option Expr) (parts rest : List Part) (behind : List Part) → built (take at nodes) ≡ Some parts → parts ≡ behind
    → PBound whole ∷ rest ≡ PBound (made_no_bound parts) ∷ drop 0 parts → whole ≡ None
no_bound_end nodes at whole parts rest behind before shape q =
    let made : whole ≡ made_no_bound parts = cc in
    made ∙ ap (λ (ps : List Part). made_no_bound ps) shape

pub no_bound_is : (nodes : List Node) (at : ℕ) → IsMadeBy nodes at act.ACT_NO_BOUND
    → (whole : Option Expr) → IsPartAt nodes at (PBound whole) → whole ≡ None
no_bound_is nodes at by whole is =
    let o = opened nodes at (Made by.raw by.from) (PBound whole) by.node is in
    let a = accepted act.ACT_NO_BOUND o.parts (PBound whole ∷ o.rest) (same_act by.raw act.ACT_NO_BOUND o.parts by.number ∙ o.done) in
    go o.parts o.rest o.before a.0 a.1
  where
    go : (parts rest : List Part) → built (take at nodes) ≡ Some parts → has_tops ([]) parts ≡ true → PBound whole ∷ rest ≡ PBound (made_no_bound parts) ∷ drop 0 parts → whole ≡ None
    go parts rest before h q =
        no_bound_end nodes at whole parts rest parts before refl q

bound_end : (nodes : List Node) (at : ℕ) (at_inner : ℕ) → IsPartOf nodes at 0 at_inner
    → (whole : Option Expr) (parts rest : List Part) (inner : Expr) (behind : List Part) → built (take at nodes) ≡ Some parts → parts ≡ PExpr inner ∷ behind
    → PBound whole ∷ rest ≡ PBound (made_bound parts) ∷ drop 1 parts → IsBound nodes at at_inner whole
bound_end nodes at at_inner known_inner whole parts rest inner behind before shape q =
    let made : whole ≡ made_bound parts = cc in
    record {
      of_inner = inner;
      at_inner = at_part nodes at 0 at_inner parts (behind) (PExpr inner) known_inner before (ap (λ (ps : List Part). drop 0 ps) shape);
      made = made ∙ ap (λ (ps : List Part). made_bound ps) shape;
    }

pub bound_is : (nodes : List Node) (at : ℕ) (at_inner : ℕ) → IsMadeBy nodes at act.ACT_BOUND → IsPartOf nodes at 0 at_inner
    → (whole : Option Expr) → IsPartAt nodes at (PBound whole) → IsBound nodes at at_inner whole
bound_is nodes at at_inner by known_inner whole is =
    let o = opened nodes at (Made by.raw by.from) (PBound whole) by.node is in
    let a = accepted act.ACT_BOUND o.parts (PBound whole ∷ o.rest) (same_act by.raw act.ACT_BOUND o.parts by.number ∙ o.done) in
    go o.parts o.rest o.before a.0 a.1
  where
    go : (parts rest : List Part) → built (take at nodes) ≡ Some parts → has_tops (is_expr ∷ []) parts ≡ true → PBound whole ∷ rest ≡ PBound (made_bound parts) ∷ drop 1 parts → IsBound nodes at at_inner whole
    go parts rest before h q =
        top_expr ([]) parts h (λ x0 r0 e0 h0.
        bound_end nodes at at_inner known_inner whole parts rest x0 r0 before e0 q)
