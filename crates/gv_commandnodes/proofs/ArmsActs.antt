-- Arms nodes by the acts that make them. Made by tools/script_nodes.py from script.grammar: edit that.
use Rattle.std.proofs.Common.{◌≡◌, ℕ, true, List, [], ◌∷◌, Some, refl, ap, ◌∙◌}
use Rattle.std.specs.Prelude.{drop, take}
use Rattle.gv_grammar.specs.Building.{has_tops}
use Rattle.gv_termread.specs.declared.generated.term_acts.Part.TheVariants.{Other as POther}
use Rattle.gv_scriptsyntax.specs.declared.generated.script_acts.ScriptPart.TheVariants.{Arm as PArm, Arms as PArms}
use Rattle.gv_scriptsyntax.specs.declared.tree.Arm.{Arm}
use Rattle.gv_scriptsyntax.specs.declared.node.Node.{Node}
use Rattle.gv_scriptsyntax.specs.declared.node.Node.TheVariants.{Made}
use Rattle.gv_scriptsyntax.specs.declared.generated.script_table.TheConstants as act
use Rattle.gv_scriptsyntax.specs.ScriptActs.{is_arm, is_arms, made_next_arm, made_no_arms}
use Rattle.gv_scriptsyntax.specs.Nodes.{Parts, built, IsPartAt}
use Rattle.gv_scriptnodes.specs.Places.{IsChild}
use Rattle.gv_scriptnodes.proofs.Opened.{opened}
use Rattle.gv_scriptnodes.proofs.Tops.{accepted, top_arm, top_arms}
use Rattle.gv_certnodes.specs.Places.{IsMadeBy}
use Rattle.gv_commandnodes.specs.Arms.{IsNextArm}
use Rattle.gv_certnodes.proofs.Opened.{at_part, same_act}

no_arms_end : (text : List ℕ) (nodes : List Node) (at : ℕ)
    → (whole : List Arm) (parts rest : Parts) (behind : Parts) → built text (take at nodes) ≡ Some parts → parts ≡ behind
    → POther (PArms whole) ∷ rest ≡ POther (PArms (made_no_arms parts)) ∷ drop 0 parts → whole ≡ []
no_arms_end text nodes at whole parts rest behind before shape q =
    let made : whole ≡ made_no_arms parts = cc in
    made ∙ ap (λ (ps : Parts). made_no_arms ps) shape

pub no_arms_is : (text : List ℕ) (nodes : List Node) (at : ℕ) → IsMadeBy nodes at act.ACT_NO_ARMS
    → (whole : List Arm) → IsPartAt text nodes at (POther (PArms whole)) → whole ≡ []
no_arms_is text nodes at by whole is =
    let o = opened text nodes at (Made by.raw by.from) (POther (PArms whole)) by.node is in
    let a = accepted text act.ACT_NO_ARMS o.parts (POther (PArms whole) ∷ o.rest) (same_act text by.raw act.ACT_NO_ARMS o.parts by.number ∙ o.done) in
    go o.parts o.rest o.before a.0 a.1
  where
    go : (parts rest : Parts) → built text (take at nodes) ≡ Some parts → has_tops ([]) parts ≡ true → POther (PArms whole) ∷ rest ≡ POther (PArms (made_no_arms parts)) ∷ drop 0 parts → whole ≡ []
    go parts rest before h q =
        no_arms_end text nodes at whole parts rest parts before refl q

next_arm_end : (text : List ℕ) (nodes : List Node) (at : ℕ) (at_arms : ℕ) (at_arm : ℕ) → IsChild text nodes at 1 at_arms → IsChild text nodes at 0 at_arm
    → (whole : List Arm) (parts rest : Parts) (arm : Arm) (arms : List Arm) (behind : Parts) → built text (take at nodes) ≡ Some parts → parts ≡ POther (PArm arm) ∷ POther (PArms arms) ∷ behind
    → POther (PArms whole) ∷ rest ≡ POther (PArms (made_next_arm parts)) ∷ drop 2 parts → IsNextArm text nodes at at_arms at_arm whole
next_arm_end text nodes at at_arms at_arm known_arms known_arm whole parts rest arm arms behind before shape q =
    let made : whole ≡ made_next_arm parts = cc in
    record {
      of_arms = arms;
      of_arm = arm;
      at_arms = at_part text nodes at 1 at_arms parts (behind) (POther (PArms arms)) known_arms before (ap (λ (ps : Parts). drop 1 ps) shape);
      at_arm = at_part text nodes at 0 at_arm parts (POther (PArms arms) ∷ behind) (POther (PArm arm)) known_arm before (ap (λ (ps : Parts). drop 0 ps) shape);
      made = made ∙ ap (λ (ps : Parts). made_next_arm ps) shape;
    }

pub next_arm_is : (text : List ℕ) (nodes : List Node) (at : ℕ) (at_arms : ℕ) (at_arm : ℕ) → IsMadeBy nodes at act.ACT_NEXT_ARM → IsChild text nodes at 1 at_arms → IsChild text nodes at 0 at_arm
    → (whole : List Arm) → IsPartAt text nodes at (POther (PArms whole)) → IsNextArm text nodes at at_arms at_arm whole
next_arm_is text nodes at at_arms at_arm by known_arms known_arm whole is =
    let o = opened text nodes at (Made by.raw by.from) (POther (PArms whole)) by.node is in
    let a = accepted text act.ACT_NEXT_ARM o.parts (POther (PArms whole) ∷ o.rest) (same_act text by.raw act.ACT_NEXT_ARM o.parts by.number ∙ o.done) in
    go o.parts o.rest o.before a.0 a.1
  where
    go : (parts rest : Parts) → built text (take at nodes) ≡ Some parts → has_tops (is_arm ∷ is_arms ∷ []) parts ≡ true → POther (PArms whole) ∷ rest ≡ POther (PArms (made_next_arm parts)) ∷ drop 2 parts → IsNextArm text nodes at at_arms at_arm whole
    go parts rest before h q =
        top_arm (is_arms ∷ []) parts h (λ x0 r0 e0 h0.
        top_arms ([]) r0 h0 (λ x1 r1 e1 h1.
        next_arm_end text nodes at at_arms at_arm known_arms known_arm whole parts rest x0 x1 r1 before (e0 ∙ ap (λ (ps : Parts). POther (PArm x0) ∷ ps) e1) q))
