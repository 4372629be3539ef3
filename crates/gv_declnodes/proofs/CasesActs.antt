-- Cases nodes by the acts that make them. Made by tools/script_nodes.py from script.grammar: edit that.
use Rattle.std.proofs.Common.{◌≡◌, ℕ, true, List, [], ◌∷◌, Some, refl, ap, ◌∙◌}
use Rattle.std.specs.Prelude.{drop, take}
use Rattle.gv_grammar.specs.Building.{has_tops}
use Rattle.gv_termread.specs.declared.generated.term_acts.Part.TheVariants.{Other as POther}
use Rattle.gv_scriptsyntax.specs.declared.generated.script_acts.ScriptPart.TheVariants.{Case as PCase, Cases as PCases}
use Rattle.gv_scriptsyntax.specs.declared.tree.Case.{Case}
use Rattle.gv_scriptsyntax.specs.declared.node.Node.{Node}
use Rattle.gv_scriptsyntax.specs.declared.node.Node.TheVariants.{Made}
use Rattle.gv_scriptsyntax.specs.declared.generated.script_table.TheConstants as act
use Rattle.gv_scriptsyntax.specs.ScriptActs.{is_case, is_cases, made_next_case, made_no_cases}
use Rattle.gv_scriptsyntax.specs.Nodes.{Parts, built, IsPartAt}
use Rattle.gv_scriptnodes.specs.Places.{IsChild}
use Rattle.gv_scriptnodes.proofs.Opened.{opened}
use Rattle.gv_scriptnodes.proofs.Tops.{accepted, top_case, top_cases}
use Rattle.gv_certnodes.specs.Places.{IsMadeBy}
use Rattle.gv_declnodes.specs.Cases.{IsNextCase}
use Rattle.gv_certnodes.proofs.Opened.{at_part, same_act}

no_cases_end : (text : List ℕ) (nodes : List Node) (at : ℕ)
    → (whole : List Case) (parts rest : Parts) (behind : Parts) → built text (take at nodes) ≡ Some parts → parts ≡ behind
    → POther (PCases whole) ∷ rest ≡ POther (PCases (made_no_cases parts)) ∷ drop 0 parts → whole ≡ []
no_cases_end text nodes at whole parts rest behind before shape q =
    let made : whole ≡ made_no_cases parts = cc in
    made ∙ ap (λ (ps : Parts). made_no_cases ps) shape

pub no_cases_is : (text : List ℕ) (nodes : List Node) (at : ℕ) → IsMadeBy nodes at act.ACT_NO_CASES
    → (whole : List Case) → IsPartAt text nodes at (POther (PCases whole)) → whole ≡ []
no_cases_is text nodes at by whole is =
    let o = opened text nodes at (Made by.raw by.from) (POther (PCases whole)) by.node is in
    let a = accepted text act.ACT_NO_CASES o.parts (POther (PCases whole) ∷ o.rest) (same_act text by.raw act.ACT_NO_CASES o.parts by.number ∙ o.done) in
    go o.parts o.rest o.before a.0 a.1
  where
    go : (parts rest : Parts) → built text (take at nodes) ≡ Some parts → has_tops ([]) parts ≡ true → POther (PCases whole) ∷ rest ≡ POther (PCases (made_no_cases parts)) ∷ drop 0 parts → whole ≡ []
    go parts rest before h q =
        no_cases_end text nodes at whole parts rest parts before refl q

next_case_end : (text : List ℕ) (nodes : List Node) (at : ℕ) (at_cases : ℕ) (at_next : ℕ) → IsChild text nodes at 1 at_cases → IsChild text nodes at 0 at_next
    → (whole : List Case) (parts rest : Parts) (next : Case) (cases : List Case) (behind : Parts) → built text (take at nodes) ≡ Some parts → parts ≡ POther (PCase next) ∷ POther (PCases cases) ∷ behind
    → POther (PCases whole) ∷ rest ≡ POther (PCases (made_next_case parts)) ∷ drop 2 parts → IsNextCase text nodes at at_cases at_next whole
next_case_end text nodes at at_cases at_next known_cases known_next whole parts rest next cases behind before shape q =
    let made : whole ≡ made_next_case parts = cc in
    record {
      of_cases = cases;
      of_next = next;
      at_cases = at_part text nodes at 1 at_cases parts (behind) (POther (PCases cases)) known_cases before (ap (λ (ps : Parts). drop 1 ps) shape);
      at_next = at_part text nodes at 0 at_next parts (POther (PCases cases) ∷ behind) (POther (PCase next)) known_next before (ap (λ (ps : Parts). drop 0 ps) shape);
      made = made ∙ ap (λ (ps : Parts). made_next_case ps) shape;
    }

pub next_case_is : (text : List ℕ) (nodes : List Node) (at : ℕ) (at_cases : ℕ) (at_next : ℕ) → IsMadeBy nodes at act.ACT_NEXT_CASE → IsChild text nodes at 1 at_cases → IsChild text nodes at 0 at_next
    → (whole : List Case) → IsPartAt text nodes at (POther (PCases whole)) → IsNextCase text nodes at at_cases at_next whole
next_case_is text nodes at at_cases at_next by known_cases known_next whole is =
    let o = opened text nodes at (Made by.raw by.from) (POther (PCases whole)) by.node is in
    let a = accepted text act.ACT_NEXT_CASE o.parts (POther (PCases whole) ∷ o.rest) (same_act text by.raw act.ACT_NEXT_CASE o.parts by.number ∙ o.done) in
    go o.parts o.rest o.before a.0 a.1
  where
    go : (parts rest : Parts) → built text (take at nodes) ≡ Some parts → has_tops (is_case ∷ is_cases ∷ []) parts ≡ true → POther (PCases whole) ∷ rest ≡ POther (PCases (made_next_case parts)) ∷ drop 2 parts → IsNextCase text nodes at at_cases at_next whole
    go parts rest before h q =
        top_case (is_cases ∷ []) parts h (λ x0 r0 e0 h0.
        top_cases ([]) r0 h0 (λ x1 r1 e1 h1.
        next_case_end text nodes at at_cases at_next known_cases known_next whole parts rest x0 x1 r1 before (e0 ∙ ap (λ (ps : Parts). POther (PCase x0) ∷ ps) e1) q))
