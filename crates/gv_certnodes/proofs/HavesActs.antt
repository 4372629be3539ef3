-- Haves nodes by the acts that make them. Made by tools/script_nodes.py from script.grammar: edit that.
use Rattle.std.proofs.Common.{◌≡◌, ℕ, true, List, [], ◌∷◌, ◌++◌, Some, refl, sym, ap, ◌∙◌}
use Rattle.std.specs.Prelude.{drop, take}
use Rattle.gv_grammar.specs.Building.{has_tops}
use Rattle.gv_termread.specs.declared.generated.term_acts.Part.TheVariants.{Term as PTerm, Token as PToken, Other as POther}
use Rattle.gv_scriptsyntax.specs.declared.generated.script_acts.ScriptPart.TheVariants.{Cert as PCert, Haves as PHaves}
use Rattle.gv_scriptsyntax.specs.declared.tree.Cert.{Cert}
use Rattle.gv_scriptsyntax.specs.declared.tree.Have.{Have}
use Rattle.gv_termread.specs.declared.placed.PlacedTerm.{PlacedTerm}
use Rattle.gv_termread.specs.declared.token.SeenToken.{SeenToken}
use Rattle.gv_scriptsyntax.specs.declared.node.Node.{Node}
use Rattle.gv_scriptsyntax.specs.declared.node.Node.TheVariants.{Made}
use Rattle.gv_scriptsyntax.specs.declared.generated.script_table.TheConstants as act
use Rattle.gv_termread.specs.TermActs.{is_term, is_token}
use Rattle.gv_scriptsyntax.specs.ScriptActs.{is_cert, is_haves, made_no_haves, made_step_have}
use Rattle.gv_scriptsyntax.specs.Nodes.{Parts, built, IsPartAt}
use Rattle.gv_scriptnodes.specs.Places.{IsChild, IsTokenOf}
use Rattle.gv_scriptnodes.proofs.Opened.{opened}
use Rattle.gv_scriptnodes.proofs.Tops.{accepted, top_cert, top_haves, top_term, top_token}
use Rattle.gv_certnodes.specs.Places.{IsMadeBy}
use Rattle.gv_certnodes.specs.Haves.{IsStepHave}
use Rattle.gv_certnodes.proofs.Opened.{at_part, same_act}

no_haves_end : (text : List ℕ) (nodes : List Node) (at : ℕ)
    → (whole : List Have) (parts rest : Parts) (behind : Parts) → built text (take at nodes) ≡ Some parts → parts ≡ behind
    → POther (PHaves whole) ∷ rest ≡ POther (PHaves (made_no_haves parts)) ∷ drop 0 parts → whole ≡ []
no_haves_end text nodes at whole parts rest behind before shape q =
    let made : whole ≡ made_no_haves parts = cc in
    made ∙ ap (λ (ps : Parts). made_no_haves ps) shape

pub no_haves_is : (text : List ℕ) (nodes : List Node) (at : ℕ) → IsMadeBy nodes at act.ACT_NO_HAVES
    → (whole : List Have) → IsPartAt text nodes at (POther (PHaves whole)) → whole ≡ []
no_haves_is text nodes at by whole is =
    let o = opened text nodes at (Made by.raw by.from) (POther (PHaves whole)) by.node is in
    let a = accepted text act.ACT_NO_HAVES o.parts (POther (PHaves whole) ∷ o.rest) (same_act text by.raw act.ACT_NO_HAVES o.parts by.number ∙ o.done) in
    go o.parts o.rest o.before a.0 a.1
  where
    go : (parts rest : Parts) → built text (take at nodes) ≡ Some parts → has_tops ([]) parts ≡ true → POther (PHaves whole) ∷ rest ≡ POther (PHaves (made_no_haves parts)) ∷ drop 0 parts → whole ≡ []
    go parts rest before h q =
        no_haves_end text nodes at whole parts rest parts before refl q

step_have_end : (text : List ℕ) (nodes : List Node) (at : ℕ) (at_haves : ℕ) (at_word : SeenToken) (at_term : ℕ) (at_proof : ℕ) → IsChild text nodes at 5 at_haves → IsTokenOf text nodes at 4 at_word → IsChild text nodes at 3 at_term → IsChild text nodes at 1 at_proof
    → (whole : List Have) (parts rest : Parts) (passed_5 : SeenToken) (proof : Cert) (passed_3 : SeenToken) (term : PlacedTerm) (word : SeenToken) (haves : List Have) (behind : Parts) → built text (take at nodes) ≡ Some parts → parts ≡ PToken passed_5 ∷ POther (PCert proof) ∷ PToken passed_3 ∷ PTerm term ∷ PToken word ∷ POther (PHaves haves) ∷ behind
    → POther (PHaves whole) ∷ rest ≡ POther (PHaves (made_step_have parts)) ∷ drop 6 parts → IsStepHave text nodes at at_haves at_word at_term at_proof whole
step_have_end text nodes at at_haves at_word at_term at_proof known_haves known_word known_term known_proof whole parts rest passed_5 proof passed_3 term word haves behind before shape q =
    let made : whole ≡ made_step_have parts = cc in
    record {
      of_haves = haves;
      of_term = term;
      of_proof = proof;
      at_haves = at_part text nodes at 5 at_haves parts (behind) (POther (PHaves haves)) known_haves before (ap (λ (ps : Parts). drop 5 ps) shape);
      at_term = at_part text nodes at 3 at_term parts (PToken word ∷ POther (PHaves haves) ∷ behind) (PTerm term) known_term before (ap (λ (ps : Parts). drop 3 ps) shape);
      at_proof = at_part text nodes at 1 at_proof parts (PToken passed_3 ∷ PTerm term ∷ PToken word ∷ POther (PHaves haves) ∷ behind) (POther (PCert proof)) known_proof before (ap (λ (ps : Parts). drop 1 ps) shape);
      made = made ∙ ap (λ (ps : Parts). made_step_have ps) shape
          ∙ ap (λ (x : SeenToken). let y : List Have = (haves ++ (record { word = x; term = term; proof = proof }) ∷ []) in y) (sym (known_word.same parts (POther (PHaves haves) ∷ behind) word before (ap (λ (ps : Parts). drop 4 ps) shape)));
    }

pub step_have_is : (text : List ℕ) (nodes : List Node) (at : ℕ) (at_haves : ℕ) (at_word : SeenToken) (at_term : ℕ) (at_proof : ℕ) → IsMadeBy nodes at act.ACT_STEP_HAVE → IsChild text nodes at 5 at_haves → IsTokenOf text nodes at 4 at_word → IsChild text nodes at 3 at_term → IsChild text nodes at 1 at_proof
    → (whole : List Have) → IsPartAt text nodes at (POther (PHaves whole)) → IsStepHave text nodes at at_haves at_word at_term at_proof whole
step_have_is text nodes at at_haves at_word at_term at_proof by known_haves known_word known_term known_proof whole is =
    let o = opened text nodes at (Made by.raw by.from) (POther (PHaves whole)) by.node is in
    let a = accepted text act.ACT_STEP_HAVE o.parts (POther (PHaves whole) ∷ o.rest) (same_act text by.raw act.ACT_STEP_HAVE o.parts by.number ∙ o.done) in
    go o.parts o.rest o.before a.0 a.1
  where
    go : (parts rest : Parts) → built text (take at nodes) ≡ Some parts → has_tops (is_token ∷ is_cert ∷ is_token ∷ is_term ∷ is_token ∷ is_haves ∷ []) parts ≡ true → POther (PHaves whole) ∷ rest ≡ POther (PHaves (made_step_have parts)) ∷ drop 6 parts → IsStepHave text nodes at at_haves at_word at_term at_proof whole
    go parts rest before h q =
        top_token (is_cert ∷ is_token ∷ is_term ∷ is_token ∷ is_haves ∷ []) parts h (λ x0 r0 e0 h0.
        top_cert (is_token ∷ is_term ∷ is_token ∷ is_haves ∷ []) r0 h0 (λ x1 r1 e1 h1.
        top_token (is_term ∷ is_token ∷ is_haves ∷ []) r1 h1 (λ x2 r2 e2 h2.
        top_term (is_token ∷ is_haves ∷ []) r2 h2 (λ x3 r3 e3 h3.
        top_token (is_haves ∷ []) r3 h3 (λ x4 r4 e4 h4.
        top_haves ([]) r4 h4 (λ x5 r5 e5 h5.
        step_have_end text nodes at at_haves at_word at_term at_proof known_haves known_word known_term known_proof whole parts rest x0 x1 x2 x3 x4 x5 r5 before (e0 ∙ ap (λ (ps : Parts). PToken x0 ∷ ps) (e1 ∙ ap (λ (ps : Parts). POther (PCert x1) ∷ ps) (e2 ∙ ap (λ (ps : Parts). PToken x2 ∷ ps) (e3 ∙ ap (λ (ps : Parts). PTerm x3 ∷ ps) (e4 ∙ ap (λ (ps : Parts). PToken x4 ∷ ps) e5))))) q))))))
