-- Names nodes by the acts that make them. Made by tools/script_nodes.py from script.grammar: edit that.
use Rattle.std.proofs.Common.{◌≡◌, ℕ, true, List, [], ◌∷◌, ◌++◌, Some, refl, sym, ap, ◌∙◌}
use Rattle.std.specs.Prelude.{drop, take}
use Rattle.gv_grammar.specs.Building.{has_tops}
use Rattle.gv_termread.specs.declared.generated.term_acts.Part.TheVariants.{Token as PToken, Other as POther}
use Rattle.gv_scriptsyntax.specs.declared.generated.script_acts.ScriptPart.TheVariants.{Names as PNames}
use Rattle.gv_termread.specs.declared.token.SeenToken.{SeenToken}
use Rattle.gv_scriptsyntax.specs.declared.node.Node.{Node}
use Rattle.gv_scriptsyntax.specs.declared.node.Node.TheVariants.{Made}
use Rattle.gv_scriptsyntax.specs.declared.generated.script_table.TheConstants as act
use Rattle.gv_termread.specs.TermActs.{is_token}
use Rattle.gv_scriptsyntax.specs.ScriptActs.{is_names, made_in_names, made_name, made_next_name, made_no_names, made_word_names}
use Rattle.gv_scriptsyntax.specs.Nodes.{Parts, built, IsPartAt}
use Rattle.gv_scriptnodes.specs.Places.{IsChild, IsTokenOf}
use Rattle.gv_scriptnodes.proofs.Opened.{opened}
use Rattle.gv_scriptnodes.proofs.Tops.{accepted, top_names, top_token}
use Rattle.gv_certnodes.specs.Places.{IsMadeBy}
use Rattle.gv_commandnodes.specs.Names.{IsName, IsNextName, IsInNames, IsWordNames}
use Rattle.gv_certnodes.proofs.Opened.{at_part, same_act}

no_names_end : (text : List ℕ) (nodes : List Node) (at : ℕ)
    → (whole : List SeenToken) (parts rest : Parts) (behind : Parts) → built text (take at nodes) ≡ Some parts → parts ≡ behind
    → POther (PNames whole) ∷ rest ≡ POther (PNames (made_no_names parts)) ∷ drop 0 parts → whole ≡ []
no_names_end text nodes at whole parts rest behind before shape q =
    let made : whole ≡ made_no_names parts = cc in
    made ∙ ap (λ (ps : Parts). made_no_names ps) shape

pub no_names_is : (text : List ℕ) (nodes : List Node) (at : ℕ) → IsMadeBy nodes at act.ACT_NO_NAMES
    → (whole : List SeenToken) → IsPartAt text nodes at (POther (PNames whole)) → whole ≡ []
no_names_is text nodes at by whole is =
    let o = opened text nodes at (Made by.raw by.from) (POther (PNames whole)) by.node is in
    let a = accepted text act.ACT_NO_NAMES o.parts (POther (PNames whole) ∷ o.rest) (same_act text by.raw act.ACT_NO_NAMES o.parts by.number ∙ o.done) in
    go o.parts o.rest o.before a.0 a.1
  where
    go : (parts rest : Parts) → built text (take at nodes) ≡ Some parts → has_tops ([]) parts ≡ true → POther (PNames whole) ∷ rest ≡ POther (PNames (made_no_names parts)) ∷ drop 0 parts → whole ≡ []
    go parts rest before h q =
        no_names_end text nodes at whole parts rest parts before refl q

name_end : (text : List ℕ) (nodes : List Node) (at : ℕ) (at_names : ℕ) (at_name : SeenToken) → IsChild text nodes at 1 at_names → IsTokenOf text nodes at 0 at_name
    → (whole : List SeenToken) (parts rest : Parts) (name : SeenToken) (names : List SeenToken) (behind : Parts) → built text (take at nodes) ≡ Some parts → parts ≡ PToken name ∷ POther (PNames names) ∷ behind
    → POther (PNames whole) ∷ rest ≡ POther (PNames (made_name parts)) ∷ drop 2 parts → IsName text nodes at at_names at_name whole
name_end text nodes at at_names at_name known_names known_name whole parts rest name names behind before shape q =
    let made : whole ≡ made_name parts = cc in
    record {
      of_names = names;
      at_names = at_part text nodes at 1 at_names parts (behind) (POther (PNames names)) known_names before (ap (λ (ps : Parts). drop 1 ps) shape);
      made = made ∙ ap (λ (ps : Parts). made_name ps) shape
          ∙ ap (λ (x : SeenToken). (names ++ x ∷ [])) (sym (known_name.same parts (POther (PNames names) ∷ behind) name before (ap (λ (ps : Parts). drop 0 ps) shape)));
    }

pub name_is : (text : List ℕ) (nodes : List Node) (at : ℕ) (at_names : ℕ) (at_name : SeenToken) → IsMadeBy nodes at act.ACT_NAME → IsChild text nodes at 1 at_names → IsTokenOf text nodes at 0 at_name
    → (whole : List SeenToken) → IsPartAt text nodes at (POther (PNames whole)) → IsName text nodes at at_names at_name whole
name_is text nodes at at_names at_name by known_names known_name whole is =
    let o = opened text nodes at (Made by.raw by.from) (POther (PNames whole)) by.node is in
    let a = accepted text act.ACT_NAME o.parts (POther (PNames whole) ∷ o.rest) (same_act text by.raw act.ACT_NAME o.parts by.number ∙ o.done) in
    go o.parts o.rest o.before a.0 a.1
  where
    go : (parts rest : Parts) → built text (take at nodes) ≡ Some parts → has_tops (is_token ∷ is_names ∷ []) parts ≡ true → POther (PNames whole) ∷ rest ≡ POther (PNames (made_name parts)) ∷ drop 2 parts → IsName text nodes at at_names at_name whole
    go parts rest before h q =
        top_token (is_names ∷ []) parts h (λ x0 r0 e0 h0.
        top_names ([]) r0 h0 (λ x1 r1 e1 h1.
        name_end text nodes at at_names at_name known_names known_name whole parts rest x0 x1 r1 before (e0 ∙ ap (λ (ps : Parts). PToken x0 ∷ ps) e1) q))

next_name_end : (text : List ℕ) (nodes : List Node) (at : ℕ) (at_names : ℕ) (at_name : SeenToken) → IsChild text nodes at 2 at_names → IsTokenOf text nodes at 0 at_name
    → (whole : List SeenToken) (parts rest : Parts) (name : SeenToken) (passed_1 : SeenToken) (names : List SeenToken) (behind : Parts) → built text (take at nodes) ≡ Some parts → parts ≡ PToken name ∷ PToken passed_1 ∷ POther (PNames names) ∷ behind
    → POther (PNames whole) ∷ rest ≡ POther (PNames (made_next_name parts)) ∷ drop 3 parts → IsNextName text nodes at at_names at_name whole
next_name_end text nodes at at_names at_name known_names known_name whole parts rest name passed_1 names behind before shape q =
    let made : whole ≡ made_next_name parts = cc in
    record {
      of_names = names;
      at_names = at_part text nodes at 2 at_names parts (behind) (POther (PNames names)) known_names before (ap (λ (ps : Parts). drop 2 ps) shape);
      made = made ∙ ap (λ (ps : Parts). made_next_name ps) shape
          ∙ ap (λ (x : SeenToken). (names ++ x ∷ [])) (sym (known_name.same parts (PToken passed_1 ∷ POther (PNames names) ∷ behind) name before (ap (λ (ps : Parts). drop 0 ps) shape)));
    }

pub next_name_is : (text : List ℕ) (nodes : List Node) (at : ℕ) (at_names : ℕ) (at_name : SeenToken) → IsMadeBy nodes at act.ACT_NEXT_NAME → IsChild text nodes at 2 at_names → IsTokenOf text nodes at 0 at_name
    → (whole : List SeenToken) → IsPartAt text nodes at (POther (PNames whole)) → IsNextName text nodes at at_names at_name whole
next_name_is text nodes at at_names at_name by known_names known_name whole is =
    let o = opened text nodes at (Made by.raw by.from) (POther (PNames whole)) by.node is in
    let a = accepted text act.ACT_NEXT_NAME o.parts (POther (PNames whole) ∷ o.rest) (same_act text by.raw act.ACT_NEXT_NAME o.parts by.number ∙ o.done) in
    go o.parts o.rest o.before a.0 a.1
  where
    go : (parts rest : Parts) → built text (take at nodes) ≡ Some parts → has_tops (is_token ∷ is_token ∷ is_names ∷ []) parts ≡ true → POther (PNames whole) ∷ rest ≡ POther (PNames (made_next_name parts)) ∷ drop 3 parts → IsNextName text nodes at at_names at_name whole
    go parts rest before h q =
        top_token (is_token ∷ is_names ∷ []) parts h (λ x0 r0 e0 h0.
        top_token (is_names ∷ []) r0 h0 (λ x1 r1 e1 h1.
        top_names ([]) r1 h1 (λ x2 r2 e2 h2.
        next_name_end text nodes at at_names at_name known_names known_name whole parts rest x0 x1 x2 r2 before (e0 ∙ ap (λ (ps : Parts). PToken x0 ∷ ps) (e1 ∙ ap (λ (ps : Parts). PToken x1 ∷ ps) e2)) q)))

in_names_end : (text : List ℕ) (nodes : List Node) (at : ℕ) (at_names : ℕ) → IsChild text nodes at 1 at_names
    → (whole : List SeenToken) (parts rest : Parts) (passed_2 : SeenToken) (names : List SeenToken) (passed_0 : SeenToken) (behind : Parts) → built text (take at nodes) ≡ Some parts → parts ≡ PToken passed_2 ∷ POther (PNames names) ∷ PToken passed_0 ∷ behind
    → POther (PNames whole) ∷ rest ≡ POther (PNames (made_in_names parts)) ∷ drop 3 parts → IsInNames text nodes at at_names whole
in_names_end text nodes at at_names known_names whole parts rest passed_2 names passed_0 behind before shape q =
    let made : whole ≡ made_in_names parts = cc in
    record {
      of_names = names;
      at_names = at_part text nodes at 1 at_names parts (PToken passed_0 ∷ behind) (POther (PNames names)) known_names before (ap (λ (ps : Parts). drop 1 ps) shape);
      made = made ∙ ap (λ (ps : Parts). made_in_names ps) shape;
    }

pub in_names_is : (text : List ℕ) (nodes : List Node) (at : ℕ) (at_names : ℕ) → IsMadeBy nodes at act.ACT_IN_NAMES → IsChild text nodes at 1 at_names
    → (whole : List SeenToken) → IsPartAt text nodes at (POther (PNames whole)) → IsInNames text nodes at at_names whole
in_names_is text nodes at at_names by known_names whole is =
    let o = opened text nodes at (Made by.raw by.from) (POther (PNames whole)) by.node is in
    let a = accepted text act.ACT_IN_NAMES o.parts (POther (PNames whole) ∷ o.rest) (same_act text by.raw act.ACT_IN_NAMES o.parts by.number ∙ o.done) in
    go o.parts o.rest o.before a.0 a.1
  where
    go : (parts rest : Parts) → built text (take at nodes) ≡ Some parts → has_tops (is_token ∷ is_names ∷ is_token ∷ []) parts ≡ true → POther (PNames whole) ∷ rest ≡ POther (PNames (made_in_names parts)) ∷ drop 3 parts → IsInNames text nodes at at_names whole
    go parts rest before h q =
        top_token (is_names ∷ is_token ∷ []) parts h (λ x0 r0 e0 h0.
        top_names (is_token ∷ []) r0 h0 (λ x1 r1 e1 h1.
        top_token ([]) r1 h1 (λ x2 r2 e2 h2.
        in_names_end text nodes at at_names known_names whole parts rest x0 x1 x2 r2 before (e0 ∙ ap (λ (ps : Parts). PToken x0 ∷ ps) (e1 ∙ ap (λ (ps : Parts). POther (PNames x1) ∷ ps) e2)) q)))

word_names_end : (text : List ℕ) (nodes : List Node) (at : ℕ) (at_names : ℕ) → IsChild text nodes at 0 at_names
    → (whole : List SeenToken) (parts rest : Parts) (names : List SeenToken) (passed_0 : SeenToken) (behind : Parts) → built text (take at nodes) ≡ Some parts → parts ≡ POther (PNames names) ∷ PToken passed_0 ∷ behind
    → POther (PNames whole) ∷ rest ≡ POther (PNames (made_word_names parts)) ∷ drop 2 parts → IsWordNames text nodes at at_names whole
word_names_end text nodes at at_names known_names whole parts rest names passed_0 behind before shape q =
    let made : whole ≡ made_word_names parts = cc in
    record {
      of_names = names;
      at_names = at_part text nodes at 0 at_names parts (PToken passed_0 ∷ behind) (POther (PNames names)) known_names before (ap (λ (ps : Parts). drop 0 ps) shape);
      made = made ∙ ap (λ (ps : Parts). made_word_names ps) shape;
    }

pub word_names_is : (text : List ℕ) (nodes : List Node) (at : ℕ) (at_names : ℕ) → IsMadeBy nodes at act.ACT_WORD_NAMES → IsChild text nodes at 0 at_names
    → (whole : List SeenToken) → IsPartAt text nodes at (POther (PNames whole)) → IsWordNames text nodes at at_names whole
word_names_is text nodes at at_names by known_names whole is =
    let o = opened text nodes at (Made by.raw by.from) (POther (PNames whole)) by.node is in
    let a = accepted text act.ACT_WORD_NAMES o.parts (POther (PNames whole) ∷ o.rest) (same_act text by.raw act.ACT_WORD_NAMES o.parts by.number ∙ o.done) in
    go o.parts o.rest o.before a.0 a.1
  where
    go : (parts rest : Parts) → built text (take at nodes) ≡ Some parts → has_tops (is_names ∷ is_token ∷ []) parts ≡ true → POther (PNames whole) ∷ rest ≡ POther (PNames (made_word_names parts)) ∷ drop 2 parts → IsWordNames text nodes at at_names whole
    go parts rest before h q =
        top_names (is_token ∷ []) parts h (λ x0 r0 e0 h0.
        top_token ([]) r0 h0 (λ x1 r1 e1 h1.
        word_names_end text nodes at at_names known_names whole parts rest x0 x1 r1 before (e0 ∙ ap (λ (ps : Parts). POther (PNames x0) ∷ ps) e1) q))
