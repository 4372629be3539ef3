-- Pointed nodes by the acts that make them. Made by tools/nodes.py from gosyntax.grammar: edit that.
use Rattle.std.proofs.Common.{◌≡◌, ℕ, true, List, [], ◌∷◌, Some, sym, ap, ◌∙◌}
use Rattle.std.specs.Prelude.{drop, take}
use Rattle.gv_grammar.specs.Building.{has_tops}
use Rattle.gv_gosyntax.specs.declared.generated.gosyntax_acts.Part.{Part}
use Rattle.gv_gosyntax.specs.declared.generated.gosyntax_acts.Part.TheVariants.{Pointed as PPointed, Token as PToken}
use Rattle.gv_gosyntax.specs.declared.lexeme.Lexeme.{Lexeme}
use Rattle.gv_gosyntax.specs.declared.tree.Pointed.{Pointed}
use Rattle.gv_gosyntax.specs.declared.tree.Pointed.TheVariants as pointed
use Rattle.gv_gosyntax.specs.declared.node.Node.{Node}
use Rattle.gv_gosyntax.specs.declared.node.Node.TheVariants.{Made}
use Rattle.gv_gosyntax.specs.declared.generated.gosyntax_table.TheConstants as act
use Rattle.gv_gosyntax.specs.GosyntaxActs.{is_token, made_mutex, made_named}
use Rattle.gv_gosyntax.specs.Nodes.{built, IsPartAt}
use Rattle.gv_gonodes.specs.Places.{IsMadeBy, IsTokenOf}
use Rattle.gv_gonodes.proofs.Opened.{opened, same_act}
use Rattle.gv_gonodes.proofs.Tops.{accepted, top_token}

named_end : (nodes : List Node) (at : ℕ) (at_name : Lexeme) → IsTokenOf nodes at 0 at_name
    → (whole : Pointed) (parts rest : List Part) (name : Lexeme) (behind : List Part) → built (take at nodes) ≡ Some parts → parts ≡ PToken name ∷ behind
    → PPointed whole ∷ rest ≡ PPointed (made_named parts) ∷ drop 1 parts → whole ≡ (pointed.Named at_name)
named_end nodes at at_name known_name whole parts rest name behind before shape q =
    let made : whole ≡ made_named parts = cc in
    made ∙ ap (λ (ps : List Part). made_named ps) shape
    ∙ ap (λ (x : Lexeme). (pointed.Named x)) (sym (known_name.same parts (behind) name before (ap (λ (ps : List Part). drop 0 ps) shape)))

pub named_is : (nodes : List Node) (at : ℕ) (at_name : Lexeme) → IsMadeBy nodes at act.ACT_NAMED → IsTokenOf nodes at 0 at_name
    → (whole : Pointed) → IsPartAt nodes at (PPointed whole) → whole ≡ (pointed.Named at_name)
named_is nodes at at_name by known_name whole is =
    let o = opened nodes at (Made by.raw by.from) (PPointed whole) by.node is in
    let a = accepted act.ACT_NAMED o.parts (PPointed whole ∷ o.rest) (same_act by.raw act.ACT_NAMED o.parts by.number ∙ o.done) in
    go o.parts o.rest o.before a.0 a.1
  where
    go : (parts rest : List Part) → built (take at nodes) ≡ Some parts → has_tops (is_token ∷ []) parts ≡ true → PPointed whole ∷ rest ≡ PPointed (made_named parts) ∷ drop 1 parts → whole ≡ (pointed.Named at_name)
    go parts rest before h q =
        top_token ([]) parts h (λ x0 r0 e0 h0.
        named_end nodes at at_name known_name whole parts rest x0 r0 before e0 q)

mutex_end : (nodes : List Node) (at : ℕ) (at_word : Lexeme) → IsTokenOf nodes at 2 at_word
    → (whole : Pointed) (parts rest : List Part) (passed_2 : Lexeme) (passed_1 : Lexeme) (word : Lexeme) (behind : List Part) → built (take at nodes) ≡ Some parts → parts ≡ PToken passed_2 ∷ PToken passed_1 ∷ PToken word ∷ behind
    → PPointed whole ∷ rest ≡ PPointed (made_mutex parts) ∷ drop 3 parts → whole ≡ (pointed.Mutex at_word)
mutex_end nodes at at_word known_word whole parts rest passed_2 passed_1 word behind before shape q =
    let made : whole ≡ made_mutex parts = cc in
    made ∙ ap (λ (ps : List Part). made_mutex ps) shape
    ∙ ap (λ (x : Lexeme). (pointed.Mutex x)) (sym (known_word.same parts (behind) word before (ap (λ (ps : List Part). drop 2 ps) shape)))

pub mutex_is : (nodes : List Node) (at : ℕ) (at_word : Lexeme) → IsMadeBy nodes at act.ACT_MUTEX → IsTokenOf nodes at 2 at_word
    → (whole : Pointed) → IsPartAt nodes at (PPointed whole) → whole ≡ (pointed.Mutex at_word)
mutex_is nodes at at_word by known_word whole is =
    let o = opened nodes at (Made by.raw by.from) (PPointed whole) by.node is in
    let a = accepted act.ACT_MUTEX o.parts (PPointed whole ∷ o.rest) (same_act by.raw act.ACT_MUTEX o.parts by.number ∙ o.done) in
    go o.parts o.rest o.before a.0 a.1
  where
    go : (parts rest : List Part) → built (take at nodes) ≡ Some parts → has_tops (is_token ∷ is_token ∷ is_token ∷ []) parts ≡ true → PPointed whole ∷ rest ≡ PPointed (made_mutex parts) ∷ drop 3 parts → whole ≡ (pointed.Mutex at_word)
    go parts rest before h q =
        top_token (is_token ∷ is_token ∷ []) parts h (λ x0 r0 e0 h0.
        top_token (is_token ∷ []) r0 h0 (λ x1 r1 e1 h1.
        top_token ([]) r1 h1 (λ x2 r2 e2 h2.
        mutex_end nodes at at_word known_word whole parts rest x0 x1 x2 r2 before (e0 ∙ ap (λ (ps : List Part). PToken x0 ∷ ps) (e1 ∙ ap (λ (ps : List Part). PToken x1 ∷ ps) e2)) q)))
