-- Receiver nodes by the acts that make them. Made by tools/nodes.py from gosyntax.grammar: edit that.
use Rattle.std.proofs.Common.{◌≡◌, ℕ, true, List, [], ◌∷◌, Option, Some, None, refl, sym, ap, ◌∙◌}
use Rattle.std.specs.Prelude.{drop, take}
use Rattle.gv_grammar.specs.Building.{has_tops}
use Rattle.gv_gosyntax.specs.declared.generated.gosyntax_acts.Part.{Part}
use Rattle.gv_gosyntax.specs.declared.generated.gosyntax_acts.Part.TheVariants.{Receiver as PReceiver, Token as PToken}
use Rattle.gv_gosyntax.specs.declared.lexeme.Lexeme.{Lexeme}
use Rattle.gv_gosyntax.specs.declared.tree.Receiver.{Receiver}
use Rattle.gv_gosyntax.specs.declared.node.Node.{Node}
use Rattle.gv_gosyntax.specs.declared.node.Node.TheVariants.{Made}
use Rattle.gv_gosyntax.specs.declared.generated.gosyntax_table.TheConstants as act
use Rattle.gv_gosyntax.specs.GosyntaxActs.{is_token, made_no_receiver, made_receiver}
use Rattle.gv_gosyntax.specs.Nodes.{built, IsPartAt}
use Rattle.gv_gonodes.specs.Places.{IsMadeBy, IsTokenOf}
use Rattle.gv_gonodes.proofs.Opened.{opened, same_act}
use Rattle.gv_gonodes.proofs.Tops.{accepted, top_token}

no_receiver_end : (nodes : List Node) (at : ℕ)
    → (whole : Option Receiver) (parts rest : List Part) (behind : List Part) → built (take at nodes) ≡ Some parts → parts ≡ behind
    → PReceiver whole ∷ rest ≡ PReceiver (made_no_receiver parts) ∷ drop 0 parts → whole ≡ None
no_receiver_end nodes at whole parts rest behind before shape q =
    let made : whole ≡ made_no_receiver parts = cc in
    made ∙ ap (λ (ps : List Part). made_no_receiver ps) shape

pub no_receiver_is : (nodes : List Node) (at : ℕ) → IsMadeBy nodes at act.ACT_NO_RECEIVER
    → (whole : Option Receiver) → IsPartAt nodes at (PReceiver whole) → whole ≡ None
no_receiver_is nodes at by whole is =
    let o = opened nodes at (Made by.raw by.from) (PReceiver whole) by.node is in
    let a = accepted act.ACT_NO_RECEIVER o.parts (PReceiver whole ∷ o.rest) (same_act by.raw act.ACT_NO_RECEIVER o.parts by.number ∙ o.done) in
    go o.parts o.rest o.before a.0 a.1
  where
    go : (parts rest : List Part) → built (take at nodes) ≡ Some parts → has_tops ([]) parts ≡ true → PReceiver whole ∷ rest ≡ PReceiver (made_no_receiver parts) ∷ drop 0 parts → whole ≡ None
    go parts rest before h q =
        no_receiver_end nodes at whole parts rest parts before refl q

receiver_end : (nodes : List Node) (at : ℕ) (at_name : Lexeme) (at_of : Lexeme) → IsTokenOf nodes at 3 at_name → IsTokenOf nodes at 1 at_of
    → (whole : Option Receiver) (parts rest : List Part) (passed_4 : Lexeme) (of : Lexeme) (passed_2 : Lexeme) (name : Lexeme) (passed_0 : Lexeme) (behind : List Part) → built (take at nodes) ≡ Some parts → parts ≡ PToken passed_4 ∷ PToken of ∷ PToken passed_2 ∷ PToken name ∷ PToken passed_0 ∷ behind
    → PReceiver whole ∷ rest ≡ PReceiver (made_receiver parts) ∷ drop 5 parts → whole ≡ (Some (record { name = at_name; of = at_of }))
receiver_end nodes at at_name at_of known_name known_of whole parts rest passed_4 of passed_2 name passed_0 behind before shape q =
    let made : whole ≡ made_receiver parts = cc in
    made ∙ ap (λ (ps : List Part). made_receiver ps) shape
    ∙ ap (λ (x : Lexeme). let y : Option Receiver = (Some (record { name = x; of = of })) in y) (sym (known_name.same parts (PToken passed_0 ∷ behind) name before (ap (λ (ps : List Part). drop 3 ps) shape)))
    ∙ ap (λ (x : Lexeme). let y : Option Receiver = (Some (record { name = at_name; of = x })) in y) (sym (known_of.same parts (PToken passed_2 ∷ PToken name ∷ PToken passed_0 ∷ behind) of before (ap (λ (ps : List Part). drop 1 ps) shape)))

pub receiver_is : (nodes : List Node) (at : ℕ) (at_name : Lexeme) (at_of : Lexeme) → IsMadeBy nodes at act.ACT_RECEIVER → IsTokenOf nodes at 3 at_name → IsTokenOf nodes at 1 at_of
    → (whole : Option Receiver) → IsPartAt nodes at (PReceiver whole) → whole ≡ (Some (record { name = at_name; of = at_of }))
receiver_is nodes at at_name at_of by known_name known_of whole is =
    let o = opened nodes at (Made by.raw by.from) (PReceiver whole) by.node is in
    let a = accepted act.ACT_RECEIVER o.parts (PReceiver whole ∷ o.rest) (same_act by.raw act.ACT_RECEIVER o.parts by.number ∙ o.done) in
    go o.parts o.rest o.before a.0 a.1
  where
    go : (parts rest : List Part) → built (take at nodes) ≡ Some parts → has_tops (is_token ∷ is_token ∷ is_token ∷ is_token ∷ is_token ∷ []) parts ≡ true → PReceiver whole ∷ rest ≡ PReceiver (made_receiver parts) ∷ drop 5 parts → whole ≡ (Some (record { name = at_name; of = at_of }))
    go parts rest before h q =
        top_token (is_token ∷ is_token ∷ is_token ∷ is_token ∷ []) parts h (λ x0 r0 e0 h0.
        top_token (is_token ∷ is_token ∷ is_token ∷ []) r0 h0 (λ x1 r1 e1 h1.
        top_token (is_token ∷ is_token ∷ []) r1 h1 (λ x2 r2 e2 h2.
        top_token (is_token ∷ []) r2 h2 (λ x3 r3 e3 h3.
        top_token ([]) r3 h3 (λ x4 r4 e4 h4.
        receiver_end nodes at at_name at_of known_name known_of whole parts rest x0 x1 x2 x3 x4 r4 before (e0 ∙ ap (λ (ps : List Part). PToken x0 ∷ ps) (e1 ∙ ap (λ (ps : List Part). PToken x1 ∷ ps) (e2 ∙ ap (λ (ps : List Part). PToken x2 ∷ ps) (e3 ∙ ap (λ (ps : List Part). PToken x3 ∷ ps) e4)))) q)))))
