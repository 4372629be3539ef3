-- Term nodes by the acts that make them. Made by tools/script_nodes.py from script.grammar: edit that.
use Rattle.std.proofs.Common.{◌≡◌, ℕ, true, List, [], ◌∷◌, Some, sym, ap, ◌∙◌}
use Rattle.std.specs.Prelude.{drop, take}
use Rattle.gv_grammar.specs.Building.{has_tops}
use Rattle.gv_termread.specs.declared.generated.term_acts.Part.TheVariants.{Term as PTerm, Token as PToken}
use Rattle.gv_termread.specs.declared.placed.PlacedTerm.{PlacedTerm}
use Rattle.gv_termread.specs.declared.token.SeenToken.{SeenToken}
use Rattle.gv_termread.specs.Trees.{number, constant, variable, in_parens, maker, apply, unary, binary}
use Rattle.gv_scriptsyntax.specs.declared.node.Node.{Node}
use Rattle.gv_scriptsyntax.specs.declared.node.Node.TheVariants.{Made}
use Rattle.gv_termread.specs.declared.generated.term_table.TheConstants as act
use Rattle.gv_termread.specs.TermActs.{is_term, is_token, made_binary, made_constant, made_maker, made_number, made_of_one, made_of_three, made_of_two, made_paren, made_unary, made_variable}
use Rattle.gv_scriptsyntax.specs.Nodes.{Parts, built, IsPartAt}
use Rattle.gv_scriptnodes.specs.Places.{IsChild, IsTokenOf}
use Rattle.gv_scriptnodes.proofs.Opened.{opened}
use Rattle.gv_scriptnodes.proofs.Tops.{accepted, top_term, top_token}
use Rattle.gv_certnodes.specs.Places.{IsMadeBy}
use Rattle.gv_certnodes.specs.Term.{IsBinary, IsUnary, IsParen, IsMaker, IsOfOne, IsOfTwo, IsOfThree}
use Rattle.gv_certnodes.proofs.Opened.{at_part, same_act}

binary_end : (text : List ℕ) (nodes : List Node) (at : ℕ) (at_left : ℕ) (at_sign : SeenToken) (at_right : ℕ) → IsChild text nodes at 2 at_left → IsTokenOf text nodes at 1 at_sign → IsChild text nodes at 0 at_right
    → (whole : PlacedTerm) (parts rest : Parts) (right : PlacedTerm) (sign : SeenToken) (left : PlacedTerm) (behind : Parts) → built text (take at nodes) ≡ Some parts → parts ≡ PTerm right ∷ PToken sign ∷ PTerm left ∷ behind
    → PTerm whole ∷ rest ≡ made_binary parts → IsBinary text nodes at at_left at_sign at_right whole
binary_end text nodes at at_left at_sign at_right known_left known_sign known_right whole parts rest right sign left behind before shape q =
    let there : PTerm whole ∷ rest ≡ PTerm (binary sign left right) ∷ behind = q ∙ ap (λ (ps : Parts). made_binary ps) shape in
    let made : whole ≡ (binary sign left right) = cc in
    record {
      of_left = left;
      of_right = right;
      at_left = at_part text nodes at 2 at_left parts (behind) (PTerm left) known_left before (ap (λ (ps : Parts). drop 2 ps) shape);
      at_right = at_part text nodes at 0 at_right parts (PToken sign ∷ PTerm left ∷ behind) (PTerm right) known_right before (ap (λ (ps : Parts). drop 0 ps) shape);
      made = made
          ∙ ap (λ (x : SeenToken). (binary x left right)) (sym (known_sign.same parts (PTerm left ∷ behind) sign before (ap (λ (ps : Parts). drop 1 ps) shape)));
    }

pub binary_is : (text : List ℕ) (nodes : List Node) (at : ℕ) (at_left : ℕ) (at_sign : SeenToken) (at_right : ℕ) → IsMadeBy nodes at act.ACT_BINARY → IsChild text nodes at 2 at_left → IsTokenOf text nodes at 1 at_sign → IsChild text nodes at 0 at_right
    → (whole : PlacedTerm) → IsPartAt text nodes at (PTerm whole) → IsBinary text nodes at at_left at_sign at_right whole
binary_is text nodes at at_left at_sign at_right by known_left known_sign known_right whole is =
    let o = opened text nodes at (Made by.raw by.from) (PTerm whole) by.node is in
    let a = accepted text act.ACT_BINARY o.parts (PTerm whole ∷ o.rest) (same_act text by.raw act.ACT_BINARY o.parts by.number ∙ o.done) in
    go o.parts o.rest o.before a.0 a.1
  where
    go : (parts rest : Parts) → built text (take at nodes) ≡ Some parts → has_tops (is_term ∷ is_token ∷ is_term ∷ []) parts ≡ true → PTerm whole ∷ rest ≡ made_binary parts → IsBinary text nodes at at_left at_sign at_right whole
    go parts rest before h q =
        top_term (is_token ∷ is_term ∷ []) parts h (λ x0 r0 e0 h0.
        top_token (is_term ∷ []) r0 h0 (λ x1 r1 e1 h1.
        top_term ([]) r1 h1 (λ x2 r2 e2 h2.
        binary_end text nodes at at_left at_sign at_right known_left known_sign known_right whole parts rest x0 x1 x2 r2 before (e0 ∙ ap (λ (ps : Parts). PTerm x0 ∷ ps) (e1 ∙ ap (λ (ps : Parts). PToken x1 ∷ ps) e2)) q)))

unary_end : (text : List ℕ) (nodes : List Node) (at : ℕ) (at_sign : SeenToken) (at_inner : ℕ) → IsTokenOf text nodes at 1 at_sign → IsChild text nodes at 0 at_inner
    → (whole : PlacedTerm) (parts rest : Parts) (inner : PlacedTerm) (sign : SeenToken) (behind : Parts) → built text (take at nodes) ≡ Some parts → parts ≡ PTerm inner ∷ PToken sign ∷ behind
    → PTerm whole ∷ rest ≡ made_unary parts → IsUnary text nodes at at_sign at_inner whole
unary_end text nodes at at_sign at_inner known_sign known_inner whole parts rest inner sign behind before shape q =
    let there : PTerm whole ∷ rest ≡ PTerm (unary sign inner) ∷ behind = q ∙ ap (λ (ps : Parts). made_unary ps) shape in
    let made : whole ≡ (unary sign inner) = cc in
    record {
      of_inner = inner;
      at_inner = at_part text nodes at 0 at_inner parts (PToken sign ∷ behind) (PTerm inner) known_inner before (ap (λ (ps : Parts). drop 0 ps) shape);
      made = made
          ∙ ap (λ (x : SeenToken). (unary x inner)) (sym (known_sign.same parts (behind) sign before (ap (λ (ps : Parts). drop 1 ps) shape)));
    }

pub unary_is : (text : List ℕ) (nodes : List Node) (at : ℕ) (at_sign : SeenToken) (at_inner : ℕ) → IsMadeBy nodes at act.ACT_UNARY → IsTokenOf text nodes at 1 at_sign → IsChild text nodes at 0 at_inner
    → (whole : PlacedTerm) → IsPartAt text nodes at (PTerm whole) → IsUnary text nodes at at_sign at_inner whole
unary_is text nodes at at_sign at_inner by known_sign known_inner whole is =
    let o = opened text nodes at (Made by.raw by.from) (PTerm whole) by.node is in
    let a = accepted text act.ACT_UNARY o.parts (PTerm whole ∷ o.rest) (same_act text by.raw act.ACT_UNARY o.parts by.number ∙ o.done) in
    go o.parts o.rest o.before a.0 a.1
  where
    go : (parts rest : Parts) → built text (take at nodes) ≡ Some parts → has_tops (is_term ∷ is_token ∷ []) parts ≡ true → PTerm whole ∷ rest ≡ made_unary parts → IsUnary text nodes at at_sign at_inner whole
    go parts rest before h q =
        top_term (is_token ∷ []) parts h (λ x0 r0 e0 h0.
        top_token ([]) r0 h0 (λ x1 r1 e1 h1.
        unary_end text nodes at at_sign at_inner known_sign known_inner whole parts rest x0 x1 r1 before (e0 ∙ ap (λ (ps : Parts). PTerm x0 ∷ ps) e1) q))

number_end : (text : List ℕ) (nodes : List Node) (at : ℕ) (at_token : SeenToken) → IsTokenOf text nodes at 0 at_token
    → (whole : PlacedTerm) (parts rest : Parts) (token : SeenToken) (behind : Parts) → built text (take at nodes) ≡ Some parts → parts ≡ PToken token ∷ behind
    → PTerm whole ∷ rest ≡ made_number parts → whole ≡ (number at_token)
number_end text nodes at at_token known_token whole parts rest token behind before shape q =
    let there : PTerm whole ∷ rest ≡ PTerm (number token) ∷ behind = q ∙ ap (λ (ps : Parts). made_number ps) shape in
    let made : whole ≡ (number token) = cc in
    made
    ∙ ap (λ (x : SeenToken). (number x)) (sym (known_token.same parts (behind) token before (ap (λ (ps : Parts). drop 0 ps) shape)))

pub number_is : (text : List ℕ) (nodes : List Node) (at : ℕ) (at_token : SeenToken) → IsMadeBy nodes at act.ACT_NUMBER → IsTokenOf text nodes at 0 at_token
    → (whole : PlacedTerm) → IsPartAt text nodes at (PTerm whole) → whole ≡ (number at_token)
number_is text nodes at at_token by known_token whole is =
    let o = opened text nodes at (Made by.raw by.from) (PTerm whole) by.node is in
    let a = accepted text act.ACT_NUMBER o.parts (PTerm whole ∷ o.rest) (same_act text by.raw act.ACT_NUMBER o.parts by.number ∙ o.done) in
    go o.parts o.rest o.before a.0 a.1
  where
    go : (parts rest : Parts) → built text (take at nodes) ≡ Some parts → has_tops (is_token ∷ []) parts ≡ true → PTerm whole ∷ rest ≡ made_number parts → whole ≡ (number at_token)
    go parts rest before h q =
        top_token ([]) parts h (λ x0 r0 e0 h0.
        number_end text nodes at at_token known_token whole parts rest x0 r0 before e0 q)

constant_end : (text : List ℕ) (nodes : List Node) (at : ℕ) (at_word : SeenToken) → IsTokenOf text nodes at 0 at_word
    → (whole : PlacedTerm) (parts rest : Parts) (word : SeenToken) (behind : Parts) → built text (take at nodes) ≡ Some parts → parts ≡ PToken word ∷ behind
    → PTerm whole ∷ rest ≡ made_constant parts → whole ≡ (constant at_word)
constant_end text nodes at at_word known_word whole parts rest word behind before shape q =
    let there : PTerm whole ∷ rest ≡ PTerm (constant word) ∷ behind = q ∙ ap (λ (ps : Parts). made_constant ps) shape in
    let made : whole ≡ (constant word) = cc in
    made
    ∙ ap (λ (x : SeenToken). (constant x)) (sym (known_word.same parts (behind) word before (ap (λ (ps : Parts). drop 0 ps) shape)))

pub constant_is : (text : List ℕ) (nodes : List Node) (at : ℕ) (at_word : SeenToken) → IsMadeBy nodes at act.ACT_CONSTANT → IsTokenOf text nodes at 0 at_word
    → (whole : PlacedTerm) → IsPartAt text nodes at (PTerm whole) → whole ≡ (constant at_word)
constant_is text nodes at at_word by known_word whole is =
    let o = opened text nodes at (Made by.raw by.from) (PTerm whole) by.node is in
    let a = accepted text act.ACT_CONSTANT o.parts (PTerm whole ∷ o.rest) (same_act text by.raw act.ACT_CONSTANT o.parts by.number ∙ o.done) in
    go o.parts o.rest o.before a.0 a.1
  where
    go : (parts rest : Parts) → built text (take at nodes) ≡ Some parts → has_tops (is_token ∷ []) parts ≡ true → PTerm whole ∷ rest ≡ made_constant parts → whole ≡ (constant at_word)
    go parts rest before h q =
        top_token ([]) parts h (λ x0 r0 e0 h0.
        constant_end text nodes at at_word known_word whole parts rest x0 r0 before e0 q)

variable_end : (text : List ℕ) (nodes : List Node) (at : ℕ) (at_name : SeenToken) → IsTokenOf text nodes at 0 at_name
    → (whole : PlacedTerm) (parts rest : Parts) (name : SeenToken) (behind : Parts) → built text (take at nodes) ≡ Some parts → parts ≡ PToken name ∷ behind
    → PTerm whole ∷ rest ≡ made_variable text parts → whole ≡ (variable text at_name)
variable_end text nodes at at_name known_name whole parts rest name behind before shape q =
    let there : PTerm whole ∷ rest ≡ PTerm (variable text name) ∷ behind = q ∙ ap (λ (ps : Parts). made_variable text ps) shape in
    let made : whole ≡ (variable text name) = cc in
    made
    ∙ ap (λ (x : SeenToken). (variable text x)) (sym (known_name.same parts (behind) name before (ap (λ (ps : Parts). drop 0 ps) shape)))

pub variable_is : (text : List ℕ) (nodes : List Node) (at : ℕ) (at_name : SeenToken) → IsMadeBy nodes at act.ACT_VARIABLE → IsTokenOf text nodes at 0 at_name
    → (whole : PlacedTerm) → IsPartAt text nodes at (PTerm whole) → whole ≡ (variable text at_name)
variable_is text nodes at at_name by known_name whole is =
    let o = opened text nodes at (Made by.raw by.from) (PTerm whole) by.node is in
    let a = accepted text act.ACT_VARIABLE o.parts (PTerm whole ∷ o.rest) (same_act text by.raw act.ACT_VARIABLE o.parts by.number ∙ o.done) in
    go o.parts o.rest o.before a.0 a.1
  where
    go : (parts rest : Parts) → built text (take at nodes) ≡ Some parts → has_tops (is_token ∷ []) parts ≡ true → PTerm whole ∷ rest ≡ made_variable text parts → whole ≡ (variable text at_name)
    go parts rest before h q =
        top_token ([]) parts h (λ x0 r0 e0 h0.
        variable_end text nodes at at_name known_name whole parts rest x0 r0 before e0 q)

paren_end : (text : List ℕ) (nodes : List Node) (at : ℕ) (at_brace : SeenToken) (at_inner : ℕ) → IsTokenOf text nodes at 2 at_brace → IsChild text nodes at 1 at_inner
    → (whole : PlacedTerm) (parts rest : Parts) (passed_2 : SeenToken) (inner : PlacedTerm) (brace : SeenToken) (behind : Parts) → built text (take at nodes) ≡ Some parts → parts ≡ PToken passed_2 ∷ PTerm inner ∷ PToken brace ∷ behind
    → PTerm whole ∷ rest ≡ made_paren parts → IsParen text nodes at at_brace at_inner whole
paren_end text nodes at at_brace at_inner known_brace known_inner whole parts rest passed_2 inner brace behind before shape q =
    let there : PTerm whole ∷ rest ≡ PTerm (in_parens brace inner) ∷ behind = q ∙ ap (λ (ps : Parts). made_paren ps) shape in
    let made : whole ≡ (in_parens brace inner) = cc in
    record {
      of_inner = inner;
      at_inner = at_part text nodes at 1 at_inner parts (PToken brace ∷ behind) (PTerm inner) known_inner before (ap (λ (ps : Parts). drop 1 ps) shape);
      made = made
          ∙ ap (λ (x : SeenToken). (in_parens x inner)) (sym (known_brace.same parts (behind) brace before (ap (λ (ps : Parts). drop 2 ps) shape)));
    }

pub paren_is : (text : List ℕ) (nodes : List Node) (at : ℕ) (at_brace : SeenToken) (at_inner : ℕ) → IsMadeBy nodes at act.ACT_PAREN → IsTokenOf text nodes at 2 at_brace → IsChild text nodes at 1 at_inner
    → (whole : PlacedTerm) → IsPartAt text nodes at (PTerm whole) → IsParen text nodes at at_brace at_inner whole
paren_is text nodes at at_brace at_inner by known_brace known_inner whole is =
    let o = opened text nodes at (Made by.raw by.from) (PTerm whole) by.node is in
    let a = accepted text act.ACT_PAREN o.parts (PTerm whole ∷ o.rest) (same_act text by.raw act.ACT_PAREN o.parts by.number ∙ o.done) in
    go o.parts o.rest o.before a.0 a.1
  where
    go : (parts rest : Parts) → built text (take at nodes) ≡ Some parts → has_tops (is_token ∷ is_term ∷ is_token ∷ []) parts ≡ true → PTerm whole ∷ rest ≡ made_paren parts → IsParen text nodes at at_brace at_inner whole
    go parts rest before h q =
        top_token (is_term ∷ is_token ∷ []) parts h (λ x0 r0 e0 h0.
        top_term (is_token ∷ []) r0 h0 (λ x1 r1 e1 h1.
        top_token ([]) r1 h1 (λ x2 r2 e2 h2.
        paren_end text nodes at at_brace at_inner known_brace known_inner whole parts rest x0 x1 x2 r2 before (e0 ∙ ap (λ (ps : Parts). PToken x0 ∷ ps) (e1 ∙ ap (λ (ps : Parts). PTerm x1 ∷ ps) e2)) q)))

maker_end : (text : List ℕ) (nodes : List Node) (at : ℕ) (at_name : SeenToken) (at_count : SeenToken) (at_item : ℕ) → IsTokenOf text nodes at 5 at_name → IsTokenOf text nodes at 3 at_count → IsChild text nodes at 1 at_item
    → (whole : PlacedTerm) (parts rest : Parts) (passed_5 : SeenToken) (item : PlacedTerm) (passed_3 : SeenToken) (count : SeenToken) (passed_1 : SeenToken) (name : SeenToken) (behind : Parts) → built text (take at nodes) ≡ Some parts → parts ≡ PToken passed_5 ∷ PTerm item ∷ PToken passed_3 ∷ PToken count ∷ PToken passed_1 ∷ PToken name ∷ behind
    → PTerm whole ∷ rest ≡ made_maker parts → IsMaker text nodes at at_name at_count at_item whole
maker_end text nodes at at_name at_count at_item known_name known_count known_item whole parts rest passed_5 item passed_3 count passed_1 name behind before shape q =
    let there : PTerm whole ∷ rest ≡ PTerm (maker name count item) ∷ behind = q ∙ ap (λ (ps : Parts). made_maker ps) shape in
    let made : whole ≡ (maker name count item) = cc in
    record {
      of_item = item;
      at_item = at_part text nodes at 1 at_item parts (PToken passed_3 ∷ PToken count ∷ PToken passed_1 ∷ PToken name ∷ behind) (PTerm item) known_item before (ap (λ (ps : Parts). drop 1 ps) shape);
      made = made
          ∙ ap (λ (x : SeenToken). (maker x count item)) (sym (known_name.same parts (behind) name before (ap (λ (ps : Parts). drop 5 ps) shape)))
          ∙ ap (λ (x : SeenToken). (maker at_name x item)) (sym (known_count.same parts (PToken passed_1 ∷ PToken name ∷ behind) count before (ap (λ (ps : Parts). drop 3 ps) shape)));
    }

pub maker_is : (text : List ℕ) (nodes : List Node) (at : ℕ) (at_name : SeenToken) (at_count : SeenToken) (at_item : ℕ) → IsMadeBy nodes at act.ACT_MAKER → IsTokenOf text nodes at 5 at_name → IsTokenOf text nodes at 3 at_count → IsChild text nodes at 1 at_item
    → (whole : PlacedTerm) → IsPartAt text nodes at (PTerm whole) → IsMaker text nodes at at_name at_count at_item whole
maker_is text nodes at at_name at_count at_item by known_name known_count known_item whole is =
    let o = opened text nodes at (Made by.raw by.from) (PTerm whole) by.node is in
    let a = accepted text act.ACT_MAKER o.parts (PTerm whole ∷ o.rest) (same_act text by.raw act.ACT_MAKER o.parts by.number ∙ o.done) in
    go o.parts o.rest o.before a.0 a.1
  where
    go : (parts rest : Parts) → built text (take at nodes) ≡ Some parts → has_tops (is_token ∷ is_term ∷ is_token ∷ is_token ∷ is_token ∷ is_token ∷ []) parts ≡ true → PTerm whole ∷ rest ≡ made_maker parts → IsMaker text nodes at at_name at_count at_item whole
    go parts rest before h q =
        top_token (is_term ∷ is_token ∷ is_token ∷ is_token ∷ is_token ∷ []) parts h (λ x0 r0 e0 h0.
        top_term (is_token ∷ is_token ∷ is_token ∷ is_token ∷ []) r0 h0 (λ x1 r1 e1 h1.
        top_token (is_token ∷ is_token ∷ is_token ∷ []) r1 h1 (λ x2 r2 e2 h2.
        top_token (is_token ∷ is_token ∷ []) r2 h2 (λ x3 r3 e3 h3.
        top_token (is_token ∷ []) r3 h3 (λ x4 r4 e4 h4.
        top_token ([]) r4 h4 (λ x5 r5 e5 h5.
        maker_end text nodes at at_name at_count at_item known_name known_count known_item whole parts rest x0 x1 x2 x3 x4 x5 r5 before (e0 ∙ ap (λ (ps : Parts). PToken x0 ∷ ps) (e1 ∙ ap (λ (ps : Parts). PTerm x1 ∷ ps) (e2 ∙ ap (λ (ps : Parts). PToken x2 ∷ ps) (e3 ∙ ap (λ (ps : Parts). PToken x3 ∷ ps) (e4 ∙ ap (λ (ps : Parts). PToken x4 ∷ ps) e5))))) q))))))

of_one_end : (text : List ℕ) (nodes : List Node) (at : ℕ) (at_name : SeenToken) (at_a : ℕ) → IsTokenOf text nodes at 3 at_name → IsChild text nodes at 1 at_a
    → (whole : PlacedTerm) (parts rest : Parts) (passed_3 : SeenToken) (a : PlacedTerm) (passed_1 : SeenToken) (name : SeenToken) (behind : Parts) → built text (take at nodes) ≡ Some parts → parts ≡ PToken passed_3 ∷ PTerm a ∷ PToken passed_1 ∷ PToken name ∷ behind
    → PTerm whole ∷ rest ≡ made_of_one parts → IsOfOne text nodes at at_name at_a whole
of_one_end text nodes at at_name at_a known_name known_a whole parts rest passed_3 a passed_1 name behind before shape q =
    let there : PTerm whole ∷ rest ≡ PTerm (apply name (a ∷ [])) ∷ behind = q ∙ ap (λ (ps : Parts). made_of_one ps) shape in
    let made : whole ≡ (apply name (a ∷ [])) = cc in
    record {
      of_a = a;
      at_a = at_part text nodes at 1 at_a parts (PToken passed_1 ∷ PToken name ∷ behind) (PTerm a) known_a before (ap (λ (ps : Parts). drop 1 ps) shape);
      made = made
          ∙ ap (λ (x : SeenToken). (apply x (a ∷ []))) (sym (known_name.same parts (behind) name before (ap (λ (ps : Parts). drop 3 ps) shape)));
    }

pub of_one_is : (text : List ℕ) (nodes : List Node) (at : ℕ) (at_name : SeenToken) (at_a : ℕ) → IsMadeBy nodes at act.ACT_OF_ONE → IsTokenOf text nodes at 3 at_name → IsChild text nodes at 1 at_a
    → (whole : PlacedTerm) → IsPartAt text nodes at (PTerm whole) → IsOfOne text nodes at at_name at_a whole
of_one_is text nodes at at_name at_a by known_name known_a whole is =
    let o = opened text nodes at (Made by.raw by.from) (PTerm whole) by.node is in
    let a = accepted text act.ACT_OF_ONE o.parts (PTerm whole ∷ o.rest) (same_act text by.raw act.ACT_OF_ONE o.parts by.number ∙ o.done) in
    go o.parts o.rest o.before a.0 a.1
  where
    go : (parts rest : Parts) → built text (take at nodes) ≡ Some parts → has_tops (is_token ∷ is_term ∷ is_token ∷ is_token ∷ []) parts ≡ true → PTerm whole ∷ rest ≡ made_of_one parts → IsOfOne text nodes at at_name at_a whole
    go parts rest before h q =
        top_token (is_term ∷ is_token ∷ is_token ∷ []) parts h (λ x0 r0 e0 h0.
        top_term (is_token ∷ is_token ∷ []) r0 h0 (λ x1 r1 e1 h1.
        top_token (is_token ∷ []) r1 h1 (λ x2 r2 e2 h2.
        top_token ([]) r2 h2 (λ x3 r3 e3 h3.
        of_one_end text nodes at at_name at_a known_name known_a whole parts rest x0 x1 x2 x3 r3 before (e0 ∙ ap (λ (ps : Parts). PToken x0 ∷ ps) (e1 ∙ ap (λ (ps : Parts). PTerm x1 ∷ ps) (e2 ∙ ap (λ (ps : Parts). PToken x2 ∷ ps) e3))) q))))

of_two_end : (text : List ℕ) (nodes : List Node) (at : ℕ) (at_name : SeenToken) (at_a : ℕ) (at_b : ℕ) → IsTokenOf text nodes at 5 at_name → IsChild text nodes at 3 at_a → IsChild text nodes at 1 at_b
    → (whole : PlacedTerm) (parts rest : Parts) (passed_5 : SeenToken) (b : PlacedTerm) (passed_3 : SeenToken) (a : PlacedTerm) (passed_1 : SeenToken) (name : SeenToken) (behind : Parts) → built text (take at nodes) ≡ Some parts → parts ≡ PToken passed_5 ∷ PTerm b ∷ PToken passed_3 ∷ PTerm a ∷ PToken passed_1 ∷ PToken name ∷ behind
    → PTerm whole ∷ rest ≡ made_of_two parts → IsOfTwo text nodes at at_name at_a at_b whole
of_two_end text nodes at at_name at_a at_b known_name known_a known_b whole parts rest passed_5 b passed_3 a passed_1 name behind before shape q =
    let there : PTerm whole ∷ rest ≡ PTerm (apply name (a ∷ b ∷ [])) ∷ behind = q ∙ ap (λ (ps : Parts). made_of_two ps) shape in
    let made : whole ≡ (apply name (a ∷ b ∷ [])) = cc in
    record {
      of_a = a;
      of_b = b;
      at_a = at_part text nodes at 3 at_a parts (PToken passed_1 ∷ PToken name ∷ behind) (PTerm a) known_a before (ap (λ (ps : Parts). drop 3 ps) shape);
      at_b = at_part text nodes at 1 at_b parts (PToken passed_3 ∷ PTerm a ∷ PToken passed_1 ∷ PToken name ∷ behind) (PTerm b) known_b before (ap (λ (ps : Parts). drop 1 ps) shape);
      made = made
          ∙ ap (λ (x : SeenToken). (apply x (a ∷ b ∷ []))) (sym (known_name.same parts (behind) name before (ap (λ (ps : Parts). drop 5 ps) shape)));
    }

pub of_two_is : (text : List ℕ) (nodes : List Node) (at : ℕ) (at_name : SeenToken) (at_a : ℕ) (at_b : ℕ) → IsMadeBy nodes at act.ACT_OF_TWO → IsTokenOf text nodes at 5 at_name → IsChild text nodes at 3 at_a → IsChild text nodes at 1 at_b
    → (whole : PlacedTerm) → IsPartAt text nodes at (PTerm whole) → IsOfTwo text nodes at at_name at_a at_b whole
of_two_is text nodes at at_name at_a at_b by known_name known_a known_b whole is =
    let o = opened text nodes at (Made by.raw by.from) (PTerm whole) by.node is in
    let a = accepted text act.ACT_OF_TWO o.parts (PTerm whole ∷ o.rest) (same_act text by.raw act.ACT_OF_TWO o.parts by.number ∙ o.done) in
    go o.parts o.rest o.before a.0 a.1
  where
    go : (parts rest : Parts) → built text (take at nodes) ≡ Some parts → has_tops (is_token ∷ is_term ∷ is_token ∷ is_term ∷ is_token ∷ is_token ∷ []) parts ≡ true → PTerm whole ∷ rest ≡ made_of_two parts → IsOfTwo text nodes at at_name at_a at_b whole
    go parts rest before h q =
        top_token (is_term ∷ is_token ∷ is_term ∷ is_token ∷ is_token ∷ []) parts h (λ x0 r0 e0 h0.
        top_term (is_token ∷ is_term ∷ is_token ∷ is_token ∷ []) r0 h0 (λ x1 r1 e1 h1.
        top_token (is_term ∷ is_token ∷ is_token ∷ []) r1 h1 (λ x2 r2 e2 h2.
        top_term (is_token ∷ is_token ∷ []) r2 h2 (λ x3 r3 e3 h3.
        top_token (is_token ∷ []) r3 h3 (λ x4 r4 e4 h4.
        top_token ([]) r4 h4 (λ x5 r5 e5 h5.
        of_two_end text nodes at at_name at_a at_b known_name known_a known_b whole parts rest x0 x1 x2 x3 x4 x5 r5 before (e0 ∙ ap (λ (ps : Parts). PToken x0 ∷ ps) (e1 ∙ ap (λ (ps : Parts). PTerm x1 ∷ ps) (e2 ∙ ap (λ (ps : Parts). PToken x2 ∷ ps) (e3 ∙ ap (λ (ps : Parts). PTerm x3 ∷ ps) (e4 ∙ ap (λ (ps : Parts). PToken x4 ∷ ps) e5))))) q))))))

of_three_end : (text : List ℕ) (nodes : List Node) (at : ℕ) (at_name : SeenToken) (at_a : ℕ) (at_b : ℕ) (at_c : ℕ) → IsTokenOf text nodes at 7 at_name → IsChild text nodes at 5 at_a → IsChild text nodes at 3 at_b → IsChild text nodes at 1 at_c
    → (whole : PlacedTerm) (parts rest : Parts) (passed_7 : SeenToken) (c : PlacedTerm) (passed_5 : SeenToken) (b : PlacedTerm) (passed_3 : SeenToken) (a : PlacedTerm) (passed_1 : SeenToken) (name : SeenToken) (behind : Parts) → built text (take at nodes) ≡ Some parts → parts ≡ PToken passed_7 ∷ PTerm c ∷ PToken passed_5 ∷ PTerm b ∷ PToken passed_3 ∷ PTerm a ∷ PToken passed_1 ∷ PToken name ∷ behind
    → PTerm whole ∷ rest ≡ made_of_three parts → IsOfThree text nodes at at_name at_a at_b at_c whole
of_three_end text nodes at at_name at_a at_b at_c known_name known_a known_b known_c whole parts rest passed_7 c passed_5 b passed_3 a passed_1 name behind before shape q =
    let there : PTerm whole ∷ rest ≡ PTerm (apply name (a ∷ b ∷ c ∷ [])) ∷ behind = q ∙ ap (λ (ps : Parts). made_of_three ps) shape in
    let made : whole ≡ (apply name (a ∷ b ∷ c ∷ [])) = cc in
    record {
      of_a = a;
      of_b = b;
      of_c = c;
      at_a = at_part text nodes at 5 at_a parts (PToken passed_1 ∷ PToken name ∷ behind) (PTerm a) known_a before (ap (λ (ps : Parts). drop 5 ps) shape);
      at_b = at_part text nodes at 3 at_b parts (PToken passed_3 ∷ PTerm a ∷ PToken passed_1 ∷ PToken name ∷ behind) (PTerm b) known_b before (ap (λ (ps : Parts). drop 3 ps) shape);
      at_c = at_part text nodes at 1 at_c parts (PToken passed_5 ∷ PTerm b ∷ PToken passed_3 ∷ PTerm a ∷ PToken passed_1 ∷ PToken name ∷ behind) (PTerm c) known_c before (ap (λ (ps : Parts). drop 1 ps) shape);
      made = made
          ∙ ap (λ (x : SeenToken). (apply x (a ∷ b ∷ c ∷ []))) (sym (known_name.same parts (behind) name before (ap (λ (ps : Parts). drop 7 ps) shape)));
    }

pub of_three_is : (text : List ℕ) (nodes : List Node) (at : ℕ) (at_name : SeenToken) (at_a : ℕ) (at_b : ℕ) (at_c : ℕ) → IsMadeBy nodes at act.ACT_OF_THREE → IsTokenOf text nodes at 7 at_name → IsChild text nodes at 5 at_a → IsChild text nodes at 3 at_b → IsChild text nodes at 1 at_c
    → (whole : PlacedTerm) → IsPartAt text nodes at (PTerm whole) → IsOfThree text nodes at at_name at_a at_b at_c whole
of_three_is text nodes at at_name at_a at_b at_c by known_name known_a known_b known_c whole is =
    let o = opened text nodes at (Made by.raw by.from) (PTerm whole) by.node is in
    let a = accepted text act.ACT_OF_THREE o.parts (PTerm whole ∷ o.rest) (same_act text by.raw act.ACT_OF_THREE o.parts by.number ∙ o.done) in
    go o.parts o.rest o.before a.0 a.1
  where
    go : (parts rest : Parts) → built text (take at nodes) ≡ Some parts → has_tops (is_token ∷ is_term ∷ is_token ∷ is_term ∷ is_token ∷ is_term ∷ is_token ∷ is_token ∷ []) parts ≡ true → PTerm whole ∷ rest ≡ made_of_three parts → IsOfThree text nodes at at_name at_a at_b at_c whole
    go parts rest before h q =
        top_token (is_term ∷ is_token ∷ is_term ∷ is_token ∷ is_term ∷ is_token ∷ is_token ∷ []) parts h (λ x0 r0 e0 h0.
        top_term (is_token ∷ is_term ∷ is_token ∷ is_term ∷ is_token ∷ is_token ∷ []) r0 h0 (λ x1 r1 e1 h1.
        top_token (is_term ∷ is_token ∷ is_term ∷ is_token ∷ is_token ∷ []) r1 h1 (λ x2 r2 e2 h2.
        top_term (is_token ∷ is_term ∷ is_token ∷ is_token ∷ []) r2 h2 (λ x3 r3 e3 h3.
        top_token (is_term ∷ is_token ∷ is_token ∷ []) r3 h3 (λ x4 r4 e4 h4.
        top_term (is_token ∷ is_token ∷ []) r4 h4 (λ x5 r5 e5 h5.
        top_token (is_token ∷ []) r5 h5 (λ x6 r6 e6 h6.
        top_token ([]) r6 h6 (λ x7 r7 e7 h7.
        of_three_end text nodes at at_name at_a at_b at_c known_name known_a known_b known_c whole parts rest x0 x1 x2 x3 x4 x5 x6 x7 r7 before (e0 ∙ ap (λ (ps : Parts). PToken x0 ∷ ps) (e1 ∙ ap (λ (ps : Parts). PTerm x1 ∷ ps) (e2 ∙ ap (λ (ps : Parts). PToken x2 ∷ ps) (e3 ∙ ap (λ (ps : Parts). PTerm x3 ∷ ps) (e4 ∙ ap (λ (ps : Parts). PToken x4 ∷ ps) (e5 ∙ ap (λ (ps : Parts). PTerm x5 ∷ ps) (e6 ∙ ap (λ (ps : Parts). PToken x6 ∷ ps) e7))))))) q))))))))
