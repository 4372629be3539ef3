-- GoType nodes by the acts that make them. Made by tools/nodes.py from gosyntax.grammar: edit that.
use Rattle.std.proofs.Common.{◌≡◌, ℕ, true, List, [], ◌∷◌, Some, sym, ap, ◌∙◌}
use Rattle.std.specs.Prelude.{drop, take}
use Rattle.gv_grammar.specs.Building.{has_tops}
use Rattle.gv_gosyntax.specs.declared.generated.gosyntax_acts.Part.{Part}
use Rattle.gv_gosyntax.specs.declared.generated.gosyntax_acts.Part.TheVariants.{GoType as PGoType, Pointed as PPointed, Token as PToken}
use Rattle.gv_gosyntax.specs.declared.tree.GoType.{GoType}
use Rattle.gv_gosyntax.specs.declared.lexeme.Lexeme.{Lexeme}
use Rattle.gv_gosyntax.specs.declared.tree.Pointed.{Pointed}
use Rattle.gv_gosyntax.specs.declared.tree.GoType.TheVariants as go_type
use Rattle.gv_gosyntax.specs.declared.node.Node.{Node}
use Rattle.gv_gosyntax.specs.declared.node.Node.TheVariants.{Made}
use Rattle.gv_gosyntax.specs.declared.generated.gosyntax_table.TheConstants as act
use Rattle.gv_gosyntax.specs.GosyntaxActs.{is_pointed, is_token, made_block_type, made_map_type, made_pointer_type, made_pointers_type, made_slice_type, made_word_type}
use Rattle.gv_gosyntax.specs.Nodes.{built, IsPartAt}
use Rattle.gv_gonodes.specs.Places.{IsMadeBy, IsPartOf, IsTokenOf}
use Rattle.gv_gonodes.specs.GoType.{IsPointersType, IsPointerType}
use Rattle.gv_gonodes.proofs.Opened.{opened, at_part, same_act}
use Rattle.gv_gonodes.proofs.Tops.{accepted, top_pointed, top_token}

word_type_end : (nodes : List Node) (at : ℕ) (at_word : Lexeme) → IsTokenOf nodes at 0 at_word
    → (whole : GoType) (parts rest : List Part) (word : Lexeme) (behind : List Part) → built (take at nodes) ≡ Some parts → parts ≡ PToken word ∷ behind
    → PGoType whole ∷ rest ≡ PGoType (made_word_type parts) ∷ drop 1 parts → whole ≡ (go_type.Word at_word)
word_type_end nodes at at_word known_word whole parts rest word behind before shape q =
    let made : whole ≡ made_word_type parts = cc in
    made ∙ ap (λ (ps : List Part). made_word_type ps) shape
    ∙ ap (λ (x : Lexeme). (go_type.Word x)) (sym (known_word.same parts (behind) word before (ap (λ (ps : List Part). drop 0 ps) shape)))

pub word_type_is : (nodes : List Node) (at : ℕ) (at_word : Lexeme) → IsMadeBy nodes at act.ACT_WORD_TYPE → IsTokenOf nodes at 0 at_word
    → (whole : GoType) → IsPartAt nodes at (PGoType whole) → whole ≡ (go_type.Word at_word)
word_type_is nodes at at_word by known_word whole is =
    let o = opened nodes at (Made by.raw by.from) (PGoType whole) by.node is in
    let a = accepted act.ACT_WORD_TYPE o.parts (PGoType whole ∷ o.rest) (same_act by.raw act.ACT_WORD_TYPE o.parts by.number ∙ o.done) in
    go o.parts o.rest o.before a.0 a.1
  where
    go : (parts rest : List Part) → built (take at nodes) ≡ Some parts → has_tops (is_token ∷ []) parts ≡ true → PGoType whole ∷ rest ≡ PGoType (made_word_type parts) ∷ drop 1 parts → whole ≡ (go_type.Word at_word)
    go parts rest before h q =
        top_token ([]) parts h (λ x0 r0 e0 h0.
        word_type_end nodes at at_word known_word whole parts rest x0 r0 before e0 q)

slice_type_end : (nodes : List Node) (at : ℕ) (at_start : Lexeme) (at_word : Lexeme) → IsTokenOf nodes at 2 at_start → IsTokenOf nodes at 0 at_word
    → (whole : GoType) (parts rest : List Part) (word : Lexeme) (passed_1 : Lexeme) (start : Lexeme) (behind : List Part) → built (take at nodes) ≡ Some parts → parts ≡ PToken word ∷ PToken passed_1 ∷ PToken start ∷ behind
    → PGoType whole ∷ rest ≡ PGoType (made_slice_type parts) ∷ drop 3 parts → whole ≡ (go_type.Slice at_start at_word)
slice_type_end nodes at at_start at_word known_start known_word whole parts rest word passed_1 start behind before shape q =
    let made : whole ≡ made_slice_type parts = cc in
    made ∙ ap (λ (ps : List Part). made_slice_type ps) shape
    ∙ ap (λ (x : Lexeme). (go_type.Slice x word)) (sym (known_start.same parts (behind) start before (ap (λ (ps : List Part). drop 2 ps) shape)))
    ∙ ap (λ (x : Lexeme). (go_type.Slice at_start x)) (sym (known_word.same parts (PToken passed_1 ∷ PToken start ∷ behind) word before (ap (λ (ps : List Part). drop 0 ps) shape)))

pub slice_type_is : (nodes : List Node) (at : ℕ) (at_start : Lexeme) (at_word : Lexeme) → IsMadeBy nodes at act.ACT_SLICE_TYPE → IsTokenOf nodes at 2 at_start → IsTokenOf nodes at 0 at_word
    → (whole : GoType) → IsPartAt nodes at (PGoType whole) → whole ≡ (go_type.Slice at_start at_word)
slice_type_is nodes at at_start at_word by known_start known_word whole is =
    let o = opened nodes at (Made by.raw by.from) (PGoType whole) by.node is in
    let a = accepted act.ACT_SLICE_TYPE o.parts (PGoType whole ∷ o.rest) (same_act by.raw act.ACT_SLICE_TYPE o.parts by.number ∙ o.done) in
    go o.parts o.rest o.before a.0 a.1
  where
    go : (parts rest : List Part) → built (take at nodes) ≡ Some parts → has_tops (is_token ∷ is_token ∷ is_token ∷ []) parts ≡ true → PGoType whole ∷ rest ≡ PGoType (made_slice_type parts) ∷ drop 3 parts → whole ≡ (go_type.Slice at_start at_word)
    go parts rest before h q =
        top_token (is_token ∷ is_token ∷ []) parts h (λ x0 r0 e0 h0.
        top_token (is_token ∷ []) r0 h0 (λ x1 r1 e1 h1.
        top_token ([]) r1 h1 (λ x2 r2 e2 h2.
        slice_type_end nodes at at_start at_word known_start known_word whole parts rest x0 x1 x2 r2 before (e0 ∙ ap (λ (ps : List Part). PToken x0 ∷ ps) (e1 ∙ ap (λ (ps : List Part). PToken x1 ∷ ps) e2)) q)))

pointers_type_end : (nodes : List Node) (at : ℕ) (at_start : Lexeme) (at_to : ℕ) → IsTokenOf nodes at 3 at_start → IsPartOf nodes at 0 at_to
    → (whole : GoType) (parts rest : List Part) (to : Pointed) (passed_2 : Lexeme) (passed_1 : Lexeme) (start : Lexeme) (behind : List Part) → built (take at nodes) ≡ Some parts → parts ≡ PPointed to ∷ PToken passed_2 ∷ PToken passed_1 ∷ PToken start ∷ behind
    → PGoType whole ∷ rest ≡ PGoType (made_pointers_type parts) ∷ drop 4 parts → IsPointersType nodes at at_start at_to whole
pointers_type_end nodes at at_start at_to known_start known_to whole parts rest to passed_2 passed_1 start behind before shape q =
    let made : whole ≡ made_pointers_type parts = cc in
    record {
      of_to = to;
      at_to = at_part nodes at 0 at_to parts (PToken passed_2 ∷ PToken passed_1 ∷ PToken start ∷ behind) (PPointed to) known_to before (ap (λ (ps : List Part). drop 0 ps) shape);
      made = made ∙ ap (λ (ps : List Part). made_pointers_type ps) shape
          ∙ ap (λ (x : Lexeme). (go_type.Pointers x to)) (sym (known_start.same parts (behind) start before (ap (λ (ps : List Part). drop 3 ps) shape)));
    }

pub pointers_type_is : (nodes : List Node) (at : ℕ) (at_start : Lexeme) (at_to : ℕ) → IsMadeBy nodes at act.ACT_POINTERS_TYPE → IsTokenOf nodes at 3 at_start → IsPartOf nodes at 0 at_to
    → (whole : GoType) → IsPartAt nodes at (PGoType whole) → IsPointersType nodes at at_start at_to whole
pointers_type_is nodes at at_start at_to by known_start known_to whole is =
    let o = opened nodes at (Made by.raw by.from) (PGoType whole) by.node is in
    let a = accepted act.ACT_POINTERS_TYPE o.parts (PGoType whole ∷ o.rest) (same_act by.raw act.ACT_POINTERS_TYPE o.parts by.number ∙ o.done) in
    go o.parts o.rest o.before a.0 a.1
  where
    go : (parts rest : List Part) → built (take at nodes) ≡ Some parts → has_tops (is_pointed ∷ is_token ∷ is_token ∷ is_token ∷ []) parts ≡ true → PGoType whole ∷ rest ≡ PGoType (made_pointers_type parts) ∷ drop 4 parts → IsPointersType nodes at at_start at_to whole
    go parts rest before h q =
        top_pointed (is_token ∷ is_token ∷ is_token ∷ []) parts h (λ x0 r0 e0 h0.
        top_token (is_token ∷ is_token ∷ []) r0 h0 (λ x1 r1 e1 h1.
        top_token (is_token ∷ []) r1 h1 (λ x2 r2 e2 h2.
        top_token ([]) r2 h2 (λ x3 r3 e3 h3.
        pointers_type_end nodes at at_start at_to known_start known_to whole parts rest x0 x1 x2 x3 r3 before (e0 ∙ ap (λ (ps : List Part). PPointed x0 ∷ ps) (e1 ∙ ap (λ (ps : List Part). PToken x1 ∷ ps) (e2 ∙ ap (λ (ps : List Part). PToken x2 ∷ ps) e3))) q))))

map_type_end : (nodes : List Node) (at : ℕ) (at_word : Lexeme) → IsTokenOf nodes at 4 at_word
    → (whole : GoType) (parts rest : List Part) (passed_4 : Lexeme) (passed_3 : Lexeme) (passed_2 : Lexeme) (passed_1 : Lexeme) (word : Lexeme) (behind : List Part) → built (take at nodes) ≡ Some parts → parts ≡ PToken passed_4 ∷ PToken passed_3 ∷ PToken passed_2 ∷ PToken passed_1 ∷ PToken word ∷ behind
    → PGoType whole ∷ rest ≡ PGoType (made_map_type parts) ∷ drop 5 parts → whole ≡ (go_type.Map at_word)
map_type_end nodes at at_word known_word whole parts rest passed_4 passed_3 passed_2 passed_1 word behind before shape q =
    let made : whole ≡ made_map_type parts = cc in
    made ∙ ap (λ (ps : List Part). made_map_type ps) shape
    ∙ ap (λ (x : Lexeme). (go_type.Map x)) (sym (known_word.same parts (behind) word before (ap (λ (ps : List Part). drop 4 ps) shape)))

pub map_type_is : (nodes : List Node) (at : ℕ) (at_word : Lexeme) → IsMadeBy nodes at act.ACT_MAP_TYPE → IsTokenOf nodes at 4 at_word
    → (whole : GoType) → IsPartAt nodes at (PGoType whole) → whole ≡ (go_type.Map at_word)
map_type_is nodes at at_word by known_word whole is =
    let o = opened nodes at (Made by.raw by.from) (PGoType whole) by.node is in
    let a = accepted act.ACT_MAP_TYPE o.parts (PGoType whole ∷ o.rest) (same_act by.raw act.ACT_MAP_TYPE o.parts by.number ∙ o.done) in
    go o.parts o.rest o.before a.0 a.1
  where
    go : (parts rest : List Part) → built (take at nodes) ≡ Some parts → has_tops (is_token ∷ is_token ∷ is_token ∷ is_token ∷ is_token ∷ []) parts ≡ true → PGoType whole ∷ rest ≡ PGoType (made_map_type parts) ∷ drop 5 parts → whole ≡ (go_type.Map at_word)
    go parts rest before h q =
        top_token (is_token ∷ is_token ∷ is_token ∷ is_token ∷ []) parts h (λ x0 r0 e0 h0.
        top_token (is_token ∷ is_token ∷ is_token ∷ []) r0 h0 (λ x1 r1 e1 h1.
        top_token (is_token ∷ is_token ∷ []) r1 h1 (λ x2 r2 e2 h2.
        top_token (is_token ∷ []) r2 h2 (λ x3 r3 e3 h3.
        top_token ([]) r3 h3 (λ x4 r4 e4 h4.
        map_type_end nodes at at_word known_word whole parts rest x0 x1 x2 x3 x4 r4 before (e0 ∙ ap (λ (ps : List Part). PToken x0 ∷ ps) (e1 ∙ ap (λ (ps : List Part). PToken x1 ∷ ps) (e2 ∙ ap (λ (ps : List Part). PToken x2 ∷ ps) (e3 ∙ ap (λ (ps : List Part). PToken x3 ∷ ps) e4)))) q)))))

pointer_type_end : (nodes : List Node) (at : ℕ) (at_star : Lexeme) (at_to : ℕ) → IsTokenOf nodes at 1 at_star → IsPartOf nodes at 0 at_to
    → (whole : GoType) (parts rest : List Part) (to : Pointed) (star : Lexeme) (behind : List Part) → built (take at nodes) ≡ Some parts → parts ≡ PPointed to ∷ PToken star ∷ behind
    → PGoType whole ∷ rest ≡ PGoType (made_pointer_type parts) ∷ drop 2 parts → IsPointerType nodes at at_star at_to whole
pointer_type_end nodes at at_star at_to known_star known_to whole parts rest to star behind before shape q =
    let made : whole ≡ made_pointer_type parts = cc in
    record {
      of_to = to;
      at_to = at_part nodes at 0 at_to parts (PToken star ∷ behind) (PPointed to) known_to before (ap (λ (ps : List Part). drop 0 ps) shape);
      made = made ∙ ap (λ (ps : List Part). made_pointer_type ps) shape
          ∙ ap (λ (x : Lexeme). (go_type.Pointer x to)) (sym (known_star.same parts (behind) star before (ap (λ (ps : List Part). drop 1 ps) shape)));
    }

pub pointer_type_is : (nodes : List Node) (at : ℕ) (at_star : Lexeme) (at_to : ℕ) → IsMadeBy nodes at act.ACT_POINTER_TYPE → IsTokenOf nodes at 1 at_star → IsPartOf nodes at 0 at_to
    → (whole : GoType) → IsPartAt nodes at (PGoType whole) → IsPointerType nodes at at_star at_to whole
pointer_type_is nodes at at_star at_to by known_star known_to whole is =
    let o = opened nodes at (Made by.raw by.from) (PGoType whole) by.node is in
    let a = accepted act.ACT_POINTER_TYPE o.parts (PGoType whole ∷ o.rest) (same_act by.raw act.ACT_POINTER_TYPE o.parts by.number ∙ o.done) in
    go o.parts o.rest o.before a.0 a.1
  where
    go : (parts rest : List Part) → built (take at nodes) ≡ Some parts → has_tops (is_pointed ∷ is_token ∷ []) parts ≡ true → PGoType whole ∷ rest ≡ PGoType (made_pointer_type parts) ∷ drop 2 parts → IsPointerType nodes at at_star at_to whole
    go parts rest before h q =
        top_pointed (is_token ∷ []) parts h (λ x0 r0 e0 h0.
        top_token ([]) r0 h0 (λ x1 r1 e1 h1.
        pointer_type_end nodes at at_star at_to known_star known_to whole parts rest x0 x1 r1 before (e0 ∙ ap (λ (ps : List Part). PPointed x0 ∷ ps) e1) q))

block_type_end : (nodes : List Node) (at : ℕ) (at_word : Lexeme) → IsTokenOf nodes at 2 at_word
    → (whole : GoType) (parts rest : List Part) (passed_2 : Lexeme) (passed_1 : Lexeme) (word : Lexeme) (behind : List Part) → built (take at nodes) ≡ Some parts → parts ≡ PToken passed_2 ∷ PToken passed_1 ∷ PToken word ∷ behind
    → PGoType whole ∷ rest ≡ PGoType (made_block_type parts) ∷ drop 3 parts → whole ≡ (go_type.Block at_word)
block_type_end nodes at at_word known_word whole parts rest passed_2 passed_1 word behind before shape q =
    let made : whole ≡ made_block_type parts = cc in
    made ∙ ap (λ (ps : List Part). made_block_type ps) shape
    ∙ ap (λ (x : Lexeme). (go_type.Block x)) (sym (known_word.same parts (behind) word before (ap (λ (ps : List Part). drop 2 ps) shape)))

pub block_type_is : (nodes : List Node) (at : ℕ) (at_word : Lexeme) → IsMadeBy nodes at act.ACT_BLOCK_TYPE → IsTokenOf nodes at 2 at_word
    → (whole : GoType) → IsPartAt nodes at (PGoType whole) → whole ≡ (go_type.Block at_word)
block_type_is nodes at at_word by known_word whole is =
    let o = opened nodes at (Made by.raw by.from) (PGoType whole) by.node is in
    let a = accepted act.ACT_BLOCK_TYPE o.parts (PGoType whole ∷ o.rest) (same_act by.raw act.ACT_BLOCK_TYPE o.parts by.number ∙ o.done) in
    go o.parts o.rest o.before a.0 a.1
  where
    go : (parts rest : List Part) → built (take at nodes) ≡ Some parts → has_tops (is_token ∷ is_token ∷ is_token ∷ []) parts ≡ true → PGoType whole ∷ rest ≡ PGoType (made_block_type parts) ∷ drop 3 parts → whole ≡ (go_type.Block at_word)
    go parts rest before h q =
        top_token (is_token ∷ is_token ∷ []) parts h (λ x0 r0 e0 h0.
        top_token (is_token ∷ []) r0 h0 (λ x1 r1 e1 h1.
        top_token ([]) r1 h1 (λ x2 r2 e2 h2.
        block_type_end nodes at at_word known_word whole parts rest x0 x1 x2 r2 before (e0 ∙ ap (λ (ps : List Part). PToken x0 ∷ ps) (e1 ∙ ap (λ (ps : List Part). PToken x1 ∷ ps) e2)) q)))
