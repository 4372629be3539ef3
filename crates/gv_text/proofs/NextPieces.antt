-- The piece or the fault at the start of a text, by its form and length.
use Rattle.std.proofs.Common.{◌≡◌, ◌≤◌, ◌<◌, ◌+◌, ◌++◌, ℕ, List, ◌∷◌, length, take, drop, Some, None, refl, sym, ap, subst, ◌∙◌, arith}
use Rattle.std.proofs.lemmas.List.{length-take-le}
use Rattle.gv_base.specs.declared.answers.Code.{Code}
use Rattle.gv_base.specs.declared.answers.Code.TheVariants.{BadChar}
use Rattle.gv_base.specs.declared.token.Token.{Token}
use Rattle.gv_text.specs.Cutting.{Piece, Lexis, IsLongest, FaultsAt, wrong, stray}
use Rattle.gv_text.specs.Scanning.{piece, IsNext}
use Rattle.gv_text.proofs.Cuts.{HasReadTo, one_more_read}
use Rattle.gv_text.proofs.Longest.{ShowsPieces, own_length, own_piece, longest_piece, no_piece}

same_length : {F : Type 0} (kind : Lexis F) (text : List ℕ) (form : F) (len : ℕ) → form ≡ kind.form_of text → len ≡ kind.length_of form text → len ≡ own_length kind text
same_length kind text form len f l = l ∙ ap (λ g. kind.length_of g text) f

pub next_stray : {F : Type 0} (kind : Lexis F) → ShowsPieces kind → (text : List ℕ) (form : F) (len : ℕ) → form ≡ kind.form_of text → len ≡ kind.length_of form text
    → 0 < length text → len ≡ 0 → FaultsAt kind text 0 BadChar
next_stray kind shows text form len f l some none = stray some (no_piece kind shows text (sym (same_length kind text form len f l) ∙ none)) refl refl

longest : {F : Type 0} (kind : Lexis F) → ShowsPieces kind → (text : List ℕ) (form : F) (len : ℕ) → form ≡ kind.form_of text → len ≡ kind.length_of form text
    → len ≤ length text → (len ≡ 0 → ⊥) → IsLongest kind (piece form (take len text)) text
longest {F} kind shows text form len f l within some =
    let own : len ≡ own_length kind text = same_length kind text form len f l in
    let same : own_piece kind text ≡ piece form (take len text) = λ i. record { form = sym f i; bytes = take (sym own i) text } in
    subst (λ (p : Piece F). IsLongest kind p text) same (longest_piece kind shows text (omega arith) (omega arith))

pub next_wrong : {F : Type 0} (kind : Lexis F) → ShowsPieces kind → (text : List ℕ) (form : F) (len : ℕ) → form ≡ kind.form_of text → len ≡ kind.length_of form text
    → len ≤ length text → (len ≡ 0 → ⊥) → (fault : ℕ × Code) → Some fault ≡ kind.fault_of form (take len text) → FaultsAt kind text fault.0 fault.1
next_wrong kind shows text form len f l within some fault e =
    wrong (piece form (take len text)) (longest kind shows text form len f l within some) (sym e)

pub next_right : {F : Type 0} (kind : Lexis F) → ShowsPieces kind → (text : List ℕ) (form : F) (len : ℕ) → form ≡ kind.form_of text → len ≡ kind.length_of form text
    → len ≤ length text → (len ≡ 0 → ⊥) → None ≡ kind.fault_of form (take len text) → IsNext kind text form len
next_right kind shows text form len f l within some e =
    record { some = omega arith; within = within; longest = longest kind shows text form len f l within some; right = sym e }

-- one turn of the pass, by the values that it leaves
pub turned : {F : Type 0} (kind : Lexis F) (text : List ℕ) (at : ℕ) (after next : List (Piece F) → List Token) (out : List Token) (form : F) (len : ℕ) (rest : List ℕ) (added more : List Token)
    → rest ≡ drop at text → HasReadTo kind text at after out → IsNext kind rest form len
    → ((ps : List (Piece F)) → after (piece form (take len rest) ∷ ps) ≡ added ++ next ps) → more ≡ out ++ added
    → HasReadTo kind text (at + len) next more
turned {F} kind text at after next out form len rest added more e h n step m =
    let p = piece form (take len rest) in
    let bytes : length p.bytes ≡ len = length-take-le len rest n.within in
    let here : IsLongest kind p (drop at text) = subst (IsLongest kind p) e n.longest in
    subst (λ (o : List Token). HasReadTo kind text (at + len) next o) (sym m)
    (subst (λ (i : ℕ). HasReadTo kind text (at + i) next (out ++ added)) bytes (one_more_read kind text at after next out added p h here n.right step))
