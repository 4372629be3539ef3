-- The pieces of Go's texts, as the laws of pieces want them.
use Rattle.std.proofs.Common.{◌≡◌, ◌+◌, ◌++◌, ℕ, List, length, take, drop, Option, sym, ap, ◌∙◌}
use Rattle.std.proofs.lemmas.List.{length-take-le}
use Rattle.gv_base.specs.declared.token.Token.{Token}
use Rattle.gv_text.specs.Cutting.{Piece}
use Rattle.gv_text.specs.Scanning.{IsNext}
use Rattle.gv_text.proofs.Cuts.{HasReadTo}
use Rattle.gv_text.proofs.Longest.{ShowsPieces}
use Rattle.gv_text.proofs.NextPieces.{turned}
use Rattle.gv_tokens.specs.declared.form.Form.{Form}
use Rattle.gv_tokens.specs.Layout.{kind_of, ends_line, tokens_for, pending_for, laid}
use Rattle.gv_tokens.specs.Reading.{go}
use Rattle.gv_tokens.proofs.FormPrefixes.{form_keeps, length_keeps}

pub go_shows : ShowsPieces go
go_shows = record { forms = form_keeps; lengths = length_keeps }

-- one turn of the pass, by the values that it leaves
pub go_turned : (text : List ℕ) (at : ℕ) (pending : Option ℕ) (out : List Token) (form : Form) (len : ℕ) (rest : List ℕ) (after : Option ℕ) (more : List Token)
    → rest ≡ drop at text → HasReadTo go text at (laid at pending) out → IsNext go rest form len
    → more ≡ out ++ tokens_for (kind_of form (take len rest)) at pending (take len rest)
    → after ≡ pending_for (kind_of form (take len rest)) (ends_line form (take len rest)) at pending (take len rest)
    → HasReadTo go text (at + len) (laid (at + len) after) more
go_turned text at pending out form len rest after more e h n m p =
    let bytes = take len rest in
    let added = tokens_for (kind_of form bytes) at pending bytes in
    let next = pending_for (kind_of form bytes) (ends_line form bytes) at pending bytes in
    let size : length bytes ≡ len = length-take-le len rest n.within in
    let step = λ (ps : List (Piece Form)). ap (λ i. added ++ laid (at + i) next ps) size ∙ ap (λ q. added ++ laid (at + len) q ps) (sym p) in
    turned go text at (laid at pending) (laid (at + len) after) out form len rest added more e h n step m
