-- The tokens of pieces, as the pass adds them.
use Rattle.std.proofs.Common.{◌≡◌, ◌≤◌, ◌+◌, ◌++◌, ℕ, List, [], ◌∷◌, length, take, drop, Option, Some, None, ap, arith}
use Rattle.std.proofs.lemmas.List.{length-take-le}
use Rattle.gv_base.specs.Tokens.{AreSpans}
use Rattle.gv_base.specs.declared.token.Kind.{Kind}
use Rattle.gv_base.specs.declared.token.Token.{Token}
use Rattle.gv_text.specs.Cutting.{Piece}
use Rattle.gv_text.specs.Scanning.{IsNext}
use Rattle.gv_text.proofs.Cuts.{HasReadTo}
use Rattle.gv_text.proofs.NextPieces.{turned}
use Rattle.gv_text.proofs.Spans.{LaysInOrder}
use Rattle.gv_lex.specs.declared.form.Form.{Form}
use Rattle.gv_lex.specs.Layout.{kind_of, token_for, laid}
use Rattle.gv_lex.specs.Reading.{own}

-- one turn of the pass, by the values that it leaves
pub own_turned : (text : List ℕ) (at : ℕ) (out : List Token) (form : Form) (len : ℕ) (rest : List ℕ) (more : List Token)
    → rest ≡ drop at text → HasReadTo own text at (laid at) out → IsNext own rest form len
    → more ≡ out ++ token_for (kind_of form (take len rest)) at (take len rest) → HasReadTo own text (at + len) (laid (at + len)) more
own_turned text at out form len rest more e h n m =
    let bytes = take len rest in
    let added = token_for (kind_of form bytes) at bytes in
    let size : length bytes ≡ len = length-take-le len rest n.within in
    let step = λ (ps : List (Piece Form)). ap (λ i. added ++ laid (at + i) ps) size in
    turned own text at (laid at) (laid (at + len)) out form len rest added more e h n step m

-- one piece, and what follows it
one_piece : (kind : Option Kind) (from at end : ℕ) (bytes : List ℕ) (more : List Token) → from ≤ at
    → ((start : ℕ) → start ≤ at + length bytes → AreSpans start end more) → AreSpans from end (token_for kind at bytes ++ more)
one_piece (Some kind) from at end bytes more h f = (h, omega arith, f (at + length bytes) (omega arith))
one_piece None from at end bytes more h f = f from (omega arith)

pub own_lays_in_order : LaysInOrder own
own_lays_in_order [] from at end h l = omega arith
own_lays_in_order (p ∷ ps) from at end h l =
    one_piece (kind_of p.form p.bytes) from at end p.bytes (laid (at + length p.bytes) ps) h
    (λ start g. own_lays_in_order ps start (at + length p.bytes) end g (omega arith))
