-- The tokens of a text stand in order within it.
use Rattle.std.proofs.Common.{◌≤◌, ◌+◌, ℕ, Bool, true, false, ◌&&◌, cond, eqb, suc, List, [], ◌∷◌, length, drop, Result, Ok, Err, IfOk, sym, subst, arith}
use Rattle.std.proofs.lemmas.List.{length-drop}
use Rattle.std.specs.Prelude.{Vec}
use Rattle.std.specs.Str.{bytes_eq}
use Rattle.std.specs.declared.alloc.Global.{Global}
use Rattle.gv_base.specs.Tokens.{AreSpans}
use Rattle.gv_base.specs.declared.answers.Refusal.{Refusal}
use Rattle.gv_base.specs.declared.token.Token.{Token}
use Rattle.gv_text.specs.Cutting.{Piece, Lexis, IsCut}
use Rattle.gv_text.specs.Judging.{mark_length, byte_order_mark, body_of, IsRead}
use Rattle.gv_text.proofs.Cuts.{has_its_bytes}

-- how many bytes pieces have
abbrev pub total : {F : Type 0} → List (Piece F) → ℕ
total [] = 0
total (p ∷ ps) = length p.bytes + total ps

total_fits : {F : Type 0} (kind : Lexis F) (text : List ℕ) (ps : List (Piece F)) (rest : List ℕ) → IsCut kind text ps rest → total ps ≤ length text
total_fits kind text [] rest c = omega arith
total_fits kind text (p ∷ ps) rest c =
    omega (arith, total_fits kind (drop (length p.bytes) text) ps rest c.1, length-drop (length p.bytes) text, has_its_bytes p text c.0.begins)

no_mark : (s t : Bool) (n : ℕ) → cond (s && (t && false)) 3 0 ≤ n
no_mark true true n = omega arith
no_mark true false n = omega arith
no_mark false t n = omega arith

no_mark_in_one : (s : Bool) → cond (s && false) 3 0 ≤ 1
no_mark_in_one true = omega arith
no_mark_in_one false = omega arith

three_at_most : (t : Bool) (n : ℕ) → cond t 3 0 ≤ suc (suc (suc n))
three_at_most true n = omega arith
three_at_most false n = omega arith

mark_fits : (text : List ℕ) → mark_length text ≤ length text
mark_fits [] = omega arith
mark_fits (a ∷ []) = no_mark_in_one (eqb a 0xEF)
mark_fits (a ∷ b ∷ []) = no_mark (eqb a 0xEF) (eqb b 0xBB) 2
mark_fits (a ∷ b ∷ c ∷ bs) = three_at_most (bytes_eq (a ∷ b ∷ c ∷ []) byte_order_mark) (length bs)

-- pieces give tokens in order
abbrev pub LaysInOrder : {F : Type 0} → Lexis F → Type 0
LaysInOrder {F} kind = (ps : List (Piece F)) (from at end : ℕ) → from ≤ at → at + total ps ≤ end → AreSpans from end (kind.tokens_at at ps)

pub spans_of : {F : Type 0} (kind : Lexis F) → LaysInOrder kind → (text : List ℕ) (result : Result (Vec Token Global) Refusal) → IfOk result (λ v. IsRead kind text v.items)
    → IfOk result (λ v. AreSpans 0 (length text) v.items)
spans_of kind lays text (Ok v) h =
    let pieces = h.spelled.pieces in
    let fits : mark_length text + total pieces ≤ length text =
    omega (arith, total_fits kind (body_of text) pieces [] h.spelled.cut, length-drop (mark_length text) text, mark_fits text) in
    subst (AreSpans 0 (length text)) (sym h.spelled.listed) (lays pieces 0 (mark_length text) (length text) (omega arith) fits)
spans_of kind lays text (Err e) h = tt
