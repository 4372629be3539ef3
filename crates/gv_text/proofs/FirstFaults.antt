-- A text has its tokens or its first fault, and one of them.
use Rattle.std.proofs.Common.{◌≡◌, ◌≤◌, ◌<◌, ◌⊎◌, inl, inr, ℕ, Bool, true, false, cond, ltb, List, [], length, Option, Some, None, Result, Ok, Err, refl, sym, ap, subst, ◌∙◌, arith, IfOk, IfErr}
use Rattle.std.specs.Prelude.{Vec}
use Rattle.std.specs.Str.{IsUtf8, IsValidUpTo}
use Rattle.std.proofs.lemmas.Str.{utf8_valid_len-IsUtf8, utf8_valid_len-IsValidUpTo}
use Rattle.std.specs.declared.alloc.Global.{Global}
use borrow.Author.Tests.{ltb-true, ltb-false}
use Rattle.gv_base.specs.Codes.{code_number}
use Rattle.gv_base.specs.Places.{place_at}
use Rattle.gv_base.specs.declared.answers.Code.{Code}
use Rattle.gv_base.specs.declared.answers.Code.TheVariants as codes
use Rattle.gv_base.specs.declared.answers.Refusal.{Refusal}
use Rattle.gv_base.specs.declared.token.Token.{Token}
use Rattle.gv_text.specs.declared.stop.Stop.{Stop}
use Rattle.gv_text.specs.declared.stop.Stop.TheVariants as stop
use Rattle.gv_text.specs.Answers.{IsNotAfter, AreReadAs, IsRefusedAs}
use Rattle.gv_text.specs.Cutting.{Lexis, FaultsAt}
use Rattle.gv_text.specs.Judging.{mark_length, body_of, HasTokens, IsRead, HasWrongPiece, HasFault, not_utf8, wrong_piece, IsRefused, Refuses, DecidesTexts, IsFound, IsEnd, judgement}
use Rattle.gv_text.specs.Stops.{refusal_at}
use Rattle.gv_text.proofs.Answered.{only_so, fault_so}
use Rattle.gv_text.proofs.Cuts.{one_cut, end_is_stuck, fault_is_stuck, fault_is_within, one_fault}
use Rattle.gv_text.proofs.FirstOnes.{one_first, earlier, lower, same}

one_reading : {F : Type 0} (kind : Lexis F) (text : List ℕ) (a b : List Token) → HasTokens kind text a → HasTokens kind text b → a ≡ b
one_reading kind text a b h g =
    let cuts = one_cut kind (body_of text) h.pieces g.pieces [] [] h.cut h.right (end_is_stuck kind) g.cut g.right (end_is_stuck kind) in
    h.listed ∙ ap (kind.tokens_at (mark_length text)) cuts.0 ∙ sym g.listed

not_both : {F : Type 0} (kind : Lexis F) (text : List ℕ) (a : List Token) (at : ℕ) (code : Code) → HasTokens kind text a → HasWrongPiece kind text at code → ⊥
not_both kind text a at code h w =
    let cuts = one_cut kind (body_of text) h.pieces w.pieces [] w.rest h.cut h.right (end_is_stuck kind) w.cut w.right (fault_is_stuck kind w.rest w.before code w.fault) in
    omega (arith, fault_is_within kind w.rest w.before code w.fault, ap length cuts.1)

one_wrong : {F : Type 0} (kind : Lexis F) (text : List ℕ) (m n : ℕ) (c d : Code) → HasWrongPiece kind text m c → HasWrongPiece kind text n d → (m ≡ n) × (c ≡ d)
one_wrong kind text m n c d h g =
    let cuts = one_cut kind (body_of text) h.pieces g.pieces h.rest g.rest h.cut h.right (fault_is_stuck kind h.rest h.before c h.fault) g.cut g.right (fault_is_stuck kind g.rest g.before d g.fault) in
    let moved : FaultsAt kind g.rest h.before c = subst (λ (rest : List ℕ). FaultsAt kind rest h.before c) cuts.1 h.fault in
    let faults = one_fault kind g.rest h.before g.before c d moved g.fault in
    (omega (arith, h.place, g.place, ap length cuts.1, faults.0), faults.1)

one_end : (text : List ℕ) (m n : ℕ) → IsValidUpTo text m → IsValidUpTo text n → m ≡ n
one_end text m n h g = sym (utf8_valid_len-IsValidUpTo text m h) ∙ utf8_valid_len-IsValidUpTo text n g

no_end : (text : List ℕ) (n : ℕ) → IsUtf8 text → IsValidUpTo text n → ⊥
no_end text n u h = omega (arith, utf8_valid_len-IsUtf8 text u, utf8_valid_len-IsValidUpTo text n h, h.short)

read_has_no_fault : {F : Type 0} (kind : Lexis F) (text : List ℕ) (a : List Token) (at : ℕ) (code : Code) → IsRead kind text a → HasFault kind text at code → ⊥
read_has_no_fault kind text a at code h (not_utf8 v e) = no_end text at h.utf8 v
read_has_no_fault kind text a at code h (wrong_piece w) = not_both kind text a at code h.spelled w

-- ---- which fault is the first

pub wrong_in_utf8 : {F : Type 0} (kind : Lexis F) (text : List ℕ) (at : ℕ) (code : Code) → IsUtf8 text → HasWrongPiece kind text at code → IsRefused kind text at code
wrong_in_utf8 kind text at code u w = record { there = wrong_piece w; others = others }
  where
    others : (other : ℕ) (other_code : Code) → HasFault kind text other other_code → IsNotAfter code_number at code other other_code
    others other other_code (not_utf8 v e) = absurd (no_end text other u v)
    others other other_code (wrong_piece g) = let one = one_wrong kind text at other code other_code w g in same at other code other_code one.0 one.1

pub end_of_utf8 : {F : Type 0} (kind : Lexis F) (text : List ℕ) (a : List Token) (end : ℕ) → HasTokens kind text a → IsValidUpTo text end → IsRefused kind text end codes.BadUtf8
end_of_utf8 kind text a end h v = record { there = not_utf8 v refl; others = others }
  where
    others : (other : ℕ) (other_code : Code) → HasFault kind text other other_code → IsNotAfter code_number end codes.BadUtf8 other other_code
    others other other_code (not_utf8 u e) = same end other codes.BadUtf8 other_code (one_end text end other v u) (sym e)
    others other other_code (wrong_piece g) = absurd (not_both kind text a other other_code h g)

pub wrong_before_end : {F : Type 0} (kind : Lexis F) (text : List ℕ) (at : ℕ) (code : Code) (end : ℕ) → HasWrongPiece kind text at code → IsValidUpTo text end → at < end → IsRefused kind text at code
wrong_before_end kind text at code end w v l = record { there = wrong_piece w; others = others }
  where
    others : (other : ℕ) (other_code : Code) → HasFault kind text other other_code → IsNotAfter code_number at code other other_code
    others other other_code (not_utf8 u e) = earlier at other code other_code (omega (arith, one_end text end other v u))
    others other other_code (wrong_piece g) = let one = one_wrong kind text at other code other_code w g in same at other code other_code one.0 one.1

lowest : (code : Code) → (codes.BadUtf8 ≡ code) ⊎ (1 < code_number code)
lowest codes.BadUtf8 = inl refl
lowest _ = inr (omega arith)

has_least_number : (code : Code) → 1 ≤ code_number code
has_least_number code = elim (lowest code) [ inl e ↦ omega (arith, ap code_number e) | inr h ↦ omega arith ]

pub end_before_wrong : {F : Type 0} (kind : Lexis F) (text : List ℕ) (at : ℕ) (code : Code) (end : ℕ) → HasWrongPiece kind text at code → IsValidUpTo text end → end ≤ at → IsRefused kind text end codes.BadUtf8
end_before_wrong kind text at code end w v l = record { there = not_utf8 v refl; others = others }
  where
    others : (other : ℕ) (other_code : Code) → HasFault kind text other other_code → IsNotAfter code_number end codes.BadUtf8 other other_code
    others other other_code (not_utf8 u e) = same end other codes.BadUtf8 other_code (one_end text end other v u) (sym e)
    others other other_code (wrong_piece g) =
        lower end other codes.BadUtf8 other_code (omega (arith, (one_wrong kind text at other code other_code w g).0)) (has_least_number other_code)

-- each text spells one list of tokens at most, or is refused in one way at most, and not both
pub decided : {F : Type 0} (kind : Lexis F) → DecidesTexts kind
decided kind text =
    record {
      one_value = λ a b h g. one_reading kind text a b h.spelled g.spelled;
      one_refusal = λ m n c d h g. one_first (HasFault kind text) m n c d h g;
      not_both = λ a at code h g. read_has_no_fault kind text a at code h g.there;
    }

-- ---- the answer by the pieces and the UTF-8

refused_first : {F : Type 0} (kind : Lexis F) (text : List ℕ) (at : ℕ) (code : Code) (end : ℕ) (less : Bool) → HasWrongPiece kind text at code → IsValidUpTo text end
    → (less ≡ true → at < end) → (less ≡ false → end ≤ at) → Refuses kind text (cond less (refusal_at text at code) (refusal_at text end codes.BadUtf8))
refused_first kind text at code end true w v f g = (at, refl, wrong_before_end kind text at code end w v (f refl))
refused_first kind text at code end false w v f g = (end, refl, end_before_wrong kind text at code end w v (g refl))

judged_read : {F : Type 0} (kind : Lexis F) (text : List ℕ) (found : Result (Vec Token Global) Stop) (end : Option ℕ) → IsFound kind text found → IsEnd text end
    → IfOk (judgement text found end) (λ v. IsRead kind text v.items)
judged_read kind text (Ok v) None h u = record { utf8 = u; spelled = h }
judged_read kind text (Ok v) (Some end) h u = tt
judged_read kind text (Err why) None h u = tt
judged_read kind text (Err why) (Some end) h u = tt

judged_refused : {F : Type 0} (kind : Lexis F) (text : List ℕ) (found : Result (Vec Token Global) Stop) (end : Option ℕ) → IsFound kind text found → IsEnd text end
    → IfErr (judgement text found end) (Refuses kind text)
judged_refused kind text (Ok v) None h u = tt
judged_refused kind text (Ok v) (Some end) h u = (end, refl, end_of_utf8 kind text v.items end h u)
judged_refused kind text (Err stop.NoMemory) None h u = tt
judged_refused kind text (Err stop.NoMemory) (Some end) h u = tt
judged_refused kind text (Err (stop.At at code)) None h u = (at, refl, wrong_in_utf8 kind text at code u h.0)
judged_refused kind text (Err (stop.At at code)) (Some end) h u =
    refused_first kind text at code end (ltb at end) h.0 u (ltb-true at end) (ltb-false at end)

-- both of the answer
pub judged_so : {F : Type 0} (kind : Lexis F) (text : List ℕ) (found : Result (Vec Token Global) Stop) (end : Option ℕ) (result : Result (Vec Token Global) Refusal) → IsFound kind text found → IsEnd text end
    → result ≡ judgement text found end → IfOk result (λ v. IsRead kind text v.items) × IfErr result (Refuses kind text)
judged_so kind text found end result h u e = (
  subst (λ (r : Result (Vec Token Global) Refusal). IfOk r (λ v. IsRead kind text v.items)) (sym e) (judged_read kind text found end h u),
  subst (λ (r : Result (Vec Token Global) Refusal). IfErr r (Refuses kind text)) (sym e) (judged_refused kind text found end h u),
)

-- ---- what a right answer rules out

pub read_so : {F : Type 0} (kind : Lexis F) (text : List ℕ) (result : Result (Vec Token Global) Refusal) → IfOk result (λ v. IsRead kind text v.items) → IfErr result (Refuses kind text)
    → (tokens : List Token) → IsRead kind text tokens → AreReadAs tokens result
read_so kind text result h g = only_so (λ v. v.items) text (IsRead kind text) (IsRefused kind text) (decided kind text) result h g

pub refused_so : {F : Type 0} (kind : Lexis F) (text : List ℕ) (result : Result (Vec Token Global) Refusal) → IfOk result (λ v. IsRead kind text v.items) → IfErr result (Refuses kind text)
    → (at : ℕ) (code : Code) → IsRefused kind text at code → IsRefusedAs (place_at text at) code result
refused_so kind text result h g = fault_so (λ v. v.items) text (IsRead kind text) (IsRefused kind text) (decided kind text) result h g
