-- The tokens of a text lie within it, and each is seen behind the one before it.
use Rattle.std.proofs.Common.{◌≡◌, ℕ, ◌-◌, ◌<◌, ◌≤◌, List, [], ◌∷◌, length, get_or, take, drop, refl, sym, ap, subst, ◌∙◌, arith}
use Rattle.std.specs.Prelude.{Result, Ok, Err, IfErr, IsErrAnd}
use Rattle.gv_base.specs.Tokens.{AreSpans}
use Rattle.gv_base.specs.declared.token.Token.{Token}
use Rattle.gv_text.specs.Stops.{Fault, StopsAs}
use Rattle.gv_text.specs.declared.stop.Stop.{Stop}
use Rattle.gv_text.specs.declared.stop.Stop.TheVariants as stop
use Rattle.gv_replay.specs.declared.line.Line.{Line}
use Rattle.gv_replay.specs.declared.line.TextKind.{TextKind}
use Rattle.gv_replay.specs.declared.progress.Progress.{Progress}
use Rattle.gv_replay.specs.declared.sight.Sight.{Sight}
use Rattle.gv_replay.specs.Progress.{taken, finished, told_from}
use Rattle.gv_replay.specs.Sights.{sight_of, sights_from}
use Rattle.gv_replay.proofs.ProgressLemmas.{take_ok, take_err, finish_ok, finish_err}

spans_forward : (from end : ℕ) (ts : List Token) → AreSpans from end ts → from ≤ end
spans_forward from end [] h = h
spans_forward from end (t ∷ ts) h = let later = spans_forward t.end end ts h.2 in omega (arith, h.0, h.1, later)

all_taken : (ts : List Token) → take (length ts) ts ≡ ts
all_taken [] = refl
all_taken (t ∷ ts) = ap (λ us. t ∷ us) (all_taken ts)

-- what is left behind the first token, as the code has it
abbrev rest_of : List Token → List Token
rest_of left = take (length left - 1) (drop 1 left)

rest_is : (t : Token) (ts : List Token) → rest_of (t ∷ ts) ≡ ts
rest_is t ts = let n : length (t ∷ ts) - 1 ≡ length ts = omega arith in ap (λ k. take k ts) n ∙ all_taken ts

pub first_within : (behind end : ℕ) (left : List Token) (d : Token) → 1 ≤ length left → AreSpans behind end left → (get_or left 0 d).end ≤ end
first_within behind end [] d h s = absurd (omega (arith, h))
first_within behind end (t ∷ ts) d h s = spans_forward t.end end ts s.2

pub rest_spans : (behind end : ℕ) (left : List Token) (d : Token) → 1 ≤ length left → AreSpans behind end left → AreSpans (get_or left 0 d).end end (rest_of left)
rest_spans behind end [] d h s = absurd (omega (arith, h))
rest_spans behind end (t ∷ ts) d h s = subst (λ us. AreSpans t.end end us) (sym (rest_is t ts)) s.2

none_left : (left : List Token) → length left < 1 → left ≡ []
none_left [] h = refl
none_left (t ∷ ts) h = absurd (omega (arith, h))

module _ {T : Type 0} (with_line : T → Line → Result T Fault) where
  pub rest_told : (kind : TextKind) (end : ℕ) (text : List ℕ) (behind : ℕ) (left : List Token) (d : Token) (p : Progress T) (sight : Sight) (q : Progress T) (r : Result T Fault)
      → 1 ≤ length left → sight ≡ sight_of text behind (get_or left 0 d) → taken with_line kind p sight ≡ Ok q → told_from with_line kind end p (sights_from text behind left) ≡ r
      → told_from with_line kind end q (sights_from text (get_or left 0 d).end (rest_of left)) ≡ r
  rest_told kind end text behind [] d p sight q r h e t i = absurd (omega (arith, h))
  rest_told kind end text behind (u ∷ us) d p sight q r h e t i =
      let found : taken with_line kind p (sight_of text behind u) ≡ Ok q = ap (taken with_line kind p) (sym e) ∙ t in
      ap (λ ts. told_from with_line kind end q (sights_from text u.end ts)) (rest_is u us)
      ∙ sym (take_ok with_line kind end p (sight_of text behind u) (sights_from text u.end us) q found) ∙ i

  pub first_refused : (kind : TextKind) (end : ℕ) (text : List ℕ) (behind : ℕ) (left : List Token) (d : Token) (p : Progress T) (sight : Sight) (r : Result T Fault) (e : Stop)
      → 1 ≤ length left → sight ≡ sight_of text behind (get_or left 0 d) → StopsAs (taken with_line kind p sight) e → told_from with_line kind end p (sights_from text behind left) ≡ r
      → StopsAs r e
  first_refused kind end text behind left d p sight r stop.NoMemory h e t i = tt
  first_refused kind end text behind [] d p sight r (stop.At at code) h e t i = absurd (omega (arith, h))
  first_refused kind end text behind (u ∷ us) d p sight r (stop.At at code) h e t i =
      let missed : taken with_line kind p (sight_of text behind u) ≡ Err (at, code) = ap (taken with_line kind p) (sym e) ∙ t in
      sym i ∙ take_err with_line kind end p (sight_of text behind u) (sights_from text u.end us) (at, code) missed

  at_end : (kind : TextKind) (end : ℕ) (text : List ℕ) (behind : ℕ) (left : List Token) (p : Progress T) (r : Result T Fault)
      → length left < 1 → told_from with_line kind end p (sights_from text behind left) ≡ r → told_from with_line kind end p [] ≡ r
  at_end kind end text behind left p r h i = ap (λ ts. told_from with_line kind end p (sights_from text behind ts)) (sym (none_left left h)) ∙ i

  -- what the pass has come to at the end of the text
  pub end_told : (kind : TextKind) (end : ℕ) (text : List ℕ) (behind : ℕ) (left : List Token) (p : Progress T) (r u : Result T Fault)
      → length left < 1 → finished with_line end p ≡ Ok u → told_from with_line kind end p (sights_from text behind left) ≡ r → r ≡ u
  end_told kind end text behind left p r u h e i = sym (at_end kind end text behind left p r h i) ∙ finish_ok with_line kind end p u e

  pub end_refused : (kind : TextKind) (end : ℕ) (text : List ℕ) (behind : ℕ) (left : List Token) (p : Progress T) (r : Result T Fault) (e : Stop)
      → length left < 1 → StopsAs (finished with_line end p) e → told_from with_line kind end p (sights_from text behind left) ≡ r → StopsAs r e
  end_refused kind end text behind left p r stop.NoMemory h e i = tt
  end_refused kind end text behind left p r (stop.At at code) h e i = sym (at_end kind end text behind left p r h i) ∙ finish_err with_line kind end p (at, code) e

pub stops_on : {A B : Type 0} (r : Result B Fault) (o : Result A Stop) (e : Stop) → IsErrAnd o (λ x. x ≡ e) → StopsAs r e → IfErr o (StopsAs r)
stops_on r (Ok x) e h f = tt
stops_on r (Err x) e h f = subst (StopsAs r) (sym h) f
