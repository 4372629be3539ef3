-- A text of lines tells one account, or is refused in one way, and not both.
use Rattle.std.proofs.Common.{◌≡◌, ℕ, List, length, sym, ap, subst, ◌∙◌, ◌⊎◌, inl, inr}
use Rattle.std.specs.Prelude.{Result, Ok, Err}
use Rattle.gv_base.specs.declared.answers.Code.{Code}
use Rattle.gv_base.specs.declared.token.Token.{Token}
use Rattle.gv_text.specs.Answers.{IsDecided}
use Rattle.gv_text.specs.Stops.{Fault}
use Rattle.gv_text.proofs.FirstFaults.{decided}
use Rattle.gv_lex.specs.Reading as lex
use Rattle.gv_replay.specs.declared.line.Line.{Line}
use Rattle.gv_replay.specs.declared.line.TextKind.{TextKind}
use Rattle.gv_replay.specs.Reading.{told_by, Tells, IsRefused, characters, grammar, meaning}
use Rattle.gv_replay.specs.Results.{and_then}
use Rattle.gv_replay.specs.Sights.{sights_of}
use Rattle.gv_replay.specs.Spelling.{AreLines}
use Rattle.gv_replay.specs.Told.{tell_all}
use Rattle.gv_replay.proofs.BeginningLemmas.{misplaced_stops}
use Rattle.gv_replay.proofs.SpelledLemmas.{spelled_read}

ok_same : {A E : Type 0} (x y : A) (r : Result A E) → r ≡ Ok x → r ≡ Ok y → x ≡ y
ok_same x y r h k = let same : Ok x ≡ Ok y = sym h ∙ k in cc

err_same : {A E : Type 0} (x y : E) (r : Result A E) → r ≡ Err x → r ≡ Err y → x ≡ y
err_same x y r h k = let same : Err x ≡ Err y = sym h ∙ k in cc

ok_or_err : {A E : Type 0} (x : A) (y : E) (r : Result A E) → r ≡ Ok x → r ≡ Err y → ⊥
ok_or_err x y r h k = let clash : Ok x ≡ Err y = sym h ∙ k in cc

module _ {T : Type 0} (with_line : T → Line → Result T Fault) (start : T) (kind : TextKind) (text : List ℕ) where
  of_characters : IsDecided (lex.IsRead text) (lex.IsRefused text)
  of_characters = decided lex.own text

  came : List Token → Result T Fault
  came tokens = told_by with_line start kind text tokens

  told : (tokens : List Token) (lines : List Line) (r : Result T Fault) → AreLines kind (sights_of text tokens) lines → tell_all with_line (Ok start) lines ≡ r → came tokens ≡ r
  unfolding came
  told tokens lines r spelled is = ap (and_then (tell_all with_line (Ok start))) (spelled_read kind (length text) (sights_of text tokens) lines spelled) ∙ is

  -- where its tokens are read, they come to this
  tells : (account : T) (tokens : List Token) → Tells with_line start kind text account → lex.IsRead text tokens → came tokens ≡ Ok account
  tells account tokens t read =
      subst (λ (ts : List Token). came ts ≡ Ok account) (of_characters.one_value t.tokens tokens t.read read) (told t.tokens t.lines (Ok account) t.spelled t.told)

  stops : (at : ℕ) (code : Code) (tokens : List Token) → IsRefused with_line start kind text at code → lex.IsRead text tokens → came tokens ≡ Err (at, code)
  unfolding came
  stops at code tokens (characters h) read = absurd (of_characters.not_both tokens at code read h)
  stops at code tokens (grammar others other_read m) read =
      subst (λ (ts : List Token). came ts ≡ Err (at, code)) (of_characters.one_value others tokens other_read read)
      (ap (and_then (tell_all with_line (Ok start))) (misplaced_stops kind (length text) (sights_of text others) at code m))
  stops at code tokens (meaning others lines other_read spelled is) read =
      subst (λ (ts : List Token). came ts ≡ Err (at, code)) (of_characters.one_value others tokens other_read read) (told others lines (Err (at, code)) spelled is)

  pub one_account : (x y : T) → Tells with_line start kind text x → Tells with_line start kind text y → x ≡ y
  one_account x y h k = ok_same x y (came h.tokens) (tells x h.tokens h h.read) (tells y h.tokens k h.read)

  pub not_both : (x : T) (at : ℕ) (code : Code) → Tells with_line start kind text x → IsRefused with_line start kind text at code → ⊥
  not_both x at code h r = ok_or_err x (at, code) (came h.tokens) (tells x h.tokens h h.read) (stops at code h.tokens r h.read)

  -- the tokens of a text that is refused, or the fault of its characters
  tokens_of : (at : ℕ) (code : Code) → IsRefused with_line start kind text at code → lex.IsRefused text at code ⊎ ((tokens : List Token) × lex.IsRead text tokens)
  tokens_of at code (characters h) = inl h
  tokens_of at code (grammar tokens read m) = inr (tokens, read)
  tokens_of at code (meaning tokens lines read spelled is) = inr (tokens, read)

  pub one_refusal : (m n : ℕ) (c d : Code) → IsRefused with_line start kind text m c → IsRefused with_line start kind text n d → (m ≡ n) × (c ≡ d)
  one_refusal m n c d h k = go (tokens_of m c h) (tokens_of n d k)
    where
      by_tokens : (tokens : List Token) → lex.IsRead text tokens → (m ≡ n) × (c ≡ d)
      by_tokens tokens read =
          let first : Fault = (m, c) in
          let second : Fault = (n, d) in
          let same : first ≡ second = err_same first second (came tokens) (stops m c tokens h read) (stops n d tokens k read) in
          (ap (λ (f : Fault). f.0) same, ap (λ (f : Fault). f.1) same)

      go : lex.IsRefused text m c ⊎ ((tokens : List Token) × lex.IsRead text tokens) → lex.IsRefused text n d ⊎ ((tokens : List Token) × lex.IsRead text tokens) → (m ≡ n) × (c ≡ d)
      go (inl r) (inl q) = of_characters.one_refusal m n c d r q
      go (inr (tokens, read)) q = by_tokens tokens read
      go (inl r) (inr (tokens, read)) = by_tokens tokens read
