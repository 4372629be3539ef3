-- The words among the tokens of a text are its identifiers.
use Rattle.std.proofs.Common.{◌≡◌, ◌≤◌, ◌<◌, ◌+◌, ◌-◌, ◌++◌, ◌⊎◌, ℕ, zero, suc, true, false, eqb, inl, inr, Option, Some, None, List, [], ◌∷◌, length, take, drop, slice_index, Result, Ok, Err, IfOk, refl, sym, ap, subst, ◌∙◌, append-nil, arith}
use Rattle.std.proofs.lemmas.Bool.Decides.{nat_tests}
use Rattle.std.proofs.lemmas.List.{drop_all, drop-drop, get_or_past, take_at}
use Rattle.std.proofs.lemmas.List.Elements.{All-nil, All-cons}
use Rattle.std.proofs.lemmas.Str.{IsUtf8-from_ascii}
use Rattle.std.specs.Prelude.{All, Vec, slice_range}
use Rattle.std.specs.Str.{IsAscii}
use Rattle.std.specs.declared.alloc.Global.{Global}
use Rattle.gv_base.specs.declared.answers.Refusal.{Refusal}
use Rattle.gv_base.specs.declared.token.Kind.{Kind}
use Rattle.gv_base.specs.declared.token.Kind.TheVariants as kind
use Rattle.gv_base.specs.declared.token.Token.{Token}
use Rattle.gv_text.specs.Cutting.{Piece, IsPiece, Begins, IsLongest, IsCut}
use Rattle.gv_text.specs.Judging.{mark_length, body_of, HasTokens}
use Rattle.gv_text.specs.Scanning.{piece}
use Rattle.gv_text.specs.Tokens.{token}
use Rattle.gv_text.proofs.Cuts.{has_its_bytes}
use Rattle.gv_text.proofs.Longest.{which}
use Rattle.gv_lex.specs.declared.form.Form.{Form}
use Rattle.gv_lex.specs.declared.form.Form.TheVariants.{Blank, Comment, Word, Number, Literal, Sign}
use Rattle.gv_lex.specs.Bytes.{is_name_start, is_name_byte, is_dot}
use Rattle.gv_lex.specs.Layout.{kind_of, token_for, laid}
use Rattle.gv_lex.specs.Names.{IsIdentifier}
use Rattle.gv_lex.specs.Reading.{own, IsRead, IsIdentifierIfWord, one_word}
use Rattle.gv_lex.proofs.Identifiers.{word_is_identifier, identifier_is_word}

-- ---- each word is an identifier

-- a piece that is a word by its kind is one by its form
word_by_kind : (form : Form) (bytes : List ℕ) (k : Kind) → kind_of form bytes ≡ Some k → k ≡ kind.Word → form ≡ Word
word_by_kind Blank bytes k e w = absurd cc
word_by_kind Comment bytes k e w = absurd cc
word_by_kind Word bytes k e w = refl
word_by_kind Number bytes k e w = absurd cc
word_by_kind Literal bytes k e w = absurd cc
word_by_kind Sign bytes k e w = grind arith

-- the bytes of a piece of a text
its_bytes : (text : List ℕ) (at : ℕ) (p : Piece Form) (rest : List ℕ) → rest ≡ drop at text → Begins p rest → slice_range text at (at + length p.bytes) ≡ p.bytes
its_bytes text at p rest e b =
    let n = length p.bytes in
    let size : at + n - at ≡ n = omega arith in
    ap (λ i. take i (drop at text)) size ∙ ap (take n) (sym e) ∙ ap (take n) b ∙ take_at p.bytes (drop n rest) n refl

one_token : (text : List ℕ) (at : ℕ) (p : Piece Form) (rest : List ℕ) (found : Option Kind) (more : List Token) → rest ≡ drop at text → IsLongest own p rest → kind_of p.form p.bytes ≡ found
    → All (IsIdentifierIfWord text) more → All (IsIdentifierIfWord text) (token_for found at p.bytes ++ more)
one_token text at p rest None more e h k a = a
one_token text at p rest (Some found) more e h k a =
    let t : Token = token at (at + length p.bytes) found in
    let holds : IsIdentifierIfWord text t = λ w.
    let form : p.form ≡ Word = word_by_kind p.form p.bytes found k w in
    let same : p ≡ piece Word p.bytes = λ i. record { form = form i; bytes = p.bytes } in
    subst IsIdentifier (sym (its_bytes text at p rest e h.begins)) (word_is_identifier p.bytes (subst (λ (x : Piece Form). IsPiece own x) same h.piece)) in
    All-cons (IsIdentifierIfWord text) t more holds a

all_words : (text : List ℕ) (at : ℕ) (rest : List ℕ) (ps : List (Piece Form)) (end : List ℕ) → rest ≡ drop at text → IsCut own rest ps end → All (IsIdentifierIfWord text) (laid at ps)
all_words text at rest [] end e c = All-nil (IsIdentifierIfWord text)
all_words text at rest (p ∷ ps) end e c =
    let n = length p.bytes in
    let next : drop n rest ≡ drop (at + n) text = ap (drop n) e ∙ drop-drop n at text in
    one_token text at p rest (kind_of p.form p.bytes) (laid (at + n) ps) e c.0 refl (all_words text (at + n) (drop n rest) ps end next c.1)

pub words_so : (text : List ℕ) (result : Result (Vec Token Global) Refusal) → IfOk result (λ v. IsRead text v.items) → IfOk result (λ v. All (IsIdentifierIfWord text) v.items)
words_so text (Ok v) h =
    subst (All (IsIdentifierIfWord text)) (sym h.spelled.listed) (all_words text (mark_length text) (body_of text) h.spelled.pieces [] refl h.spelled.cut)
words_so text (Err e) h = tt

-- ---- an identifier is one word

start_is_ascii : (b : ℕ) → is_name_start b ≡ true → b < 128
start_is_ascii b e = grind (arith, nat_tests)

name_byte_is_ascii : (b : ℕ) → is_name_byte b ≡ true → b < 128
name_byte_is_ascii b e = grind (arith, nat_tests)

dot_is_ascii : (b : ℕ) → is_dot b ≡ true → b < 128
dot_is_ascii b e = grind (arith, nat_tests)

is_ascii_at : (bytes : List ℕ) → IsIdentifier bytes → (k : ℕ) → (suc k < length bytes) ⊎ (length bytes ≤ suc k) → slice_index bytes (suc k) < 128
is_ascii_at bytes h k (inl l) =
    elim (h.goes_on k l) [ inl name ↦ name_byte_is_ascii (slice_index bytes (suc k)) name | inr dot ↦ dot_is_ascii (slice_index bytes (suc k)) dot.0 ]
is_ascii_at bytes h k (inr l) = omega (arith, get_or_past bytes (suc k) 0 l)

is_ascii : (bytes : List ℕ) → IsIdentifier bytes → IsAscii bytes
is_ascii bytes h zero = start_is_ascii (slice_index bytes 0) h.start
is_ascii bytes h (suc k) = is_ascii_at bytes h k (which (suc k) (length bytes))

no_mark : (a : ℕ) → a < 128 → eqb a 0xEF ≡ false
no_mark a h = grind (arith, nat_tests)

unmarked : (text : List ℕ) → slice_index text 0 < 128 → mark_length text ≡ 0
unmarked [] h = refl
unmarked (a ∷ []) h = rw (no_mark a h) refl
unmarked (a ∷ b ∷ []) h = rw (no_mark a h) refl
unmarked (a ∷ b ∷ c ∷ bs) h = rw (no_mark a h) refl

one_piece : (bytes : List ℕ) → IsIdentifier bytes → IsCut own bytes (piece Word bytes ∷ []) []
one_piece bytes h =
    let end : drop (length bytes) bytes ≡ [] = drop_all (length bytes) bytes (omega arith) in (
      record {
        piece = identifier_is_word bytes h;
        begins = sym (append-nil bytes) ∙ ap (λ rest. bytes ++ rest) (sym end);
        longest = λ q piece begins. has_its_bytes q bytes begins;
      },
      end,
    )

identifier_has_tokens : (bytes : List ℕ) (n : ℕ) → mark_length bytes ≡ n → n ≡ 0 → IsIdentifier bytes → HasTokens own bytes (one_word bytes)
identifier_has_tokens bytes n m z h =
    let none : mark_length bytes ≡ 0 = m ∙ z in
    let at_its_end : length bytes ≡ 0 + length bytes = omega arith in
    record {
      pieces = piece Word bytes ∷ [];
      cut = subst (λ (i : ℕ). IsCut own (drop i bytes) (piece Word bytes ∷ []) []) (sym none) (one_piece bytes h);
      right = (refl, tt);
      listed = ap (λ n. token 0 n kind.Word ∷ []) at_its_end ∙ ap (λ i. laid i (piece Word bytes ∷ [])) (sym none);
    }

pub identifier_is_read : (bytes : List ℕ) → IsIdentifier bytes → IsRead bytes (one_word bytes)
identifier_is_read bytes h =
    record {
      utf8 = IsUtf8-from_ascii bytes (is_ascii bytes h);
      spelled = identifier_has_tokens bytes (mark_length bytes) refl (unmarked bytes (start_is_ascii (slice_index bytes 0) h.start)) h;
    }
