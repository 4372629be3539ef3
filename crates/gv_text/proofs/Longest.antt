-- The piece that a text begins with by its form is the longest.
use Rattle.std.proofs.Common.{◌≡◌, ◌≤◌, ◌<◌, ◌++◌, ◌⊎◌, inl, inr, ℕ, true, false, ltb, List, length, take, drop, refl, sym, ap, ◌∙◌, arith}
use Rattle.std.proofs.lemmas.List.{take_at, take-append-drop, length-take-le}
use borrow.Author.Tests.{ltb-true, ltb-false}
use Rattle.gv_text.specs.Cutting.{Piece, Lexis, IsPiece, Begins, IsLongest, BeginsWithNone}
use Rattle.gv_text.proofs.Prefixes.{KeepsPrefixes}

pub which : (k n : ℕ) → (k < n) ⊎ (n ≤ k)
which k n = elim (ltb k n) as (λ t. ltb k n ≡ t → (k < n) ⊎ (n ≤ k)) [ true ↦ λ e. inl (ltb-true k n e) | false ↦ λ e. inr (ltb-false k n e) ] refl

-- a prefix of a text that holds the piece at its start shows that piece
pub record ShowsPieces {F : Type 0} (kind : Lexis F) : Type 0 where
  pub forms : (text : List ℕ) (k : ℕ) → 0 < k → kind.length_of (kind.form_of text) text ≤ k → kind.form_of (take k text) ≡ kind.form_of text
  pub lengths : (form : F) → KeepsPrefixes (kind.length_of form)

abbrev pub own_length : {F : Type 0} → Lexis F → List ℕ → ℕ
own_length kind text = kind.length_of (kind.form_of text) text

abbrev pub own_piece : {F : Type 0} → Lexis F → List ℕ → Piece F
own_piece kind text = record { form = kind.form_of text; bytes = take (own_length kind text) text }

-- a prefix that is long enough has the same piece
same_length : {F : Type 0} (kind : Lexis F) → ShowsPieces kind → (text : List ℕ) (k : ℕ) → 0 < k → own_length kind text ≤ k → own_length kind (take k text) ≡ own_length kind text
same_length kind shows text k p h =
    ap (λ form. kind.length_of form (take k text)) (shows.forms text k p h) ∙ shows.lengths (kind.form_of text) text k h

-- a piece that a text begins with is a prefix of it
is_prefix : {F : Type 0} (p : Piece F) (text : List ℕ) → Begins p text → take (length p.bytes) text ≡ p.bytes
is_prefix p text b = ap (take (length p.bytes)) b ∙ take_at p.bytes (drop (length p.bytes) text) (length p.bytes) refl

piece_length : {F : Type 0} (kind : Lexis F) (p : Piece F) → IsPiece kind p → own_length kind p.bytes ≡ length p.bytes
piece_length kind p h = ap (λ form. kind.length_of form p.bytes) h.form ∙ h.whole

-- and no longer than the piece of the text
bounded : {F : Type 0} (kind : Lexis F) → ShowsPieces kind → (p : Piece F) (text : List ℕ) → IsPiece kind p → Begins p text → length p.bytes ≤ own_length kind text
bounded kind shows p text h b =
    let n = length p.bytes in
    elim (which (own_length kind text) n) [
      | inl less ↦
          let same = same_length kind shows text n h.some (omega arith) in
          let moved : own_length kind (take n text) ≡ own_length kind p.bytes = ap (own_length kind) (is_prefix p text b) in
          absurd (omega (arith, piece_length kind p h, same, moved))
      | inr enough ↦ enough
    ]

pub longest_piece : {F : Type 0} (kind : Lexis F) → ShowsPieces kind → (text : List ℕ) → 0 < own_length kind text → own_length kind text ≤ length text
    → IsLongest kind (own_piece kind text) text
longest_piece kind shows text p w =
    let n = own_length kind text in
    let len : length (take n text) ≡ n = length-take-le n text w in
    record {
      piece = record {
        form = shows.forms text n p (omega arith);
        some = omega arith;
        whole = shows.lengths (kind.form_of text) text n (omega arith) ∙ sym len;
      };
      begins = sym (ap (λ i. take n text ++ drop i text) len ∙ take-append-drop n text);
      longest = λ q h b. omega (arith, bounded kind shows q text h b);
    }

pub no_piece : {F : Type 0} (kind : Lexis F) → ShowsPieces kind → (text : List ℕ) → own_length kind text ≡ 0 → BeginsWithNone kind text
no_piece kind shows text e = λ p h b. omega (arith, bounded kind shows p text h b, h.some)

-- two longest pieces at one place are one
pub one_longest : {F : Type 0} (kind : Lexis F) (p q : Piece F) (text : List ℕ) → IsLongest kind p text → IsLongest kind q text → p ≡ q
one_longest kind p q text h g =
    let len : length p.bytes ≡ length q.bytes = omega (arith, h.longest q g.piece g.begins, g.longest p h.piece h.begins) in
    let bytes : p.bytes ≡ q.bytes = sym (is_prefix p text h.begins) ∙ ap (λ n. take n text) len ∙ is_prefix q text g.begins in
    let form : p.form ≡ q.form = sym h.piece.form ∙ ap kind.form_of bytes ∙ g.piece.form in
    λ i. record { form = form i; bytes = bytes i }
