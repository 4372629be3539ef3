-- The tokens of a Go text stand in order within it.
use Rattle.std.proofs.Common.{◌≤◌, ◌+◌, ◌++◌, ℕ, Bool, true, false, cond, List, [], ◌∷◌, length, Option, Some, None, arith}
use Rattle.gv_base.specs.Tokens.{AreSpans}
use Rattle.gv_base.specs.declared.token.Kind.{Kind}
use Rattle.gv_base.specs.declared.token.Token.{Token}
use Rattle.gv_text.specs.Cutting.{Piece}
use Rattle.gv_text.proofs.Spans.{total, LaysInOrder}
use Rattle.gv_tokens.specs.declared.form.Form.{Form}
use Rattle.gv_tokens.specs.Layout.{kind_of, ends_line, has_newline, tokens_for, pending_for, inserted, laid}
use Rattle.gv_tokens.specs.Reading.{go}

-- the place of a semicolon that may be inserted is not before the last token's end, and not after here
abbrev IsBetween : ℕ → ℕ → Option ℕ → Type 0
IsBetween from at None = from ≤ at
IsBetween from at (Some q) = (from ≤ q) × (q ≤ at)

stays : (from at n : ℕ) (pending : Option ℕ) → IsBetween from at pending → IsBetween from (at + n) pending
stays from at n None h = omega arith
stays from at n (Some q) h = (h.0, omega arith)

not_after : (from at : ℕ) (pending : Option ℕ) → IsBetween from at pending → from ≤ at
not_after from at None h = h
not_after from at (Some q) h = omega arith

at_the_end : (from at end : ℕ) (pending : Option ℕ) → IsBetween from at pending → at ≤ end → AreSpans from end (inserted pending)
at_the_end from at end None h l = omega arith
at_the_end from at end (Some q) h l = (h.0, omega arith, omega arith)

-- one piece, and what follows it from any place between
one_piece : (kind : Option Kind) (ends : Bool) (from at end : ℕ) (pending : Option ℕ) (bytes : List ℕ) (more : Option ℕ → List Token) → IsBetween from at pending
    → ((start : ℕ) (next : Option ℕ) → IsBetween start (at + length bytes) next → AreSpans start end (more next))
    → AreSpans from end (tokens_for kind at pending bytes ++ more (pending_for kind ends at pending bytes))
one_piece (Some kind) true from at end pending bytes more h f =
    (not_after from at pending h, omega arith, f (at + length bytes) (Some (at + length bytes)) (omega arith, omega arith))
one_piece (Some kind) false from at end pending bytes more h f =
    (not_after from at pending h, omega arith, f (at + length bytes) None (omega arith))
one_piece None ends from at end pending bytes more h f = gap (has_newline bytes) pending h
  where
    gap : (breaks : Bool) (wanted : Option ℕ) → IsBetween from at wanted
        → AreSpans from end (cond breaks (inserted wanted) [] ++ more (cond breaks None wanted))
    gap true None g = f from None (omega arith)
    gap true (Some q) g = (g.0, omega arith, f q None (omega arith))
    gap false wanted g = f from wanted (stays from at (length bytes) wanted g)

laid_spans : (ps : List (Piece Form)) (from at end : ℕ) (pending : Option ℕ) → IsBetween from at pending → at + total ps ≤ end → AreSpans from end (laid at pending ps)
laid_spans [] from at end pending h l = at_the_end from at end pending h (omega arith)
laid_spans (p ∷ ps) from at end pending h l =
    one_piece (kind_of p.form p.bytes) (ends_line p.form p.bytes) from at end pending p.bytes (λ next. laid (at + length p.bytes) next ps) h
    (λ start next g. laid_spans ps start (at + length p.bytes) end next g (omega arith))

pub go_lays_in_order : LaysInOrder go
go_lays_in_order ps from at end h l = laid_spans ps from at end None h l
