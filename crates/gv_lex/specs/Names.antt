-- Identifiers as pieces.
use Rattle.std.specs.Prelude.{◌≡◌, ℕ, suc, ◌+◌, ◌<◌, Bool, true, ◌||◌, ◌&&◌, ◌⊎◌, if◌then◌else◌, List, [], ◌∷◌, length, slice_index}
use Rattle.gv_text.specs.Lengths.{optional}
use Rattle.gv_lex.specs.Bytes.{is_name_start, is_name_byte, is_dot}

-- a letter, a digit or `_`, or a dot with one of these after it, by a byte and the one after it, 0 where there is none
abbrev pub goes_on : ℕ → ℕ → Bool
goes_on b c = is_name_byte b || (is_dot b && is_name_byte c)

-- how many bytes of an identifier follow its first one
unfoldable pub name_rest : List ℕ → ℕ
name_rest [] = 0
name_rest (b ∷ bs) = if goes_on b (slice_index bs 0) then 1 + name_rest bs else 0

-- a letter or `_`, and then letters, digits, `_` and single dots between two of these; or nothing
abbrev pub name_length : List ℕ → ℕ
name_length = optional is_name_start name_rest

-- ---- the same of whole identifiers

abbrev pub IsNameByte : List ℕ → ℕ → Type 0
IsNameByte bytes k = is_name_byte (slice_index bytes k) ≡ true

-- the byte after a place is a letter, a digit or `_`, or a dot between two of these
abbrev pub GoesOnAfter : List ℕ → ℕ → Type 0
GoesOnAfter bytes k =
    IsNameByte bytes (suc k) ⊎ ((is_dot (slice_index bytes (suc k)) ≡ true) × IsNameByte bytes k × IsNameByte bytes (suc (suc k)))

-- an ASCII letter or `_`, and then letters, digits, `_` and single dots between two of these
pub record IsIdentifier (bytes : List ℕ) : Type 0 where
  pub start : is_name_start (slice_index bytes 0) ≡ true
  pub goes_on : (k : ℕ) → suc k < length bytes → GoesOnAfter bytes k
