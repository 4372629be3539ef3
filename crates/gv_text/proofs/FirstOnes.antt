-- Of any faults one alone comes first.
use Rattle.std.proofs.Common.{◌≡◌, ◌≤◌, ◌<◌, ◌-◌, ℕ, List, [], ◌∷◌, Option, Some, slice_get, refl, sym, ap, ◌∙◌, arith}
use Rattle.gv_base.specs.Codes.{code_number}
use Rattle.gv_base.specs.declared.answers.Code.{Code}
use Rattle.gv_base.specs.declared.answers.Code.TheVariants as codes
use Rattle.gv_text.specs.Answers.{IsNotAfter, IsFirst}

-- all codes in the order of their numbers
all_codes : List Code
all_codes =
    codes.BadUtf8 ∷ codes.BadChar ∷ codes.OpenComment ∷ codes.OpenText ∷ codes.BadNumber ∷ codes.Unexpected ∷ codes.NotInProfile ∷ codes.TooDeep
    ∷ codes.EndOfText ∷ codes.Undeclared ∷ codes.Twice ∷ codes.WrongType ∷ codes.WrongCount ∷ codes.NotAssignable ∷ codes.MissingReturn ∷ codes.Captured
    ∷ codes.ConstTooLarge ∷ codes.NoRecover ∷ codes.TooLong ∷ codes.Interface ∷ codes.Disks ∷ codes.TooMany ∷ codes.TooManyCells ∷ codes.TooManyEvents ∷ []

-- the code with a number
code_at : ℕ → Option Code
code_at n = slice_get all_codes (n - 1)

has_its_number : (c : Code) → code_at (code_number c) ≡ Some c
unfolding code_at all_codes
has_its_number codes.BadUtf8 = refl
has_its_number codes.BadChar = refl
has_its_number codes.OpenComment = refl
has_its_number codes.OpenText = refl
has_its_number codes.BadNumber = refl
has_its_number codes.Unexpected = refl
has_its_number codes.NotInProfile = refl
has_its_number codes.TooDeep = refl
has_its_number codes.EndOfText = refl
has_its_number codes.Undeclared = refl
has_its_number codes.Twice = refl
has_its_number codes.WrongType = refl
has_its_number codes.WrongCount = refl
has_its_number codes.NotAssignable = refl
has_its_number codes.MissingReturn = refl
has_its_number codes.Captured = refl
has_its_number codes.ConstTooLarge = refl
has_its_number codes.NoRecover = refl
has_its_number codes.TooLong = refl
has_its_number codes.Interface = refl
has_its_number codes.Disks = refl
has_its_number codes.TooMany = refl
has_its_number codes.TooManyCells = refl
has_its_number codes.TooManyEvents = refl

-- two codes of one number are one
pub one_code : (c d : Code) → code_number c ≡ code_number d → c ≡ d
one_code c d e =
    let both : Some c ≡ Some d = sym (has_its_number c) ∙ ap code_at e ∙ has_its_number d in
    cc

pub both_first : (m n : ℕ) (c d : Code) → IsNotAfter code_number m c n d → IsNotAfter code_number n d m c → (m ≡ n) × (c ≡ d)
both_first m n c d h g =
    let at : m ≡ n = omega (arith, h.place, g.place) in
    (at, one_code c d (omega (arith, h.number at, g.number (sym at))))

pub one_first : (Has : ℕ → Code → Type 0) (m n : ℕ) (c d : Code) → IsFirst code_number Has m c → IsFirst code_number Has n d → (m ≡ n) × (c ≡ d)
one_first Has m n c d h g = both_first m n c d (h.others n d g.there) (g.others m c h.there)

-- ---- how one fault comes before another

pub earlier : (m n : ℕ) (c d : Code) → m < n → IsNotAfter code_number m c n d
earlier m n c d h = record { place = omega arith; number = λ e. absurd (omega arith) }

pub lower : (m n : ℕ) (c d : Code) → m ≤ n → code_number c ≤ code_number d → IsNotAfter code_number m c n d
lower m n c d h g = record { place = h; number = λ e. g }

pub same : (m n : ℕ) (c d : Code) → m ≡ n → c ≡ d → IsNotAfter code_number m c n d
same m n c d e f = lower m n c d (omega arith) (omega (arith, ap code_number f))
