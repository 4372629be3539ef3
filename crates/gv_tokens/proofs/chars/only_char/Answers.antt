use Rattle.std.proofs.Common.{◌≡◌, Bool, true, false, refl, ap, ◌∙◌}
use Rattle.std.specs.Str.{is_utf8, chars}
use Rattle.std.specs.Prelude.{slice_get}
use Rattle.std.proofs.lemmas.Str.{is_utf8-from_IsUtf8, IsUtf8-from_is_utf8}
use Rattle.gv_tokens.specs.Chars.{char_of}
use Rattle.gv_tokens.proofs.chars.only_char.Goals as goal

pub returns-in-Ok : goal.returns-in-Ok
unfolding char_of
returns-in-Ok c =
    rw (is_utf8-from_IsUtf8 c.args.bytes.now c.in-Ok.ensures.cases.1)
    (c.next.ensures.steps.2 ∙ ap (λ t. slice_get (chars t) 0) (c.chars.ensures.rest ∙ c.in-Ok.ensures.cases.0))

false_unless_true : (b : Bool) → (b ≡ true → ⊥) → b ≡ false
false_unless_true true h = absurd (h refl)
false_unless_true false h = refl

pub returns-in-Err : goal.returns-in-Err
unfolding char_of
returns-in-Err c = rw (false_unless_true (is_utf8 c.args.bytes.now) (λ e. c.in-Err.ensures.cases.0 (IsUtf8-from_is_utf8 c.args.bytes.now e))) refl
