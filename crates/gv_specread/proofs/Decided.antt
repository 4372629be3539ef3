-- What tokens are read as, and their refusal, are one, and there are not both.
use Rattle.std.proofs.Common.{◌≡◌, ℕ, List, Some, refl, sym, ap, ◌∙◌}
use Rattle.std.specs.Prelude.{slice_get}
use Rattle.gv_base.specs.declared.answers.Code.{Code}
use Rattle.gv_grammar.specs.Building.{act_of}
use Rattle.gv_grammar.specs.Text.{Spells}
use Rattle.gv_grammar.proofs.Whole.{at_most_one}
use Rattle.gv_grammar.proofs.Decided.{one_refused, refused_or_unfinished, one_too_deep, spelled_or_refused, spelled_or_too_deep}
use Rattle.gv_text.specs.Answers.{IsDecided}
use Rattle.gv_termread.specs.declared.generated.term_acts.Part.TheVariants.{Token as PToken}
use Rattle.gv_termread.specs.declared.reading.TheConstants.{MAX_LEVELS}
use Rattle.gv_termread.specs.declared.token.SeenToken.{SeenToken}
use Rattle.gv_termread.specs.Reading.{code_of}
use Rattle.gv_specread.specs.declared.generated.spec_table.TheConstants.{NAME_TEXT}
use Rattle.gv_specread.specs.declared.tree.SpecTree.{SpecTree}
use Rattle.gv_specread.specs.SpecTable.{spec_tables}
use Rattle.gv_specread.specs.SpecActs.{spec_acts}
use Rattle.gv_specread.specs.Language.{IsSpec}
use Rattle.gv_specread.specs.Reading.{IsRead, IsRefusedAt, unexpected, too_deep, end_of_text}
use Rattle.gv_specread.proofs.Top.{whole, spec_laws}

-- the token with a number is one
same_token : (tokens : List SeenToken) {i j : ℕ} (t u : SeenToken) → slice_get tokens i ≡ Some t → slice_get tokens j ≡ Some u → i ≡ j → t ≡ u
same_token tokens t u e f q =
    let g : Some t ≡ Some u = sym e ∙ (ap (slice_get tokens) q ∙ f) in
    cc

pub one_spelled : (text : List ℕ) (level : ℕ) (tokens : List SeenToken) (a b : SpecTree) → Spells (IsSpec text level) a tokens → Spells (IsSpec text level) b tokens → a ≡ b
one_spelled text level tokens a b s t = at_most_one spec_tables NAME_TEXT (λ (token : SeenToken). token.class) PToken (act_of (spec_acts text)) (IsSpec text) whole (spec_laws text) level MAX_LEVELS a b tokens s t

module _ (text : List ℕ) (tokens : List SeenToken) where
  one_refusal : (m n : ℕ) (c d : Code) → IsRefusedAt text tokens m c → IsRefusedAt text tokens n d → (m ≡ n) × (c ≡ d)
  one_refusal _ _ _ _ (unexpected i t e h s) (unexpected j x f k r) =
      let q = same_token tokens t x e f (one_refused (IsSpec text 0) tokens i j h k) in
      (ap (λ (y : SeenToken). y.start) q, ap (λ (y : SeenToken). code_of y.class) q)
  one_refusal _ _ _ _ (unexpected i t e h s) (too_deep j x f k) = absurd (s j k)
  one_refusal _ _ _ _ (unexpected i t e h s) (end_of_text k r) = absurd (refused_or_unfinished (IsSpec text 0) tokens i h k)
  one_refusal _ _ _ _ (too_deep i t e h) (unexpected j x f k r) = absurd (r i h)
  one_refusal _ _ _ _ (too_deep i t e h) (too_deep j x f k) =
      let q = same_token tokens t x e f (one_too_deep (IsSpec text 0) MAX_LEVELS tokens i j h k) in
      (ap (λ (y : SeenToken). y.start) q, refl)
  one_refusal _ _ _ _ (too_deep i t e h) (end_of_text k r) = absurd (r i h)
  one_refusal _ _ _ _ (end_of_text h s) (unexpected j x f k r) = absurd (refused_or_unfinished (IsSpec text 0) tokens j k h)
  one_refusal _ _ _ _ (end_of_text h s) (too_deep j x f k) = absurd (s j k)
  one_refusal _ _ _ _ (end_of_text h s) (end_of_text k r) = (refl, refl)

  not_both : (v : SpecTree) (at : ℕ) (code : Code) → IsRead text tokens v → IsRefusedAt text tokens at code → ⊥
  not_both v _ _ p (unexpected i t e h s) = spelled_or_refused (IsSpec text 0) MAX_LEVELS tokens v p.spelled i h
  not_both v _ _ p (too_deep i t e h) = spelled_or_too_deep (IsSpec text 0) MAX_LEVELS tokens v p.spelled p.within i h
  not_both v _ _ p (end_of_text h s) = h.none v p.spelled

  pub spec_decided : IsDecided (IsRead text tokens) (IsRefusedAt text tokens)
  spec_decided = record {
    one_value = λ v w p q. one_spelled text 0 tokens v w p.spelled q.spelled;
    one_refusal = one_refusal;
    not_both = not_both;
  }
