-- What a list of tokens is read as, and its refusal, are one, and there are not both.
use Rattle.std.proofs.Common.{◌≡◌, ℕ, ◌+◌, List, [], ◌∷◌, drop, take, Some, refl, sym, ap, subst, ◌∙◌}
use Rattle.std.specs.Prelude.{slice_get, length}
use Rattle.gv_base.specs.declared.answers.Code.{Code}
use Rattle.gv_base.specs.declared.token.Token.{Token}
use Rattle.gv_terms.specs.declared.tree.RawTerm.{RawTerm}
use Rattle.gv_text.specs.Answers.{IsDecided}
use Rattle.gv_grammar.specs.Text.{Spells}
use Rattle.gv_grammar.proofs.Whole.{at_most_one}
use Rattle.gv_grammar.proofs.Decided.{one_refused, refused_or_unfinished, one_longest, one_too_deep, front_or_refused, front_or_unfinished, front_or_too_deep}
use Rattle.gv_grammar.specs.Building.{act_of}
use Rattle.gv_termread.specs.declared.generated.term_table.TheConstants.{NAME_WHOLE}
use Rattle.gv_termread.specs.declared.generated.term_acts.Part.TheVariants.{Token as PToken}
use Rattle.gv_termread.specs.declared.generated.term_acts.NoOther.{NoOther}
use Rattle.gv_termread.specs.declared.reading.TheConstants.{MAX_LEVELS}
use Rattle.gv_termread.specs.declared.token.SeenToken.{SeenToken}
use Rattle.gv_termread.specs.declared.placed.PlacedTerm.{PlacedTerm}
use Rattle.gv_termread.specs.TermTable.{term_tables}
use Rattle.gv_termread.specs.TermActs.{term_acts}
use Rattle.gv_termread.specs.Language.{IsTerm}
use Rattle.gv_termread.specs.Seen.{seen}
use Rattle.gv_termread.specs.Reading.{alone, code_of, IsFront, IsFrontRefused, unexpected, too_deep, end_of_text, IsPlacedRead, IsRead, IsRefusedFrom}
use Rattle.gv_termread.proofs.Top.{whole, term_laws}

-- the token with a number is one
same_token : (tokens : List SeenToken) {i j : ℕ} (t u : SeenToken) → slice_get tokens i ≡ Some t → slice_get tokens j ≡ Some u → i ≡ j → t ≡ u
same_token tokens t u e f q =
    let g : Some t ≡ Some u = sym e ∙ (ap (slice_get tokens) q ∙ f) in
    cc

module _ (level : ℕ) (text : List ℕ) (tokens : List SeenToken) where
  one_tree : (a b : PlacedTerm) (us : List SeenToken) → Spells (IsTerm (alone text) level) a us → Spells (IsTerm (alone text) level) b us → a ≡ b
  one_tree a b us s t = at_most_one term_tables NAME_WHOLE (λ (token : SeenToken). token.class) PToken (act_of (term_acts {O = NoOther} text)) (IsTerm (alone text)) whole (term_laws text) level MAX_LEVELS a b us s t

  one_front : (a b : PlacedTerm) (m n : ℕ) → IsFront level text tokens a m → IsFront level text tokens b n → (a ≡ b) × (m ≡ n)
  one_front a b m n p q =
      let e : m ≡ n = one_longest (IsTerm (alone text) level) tokens m n p.longest q.longest in
      (one_tree a b (take n tokens) (subst (λ (k : ℕ). Spells (IsTerm (alone text) level) a (take k tokens)) e p.spelled) q.spelled, e)

  one_refusal : (m n : ℕ) (c d : Code) → IsFrontRefused level text tokens m c → IsFrontRefused level text tokens n d → (m ≡ n) × (c ≡ d)
  one_refusal _ _ _ _ (unexpected i t e h u s) (unexpected j x f k v r) =
      let q = same_token tokens t x e f (one_refused (IsTerm (alone text) level) tokens i j h k) in
      (ap (λ (y : SeenToken). y.start) q, ap (λ (y : SeenToken). code_of y.class) q)
  one_refusal _ _ _ _ (unexpected i t e h u s) (too_deep j x f k) = absurd (s j k)
  one_refusal _ _ _ _ (unexpected i t e h u s) (end_of_text k r) = absurd (refused_or_unfinished (IsTerm (alone text) level) tokens i h k)
  one_refusal _ _ _ _ (too_deep i t e h) (unexpected j x f k v r) = absurd (r i h)
  one_refusal _ _ _ _ (too_deep i t e h) (too_deep j x f k) =
      let q = same_token tokens t x e f (one_too_deep (IsTerm (alone text) level) MAX_LEVELS tokens i j h k) in
      (ap (λ (y : SeenToken). y.start) q, refl)
  one_refusal _ _ _ _ (too_deep i t e h) (end_of_text k r) = absurd (r i h)
  one_refusal _ _ _ _ (end_of_text h s) (unexpected j x f k v r) = absurd (refused_or_unfinished (IsTerm (alone text) level) tokens j k h)
  one_refusal _ _ _ _ (end_of_text h s) (too_deep j x f k) = absurd (s j k)
  one_refusal _ _ _ _ (end_of_text h s) (end_of_text k r) = (refl, refl)

  not_both : (a : PlacedTerm) (len at : ℕ) (code : Code) → IsFront level text tokens a len → IsFrontRefused level text tokens at code → ⊥
  not_both a len _ _ p (unexpected i t e h u s) = front_or_refused (IsTerm (alone text) level) MAX_LEVELS tokens len p.longest a p.spelled i h u
  not_both a len _ _ p (too_deep i t e h) = front_or_too_deep (IsTerm (alone text) level) MAX_LEVELS tokens len p.longest a p.spelled p.within i h
  not_both a len _ _ p (end_of_text h s) = front_or_unfinished (IsTerm (alone text) level) MAX_LEVELS tokens len p.longest a p.spelled h

module _ (text : List ℕ) (tokens : List Token) (at depth : ℕ) where
  one_placed : (v w : PlacedTerm × ℕ) → IsPlacedRead text tokens at depth v → IsPlacedRead text tokens at depth w → v ≡ w
  one_placed (a, m) (b, n) p q =
      let (e, f) = one_front depth text (seen text (drop at tokens)) a b p.len q.len p.front q.front in
      let g : m ≡ n = p.next ∙ (ap (λ (k : ℕ). at + k) f ∙ sym q.next) in
      ap (λ (x : PlacedTerm). (x, m)) e ∙ ap (λ (k : ℕ). (b, k)) g

  pub placed_decided : IsDecided (IsPlacedRead text tokens at depth) (IsRefusedFrom text tokens at depth)
  placed_decided = record {
    one_value = one_placed;
    one_refusal = one_refusal depth text (seen text (drop at tokens));
    not_both = λ v start code p r. not_both depth text (seen text (drop at tokens)) v.0 p.len start code p.front r;
  }

  one_raw : (v w : RawTerm × ℕ) → IsRead text tokens at depth v → IsRead text tokens at depth w → v ≡ w
  one_raw (a, m) (b, n) p q =
      let e = one_placed (p.placed, m) (q.placed, n) p.read q.read in
      let f : p.placed.term ≡ q.placed.term = ap (λ (v : PlacedTerm × ℕ). v.0.term) e in
      let g : m ≡ n = ap (λ (v : PlacedTerm × ℕ). v.1) e in
      let h : a ≡ b = sym p.same ∙ (f ∙ q.same) in
      ap (λ (x : RawTerm). (x, m)) h ∙ ap (λ (k : ℕ). (b, k)) g

  pub raw_decided : IsDecided (IsRead text tokens at depth) (IsRefusedFrom text tokens at depth)
  raw_decided = record {
    one_value = one_raw;
    one_refusal = one_refusal depth text (seen text (drop at tokens));
    not_both = λ v start code p r. not_both depth text (seen text (drop at tokens)) p.placed p.read.len start code p.read.front r;
  }
