-- What the language of terms owes to have its reader.
use Rattle.std.proofs.Common.{◌≡◌, ℕ, List, [], ◌∷◌, refl, sym, ◌∙◌}
use Rattle.std.specs.Prelude.{map}
use Rattle.std.proofs.lemmas.List.{append-nil}
use Rattle.gv_grammar.specs.declared.steps.Step.{Step}
use Rattle.gv_grammar.specs.declared.symbols.Symbol.TheVariants.{Name as N}
use Rattle.gv_grammar.specs.Building.{act_of}
use Rattle.gv_grammar.specs.Derivation.{Spells as Derived}
use Rattle.gv_grammar.specs.Text.{Spells}
use Rattle.gv_grammar.proofs.Meaning.{Meant, none, means, RulesMean, all_mean}
use Rattle.gv_grammar.proofs.Containing.{with_rows}
use Rattle.gv_grammar.proofs.Whole.{Laws}
use Rattle.gv_termread.specs.declared.generated.term_table.TheConstants.{NAME_WHOLE}
use Rattle.gv_termread.specs.declared.generated.term_acts.Part.{Part}
use Rattle.gv_termread.specs.declared.generated.term_acts.Part.TheVariants.{Token as PToken, Term as PTerm}
use Rattle.gv_termread.specs.declared.generated.term_acts.NoOther.{NoOther}
use Rattle.gv_termread.specs.declared.token.SeenToken.{SeenToken}
use Rattle.gv_termread.specs.declared.placed.PlacedTerm.{PlacedTerm}
use Rattle.gv_termread.specs.TermTable.{term_tables}
use Rattle.gv_termread.specs.TermActs.{term_acts}
use Rattle.gv_termread.specs.TermFragment.{term_rules}
use Rattle.gv_termread.specs.Language.{IsTerm}
use Rattle.gv_termread.specs.Reading.{alone}
use Rattle.gv_termread.proofs.TermPredictive.{term_predictive}
use Rattle.gv_termread.proofs.TermContains.{term_contains}
use Rattle.gv_termread.proofs.Forward.{whole_term_reads}
use Rattle.gv_termread.proofs.Backward.{M, term_rules_mean}

-- the part of a whole term
abbrev pub whole : PlacedTerm → Part NoOther
whole term = PTerm term

one_term : (a b : PlacedTerm) → whole a ≡ whole b → a ≡ b
one_term a b e = cc

module _ (text : List ℕ) where
  abbrev Means : ℕ → List SeenToken → Type 0
  Means = M (alone text) (term_contains text) []

  all_rules : RulesMean term_tables SeenToken (λ token. token.class) Means term_tables.names 0
  all_rules = with_rows term_tables SeenToken (λ token. token.class) Means term_tables.names 0 term_rules (term_contains text).rules (term_rules_mean (alone text) (term_contains text) []) tt

  -- what the name of terms derives is a term
  term_means : (level : ℕ) (steps : List Step) (us : List SeenToken) → Derived term_tables NAME_WHOLE steps (map (λ token. token.class) us) → (x : PlacedTerm) × Spells (IsTerm (alone text) level) x us
  term_means level steps us d = go us (all_mean term_tables SeenToken (λ token. token.class) Means all_rules d us refl)
    where
      go : (us : List SeenToken) → Meant term_tables SeenToken (λ token. token.class) Means (N NAME_WHOLE ∷ []) us → (x : PlacedTerm) × Spells (IsTerm (alone text) level) x us
      go _ (means {ts = ts} m none) = let a = m level in (a.tree, record { placed = a.placed; same = a.same ∙ sym (append-nil ts); derived = a.spelled })

  pub term_laws : Laws term_tables NAME_WHOLE (λ (token : SeenToken). token.class) PToken (act_of (term_acts {O = NoOther} text)) (IsTerm (alone text)) whole
  term_laws = record {
    may_begin = (term_predictive, refl);
    token_for = λ class _. (record { class = class; start = 0; end = 0; value = 0 }, refl);
    one_tree = one_term;
    reads = whole_term_reads (alone text) (term_contains text);
    means = term_means;
  }
