-- What tokens are read as, and their refusal, are one, and there are not both.
use Rattle.std.proofs.Common.{◌≡◌, ℕ, List, Some, Result, Ok, Err, IfOk, IfErr, refl, subst, sym, ap, ◌∙◌}
use Rattle.std.specs.Prelude.{slice_get}
use Rattle.gv_base.specs.Places.{place_at}
use Rattle.gv_base.specs.declared.answers.Code.{Code}
use Rattle.gv_base.specs.declared.answers.Refusal.{Refusal}
use Rattle.gv_base.specs.declared.answers.Refusal.TheVariants as refusal
use Rattle.gv_grammar.specs.Building.{act_of}
use Rattle.gv_grammar.specs.Text.{Spells}
use Rattle.gv_grammar.proofs.Whole.{at_most_one}
use Rattle.gv_grammar.proofs.Decided.{one_refused, refused_or_unfinished, one_too_deep, spelled_or_refused, spelled_or_too_deep}
use Rattle.gv_text.specs.Answers.{IsReadSo, IsRefusedAs, Refuses}
use Rattle.gv_termread.specs.declared.generated.term_acts.Part.TheVariants.{Token as PToken}
use Rattle.gv_termread.specs.declared.reading.TheConstants.{MAX_LEVELS}
use Rattle.gv_termread.specs.declared.token.SeenToken.{SeenToken}
use Rattle.gv_scriptsyntax.specs.declared.generated.script_table.TheConstants.{NAME_TEXT}
use Rattle.gv_scriptsyntax.specs.declared.node.Tree.{Tree}
use Rattle.gv_scriptsyntax.specs.declared.tree.Script.{Script}
use Rattle.gv_scriptsyntax.specs.Nodes.{IsTreeOf}
use Rattle.gv_scriptsyntax.specs.ScriptTable.{script_tables}
use Rattle.gv_scriptsyntax.specs.ScriptActs.{script_acts}
use Rattle.gv_scriptsyntax.specs.Language.{IsScript}
use Rattle.gv_scriptparse.specs.Reading.{code_of, IsRead, IsTree, IsRefusedAt, unexpected, too_deep, end_of_text}
use Rattle.gv_scriptparse.proofs.Top.{whole, script_laws}

-- the token with a number is one
same_token : (tokens : List SeenToken) {i j : ℕ} (t u : SeenToken) → slice_get tokens i ≡ Some t → slice_get tokens j ≡ Some u → i ≡ j → t ≡ u
same_token tokens t u e f q =
    let g : Some t ≡ Some u = sym e ∙ (ap (slice_get tokens) q ∙ f) in
    cc

pub one_spelled : (text : List ℕ) (level : ℕ) (tokens : List SeenToken) (a b : Script) → Spells (IsScript text level) a tokens → Spells (IsScript text level) b tokens → a ≡ b
one_spelled text level tokens a b s t = at_most_one script_tables NAME_TEXT (λ (token : SeenToken). token.class) PToken (act_of (script_acts text)) (IsScript text) whole (script_laws text) level MAX_LEVELS a b tokens s t

module _ (text : List ℕ) (tokens : List SeenToken) where
  one_refusal : (m n : ℕ) (c d : Code) → IsRefusedAt text tokens m c → IsRefusedAt text tokens n d → (m ≡ n) × (c ≡ d)
  one_refusal _ _ _ _ (unexpected i t e h s) (unexpected j x f k r) =
      let q = same_token tokens t x e f (one_refused (IsScript text 0) tokens i j h k) in
      (ap (λ (y : SeenToken). y.start) q, ap (λ (y : SeenToken). code_of y.class) q)
  one_refusal _ _ _ _ (unexpected i t e h s) (too_deep j x f k) = absurd (s j k)
  one_refusal _ _ _ _ (unexpected i t e h s) (end_of_text k r) = absurd (refused_or_unfinished (IsScript text 0) tokens i h k)
  one_refusal _ _ _ _ (too_deep i t e h) (unexpected j x f k r) = absurd (r i h)
  one_refusal _ _ _ _ (too_deep i t e h) (too_deep j x f k) =
      let q = same_token tokens t x e f (one_too_deep (IsScript text 0) MAX_LEVELS tokens i j h k) in
      (ap (λ (y : SeenToken). y.start) q, refl)
  one_refusal _ _ _ _ (too_deep i t e h) (end_of_text k r) = absurd (r i h)
  one_refusal _ _ _ _ (end_of_text h s) (unexpected j x f k r) = absurd (refused_or_unfinished (IsScript text 0) tokens j k h)
  one_refusal _ _ _ _ (end_of_text h s) (too_deep j x f k) = absurd (s j k)
  one_refusal _ _ _ _ (end_of_text h s) (end_of_text k r) = (refl, refl)

  not_both : (v : Script) (at : ℕ) (code : Code) → IsRead text tokens v → IsRefusedAt text tokens at code → ⊥
  not_both v _ _ p (unexpected i t e h s) = spelled_or_refused (IsScript text 0) MAX_LEVELS tokens v p.spelled i h
  not_both v _ _ p (too_deep i t e h) = spelled_or_too_deep (IsScript text 0) MAX_LEVELS tokens v p.spelled p.within i h
  not_both v _ _ p (end_of_text h s) = h.none v p.spelled

  -- a script that the tokens spell is read as its tree
  pub tree_only : (result : Result Tree Refusal) → IfOk result (λ tree. IsTree text tokens tree.nodes.items) → IfErr result (Refuses text (IsRefusedAt text tokens)) → (script : Script) → IsRead text tokens script
      → IsReadSo (λ tree. IsTreeOf text tree.nodes.items script) result
  tree_only (Ok tree) h g script r = subst (λ (other : Script). IsTreeOf text tree.nodes.items other) (one_spelled text 0 tokens h.script script h.read.spelled r.spelled) h.tree
  tree_only (Err refusal.NoMemory) h g script r = tt
  tree_only (Err (refusal.At place code)) h g script r = absurd (not_both script g.0 code r g.2)

  -- and what has a fault is refused there
  pub tree_fault : (result : Result Tree Refusal) → IfOk result (λ tree. IsTree text tokens tree.nodes.items) → IfErr result (Refuses text (IsRefusedAt text tokens)) → (at : ℕ) (code : Code) → IsRefusedAt text tokens at code
      → IsRefusedAs (place_at text at) code result
  tree_fault (Ok tree) h g at code r = absurd (not_both h.script at code h.read r)
  tree_fault (Err refusal.NoMemory) h g at code r = tt
  tree_fault (Err (refusal.At place other)) h g at code r =
      let same = one_refusal g.0 at other code g.2 r in
      (g.1 ∙ ap (place_at text) same.0, same.1)
