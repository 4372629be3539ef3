-- A text spells a script, or is refused in one way, and not both.
use Rattle.std.proofs.Common.{◌≡◌, ℕ, List, Option, Some, None, Result, Ok, Err, IfOk, IfErr, IsErrAnd, refl, sym, ap, subst, ◌∙◌}
use Rattle.std.specs.Prelude.{slice_get}
use Rattle.gv_base.specs.Places.{place_at}
use Rattle.gv_base.specs.declared.answers.Code.{Code}
use Rattle.gv_base.specs.declared.answers.Refusal.{Refusal}
use Rattle.gv_base.specs.declared.answers.Refusal.TheVariants as refusal
use Rattle.gv_base.specs.declared.token.Token.{Token}
use Rattle.gv_grammar.proofs.Decided.{one_refused, refused_or_unfinished, one_too_deep}
use Rattle.gv_text.specs.Answers.{IsDecided, IsReadSo, IsRefusedAs, Refuses}
use Rattle.gv_text.proofs.FirstFaults.{decided}
use Rattle.gv_lex.specs.Reading as lex
use Rattle.gv_lang.specs.declared.program.Program.{Program}
use Rattle.gv_atomic.specs.declared.spec.Spec.{Spec}
use Rattle.gv_termread.specs.declared.reading.TheConstants.{MAX_LEVELS}
use Rattle.gv_termread.specs.declared.token.SeenToken.{SeenToken}
use Rattle.gv_scriptsyntax.specs.declared.tree.Script.{Script as Tree}
use Rattle.gv_scriptsyntax.specs.Language.{IsScript}
use Rattle.gv_scriptparse.specs.Seen.{seen}
use Rattle.gv_scriptparse.specs.Reading as grammar
use Rattle.gv_scriptparse.proofs.Decided.{one_spelled, tree_only}
use Rattle.gv_scriptnames.specs.Laws.{IsTypedOutline, IsRefusedAt}
use Rattle.gv_scriptnames.specs.declared.outline.Outline.{Outline}
use Rattle.gv_typing.specs.declared.term_fault.Fault.{Fault}
use Rattle.gv_scriptfaults.specs.First.{IsFirstFault}
use Rattle.gv_scriptnames.proofs.Once.{all_once}
use Rattle.gv_scripts.specs.declared.script.Script.{Script}
use Rattle.gv_scripts.specs.Reading.{HasTree, Spells, IsOf, IsValid, IsRefused, characters, grammar_fault, meaning, IsReadOnce, AreReadOnce}

same_token : (tokens : List SeenToken) {i j : ℕ} (t u : SeenToken) → slice_get tokens i ≡ Some t → slice_get tokens j ≡ Some u → i ≡ j → t ≡ u
same_token tokens t u e f q =
    let g : Some t ≡ Some u = sym e ∙ (ap (slice_get tokens) q ∙ f) in
    cc

-- tokens are refused by the grammar at one place by one code
one_fault : (text : List ℕ) (tokens : List SeenToken) (m n : ℕ) (c d : Code) → grammar.IsRefusedAt text tokens m c → grammar.IsRefusedAt text tokens n d → (m ≡ n) × (c ≡ d)
one_fault text tokens _ _ _ _ (grammar.unexpected i t e h s) (grammar.unexpected j x f k r) =
    let q = same_token tokens t x e f (one_refused (IsScript text 0) tokens i j h k) in
    (ap (λ (y : SeenToken). y.start) q, ap (λ (y : SeenToken). grammar.code_of y.class) q)
one_fault text tokens _ _ _ _ (grammar.unexpected i t e h s) (grammar.too_deep j x f k) = absurd (s j k)
one_fault text tokens _ _ _ _ (grammar.unexpected i t e h s) (grammar.end_of_text k r) = absurd (refused_or_unfinished (IsScript text 0) tokens i h k)
one_fault text tokens _ _ _ _ (grammar.too_deep i t e h) (grammar.unexpected j x f k r) = absurd (r i h)
one_fault text tokens _ _ _ _ (grammar.too_deep i t e h) (grammar.too_deep j x f k) =
    let q = same_token tokens t x e f (one_too_deep (IsScript text 0) MAX_LEVELS tokens i j h k) in
    (ap (λ (y : SeenToken). y.start) q, refl)
one_fault text tokens _ _ _ _ (grammar.too_deep i t e h) (grammar.end_of_text k r) = absurd (r i h)
one_fault text tokens _ _ _ _ (grammar.end_of_text h s) (grammar.unexpected j x f k r) = absurd (refused_or_unfinished (IsScript text 0) tokens j k h)
one_fault text tokens _ _ _ _ (grammar.end_of_text h s) (grammar.too_deep j x f k) = absurd (s j k)
one_fault text tokens _ _ _ _ (grammar.end_of_text h s) (grammar.end_of_text k r) = (refl, refl)

module _ (text : List ℕ) where
  of_characters : IsDecided (lex.IsRead text) (lex.IsRefused text)
  of_characters = decided lex.own text

  of_grammar : (tokens : List SeenToken) → IsDecided (grammar.IsRead text tokens) (grammar.IsRefusedAt text tokens)
  of_grammar tokens = record {
    one_value = λ a b h k. one_spelled text 0 tokens a b h.spelled k.spelled;
    one_refusal = one_fault text tokens;
    not_both = λ v at code h r. tree_only text tokens (Err (refusal.At (place_at text at) code)) tt (at, refl, r) v h;
  }

  -- a text has one tree
  pub one_tree : (a b : Tree) → HasTree text a → HasTree text b → a ≡ b
  one_tree a b h k =
      let same : k.tokens ≡ h.tokens = of_characters.one_value k.tokens h.tokens k.cut h.cut in
      (of_grammar (seen text h.tokens)).one_value a b h.read (subst (λ (ts : List Token). grammar.IsRead text (seen text ts) b) same k.read)

  cut_or : (tree : Tree) (at : ℕ) (code : Code) → HasTree text tree → lex.IsRefused text at code → ⊥
  cut_or tree at code h r = of_characters.not_both h.tokens at code h.cut r

  tree_or : (tree : Tree) (tokens : List Token) (at : ℕ) (code : Code) → HasTree text tree → lex.IsRead text tokens → grammar.IsRefusedAt text (seen text tokens) at code → ⊥
  tree_or tree tokens at code h c r =
      let same : h.tokens ≡ tokens = of_characters.one_value h.tokens tokens h.cut c in
      (of_grammar (seen text tokens)).not_both tree at code (subst (λ (ts : List Token). grammar.IsRead text (seen text ts) tree) same h.read) r

  module _ (spec : Spec) (program : Program) where
    not_both : (tree : Tree) (at : ℕ) (code : Code) → Spells text spec program tree → IsRefused text spec program at code → ⊥
    not_both tree at code h (characters r) = cut_or tree at code h.has r
    not_both tree at code h (grammar_fault tokens c r) = tree_or tree tokens at code h.has c r
    not_both tree at code h (meaning other k first) =
        (all_once text spec program tree).not_both at code h.typed (subst (λ (t : Tree). IsRefusedAt text spec program t at code) (one_tree other tree k h.has) first)

    one_refusal : (m n : ℕ) (c d : Code) → IsRefused text spec program m c → IsRefused text spec program n d → (m ≡ n) × (c ≡ d)
    one_refusal m n c d (characters r) (characters s) = of_characters.one_refusal m n c d r s
    one_refusal m n c d (characters r) (grammar_fault tokens k s) = absurd (of_characters.not_both tokens m c k r)
    one_refusal m n c d (characters r) (meaning tree k s) = absurd (cut_or tree m c k r)
    one_refusal m n c d (grammar_fault tokens k s) (characters r) = absurd (of_characters.not_both tokens n d k r)
    one_refusal m n c d (grammar_fault tokens k r) (grammar_fault others l s) =
        let same : others ≡ tokens = of_characters.one_value others tokens l k in
        (of_grammar (seen text tokens)).one_refusal m n c d r (subst (λ (ts : List Token). grammar.IsRefusedAt text (seen text ts) n d) same s)
    one_refusal m n c d (grammar_fault tokens k r) (meaning tree l s) = absurd (tree_or tree tokens m c l k r)
    one_refusal m n c d (meaning tree k r) (characters s) = absurd (cut_or tree n d k s)
    one_refusal m n c d (meaning tree k r) (grammar_fault tokens l s) = absurd (tree_or tree tokens n d k l s)
    one_refusal m n c d (meaning tree k r) (meaning other l s) =
        (all_once text spec program tree).one_refusal m n c d r (subst (λ (t : Tree). IsRefusedAt text spec program t n d) (one_tree other tree l k) s)

    -- a tree that the text spells is read
    pub only_so : (result : Result Script Refusal) → IfOk result (IsValid text spec program) → IfErr result (Refuses text (IsRefused text spec program)) → (tree : Tree) → Spells text spec program tree
        → IsReadSo (IsOf text tree) result
    only_so (Ok s) h g tree k = subst (λ (t : Tree). IsOf text t s) (one_tree h.tree tree h.spelled.has k.has) h.is
    only_so (Err refusal.NoMemory) h g tree k = tt
    only_so (Err (refusal.At place code)) h g tree k = absurd (not_both tree g.0 code k g.2)

    -- and what has a fault is refused there
    pub fault_so : (result : Result Script Refusal) → IfOk result (IsValid text spec program) → IfErr result (Refuses text (IsRefused text spec program)) → (at : ℕ) (code : Code) → IsRefused text spec program at code
        → IsRefusedAs (place_at text at) code result
    fault_so (Ok s) h g at code w = absurd (not_both h.tree at code h.spelled w)
    fault_so (Err refusal.NoMemory) h g at code w = tt
    fault_so (Err (refusal.At place other)) h g at code w =
        let same = one_refusal g.0 at other code g.2 w in
        (g.1 ∙ ap (place_at text) same.0, same.1)

    once : IsReadOnce text spec program
    once = record { one_tree = λ a b h k. one_tree a b h.has k.has; one_refusal = one_refusal; not_both = not_both }

pub all_read_once : AreReadOnce
all_read_once text spec program = once text spec program

-- a refusal by one rule is one by another rule
pub refuses_by : (text : List ℕ) (P Q : ℕ → Code → Type 0) → ((m : ℕ) (c : Code) → P m c → Q m c) → (r : Refusal) → Refuses text P r → Refuses text Q r
refuses_by text P Q f refusal.NoMemory h = tt
refuses_by text P Q f (refusal.At place code) h = (h.0, h.1, f h.0 code h.2)

pub refuses_on : {U : Type 0} (text : List ℕ) (P Q : ℕ → Code → Type 0) → ((m : ℕ) (c : Code) → P m c → Q m c) → (r : Result U Refusal) (e : Refusal) → IsErrAnd r (λ x. x ≡ e) → Refuses text P e → IfErr r (Refuses text Q)
refuses_on text P Q f (Ok x) e same h = absurd same
refuses_on text P Q f (Err x) e same h = subst (λ (y : Refusal). Refuses text Q y) (sym same) (refuses_by text P Q f e h)

-- where no fault is first, the rules hold
pub typed_none : (text : List ℕ) (spec : Spec) (program : Program) (s t : Outline) (first : Option Fault) → IsFirstFault text spec program s first → first ≡ None → s ≡ t → IsTypedOutline text spec program t
typed_none text spec program s t None h e q = subst (λ (o : Outline). IsTypedOutline text spec program o) q h
typed_none text spec program s t (Some f) h e q = absurd cc
