-- A text spells a specification, or is refused in one way, and not both.
use Rattle.std.proofs.Common.{◌≡◌, ℕ, List, Result, Ok, Err, IfOk, IfErr, IsErrAnd, sym, ap, subst, ◌∙◌}
use Rattle.gv_base.specs.Codes.{code_number}
use Rattle.gv_base.specs.Places.{place_at}
use Rattle.gv_base.specs.declared.answers.Code.{Code}
use Rattle.gv_base.specs.declared.answers.Refusal.{Refusal}
use Rattle.gv_base.specs.declared.answers.Refusal.TheVariants as refusal
use Rattle.gv_base.specs.declared.token.Token.{Token}
use Rattle.gv_text.specs.Answers.{IsDecided, IsFirst, IsRefusedAs, Refuses}
use Rattle.gv_text.proofs.FirstFaults.{decided}
use Rattle.gv_text.proofs.FirstOnes.{one_first}
use Rattle.gv_lex.specs.Reading as lex
use Rattle.gv_atomic.specs.declared.spec.Spec.{Spec}
use Rattle.gv_specread.specs.declared.tree.SpecTree.{SpecTree}
use Rattle.gv_specread.specs.Seen.{seen}
use Rattle.gv_specread.specs.Reading as grammar
use Rattle.gv_specread.proofs.Decided.{spec_decided}
use Rattle.gv_specs.specs.Faults.{HasFault}
use Rattle.gv_specs.specs.Reading.{HasTree, Spells, IsRefused, characters, grammar_fault, meaning, IsReadOr}

module _ (text : List ℕ) where
  of_characters : IsDecided (lex.IsRead text) (lex.IsRefused text)
  of_characters = decided lex.own text

  of_grammar : (tokens : List Token) → IsDecided (grammar.IsRead text (seen text tokens)) (grammar.IsRefusedAt text (seen text tokens))
  of_grammar tokens = spec_decided text (seen text tokens)

  -- a text has one tree
  pub one_tree : (a b : SpecTree) → HasTree text a → HasTree text b → a ≡ b
  one_tree a b h k =
      let same : k.tokens ≡ h.tokens = of_characters.one_value k.tokens h.tokens k.cut h.cut in
      (of_grammar h.tokens).one_value a b h.read (subst (λ (ts : List Token). grammar.IsRead text (seen text ts) b) same k.read)

  cut_or : (tree : SpecTree) (at : ℕ) (code : Code) → HasTree text tree → lex.IsRefused text at code → ⊥
  cut_or tree at code h r = of_characters.not_both h.tokens at code h.cut r

  tree_or : (tree : SpecTree) (tokens : List Token) (at : ℕ) (code : Code) → HasTree text tree → lex.IsRead text tokens → grammar.IsRefusedAt text (seen text tokens) at code → ⊥
  tree_or tree tokens at code h c r =
      let same : h.tokens ≡ tokens = of_characters.one_value h.tokens tokens h.cut c in
      (of_grammar tokens).not_both tree at code (subst (λ (ts : List Token). grammar.IsRead text (seen text ts) tree) same h.read) r

  not_both : (s : Spec) (at : ℕ) (code : Code) → Spells text s → IsRefused text at code → ⊥
  not_both s at code h (characters r) = cut_or h.tree at code h.has r
  not_both s at code h (grammar_fault tokens c r) = tree_or h.tree tokens at code h.has c r
  not_both s at code h (meaning tree k first) = h.faultless at code (subst (λ (t : SpecTree). HasFault text t at code) (one_tree tree h.tree k h.has) first.there)

  one_refusal : (m n : ℕ) (c d : Code) → IsRefused text m c → IsRefused text n d → (m ≡ n) × (c ≡ d)
  one_refusal m n c d (characters r) (characters s) = of_characters.one_refusal m n c d r s
  one_refusal m n c d (characters r) (grammar_fault tokens k s) = absurd (of_characters.not_both tokens m c k r)
  one_refusal m n c d (characters r) (meaning tree k s) = absurd (cut_or tree m c k r)
  one_refusal m n c d (grammar_fault tokens k s) (characters r) = absurd (of_characters.not_both tokens n d k r)
  one_refusal m n c d (grammar_fault tokens k r) (grammar_fault others l s) =
      let same : others ≡ tokens = of_characters.one_value others tokens l k in
      (of_grammar tokens).one_refusal m n c d r (subst (λ (ts : List Token). grammar.IsRefusedAt text (seen text ts) n d) same s)
  one_refusal m n c d (grammar_fault tokens k r) (meaning tree l s) = absurd (tree_or tree tokens m c l k r)
  one_refusal m n c d (meaning tree k r) (characters s) = absurd (cut_or tree n d k s)
  one_refusal m n c d (meaning tree k r) (grammar_fault tokens l s) = absurd (tree_or tree tokens n d k l s)
  one_refusal m n c d (meaning tree k r) (meaning other l s) =
      one_first (HasFault text tree) m n c d r (subst (λ (t : SpecTree). IsFirst code_number (HasFault text t) n d) (one_tree other tree l k) s)

  pub only_so : (result : Result Spec Refusal) → IfErr result (Refuses text (IsRefused text)) → (s : Spec) → Spells text s → IsReadOr result
  only_so (Ok r) g s h = tt
  only_so (Err refusal.NoMemory) g s h = tt
  only_so (Err (refusal.At place code)) g s h = absurd (not_both s g.0 code h g.2)

  pub fault_so : (result : Result Spec Refusal) → IfOk result (Spells text) → IfErr result (Refuses text (IsRefused text)) → (at : ℕ) (code : Code) → IsRefused text at code → IsRefusedAs (place_at text at) code result
  fault_so (Ok r) h g at code w = absurd (not_both r at code h w)
  fault_so (Err refusal.NoMemory) h g at code w = tt
  fault_so (Err (refusal.At place other)) h g at code w =
      let same = one_refusal g.0 at other code g.2 w in
      (g.1 ∙ ap (place_at text) same.0, same.1)

-- a refusal by one rule is one by another rule
pub refuses_by : (text : List ℕ) (P Q : ℕ → Code → Type 0) → ((m : ℕ) (c : Code) → P m c → Q m c) → (r : Refusal) → Refuses text P r → Refuses text Q r
refuses_by text P Q f refusal.NoMemory h = tt
refuses_by text P Q f (refusal.At place code) h = (h.0, h.1, f h.0 code h.2)

pub refuses_on : {U : Type 0} (text : List ℕ) (P Q : ℕ → Code → Type 0) → ((m : ℕ) (c : Code) → P m c → Q m c) → (r : Result U Refusal) (e : Refusal) → IsErrAnd r (λ x. x ≡ e) → Refuses text P e → IfErr r (Refuses text Q)
refuses_on text P Q f (Ok x) e same h = absurd same
refuses_on text P Q f (Err x) e same h = subst (λ (y : Refusal). Refuses text Q y) (sym same) (refuses_by text P Q f e h)
