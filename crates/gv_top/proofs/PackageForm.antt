-- A text is read as one package or refused in one way, and not both; and what the three stages answer.
use Rattle.std.proofs.Common.{◌≡◌, ℕ, List, Result, Ok, Err, IfOk, IfErr, refl, sym, subst, ap, ◌∙◌}
use Rattle.std.specs.Prelude.{IsErrAnd}
use Rattle.gv_base.specs.Places.{place_at}
use Rattle.gv_base.specs.declared.answers.Code.{Code}
use Rattle.gv_base.specs.declared.answers.Place.{Place}
use Rattle.gv_base.specs.declared.answers.Refusal.{Refusal}
use Rattle.gv_base.specs.declared.answers.Refusal.TheVariants as refusal
use Rattle.gv_base.specs.declared.small.Small.{Small}
use Rattle.gv_base.specs.declared.token.Token.{Token}
use Rattle.gv_text.specs.Answers.{Refuses}
use Rattle.gv_text.proofs.FirstFaults.{decided}
use Rattle.gv_tokens.specs.Reading as characters
use Rattle.gv_tokens.specs.Reading.{go}
use Rattle.gv_gosyntax.specs.declared.node.Tree.{Tree}
use Rattle.gv_goparse.specs.Seen.{seen}
use Rattle.gv_goparse.specs.Reading as grammar
use Rattle.gv_goparse.proofs.Decided.{tree_only, tree_fault}
use Rattle.gv_gotree.specs.SmallPackage.{IsSmallPackage}
use Rattle.gv_small.specs.Reading.{IsReadAs, IsStartRefusal}
use Rattle.gv_top.specs.Files.{IsReadIn}
use Rattle.gv_top.specs.Forms.{packages}
use Rattle.gv_top.specs.Packages.{IsPackage, HasGrammarFault, IsPackageOf, IsRefusedPackage, in_tokens, in_grammar, outside}
use Rattle.gv_top.proofs.FilesLemmas.{err_is}
use Rattle.gv_top.proofs.StageLemmas.{IsExact}

-- ---- no two stages refuse a text

module _ (text : List ℕ) where
  one_list : (a b : List Token) → characters.IsRead text a → characters.IsRead text b → a ≡ b
  one_list a b h k = (decided go text).one_value a b h k

  one_character : (m n : ℕ) (c d : Code) → characters.IsRefused text m c → characters.IsRefused text n d → (place_at text m ≡ place_at text n) × (c ≡ d)
  one_character m n c d h k = let same = (decided go text).one_refusal m n c d h k in (ap (place_at text) same.0, same.1)

  package_or_character : (at : ℕ) (code : Code) → IsPackage text → characters.IsRefused text at code → ⊥
  package_or_character at code p r = (decided go text).not_both p.tokens at code p.are_tokens r

  fault_or_character : (m n : ℕ) (c d : Code) → HasGrammarFault text m c → characters.IsRefused text n d → ⊥
  fault_or_character m n c d f r = (decided go text).not_both f.tokens n d f.are_tokens r

  -- a fault of the grammar, as one of the tokens that were read
  fault_of : (tokens : List Token) → characters.IsRead text tokens → (at : ℕ) (code : Code) → HasGrammarFault text at code → grammar.IsRefusedAt text (seen text tokens) at code
  fault_of tokens h at code f = subst (λ (ts : List Token). grammar.IsRefusedAt text (seen text ts) at code) (one_list f.tokens tokens f.are_tokens h) f.refused

  package_or_fault : (at : ℕ) (code : Code) → IsPackage text → HasGrammarFault text at code → ⊥
  package_or_fault at code p f =
      let r : Result Tree Refusal = Err (refusal.At (place_at text at) code) in
      tree_only text (seen text p.tokens) r tt (at, refl, fault_of p.tokens p.are_tokens at code f) p.file p.is_file

  one_fault : (m n : ℕ) (c d : Code) → HasGrammarFault text m c → HasGrammarFault text n d → (place_at text m ≡ place_at text n) × (c ≡ d)
  one_fault m n c d f g =
      let r : Result Tree Refusal = Err (refusal.At (place_at text m) c) in
      tree_fault text (seen text f.tokens) r tt (m, refl, f.refused) n d (fault_of f.tokens f.are_tokens n d g)

  clash : (x : Small) (place : Place) (code : Code) → IsPackageOf text x → IsRefusedPackage text place code → ⊥
  clash x place code h (in_tokens at e r) = package_or_character at code h.grammatical r
  clash x place code h (in_grammar at e f) = package_or_fault at code h.grammatical f
  clash x place code h (outside p e f n) = n x h.small_form

  one_refusal : (p q : Place) (c d : Code) → IsRefusedPackage text p c → IsRefusedPackage text q d → (p ≡ q) × (c ≡ d)
  one_refusal p q c d (in_tokens m e h) (in_tokens n f k) = let same = one_character m n c d h k in (e ∙ same.0 ∙ sym f, same.1)
  one_refusal p q c d (in_tokens m e h) (in_grammar n f k) = absurd (fault_or_character n m d c k h)
  one_refusal p q c d (in_tokens m e h) (outside k f g n) = absurd (package_or_character m c k h)
  one_refusal p q c d (in_grammar m e h) (in_tokens n f k) = absurd (fault_or_character m n c d h k)
  one_refusal p q c d (in_grammar m e h) (in_grammar n f k) = let same = one_fault m n c d h k in (e ∙ same.0 ∙ sym f, same.1)
  one_refusal p q c d (in_grammar m e h) (outside k f g n) = absurd (package_or_fault m c k h)
  one_refusal p q c d (outside h e f m) (in_tokens n g k) = absurd (package_or_character n d h k)
  one_refusal p q c d (outside h e f m) (in_grammar n g k) = absurd (package_or_fault n d h k)
  one_refusal p q c d (outside h e f m) (outside k g i n) = (e ∙ sym g, f ∙ sym i)

pub packages_exact : IsExact packages
packages_exact = record { clash = λ text x place code h k. clash text x place code h k; one_refusal = λ text p q c d h k. one_refusal text p q c d h k }

-- ---- what the stages answer

module _ (text : List ℕ) where
  abbrev Answer : Result Small Refusal → Type 0
  Answer r = IsReadIn packages text r

  tokens_err : (e : Refusal) → characters.Refuses text e → Answer (Err e)
  tokens_err refusal.NoMemory h = tt
  tokens_err (refusal.At place code) h = in_tokens h.0 h.1 h.2

  pub tokens_refuse : (r : Result Small Refusal) (e : Refusal) → IsErrAnd r (λ x. x ≡ e) → characters.Refuses text e → Answer r
  tokens_refuse r e is h = subst Answer (sym (err_is r e is)) (tokens_err e h)

  module _ (listed tokens : List Token) (same : tokens ≡ listed) (are : characters.IsRead text listed) where
    are_tokens : characters.IsRead text tokens
    are_tokens = subst (λ (ts : List Token). characters.IsRead text ts) (sym same) are

    grammar_err : (e : Refusal) → Refuses text (grammar.IsRefusedAt text (seen text tokens)) e → Answer (Err e)
    grammar_err refusal.NoMemory h = tt
    grammar_err (refusal.At place code) h = in_grammar h.0 h.1 (record { tokens = tokens; are_tokens = are_tokens; refused = h.2 })

    pub grammar_refuses : (r : Result Small Refusal) (e : Refusal) → IsErrAnd r (λ x. x ≡ e) → Refuses text (grammar.IsRefusedAt text (seen text tokens)) e → Answer r
    grammar_refuses r e is h = subst Answer (sym (err_is r e is)) (grammar_err e h)

    pub is_package : (tree : Tree) → grammar.IsTree (seen text tokens) tree.nodes.items → IsPackage text
    is_package tree t = record { tokens = tokens; are_tokens = are_tokens; file = t.file; is_file = t.read }

  -- of a package of the grammar, the small form decides
  pub form_decides : (r : Result Small Refusal) → IsPackage text → IfOk r (λ x. IsSmallPackage text x) → ((x : Small) → IsSmallPackage text x → IsReadAs x r) → IfErr r IsStartRefusal → Answer r
  form_decides (Ok x) p found only fault = record { grammatical = p; small_form = found }
  form_decides (Err refusal.NoMemory) p found only fault = tt
  form_decides (Err (refusal.At place code)) p found only fault = outside p fault.0 fault.1 only
