-- A text of a form whose operations are not the package's.
use Rattle.std.proofs.Common.{◌≡◌, ℕ, Bool, false, List, Result, Ok, Err, refl, sym, ap, subst, ◌∙◌}
use Rattle.std.specs.Prelude.{map, All, Vec, IsTrue, ◌↔◌, IsErrAnd, IfOk, IfErr}
use Rattle.std.specs.declared.alloc.Global.{Global}
use Rattle.gv_base.specs.declared.answers.Code.{Code}
use Rattle.gv_base.specs.declared.answers.Refusal.{Refusal}
use Rattle.gv_base.specs.declared.answers.Refusal.TheVariants as refusal
use Rattle.gv_base.specs.declared.small.Small.{Small}
use Rattle.gv_base.specs.declared.small.SmallOp.{SmallOp}
use Rattle.gv_small.specs.Reading.{IsReadAs, IsStartRefusal, start_refusal}
use Rattle.gv_small.proofs.Cuts.{false_true}
use Rattle.gv_smallprogram.specs.Sums.{SameInterface}
use Rattle.gv_top.specs.Files.{IsReadIn}
use Rattle.gv_top.specs.Forms.{small_form, placed_form}
use Rattle.gv_text.specs.Answers.{Refuses}
use Rattle.gv_top.specs.declared.small_script.SmallBlock.{SmallBlock}
use Rattle.gv_top.specs.declared.small_script.SmallScript.{SmallScript}
use Rattle.gv_top.proofs.FilesLemmas.{err_is}

pub other_interface : (program small x : Small) (ops others : List SmallOp) (same : Bool) → small ≡ x → SameInterface program x → ops ≡ program.ops → others ≡ small.ops →
    IsTrue same ↔ ((map (λ op. op.name) ops ≡ map (λ op. op.name) others) × (map (λ op. op.params) ops ≡ map (λ op. op.params) others)) → same ≡ false → ⊥
other_interface program small x ops others same e s p q test f =
    let k = subst (λ (y : Small). SameInterface program y) (sym e) s in
    let names : map (λ op. op.name) ops ≡ map (λ op. op.name) others = ap (map (λ op. op.name)) p ∙ k.names ∙ ap (map (λ op. op.name)) (sym q) in
    let params : map (λ op. op.params) ops ≡ map (λ op. op.params) others = ap (map (λ op. op.params)) p ∙ k.params ∙ ap (map (λ op. op.params)) (sym q) in
    let t : IsTrue same = test.1 (names, params) in
    false_true (sym f ∙ t)

pub other_blocks : (program : Small) (script x : SmallScript) (ops : List SmallOp) (blocks : List SmallBlock) (same : Bool) → script ≡ x → map (λ op. op.name) program.ops ≡ map (λ b. b.name) x.ops →
    ops ≡ program.ops → blocks ≡ script.ops → IsTrue same ↔ (map (λ op. op.name) ops ≡ map (λ b. b.name) blocks) → same ≡ false → ⊥
other_blocks program script x ops blocks same e s p q test f =
    let k = subst (λ (y : SmallScript). map (λ op. op.name) program.ops ≡ map (λ b. b.name) y.ops) (sym e) s in
    let t : IsTrue same = test.1 (ap (map (λ op. op.name)) p ∙ k ∙ ap (map (λ b. b.name)) (sym q)) in
    false_true (sym f ∙ t)

-- ---- a refusal

module _ {A : Type 0} (Spells : List ℕ → A → Type 0) (text : List ℕ) where
  -- a reader that gives what a text spells, and refuses others so
  pub reads_small : (r : Result A Refusal) → IfOk r (λ x. Spells text x) → ((x : A) → Spells text x → IsReadAs x r) → IfErr r IsStartRefusal → IsReadIn (small_form Spells) text r
  reads_small (Ok x) found only fault = found
  reads_small (Err refusal.NoMemory) found only fault = tt
  reads_small (Err (refusal.At place code)) found only fault = (fault.0, fault.1, only)

  -- the one refusal, where the text spells nothing
  pub refused_start : (e : Refusal) → e ≡ start_refusal → ((x : A) → Spells text x → ⊥) → IsReadIn (small_form Spells) text (Err e)
  refused_start e h n = subst (λ (e : Refusal). IsReadIn (small_form Spells) text (Err e)) (sym h) (refl, refl, n)

  -- what a reader of texts refuses, spells nothing more
  pub refused_more : {B : Type 0} (Reads : List ℕ → B → Type 0) (e : Refusal) → IsStartRefusal e → ((y : B) → Reads text y → IsReadAs y (Err e)) → ((x : A) → Spells text x → (y : B) × Reads text y) → IsReadIn (small_form Spells) text (Err e)
  refused_more Reads refusal.NoMemory h only part = tt
  refused_more Reads (refusal.At place code) h only part = (h.0, h.1, λ x s. only (part x s).0 (part x s).1)

  pub handed_on : (r : Result A Refusal) (e : Refusal) → IsErrAnd r (λ x. x ≡ e) → IsReadIn (small_form Spells) text (Err e) → IsReadIn (small_form Spells) text r
  handed_on r e h k = subst (λ (x : Result A Refusal). IsReadIn (small_form Spells) text x) (sym (err_is r e h)) k

-- ---- texts that are refused at a byte

pub reads_placed : {A : Type 0} (Spells : List ℕ → A → Type 0) (Refusing : List ℕ → ℕ → Code → Type 0) (text : List ℕ) (r : Result A Refusal) → IfOk r (Spells text) → IfErr r (Refuses text (Refusing text))
    → IsReadIn (placed_form Spells Refusing) text r
reads_placed Spells Refusing text (Ok x) read refused = read
reads_placed Spells Refusing text (Err refusal.NoMemory) read refused = tt
reads_placed Spells Refusing text (Err (refusal.At place code)) read refused = refused

-- a reader of lines tells items that are so each
pub reads_lines : {A : Type 0} (Spells : List ℕ → List A → Type 0) (Refusing : List ℕ → ℕ → Code → Type 0) (P : A → Type 0) (text : List ℕ) (r : Result (Vec A Global) Refusal) → IfOk r (λ v. Spells text v.items)
    → IfOk r (λ v. All P v.items) → IfErr r (Refuses text (Refusing text)) → IsReadIn (placed_form (λ (t : List ℕ) (v : Vec A Global). Spells t v.items × All P v.items) Refusing) text r
reads_lines Spells Refusing P text (Ok v) found each refused = (found, each)
reads_lines Spells Refusing P text (Err refusal.NoMemory) found each refused = tt
reads_lines Spells Refusing P text (Err (refusal.At place code)) found each refused = refused
