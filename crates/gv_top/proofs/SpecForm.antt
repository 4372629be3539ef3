-- A text is read as one specification for a package or refused in one way, and not both; and what the two stages answer.
use Rattle.std.proofs.Common.{◌≡◌, ℕ, Bool, true, false, List, Result, Ok, Err, refl, sym, ap, subst, ◌∙◌}
use Rattle.std.specs.Prelude.{map, IsTrue, ◌↔◌, IsErrAnd}
use Rattle.gv_base.specs.Places.{place_at}
use Rattle.gv_base.specs.declared.answers.Code.{Code}
use Rattle.gv_base.specs.declared.answers.Place.{Place}
use Rattle.gv_base.specs.declared.answers.Refusal.{Refusal}
use Rattle.gv_base.specs.declared.answers.Refusal.TheVariants as refusal
use Rattle.gv_base.specs.declared.small.Small.{Small}
use Rattle.gv_base.specs.declared.small.SmallOp.{SmallOp}
use Rattle.gv_small.specs.Reading.{start_refusal}
use Rattle.gv_text.specs.Answers.{Refuses}
use Rattle.gv_atomic.specs.declared.spec.Spec.{Spec}
use Rattle.gv_specs.specs.Reading as written
use Rattle.gv_specs.proofs.Alike.{one_specification}
use Rattle.gv_specs.proofs.Decided as specs
use Rattle.gv_smallspec.specs.SmallSpec.{IsSmallOf}
use Rattle.gv_smallspec.proofs.SmallLaws.{one_small, alike_same}
use Rattle.gv_top.specs.Files.{IsReadIn}
use Rattle.gv_top.specs.Forms.{specs_for}
use Rattle.gv_top.specs.Laws.{SpellsOne}
use Rattle.gv_top.specs.Specifications.{IsSpecOf, IsSpecFor, IsRefusedSpecFor, in_text, outside, IsRefusedAsOther}
use Rattle.gv_top.proofs.FilesLemmas.{err_is}
use Rattle.gv_top.proofs.FormLemmas.{other_interface}
use Rattle.gv_top.proofs.StageLemmas.{IsExact}

-- ---- one specification, or one refusal

-- two texts' specifications have one small form
small_of_both : (text : List ℕ) (s t : Spec) (small : Small) → written.Spells text s → written.Spells text t → IsSmallOf s small → IsSmallOf t small
small_of_both text s t small h k is = alike_same s t small (one_specification text s t h k) is

pub one_spec : SpellsOne IsSpecOf
one_spec text x y h k = one_small k.atomic x y (small_of_both text h.atomic k.atomic x h.spelled k.spelled h.small_form) k.small_form

module _ (program : Small) (text : List ℕ) where
  spelled_or_refused : (s : Spec) (at : ℕ) (code : Code) → written.Spells text s → written.IsRefused text at code → ⊥
  spelled_or_refused s at code h r = specs.only_so text (Err (refusal.At (place_at text at) code)) (at, refl, r) s h

  clash : (x : Small) (place : Place) (code : Code) → IsSpecFor program text x → IsRefusedSpecFor program text place code → ⊥
  clash x place code h (in_text at e r) = spelled_or_refused h.0.atomic at code h.0.spelled r
  clash x place code h (outside s k e f n) = n x h

  one_refusal : (p q : Place) (c d : Code) → IsRefusedSpecFor program text p c → IsRefusedSpecFor program text q d → (p ≡ q) × (c ≡ d)
  one_refusal p q c d (in_text m e h) (in_text n f k) =
      let same = specs.fault_so text (Err (refusal.At (place_at text m) c)) tt (m, refl, h) n d k in
      (e ∙ same.0 ∙ sym f, same.1)
  one_refusal p q c d (in_text m e h) (outside s k f g n) = absurd (spelled_or_refused s m c k h)
  one_refusal p q c d (outside s h e f m) (in_text n g k) = absurd (spelled_or_refused s n d h k)
  one_refusal p q c d (outside s h e f m) (outside t k g i n) = (e ∙ sym g, f ∙ sym i)

pub specs_exact : (program : Small) → IsExact (specs_for program)
specs_exact program = record { clash = λ text x place code h k. clash program text x place code h k; one_refusal = λ text p q c d h k. one_refusal program text p q c d h k }

-- ---- what the stages answer

pub other_is : (s : Spec) (e : Refusal) → e ≡ start_refusal → ((small : Small) → IsSmallOf s small → ⊥) → IsRefusedAsOther s e
other_is s e is n = subst (IsRefusedAsOther s) (sym is) (refl, refl, n)

module _ (program : Small) (text : List ℕ) where
  abbrev Answer : Result Small Refusal → Type 0
  Answer r = IsReadIn (specs_for program) text r

  text_err : (e : Refusal) → Refuses text (written.IsRefused text) e → Answer (Err e)
  text_err refusal.NoMemory h = tt
  text_err (refusal.At place code) h = in_text h.0 h.1 h.2

  pub text_refuses : (r : Result Small Refusal) (e : Refusal) → IsErrAnd r (λ x. x ≡ e) → Refuses text (written.IsRefused text) e → Answer r
  text_refuses r e is h = subst Answer (sym (err_is r e is)) (text_err e h)

  module _ (s : Spec) (spelled : written.Spells text s) where
    other_err : (e : Refusal) → IsRefusedAsOther s e → Answer (Err e)
    other_err refusal.NoMemory h = tt
    other_err (refusal.At place code) h =
        outside s spelled h.0 h.1 (λ small k. h.2 small (small_of_both text k.0.atomic s small k.0.spelled spelled k.0.small_form))

    -- it has no small form
    pub other_refuses : (r : Result Small Refusal) (e : Refusal) → IsErrAnd r (λ x. x ≡ e) → IsRefusedAsOther s e → Answer r
    other_refuses r e is h = subst Answer (sym (err_is r e is)) (other_err e h)

    module _ (small : Small) (is : IsSmallOf s small) (ops others : List SmallOp) (same : Bool) (ours : ops ≡ program.ops) (theirs : others ≡ small.ops)
        (test : IsTrue same ↔ ((map (λ op. op.name) ops ≡ map (λ op. op.name) others) × (map (λ op. op.params) ops ≡ map (λ op. op.params) others))) where
      not_for : same ≡ false → (x : Small) → IsSpecFor program text x → ⊥
      not_for f x k =
          let one = one_small s small x is (small_of_both text k.0.atomic s x k.0.spelled spelled k.0.small_form) in
          other_interface program small x ops others same one k.1 ours theirs test f

      -- it has other operations
      pub interface_refuses : (e : Refusal) → e ≡ start_refusal → same ≡ false → Answer (Err e)
      interface_refuses e h f = subst (λ (x : Refusal). Answer (Err x)) (sym h) (outside s spelled refl refl (not_for f))

      pub spec_is_for : same ≡ true → Answer (Ok small)
      spec_is_for t =
          let both = test.0 t in
          let names : map (λ op. op.name) program.ops ≡ map (λ op. op.name) small.ops = ap (map (λ op. op.name)) (sym ours) ∙ both.0 ∙ ap (map (λ op. op.name)) theirs in
          let params : map (λ op. op.params) program.ops ≡ map (λ op. op.params) small.ops = ap (map (λ op. op.params)) (sym ours) ∙ both.1 ∙ ap (map (λ op. op.params)) theirs in
          (record { atomic = s; spelled = spelled; small_form = is }, record { names = names; params = params })
