-- The word that comes first, and what it passes.
use Rattle.std.proofs.Common.{◌≡◌, ℕ, Bool, true, false, cond, List, [], ◌∷◌, Option, Some, None, refl, sym, ap, subst, ◌∙◌}
use Rattle.std.specs.Prelude.{Result, Ok, Err, IfErr, IsErrAnd}
use Rattle.gv_base.specs.declared.answers.Refusal.{Refusal}
use Rattle.gv_base.specs.declared.answers.Refusal.TheVariants as refusal
use Rattle.gv_base.specs.declared.answers.Code.TheVariants.{NotInProfile}
use Rattle.gv_small.specs.Tokens.{Token, named, signed, arrowed, Placed, start}
use Rattle.gv_small.specs.Reading.{Read, word_at, word_placed, word_behind, Refuses, start_refusal}
use Rattle.gv_small.proofs.FormLemmas.{word_found, first_is, second_is}

pub refused : {X : Type 0} (o : Option X) (e : Refusal) → o ≡ None → e ≡ start_refusal → Refuses o e
refused {X} o e f r = subst (λ x. Refuses o x) (sym r) (f, refl, refl)

module _ (p : List ℕ → Bool) where
  pub word_passes : (ts : List Token) (w : List ℕ) (r : List Token) → word_at (λ v. true) ts ≡ Some (w, r) → p w ≡ true → word_at p ts ≡ Some (w, r)
  word_passes ts w r e h = let f = word_found (λ v. true) ts w r e in rw f.0 (rw h refl)

  pub word_fails : (ts : List Token) (w : List ℕ) (r : List Token) → word_at (λ v. true) ts ≡ Some (w, r) → p w ≡ false → word_at p ts ≡ None
  word_fails ts w r e h = let f = word_found (λ v. true) ts w r e in rw f.0 (rw h refl)

  behind_passes : (t : Token) (ts : List Placed) (w : List ℕ) (r : List Placed) → word_behind (λ v. true) t ts ≡ Some (w, r) → p w ≡ true → word_behind p t ts ≡ Some (w, r)
  behind_passes (named v) ts w r e h =
      let P : List ℕ × List Placed = (v, ts) in
      let Q : List ℕ × List Placed = (w, r) in
      let v_is : v ≡ w = first_is P Q e in
      let passes : p v ≡ true = ap p v_is ∙ h in
      rw passes e
  behind_passes arrowed ts w r e h = absurd cc
  behind_passes (signed b) ts w r e h = absurd cc

  pub placed_passes : (ts : List Placed) (w : List ℕ) (r : List Placed) → word_placed (λ v. true) ts ≡ Some (w, r) → p w ≡ true → word_placed p ts ≡ Some (w, r)
  placed_passes [] w r e h = absurd cc
  placed_passes (t ∷ ts) w r e h = behind_passes t.token ts w r e h

-- an error that is handed on, where the whole reading finds nothing because a part of it does
pub err_kept : {A X Y : Type 0} (r : Result A Refusal) (e : Refusal) (part : Option X) (all : Option Y) → IsErrAnd r (λ x. x ≡ e) → Refuses part e → (part ≡ None → all ≡ None) → IfErr r (Refuses all)
err_kept (Ok x) e part all h p f = tt
err_kept (Err x) e part all h p f = kept x e part all h p f
  where
    kept : {X Y : Type 0} (x e : Refusal) (part : Option X) (all : Option Y) → x ≡ e → Refuses part e → (part ≡ None → all ≡ None) → Refuses all x
    kept refusal.NoMemory e part all h p f = tt
    kept (refusal.At place code) e part all h p f = let q = subst (λ y. Refuses part y) (sym h) p in (f q.0, q.1, q.2)
