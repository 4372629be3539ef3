-- Uses in lists of what is found.
use Rattle.std.proofs.Common.{◌≡◌, List, [], ◌∷◌, ◌++◌, Result, refl, sym, ap, ◌∙◌, append-nil, append_assoc}
use Rattle.std.specs.Prelude.{OnOk}
use Rattle.std.proofs.lemmas.Result.{on_ok_weaker}
use Rattle.gv_gotypes.specs.Types.{Finding, Fault}
use Rattle.gv_gotypes.specs.Types as found
use Rattle.gv_gotyped.specs.First.{AreFaults}
use Rattle.gv_gouses.specs.declared.noted.Use.{Use}
use Rattle.gv_gouses.specs.declared.noted.Use.TheVariants.{Outer, Assigned}
use Rattle.gv_gouses.specs.Uses.{uses_of, Adds}

pub uses_both : (fs gs : List Finding) → uses_of (fs ++ gs) ≡ uses_of fs ++ uses_of gs
uses_both [] gs = refl
uses_both (Fault at code ∷ fs) gs = uses_both fs gs
uses_both (found.Outer at declared ∷ fs) gs = ap (λ (us : List Use). Outer at declared ∷ us) (uses_both fs gs)
uses_both (found.Assigned declared ∷ fs) gs = ap (λ (us : List Use). Assigned declared ∷ us) (uses_both fs gs)

pub uses_none : (fs : List Finding) → AreFaults fs → uses_of fs ≡ []
uses_none [] h = refl
uses_none (Fault at code ∷ fs) h = uses_none fs h
uses_none (found.Outer at declared ∷ fs) h = absurd h
uses_none (found.Assigned declared ∷ fs) h = absurd h

-- faults behind add nothing
pub uses_before : (fs gs : List Finding) → AreFaults gs → uses_of (fs ++ gs) ≡ uses_of fs
uses_before fs gs h = uses_both fs gs ∙ ap (λ (us : List Use). uses_of fs ++ us) (uses_none gs h) ∙ append-nil (uses_of fs)

-- nor do faults before
pub uses_behind : (fs gs : List Finding) → AreFaults fs → uses_of (fs ++ gs) ≡ uses_of gs
uses_behind fs gs h = uses_both fs gs ∙ ap (λ (us : List Use). us ++ uses_of gs) (uses_none fs h)

-- ---- one after another

pub adds_nothing : (old : List Use) (fs : List Finding) → uses_of fs ≡ [] → Adds old old fs
adds_nothing old fs h = sym (ap (λ (us : List Use). old ++ us) h ∙ append-nil old)

pub adds_as : (old new : List Use) (fs gs : List Finding) → Adds old new fs → uses_of gs ≡ uses_of fs → Adds old new gs
adds_as old new fs gs h e = h ∙ sym (ap (λ (us : List Use). old ++ us) e)

pub adds_two : (old mid new : List Use) (fs gs : List Finding) → Adds old mid fs → Adds mid new gs → Adds old new (fs ++ gs)
adds_two old mid new fs gs h k =
    k ∙ ap (λ (us : List Use). us ++ uses_of gs) h ∙ append_assoc old (uses_of fs) (uses_of gs) ∙ sym (ap (λ (us : List Use). old ++ us) (uses_both fs gs))

-- ---- after a call

pub then_so : {T E P Q : Type 0} (r : Result T E) → OnOk r P → (P → Q) → OnOk r Q
then_so r h f = on_ok_weaker r f h
