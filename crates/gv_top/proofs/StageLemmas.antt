-- What files that are told give beside what they gave: one outcome, or want of memory.
use Rattle.std.proofs.Common.{◌≡◌, ℕ, ◌≤◌, List, length, Result, Err, refl, sym, ap, subst, ◌∙◌, ◌⊎◌, inl, inr, arith}
use Rattle.gv_base.specs.Outside.{Told, Untold, Absent, Holds, Fetched}
use Rattle.gv_base.specs.Places.{place_at}
use Rattle.gv_base.specs.declared.answers.Code.{Code}
use Rattle.gv_base.specs.declared.answers.Place.{Place}
use Rattle.gv_report.specs.declared.format.Format.{Format}
use Rattle.gv_report.specs.Output.{noted}
use Rattle.gv_top.specs.declared.files.Halt.{Halt}
use Rattle.gv_top.specs.declared.files.Halt.TheVariants.{NoMemory, CannotRead, Refused}
use Rattle.gv_top.specs.Files.{Form, Asked, Reads, IsRefused, IsRefusedFor, HaltsAt, Course, Then, IsBlamed, GivesTold, IsAbsent, outside, as_told, longest}
use Rattle.gv_top.specs.Forms.{small_form, placed_form}
use Rattle.gv_top.specs.Run.{OnlyAbsentFailed}

-- ---- forms that refuse a text in one way, and no text that they read

pub record IsExact {A : Type 0} (form : Form A) : Type 0 where
  pub clash : (text : List ℕ) (x : A) (place : Place) (code : Code) → form.spells text x → form.refuses text place code → ⊥
  pub one_refusal : (text : List ℕ) (p q : Place) (c d : Code) → form.refuses text p c → form.refuses text q d → (p ≡ q) × (c ≡ d)

pub small_exact : {A : Type 0} (Spells : List ℕ → A → Type 0) → IsExact (small_form Spells)
small_exact Spells = record {
  clash = λ text x place code h k. k.2 x h;
  one_refusal = λ text p q c d h k. (h.0 ∙ sym k.0, h.1 ∙ sym k.1);
}

pub placed_exact : {A : Type 0} (Spells : List ℕ → A → Type 0) (Refuses : List ℕ → ℕ → Code → Type 0)
    → ((text : List ℕ) (x : A) (at : ℕ) (code : Code) → Spells text x → Refuses text at code → ⊥)
    → ((text : List ℕ) (m n : ℕ) (c d : Code) → Refuses text m c → Refuses text n d → (place_at text m ≡ place_at text n) × (c ≡ d)) → IsExact (placed_form Spells Refuses)
placed_exact Spells Refuses clash one = record {
  clash = λ text x place code h k. clash text x k.0 code h k.2;
  one_refusal = λ text p q c d h k. let same = one text h.0 k.0 c d h.2 k.2 in (h.1 ∙ same.0 ∙ sym k.1, same.1);
}

-- ---- one text of a name

told_same : (t : Told) (x y : List ℕ) → Fetched t longest x → GivesTold t y → x ≡ y
told_same Untold x y f g = absurd g
told_same Absent x y f g = absurd g
told_same (Holds all) x y f g = f ∙ sym g

never_fetched : (t : Told) (x : List ℕ) → IsAbsent t → Fetched t longest x → ⊥
never_fetched Untold x a f = a
never_fetched Absent x a f = f
never_fetched (Holds all) x a f = a

never_given : (t : Told) (x : List ℕ) → IsAbsent t → GivesTold t x → ⊥
never_given Untold x a g = g
never_given Absent x a g = g
never_given (Holds all) x a g = a

-- ---- one outcome at a file: what came is what is told, in its format, or want of memory

abbrev pub Same : {O : Type 0} → Result O Halt → Result O Halt → Type 0
Same o q = (o ≡ q) ⊎ (o ≡ Err NoMemory)

abbrev pub SameEnd : {O : Type 0} → Result O Halt → Format → Result O Halt → Format → Type 0
SameEnd o f q g = ((o ≡ q) × (f ≡ g)) ⊎ (o ≡ Err NoMemory)

-- where nothing more is noted
pub kept_same : {O : Type 0} (o q : Result O Halt) (before f g : Format) → f ≡ before → g ≡ before → Same o q → SameEnd o f q g
kept_same o q before f g d e (inl same) = inl (same, d ∙ sym e)
kept_same o q before f g d e (inr free) = inr free

module _ {A : Type 0} (form : Form A) (exact : IsExact form) (held : List ℕ → Told) (name : List ℕ) where
  bytes_same : (x y : List ℕ) → Fetched (held name) longest x → GivesTold (held name) y → x ≡ y
  bytes_same x y f g = told_same (held name) x y f g

  why_clash : (bytes : List ℕ) (x : A) (place : Place) (code : Code) (before after : Format) → length bytes ≤ longest → form.spells bytes x → IsRefusedFor form bytes place code before after → ⊥
  why_clash bytes x place code before after f s (inl w) = let l = w.0 in omega (arith, f, l)
  why_clash bytes x place code before after f s (inr w) = exact.clash bytes x place code s w.1

  why_one : (bytes : List ℕ) (p q : Place) (c d : Code) (before f g : Format) → IsRefusedFor form bytes p c before f → IsRefusedFor form bytes q d before g → (p ≡ q) × (c ≡ d) × (f ≡ g)
  why_one bytes p q c d before f g (inl v) (inl w) = (v.1 ∙ sym w.1, v.2 ∙ sym w.2, v.3 ∙ sym w.3)
  why_one bytes p q c d before f g (inl v) (inr w) = let l = v.0 in let few = w.0 in absurd (omega (arith, few, l))
  why_one bytes p q c d before f g (inr v) (inl w) = let l = w.0 in let few = v.0 in absurd (omega (arith, few, l))
  why_one bytes p q c d before f g (inr v) (inr w) = let same = exact.one_refusal bytes p q c d v.1 w.1 in (same.0, same.1, v.2 ∙ sym w.2)

  read_not_refused : (x : A) (place : Place) (code : Code) (before after : Format) → Reads (outside held) form name x → IsRefused (as_told held) form name place code before after → ⊥
  read_not_refused x place code before after h k =
      why_clash h.bytes x place code before after h.fits h.spelled (subst (λ (b : List ℕ). IsRefusedFor form b place code before after) (sym (bytes_same h.bytes k.bytes h.given k.given)) k.why)

  refused_not_read : (x : A) (place : Place) (code : Code) (before after : Format) → IsRefused (outside held) form name place code before after → Reads (as_told held) form name x → ⊥
  refused_not_read x place code before after h k =
      why_clash k.bytes x place code before after k.fits k.spelled (subst (λ (b : List ℕ). IsRefusedFor form b place code before after) (bytes_same h.bytes k.bytes h.given k.given) h.why)

  refused_same : (n m : List ℕ) (p q : Place) (c d : Code) (before f g : Format) → n ≡ m → IsRefused (outside held) form name p c before f → IsRefused (as_told held) form name q d before g
      → (Refused n p c ≡ Refused m q d) × (f ≡ g)
  refused_same n m p q c d before f g e h k =
      let w = subst (λ (b : List ℕ). IsRefusedFor form b p c before f) (bytes_same h.bytes k.bytes h.given k.given) h.why in
      let same = why_one k.bytes p q c d before f g w k.why in
      (ap (λ (x : List ℕ). Refused x p c) e ∙ ap (λ x. Refused m x c) same.0 ∙ ap (λ x. Refused m q x) same.1, same.2)

  read_not_halted : (x : A) (other : Halt) (before after : Format) → Reads (outside held) form name x → HaltsAt (as_told held) form name other before after → other ≡ NoMemory
  read_not_halted x NoMemory before after h k = refl
  read_not_halted x (CannotRead l) before after h k = absurd (never_fetched (held name) h.bytes k.1 h.given)
  read_not_halted x (Refused l q d) before after h k = absurd (read_not_refused x q d before after h k.1)

  module _ {O : Type 0} (a : Asked) (held_is : a.held ≡ held) (absent : OnlyAbsentFailed a) where
    -- a fetch that failed was of a file that is told as absent
    is_absent : (n : List ℕ) → n ≡ name → (o : Result O Halt) → IsBlamed a o → o ≡ Err (CannotRead n) → IsAbsent (held name)
    is_absent n e o b f =
        let failed = subst (λ (x : Result O Halt). IsBlamed a x) f b in
        subst (λ (m : List ℕ). IsAbsent (held m)) e (subst (λ (h : List ℕ → Told). IsAbsent (h n)) held_is (absent n failed))

    halted_same : (halt other : Halt) (before f g : Format) (o : Result O Halt) → IsBlamed a o → o ≡ Err halt → HaltsAt (outside held) form name halt before f
        → HaltsAt (as_told held) form name other before g → (other ≡ NoMemory → ⊥) → ((halt ≡ other) × (f ≡ g)) ⊎ (halt ≡ NoMemory)
    halted_same NoMemory other before f g o b e h k n = inr refl
    halted_same halt NoMemory before f g o b e h k n = absurd (n refl)
    halted_same (CannotRead m) (CannotRead l) before f g o b e h k n = inl (ap CannotRead (h.0 ∙ sym k.0), h.2 ∙ sym k.2)
    halted_same (CannotRead m) (Refused l q d) before f g o b e h k n = absurd (never_given (held name) k.1.bytes (is_absent m h.0 o b e) k.1.given)
    halted_same (Refused m p c) (CannotRead l) before f g o b e h k n = absurd (never_fetched (held name) h.1.bytes k.1 h.1.given)
    halted_same (Refused m p c) (Refused l q d) before f g o b e h k n = inl (refused_same m l p q c d before f g (h.0 ∙ sym k.0) h.1 k.1)

    halted_not_read : (halt : Halt) (before after : Format) (o : Result O Halt) (y : A) → IsBlamed a o → o ≡ Err halt → HaltsAt (outside held) form name halt before after
        → Reads (as_told held) form name y → halt ≡ NoMemory
    halted_not_read NoMemory before after o y b e h k = refl
    halted_not_read (CannotRead m) before after o y b e h k = absurd (never_given (held name) k.bytes (is_absent m h.0 o b e) k.given)
    halted_not_read (Refused m p c) before after o y b e h k = absurd (refused_not_read y p c before after h.1 k)

    -- both end at the file alike, or both go on with values that one text spells
    pub stage : (before f g : Format) (o q : Result O Halt) (P Q : A → Course O) → IsBlamed a o → Then (outside held) form name P before o f → Then (as_told held) form name Q before q g
        → (q ≡ Err NoMemory → ⊥)
        → ((text : List ℕ) (x y : A) (middle : Format) → form.spells text x → form.spells text y → P x middle o f → Q y middle q g → SameEnd o f q g) → SameEnd o f q g
    stage before f g o q P Q b (inl (halt, e, h)) (inl (other, d, k)) n next =
        go (halted_same halt other before f g o b e h k (λ z. n (d ∙ ap (λ (x : Halt). let r : Result O Halt = Err x in r) z)))
      where
        go : ((halt ≡ other) × (f ≡ g)) ⊎ (halt ≡ NoMemory) → SameEnd o f q g
        go (inl z) = inl (e ∙ ap (λ (x : Halt). let r : Result O Halt = Err x in r) z.0 ∙ sym d, z.1)
        go (inr z) = inr (e ∙ ap (λ (x : Halt). let r : Result O Halt = Err x in r) z)
    stage before f g o q P Q b (inl (halt, e, h)) (inr (y, reads, more)) n next =
        inr (e ∙ ap (λ (x : Halt). let r : Result O Halt = Err x in r) (halted_not_read halt before f o y b e h reads))
    stage before f g o q P Q b (inr (x, reads, more)) (inl (other, d, k)) n next =
        absurd (n (d ∙ ap (λ (x : Halt). let r : Result O Halt = Err x in r) (read_not_halted x other before g reads k)))
    stage before f g o q P Q b (inr (x, reads, more)) (inr (y, others, rest)) n next =
        let same = bytes_same reads.bytes others.bytes reads.given others.given in
        next others.bytes x y (noted before others.bytes) (subst (λ (t : List ℕ). form.spells t x) same reads.spelled) others.spelled
        (subst (λ (t : List ℕ). P x (noted before t) o f) same more) rest

    -- the same of a form whose texts spell one value
    pub stage_one : ((text : List ℕ) (x y : A) → form.spells text x → form.spells text y → x ≡ y) → (before f g : Format) (o q : Result O Halt) (P Q : A → Course O) → IsBlamed a o
        → Then (outside held) form name P before o f → Then (as_told held) form name Q before q g → (q ≡ Err NoMemory → ⊥)
        → ((x : A) (middle : Format) → P x middle o f → Q x middle q g → SameEnd o f q g) → SameEnd o f q g
    stage_one one before f g o q P Q b h k n next =
        stage before f g o q P Q b h k n (λ text x y middle s t more rest. next y middle (subst (λ z. P z middle o f) (one text x y s t) more) rest)
