-- Resources are told apart, and what the piece of one has.
use Rattle.std.proofs.Common.{◌≡◌, ◌≢◌, ℕ, ◌<◌, ◌≤◌, ◌⊎◌, inl, inr, Bool, true, false, ◌&&◌, nat_eq, if◌then◌else◌, List, refl, sym, ap, arith, subst, ◌∙◌}
use Rattle.std.specs.Bool.{Decides}
use Rattle.std.proofs.lemmas.Slice.Eq.{slice_eq-Decides}
use Rattle.gv_terms.specs.declared.value.Value.{Value}
use Rattle.gv_terms.proofs.Equality.{value_eq_decides}
use Rattle.gv_resources.specs.Kinds.{Kind, Cell, FrozenCell, Item, FrozenItem, Map, Mutex, Held, Lock, Master, Lease, Down, Field, FieldLease, BookMaster, BookLease, Token, Done, Half, OpenCall, Recovering, code_of, kind_eq}
use Rattle.gv_resources.specs.Pieces.{Resource, Have, Piece, values_eq, same_resource, single}
use Rattle.gv_resources.specs.Laws.{SingleLaw}

-- a test that decides an equation
abbrev pub Tells : {A : Type 0} → A → A → Bool → Type 0
Tells a b test = ((a ≡ b) × (test ≡ true)) ⊎ ((a ≢ b) × (test ≡ false))

nat_tells : (m n : ℕ) → Tells m n (nat_eq m n)
nat_tells m n = grind arith

-- ---- kinds

kind_at : ℕ → Kind
kind_at n =
    if nat_eq n 0 then Cell else
    if nat_eq n 1 then FrozenCell else
    if nat_eq n 2 then Item else
    if nat_eq n 3 then FrozenItem else
    if nat_eq n 4 then Map else
    if nat_eq n 5 then Mutex else
    if nat_eq n 6 then Held else
    if nat_eq n 7 then Lock else
    if nat_eq n 8 then Master else
    if nat_eq n 9 then Lease else
    if nat_eq n 10 then Down else
    if nat_eq n 11 then Field else
    if nat_eq n 12 then FieldLease else
    if nat_eq n 13 then BookMaster else
    if nat_eq n 14 then BookLease else
    if nat_eq n 15 then Token else
    if nat_eq n 16 then Done else
    if nat_eq n 17 then Half else
    if nat_eq n 18 then OpenCall else
    Recovering

kind_again : (k : Kind) → kind_at (code_of k) ≡ k
unfolding kind_at
kind_again Cell = refl
kind_again FrozenCell = refl
kind_again Item = refl
kind_again FrozenItem = refl
kind_again Map = refl
kind_again Mutex = refl
kind_again Held = refl
kind_again Lock = refl
kind_again Master = refl
kind_again Lease = refl
kind_again Down = refl
kind_again Field = refl
kind_again FieldLease = refl
kind_again BookMaster = refl
kind_again BookLease = refl
kind_again Token = refl
kind_again Done = refl
kind_again Half = refl
kind_again OpenCall = refl
kind_again Recovering = refl

pub kind_tells : (k l : Kind) → Tells k l (kind_eq k l)
kind_tells k l =
    elim (nat_tells (code_of k) (code_of l)) [
      | inl (e, t) ↦ inl (sym (kind_again k) ∙ ap kind_at e ∙ kind_again l, t)
      | inr (ne, t) ↦ inr (λ e. ne (ap code_of e), t)
    ]

-- ---- values

from_decides : {A : Type 0} (a b : A) (test : Bool) → Decides test (a ≡ b) → Tells a b test
from_decides a b true d = inl (d.0 refl, refl)
from_decides a b false d = inr (λ e. (let t : false ≡ true = d.1 e in cc), refl)

pub values_tell : (xs ys : List Value) → Tells xs ys (values_eq xs ys)
values_tell xs ys = from_decides xs ys (values_eq xs ys) (slice_eq-Decides value_eq_decides xs ys (values_eq xs ys) refl)

-- ---- resources

three : (k l : Kind) (key other v u : List Value) (a b c : Bool) → Tells k l a → Tells key other b → Tells v u c
    → Tells (Have k key v) (Have l other u) (a && (b && c))
three k l key other v u a b c x y z = grind arith

resource_tells : (e one : Resource) → Tells e one (same_resource e one)
resource_tells (Have k key v) (Have l other u) =
    three k l key other v u (kind_eq k l) (values_eq key other) (values_eq v u) (kind_tells k l) (values_tell key other) (values_tell v u)

-- once where the test holds
counts : Bool → ℕ
counts test = if test then 1 else 0

counted : (e one : Resource) (test : Bool) → Tells e one test → ((e ≡ one) × (counts test ≡ 1)) ⊎ ((e ≢ one) × (counts test ≡ 0))
unfolding counts
counted e one test (inl (same, t)) = inl (same, rw t refl)
counted e one test (inr (other, t)) = inr (other, rw t refl)

pub single_test : SingleLaw
unfolding single counts
single_test one e = counted e one (same_resource e one) (resource_tells e one)

pub single_same : (one : Resource) → single one one ≡ 1
single_same one = elim (single_test one one) [ inl (e, t) ↦ t | inr (ne, t) ↦ absurd (ne refl) ]

pub single_most : (one e : Resource) → single one e ≤ 1
single_most one e = elim (single_test one e) [ inl (q, t) ↦ omega arith | inr (q, t) ↦ omega arith ]

-- a piece that has a resource is at least the piece of it alone
pub single_within : (one : Resource) (p : Piece) → 0 < p one → (e : Resource) → single one e ≤ p e
single_within one p h e =
    elim (single_test one e) [ inl (q, t) ↦ (let low : 0 < p e = subst (λ x. 0 < p x) (sym q) h in omega arith) | inr (q, t) ↦ omega arith ]
