-- A call acts: its token, the fields and their leases.
use Rattle.std.proofs.Common.{◌≡◌, ℕ, zero, suc, ◌+◌, ◌<◌, ◌≤◌, ◌⊎◌, inl, inr, Bool, true, false, ◌||◌, nat_eq, List, [], ◌∷◌, length, Some, refl, sym, ap, subst, ◌∙◌, arith}
use Rattle.std.specs.Prelude.{slice_get}
use Rattle.gv_terms.specs.declared.tree.TermTree.{TermTree}
use Rattle.gv_terms.specs.declared.value.Env.{Env}
use Rattle.gv_terms.specs.declared.value.Value.{Value}
use Rattle.gv_terms.specs.declared.value.Value.TheVariants as val
use Rattle.gv_terms.specs.Trees.{value_under}
use Rattle.gv_terms.specs.declared.operator.Operator.TheVariants as op
use Rattle.gv_terms.proofs.Valued.{value_apply}
use Rattle.gv_resources.specs.Kinds as kind
use Rattle.gv_resources.specs.Kinds.{Kind}
use Rattle.gv_resources.specs.Pieces.{Resource, Have, Piece, single}
use Rattle.gv_resources.specs.Told.{one}
use Rattle.gv_resources.proofs.Equality.{single_test, single_same}
use Rattle.gv_resources.proofs.Sums.{number_test}
use Rattle.gv_assertions.specs.Atoms.{Owns, Predicate}
use Rattle.gv_assertions.specs.Standing.{StandsFor, StandForAll, owns, both, none, owned_key}
use Rattle.gv_seats.specs.Paths.{number}
use Rattle.gv_acting.specs.Acts.{fields_become, Leased, leases_become, is_listed, AreOnce, GetNews}
use Rattle.gv_acting.proofs.Renewing.{olds_of, news_of}

-- ---- the new resources, each once

abbrev pub fields_piece : Env → ℕ → List TermTree → Piece
fields_piece env place [] e = 0
fields_piece env place (t ∷ ts) e = single (Have kind.Field (val.Word place ∷ []) (value_under env t ∷ [])) e + fields_piece env (suc place) ts e

abbrev pub leases_piece : Env → List Leased → Piece
leases_piece env [] e = 0
leases_piece env (l ∷ leases) e = single (Have kind.FieldLease (val.Word l.place ∷ []) (value_under env l.new ∷ [])) e + leases_piece env leases e

pub record FieldIn (env : Env) (place : ℕ) (ts : List TermTree) (e : Resource) : Type 0 where
  pub i : ℕ
  pub t : TermTree
  pub there_is : slice_get ts i ≡ Some t
  pub is : e ≡ Have kind.Field (val.Word (place + i) ∷ []) (value_under env t ∷ [])

field_once : (place other : ℕ) (v u : List Value) → Have kind.Field (val.Word place ∷ []) v ≡ Have kind.Field (val.Word other ∷ []) u → place ≡ other
field_once place other v u e = cc

at_start : (n : ℕ) → n ≡ n + 0
at_start n = omega arith

moved_on : (n i : ℕ) → suc n + i ≡ n + suc i
moved_on n i = omega arith

pub fields_in : (env : Env) (place : ℕ) (ts : List TermTree) (e : Resource) → (FieldIn env place ts e × (fields_piece env place ts e ≡ 1)) ⊎ (fields_piece env place ts e ≡ 0)
fields_in env place [] e = inr refl
fields_in env place (t ∷ ts) e = elim (single_test (Have kind.Field (val.Word place ∷ []) (value_under env t ∷ [])) e) [
  | inl (same, once) ↦ elim (fields_in env (suc place) ts e) [
    | inl (f, count) ↦ absurd (let twice = field_once place (suc place + f.i) _ _ (sym same ∙ f.is) in omega arith)
    | inr none_left ↦ inl (record { i = 0; t = t; there_is = refl; is = same ∙ ap (λ (n : ℕ). Have kind.Field (val.Word n ∷ []) (value_under env t ∷ [])) (at_start place) }, omega arith)
  ]
  | inr (other, none_here) ↦ elim (fields_in env (suc place) ts e) [
    | inl (f, count) ↦ inl (record { i = suc f.i; t = f.t; there_is = f.there_is; is = f.is ∙ ap (λ (n : ℕ). Have kind.Field (val.Word n ∷ []) (value_under env f.t ∷ [])) (moved_on place f.i) }, omega arith)
    | inr none_left ↦ inr (omega arith)
  ]
]

-- what is said of each lease
abbrev pub EachLease : (Leased → Type 0) → List Leased → Type 0
EachLease P [] = Unit {0}
EachLease P (l ∷ leases) = P l × EachLease P leases

pub record LeaseIn (P : Leased → Type 0) (env : Env) (leases : List Leased) (e : Resource) : Type 0 where
  pub l : Leased
  pub holds : P l
  pub listed : is_listed leases l.place ≡ true
  pub is : e ≡ Have kind.FieldLease (val.Word l.place ∷ []) (value_under env l.new ∷ [])

lease_once : (place other : ℕ) (v u : List Value) → Have kind.FieldLease (val.Word place ∷ []) v ≡ Have kind.FieldLease (val.Word other ∷ []) u → place ≡ other
lease_once place other v u e = cc

listed_here : (place : ℕ) (rest : Bool) → (nat_eq place place || rest) ≡ true
listed_here place rest = grind arith

listed_later : (a b : Bool) → b ≡ true → (a || b) ≡ true
listed_later true b e = refl
listed_later false b e = e

pub leases_in : (P : Leased → Type 0) (env : Env) (leases : List Leased) (e : Resource) → AreOnce leases → EachLease P leases
    → (LeaseIn P env leases e × (leases_piece env leases e ≡ 1)) ⊎ (leases_piece env leases e ≡ 0)
leases_in P env [] e once each = inr refl
leases_in P env (l ∷ leases) e once each = elim (single_test (Have kind.FieldLease (val.Word l.place ∷ []) (value_under env l.new ∷ [])) e) [
  | inl (same, count) ↦ elim (leases_in P env leases e once.1 each.1) [
    | inl (f, more) ↦ absurd (twice l.place f.l.place (lease_once l.place f.l.place _ _ (sym same ∙ f.is)) f.listed once.0)
    | inr none_left ↦ inl (record { l = l; holds = each.0; listed = listed_here l.place (is_listed leases l.place); is = same }, omega arith)
  ]
  | inr (other, none_here) ↦ elim (leases_in P env leases e once.1 each.1) [
    | inl (f, more) ↦ inl (record { l = f.l; holds = f.holds; listed = listed_later (nat_eq l.place f.l.place) (is_listed leases f.l.place) f.listed; is = f.is }, omega arith)
    | inr none_left ↦ inr (omega arith)
  ]
]
  where
    twice : (a b : ℕ) → a ≡ b → is_listed leases b ≡ true → is_listed leases a ≡ false → ⊥
    twice a b e yes_it no_it = let both : true ≡ false = sym yes_it ∙ ap (is_listed leases) (sym e) ∙ no_it in cc

-- a listed place is that of one of them
pub listed_has : (P : Leased → Type 0) (leases : List Leased) (place : ℕ) → EachLease P leases → is_listed leases place ≡ true → (l : Leased) × P l × (l.place ≡ place)
listed_has P [] place each e = absurd cc
listed_has P (l ∷ leases) place each e = elim (number_test l.place place) [
  | inl (same, t) ↦ (l, each.0, same)
  | inr (ne, t) ↦ listed_has P leases place each.1 (sym (ap (λ (b : Bool). b || is_listed leases place) t) ∙ e)
]

-- ---- what is given up is there, and what comes stands

pub number_is : (env : Env) (n : ℕ) → value_under env (number n) ≡ val.Word n
number_is env n = value_apply env (op.Number n) []

owned_at : {preds : List Predicate} {env : Env} {place : ℕ} {t : TermTree} {p : Piece} (k : Kind) → ((x : List Value) → owned_key k x ≡ x) → StandsFor preds env (Owns k (number place ∷ []) (t ∷ [])) p
    → 0 < p (Have k (val.Word place ∷ []) (value_under env t ∷ []))
owned_at {env = env} {place = place} {t = t} {p = p} k plain_key (owns has) =
    subst (λ (x : Value). 0 < p (Have k (x ∷ []) (value_under env t ∷ []))) (number_is env place)
    (subst (λ (x : List Value). 0 < p (Have k x (value_under env t ∷ []))) (plain_key (value_under env (number place) ∷ [])) has)

stands_at : (preds : List Predicate) (env : Env) (place : ℕ) (t : TermTree) (k : Kind) → ((x : List Value) → x ≡ owned_key k x)
    → StandsFor preds env (Owns k (number place ∷ []) (t ∷ [])) (single (Have k (val.Word place ∷ []) (value_under env t ∷ [])))
stands_at preds env place t k plain_key =
    let it : Resource = Have k (val.Word place ∷ []) (value_under env t ∷ []) in
    owns (subst (λ (x : List Value). 0 < single it (Have k x (value_under env t ∷ []))) (plain_key (value_under env (number place) ∷ []))
    (subst (λ (x : Value). 0 < single it (Have k (x ∷ []) (value_under env t ∷ []))) (sym (number_is env place)) (let s = single_same it in omega arith)))

pub fields_have : (preds : List Predicate) (env : Env) (place : ℕ) (olds news : List TermTree) (q : Piece) → length news ≡ length olds
    → StandForAll preds env (olds_of (fields_become place olds news)) q → (i : ℕ) (t : TermTree) → slice_get olds i ≡ Some t
    → 0 < q (Have kind.Field (val.Word (place + i) ∷ []) (value_under env t ∷ []))
fields_have preds env place [] news q long s i t e = absurd cc
fields_have preds env place (o ∷ olds) [] q long s i t e = absurd (omega (arith, long))
fields_have preds env place (o ∷ olds) (u ∷ news) q long (both one more split a s) zero t e =
    let same : o ≡ t = cc in
    let has : 0 < one (Have kind.Field (val.Word place ∷ []) (value_under env t ∷ [])) =
    subst (λ (x : TermTree). 0 < one (Have kind.Field (val.Word place ∷ []) (value_under env x ∷ []))) same (owned_at kind.Field (λ x. refl) a) in
    let l = split (Have kind.Field (val.Word place ∷ []) (value_under env t ∷ [])) in
    let found : 0 < q (Have kind.Field (val.Word place ∷ []) (value_under env t ∷ [])) = omega arith in
    subst (λ (n : ℕ). 0 < q (Have kind.Field (val.Word n ∷ []) (value_under env t ∷ []))) (at_start place) found
fields_have preds env place (o ∷ olds) (u ∷ news) q long (both one more split a s) (suc i) t e =
    let has = fields_have preds env (suc place) olds news more (omega (arith, long)) s i t e in
    let l = split (Have kind.Field (val.Word (suc place + i) ∷ []) (value_under env t ∷ [])) in
    let found : 0 < q (Have kind.Field (val.Word (suc place + i) ∷ []) (value_under env t ∷ [])) = omega arith in
    subst (λ (n : ℕ). 0 < q (Have kind.Field (val.Word n ∷ []) (value_under env t ∷ []))) (moved_on place i) found

pub fields_stand : (preds : List Predicate) (env : Env) (place : ℕ) (olds news : List TermTree) → length news ≡ length olds
    → StandForAll preds env (news_of (fields_become place olds news)) (fields_piece env place news)
fields_stand preds env place [] [] long = none
fields_stand preds env place [] (u ∷ news) long = none
fields_stand preds env place (o ∷ olds) [] long = none
fields_stand preds env place (o ∷ olds) (u ∷ news) long =
    both (single (Have kind.Field (val.Word place ∷ []) (value_under env u ∷ []))) (fields_piece env (suc place) news) (λ e. omega arith) (stands_at preds env place u kind.Field (λ x. refl))
    (fields_stand preds env (suc place) olds news (omega (arith, long)))

-- of each lease: it gets its field's new value, and is there
abbrev pub IsGiven : Env → List TermTree → Piece → Leased → Type 0
IsGiven env news q l = (slice_get news l.place ≡ Some l.new) × (0 < q (Have kind.FieldLease (val.Word l.place ∷ []) (value_under env l.old ∷ [])))

pub more_given : (env : Env) (news : List TermTree) (q r : Piece) (leases : List Leased) → ((e : Resource) → q e ≤ r e) → EachLease (IsGiven env news q) leases → EachLease (IsGiven env news r) leases
more_given env news q r [] le each = tt
more_given env news q r (l ∷ leases) le each =
    ((each.0.0, (let m = le (Have kind.FieldLease (val.Word l.place ∷ []) (value_under env l.old ∷ [])) in let h = each.0.1 in omega arith)), more_given env news q r leases le each.1)

pub leases_have : (preds : List Predicate) (env : Env) (news : List TermTree) (leases : List Leased) (q : Piece) → GetNews news leases
    → StandForAll preds env (olds_of (leases_become leases)) q → EachLease (IsGiven env news q) leases
leases_have preds env news [] q get s = tt
leases_have preds env news (l ∷ leases) q get (both one more split a s) = (
  (get.0, (let has = owned_at kind.FieldLease (λ x. refl) a in let m = split (Have kind.FieldLease (val.Word l.place ∷ []) (value_under env l.old ∷ [])) in omega arith)),
  more_given env news more q leases (λ e. let m = split e in omega arith) (leases_have preds env news leases more get.1 s),
)

pub leases_stand : (preds : List Predicate) (env : Env) (leases : List Leased) → StandForAll preds env (news_of (leases_become leases)) (leases_piece env leases)
leases_stand preds env [] = none
leases_stand preds env (l ∷ leases) =
    both (single (Have kind.FieldLease (val.Word l.place ∷ []) (value_under env l.new ∷ []))) (leases_piece env leases) (λ e. omega arith) (stands_at preds env l.place l.new kind.FieldLease (λ x. refl))
    (leases_stand preds env leases)
