-- The row of an act: a call's operation happens, all at once.
use Rattle.std.specs.Prelude.{◌≡◌, ◌≢◌, ◌⊎◌, ℕ, suc, Bool, true, false, ◌||◌, List, [], ◌∷◌, ◌++◌, Some, map, length, slice_get, nat_eq}
use Rattle.gv_terms.specs.declared.sort.Sort.{Sort}
use Rattle.gv_terms.specs.declared.sort.Sort.TheVariants as sort
use Rattle.gv_terms.specs.declared.tree.TermTree.{TermTree}
use Rattle.gv_terms.specs.declared.value.Env.{Env}
use Rattle.gv_terms.specs.declared.value.Value.{Value}
use Rattle.gv_terms.specs.declared.value.Value.TheVariants as val
use Rattle.gv_terms.specs.Trees.{sort_of, value_under}
use Rattle.gv_resources.specs.Kinds as kind
use Rattle.gv_resources.specs.Ghost.{Owned, Sharing}
use Rattle.gv_assertions.specs.Atoms.{Atom, Owns}
use Rattle.gv_terms.specs.Ranges.{IsValuation}
use Rattle.gv_assertions.specs.Standing.{AreTrueUnder, valued, number_under}
use Rattle.gv_seats.specs.Paths.{Path, Closed, number}
use Rattle.gv_seats.specs.Seats.{Proof}
use Rattle.gv_giving.specs.Rows.{TakesAll}

-- an assertion, and what it becomes
pub record Became : Type 0 where
  pub old : Atom
  pub new : Atom

-- some assertions become others, each in its place
pub data Renews : List Atom → List Atom → List Became → Type 0 where
  renews_none : Renews [] [] []
  stays : {a : Atom} {all after : List Atom} {became : List Became} → Renews all after became → Renews (a ∷ all) (a ∷ after) became
  becomes : {b : Became} {all after : List Atom} {became : List Became} → Renews all after became → Renews (b.old ∷ all) (b.new ∷ after) (b ∷ became)

-- ---- what an act changes

abbrev pub field_atom : ℕ → TermTree → Atom
field_atom place t = Owns kind.Field (number place ∷ []) (t ∷ [])

abbrev pub lease_atom : ℕ → TermTree → Atom
lease_atom place t = Owns kind.FieldLease (number place ∷ []) (t ∷ [])

-- each field from a place on, with its old value and its new one
abbrev pub fields_become : ℕ → List TermTree → List TermTree → List Became
fields_become place [] news = []
fields_become place (t ∷ olds) [] = []
fields_become place (t ∷ olds) (u ∷ news) = record { old = field_atom place t; new = field_atom place u } ∷ fields_become (suc place) olds news

-- a leased field's lease, with its old value and its new one
pub record Leased : Type 0 where
  pub place : ℕ
  pub old : TermTree
  pub new : TermTree

abbrev pub leases_become : List Leased → List Became
leases_become [] = []
leases_become (l ∷ leases) = record { old = lease_atom l.place l.old; new = lease_atom l.place l.new } ∷ leases_become leases

abbrev pub token_becomes : (call : TermTree) → (operation : ℕ) → (args reply : List TermTree) → Became
token_becomes call operation args reply = record { old = Owns kind.Token (call ∷ []) (number operation ∷ args); new = Owns kind.Done (call ∷ []) reply }

-- one term, or none where the operation replies nothing
pub data IsReply : List TermTree → Type 0 where
  no_reply : IsReply []
  a_reply : {t : TermTree} {s : Sort} → sort_of t ≡ Some s → IsReply (t ∷ [])

abbrev pub reply_under : Env → List TermTree → Value
reply_under env [] = val.Unit
reply_under env (t ∷ ts) = value_under env t

-- whether the lease of a field is among these
abbrev pub is_listed : List Leased → ℕ → Bool
is_listed [] place = false
is_listed (l ∷ leases) place = nat_eq l.place place || is_listed leases place

abbrev pub AreOnce : List Leased → Type 0
AreOnce [] = Unit {0}
AreOnce (l ∷ leases) = (is_listed leases l.place ≡ false) × AreOnce leases

-- each lease gets its field's new value
abbrev pub GetNews : List TermTree → List Leased → Type 0
GetNews news [] = Unit {0}
GetNews news (l ∷ leases) = (slice_get news l.place ≡ Some l.new) × GetNews news leases

-- the operation has this effect wherever the path's facts are true
abbrev pub Does : Proof → Path → ℕ → (args choices olds news reply : List TermTree) → Type 0
Does o h operation args choices olds news reply = (env : Env) → IsValuation env → AreTrueUnder env h.facts
    → o.atomic.applied operation (valued env args) (map (number_under env) choices) (valued env olds) ≡ Some (valued env news, reply_under env reply)

-- a leased field whose lease isn't listed keeps its value
abbrev pub KeepsOthers : Proof → Path → (olds news : List TermTree) → List Leased → Type 0
KeepsOthers o h olds news leases = (place : ℕ) (t u : TermTree) → slice_get o.leased place ≡ Some true → is_listed leases place ≡ false → slice_get olds place ≡ Some t
    → slice_get news place ≡ Some u → (env : Env) → IsValuation env → AreTrueUnder env h.facts → value_under env u ≡ value_under env t

abbrev pub call_number : Value → ℕ
call_number (val.Call n) = n
call_number _ = 0

-- sim c with choices: in own mode, or where the crash invariant is opened, the token, all fields, and the leases of those that change
pub data Acts (o : Proof) (h : Path) : TermTree → List TermTree → Path → Type 0 where
  acts : (call : TermTree) (operation : ℕ) (args choices olds news reply : List TermTree) (leases : List Leased) (became : List Became) (after : List Atom)
      → h.booted ≡ false → h.mode ≢ Sharing → (h.mode ≡ Owned) ⊎ (h.bracket ≢ Closed) → sort_of call ≡ Some sort.Call → IsReply reply
      → length olds ≡ length o.leased → length news ≡ length olds → AreOnce leases → GetNews news leases
      → Does o h operation args choices olds news reply → KeepsOthers o h olds news leases
      → Renews h.atoms after became → TakesAll became (token_becomes call operation args reply ∷ (fields_become 0 olds news ++ leases_become leases)) []
      → Acts o h call choices (record h { atoms = after })
