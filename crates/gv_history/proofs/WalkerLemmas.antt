-- Entries as the program compares them, replies, and the operations of the calls under way.
use Rattle.std.proofs.Common.{◌≡◌, ◌↔◌, ℕ, ◌<◌, ◌≤◌, Bool, true, false, cond, IsTrue, List, [], ◌∷◌, length, get_or, map, arith, Option, Some, None, Result, Ok, Err, refl, sym, ap, subst, ◌∙◌, inl, inr}
use Rattle.std.specs.Prelude.{slice_get, IsErrAnd}
use Rattle.std.proofs.lemmas.Option.{slice_get_within}
use Rattle.gv_terms.specs.declared.value.Value.{Value}
use Rattle.gv_atomic.specs.declared.spec.Op.{Op}
use Rattle.gv_atomic.specs.declared.spec.Spec.{Spec}
use Rattle.gv_terms.specs.Values.{value_eq}
use Rattle.gv_terms.proofs.Equality.{value_eq_decides}
use Rattle.gv_spec.specs.declared.entry.Entry as held
use Rattle.gv_spec.specs.declared.entry.Entry.TheVariants as held_entry
use Rattle.gv_spec.specs.declared.explanation.Move as held_move_type
use Rattle.gv_spec.specs.declared.explanation.Move.TheVariants as held_move
use Rattle.gv_spec.specs.Atomic.{atomic_of, are_args, are_args_of}
use Rattle.gv_spec.specs.Entry.{Entry, same_entry}
use Rattle.gv_spec.specs.Move.{shown}
use Rattle.gv_spec.specs.History.{entry_of, move_of, IsMoveOf}
use Rattle.gv_spec.specs.Walks.{Standing, Called, Acted, Answered, WalkState, WalkCause, Order, WrongReply, entered, walk_answered, walk_moved, in_order, moved_beside}
use Rattle.gv_spec.proofs.WalkLaws.{own_entry, entries_same, Walked, by_call, by_act, by_answer, by_crash, by_boot, by_plain_boot, moved_walked, entered_cases, undropped_called, called_same}
use Rattle.gv_history.specs.declared.fault.WalkFault.{WalkFault}
use Rattle.gv_history.specs.Fault.{IsRefused, Follows}
use Rattle.gv_history.specs.Walker.{HasOps}

same_held : (a b : held.Entry) → entry_of a ≡ entry_of b → a ≡ b
same_held (held_entry.Call n op args) (held_entry.Call m other values) h = cc
same_held (held_entry.Answer n reply) (held_entry.Answer m value) h = cc
same_held held_entry.Crash held_entry.Crash h = refl
same_held held_entry.Boot held_entry.Boot h = refl
same_held _ _ h = absurd cc

-- equality of the program's entries is the definitions' test
pub same_told : (a b : held.Entry) (r : Bool) → (IsTrue r ↔ (a ≡ b)) → r ≡ same_entry value_eq (entry_of a) (entry_of b)
same_told a b r d = go r (same_entry value_eq (entry_of a) (entry_of b)) refl d
  where
    go : (s t : Bool) → same_entry value_eq (entry_of a) (entry_of b) ≡ t → (IsTrue s ↔ (a ≡ b)) → s ≡ t
    go true true e h = refl
    go false false e h = refl
    go true false e h =
        let same : a ≡ b = h.0 refl in
        let own : same_entry value_eq (entry_of a) (entry_of b) ≡ true = subst (λ x. same_entry value_eq (entry_of a) (entry_of x) ≡ true) same (own_entry value_eq value_eq_decides (entry_of a)) in
        absurd (let clash = sym own ∙ e in cc)
    go false true e h = absurd (let clash = h.1 (same_held a b (entries_same value_eq value_eq_decides (entry_of a) (entry_of b) e)) in cc)

-- the call's reply is compared with the one that its act kept
module _ (s : Spec) (w : WalkState (List Value) Value) (n : ℕ) (reply kept : Value) (c : Standing Value) where
  pub right_reply : c ≡ Acted kept → reply ≡ kept → walk_answered (atomic_of s) w n reply c ≡ Ok (record w { table = entered w.table n Answered })
  right_reply stood same = let test : value_eq reply kept ≡ true = (value_eq_decides reply kept).1 same in rw (stood, test) refl

  pub wrong_reply : c ≡ Acted kept → (reply ≡ kept → ⊥) → walk_answered (atomic_of s) w n reply c ≡ Err WrongReply
  wrong_reply stood other = go (value_eq reply kept) refl
    where
      go : (b : Bool) → value_eq reply kept ≡ b → walk_answered (atomic_of s) w n reply c ≡ Err WrongReply
      go true e = absurd (other ((value_eq_decides reply kept).0 e))
      go false e = rw (stood, e) refl

-- a refusal that is handed on
pub refused_on : {A W : Type 0} (index : ℕ) (r : Result A WalkFault) (e : WalkFault) (moved : Result W WalkCause) (after : W) → IsErrAnd r (λ x. x ≡ e) → IsRefused index moved e → Follows index r moved after
refused_on index (Ok a) e moved after is h = absurd is
refused_on index (Err x) e moved after is h = subst (λ y. IsRefused index moved y) (sym is) h

abbrev pub stood : List Value → (ℕ → Standing Value) → Result (WalkState (List Value) Value) WalkCause
stood fields table = Ok (record { fields = fields; table = table })

-- the walk by its fields and its table
pub stood_same : (f g : List Value) (t u : ℕ → Standing Value) → f ≡ g → t ≡ u → stood f t ≡ stood g u
stood_same f g t u p q = ap (λ x. stood x t) p ∙ ap (λ x. stood g x) q

-- a call of the specification is of one of its operations
op_within : (s : Spec) (op : ℕ) (args : List Value) → IsTrue (are_args s op args) → op < length s.ops
op_within s op args h = go (slice_get s.ops op) refl h
  where
    go : (o : Option Op) → slice_get s.ops op ≡ o → IsTrue (are_args_of o args) → op < length s.ops
    go None e k = absurd cc
    go (Some o) e k = slice_get_within s.ops op o e

-- the calls in the table stay of the specification's operations
walked_ops : (s : Spec) (w u : WalkState (List Value) Value) (m : held_move_type.Move) → IsMoveOf s m → HasOps s w → Walked (atomic_of s) w u (move_of m) → HasOps s u
walked_ops s w u (held_move.Act number choices) of ops (by_act k o a cs reply e f t) n op args h = elim (entered_cases w.table k (Acted reply) n) [
  | inl p ↦ absurd (let d = sym p.1 ∙ sym (ap (λ z. z n) t) ∙ h in cc)
  | inr p ↦ ops n op args (sym p ∙ sym (ap (λ z. z n) t) ∙ h)
]
walked_ops s w u (held_move.Other (held_entry.Call number o a)) of ops (by_call k p b e f t) n op args h = elim (entered_cases w.table number (Called o a) n) [
  | inl q ↦ (let same = called_same o op a args (sym q.1 ∙ sym (ap (λ z. z n) t) ∙ h) in subst (λ x. x < length s.ops) same.0 (op_within s o a of))
  | inr q ↦ ops n op args (sym q ∙ sym (ap (λ z. z n) t) ∙ h)
]
walked_ops s w u (held_move.Other (held_entry.Answer number reply)) of ops (by_answer k r e t) n op args h = elim (entered_cases w.table number Answered n) [
  | inl p ↦ absurd (let d = sym p.1 ∙ sym (ap (λ z. z n) t) ∙ h in cc)
  | inr p ↦ ops n op args (sym p ∙ sym (ap (λ z. z n) t) ∙ h)
]
walked_ops s w u (held_move.Other held_entry.Crash) of ops (by_crash t) n op args h = ops n op args (sym (ap (λ z. z n) t) ∙ h)
walked_ops s w u (held_move.Boot choices) of ops (by_boot cs t) n op args h = absurd (undropped_called (w.table n) op args (sym (ap (λ z. z n) t) ∙ h))
walked_ops s w u (held_move.Other held_entry.Boot) of ops (by_plain_boot t) n op args h = absurd (undropped_called (w.table n) op args (sym (ap (λ z. z n) t) ∙ h))

pub moved_ops : (s : Spec) (w u : WalkState (List Value) Value) (left : List (Entry Value)) (m : held_move_type.Move) → IsMoveOf s m → HasOps s w → moved_beside (atomic_of s) w left (move_of m) ≡ Ok u → HasOps s u
moved_ops s w u left m of ops e = go (in_order value_eq left (shown (move_of m))) e
  where
    go : (b : Bool) → cond b (walk_moved (atomic_of s) w (move_of m)) (Err Order) ≡ Ok u → HasOps s u
    go true h = walked_ops s w u m of ops (moved_walked (atomic_of s) w u (move_of m) h)
    go false h = absurd cc

-- the test of order at an entry
pub in_order_at : (left : List held.Entry) (e next : held.Entry) → 1 ≤ length left → next ≡ get_or left 0 next
    → in_order value_eq (map entry_of left) (Some (entry_of e)) ≡ same_entry value_eq (entry_of e) (entry_of next)
in_order_at [] e next h at = absurd (omega (arith, h))
in_order_at (x ∷ left) e next h at =
    let first : next ≡ x = at in
    ap (λ k. same_entry value_eq (entry_of e) (entry_of k)) (sym first)
