-- The explanations of one call after a boot.
use Rattle.std.proofs.Common.{◌≡◌, ℕ, Bool, true, false, eqb, cond, List, [], ◌∷◌, Option, Some, None, Ok, Err, refl, sym, ap, subst, ◌∙◌, eqb-true}
use Rattle.gv_spec.specs.Entry as entry
use Rattle.gv_spec.specs.Move as move
use Rattle.gv_spec.specs.Entry.{Entry}
use Rattle.gv_spec.specs.Move.{Move, entries_of}
use Rattle.gv_spec.specs.Specification.{Specification}
use Rattle.gv_spec.specs.Walks.{NeverCalled, Called, Acted, Answered, WalkState, WrongReply, entered, onward, first_walk, acted_to, walk_acted, booted_to, walk_from}
use Rattle.gv_spec.specs.WalkLaws.{HasExplanation, CanReply, one_call, OneCallReplies}

module _ {F V : Type 0} (atomic : Specification F V) (op : ℕ) (args : List V) (reply : V) where
  -- the walk after the boot, after the call and after the act of call n
  abbrev at_boot : F → WalkState F V
  at_boot booted = record { fields = booted; table = λ n. NeverCalled }

  abbrev at_call : F → WalkState F V
  at_call booted = record { fields = booted; table = entered (λ n. NeverCalled) 1 (Called op args) }

  abbrev at_act : F → F → V → ℕ → WalkState F V
  at_act booted fields kept n = record { fields = fields; table = entered (at_call booted).table n (Acted kept) }

  -- the act of the call
  record Acts (booted : F) : Type 0 where
    choices : List ℕ
    fields : F
    replies : atomic.applied op args choices booted ≡ Some (fields, reply)

  from_act : (booted fields : F) (kept : V) (moves : List (Move V)) (end : WalkState F V) → entries_of moves ≡ entry.Answer 1 reply ∷ [] → walk_from atomic (at_act booted fields kept 1) moves ≡ Ok end → reply ≡ kept
  from_act booted fields kept [] end e p = absurd cc
  from_act booted fields kept (move.Act n choices ∷ moves) end e p = again (eqb n 1) p
    where
      again : (t : Bool) → onward (λ next. walk_from atomic next moves) (walk_acted atomic (at_act booted fields kept 1) n choices (cond t (Acted kept) (cond t (Called op args) NeverCalled))) ≡ Ok end → reply ≡ kept
      again true q = absurd cc
      again false q = absurd cc
  from_act booted fields kept (move.Boot choices ∷ moves) end e p = absurd cc
  from_act booted fields kept (move.Other m ∷ moves) end e p =
      let is : m ≡ entry.Answer 1 reply = cc in
      answers (atomic.same reply kept) (λ t. (atomic.decides reply kept).0 t) (subst (λ x. walk_from atomic (at_act booted fields kept 1) (move.Other x ∷ moves) ≡ Ok end) is p)
    where
      answers : (t : Bool) → (t ≡ true → reply ≡ kept)
          → onward (λ next. walk_from atomic next moves) (cond t (Ok (record (at_act booted fields kept 1) { table = entered (at_act booted fields kept 1).table 1 Answered })) (Err WrongReply)) ≡ Ok end → reply ≡ kept
      answers true same q = same refl
      answers false same q = absurd cc

  from_call : (booted : F) (moves : List (Move V)) (end : WalkState F V) → entries_of moves ≡ entry.Answer 1 reply ∷ [] → walk_from atomic (at_call booted) moves ≡ Ok end → Acts booted
  from_call booted [] end e p = absurd cc
  from_call booted (move.Act n choices ∷ moves) end e p = acts (eqb n 1) refl p
    where
      reaches : n ≡ 1 → (o : Option (F × V)) → atomic.applied op args choices booted ≡ o → onward (λ next. walk_from atomic next moves) (acted_to atomic (at_call booted) n o) ≡ Ok end → Acts booted
      reaches one None f q = absurd cc
      reaches one (Some (fields, kept)) f q =
          let same : reply ≡ kept = from_act booted fields kept moves end e (subst (λ k. walk_from atomic (at_act booted fields kept k) moves ≡ Ok end) one q) in
          record { choices = choices; fields = fields; replies = f ∙ ap (λ z. Some (fields, z)) (sym same) }

      acts : (t : Bool) → eqb n 1 ≡ t → onward (λ next. walk_from atomic next moves) (walk_acted atomic (at_call booted) n choices (cond t (Called op args) NeverCalled)) ≡ Ok end → Acts booted
      acts true f q = reaches (eqb-true n 1 f) (atomic.applied op args choices booted) refl q
      acts false f q = absurd cc
  from_call booted (move.Boot choices ∷ moves) end e p = absurd cc
  from_call booted (move.Other m ∷ moves) end e p =
      let is : m ≡ entry.Answer 1 reply = cc in
      let q = subst (λ x. walk_from atomic (at_call booted) (move.Other x ∷ moves) ≡ Ok end) is p in
      absurd cc

  from_boot : (booted : F) (moves : List (Move V)) (end : WalkState F V) → entries_of moves ≡ entry.Call 1 op args ∷ entry.Answer 1 reply ∷ [] → walk_from atomic (at_boot booted) moves ≡ Ok end → Acts booted
  from_boot booted [] end e p = absurd cc
  from_boot booted (move.Act n choices ∷ moves) end e p = absurd cc
  from_boot booted (move.Boot choices ∷ moves) end e p = absurd cc
  from_boot booted (move.Other m ∷ moves) end e p =
      let is : m ≡ entry.Call 1 op args = cc in
      let left : entries_of moves ≡ entry.Answer 1 reply ∷ [] = cc in
      from_call booted moves end left (subst (λ x. walk_from atomic (at_boot booted) (move.Other x ∷ moves) ≡ Ok end) is p)

  -- the boot that the moves begin with
  booting : (choices : List ℕ) (moves : List (Move V)) (end : WalkState F V) → entries_of moves ≡ entry.Call 1 op args ∷ entry.Answer 1 reply ∷ []
      → (o : Option F) → atomic.crashed choices atomic.first_fields ≡ o → onward (λ next. walk_from atomic next moves) (booted_to atomic (first_walk atomic) o) ≡ Ok end → CanReply atomic op args reply
  booting choices moves end e None f p = absurd cc
  booting choices moves end e (Some booted) f p =
      let acts = from_boot booted moves end e p in
      record { boot_choices = choices; booted = booted; boots = f; choices = acts.choices; fields = acts.fields; replies = acts.replies }

  from_first : (moves : List (Move V)) (end : WalkState F V) → entries_of moves ≡ one_call op args reply → walk_from atomic (first_walk atomic) moves ≡ Ok end → CanReply atomic op args reply
  from_first [] end e p = absurd cc
  from_first (move.Act n choices ∷ moves) end e p = absurd cc
  from_first (move.Boot choices ∷ moves) end e p =
      let left : entries_of moves ≡ entry.Call 1 op args ∷ entry.Answer 1 reply ∷ [] = cc in
      booting choices moves end left (atomic.crashed choices atomic.first_fields) refl p
  from_first (move.Other m ∷ moves) end e p =
      let is : m ≡ entry.Boot = cc in
      let left : entries_of moves ≡ entry.Call 1 op args ∷ entry.Answer 1 reply ∷ [] = cc in
      booting [] moves end left (atomic.crashed [] atomic.first_fields) refl (subst (λ x. walk_from atomic (first_walk atomic) (move.Other x ∷ moves) ≡ Ok end) is p)

  explained : CanReply atomic op args reply → HasExplanation atomic (one_call op args reply)
  explained can =
      let same : atomic.same reply reply ≡ true = (atomic.decides reply reply).1 refl in
      let acted = at_act can.booted can.fields reply 1 in
      let moves = move.Boot can.boot_choices ∷ move.Other (entry.Call 1 op args) ∷ move.Act 1 can.choices ∷ move.Other (entry.Answer 1 reply) ∷ [] in (
        moves,
        record {
          entries = refl;
          end = record acted { table = entered acted.table 1 Answered };
          passes = rw (can.boots, can.replies, same) refl;
        },
      )

pub one_call_replies : (F V : Type 0) → OneCallReplies F V
one_call_replies F V atomic op args reply = ((λ found. from_first atomic op args reply found.0 found.1.end found.1.entries found.1.passes), explained atomic op args reply)
