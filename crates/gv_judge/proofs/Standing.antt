-- Where a node stands after each move.
use Rattle.std.proofs.Common.{◌≡◌, ◌↔◌, ℕ, ◌+◌, ◌<◌, Bool, true, false, cond, eqb, List, [], ◌∷◌, ◌++◌, length, Option, Some, None, Ok, Err, refl, sym, ap, subst, ◌∙◌, arith, inl, inr, append-nil}
use Rattle.std.specs.Prelude.{IsTrue}
use Rattle.gv_terms.specs.declared.value.Value.{Value}
use Rattle.gv_terms.specs.Values.{value_eq}
use Rattle.gv_terms.proofs.Equality.{value_eq_decides}
use Rattle.gv_atomic.specs.declared.spec.Spec.{Spec}
use Rattle.gv_spec.specs.Entry as entry
use Rattle.gv_spec.specs.Move as move
use Rattle.gv_spec.specs.Entry.{Entry}
use Rattle.gv_spec.specs.Move.{Move, entries_of}
use Rattle.gv_spec.specs.Atomic.{atomic_of}
use Rattle.gv_spec.specs.Walks.{Standing, NeverCalled, Called, Acted, Answered, Dropped, WalkState, WalkCause, Repeated, NotCalled, NotActed, WrongReply, BadChoice, first_walk, entered, dropped, walk_called, walk_acted, walk_answered, booted_to, acted_to, walk_moved}
use Rattle.gv_judge.specs.declared.calls.Waiting.{Waiting}
use Rattle.gv_judge.specs.declared.node.Node.{Node}
use Rattle.gv_judge.specs.SearchLaws.{IsIn}
use Rattle.gv_judge.specs.Calls.{waiting_under, kept_under, put_in, taken_out, kept_without, AreCalls, numbers_called}
use Rattle.gv_judge.specs.Node.{to_do, to_answer, StandsAt, Takes}
use Rattle.gv_judge.proofs.Members.{in_left, in_right, in_either}
use Rattle.gv_judge.proofs.CallLists.{by_test, put_under, put_calls, taken_under, taken_calls, kept_last, without_under, numbers_append}

abbrev Walk : Type 0
Walk = WalkState (List Value) Value

-- ---- what a standing tells

some_same : {A : Type 0} (x y : A) → Some x ≡ Some y → x ≡ y
some_same x y e = cc

pub does : (c : Standing Value) (op : ℕ) (args : List Value) → to_do c ≡ Some (op, args) → c ≡ Called op args
does (Called o vs) op args e = ap (λ (p : ℕ × List Value). Called p.0 p.1) (some_same {A = ℕ × List Value} (o, vs) (op, args) e)
does NeverCalled op args e = absurd (let clash = e in cc)
does (Acted reply) op args e = absurd (let clash = e in cc)
does Answered op args e = absurd (let clash = e in cc)
does Dropped op args e = absurd (let clash = e in cc)

answers : (c : Standing Value) (reply : Value) → to_answer c ≡ Some reply → c ≡ Acted reply
answers (Acted r) reply e = cc
answers NeverCalled reply e = absurd (let clash = e in cc)
answers (Called op args) reply e = absurd (let clash = e in cc)
answers Answered reply e = absurd (let clash = e in cc)
answers Dropped reply e = absurd (let clash = e in cc)

-- the table after an entry, asked with a function of standings
asked : {A : Type 0} (ask : Standing Value → A) (t : ℕ → Standing Value) (n : ℕ) (c : Standing Value) (k : ℕ) → ask (entered t n c k) ≡ cond (eqb k n) (ask c) (ask (t k))
asked ask t n c k = by_test k n (λ b. ask (cond b c (t k)) ≡ cond b (ask c) (ask (t k))) (λ _. refl) (λ _. refl)

-- where the answer was the same already
unasked : {A : Type 0} (ask : Standing Value → A) (t : ℕ → Standing Value) (n : ℕ) (c : Standing Value) (k : ℕ) → ask c ≡ ask (t n) → ask (entered t n c k) ≡ ask (t k)
unasked ask t n c k h = by_test k n (λ b. ask (cond b c (t k)) ≡ ask (t k)) (λ e. h ∙ ap (λ m. ask (t m)) (sym e)) (λ _. refl)

-- ---- the numbers of one entry more

long_last : (es : List (Entry Value)) (e : Entry Value) → length (es ++ e ∷ []) ≡ length es + 1
long_last [] e = omega arith
long_last (x ∷ es) e = (let rest = long_last es e in omega (arith, rest))

module _ (before : List (Entry Value)) (n op : ℕ) (args : List Value) (k : ℕ) where
  called_split : IsIn k (numbers_called (before ++ entry.Call n op args ∷ [])) → IsIn k (numbers_called before ++ n ∷ [])
  called_split i = subst (IsIn k) (numbers_append before (entry.Call n op args ∷ [])) i

  called_first : IsIn k (numbers_called before) → IsIn k (numbers_called (before ++ entry.Call n op args ∷ []))
  called_first i = subst (IsIn k) (sym (numbers_append before (entry.Call n op args ∷ []))) (in_left k (numbers_called before) (n ∷ []) i)

  called_last : k ≡ n → IsIn k (numbers_called (before ++ entry.Call n op args ∷ []))
  called_last e = subst (IsIn k) (sym (numbers_append before (entry.Call n op args ∷ []))) (in_right k (numbers_called before) (n ∷ []) (inl e))

-- an entry without a number
unnumbered : (before : List (Entry Value)) (e : Entry Value) → numbers_called (e ∷ []) ≡ [] → numbers_called (before ++ e ∷ []) ≡ numbers_called before
unnumbered before e none = numbers_append before (e ∷ []) ∙ ap (λ l. numbers_called before ++ l) none ∙ append-nil (numbers_called before)

fresh_still : {A : Type 0} (ns ms : List ℕ) (k : ℕ) → ns ≡ ms → (A ↔ (IsIn k ms → ⊥)) → A ↔ (IsIn k ns → ⊥)
fresh_still {A} ns ms k e h = subst (λ l. A ↔ (IsIn k l → ⊥)) (sym e) h

never_dropped : (c : Standing Value) → (dropped c ≡ NeverCalled) ↔ (c ≡ NeverCalled)
never_dropped NeverCalled = ((λ h. h), (λ h. h))
never_dropped (Called op args) = ((λ h. absurd (let clash = h in cc)), (λ h. absurd (let clash = h in cc)))
never_dropped (Acted reply) = ((λ h. absurd (let clash = h in cc)), (λ h. absurd (let clash = h in cc)))
never_dropped Answered = ((λ h. h), (λ h. h))
never_dropped Dropped = ((λ h. h), (λ h. h))

nothing_to_do : (c : Standing Value) → to_do (dropped c) ≡ None
nothing_to_do NeverCalled = refl
nothing_to_do (Called op args) = refl
nothing_to_do (Acted reply) = refl
nothing_to_do Answered = refl
nothing_to_do Dropped = refl

nothing_to_answer : (c : Standing Value) → to_answer (dropped c) ≡ None
nothing_to_answer NeverCalled = refl
nothing_to_answer (Called op args) = refl
nothing_to_answer (Acted reply) = refl
nothing_to_answer Answered = refl
nothing_to_answer Dropped = refl

-- ---- the first node

pub first_stands : (s : Spec) (n : Node) → n.fields.values ≡ (atomic_of s).first_fields → n.waiting.items ≡ [] → n.acted.items ≡ [] → n.place ≡ 0
    → StandsAt s [] n (first_walk (atomic_of s))
first_stands s n fields waiting acted place = record {
  fields = sym fields;
  waiting = λ k. ap (λ l. waiting_under l k) (sym waiting);
  kept = λ k. ap (λ l. kept_under l k) (sym acted);
  ready = subst (AreCalls (length s.ops) 0) (sym waiting) tt;
  fresh = λ k. ((λ _ h. h), (λ _. refl));
  place = place;
}

module _ (s : Spec) (before : List (Entry Value)) (n new : Node) (w : Walk) (stands : StandsAt s before n w) where
  -- ---- a call

  pub call_refused : (k op : ℕ) (args : List Value) → IsIn k (numbers_called before) → Takes s before w (move.Other (entry.Call k op args)) None
  call_refused k op args called = go (w.table k) (λ e. (stands.fresh k).0 e called)
    where
      go : (c : Standing Value) → (c ≡ NeverCalled → ⊥) → (cause : WalkCause) × (walk_called (atomic_of s) w k op args c ≡ Err cause)
      go NeverCalled h = absurd (h refl)
      go (Called o vs) h = (Repeated, refl)
      go (Acted reply) h = (Repeated, refl)
      go Answered h = (Repeated, refl)
      go Dropped h = (Repeated, refl)

  pub call_taken : (c : Waiting) → (IsIn c.number (numbers_called before) → ⊥) → c.op < length s.ops → new.fields ≡ n.fields → new.waiting.items ≡ put_in c n.waiting.items
      → new.acted.items ≡ n.acted.items → new.place ≡ n.place + 1 → Takes s before w (move.Other (entry.Call c.number c.op c.args.now)) (Some new)
  call_taken c free op fields waiting acted place =
      let never = (stands.fresh c.number).1 free in
      let table = entered w.table c.number (Called c.op c.args.now) in
      let none : waiting_under n.waiting.items c.number ≡ None = sym (stands.waiting c.number) ∙ ap to_do never in (
        record w { table = entered w.table c.number (Called c.op c.args.now) },
        ap (walk_called (atomic_of s) w c.number c.op c.args.now) never,
        record {
          fields = stands.fields ∙ ap (λ f. f.values) (sym fields);
          waiting = λ k. asked to_do w.table c.number (Called c.op c.args.now) k
              ∙ ap (cond (eqb k c.number) (Some (c.op, c.args.now))) (stands.waiting k)
              ∙ sym (put_under c n.waiting.items k none) ∙ ap (λ l. waiting_under l k) (sym waiting);
          kept = λ k. unasked to_answer w.table c.number (Called c.op c.args.now) k (ap to_answer (sym never)) ∙ stands.kept k ∙ ap (λ l. kept_under l k) (sym acted);
          ready = subst (AreCalls (length s.ops) 0) (sym waiting) (put_calls (length s.ops) 0 c n.waiting.items stands.ready (omega arith) op none);
          fresh = λ k. by_test k c.number (λ b. (cond b (Called c.op c.args.now) (w.table k) ≡ NeverCalled) ↔ (IsIn k (numbers_called (before ++ entry.Call c.number c.op c.args.now ∷ [])) → ⊥))
              (λ e. ((λ h. absurd (let clash = h in cc)), (λ h. absurd (h (called_last before c.number c.op c.args.now k e)))))
              (λ d. (
                (λ h i. elim (in_either k (numbers_called before) (c.number ∷ []) (called_split before c.number c.op c.args.now k i)) [
                  | inl j ↦ (stands.fresh k).0 h j
                  | inr (inl j) ↦ d j
                  | inr (inr j) ↦ j
                ]),
                (λ h. (stands.fresh k).1 (λ i. h (called_first before c.number c.op c.args.now k i))),
              ));
          place = place ∙ (let p = stands.place in let long = long_last before (entry.Call c.number c.op c.args.now) in omega (arith, p, long));
        },
      )

  -- ---- an answer

  -- the entry leaves the table as it is but for a call that waits no more and was called
  entered_fresh : (m : ℕ) (c : Standing Value) → (c ≡ NeverCalled → ⊥) → (w.table m ≡ NeverCalled → ⊥) → (k : ℕ) → (entered w.table m c k ≡ NeverCalled) ↔ (w.table k ≡ NeverCalled)
  entered_fresh m c other used k = by_test k m (λ b. (cond b c (w.table k) ≡ NeverCalled) ↔ (w.table k ≡ NeverCalled))
      (λ e. ((λ h. absurd (other h)), (λ h. absurd (used (ap w.table (sym e) ∙ h)))))
      (λ d. ((λ h. h), (λ h. h)))

  both_ways : {A B C : Type 0} → A ↔ B → B ↔ C → A ↔ C
  both_ways f g = ((λ a. g.0 (f.0 a)), (λ c. f.1 (g.1 c)))

  pub answer_unkept : (k : ℕ) (reply : Value) → kept_under n.acted.items k ≡ None → Takes s before w (move.Other (entry.Answer k reply)) None
  answer_unkept k reply none = go (w.table k) (stands.kept k ∙ none)
    where
      go : (c : Standing Value) → to_answer c ≡ None → (cause : WalkCause) × (walk_answered (atomic_of s) w k reply c ≡ Err cause)
      go NeverCalled h = (NotCalled, refl)
      go (Called o vs) h = (NotActed, refl)
      go (Acted r) h = absurd (let clash = h in cc)
      go Answered h = (NotCalled, refl)
      go Dropped h = (NotCalled, refl)

  answered_so : (k : ℕ) (reply kept : Value) (b : Bool) → kept_under n.acted.items k ≡ Some kept → value_eq reply kept ≡ b
      → walk_moved (atomic_of s) w (move.Other (entry.Answer k reply)) ≡ cond b (Ok (record w { table = entered w.table k Answered })) (Err WrongReply)
  answered_so k reply kept b e same =
      let acted : w.table k ≡ Acted kept = answers (w.table k) kept (stands.kept k ∙ e) in
      ap (walk_answered (atomic_of s) w k reply) acted ∙ ap (λ c. cond c (Ok (record w { table = entered w.table k Answered })) (Err WrongReply)) same

  pub answer_wrong : (k : ℕ) (reply kept : Value) → kept_under n.acted.items k ≡ Some kept → (reply ≡ kept → ⊥) → Takes s before w (move.Other (entry.Answer k reply)) None
  answer_wrong k reply kept e wrong = (WrongReply, answered_so k reply kept false e (no (value_eq reply kept) (λ h. wrong ((value_eq_decides reply kept).0 h))))
    where
      no : (b : Bool) → (IsTrue b → ⊥) → b ≡ false
      no true h = absurd (h refl)
      no false h = refl

  pub answer_taken : (k : ℕ) (reply kept : Value) → kept_under n.acted.items k ≡ Some kept → reply ≡ kept → new.fields ≡ n.fields → new.waiting.items ≡ n.waiting.items
      → new.acted.items ≡ kept_without k n.acted.items → new.place ≡ n.place + 1 → Takes s before w (move.Other (entry.Answer k reply)) (Some new)
  answer_taken k reply kept e same fields waiting acted place =
      let stood : w.table k ≡ Acted kept = answers (w.table k) kept (stands.kept k ∙ e) in (
        record w { table = entered w.table k Answered },
        answered_so k reply kept true e (yes (value_eq reply kept) ((value_eq_decides reply kept).1 same)),
        record {
          fields = stands.fields ∙ ap (λ f. f.values) (sym fields);
          waiting = λ j. unasked to_do w.table k Answered j (ap to_do (sym stood)) ∙ stands.waiting j ∙ ap (λ l. waiting_under l j) (sym waiting);
          kept = λ j. asked to_answer w.table k Answered j ∙ ap (cond (eqb j k) None) (stands.kept j) ∙ sym (without_under k n.acted.items j) ∙ ap (λ l. kept_under l j) (sym acted);
          ready = subst (AreCalls (length s.ops) 0) (sym waiting) stands.ready;
          fresh = λ j. fresh_still (numbers_called (before ++ entry.Answer k reply ∷ [])) (numbers_called before) j (unnumbered before (entry.Answer k reply) refl)
              (both_ways (entered_fresh k Answered (λ h. (let clash = h in cc)) (λ h. (let clash = sym stood ∙ h in cc)) j) (stands.fresh j));
          place = place ∙ (let p = stands.place in let long = long_last before (entry.Answer k reply) in omega (arith, p, long));
        },
      )
    where
      yes : (b : Bool) → IsTrue b → b ≡ true
      yes b h = h

  -- ---- a crash and a boot

  pub crash_taken : new.fields ≡ n.fields → new.waiting.items ≡ n.waiting.items → new.acted.items ≡ n.acted.items → new.place ≡ n.place + 1
      → Takes s before w (move.Other entry.Crash) (Some new)
  crash_taken fields waiting acted place = (
    w,
    refl,
    record {
      fields = stands.fields ∙ ap (λ f. f.values) (sym fields);
      waiting = λ j. stands.waiting j ∙ ap (λ l. waiting_under l j) (sym waiting);
      kept = λ j. stands.kept j ∙ ap (λ l. kept_under l j) (sym acted);
      ready = subst (AreCalls (length s.ops) 0) (sym waiting) stands.ready;
      fresh = λ j. fresh_still (numbers_called (before ++ entry.Crash ∷ [])) (numbers_called before) j (unnumbered before entry.Crash refl) (stands.fresh j);
      place = place ∙ (let p = stands.place in let long = long_last before entry.Crash in omega (arith, p, long));
    },
  )

  pub boot_refused : (choices : List ℕ) → (atomic_of s).crashed choices n.fields.values ≡ None → Takes s before w (move.Boot choices) None
  boot_refused choices e = (BadChoice, ap (λ f. booted_to (atomic_of s) w ((atomic_of s).crashed choices f)) stands.fields ∙ ap (booted_to (atomic_of s) w) e)

  pub boot_taken : (choices : List ℕ) → (atomic_of s).crashed choices n.fields.values ≡ Some new.fields.values → new.waiting.items ≡ [] → new.acted.items ≡ [] → new.place ≡ n.place + 1
      → Takes s before w (move.Boot choices) (Some new)
  boot_taken choices e waiting acted place = (
    record { fields = new.fields.values; table = λ j. dropped (w.table j) },
    ap (λ f. booted_to (atomic_of s) w ((atomic_of s).crashed choices f)) stands.fields ∙ ap (booted_to (atomic_of s) w) e,
    record {
      fields = refl;
      waiting = λ j. nothing_to_do (w.table j) ∙ ap (λ l. waiting_under l j) (sym waiting);
      kept = λ j. nothing_to_answer (w.table j) ∙ ap (λ l. kept_under l j) (sym acted);
      ready = subst (AreCalls (length s.ops) 0) (sym waiting) tt;
      fresh = λ j. fresh_still (numbers_called (before ++ entry.Boot ∷ [])) (numbers_called before) j (unnumbered before entry.Boot refl) (both_ways (never_dropped (w.table j)) (stands.fresh j));
      place = place ∙ (let p = stands.place in let long = long_last before entry.Boot in omega (arith, p, long));
    },
  )

  -- ---- an act

  acted_so : (c : Waiting) (choices : List ℕ) (o : Option (List Value × Value)) → waiting_under n.waiting.items c.number ≡ Some (c.op, c.args.now)
      → (atomic_of s).applied c.op c.args.now choices n.fields.values ≡ o → walk_moved (atomic_of s) w (move.Act c.number choices) ≡ acted_to (atomic_of s) w c.number o
  acted_so c choices o waits e =
      let stood : w.table c.number ≡ Called c.op c.args.now = does (w.table c.number) c.op c.args.now (stands.waiting c.number ∙ waits) in
      ap (walk_acted (atomic_of s) w c.number choices) stood
      ∙ ap (λ f. acted_to (atomic_of s) w c.number ((atomic_of s).applied c.op c.args.now choices f)) stands.fields ∙ ap (acted_to (atomic_of s) w c.number) e

  pub act_refused : (c : Waiting) (choices : List ℕ) → waiting_under n.waiting.items c.number ≡ Some (c.op, c.args.now)
      → (atomic_of s).applied c.op c.args.now choices n.fields.values ≡ None → Takes s before w (move.Act c.number choices) None
  act_refused c choices waits e = (BadChoice, acted_so c choices None waits e)

  pub act_taken : (c : Waiting) (choices : List ℕ) (reply : Value) → waiting_under n.waiting.items c.number ≡ Some (c.op, c.args.now)
      → (atomic_of s).applied c.op c.args.now choices n.fields.values ≡ Some (new.fields.values, reply) → new.waiting.items ≡ taken_out c.number n.waiting.items
      → new.acted.items ≡ n.acted.items ++ (record { number = c.number; reply = reply }) ∷ [] → new.place ≡ n.place → Takes s before w (move.Act c.number choices) (Some new)
  act_taken c choices reply waits e waiting acted place =
      let stood : w.table c.number ≡ Called c.op c.args.now = does (w.table c.number) c.op c.args.now (stands.waiting c.number ∙ waits) in
      let none : kept_under n.acted.items c.number ≡ None = sym (stands.kept c.number) ∙ ap to_answer stood in (
        record { fields = new.fields.values; table = entered w.table c.number (Acted reply) },
        acted_so c choices (Some (new.fields.values, reply)) waits e,
        record {
          fields = refl;
          waiting = λ j. asked to_do w.table c.number (Acted reply) j ∙ ap (cond (eqb j c.number) None) (stands.waiting j)
              ∙ sym (taken_under c.number n.waiting.items j) ∙ ap (λ l. waiting_under l j) (sym waiting);
          kept = λ j. asked to_answer w.table c.number (Acted reply) j ∙ ap (cond (eqb j c.number) (Some reply)) (stands.kept j)
              ∙ sym (kept_last n.acted.items (record { number = c.number; reply = reply }) j none) ∙ ap (λ l. kept_under l j) (sym acted);
          ready = subst (AreCalls (length s.ops) 0) (sym waiting) (taken_calls (length s.ops) 0 c.number n.waiting.items stands.ready);
          fresh = λ j. fresh_still (numbers_called (before ++ [])) (numbers_called before) j (ap numbers_called (append-nil before))
              (both_ways (entered_fresh c.number (Acted reply) (λ h. (let clash = h in cc)) (λ h. (let clash = sym stood ∙ h in cc)) j) (stands.fresh j));
          place = place ∙ stands.place ∙ ap length (sym (append-nil before));
        },
      )
