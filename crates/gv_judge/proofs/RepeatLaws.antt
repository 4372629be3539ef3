-- What is told of the entries of a history, one after another.
use Rattle.std.proofs.Common.{◌≡◌, ◌↔◌, ◌⊎◌, ℕ, ◌+◌, ◌-◌, ◌<◌, ◌≤◌, zero, suc, Bool, true, false, cond, nat_eq, List, [], ◌∷◌, ◌++◌, map, take, drop, get_or, length, Some, refl, sym, ap, subst, ◌∙◌, arith, inl, inr, append_assoc, append-nil}
use Rattle.std.specs.Prelude.{slice_get, not, ◌||◌, IsTrue}
use Rattle.std.specs.List.{list_any}
use Rattle.std.proofs.lemmas.Option.{slice_get-get_or}
use Rattle.indexmap.specs.IndexSet.{insert_key}
use Rattle.gv_terms.specs.declared.value.Value.{Value}
use Rattle.gv_spec.specs.declared.entry.Entry as held_entry
use Rattle.gv_spec.specs.declared.entry.Entry.TheVariants as held
use Rattle.gv_spec.specs.Entry.{Entry}
use Rattle.gv_spec.specs.History.{entry_of}
use Rattle.gv_judge.specs.SearchLaws.{IsIn}
use Rattle.gv_judge.specs.Calls.{numbers_called}
use Rattle.gv_judge.specs.Repeats.{IsRepeat, AreSeen, AreRepeats}
use Rattle.gv_judge.proofs.CallLists.{by_test, numbers_append}
use Rattle.gv_judge.proofs.Later.{map_append}
use Rattle.gv_judge.proofs.Members.{in_left, in_right, in_either}

-- a number is one of these where a test finds it
in_any : (n : ℕ) (xs : List ℕ) → IsIn n xs ↔ IsTrue (list_any (nat_eq n) xs)
in_any n [] = ((λ h. absurd h), (λ h. absurd (let clash = h in cc)))
in_any n (x ∷ xs) = by_test n x (λ b. IsIn n (x ∷ xs) ↔ IsTrue (b || list_any (nat_eq n) xs))
    (λ e. ((λ _. refl), (λ _. inl e)))
    (λ d. ((λ h. elim h [ inl e ↦ absurd (d e) | inr i ↦ (in_any n xs).0 i ]), (λ h. inr ((in_any n xs).1 h))))

pub call_told : (n : ℕ) (seen : List ℕ) (is_new : Bool) → is_new ≡ not (list_any (nat_eq n) seen) → IsTrue (not is_new) ↔ IsIn n seen
call_told n seen is_new e = go (list_any (nat_eq n) seen) is_new e (in_any n seen)
  where
    go : (found is_new : Bool) → is_new ≡ not found → IsIn n seen ↔ IsTrue found → IsTrue (not is_new) ↔ IsIn n seen
    go true is_new e h = ((λ _. h.1 refl), (λ _. ap not e))
    go false is_new e h = ((λ t. absurd (let clash = sym t ∙ ap not e in cc)), (λ i. absurd (let clash = h.0 i in cc)))

numbers_more : (before : List held_entry.Entry) (e : held_entry.Entry)
    → numbers_called (map entry_of (before ++ e ∷ [])) ≡ numbers_called (map entry_of before) ++ numbers_called (entry_of e ∷ [])
numbers_more before e = ap numbers_called (map_append entry_of before (e ∷ [])) ∙ numbers_append (map entry_of before) (entry_of e ∷ [])

-- a call's number is seen then
pub call_seen : (before : List held_entry.Entry) (number op : ℕ) (args : List Value) (seen new : List ℕ) → new ≡ insert_key nat_eq seen number → AreSeen before seen
    → AreSeen (before ++ held.Call number op args ∷ []) new
call_seen before number op args seen new is h n =
    subst (λ ns. IsIn n new ↔ IsIn n ns) (sym (numbers_more before (held.Call number op args))) (go (list_any (nat_eq number) seen) (in_any number seen) is)
  where
    go : (found : Bool) → IsIn number seen ↔ IsTrue found → new ≡ cond found seen (seen ++ number ∷ []) → IsIn n new ↔ IsIn n (numbers_called (map entry_of before) ++ number ∷ [])
    go true old e = subst (λ ks. IsIn n ks ↔ IsIn n (numbers_called (map entry_of before) ++ number ∷ [])) (sym e) (
      (λ i. in_left n (numbers_called (map entry_of before)) (number ∷ []) ((h n).0 i)),
      (λ i. elim (in_either n (numbers_called (map entry_of before)) (number ∷ []) i) [
        | inl j ↦ (h n).1 j
        | inr (inl same) ↦ subst (λ k. IsIn k seen) (sym same) (old.1 refl)
        | inr (inr none) ↦ absurd none
      ]),
    )
    go false old e = subst (λ ks. IsIn n ks ↔ IsIn n (numbers_called (map entry_of before) ++ number ∷ [])) (sym e) (
      (λ i. elim (in_either n seen (number ∷ []) i) [
        | inl j ↦ in_left n (numbers_called (map entry_of before)) (number ∷ []) ((h n).0 j)
        | inr j ↦ in_right n (numbers_called (map entry_of before)) (number ∷ []) j
      ]),
      (λ i. elim (in_either n (numbers_called (map entry_of before)) (number ∷ []) i) [
        | inl j ↦ in_left n seen (number ∷ []) ((h n).1 j)
        | inr j ↦ in_right n seen (number ∷ []) j
      ]),
    )

-- an entry without a number leaves them
pub other_seen : (before : List held_entry.Entry) (e : held_entry.Entry) (seen : List ℕ) → numbers_called (entry_of e ∷ []) ≡ [] → AreSeen before seen → AreSeen (before ++ e ∷ []) seen
other_seen before e seen none h n =
    subst (λ ns. IsIn n seen ↔ IsIn n ns) (sym (numbers_more before e ∙ ap (λ l. numbers_called (map entry_of before) ++ l) none ∙ append-nil (numbers_called (map entry_of before)))) (h n)

-- ---- one entry more

long_last : {A : Type 0} (xs : List A) (x : A) → length (xs ++ x ∷ []) ≡ length xs + 1
long_last [] x = omega arith
long_last (y ∷ xs) x = (let rest = long_last xs x in omega (arith, rest))

within : {A : Type 0} (xs : List A) (k : ℕ) (y : A) → slice_get xs k ≡ Some y → k < length xs
within [] zero y e = absurd (let clash = e in cc)
within [] (suc k) y e = absurd (let clash = e in cc)
within (x ∷ xs) zero y e = omega arith
within (x ∷ xs) (suc k) y e = (let rest = within xs k y e in omega (arith, rest))

-- what stands at a place of a list with one item more
got_last : {A : Type 0} (xs : List A) (x : A) (k : ℕ) (y : A) → slice_get (xs ++ x ∷ []) k ≡ Some y → (slice_get xs k ≡ Some y) ⊎ ((k ≡ length xs) × (x ≡ y))
got_last [] x zero y e = inr (refl, cc)
got_last [] x (suc zero) y e = absurd (let clash = e in cc)
got_last [] x (suc (suc k)) y e = absurd (let clash = e in cc)
got_last (z ∷ xs) x zero y e = inl e
got_last (z ∷ xs) x (suc k) y e = elim (got_last xs x k y e) [
  | inl h ↦ inl h
  | inr h ↦ inr (ap suc h.0, h.1)
]

taken_last : {A : Type 0} (xs : List A) (x : A) (k : ℕ) → k < length xs → take k (xs ++ x ∷ []) ≡ take k xs
taken_last [] x k lt = absurd (omega (arith, lt))
taken_last (z ∷ xs) x zero lt = refl
taken_last (z ∷ xs) x (suc k) lt = ap (λ l. z ∷ l) (taken_last xs x k (omega (arith, lt)))

taken_all : {A : Type 0} (xs : List A) (x : A) → take (length xs) (xs ++ x ∷ []) ≡ xs
taken_all [] x = refl
taken_all (z ∷ xs) x = ap (λ l. z ∷ l) (taken_all xs x)

pub one_told : (done : List held_entry.Entry) (told : List Bool) (e : held_entry.Entry) (b : Bool) → AreRepeats done told → IsTrue b ↔ IsRepeat done e
    → AreRepeats (done ++ e ∷ []) (told ++ b ∷ [])
one_told done told e b h new = record {
  count = (let a = long_last done e in let c = long_last told b in let same = h.count in omega (arith, a, c, same));
  each = λ k f c at bt. go k f c (got_last done e k f at) (got_last told b k c bt);
}
  where
    go : (k : ℕ) (f : held_entry.Entry) (c : Bool) → (slice_get done k ≡ Some f) ⊎ ((k ≡ length done) × (e ≡ f)) → (slice_get told k ≡ Some c) ⊎ ((k ≡ length told) × (b ≡ c))
        → IsTrue c ↔ IsRepeat (take k (done ++ e ∷ [])) f
    go k f c (inl at) (inl bt) = subst (λ l. IsTrue c ↔ IsRepeat l f) (sym (taken_last done e k (within done k f at))) (h.each k f c at bt)
    go k f c (inl at) (inr bt) = absurd (let lt = within done k f at in let long = bt.0 in let same = h.count in omega (arith, lt, long, same))
    go k f c (inr at) (inl bt) = absurd (let lt = within told k c bt in let long = at.0 in let same = h.count in omega (arith, lt, long, same))
    go k f c (inr at) (inr bt) =
        subst (λ x. IsTrue c ↔ IsRepeat (take k (done ++ e ∷ [])) x) at.1
        (subst (λ x. IsTrue x ↔ IsRepeat (take k (done ++ e ∷ [])) e) bt.1
        (subst (λ l. IsTrue b ↔ IsRepeat l e) (sym (ap (λ i. take i (done ++ e ∷ [])) at.0 ∙ taken_all done e)) new))

-- ---- the entries that are told, and those that are left

head_and_rest : (xs : List held_entry.Entry) (x : held_entry.Entry) → 1 ≤ length xs → x ≡ get_or xs 0 x → xs ≡ x ∷ take (length xs - 1) (drop 1 xs)
head_and_rest [] x le e = absurd (omega (arith, le))
head_and_rest (y ∷ xs) x le e =
    let long : length (y ∷ xs) - 1 ≡ length xs = omega arith in
    ap (λ z. z ∷ xs) (sym e) ∙ ap (λ l. x ∷ l) (sym (ap (λ k. take k xs) long ∙ taken_whole xs))
  where
    taken_whole : (ys : List held_entry.Entry) → take (length ys) ys ≡ ys
    taken_whole [] = refl
    taken_whole (y ∷ ys) = ap (λ l. y ∷ l) (taken_whole ys)

pub record HasTold (history left : List held_entry.Entry) (seen : List ℕ) (told : List Bool) : Type 0 where
  pub done : List held_entry.Entry
  pub order : history ≡ done ++ left
  pub repeats : AreRepeats done told
  pub numbers : AreSeen done seen

pub none_told : (history : List held_entry.Entry) (seen : List ℕ) (told : List Bool) → seen ≡ [] → told ≡ [] → HasTold history history seen told
none_told history seen told none empty = record {
  done = [];
  order = refl;
  repeats = record {
    count = ap length empty;
    each = λ k e b at bt. absurd (let clash = within [] k e at in omega (arith, clash));
  };
  numbers = λ n. subst (λ l. IsIn n l ↔ ⊥) (sym none) ((λ h. h), (λ h. h));
}

pub more_told : (history left : List held_entry.Entry) (seen new : List ℕ) (told more : List Bool) (e : held_entry.Entry) (b : Bool) → HasTold history left seen told → 1 ≤ length left → e ≡ get_or left 0 e
    → ((before : List held_entry.Entry) → AreSeen before seen → IsTrue b ↔ IsRepeat before e) → ((before : List held_entry.Entry) → AreSeen before seen → AreSeen (before ++ e ∷ []) new)
    → more ≡ told ++ b ∷ [] → HasTold history (take (length left - 1) (drop 1 left)) new more
more_told history left seen new told more e b h le first tells sees is = record {
  done = h.done ++ e ∷ [];
  order = h.order ∙ ap (λ l. h.done ++ l) (head_and_rest left e le first) ∙ sym (append_assoc h.done (e ∷ []) (take (length left - 1) (drop 1 left)));
  repeats = subst (AreRepeats (h.done ++ e ∷ [])) (sym is) (one_told h.done told e b h.repeats (tells h.done h.numbers));
  numbers = sees h.done h.numbers;
}

pub all_told : (history left : List held_entry.Entry) (seen : List ℕ) (told : List Bool) → HasTold history left seen told → left ≡ [] → AreRepeats history told
all_told history left seen told h none = subst (λ l. AreRepeats l told) (sym (h.order ∙ ap (λ l. h.done ++ l) none ∙ append-nil h.done)) h.repeats

-- ---- what is told of a call at its place

pub told_there : (history : List held_entry.Entry) (told : List Bool) (k number op : ℕ) (args : List Value) (before : List (Entry Value)) → AreRepeats history told
    → slice_get history k ≡ Some (held.Call number op args) → before ≡ map entry_of (take k history) → IsTrue (get_or told k false) ↔ IsIn number (numbers_called before)
told_there history told k number op args before h at is =
    let among : k < length told = (let lt = within history k (held.Call number op args) at in let same = h.count in omega (arith, lt, same)) in
    subst (λ es. IsTrue (get_or told k false) ↔ IsIn number (numbers_called es)) (sym is)
    (h.each k (held.Call number op args) (get_or told k false) at (slice_get-get_or told k false among))

-- ---- one entry, as it is read

pub call_repeats : (e : held_entry.Entry) (number op : ℕ) (args : List Value) (seen : List ℕ) (is_new : Bool) → e ≡ held.Call number op args → is_new ≡ not (list_any (nat_eq number) seen)
    → (before : List held_entry.Entry) → AreSeen before seen → IsTrue (not is_new) ↔ IsRepeat before e
call_repeats e number op args seen is_new is added before h =
    let found = call_told number seen is_new added in
    subst (λ x. IsTrue (not is_new) ↔ IsRepeat before x) (sym is) ((λ t. (h number).0 (found.0 t)), (λ i. found.1 ((h number).1 i)))

pub call_numbers : (e : held_entry.Entry) (number op : ℕ) (args : List Value) (seen new : List ℕ) → e ≡ held.Call number op args → new ≡ insert_key nat_eq seen number
    → (before : List held_entry.Entry) → AreSeen before seen → AreSeen (before ++ e ∷ []) new
call_numbers e number op args seen new is keys before h =
    subst (λ x. AreSeen (before ++ x ∷ []) new) (sym is) (call_seen before number op args seen new keys h)

pub other_repeats : (e : held_entry.Entry) → ((number op : ℕ) (args : List Value) → e ≡ held.Call number op args → ⊥) → (before : List held_entry.Entry) → IsTrue false ↔ IsRepeat before e
other_repeats (held.Call number op args) isnt before = absurd (isnt number op args refl)
other_repeats (held.Answer number reply) isnt before = ((λ h. absurd (let clash = h in cc)), (λ h. absurd h))
other_repeats held.Crash isnt before = ((λ h. absurd (let clash = h in cc)), (λ h. absurd h))
other_repeats held.Boot isnt before = ((λ h. absurd (let clash = h in cc)), (λ h. absurd h))

pub other_numbers : (e : held_entry.Entry) → ((number op : ℕ) (args : List Value) → e ≡ held.Call number op args → ⊥) → (seen : List ℕ) (before : List held_entry.Entry)
    → AreSeen before seen → AreSeen (before ++ e ∷ []) seen
other_numbers (held.Call number op args) isnt seen before h = absurd (isnt number op args refl)
other_numbers (held.Answer number reply) isnt seen before h = other_seen before (held.Answer number reply) seen refl h
other_numbers held.Crash isnt seen before h = other_seen before held.Crash seen refl h
other_numbers held.Boot isnt seen before h = other_seen before held.Boot seen refl h
