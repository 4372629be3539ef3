-- Lines of a schedule, one after another.
use Rattle.std.proofs.Common.{◌≡◌, ◌⊎◌, inl, inr, ℕ, zero, suc, ◌+◌, ◌-◌, ◌<◌, ◌≤◌, Bool, true, false, List, [], ◌∷◌, ◌++◌, Option, Some, None, length, take, drop, get_or, map, replicate, sum, refl, sym, ap, subst, subst₂, ◌∙◌, arith, append_assoc, append-nil, length-append}
use Rattle.std.specs.Prelude.{slice_get, nat_lt, if◌then◌else◌}
use Rattle.std.proofs.lemmas.Bool.{lt-ltb, ltb-true}
use Rattle.std.proofs.lemmas.List.{length-replicate, take_at}
use Rattle.std.proofs.lemmas.List.Sums.{fold-append, sum-map, sum_by-cons}
use Rattle.gv_base.specs.declared.answer.Answer.{Answer}
use Rattle.gv_base.specs.declared.answer.Answer.TheVariants.{Blocked, Undefined}
use Rattle.gv_base.specs.declared.reason.Reason.{Reason}
use Rattle.gv_lang.specs.declared.program.Program.{Program}
use Rattle.gv_lang.specs.Plain.{program_of}
use Rattle.gv_terms.specs.declared.value.Value.{Value}
use Rattle.gv_atomic.specs.declared.spec.Spec.{Spec}
use Rattle.gv_spec.specs.declared.entry.Entry.{Entry}
use Rattle.gv_spec.specs.Atomic.{atomic_of}
use Rattle.gv_spec.specs.Event.{Event}
use Rattle.gv_spec.specs.History.{entry_of, event_of}
use Rattle.gv_spec.specs.Runs.{settled, unless_undefined, after, event_made, first_state}
use Rattle.gv_runs.specs.Laws.{State}
use Rattle.gv_machine.specs.Machines.{of_package}
use Rattle.gv_machine.specs.Outcomes.{leaves_too_many}
use Rattle.gv_replay.specs.declared.schedule.Line.{Line}
use Rattle.gv_played.specs.declared.line.Played.{Played}
use Rattle.gv_played.specs.Played.{events_of, place_of, run, outcome, AreWithin, IsRan, IsTooMany}
use Rattle.gv_played.specs.Playing.{from, comes, IsThrough, IsStopped, IsOver, Plays}

-- ---- lists

-- where an item of two lists stands
got : {A : Type 0} (xs ys : List A) (n : ℕ) (x : A) → slice_get (xs ++ ys) n ≡ Some x
    → ((slice_get xs n ≡ Some x) × (take n (xs ++ ys) ≡ take n xs)) ⊎ ((i : ℕ) × (slice_get ys i ≡ Some x) × (take n (xs ++ ys) ≡ xs ++ take i ys))
got [] ys n x h = inr (n, h, refl)
got (y ∷ xs) ys zero x h = inl (h, refl)
got (y ∷ xs) ys (suc n) x h =
    elim (got xs ys n x h) [
      | inl found ↦ inl (found.0, ap (λ zs. y ∷ zs) found.1)
      | inr found ↦ inr (found.0, found.1, ap (λ zs. y ∷ zs) found.2)
    ]

record IsCopy {A : Type 0} (count : ℕ) (a x : A) (i : ℕ) : Type 0 where
  some : i < count
  is : x ≡ a
  front : take i (replicate count a) ≡ replicate i a

got_copy : {A : Type 0} (count : ℕ) (a x : A) (i : ℕ) → slice_get (replicate count a) i ≡ Some x → IsCopy count a x i
got_copy zero a x i h = absurd cc
got_copy (suc c) a x zero h = record { some = omega arith; is = cc; front = refl }
got_copy (suc c) a x (suc i) h =
    let rest = got_copy c a x i h in
    record { some = omega (arith, rest.some); is = rest.is; front = ap (λ xs. a ∷ xs) rest.front }

got_first : {A : Type 0} (xs ys : List A) (x : A) → slice_get (xs ++ x ∷ ys) (length xs) ≡ Some x
got_first [] ys x = refl
got_first (y ∷ xs) ys x = got_first xs ys x

split_copies : {A : Type 0} (count before : ℕ) (a : A) → before < count → (more : List A) × (replicate count a ≡ replicate before a ++ a ∷ more)
split_copies zero before a h = absurd (omega arith)
split_copies (suc c) zero a h = (replicate c a, refl)
split_copies (suc c) (suc b) a h =
    let rest = split_copies c b a (omega arith) in
    (rest.0, ap (λ xs. a ∷ xs) rest.1)

not_less : (c n : ℕ) → nat_lt (c + n) c ≡ false
not_less c n = by_test (nat_lt (c + n) c) refl
  where
    by_test : (b : Bool) → nat_lt (c + n) c ≡ b → b ≡ false
    by_test false e = refl
    by_test true e = absurd (omega (arith, ltb-true (c + n) c e))

pub split_first : {A : Type 0} (xs : List A) (x : A) → 1 ≤ length xs → x ≡ get_or xs 0 x → xs ≡ x ∷ take (length xs - 1) (drop 1 xs)
split_first [] x long e = absurd (omega (arith, long))
split_first {A = A} (y ∷ ys) x long e =
    let size : length (y ∷ ys) - 1 ≡ length ys = omega arith in
    ap (λ z. z ∷ ys) (sym e) ∙ ap (λ zs. x ∷ zs) (sym (ap (λ n. take n ys) size ∙ whole ys))
  where
    whole : (zs : List A) → take (length zs) zs ≡ zs
    whole [] = refl
    whole (z ∷ zs) = ap (λ us. z ∷ us) (whole zs)

-- ---- runs

pub counts_left : (left tail : List Line) (l : Line) (before : ℕ) → left ≡ l ∷ tail → before + sum (map (λ line. line.count) left) ≤ 1000000
    → before + l.count + sum (map (λ line. line.count) tail) ≤ 1000000
counts_left left tail l before is h =
    let times : Line → ℕ = λ line. line.count in
    let parts : sum (map times left) ≡ l.count + sum (map times tail) =
    ap (λ xs. sum (map times xs)) is ∙ sum-map times (l ∷ tail) ∙ sum_by-cons times l tail ∙ ap (λ n. l.count + n) (sym (sum-map times tail)) in
    omega (arith, h, parts)

-- what a line comes to on a machine of the same program and specification
pub plays_here : (g of : Program) (s by : Spec) (state : State) (e : Event Value) (count : ℕ) (result : Played) (new : State) → of ≡ g → by ≡ s
    → Plays of by state e count result new → Plays g s state e count result new
plays_here g of s by state e count result new program spec h =
    subst₂ (λ p q. Plays p q state e count result new) program spec h

module _ (g : Program) (s : Spec) where
  run_more : (front more : List (Event Value)) → run (program_of g) s (front ++ more) ≡ from g s (run (program_of g) s front) more
  run_more front more = fold-append (after (of_package g s) (atomic_of s).allows) (first_state (of_package g s)) front more

  stuck_by : (fault : Option Reason) (reason : Reason) (made : Answer State) → fault ≡ Some reason → unless_undefined fault made ≡ Blocked
  stuck_by None reason made h = absurd cc
  stuck_by (Some r) reason made h = refl

  -- after an undefined event nothing is possible
  stuck : (now : State) (e : Event Value) (reason : Reason) → now.fault ≡ Some reason → comes g s now e ≡ Blocked
  stuck now e reason h = stuck_by now.fault reason (event_made (of_package g s) (atomic_of s).allows now e) h

  stays : (now : State) (events : List (Event Value)) (reason : Reason) → now.fault ≡ Some reason → from g s now events ≡ now
  stays now [] reason h = refl
  stays now (e ∷ events) reason h =
      ap (λ z. from g s z events) (ap (settled now) (stuck now e reason h)) ∙ stays now events reason h

  within_more : (front : List (Event Value)) (e : Event Value) (count : ℕ) → AreWithin (program_of g) s front
      → ((i : ℕ) → i < count → leaves_too_many (comes g s (from g s (run (program_of g) s front) (replicate i e)) e) ≡ false) → AreWithin (program_of g) s (front ++ replicate count e)
  within_more front e count h k n x there =
      elim (got front (replicate count e) n x there) [
        | inl found ↦ ap (λ zs. leaves_too_many (outcome (program_of g) s zs x)) found.1 ∙ h n x found.0
        | inr found ↦
            let copy = got_copy count e x found.0 found.1 in
            ap (λ zs. leaves_too_many (outcome (program_of g) s zs x)) (found.2 ∙ ap (λ zs. front ++ zs) copy.front)
            ∙ ap (λ z. leaves_too_many (comes g s z x)) (run_more front (replicate found.0 e))
            ∙ ap (λ z. leaves_too_many (comes g s (from g s (run (program_of g) s front) (replicate found.0 e)) z)) copy.is ∙ k found.0 copy.some
      ]

  -- an undefined event, and what comes behind it
  within_stuck : (front more : List (Event Value)) (e : Event Value) (reason : Reason) → AreWithin (program_of g) s front → outcome (program_of g) s front e ≡ Undefined reason
      → AreWithin (program_of g) s (front ++ e ∷ more)
  within_stuck front more e reason h u n x there =
      elim (got front (e ∷ more) n x there) [
        | inl found ↦ ap (λ zs. leaves_too_many (outcome (program_of g) s zs x)) found.1 ∙ h n x found.0
        | inr found ↦ ap (λ zs. leaves_too_many (outcome (program_of g) s zs x)) found.2 ∙ behind found.0 found.1
      ]
    where
      behind : (i : ℕ) → slice_get (e ∷ more) i ≡ Some x → leaves_too_many (outcome (program_of g) s (front ++ take i (e ∷ more)) x) ≡ false
      behind zero is =
          let same : e ≡ x = cc in
          ap (λ zs. leaves_too_many (outcome (program_of g) s zs x)) (append-nil front) ∙ ap (λ z. leaves_too_many (outcome (program_of g) s front z)) (sym same) ∙ ap leaves_too_many u
      behind (suc i) is =
          let last : State = after (of_package g s) (atomic_of s).allows (run (program_of g) s front) e in
          let broken : last.fault ≡ Some reason = ap (λ a. (settled (run (program_of g) s front) a).fault) u in
          ap (λ z. leaves_too_many (comes g s z x)) (run_more front (e ∷ take i more) ∙ stays last (take i more) reason broken)
          ∙ ap leaves_too_many (stuck last x reason broken)

  -- ---- lines

  pub record IsPlayed (lines rest : List Line) (before : ℕ) (now : State) : Type 0 where
    pub front : List (Event Value)
    pub split : events_of lines ≡ front ++ events_of rest
    pub number : before ≡ length front
    pub is : now ≡ run (program_of g) s front
    pub within : AreWithin (program_of g) s front
    pub defined : now.fault ≡ None
    pub places : (n : ℕ) → place_of lines (length front + n) ≡ place_of rest n

  pub played_none : (lines : List Line) (now : State) → now ≡ first_state (of_package g s) → IsPlayed lines lines 0 now
  played_none lines now h = record {
    front = [];
    split = refl;
    number = refl;
    is = h;
    within = λ n x there. absurd cc;
    defined = ap (λ z. z.fault) h;
    places = λ n. ap (place_of lines) (omega arith);
  }

  module _ (lines rest : List Line) (l : Line) (before : ℕ) (now next : State) (played : IsPlayed lines (l ∷ rest) before now) where
    abbrev e : Event Value
    e = event_of l.event

    abbrev reached : ℕ → List (Event Value)
    reached i = played.front ++ replicate i e

    reached_length : (i : ℕ) → length (reached i) ≡ before + i
    reached_length i = omega (arith, length-append played.front (replicate i e), length-replicate i e, played.number)

    from_now : (i : ℕ) → from g s now (replicate i e) ≡ run (program_of g) s (reached i)
    from_now i = ap (λ z. from g s z (replicate i e)) played.is ∙ sym (run_more played.front (replicate i e))

    reached_within : (i : ℕ) (last : State) → IsThrough g s now e i last → AreWithin (program_of g) s (reached i)
    reached_within i last through =
        within_more played.front e i played.within
        (λ j h. ap (λ z. leaves_too_many (comes g s (from g s z (replicate j e)) e)) (sym played.is) ∙ through.within j h)

    pub played_more : IsThrough g s now e l.count next → IsPlayed lines rest (before + l.count) next
    played_more through = record {
      front = reached l.count;
      split = played.split ∙ sym (append_assoc played.front (replicate l.count e) (events_of rest));
      number = sym (reached_length l.count);
      is = through.is ∙ from_now l.count;
      within = reached_within l.count next through;
      defined = through.defined played.defined;
      places = λ n.
          let at : length (reached l.count) + n ≡ length played.front + (l.count + n) = omega (arith, reached_length l.count, played.number) in
          let less : l.count + n - l.count ≡ n = omega arith in
          ap (place_of lines) at ∙ played.places (l.count + n)
          ∙ ap (λ b. if b then Some l.place else place_of rest (l.count + n - l.count)) (not_less l.count n) ∙ ap (place_of rest) less;
    }

    record Parted (i : ℕ) : Type 0 where
      more : List (Event Value)
      is : events_of lines ≡ reached i ++ e ∷ more

    parted : (i : ℕ) → i < l.count → Parted i
    parted i h =
        let copies = split_copies l.count i e h in
        record {
          more = copies.0 ++ events_of rest;
          is = played.split ∙ ap (λ xs. played.front ++ (xs ++ events_of rest)) copies.1
              ∙ ap (λ xs. played.front ++ xs) (append_assoc (replicate i e) (e ∷ copies.0) (events_of rest))
              ∙ sym (append_assoc played.front (replicate i e) (e ∷ copies.0 ++ events_of rest));
        }

    here : (i : ℕ) (h : i < l.count) → slice_get (events_of lines) (length (reached i)) ≡ Some e
    here i h = ap (λ xs. slice_get xs (length (reached i))) (parted i h).is ∙ got_first (reached i) (parted i h).more e

    front_here : (i : ℕ) (h : i < l.count) → take (length (reached i)) (events_of lines) ≡ reached i
    front_here i h = ap (take (length (reached i))) (parted i h).is ∙ take_at (reached i) (e ∷ (parted i h).more) (length (reached i)) refl

    pub ran_undefined : (history : List Entry) (number : ℕ) (reason : Reason) → IsStopped g s now e l.count number reason next
        → map entry_of history ≡ next.history → IsRan (program_of g) s lines (record { history = history; undefined = Some (before + number, reason) })
    ran_undefined history number reason stopped told =
        let i = stopped.before in
        let last_is : stopped.last ≡ run (program_of g) s (reached i) = stopped.through.is ∙ from_now i in
        let undefined : outcome (program_of g) s (reached i) e ≡ Undefined reason = ap (λ z. comes g s z e) (sym last_is) ∙ stopped.undefined in
        let rest_of = parted i stopped.some in
        let broken : next.fault ≡ Some reason = ap (λ z. z.fault) (stopped.is ∙ ap (settled stopped.last) stopped.undefined) in
        let whole : run (program_of g) s (events_of lines) ≡ next =
        ap (run (program_of g) s) rest_of.is ∙ run_more (reached i) (e ∷ rest_of.more)
        ∙ ap (λ z. from g s (after (of_package g s) (atomic_of s).allows z e) rest_of.more) (sym last_is)
        ∙ ap (λ z. from g s z rest_of.more) (sym stopped.is) ∙ stays next rest_of.more reason broken in
        record {
          history = told ∙ ap (λ z. z.history) (sym whole);
          within = subst (AreWithin (program_of g) s) (sym rest_of.is)
              (within_stuck (reached i) rest_of.more e reason (reached_within i stopped.last stopped.through) undefined);
          undefined = record {
            before = length (reached i);
            event = e;
            there = here i stopped.some;
            numbered = omega (arith, stopped.numbered, reached_length i);
            undefined = ap (λ xs. outcome (program_of g) s xs e) (front_here i stopped.some) ∙ undefined;
          };
        }

    pub too_many : (i : ℕ) → IsOver g s now e l.count i → IsTooMany (program_of g) s lines l.place
    too_many i over =
        let last_is : over.last ≡ run (program_of g) s (reached i) = over.through.is ∙ from_now i in
        let at : length (reached i) ≡ length played.front + i = omega (arith, reached_length i, played.number) in
        record {
          before = length (reached i);
          event = e;
          there = here i over.some;
          within = subst (AreWithin (program_of g) s) (sym (front_here i over.some)) (reached_within i over.last over.through);
          over = ap (λ xs. leaves_too_many (outcome (program_of g) s xs e)) (front_here i over.some)
              ∙ ap (λ z. leaves_too_many (comes g s z e)) (sym last_is) ∙ over.over;
          placed = ap (place_of lines) at ∙ played.places i
              ∙ ap (λ b. if b then Some l.place else place_of rest (i - l.count)) (lt-ltb i l.count over.some);
        }

  pub ran_through : (lines : List Line) (before : ℕ) (now : State) (history : List Entry) → IsPlayed lines [] before now
      → map entry_of history ≡ now.history → IsRan (program_of g) s lines (record { history = history; undefined = None })
  ran_through lines before now history played told =
      let all : events_of lines ≡ played.front = played.split ∙ append-nil played.front in
      record {
        history = told ∙ ap (λ z. z.history) (played.is ∙ ap (run (program_of g) s) (sym all));
        within = subst (AreWithin (program_of g) s) (sym all) played.within;
        undefined = ap (λ z. z.fault) (ap (run (program_of g) s) all ∙ sym played.is) ∙ played.defined;
      }
