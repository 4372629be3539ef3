-- A call starts: its token is new, its arguments are in fresh buffers, and what calls are made on is there once more.
use Rattle.std.proofs.Common.{◌≡◌, ◌≢◌, ◌⊎◌, ℕ, zero, suc, ◌+◌, ◌<◌, ◌≤◌, Bool, true, false, ◌&&◌, if◌then◌else◌, List, [], ◌∷◌, ◌++◌, map, length, Option, Some, None, refl, sym, ap, subst, ◌∙◌, inl, inr, arith}
use Rattle.std.specs.Prelude.{slice_get, nat_lt, option_map, option_and_then, Ok}
use Rattle.std.specs.List.{All, list_all}
use Rattle.gv_base.specs.declared.answer.Answer.{Answer}
use Rattle.gv_base.specs.declared.answer.Answer.TheVariants.{Next, Blocked, Undefined}
use Rattle.gv_base.specs.declared.val.Val.{Val}
use Rattle.gv_base.specs.declared.val.Val.TheVariants as stored
use Rattle.gv_terms.specs.declared.value.Env.{Env}
use Rattle.gv_terms.specs.declared.value.Value.{Value}
use Rattle.gv_terms.specs.declared.value.Value.TheVariants as val
use Rattle.gv_terms.specs.Ranges.{IsInRange}
use Rattle.gv_world.specs.declared.cell.Cell.{Cell}
use Rattle.gv_world.specs.Disks.{byte_cells}
use Rattle.gv_world.specs.Store as world
use Rattle.gv_world.specs.Store.{Store as World, fresh, with_new}
use Rattle.gv_world.specs.Slices.{whole_of}
use Rattle.gv_lang.specs.Calls as given
use Rattle.gv_lang.specs.Calls.{Given, started, started_in, placed, all_placed, buffered, is_buffer, called}
use Rattle.gv_lang.specs.Threads.{Frame, Thread, new_frame, thread_of}
use Rattle.gv_lang.specs.Tree.{Proc}
use Rattle.gv_spec.specs.Entry as entry
use Rattle.gv_spec.specs.Entry.{Entry}
use Rattle.gv_spec.specs.Event as event
use Rattle.gv_spec.specs.Move as move
use Rattle.gv_spec.specs.Move.{Move, entries_of}
use Rattle.gv_spec.specs.Walks.{Standing, NeverCalled, Called, Acted, Answered, Dropped, entered, onward, first_walk, walk_from, walk_called}
use Rattle.gv_spec.specs.Runs as runs
use Rattle.gv_spec.specs.Runs.{Role, living, call_made, call_started, unless_undefined}
use Rattle.gv_runs.specs.Machine.{machine_of, call_of, all_given, given_of, procedure}
use Rattle.gv_resources.specs.Kinds as kind
use Rattle.gv_resources.specs.Kinds.{Kind, is_persistent}
use Rattle.gv_resources.specs.Ghost.{Ghost, Mode, Owned, Shared}
use Rattle.gv_resources.specs.Pieces.{Resource, Have, Piece, Telling, Fits, single, part_of}
use Rattle.gv_resources.specs.Told.{Shape, told, under, only_if, may_act, token_at, acted_with, is_in_table, call_of as call_key}
use Rattle.gv_resources.proofs.Equality.{single_same}
use Rattle.gv_resources.proofs.Fitting.{retold, retold_test, retold_there, fits_less, fits_add, fits_same}
use Rattle.gv_resources.proofs.Sums.{number_test}
use Rattle.gv_seats.specs.Paths.{Path, Closed}
use Rattle.gv_seats.specs.Seats.{Proof, shape_of, Base, IsConsistent, Walked}
use Rattle.gv_acting.proofs.Walking.{walk_then, entered_there, entered_elsewhere}
use Rattle.gv_invariant.specs.Outlines.{Outline}
use Rattle.gv_invariant.specs.Invariant.{Run, badge_of, of_threads, Tells, InvariantBeside, Invariant}
use Rattle.gv_invariant.proofs.Returning.{entries_then}

-- the record beside the state once a call has started
abbrev pub called_from : Ghost → ℕ → List Value → Ghost
called_from g op args = record g {
  history = g.history ++ entry.Call (suc g.calls) op args ∷ [];
  moves = g.moves ++ move.Other (entry.Call (suc g.calls) op args) ∷ [];
  walk = record { fields = g.walk.fields; table = entered g.walk.table (suc g.calls) (Called op args) };
  calls = suc g.calls;
}

module _ (o : Proof) (w : World) (g : Ghost) (op : ℕ) (args : List Value) (c : IsConsistent o w g) (allowed : o.atomic.allows op args ≡ true) where
  abbrev n : ℕ
  n = suc g.calls

  abbrev now : Ghost
  now = called_from g op args

  abbrev z : Shape
  z = shape_of o

  never_before : g.walk.table n ≡ NeverCalled
  never_before = c.walked.later n (omega arith)

  none_kept : g.kept n ≡ None
  none_kept = c.walked.unacted n op args (inl never_before)

  table_here : (m : ℕ) → m ≡ n → now.walk.table m ≡ Called op args
  table_here m e = ap now.walk.table e ∙ entered_there g.walk.table n (Called op args)

  table_elsewhere : (m : ℕ) → m ≢ n → now.walk.table m ≡ g.walk.table m
  table_elsewhere m ne = entered_elsewhere g.walk.table n m (Called op args) ne

  passes : walk_from o.atomic (first_walk o.atomic) now.moves ≡ Ok now.walk
  passes =
      walk_then o.atomic g.moves (first_walk o.atomic) g.walk (move.Other (entry.Call n op args)) c.walked.passes
      ∙ ap (λ (s : Standing Value). onward (λ next. Ok next) (walk_called o.atomic g.walk n op args s)) never_before

  walked_now : Walked o.atomic now
  walked_now = record {
    entries = entries_then g.moves (entry.Call n op args) ∙ ap (λ (es : List (Entry Value)). es ++ entry.Call n op args ∷ []) c.walked.entries;
    passes = passes;
    later = λ m l. table_elsewhere m (λ e. omega (arith, e, l)) ∙ c.walked.later m (omega (arith, l));
    unacted = λ m other xs h. elim (number_test m n) [
      | inl (e, t) ↦ ap g.kept e ∙ none_kept
      | inr (ne, t) ↦ c.walked.unacted m other xs (elim h [ inl x ↦ inl (sym (table_elsewhere m ne) ∙ x) | inr x ↦ inr (sym (table_elsewhere m ne) ∙ x) ])
    ];
    acted = λ m r kept there. elim (number_test m n) [
      | inl (e, t) ↦ absurd (nothing (sym (ap g.kept e ∙ none_kept) ∙ kept))
      | inr (ne, t) ↦ table_elsewhere m ne ∙ c.walked.acted m r kept (sym (ap is_in_table (table_elsewhere m ne)) ∙ there)
    ];
    since = (let s = c.walked.since in omega arith);
    gone = (let s = c.walked.gone in omega arith);
  }
    where
      nothing : {A : Type 0} {y : A} → None ≡ Some y → ⊥
      nothing e = cc

  pub consistent_now : IsConsistent o w now
  consistent_now = record {
    fresh = λ object l. (let u = c.fresh object l in record { guards = u.guards; sliced = u.sliced; frozen = u.frozen });
    blocks = record { as_many = c.blocks.as_many; sized = c.blocks.sized; same = c.blocks.same; long = c.blocks.long; whole = c.blocks.whole };
    failures = c.failures;
    fields = c.fields;
    names = c.names;
    unguarded = c.unguarded;
    walked = walked_now;
  }

  -- ---- what is told: the token of the call, and its badge

  abbrev key : List Value
  key = val.Call n ∷ []

  abbrev with_token : Telling
  with_token = retold (told z w g) kind.Token key (Some (val.Word op ∷ args))

  none_token : (b : Bool) → only_if b (may_act z NeverCalled) ≡ None
  none_token true = refl
  none_token false = refl

  pub no_token_before : told z w g kind.Token key ≡ None
  no_token_before = ap (λ (x : Standing Value). only_if (nat_lt g.gone n) (may_act z x)) never_before ∙ none_token (nat_lt g.gone n)

  pub no_badge_before : told z w g kind.OpenCall key ≡ None
  no_badge_before = ap (λ (x : Standing Value). only_if (nat_lt g.since n && is_in_table x) (Some [])) never_before ∙ out (nat_lt g.since n)
    where
      out : (b : Bool) → only_if {A = List Value} (b && false) (Some []) ≡ None
      out true = refl
      out false = refl

  later_than : (m : ℕ) → m ≤ g.calls → nat_lt m n ≡ true
  later_than m l = grind arith

  token_now : told z w now kind.Token key ≡ Some (val.Word op ∷ args)
  token_now =
      ap (λ (x : Standing Value). only_if (nat_lt g.gone n) (may_act z x)) (table_here n refl)
      ∙ ap (λ (b : Bool). only_if b (may_act z (Called op args))) (later_than g.gone c.walked.gone)
      ∙ ap (λ (b : Bool). only_if b (Some (val.Word op ∷ args))) allowed

  badge_now : told z w now kind.OpenCall key ≡ Some []
  badge_now =
      ap (λ (x : Standing Value). only_if (nat_lt g.since n && is_in_table x) (Some [])) (table_here n refl)
      ∙ ap (λ (b : Bool). only_if {A = List Value} (b && true) (Some [])) (later_than g.since c.walked.since)

  under_same : (key : Option ℕ) (f h : ℕ → Option (List Value)) → ((m : ℕ) → f m ≡ h m) → under key f ≡ under key h
  under_same None f h same = refl
  under_same (Some m) f h same = same m

  key_is : (other : List Value) (m : ℕ) → call_key other ≡ Some m → other ≡ val.Call m ∷ []
  key_is (val.Call k ∷ []) m e = let same : k ≡ m = cc in rw same refl
  key_is _ m e = absurd cc

  -- where a key is another one nothing changes
  elsewhere : (of of_now : ℕ → Option (List Value)) → ((m : ℕ) → m ≢ n → of m ≡ of_now m) → (other : List Value) → other ≢ key → under (call_key other) of ≡ under (call_key other) of_now
  elsewhere of of_now same other ne = at (call_key other) refl
    where
      at : (found : Option ℕ) → found ≡ call_key other → under found of ≡ under found of_now
      at None e = refl
      at (Some m) e = same m (λ q. ne (key_is other m (sym e) ∙ ap (λ k. val.Call k ∷ []) q))

  done_same : (m : ℕ) → acted_with (g.walk.table m) (g.kept m) ≡ acted_with (now.walk.table m) (g.kept m)
  done_same m = elim (number_test m n) [
    | inl (e, t) ↦ ap (λ (x : Standing Value). acted_with x (g.kept m)) (ap g.walk.table e ∙ never_before) ∙ ap (λ (x : Option Value). acted_with NeverCalled x) (ap g.kept e ∙ none_kept)
        ∙ sym (ap (λ (x : Standing Value). acted_with x (g.kept m)) (table_here m e))
    | inr (ne, t) ↦ ap (λ (x : Standing Value). acted_with x (g.kept m)) (sym (table_elsewhere m ne))
  ]

  pub told_now : (k : Kind) (other : List Value) → retold with_token kind.OpenCall key (Some []) k other ≡ told z w now k other
  told_now k other = elim (retold_test with_token kind.OpenCall key (Some []) k other) [
    | inl (a, b, t) ↦ (let same : told z w now k other ≡ Some [] = rw (a, b) badge_now in t ∙ sym same)
    | inr (ne, t) ↦ elim (retold_test (told z w g) kind.Token key (Some (val.Word op ∷ args)) k other) [
      | inl (a, b, u) ↦ (let same : told z w now k other ≡ Some (val.Word op ∷ args) = rw (a, b) token_now in t ∙ u ∙ sym same)
      | inr (ne2, u) ↦ t ∙ u ∙ others k other ne ne2
    ]
  ]
    where
      others : (k : Kind) (other : List Value) → (k ≡ kind.OpenCall → other ≢ key) → (k ≡ kind.Token → other ≢ key) → told z w g k other ≡ told z w now k other
      others kind.OpenCall other ne ne2 = elsewhere _ _ (λ m q. ap (λ (x : Standing Value). only_if (nat_lt g.since m && is_in_table x) (Some [])) (sym (table_elsewhere m q))) other (ne refl)
      others kind.Token other ne ne2 = elsewhere _ _ (λ m q. ap (λ (x : Standing Value). only_if (nat_lt g.gone m) (may_act z x)) (sym (table_elsewhere m q))) other (ne2 refl)
      others kind.Done other ne ne2 = under_same (call_key other) _ _ done_same
      others _ other ne ne2 = refl

  -- the token and the badge come where nothing was told
  pub fits_called : (p q : Piece) → Fits p (told z w g) → ((e : Resource) → q e ≤ p e + (single (Have kind.Token key (val.Word op ∷ args)) e + single (Have kind.OpenCall key []) e)) → Fits q (told z w now)
  fits_called p q f le =
      fits_same told_now
      (fits_add {p = λ e. p e + single (Have kind.Token key (val.Word op ∷ args)) e} {q = q} kind.OpenCall key []
      (fits_add {q = λ e. p e + single (Have kind.Token key (val.Word op ∷ args)) e} kind.Token key (val.Word op ∷ args) f no_token_before (λ e. absurd cc) (λ e. omega arith))
      (elim (retold_test (told z w g) kind.Token key (Some (val.Word op ∷ args)) kind.OpenCall key) [ inl (a, b, t) ↦ absurd (other_kind a) | inr (ne, t) ↦ t ∙ no_badge_before ])
      (λ e. absurd cc) (λ e. let l = le e in omega arith))
    where
      other_kind : kind.OpenCall ≡ kind.Token → ⊥
      other_kind e = cc
