-- Boot is sound beside a rest without tokens.
use Rattle.std.proofs.Common.{◌≡◌, ℕ, ◌+◌, ◌<◌, ◌≤◌, inl, inr, Bool, true, false, List, [], ◌∷◌, ◌++◌, map, length, Option, Some, None, Ok, refl, sym, ap, subst, ◌∙◌, arith}
use Rattle.std.specs.Prelude.{slice_get}
use Rattle.gv_terms.specs.declared.tree.TermTree.{TermTree}
use Rattle.gv_terms.specs.declared.value.Env.{Env}
use Rattle.gv_terms.specs.declared.value.Value.{Value}
use Rattle.gv_terms.specs.declared.value.Value.TheVariants as val
use Rattle.gv_terms.specs.Trees.{value_under}
use Rattle.gv_world.specs.Store.{Store as World}
use Rattle.gv_spec.specs.Entry as entry
use Rattle.gv_spec.specs.Entry.{Entry}
use Rattle.gv_spec.specs.Specification.{Specification}
use Rattle.gv_spec.specs.Move as move
use Rattle.gv_spec.specs.Move.{Move, Act, entries_of}
use Rattle.gv_spec.specs.Walks as walks
use Rattle.gv_spec.specs.Walks.{Standing, NeverCalled, Called, Acted, Answered, Dropped, dropped, onward, first_walk}
use Rattle.gv_resources.specs.Kinds as kind
use Rattle.gv_resources.specs.Kinds.{Kind}
use Rattle.gv_resources.specs.Pieces.{Resource, Have, Piece, Fits}
use Rattle.gv_resources.specs.Ghost.{Ghost}
use Rattle.gv_resources.specs.Told.{told, under, only_if, one, is_leased, acted_with, is_in_table, call_of, number_of}
use Rattle.gv_resources.proofs.Many.{all_told, all_told_has, fits_renewed}
use Rattle.gv_assertions.specs.Atoms.{Atom}
use Rattle.gv_assertions.specs.Standing.{StandForAll, valued, number_under}
use Rattle.gv_assertions.proofs.Lists.{joined, cut}
use Rattle.gv_seats.specs.Seats.{Proof, shape_of, Walked, IsConsistent, of_locks}
use Rattle.gv_giving.proofs.Givens.{all_parted}
use Rattle.gv_acting.specs.Acts.{fields_become, leases_become, Leased, is_listed, AreOnce}
use Rattle.gv_acting.specs.Boots.{booted_to, IsQuiet, boots}
use Rattle.gv_acting.specs.Laws.{BootsLaw}
use Rattle.gv_acting.proofs.Renewing.{olds_of, news_of, renewed, all_mapped, all_back}
use Rattle.gv_acting.proofs.Walking.{walk_then}
use Rattle.gv_acting.proofs.Acting.{fields_piece, leases_piece, fields_in, leases_in, EachLease, IsGiven, more_given, fields_stand, leases_have, leases_stand}
use Rattle.gv_acting.proofs.Simming.{listed_at, same_lists, valued_at, valued_long, one_is, map_joined, owned_fields, leased_each, leases_same, frame_within, no_field, no_lease}

-- ---- the explanation

entries_then : (moves : List (Move Value)) (choices : List ℕ) → entries_of (moves ++ move.Boot choices ∷ []) ≡ entries_of moves ++ entry.Boot ∷ []
entries_then [] choices = refl
entries_then (Act m cs ∷ moves) choices = entries_then moves choices
entries_then (move.Boot cs ∷ moves) choices = ap (λ (es : List (Entry Value)). entry.Boot ∷ es) (entries_then moves choices)
entries_then (move.Other e ∷ moves) choices = ap (λ (es : List (Entry Value)). e ∷ es) (entries_then moves choices)

never_dropped : (s : Standing Value) → dropped s ≡ NeverCalled → s ≡ NeverCalled
never_dropped NeverCalled e = refl
never_dropped (Called op args) e = absurd cc
never_dropped (Acted r) e = absurd cc
never_dropped Answered e = absurd cc
never_dropped Dropped e = absurd cc

not_called : (s : Standing Value) (op : ℕ) (args : List Value) → dropped s ≡ Called op args → ⊥
not_called NeverCalled op args e = cc
not_called (Called o xs) op args e = cc
not_called (Acted r) op args e = cc
not_called Answered op args e = cc
not_called Dropped op args e = cc

no_table : (s : Standing Value) → is_in_table (dropped s) ≡ false
no_table NeverCalled = refl
no_table (Called op args) = refl
no_table (Acted r) = refl
no_table Answered = refl
no_table Dropped = refl

module _ (atomic : Specification (List Value) Value) (g : Ghost) (w : Walked atomic g) (choices : List ℕ) (fields : List Value) (crashed : atomic.crashed choices g.walk.fields ≡ Some fields) where
  pub walked_boot : Walked atomic (booted_to g choices fields)
  walked_boot = record {
    entries = entries_then g.moves choices ∙ ap (λ (es : List (Entry Value)). es ++ entry.Boot ∷ []) w.entries;
    passes = walk_then atomic g.moves (first_walk atomic) g.walk (move.Boot choices) w.passes
        ∙ ap (λ (x : Option (List Value)). onward (λ next. Ok next) (walks.booted_to atomic g.walk x)) crashed;
    later = λ call l. ap dropped (w.later call l);
    unacted = λ call op args h. elim h [ inl e ↦ w.unacted call op args (inl (never_dropped (g.walk.table call) e)) | inr e ↦ absurd (not_called (g.walk.table call) op args e) ];
    acted = λ call reply kept there. absurd (let both : false ≡ true = sym (no_table (g.walk.table call)) ∙ there in cc);
    since = w.since;
    gone = w.gone;
  }

-- ---- what is told

abbrev changes_at : List Leased → Kind → List Value → Bool
changes_at leases kind.Token key = true
changes_at leases kind.OpenCall key = true
changes_at leases kind.Recovering key = true
changes_at leases kind.Field key = true
changes_at leases kind.FieldLease key = listed_at leases (number_of key)
changes_at leases _ key = false

module _ (o : Proof) (w : World) (g : Ghost) (env : Env) (olds news : List TermTree) (leases : List Leased) (choices : List ℕ) (c : IsConsistent o w g) (fields : valued env olds ≡ g.walk.fields)
    (long : length olds ≡ length o.leased) (as_many : length news ≡ length olds)
    (keeps : (place : ℕ) (t u : TermTree) → slice_get o.leased place ≡ Some true → is_listed leases place ≡ false → slice_get olds place ≡ Some t → slice_get news place ≡ Some u
    → value_under env u ≡ value_under env t) where
  abbrev pub now : Ghost
  now = booted_to g choices (valued env news)

  dones_same : (found : Option ℕ) → under found (λ call. acted_with (now.walk.table call) (now.kept call)) ≡ under found (λ call. acted_with (g.walk.table call) (g.kept call))
  dones_same None = refl
  dones_same (Some m) = at (g.walk.table m) refl
    where
      at : (s : Standing Value) → g.walk.table m ≡ s → acted_with (dropped s) (g.kept m) ≡ acted_with s (g.kept m)
      at NeverCalled e = refl
      at (Called op args) e = ap (λ (x : Option Value). acted_with Dropped x) (c.walked.unacted m op args (inr e))
      at (Acted r) e = refl
      at Answered e = refl
      at Dropped e = refl

  pub told_same : (k : Kind) (key : List Value) → changes_at leases k key ≡ false → told (shape_of o) w now k key ≡ told (shape_of o) w g k key
  told_same kind.Token key free = absurd cc
  told_same kind.OpenCall key free = absurd cc
  told_same kind.Recovering key free = absurd cc
  told_same kind.Field key free = absurd cc
  told_same kind.FieldLease key free = leases_same o g env olds news leases fields long as_many keeps (number_of key) free
  told_same kind.Done key free = dones_same (call_of key)
  told_same _ key free = refl

  field_told : (i : ℕ) (t : TermTree) → slice_get news i ≡ Some t → told (shape_of o) w now kind.Field (val.Word i ∷ []) ≡ Some (value_under env t ∷ [])
  field_told i t e = ap one (valued_at env news i t e)

  lease_told : (l : Leased) → slice_get news l.place ≡ Some l.new → is_leased (slice_get o.leased l.place) ≡ true → told (shape_of o) w now kind.FieldLease (val.Word l.place ∷ []) ≡ Some (value_under env l.new ∷ [])
  lease_told l e leased = ap (λ (b : Bool). only_if b (one (slice_get (valued env news) l.place))) leased ∙ ap one (valued_at env news l.place l.new e)

  abbrev pub new_piece : Piece
  new_piece e = fields_piece env 0 news e + leases_piece env leases e

  abbrev IsLease : Leased → Type 0
  IsLease l = (slice_get news l.place ≡ Some l.new) × (is_leased (slice_get o.leased l.place) ≡ true)

  field_or_lease : (v u : List Value) (i j : ℕ) → Have kind.Field (val.Word i ∷ []) v ≡ Have kind.FieldLease (val.Word j ∷ []) u → ⊥
  field_or_lease v u i j e = cc

  pub new_within : AreOnce leases → EachLease IsLease leases → (e : Resource) → new_piece e ≤ all_told (changes_at leases) (told (shape_of o) w now) e
  new_within once each e = elim (fields_in env 0 news e) [
    | inl (f, count) ↦ elim (leases_in IsLease env leases e once each) [
      | inl (l, more) ↦ absurd (field_or_lease _ _ (0 + f.i) l.l.place (sym f.is ∙ l.is))
      | inr none_there ↦ (let has = subst (λ (r : Resource). 0 < all_told (changes_at leases) (told (shape_of o) w now) r) (sym f.is)
          (all_told_has (changes_at leases) (told (shape_of o) w now) kind.Field (val.Word (0 + f.i) ∷ []) (value_under env f.t ∷ []) refl (field_told (0 + f.i) f.t (subst (λ (i : ℕ). slice_get news i ≡ Some f.t) (omega arith) f.there_is))) in omega arith)
    ]
    | inr none_here ↦ elim (leases_in IsLease env leases e once each) [
      | inl (l, count) ↦ (let has = subst (λ (r : Resource). 0 < all_told (changes_at leases) (told (shape_of o) w now) r) (sym l.is)
          (all_told_has (changes_at leases) (told (shape_of o) w now) kind.FieldLease (val.Word l.l.place ∷ []) (value_under env l.l.new ∷ []) l.listed (lease_told l.l l.holds.0 l.holds.1)) in omega arith)
      | inr none_there ↦ omega arith
    ]
  ]

  pub consistent_now : o.atomic.crashed choices g.walk.fields ≡ Some (valued env news) → IsConsistent o w now
  consistent_now crashed = record {
    fresh = λ object l. (let u = c.fresh object l in record { guards = u.guards; sliced = u.sliced; frozen = u.frozen });
    blocks = record { as_many = c.blocks.as_many; sized = c.blocks.sized; same = c.blocks.same; long = c.blocks.long; whole = c.blocks.whole };
    failures = c.failures;
    fields = valued_long env news ∙ as_many ∙ long;
    names = c.names;
    unguarded = c.unguarded;
    walked = walked_boot o.atomic g c.walked choices (valued env news) crashed;
  }

-- ---- the law

none_of_quiet : (whole frame : Piece) → ((e : Resource) → frame e ≤ whole e) → (k : Kind) → ((key v : List Value) → whole (Have k key v) ≡ 0) → (key v : List Value) → 0 < frame (Have k key v) → ⊥
none_of_quiet whole frame le k none_there key v has = let l = le (Have k key v) in let z = none_there key v in omega arith

-- the frame has nothing where what is told changes
none_at : (o : Proof) (w : World) (g : Ghost) (env : Env) (olds news : List TermTree) (leases : List Leased) (whole own frame : Piece) (c : IsConsistent o w g)
    (f : Fits whole (told (shape_of o) w g)) (parts : (e : Resource) → own e + frame e ≤ whole e)
    (fields : (i : ℕ) (t : TermTree) → slice_get olds i ≡ Some t → 0 < own (Have kind.Field (val.Word i ∷ []) (value_under env t ∷ [])))
    (each : EachLease (IsGiven env news own) leases) (long : length olds ≡ length o.leased) → IsQuiet whole
    → (k : Kind) (key v : List Value) → changes_at leases k key ≡ true → 0 < frame (Have k key v) → ⊥
none_at o w g env olds news leases whole own frame c f parts fields each long quiet kind.Token key v e has =
    none_of_quiet whole frame (frame_within o w g env olds news leases whole own frame c f parts fields each long) kind.Token quiet.tokens key v has
none_at o w g env olds news leases whole own frame c f parts fields each long quiet kind.OpenCall key v e has =
    none_of_quiet whole frame (frame_within o w g env olds news leases whole own frame c f parts fields each long) kind.OpenCall quiet.calls key v has
none_at o w g env olds news leases whole own frame c f parts fields each long quiet kind.Recovering key v e has =
    none_of_quiet whole frame (frame_within o w g env olds news leases whole own frame c f parts fields each long) kind.Recovering quiet.recovers key v has
none_at o w g env olds news leases whole own frame c f parts fields each long quiet kind.Field key v e has =
    no_field o w g env olds news leases whole own frame c f parts fields each long key v (number_of key) refl has
none_at o w g env olds news leases whole own frame c f parts fields each long quiet kind.FieldLease key v e has =
    no_lease o w g env olds news leases whole own frame c f parts fields each long key v (number_of key) refl e has
none_at o w g env olds news leases whole own frame c f parts fields each long quiet _ key v e has = absurd cc

pub boots_law : BootsLaw
boots_law o h choices k (boots es _ olds news leases became later place next todo role shared opened booted long as_many once gets crashes keeps renews permuted) w g start f rest seat quiet =
    let env = seat.env in
    let d = seat.described in
    let c = seat.base.consistent in
    let numbers = map (number_under env) choices in
    let r = renewed renews d.stands in
    let (q, spare, split, wanted, nothing) = all_parted (all_mapped (λ b. b.old) permuted) r.stands in
    let fields_then : olds_of (fields_become 0 olds news ++ leases_become leases) ≡ olds_of (fields_become 0 olds news) ++ olds_of (leases_become leases) = map_joined (λ b. b.old) (fields_become 0 olds news) (leases_become leases) in
    let (field_piece, lease_piece, both_split, fields_were, leases_were) =
    cut (olds_of (fields_become 0 olds news)) (subst (λ (xs : List Atom). StandForAll o.preds env xs q) fields_then wanted) in
    let fields = owned_fields env olds news as_many q field_piece (λ e. let b = both_split e in omega arith) o.preds fields_were in
    let each = more_given env news lease_piece q leases (λ e. let b = both_split e in omega arith) (leases_have o.preds env news leases lease_piece gets leases_were) in
    let whole : Piece = λ e. seat.piece e + (seat.pool e + (of_locks w seat.locks e + rest e)) in
    let frame : Piece = λ e. r.others e + (seat.pool e + (of_locks w seat.locks e + rest e)) in
    let parts : (e : Resource) → q e + frame e ≤ whole e = (λ e. let a = split e in let b = r.split e in omega arith) in
    let fields_are : valued env olds ≡ g.walk.fields =
    same_lists env olds g.walk.fields (c.fields ∙ sym long) (λ i t e. one_is (slice_get g.walk.fields i) (value_under env t)
    (seat.base.fits.says kind.Field (val.Word i ∷ []) (value_under env t ∷ []) (let a = parts (Have kind.Field (val.Word i ∷ []) (value_under env t ∷ [])) in let b = fields i t e in omega arith))) in
    let effect = subst (λ (xs : List Value). o.atomic.crashed numbers xs ≡ Some (valued env news)) fields_are (crashes env d.valuation d.facts) in
    let kept : (place : ℕ) (t u : TermTree) → slice_get o.leased place ≡ Some true → is_listed leases place ≡ false → slice_get olds place ≡ Some t → slice_get news place ≡ Some u
    → value_under env u ≡ value_under env t = (λ place t u leased free x y. keeps place t u leased free x y env d.valuation d.facts) in
    let leased = leased_each o w g env news q leases (λ e. let a = parts e in omega arith) seat.base.fits each in
    let piece = new_piece o w g env olds news leases numbers c fields_are long as_many kept in
    let now_piece : Piece = λ e. piece e + r.others e in
    let ghost = booted_to g numbers (valued env news) in
    let within : (e : Resource) → frame e ≤ whole e = (λ e. let a = parts e in omega arith) in
    let fits : Fits (λ e. now_piece e + (seat.pool e + (of_locks w seat.locks e + rest e))) (told (shape_of o) w ghost) =
    fits_renewed {frame = frame} (changes_at leases) seat.base.fits within
    (none_at o w g env olds news leases whole q frame c seat.base.fits parts fields each long quiet)
    (told_same o w g env olds news leases numbers c fields_are long as_many kept)
    (λ e. let a = new_within o w g env olds news leases numbers c fields_are long as_many kept once leased e in omega arith) in
    let news_then : news_of (fields_become 0 olds news) ++ news_of (leases_become leases) ≡ news_of (fields_become 0 olds news ++ leases_become leases) = sym (map_joined (λ b. b.new) (fields_become 0 olds news) (leases_become leases)) in
    let wanted_now = subst (λ (xs : List Atom). StandForAll o.preds env xs piece) news_then
    (joined {q = leases_piece env leases} (λ e. omega arith) (fields_stand o.preds env 0 olds news as_many) (leases_stand o.preds env leases)) in
    let stands = r.again piece now_piece (λ e. omega arith) (all_back (all_mapped (λ b. b.new) permuted) wanted_now) in (
      valued env news,
      effect,
      record {
        env = env;
        piece = now_piece;
        pool = seat.pool;
        locks = seat.locks;
        described = record { todo = d.todo; as_many = d.as_many; locals = d.locals; valuation = d.valuation; started = d.started; facts = d.facts; stands = stands };
        base = record {
          fits = fits;
          mode = seat.base.mode;
          crash = seat.base.crash;
          free = seat.base.free;
          consistent = consistent_now o w g env olds news leases numbers c fields_are long as_many kept effect;
        };
        still = seat.still;
      },
    )
