-- From a path that leads on to its next step, and to the end of its bracket.
use Rattle.std.proofs.Common.{◌≡◌, ◌≢◌, ◌⊎◌, ℕ, zero, suc, Bool, true, false, List, [], ◌∷◌, Some, refl, sym, ap, subst, ◌∙◌, inl, inr}
use Rattle.std.specs.Prelude.{slice_get}
use Rattle.gv_base.specs.declared.answers.Place.{Place}
use Rattle.gv_terms.specs.declared.tree.TermTree.{TermTree}
use Rattle.gv_terms.specs.declared.value.Env.{Env}
use Rattle.gv_world.specs.Store.{Store as World}
use Rattle.gv_lang.specs.Threads.{Frame}
use Rattle.gv_lang.specs.Tree.{Expr, Return}
use Rattle.gv_lang.specs.Todo.{Todo, Run}
use Rattle.gv_spec.specs.Runs.{Role}
use Rattle.gv_resources.specs.Ghost.{Mode, Shared}
use Rattle.gv_resources.specs.Pieces.{Piece}
use Rattle.gv_instances.specs.Instances.{Given}
use Rattle.gv_seats.specs.Paths.{Path, Bracket, Closed, Opened, Used, Recovers, Serves}
use Rattle.gv_seats.specs.Changes.{Change, changes_nothing}
use Rattle.gv_seats.specs.Soundness.{Arrives, IsSoundMove, IsSoundStep, IsSoundWrite, IsSoundSpawn, IsSoundReturn}
use Rattle.gv_acting.specs.Boots.{IsSoundBoot}
use Rattle.gv_acting.specs.Rows.{BeginsSharing, EndsSharing, begins_sharing, ends_sharing}
use Rattle.gv_invariant.specs.Outlines.{Outline, Leads, by_move, by_cut, by_step, by_write, by_call, by_spawn, by_return, by_sharing, by_shared, by_boot, AllLead, no_path, a_path, AllFollow, MayLeave, MayLeaveClosed, IsBeside, IsCall, HandsOver, StaysUsed}
use Rattle.gv_invariant.specs.Invariant as invariant
use Rattle.gv_invariant.specs.Justified.{IsJustified}
use Rattle.gv_invariant.proofs.Held.{Held, held_on, held_sharing, held_shared, only_one}

pub only_first : (k p : Path) (ks : List Path) → slice_get (k ∷ ks) 0 ≡ Some p → k ≡ p
only_first k p ks e = cc

-- the next step of a path
pub data AtStep (o : Outline) (h : Path) : Type 0 where
  step_at : (c : Env → Change) (ks : List Path) → MayLeave o h → IsSoundStep o.proof c h ks → AllFollow o h ks → AtStep o h
  write_at : (ks : List Path) → MayLeaveClosed o h → IsSoundWrite o.proof h ks → AllFollow o h ks → AtStep o h
  call_at : (waiting callee behind : Path) (given : List Given) (xs : List ℕ) (n : ℕ) → MayLeaveClosed o h → IsCall o h waiting callee behind given xs → slice_get o.blocks n ≡ Some callee
      → Leads o true behind → AtStep o h
  spawn_at : (k callee : Path) (given : List Given) (n : ℕ) → MayLeaveClosed o h → h.mode ≡ Shared → IsSoundSpawn o.proof o.program h k callee given → IsBeside h k
      → callee.procedure.role ≡ Serves → callee.mode ≡ Shared → callee.bracket ≡ Closed → slice_get o.blocks n ≡ Some callee → Leads o true k → AtStep o h
  return_at : MayLeaveClosed o h → h.procedure.role ≢ Recovers → IsSoundReturn o.proof h → AtStep o h
  boot_at : (e : Expr) (place : Place) (rest : Todo) (choices : List TermTree) (k : Path) → h.todo ≡ Run (Return (e ∷ []) place) ∷ rest → h.mode ≡ Shared → h.bracket ≡ Opened
      → h.procedure.role ≡ Recovers → IsSoundBoot o.proof choices h k → HandsOver o k e → AtStep o h

module _ (o : Outline) (s : invariant.Run) (w : World) (role : Role) (f : Frame) (below : List Frame) (start : Env) (lower rest : Piece) (old : Mode) where
  abbrev At : Path → Type 0
  At h = Held o s w role f below h start lower rest old

  pub record Reached : Type 0 where
    pub path : Path
    pub held : At path
    pub step : AtStep o path

  -- a path after a move
  pub moved : (h : Path) (ks : List Path) (c : Env → Change) → IsSoundMove o.proof c h ks → (x : At h) → (place : ℕ) × (k : Path) × (slice_get ks place ≡ Some k) × (k.mode ≡ h.mode → At k)
  moved h ks c sound x =
      let a = sound w x.g start f rest x.seat in
      (a.place, a.path, a.among, λ same. held_on o s w role f below start lower rest old h ks (c x.seat.env) x a same)

  pub cut_move : (h k : Path) → IsSoundMove o.proof changes_nothing h (k ∷ []) → k.mode ≡ h.mode → At h → At k
  cut_move h k sound same x =
      let (place, p, among, held) = moved h (k ∷ []) changes_nothing sound x in
      let is = only_one k p place among in
      subst (λ q. At q) (sym is) (held (subst (λ q. q.mode ≡ h.mode) is same))

  mutual
    pub first_step : (h : Path) → Leads o false h → At h → Reached
    first_step h (by_move c ks sound all) x = let (place, k, among, held) = moved h ks c sound x in first_steps h ks all place k among held
    first_step h (by_step c ks may sound follow) x = record { path = h; held = x; step = step_at c ks may sound follow }
    first_step h (by_write ks may sound follow) x = record { path = h; held = x; step = write_at ks may sound follow }
    first_step h (by_call waiting callee behind given xs n may call block leads) x = record { path = h; held = x; step = call_at waiting callee behind given xs n may call block leads }
    first_step h (by_spawn k callee given n may shared sound beside serves mode bracket block leads) x =
        record { path = h; held = x; step = spawn_at k callee given n may shared sound beside serves mode bracket block leads }
    first_step h (by_return may role sound) x = record { path = h; held = x; step = return_at may role sound }
    first_step h (by_sharing k begins leads) x = first_step k leads (held_sharing o s w role f below start lower rest old h k begins x)
    first_step h (by_shared k recovers ends leads) x = first_step k leads (held_shared o s w role f below start lower rest old h k recovers ends x)
    first_step h (by_boot e place next choices k todo shared opened recovers sound hands) x = record { path = h; held = x; step = boot_at e place next choices k todo shared opened recovers sound hands }

    first_steps : (h : Path) (ks : List Path) → AllLead o false h ks → (place : ℕ) (k : Path) → slice_get ks place ≡ Some k → (k.mode ≡ h.mode → At k) → Reached
    first_steps h [] no_path place k among held = absurd cc
    first_steps h (k ∷ ks) (a_path mode used leads more) zero p among held =
        let is : k ≡ p = only_first k p ks among in first_step k leads (subst (λ q. At q) (sym is) (held (subst (λ q. q.mode ≡ h.mode) is mode)))
    first_steps h (k ∷ ks) (a_path mode used leads more) (suc place) p among held = first_steps h ks more place p among held

  mutual
    later_step : (h : Path) → IsJustified o → Leads o true h → At h → Reached
    later_step h j (by_move c ks sound all) x = let (place, k, among, held) = moved h ks c sound x in later_steps h ks j all place k among held
    later_step h j (by_cut n k block sound closed beside) x = first_step k (j.blocks n k block) (cut_move h k sound beside.mode x)
    later_step h j (by_step c ks may sound follow) x = record { path = h; held = x; step = step_at c ks may sound follow }
    later_step h j (by_write ks may sound follow) x = record { path = h; held = x; step = write_at ks may sound follow }
    later_step h j (by_call waiting callee behind given xs n may call block leads) x = record { path = h; held = x; step = call_at waiting callee behind given xs n may call block leads }
    later_step h j (by_spawn k callee given n may shared sound beside serves mode bracket block leads) x =
        record { path = h; held = x; step = spawn_at k callee given n may shared sound beside serves mode bracket block leads }
    later_step h j (by_return may role sound) x = record { path = h; held = x; step = return_at may role sound }
    later_step h j (by_sharing k begins leads) x = later_step k j leads (held_sharing o s w role f below start lower rest old h k begins x)
    later_step h j (by_shared k recovers ends leads) x = later_step k j leads (held_shared o s w role f below start lower rest old h k recovers ends x)
    later_step h j (by_boot e place next choices k todo shared opened recovers sound hands) x = record { path = h; held = x; step = boot_at e place next choices k todo shared opened recovers sound hands }

    later_steps : (h : Path) (ks : List Path) → IsJustified o → AllLead o true h ks → (place : ℕ) (k : Path) → slice_get ks place ≡ Some k → (k.mode ≡ h.mode → At k) → Reached
    later_steps h [] j no_path place k among held = absurd cc
    later_steps h (k ∷ ks) j (a_path mode used leads more) zero p among held =
        let is : k ≡ p = only_first k p ks among in later_step k j leads (subst (λ q. At q) (sym is) (held (subst (λ q. q.mode ≡ h.mode) is mode)))
    later_steps h (k ∷ ks) j (a_path mode used leads more) (suc place) p among held = later_steps h ks j more place p among held

  -- a frame at a path that leads on comes to its next step
  pub to_step : (b : Bool) (h : Path) → IsJustified o → Leads o b h → At h → Reached
  to_step true h j leads x = later_step h j leads x
  to_step false h j leads x = first_step h leads x

  -- ---- behind a step

  pub record IsClosed (h : Path) : Type 0 where
    pub path : Path
    pub held : At path
    pub leads : Leads o true path
    pub bracket : path.bracket ≡ Closed
    pub mode : path.mode ≡ h.mode

  differ : {b : Bracket} → b ≡ Used → b ≡ Closed → ⊥
  differ a b = let e : Used ≡ Closed = sym a ∙ b in cc

  opened : {b : Bracket} → b ≡ Used → b ≡ Opened → ⊥
  opened a b = let e : Used ≡ Opened = sym a ∙ b in cc

  closed_or_used : (b c : Bracket) → b ≡ Used → StaysUsed b c → (c ≡ Closed) ⊎ (c ≡ Used)
  closed_or_used b Closed e st = inl refl
  closed_or_used b Used e st = inr refl
  closed_or_used b Opened e st = absurd (subst (λ x. StaysUsed x Opened) e st)

  mutual
    closes : (h : Path) → Leads o true h → h.bracket ≡ Used → At h → IsClosed h
    closes h (by_move c ks sound all) used x = let (place, k, among, held) = moved h ks c sound x in all_close h ks all used place k among held
    closes h (by_cut n k block sound closed beside) used x = absurd (differ used closed)
    closes h (by_step c ks may sound follow) used x = absurd (may.bracket used)
    closes h (by_write ks may sound follow) used x = absurd (differ used may.bracket)
    closes h (by_call waiting callee behind given xs n may call block leads) used x = absurd (differ used may.bracket)
    closes h (by_spawn k callee given n may shared sound beside serves mode bracket block leads) used x = absurd (differ used may.bracket)
    closes h (by_return may role sound) used x = absurd (differ used may.bracket)
    closes h (by_sharing _ (begins_sharing left not_booted owned recovers closed drops free) leads) used x = absurd (differ used closed)
    closes h (by_shared _ recovers (ends_sharing left sharing closed takes) leads) used x = absurd (differ used closed)
    closes h (by_boot e place next choices k todo shared is_opened recovers sound hands) used x = absurd (opened used is_opened)

    all_close : (h : Path) (ks : List Path) → AllLead o true h ks → h.bracket ≡ Used → (place : ℕ) (k : Path) → slice_get ks place ≡ Some k → (k.mode ≡ h.mode → At k) → IsClosed h
    all_close h [] no_path used place k among held = absurd cc
    all_close h (k ∷ ks) (a_path mode stays leads more) used zero p among held =
        let is : k ≡ p = only_first k p ks among in
        let here = subst (λ q. At q) (sym is) (held (subst (λ q. q.mode ≡ h.mode) is mode)) in
        elim (closed_or_used h.bracket k.bracket used stays) [
          | inl closed ↦ record { path = k; held = here; leads = leads; bracket = closed; mode = mode }
          | inr still ↦ (let c = closes k leads still here in record { path = c.path; held = c.held; leads = c.leads; bracket = c.bracket; mode = c.mode ∙ mode })
        ]
    all_close h (k ∷ ks) (a_path mode stays leads more) used (suc place) p among held = all_close h ks more used place p among held

  -- a bracket that was opened for a step is closed again before any other event
  pub to_closed : (h : Path) → Leads o true h → (h.bracket ≡ Closed) ⊎ (h.bracket ≡ Used) → At h → IsClosed h
  to_closed h leads (inl closed) x = record { path = h; held = x; leads = leads; bracket = closed; mode = refl }
  to_closed h leads (inr used) x = closes h leads used x
