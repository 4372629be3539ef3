-- What a bounded state says of its parts.
use Rattle.std.proofs.Common.{◌≡◌, ℕ, zero, suc, Bool, true, false, List, [], ◌∷◌, ◌++◌, Option, Some, None, refl, sym, ap, ◌∙◌}
use Rattle.std.specs.Prelude.{◌&&◌}
use Rattle.std.specs.List.{list_all}
use Rattle.std.proofs.lemmas.Bool.{and_parts}
use Rattle.gv_world.specs.Store.{is_within_limit}
use Rattle.gv_lang.specs.Threads.{Thread}
use Rattle.gv_spec.specs.Runs.{Role, living}
use Rattle.gv_runs.specs.Laws.{State}
use Rattle.gv_steps.specs.Bounds.{is_bounded_store, is_bounded_thread}
use Rattle.gv_machine.specs.Bounded.{is_bounded_slot, is_bounded_receiver, is_bounded}
use Rattle.gv_machine.proofs.Going.{living_room}

pub record Parts (s : State) : Type 0 where
  pub within : is_within_limit s.world ≡ true
  pub store : is_bounded_store s.world ≡ true
  pub receiver : is_bounded_receiver s.receiver ≡ true
  pub threads : list_all is_bounded_slot s.threads ≡ true

pub parts : (s : State) → is_bounded s ≡ true → Parts s
parts s h =
    let first = and_parts (is_within_limit s.world && is_bounded_store s.world && is_bounded_receiver s.receiver) (list_all is_bounded_slot s.threads) h in
    let second = and_parts (is_within_limit s.world && is_bounded_store s.world) (is_bounded_receiver s.receiver) first.0 in
    let third = and_parts (is_within_limit s.world) (is_bounded_store s.world) second.0 in
    record { within = third.0; store = third.1; receiver = second.1; threads = first.1 }

living_bounded : (ts : List (Option (Role × Thread))) (number : ℕ) (r : Role × Thread) → list_all is_bounded_slot ts ≡ true → living ts number ≡ Some r
    → is_bounded_thread r.1 ≡ true
living_bounded ts zero r h e = absurd cc
living_bounded [] (suc n) r h e = absurd cc
living_bounded (t ∷ ts) (suc zero) r h e =
    ap is_bounded_slot (sym e) ∙ (and_parts (is_bounded_slot t) (list_all is_bounded_slot ts) h).0
living_bounded (t ∷ ts) (suc (suc n)) r h e = living_bounded ts (suc n) r (and_parts (is_bounded_slot t) (list_all is_bounded_slot ts) h).1 e

pub thread_bounded : (s : State) (number : ℕ) (first : List (Option (Role × Thread))) (r : Role × Thread) → is_bounded s ≡ true
    → first ≡ s.threads ++ None ∷ [] → Some r ≡ living first number → is_bounded_thread r.1 ≡ true
thread_bounded s number first r h room found =
    living_bounded s.threads number r (parts s h).threads (sym (living_room s.threads number) ∙ ap (λ ts. living ts number) (sym room) ∙ sym found)
