-- The worked runs and walks, computed.
use Rattle.std.proofs.Common.{◌≡◌, ◌-◌, ◌^◌, ℕ, List, [], ◌∷◌, Some, refl, arith}
use Rattle.gv_spec.specs.Event as event
use Rattle.gv_spec.specs.Event.{Event}
use Rattle.gv_spec.specs.Entry as entry
use Rattle.gv_spec.specs.Examples.{TwoCalls, CrashedCall, StartedThreads, WrongPackage, Refusals, Choices, SecondFailure, adding}
use Rattle.gv_spec.specs.Plain.{unless_chosen}
use Rattle.gv_spec.proofs.WalkLaws.{no_wrong_reply}
use Rattle.gv_spec.proofs.PlainLaws.{chosen_reply}

pub two_calls_run : TwoCalls
two_calls_run = record {
  history = refl;
  defined = refl;
  made = refl;
  booted = refl;
  under_way = refl;
  all_ended = refl;
  explained = refl;
  explained_late = refl;
  growing = refl;
  first_acted = refl;
  second_acted = refl;
  first_answered = refl;
  before_boot = refl;
  one_argument = refl;
  has_ended = refl;
  no_disk = refl;
  no_thread = refl;
  no_operation = refl;
  too_large = refl;
}

pub crashed_call_run : CrashedCall
crashed_call_run = record { history = refl; was_dropped = refl }

pub walk_refusals : Refusals
walk_refusals = record {
  not_acted = refl;
  missing = refl;
  order = refl;
  wrong_reply = refl;
  acted_already = refl;
  not_called = refl;
  repeated = refl;
  left_behind = refl;
  helped = refl;
  none_explains = no_wrong_reply (Unit {0}) ℕ adding 1 0 (1 ∷ 2 ∷ []) 4 (entry.Boot ∷ []) [] [] (λ choices fields then e. four choices fields then e);
}
  where
    four : (choices : List ℕ) (fields then : Unit {0}) → unless_chosen {A = Unit {0} × ℕ} choices (fields, 3) ≡ Some (then, 4) → ⊥
    four choices fields then e = (let replies : ◌≡◌ {A = ℕ} 3 4 = chosen_reply choices fields then 3 4 e in omega (arith, replies))

pub drawn_choices : Choices
drawn_choices = record {
  explained = refl;
  largest = refl;
  its_bound = refl;
  none = refl;
  two = refl;
  not_asked = refl;
  another_reply = refl;
  kept = refl;
  cleared = refl;
  beyond = refl;
  no_choice = refl;
  not_called_first = refl;
  acted_first = refl;
  order_first = refl;
}

pub started_threads : StartedThreads
started_threads = record { second = refl; no_boot = refl; history = refl; ended = refl }

pub second_failure : SecondFailure
second_failure = record { no_third_disk = refl; second = refl; after_crash = refl }

-- one call of it answers what no act of a sum replies
pub wrong_package : WrongPackage
wrong_package refines =
    let events : List (Event ℕ) = event.Step 1 0 ∷ event.Step 1 0 ∷ event.Call 0 (1 ∷ 2 ∷ []) ∷ event.Step 2 0 ∷ [] in
    let x = refines events ((λ h. cc), ((λ h. cc), ((λ h. cc), ((λ h. cc), tt)))) in
    no_wrong_reply (Unit {0}) ℕ adding 1 0 (1 ∷ 2 ∷ []) (2 ^ 64 - 1) (entry.Boot ∷ []) [] []
    (λ choices fields then e. let replies : ◌≡◌ {A = ℕ} 3 (2 ^ 64 - 1) = chosen_reply choices fields then 3 (2 ^ 64 - 1) e in omega (arith, replies)) x.moves x.explains
