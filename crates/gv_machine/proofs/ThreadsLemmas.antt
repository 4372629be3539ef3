-- Slots of threads that change.
use Rattle.std.proofs.Common.{◌≡◌, ℕ, zero, suc, ◌+◌, ◌-◌, ◌<◌, ◌≤◌, List, [], ◌∷◌, ◌++◌, Option, Some, None, length, map, replicate, take, get_or, refl, sym, ap, ◌∙◌, arith, append_assoc, length-append}
use Rattle.std.specs.Prelude.{slice_get, option_map, option_and_then}
use Rattle.std.proofs.Math.ListN.{set}
use Rattle.std.proofs.lemmas.List.{map-append, map-set, length-map, length-replicate, set_at, take_at, same_from_push, take_more, take_all}
use Rattle.std.proofs.lemmas.Option.{slice_get-map, slice_get_read}
use Rattle.gv_lang.specs.Threads as plain
use Rattle.gv_spec.specs.Runs.{Role, Recovers, living, replaced}
use Rattle.gv_machine.specs.declared.running.Running.{Running}
use Rattle.gv_machine.specs.Seen.{slot_of}
use Rattle.gv_machine.proofs.Slots.{slot_living, slot_replaced, all_dropped}

-- threads under their numbers
abbrev pub under_numbers : ℕ → List (Option Running) → List (Option (Role × plain.Thread))
under_numbers d items = replicate d None ++ map slot_of items

pub slot_is : (d : ℕ) (items : List (Option Running)) (number at : ℕ) (slot : Option Running) → at < length items → number ≡ suc (d + at)
    → slot ≡ get_or items at slot → slot_of slot ≡ living (under_numbers d items) number
slot_is d items number at slot lt e read =
    sym (slot_living d (map slot_of items) number at e
    ∙ ap (option_and_then (λ thread. thread)) (slice_get-map slot_of items at ∙ ap (option_map slot_of) (slice_get_read items (length items) at slot refl lt read)))

pub set_slot : (d : ℕ) (items : List (Option Running)) (number at : ℕ) (slot : Option Running) → number ≡ suc (d + at)
    → under_numbers d (set items at slot) ≡ replaced (under_numbers d items) number (slot_of slot)
set_slot d items number at slot e =
    ap (λ xs. replicate d None ++ xs) (map-set slot_of items at slot) ∙ sym (slot_replaced d (map slot_of items) number at (slot_of slot) e)

pub push_slot : (d : ℕ) (items : List (Option Running)) (slot : Option Running)
    → under_numbers d (items ++ slot ∷ []) ≡ under_numbers d items ++ slot_of slot ∷ []
push_slot d items slot =
    ap (λ xs. replicate d None ++ xs) (map-append slot_of items (slot ∷ [])) ∙ sym (append_assoc (replicate d None) (map slot_of items) (slot_of slot ∷ []))

pub crash_slots : (d : ℕ) (items : List (Option Running)) (last : Option (Role × plain.Thread))
    → replicate (d + length items) None ++ last ∷ [] ≡ map (λ (thread : Option (Role × plain.Thread)). let none : Option (Role × plain.Thread) = None in none) (under_numbers d items) ++ last ∷ []
crash_slots d items last =
    let count : d + length items ≡ d + length (map slot_of items) = omega (arith, length-map items slot_of) in
    ap (λ xs. xs ++ last ∷ []) (ap (λ n. replicate n None) count ∙ sym (all_dropped d (map slot_of items)))

-- the last slot, in front of which the others stand
front_of : (d n : ℕ) (items : List (Option Running)) (front : List (Option (Role × plain.Thread))) (x : Option Running) → length items ≡ suc n
    → under_numbers d items ≡ front ++ None ∷ [] → under_numbers d (take n items) ≡ front
front_of d n items front x e is =
    let split : items ≡ take n items ++ get_or items n x ∷ [] = sym (take_all (n + 1) items (omega arith)) ∙ take_more items n x (omega arith) in
    let both : under_numbers d (take n items) ++ slot_of (get_or items n x) ∷ [] ≡ front ++ None ∷ [] =
    sym (ap (under_numbers d) split ∙ push_slot d (take n items) (get_or items n x)) ∙ is in
    (same_from_push (under_numbers d (take n items)) front (slot_of (get_or items n x)) None both).0

pub slot_dropped : (d : ℕ) (items : List (Option Running)) (front : List (Option (Role × plain.Thread))) → 0 < length items
    → under_numbers d items ≡ front ++ None ∷ [] → under_numbers d (take (length items - 1) items) ≡ front ++ []
slot_dropped d items front some is = front_of d (length items - 1) items front None (omega arith) is ∙ sym (append_nil front)
  where
    append_nil : (xs : List (Option (Role × plain.Thread))) → xs ++ [] ≡ xs
    append_nil [] = refl
    append_nil (x ∷ xs) = ap (λ ys. x ∷ ys) (append_nil xs)

pub slot_filled : (d : ℕ) (items : List (Option Running)) (front : List (Option (Role × plain.Thread))) (slot : Option Running) → 0 < length items
    → under_numbers d items ≡ front ++ None ∷ [] → under_numbers d (set items (length items - 1) slot) ≡ front ++ slot_of slot ∷ []
slot_filled d items front slot some is =
    let n = length items - 1 in
    let split : items ≡ take n items ++ get_or items n slot ∷ [] = sym (take_all (n + 1) items (omega arith)) ∙ take_more items n slot (omega arith) in
    let made : set items n slot ≡ take n items ++ slot ∷ [] =
    ap (λ xs. set xs n slot) split ∙ set_at (take n items) (get_or items n slot) [] slot n (length-front items n (omega arith)) in
    ap (under_numbers d) made ∙ push_slot d (take n items) slot ∙ ap (λ xs. xs ++ slot_of slot ∷ []) (front_of d n items front slot (omega arith) is)
  where
    length-front : (xs : List (Option Running)) (n : ℕ) → n ≤ length xs → length (take n xs) ≡ n
    length-front xs zero h = refl
    length-front [] (suc n) h = absurd (omega arith)
    length-front (x ∷ xs) (suc n) h = ap suc (length-front xs n (omega arith))
