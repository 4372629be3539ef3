-- What a derivation keeps of the classes seen.
use Rattle.std.proofs.Common.{◌≡◌, ◌⊎◌, ⊎_elim, ℕ, suc, zero, ◌+◌, ◌≤◌, List, [], ◌∷◌, ◌++◌, length, take, refl, sym, ap, subst, ◌∙◌, arith, append_assoc}
use Rattle.std.proofs.lemmas.List.{append-nil, length-append}
use Rattle.gv_grammar.specs.declared.derivation.Advance.{Advance}
use Rattle.gv_grammar.specs.declared.derivation.Advance.TheVariants.{Taken, Refused, Finished}
use Rattle.gv_grammar.specs.declared.symbols.Symbol.{Symbol}
use Rattle.gv_grammar.specs.declared.symbols.Symbol.TheVariants.{Name}
use Rattle.gv_grammar.specs.declared.steps.Step.{Step}
use Rattle.gv_grammar.specs.Faults.{Begin}
use Rattle.gv_grammar.specs.Derivation.{Tables, Derives, Spells, IsViable, IsStuck, done}
use Rattle.gv_grammar.specs.Predictive.{MayBegin, certificate_of}
use Rattle.gv_grammar.specs.Engine.{IsSound, Narrows, Takes, Refuses, IsReading, Advances}
use Rattle.gv_grammar.specs.Outcomes.{IsDerivation, EndsEarly}
use Rattle.gv_grammar.proofs.Theory.{sound_start}
use Rattle.gv_grammar.proofs.Narrowing.{derives_nothing, shown_of}
use Rattle.gv_grammar.proofs.Ends.{ends}
use Rattle.gv_grammar.proofs.Depths.{counted, takes_append}
use Rattle.gv_grammar.specs.Levels.{takes_in}

-- nothing was read
pub reading_none : (g : Tables) (root : ℕ) → MayBegin g root → IsReading g root [] (Name root ∷ []) []
reading_none g root p = record { up = λ ps us d. d; down = λ ps us d. (ps, refl, d); sound = sound_start g (certificate_of g) (shown_of g p.0) root p.1 }

-- a class more was taken
pub reading_more : (g : Tables) (root : ℕ) (seen : List ℕ) (class : ℕ) (old new : List Symbol) (rules added rules' : List Step) → IsReading g root seen old rules
    → rules' ≡ rules ++ added → Takes g class old new added → IsSound g (certificate_of g) new → IsReading g root (seen ++ class ∷ []) new rules'
reading_more g root seen class old new rules added rules' r e t s = record {
  up = λ ps us d. rw (e, append_assoc, append_assoc seen (class ∷ []) us) (r.up (added ++ ps) (class ∷ us) (t.up ps us d));
  down = λ ps us d.
      let (rest, split, d') = r.down ps (class ∷ us) (rw (append_assoc seen (class ∷ []) us) at d) in
      let (after, more, same, split', d'') = t.down rest (class ∷ us) refl d' in
      let q : us ≡ more = cc in
      let p : ps ≡ rules' ++ after = rw (e, append_assoc) (split ∙ ap (λ xs. rules ++ xs) split') in
      (after, p, subst (λ (vs : List ℕ). Derives g new after vs) (sym q) d'');
  sound = s;
}

pub reading_viable : (g : Tables) (root : ℕ) (seen : List ℕ) (stack : List Symbol) (rules : List Step) → MayBegin g root → IsReading g root seen stack rules → IsViable g root seen
reading_viable g root seen stack rules p r = let (ps, us, d, q) = ends g (certificate_of g) (shown_of g p.0) stack r.sound.known in (rules ++ ps, us, r.up ps us d)

-- the class can't follow
pub reading_refused : (g : Tables) (root : ℕ) (seen : List ℕ) (class : ℕ) (stack : List Symbol) (rules : List Step) → IsReading g root seen stack rules → Refuses g class stack → IsStuck g root (seen ++ class ∷ [])
reading_refused g root seen class stack rules r h ps us d =
    let (rest, split, d') = r.down ps (class ∷ us) (rw (append_assoc seen (class ∷ []) us) at d) in h rest (class ∷ us) refl d'

-- nothing can follow
pub reading_finished : (g : Tables) (root : ℕ) (seen : List ℕ) (class : ℕ) (stack : List Symbol) (rules added : List Step) → IsReading g root seen stack rules → Narrows g class stack [] added → IsStuck g root (seen ++ class ∷ [])
reading_finished g root seen class stack rules added r h ps us d =
    let (rest, split, d') = r.down ps (class ∷ us) (rw (append_assoc seen (class ∷ []) us) at d) in
    let (after, split', d'') = h.down rest (class ∷ us) refl d' in
    let n = derives_nothing g after (class ∷ us) d'' in
    let e : class ∷ us ≡ [] = n.1 in cc

-- at the end
pub reading_whole : (g : Tables) (root : ℕ) (seen : List ℕ) (stack : List Symbol) (rules added rules' : List Step) → IsReading g root seen stack rules → rules' ≡ rules ++ added → Narrows g 0 stack [] added → IsDerivation g root rules' seen
reading_whole g root seen stack rules added rules' r e h = record {
  derives =
      let d : Spells g root (rules ++ (added ++ [])) (seen ++ []) = r.up (added ++ []) [] (h.up [] [] done) in
      let q : rules ++ (added ++ []) ≡ rules' = ap (λ xs. rules ++ xs) (append-nil added) ∙ sym e in
      rw (append-nil seen) at (rw q at d);
  only = λ ps d.
      let (rest, split, d') = r.down ps [] (rw (append-nil seen) d) in
      let (after, split', d'') = h.down rest [] refl d' in
      let n = (derives_nothing g after [] d'').0 in
      split ∙ (ap (λ xs. rules ++ xs) (split' ∙ (ap (λ xs. added ++ xs) n ∙ append-nil added)) ∙ sym e);
}

pub reading_ends : (g : Tables) (root : ℕ) (seen : List ℕ) (stack : List Symbol) (rules : List Step) → MayBegin g root → IsReading g root seen stack rules → Refuses g 0 stack → EndsEarly g root seen
reading_ends g root seen stack rules p r h = record {
  viable = reading_viable g root seen stack rules p r;
  not_whole = λ ps d. let (rest, split, d') = r.down ps [] (rw (append-nil seen) d) in h rest [] refl d';
}

-- a class 0 stands nowhere
pub reading_taken : (g : Tables) (root : ℕ) (seen : List ℕ) (stack : List Symbol) (rules : List Step) → MayBegin g root → IsReading g root seen stack rules
    → (new : List Symbol) (added : List Step) → Takes g 0 stack new added → EndsEarly g root seen
reading_taken g root seen stack rules p r new added t = record {
  viable = reading_viable g root seen stack rules p r;
  not_whole = λ ps d.
      let (rest, split, d') = r.down ps [] (rw (append-nil seen) d) in
      let (after, more, same, split', d'') = t.down rest [] refl d' in
      cc;
}

pub take_all : (xs : List ℕ) (i : ℕ) → length xs ≤ i → take i xs ≡ xs
take_all [] zero h = refl
take_all [] (suc i) h = refl
take_all (x ∷ xs) zero h = absurd (omega arith)
take_all (x ∷ xs) (suc i) h = ap (λ ys. x ∷ ys) (take_all xs i (omega arith))

pub reading_begins : (g : Tables) (root : ℕ) (seen : List ℕ) (stack : List Symbol) (rules : List Step) → MayBegin g root → IsReading g root seen stack rules → Begin g root seen rules
reading_begins g root seen stack rules p r = record {
  front = λ others more d. let (rest, split, d') = r.down others more d in (rest, split);
  count =
      let (ps, us, d, q) = ends g (certificate_of g) (shown_of g p.0) stack r.sound.known in
      let a = counted d in
      let b : takes_in rules + takes_in ps ≡ length seen + length us = rw (takes_append rules ps, length-append seen us) at (counted (r.up ps us d)) in
      omega (arith, a, b);
}

-- what was kept of the steps
pub kept_front : (steps added steps' : List Step) → steps' ≡ steps ++ added → take (length steps) steps' ≡ steps
kept_front steps added steps' e = ap (take (length steps)) e ∙ take-append-length steps added
  where
    take-append-length : (xs ys : List Step) → take (length xs) (xs ++ ys) ≡ xs
    take-append-length [] ys = refl
    take-append-length (x ∷ xs) ys = ap (λ zs. x ∷ zs) (take-append-length xs ys)

pub begin_kept : (g : Tables) (root : ℕ) (seen : List ℕ) (stack : List Symbol) (steps added steps' front : List Step) (kept : ℕ) → kept ≡ length steps → MayBegin g root → IsReading g root seen stack steps → steps' ≡ steps ++ added → front ≡ take kept steps' → Begin g root seen front
begin_kept g root seen stack steps added steps' front kept k p r e f = subst (λ (ps : List Step). Begin g root seen ps) (sym (f ∙ ap (λ (n : ℕ). take n steps') k ∙ kept_front steps added steps' e)) (reading_begins g root seen stack steps p r)

-- a class that wasn't taken can't follow
pub not_taken : (g : Tables) (root : ℕ) (seen : List ℕ) (class : ℕ) (old new : List Symbol) (steps steps' : List Step) (advance : Advance) → IsReading g root seen old steps → Advances g class old new steps steps' advance
    → (advance ≡ Refused) ⊎ (advance ≡ Finished) → (added : List Step) × (steps' ≡ steps ++ added) × IsStuck g root (seen ++ class ∷ [])
not_taken g root seen class old new steps steps' advance r a h =
    ⊎_elim (λ (e : advance ≡ Refused). let b : Advances g class old new steps steps' Refused = subst (Advances g class old new steps steps') e a in (b.0, b.1, reading_refused g root seen class old steps r b.2))
    (λ (e : advance ≡ Finished). let b : Advances g class old new steps steps' Finished = subst (Advances g class old new steps steps') e a in (b.0, b.1, reading_finished g root seen class old steps b.0 r b.2)) h

-- at the end, a stack that isn't finished lacks something
pub not_finished : (g : Tables) (root : ℕ) (seen : List ℕ) (old new : List Symbol) (steps steps' : List Step) (advance : Advance) → MayBegin g root → IsReading g root seen old steps → Advances g 0 old new steps steps' advance
    → (advance ≡ Refused) ⊎ (advance ≡ Taken) → (added : List Step) × (steps' ≡ steps ++ added) × EndsEarly g root seen
not_finished g root seen old new steps steps' advance p r a h =
    ⊎_elim (λ (e : advance ≡ Refused). let b : Advances g 0 old new steps steps' Refused = subst (Advances g 0 old new steps steps') e a in (b.0, b.1, reading_ends g root seen old steps p r b.2))
    (λ (e : advance ≡ Taken). let b : Advances g 0 old new steps steps' Taken = subst (Advances g 0 old new steps steps') e a in (b.0, b.1, reading_taken g root seen old steps p r new b.0 b.2)) h
