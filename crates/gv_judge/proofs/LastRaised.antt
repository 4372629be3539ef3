-- How far the search for the last number that can be raised has come.
use Rattle.std.proofs.Common.{◌≡◌, ℕ, zero, suc, ◌+◌, ◌<◌, ◌≤◌, ◌^◌, List, [], ◌∷◌, ◌++◌, length, Bool, true, false, Option, Some, None, refl, sym, ap, subst, ◌∙◌, arith, append-nil, append_assoc, take, drop}
use Rattle.std.specs.Prelude.{slice_index, option_map, IfSome, IsTrue}
use Rattle.gv_terms.specs.declared.tree.TermTree.{TermTree}
use Rattle.gv_terms.specs.declared.value.Binding.{Binding}
use Rattle.gv_atomic.specs.declared.spec.Pick.{Pick}
use Rattle.gv_atomic.specs.Choices.{picked, limit_of, picks_bound}
use Rattle.gv_atomic.specs.Specification.{ArePicksWithin}
use Rattle.gv_judge.specs.Choosing.{how_many}
use Rattle.gv_judge.specs.Later.{first_list, later_lists, lists_from, raised_list, CanRise}
use Rattle.gv_judge.proofs.Later.{outer, later_outer, not_raised, raised}

-- the picks and the choices that were gone over, with what is told of the last one
pub record HasCome (ts : List TermTree) (before : List Binding) (picks : List Pick) (choices : List ℕ) (now : List Binding) (left : List Pick) (others : List ℕ) (at : ℕ) (last : Option ℕ) : Type 0 where
  pub within : ArePicksWithin ts left
  pub done : List Pick
  pub beginning : List ℕ
  pub picks_are : picks ≡ done ++ left
  pub choices_are : choices ≡ beginning ++ others
  pub picks_long : length done ≡ at
  pub choices_long : length beginning ≡ at
  pub bound : now ≡ before ++ picks_bound done beginning
  pub told : outer ts before picks beginning ≡ lists_from ts before picks (option_map (raised_list picks choices) last)
  pub rises : IfSome last (λ k. CanRise picks choices k)

take_front : {A : Type 0} (n : ℕ) (xs ys : List A) → length xs ≡ n → take n (xs ++ ys) ≡ xs
take_front zero [] ys long = refl
take_front zero (x ∷ xs) ys long = absurd (omega (arith, long))
take_front (suc n) [] ys long = absurd (omega (arith, long))
take_front (suc n) (x ∷ xs) ys long = ap (λ l. x ∷ l) (take_front n xs ys (omega (arith, long)))

drop_front : {A : Type 0} (n : ℕ) (xs : List A) (y : A) (ys : List A) → length xs ≡ n → drop (suc n) (xs ++ y ∷ ys) ≡ ys
drop_front zero [] y ys long = refl
drop_front zero (x ∷ xs) y ys long = absurd (omega (arith, long))
drop_front (suc n) [] y ys long = absurd (omega (arith, long))
drop_front (suc n) (x ∷ xs) y ys long = drop_front n xs y ys (omega (arith, long))

index_front : (n : ℕ) (xs : List ℕ) (y : ℕ) (ys : List ℕ) → length xs ≡ n → slice_index (xs ++ y ∷ ys) n ≡ y
index_front zero [] y ys long = refl
index_front zero (x ∷ xs) y ys long = absurd (omega (arith, long))
index_front (suc n) [] y ys long = absurd (omega (arith, long))
index_front (suc n) (x ∷ xs) y ys long = index_front n xs y ys (omega (arith, long))

long_more : {A : Type 0} (xs : List A) (y : A) (ys : List A) → length xs < length (xs ++ y ∷ ys)
long_more [] y ys = omega arith
long_more (x ∷ xs) y ys = (let rest = long_more xs y ys in omega (arith, rest))

long_one : {A : Type 0} (xs : List A) (y : A) → length (xs ++ y ∷ []) ≡ length xs + 1
long_one [] y = omega arith
long_one (x ∷ xs) y = (let rest = long_one xs y in omega (arith, rest))

bound_one : (done : List Pick) (p : Pick) (beginning : List ℕ) (c : ℕ) → length done ≡ length beginning
    → picks_bound (done ++ p ∷ []) (beginning ++ c ∷ []) ≡ picks_bound done beginning ++ picked p c ∷ []
bound_one [] p [] c long = refl
bound_one [] p (d ∷ beginning) c long = absurd (omega (arith, long))
bound_one (q ∷ done) p [] c long = absurd (omega (arith, long))
bound_one (q ∷ done) p (d ∷ beginning) c long = ap (λ l. picked q d ∷ l) (bound_one done p beginning c (omega (arith, long)))

module _ (ts : List TermTree) (before : List Binding) (picks : List Pick) (choices : List ℕ) where
  none_outer : (ps : List Pick) → outer ts before ps [] ≡ []
  none_outer [] = refl
  none_outer (p ∷ ps) = refl

  pub begun : ArePicksWithin ts picks → HasCome ts before picks choices before picks choices 0 None
  begun within = record {
    within = within;
    done = [];
    beginning = [];
    picks_are = refl;
    choices_are = refl;
    picks_long = refl;
    choices_long = refl;
    bound = sym (append-nil before);
    told = none_outer picks;
    rises = tt;
  }

  pub ended : (now : List Binding) (left : List Pick) (others : List ℕ) (at : ℕ) (last : Option ℕ) → HasCome ts before picks choices now left others at last
      → later_lists ts now left others ≡ [] → later_lists ts before picks choices ≡ lists_from ts before picks (option_map (raised_list picks choices) last)
  ended now left others at last h none =
      let long = h.picks_long ∙ sym h.choices_long in
      let rest : later_lists ts (before ++ picks_bound h.done h.beginning) left others ≡ [] = subst (λ b. later_lists ts b left others ≡ []) h.bound none in
      ap (λ ps. later_lists ts before ps choices) h.picks_are ∙ ap (λ cs. later_lists ts before (h.done ++ left) cs) h.choices_are
      ∙ later_outer ts before h.done left h.beginning others long rest
      ∙ ap (λ ps. outer ts before ps h.beginning) (sym h.picks_are) ∙ h.told

  module _ (now next : List Binding) (left rest : List Pick) (others more : List ℕ) (at : ℕ) (last : Option ℕ) (p : Pick) (c : ℕ)
      (h : HasCome ts before picks choices now left others at last) (left_is : left ≡ p ∷ rest) (others_are : others ≡ c ∷ more) (to : next ≡ now ++ picked p c ∷ [])
      (within : ArePicksWithin ts rest) where
    long : length h.done ≡ length h.beginning
    long = h.picks_long ∙ sym h.choices_long

    picks_split : picks ≡ h.done ++ p ∷ rest
    picks_split = h.picks_are ∙ ap (λ l. h.done ++ l) left_is

    choices_split : choices ≡ h.beginning ++ c ∷ more
    choices_split = h.choices_are ∙ ap (λ l. h.beginning ++ l) others_are

    raised_is : raised_list picks choices at ≡ h.beginning ++ (c + 1) ∷ first_list rest
    raised_is =
        let own : raised_list (h.done ++ p ∷ rest) (h.beginning ++ c ∷ more) at ≡ h.beginning ++ (c + 1) ∷ first_list rest =
        ap (λ b. b ++ (slice_index (h.beginning ++ c ∷ more) at + 1) ∷ first_list (drop (at + 1) (h.done ++ p ∷ rest))) (take_front at h.beginning (c ∷ more) h.choices_long)
        ∙ ap (λ d. h.beginning ++ (d + 1) ∷ first_list (drop (at + 1) (h.done ++ p ∷ rest))) (index_front at h.beginning c more h.choices_long)
        ∙ ap (λ ps. h.beginning ++ (c + 1) ∷ first_list ps) (dropped at (h.done) h.picks_long) in
        ap (λ ps. raised_list ps choices at) picks_split ∙ ap (λ cs. raised_list (h.done ++ p ∷ rest) cs at) choices_split ∙ own
      where
        dropped : (at : ℕ) (done : List Pick) → length done ≡ at → drop (at + 1) (done ++ p ∷ rest) ≡ rest
        dropped at done e = (let one : at + 1 ≡ suc at = omega arith in ap (λ k. drop k (done ++ p ∷ rest)) one ∙ drop_front at done p rest e)

    come : (last : Option ℕ) → outer ts before picks (h.beginning ++ c ∷ []) ≡ lists_from ts before picks (option_map (raised_list picks choices) last)
        → IfSome last (λ k. CanRise picks choices k) → HasCome ts before picks choices next rest more (at + 1) last
    come last told rises = record {
      within = within;
      done = h.done ++ p ∷ [];
      beginning = h.beginning ++ c ∷ [];
      picks_are = picks_split ∙ sym (append_assoc h.done (p ∷ []) rest);
      choices_are = choices_split ∙ sym (append_assoc h.beginning (c ∷ []) more);
      picks_long = (let one = long_one h.done p in let e = h.picks_long in omega (arith, one, e));
      choices_long = (let one = long_one h.beginning c in let e = h.choices_long in omega (arith, one, e));
      bound = to ∙ ap (λ b. b ++ picked p c ∷ []) h.bound ∙ append_assoc before (picks_bound h.done h.beginning) (picked p c ∷ [])
          ∙ ap (λ b. before ++ b) (sym (bound_one h.done p h.beginning c long));
      told = told;
      rises = rises;
    }

    pub went_on : how_many (limit_of ts now p) ≤ c + 1 → HasCome ts before picks choices next rest more (at + 1) last
    went_on high =
        let high_so : how_many (limit_of ts (before ++ picks_bound h.done h.beginning) p) ≤ c + 1 = subst (λ b. how_many (limit_of ts b p) ≤ c + 1) h.bound high in
        let same : outer ts before picks (h.beginning ++ c ∷ []) ≡ outer ts before picks h.beginning =
        subst (λ ps. outer ts before ps (h.beginning ++ c ∷ []) ≡ outer ts before ps h.beginning) (sym picks_split) (not_raised ts before h.done p rest h.beginning c long high_so) in
        come last (same ∙ h.told) h.rises

    pub went_on_higher : c + 1 < how_many (limit_of ts now p) → c + 1 < 2 ^ 64 → HasCome ts before picks choices next rest more (at + 1) (Some at)
    went_on_higher low word =
        let low_so : c + 1 < how_many (limit_of ts (before ++ picks_bound h.done h.beginning) p) = subst (λ b. c + 1 < how_many (limit_of ts b p)) h.bound low in
        let told : outer ts before picks (h.beginning ++ c ∷ []) ≡ lists_from ts before picks (Some (h.beginning ++ (c + 1) ∷ first_list rest)) =
        subst (λ ps. outer ts before ps (h.beginning ++ c ∷ []) ≡ lists_from ts before ps (Some (h.beginning ++ (c + 1) ∷ first_list rest))) (sym picks_split)
        (raised ts before h.done p rest h.beginning c long low_so) in
        come (Some at) (told ∙ ap (λ cs. lists_from ts before picks (Some cs)) (sym raised_is)) (record {
          pick = (let more = long_more h.done p rest in let e = h.picks_long in let all : length picks ≡ length (h.done ++ p ∷ rest) = ap length picks_split in omega (arith, more, e, all));
          choice = (let over = long_more h.beginning c more in let e = h.choices_long in let all : length choices ≡ length (h.beginning ++ c ∷ more) = ap length choices_split in omega (arith, over, e, all));
          word = (let i : slice_index choices at ≡ c = ap (λ cs. slice_index cs at) choices_split ∙ index_front at h.beginning c more h.choices_long in omega (arith, i, word));
        })

-- without a pick, or without a choice, nothing comes later
pub no_choices : (ts : List TermTree) (now : List Binding) (left : List Pick) (others : List ℕ) → length others < 1 → later_lists ts now left others ≡ []
no_choices ts now [] others h = refl
no_choices ts now (p ∷ left) [] h = refl
no_choices ts now (p ∷ left) (c ∷ others) h = absurd (omega (arith, h))

pub no_picks : (ts : List TermTree) (now : List Binding) (left : List Pick) (others : List ℕ) → length left < 1 → later_lists ts now left others ≡ []
no_picks ts now [] others h = refl
no_picks ts now (p ∷ left) others h = absurd (omega (arith, h))

pub told_true : (b : Bool) → b ≡ true → IsTrue b
told_true b e = e

pub told_false : (b : Bool) → b ≡ false → IsTrue b → ⊥
told_false b e h = (let clash = sym e ∙ h in cc)

pub not_below : (n m : ℕ) → (n < m → ⊥) → m ≤ n
not_below n zero h = omega arith
not_below zero (suc m) h = absurd (h (omega arith))
not_below (suc n) (suc m) h = (let le = not_below n m (λ lt. h (omega (arith, lt))) in omega (arith, le))
