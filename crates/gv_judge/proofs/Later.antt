-- The order of the lists of choices, one after another.
use Rattle.std.proofs.Common.{◌≡◌, ℕ, ◌+◌, ◌-◌, ◌<◌, ◌≤◌, ◌^◌, zero, suc, Bool, true, false, cond, eqb, nat_lt, List, [], ◌∷◌, ◌++◌, map, length, Some, refl, sym, ap, subst, ◌∙◌, arith, inl, append-nil, append_assoc}
use Rattle.gv_terms.specs.declared.tree.TermTree.{TermTree}
use Rattle.gv_terms.specs.declared.value.Binding.{Binding}
use Rattle.gv_atomic.specs.declared.spec.Pick.{Pick}
use Rattle.gv_atomic.specs.Choices.{picked, limit_of, picks_bound, are_allowed}
use Rattle.gv_judge.specs.Search.{count_up}
use Rattle.gv_judge.specs.SearchLaws.{IsIn}
use Rattle.gv_judge.specs.Choosing.{how_many, words_within, allowed_lists}
use Rattle.gv_judge.specs.Later.{words_from, lists_beginning, first_list, later_lists, lists_from, IsListed}
use Rattle.gv_judge.proofs.Members.{in_right}
use Rattle.gv_judge.proofs.Choosing.{allowed_in}

-- ---- lists put together

pub map_append : {A B : Type 0} (f : A → B) (xs ys : List A) → map f (xs ++ ys) ≡ map f xs ++ map f ys
map_append f [] ys = refl
map_append f (x ∷ xs) ys = ap (λ l. f x ∷ l) (map_append f xs ys)

pub map_twice : {A B C : Type 0} (f : A → B) (g : B → C) (xs : List A) → map g (map f xs) ≡ map (λ x. g (f x)) xs
map_twice f g [] = refl
map_twice f g (x ∷ xs) = ap (λ l. g (f x) ∷ l) (map_twice f g xs)

pub map_same : {A : Type 0} (xs : List A) → map (λ x. x) xs ≡ xs
map_same [] = refl
map_same (x ∷ xs) = ap (λ l. x ∷ l) (map_same xs)

-- ---- words

positive : (n : ℕ) → eqb n 0 ≡ false → 1 ≤ n
positive zero e = absurd cc
positive (suc n) e = omega arith

some_fit : (limit : ℕ) → 1 ≤ how_many limit
some_fit limit = go (nat_lt limit (2 ^ 64)) (eqb limit 0) refl
  where
    go : (s t : Bool) → eqb limit 0 ≡ t → 1 ≤ cond s (cond t 1 limit) (2 ^ 64)
    go false t e = omega arith
    go true true e = omega arith
    go true false e = positive limit e

counted_all : (n : ℕ) → 1 ≤ n → count_up n 0 ≡ 0 ∷ count_up (n - 1) 1
counted_all n le = (let e : n ≡ suc (n - 1) = omega (arith, le) in ap (λ k. count_up k 0) e)

counted_from : (n word : ℕ) → word < n → count_up (n - word) word ≡ word ∷ count_up (n - (word + 1)) (word + 1)
counted_from n word lt = (let e : n - word ≡ suc (n - (word + 1)) = omega (arith, lt) in ap (λ k. count_up k word) e)

none_from : (n word : ℕ) → n ≤ word → count_up (n - word) word ≡ []
none_from n word le = (let e : n - word ≡ 0 = omega (arith, le) in ap (λ k. count_up k word) e)

pub words_go_on : (limit word : ℕ) → word < how_many limit → words_from limit word ≡ word ∷ words_from limit (word + 1)
words_go_on limit word lt = counted_from (how_many limit) word lt

pub words_end : (limit word : ℕ) → how_many limit ≤ word → words_from limit word ≡ []
words_end limit word le = none_from (how_many limit) word le

-- ---- lists

module _ (ts : List TermTree) where
  beginning_more : (before : List Binding) (p : Pick) (picks : List Pick) (c : ℕ) (words : List ℕ)
      → lists_beginning ts before p picks (c ∷ words) ≡ map (λ cs. c ∷ cs) (allowed_lists ts (before ++ picked p c ∷ []) picks) ++ lists_beginning ts before p picks words
  beginning_more before p picks c words = refl

  pub first_of_all : (before : List Binding) (picks : List Pick) → allowed_lists ts before picks ≡ first_list picks ∷ later_lists ts before picks (first_list picks)
  first_of_all before [] = refl
  first_of_all before (p ∷ picks) =
      let limit = limit_of ts before p in
      let all : words_within limit ≡ 0 ∷ words_from limit 1 = counted_all (how_many limit) (some_fit limit) in
      ap (λ ws. lists_beginning ts before p picks ws) all
      ∙ ap (λ l. map (λ cs. 0 ∷ cs) l ++ lists_beginning ts before p picks (words_from limit 1)) (first_of_all (before ++ picked p 0 ∷ []) picks)

  -- the first list is allowed
  pub first_listed : (before : List Binding) (picks : List Pick) → IsListed ts before picks (first_list picks)
  first_listed before picks = record { earlier = []; order = first_of_all before picks }

  -- the next one is
  pub next_listed : (before : List Binding) (picks : List Pick) (choices next : List ℕ) → IsListed ts before picks choices
      → later_lists ts before picks choices ≡ next ∷ later_lists ts before picks next → IsListed ts before picks next
  next_listed before picks choices next l e = record {
    earlier = l.earlier ++ choices ∷ [];
    order = l.order ∙ ap (λ ls. l.earlier ++ choices ∷ ls) e ∙ sym (append_assoc l.earlier (choices ∷ []) (next ∷ later_lists ts before picks next));
  }

  pub listed_in : (before : List Binding) (picks : List Pick) (choices : List ℕ) → IsListed ts before picks choices → IsIn choices (allowed_lists ts before picks)
  listed_in before picks choices l = subst (λ ls. IsIn choices ls) (sym l.order) (in_right choices l.earlier (choices ∷ later_lists ts before picks choices) (inl refl))

  pub listed_allowed : (before : List Binding) (picks : List Pick) (choices : List ℕ) → IsListed ts before picks choices → are_allowed ts before picks choices ≡ true
  listed_allowed before picks choices l = (allowed_in ts before picks choices (listed_in before picks choices l)).0

  -- ---- the next list, found from the front

  -- those of the later lists that differ from a list within its beginning
  abbrev pub outer : List Binding → List Pick → List ℕ → List (List ℕ)
  outer before [] beginning = []
  outer before (p ∷ picks) [] = []
  outer before (p ∷ picks) (c ∷ beginning) =
      map (λ cs. c ∷ cs) (outer (before ++ picked p c ∷ []) picks beginning)
      ++ lists_beginning ts before p picks (words_from (limit_of ts before p) (c + 1))

  joined : (before : List Binding) (b : Binding) (others : List Binding) → (before ++ b ∷ []) ++ others ≡ before ++ b ∷ others
  joined before b others = append_assoc before (b ∷ []) others

  -- the later lists of one that goes on so
  pub later_split : (before : List Binding) (done picks : List Pick) (beginning others : List ℕ) → length done ≡ length beginning
      → later_lists ts before (done ++ picks) (beginning ++ others)
      ≡ map (λ cs. beginning ++ cs) (later_lists ts (before ++ picks_bound done beginning) picks others) ++ outer before (done ++ picks) beginning
  later_split before [] picks [] others long = go picks
    where
      go : (picks : List Pick) → later_lists ts before picks others ≡ map (λ cs. cs) (later_lists ts (before ++ []) picks others) ++ outer before picks []
      go [] = refl
      go (p ∷ ps) = ap (λ b. later_lists ts b (p ∷ ps) others) (sym (append-nil before)) ∙ sym (map_same _) ∙ sym (append-nil _)
  later_split before [] picks (c ∷ beginning) others long = absurd (omega (arith, long))
  later_split before (p ∷ done) picks [] others long = absurd (omega (arith, long))
  later_split before (p ∷ done) picks (c ∷ beginning) others long =
      let own = lists_beginning ts before p (done ++ picks) (words_from (limit_of ts before p) (c + 1)) in
      let deep = before ++ picked p c ∷ [] in
      let inner = later_lists ts (deep ++ picks_bound done beginning) picks others in
      let rest = outer deep (done ++ picks) beginning in
      ap (λ l. map (λ cs. c ∷ cs) l ++ own) (later_split deep done picks beginning others (omega (arith, long)))
      ∙ ap (λ l. l ++ own) (map_append (λ cs. c ∷ cs) (map (λ cs. beginning ++ cs) inner) rest ∙ ap (λ l. l ++ map (λ cs. c ∷ cs) rest) (map_twice (λ cs. beginning ++ cs) (λ cs. c ∷ cs) inner))
      ∙ append_assoc (map (λ cs. c ∷ (beginning ++ cs)) inner) (map (λ cs. c ∷ cs) rest) own
      ∙ ap (λ b. map (λ cs. c ∷ (beginning ++ cs)) (later_lists ts b picks others) ++ (map (λ cs. c ∷ cs) rest ++ own)) (joined before (picked p c) (picks_bound done beginning))

  -- a beginning that is one longer
  pub outer_more : (before : List Binding) (done : List Pick) (p : Pick) (picks : List Pick) (beginning : List ℕ) (c : ℕ) → length done ≡ length beginning
      → outer before (done ++ p ∷ picks) (beginning ++ c ∷ [])
      ≡ map (λ cs. beginning ++ cs) (lists_beginning ts (before ++ picks_bound done beginning) p picks (words_from (limit_of ts (before ++ picks_bound done beginning) p) (c + 1)))
      ++ outer before (done ++ p ∷ picks) beginning
  outer_more before [] p picks [] c long = go picks ∙ sym (append-nil _)
    where
      none : (b : List Binding) (ps : List Pick) → outer b ps [] ≡ []
      none b [] = refl
      none b (q ∷ ps) = refl

      go : (picks : List Pick) → outer before (p ∷ picks) (c ∷ []) ≡ map (λ cs. cs) (lists_beginning ts (before ++ []) p picks (words_from (limit_of ts (before ++ []) p) (c + 1)))
      go picks =
          ap (λ l. map (λ cs. c ∷ cs) l ++ lists_beginning ts before p picks (words_from (limit_of ts before p) (c + 1))) (none (before ++ picked p c ∷ []) picks)
          ∙ ap (λ b. lists_beginning ts b p picks (words_from (limit_of ts b p) (c + 1))) (sym (append-nil before)) ∙ sym (map_same _)
  outer_more before [] p picks (d ∷ beginning) c long = absurd (omega (arith, long))
  outer_more before (q ∷ done) p picks [] c long = absurd (omega (arith, long))
  outer_more before (q ∷ done) p picks (d ∷ beginning) c long =
      let own = lists_beginning ts before q (done ++ p ∷ picks) (words_from (limit_of ts before q) (d + 1)) in
      let deep = before ++ picked q d ∷ [] in
      let inner : List Binding → List (List ℕ) = λ b. lists_beginning ts b p picks (words_from (limit_of ts b p) (c + 1)) in
      let rest = outer deep (done ++ p ∷ picks) beginning in
      ap (λ l. map (λ cs. d ∷ cs) l ++ own) (outer_more deep done p picks beginning c (omega (arith, long)))
      ∙ ap (λ l. l ++ own) (map_append (λ cs. d ∷ cs) (map (λ cs. beginning ++ cs) (inner (deep ++ picks_bound done beginning))) rest
      ∙ ap (λ l. l ++ map (λ cs. d ∷ cs) rest) (map_twice (λ cs. beginning ++ cs) (λ cs. d ∷ cs) (inner (deep ++ picks_bound done beginning))))
      ∙ append_assoc (map (λ cs. d ∷ (beginning ++ cs)) (inner (deep ++ picks_bound done beginning))) (map (λ cs. d ∷ cs) rest) own
      ∙ ap (λ b. map (λ cs. d ∷ (beginning ++ cs)) (inner b) ++ (map (λ cs. d ∷ cs) rest ++ own)) (joined before (picked q d) (picks_bound done beginning))

  -- what comes after a list is what differs from it somewhere
  pub later_outer : (before : List Binding) (done picks : List Pick) (beginning others : List ℕ) → length done ≡ length beginning
      → later_lists ts (before ++ picks_bound done beginning) picks others ≡ [] → later_lists ts before (done ++ picks) (beginning ++ others) ≡ outer before (done ++ picks) beginning
  later_outer before done picks beginning others long none =
      later_split before done picks beginning others long ∙ ap (λ l. map (λ cs. beginning ++ cs) l ++ outer before (done ++ picks) beginning) none

  -- where the last number of a beginning can't be raised
  pub not_raised : (before : List Binding) (done : List Pick) (p : Pick) (picks : List Pick) (beginning : List ℕ) (c : ℕ) → length done ≡ length beginning
      → how_many (limit_of ts (before ++ picks_bound done beginning) p) ≤ c + 1
      → outer before (done ++ p ∷ picks) (beginning ++ c ∷ []) ≡ outer before (done ++ p ∷ picks) beginning
  not_raised before done p picks beginning c long high =
      let bs = before ++ picks_bound done beginning in
      outer_more before done p picks beginning c long
      ∙ ap (λ ws. map (λ cs. beginning ++ cs) (lists_beginning ts bs p picks ws) ++ outer before (done ++ p ∷ picks) beginning) (words_end (limit_of ts bs p) (c + 1) high)

  -- where it can
  pub raised : (before : List Binding) (done : List Pick) (p : Pick) (picks : List Pick) (beginning : List ℕ) (c : ℕ) → length done ≡ length beginning
      → c + 1 < how_many (limit_of ts (before ++ picks_bound done beginning) p)
      → outer before (done ++ p ∷ picks) (beginning ++ c ∷ []) ≡ lists_from ts before (done ++ p ∷ picks) (Some (beginning ++ (c + 1) ∷ first_list picks))
  raised before done p picks beginning c long low =
      let bs = before ++ picks_bound done beginning in
      let limit = limit_of ts bs p in
      let deep = bs ++ picked p (c + 1) ∷ [] in
      let next = (c + 1) ∷ first_list picks in
      let further = lists_beginning ts bs p picks (words_from limit (c + 1 + 1)) in
      let from : lists_beginning ts bs p picks (words_from limit (c + 1)) ≡ next ∷ later_lists ts bs (p ∷ picks) next =
      ap (λ ws. lists_beginning ts bs p picks ws) (words_go_on limit (c + 1) low)
      ∙ ap (λ l. map (λ cs. (c + 1) ∷ cs) l ++ further) (first_of_all deep picks) in
      outer_more before done p picks beginning c long
      ∙ ap (λ l. map (λ cs. beginning ++ cs) l ++ outer before (done ++ p ∷ picks) beginning) from
      ∙ ap (λ l. (beginning ++ next) ∷ l) (sym (later_split before done (p ∷ picks) beginning next long))
