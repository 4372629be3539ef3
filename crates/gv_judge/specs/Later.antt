-- What comes after a list of choices among those that are allowed.
use Rattle.std.specs.Prelude.{◌≡◌, ℕ, ◌+◌, ◌-◌, ◌<◌, ◌^◌, List, [], ◌∷◌, ◌++◌, map, length, take, drop, slice_index, Option, Some, None}
use Rattle.std.specs.List.{flat_map}
use Rattle.gv_terms.specs.declared.tree.TermTree.{TermTree}
use Rattle.gv_terms.specs.declared.value.Binding.{Binding}
use Rattle.gv_atomic.specs.declared.spec.Pick.{Pick}
use Rattle.gv_atomic.specs.Choices.{picked, limit_of}
use Rattle.gv_judge.specs.Search.{count_up}
use Rattle.gv_judge.specs.Choosing.{how_many, allowed_lists}

-- the words within a bound from one on
abbrev pub words_from : ℕ → ℕ → List ℕ
words_from limit word = count_up (how_many limit - word) word

-- the lists that begin with one of these words
abbrev pub lists_beginning : List TermTree → List Binding → Pick → List Pick → List ℕ → List (List ℕ)
lists_beginning ts before p picks words = flat_map (λ c. map (λ choices. c ∷ choices) (allowed_lists ts (before ++ picked p c ∷ []) picks)) words

-- the first list: 0 for each pick
abbrev pub first_list : List Pick → List ℕ
first_list picks = map (λ p. 0) picks

-- the lists that come after one
abbrev pub later_lists : List TermTree → List Binding → List Pick → List ℕ → List (List ℕ)
later_lists ts before [] choices = []
later_lists ts before (p ∷ picks) [] = []
later_lists ts before (p ∷ picks) (c ∷ choices) =
    map (λ cs. c ∷ cs) (later_lists ts (before ++ picked p c ∷ []) picks choices)
    ++ lists_beginning ts before p picks (words_from (limit_of ts before p) (c + 1))

-- a list, where there is one, and those that come after it
abbrev pub lists_from : List TermTree → List Binding → List Pick → Option (List ℕ) → List (List ℕ)
lists_from ts before picks None = []
lists_from ts before picks (Some choices) = choices ∷ later_lists ts before picks choices

-- the list is allowed: it stands in the order, and what comes after it there are the later lists
pub record IsListed (ts : List TermTree) (before : List Binding) (picks : List Pick) (choices : List ℕ) : Type 0 where
  pub earlier : List (List ℕ)
  pub order : allowed_lists ts before picks ≡ earlier ++ choices ∷ later_lists ts before picks choices

-- a list with the number at a place raised, and 0 for each later pick
abbrev pub raised_list : List Pick → List ℕ → ℕ → List ℕ
raised_list picks choices at = take at choices ++ (slice_index choices at + 1) ∷ first_list (drop (at + 1) picks)

-- there is such a place, and the number raised is a word
pub record CanRise (picks : List Pick) (choices : List ℕ) (at : ℕ) : Type 0 where
  pub pick : at < length picks
  pub choice : at < length choices
  pub word : slice_index choices at + 1 < 2 ^ 64
