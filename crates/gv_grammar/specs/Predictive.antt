-- The test of a table, and what it rests on.
use Rattle.std.specs.Prelude.{◌≡◌, ℕ, suc, zero, ◌+◌, ◌*◌, Bool, true, false, not, ◌&&◌, ◌||◌, ◌==◌, nat_lt, List, [], ◌∷◌, ◌++◌, length, Some, None, slice_get, slice_index, slice_set, drop, max, fold, reverse, replicate, if◌then◌else◌}
use Rattle.std.specs.List.{list_all, enumerate_from}
use Rattle.gv_grammar.specs.declared.symbols.Symbol.{Symbol}
use Rattle.gv_grammar.specs.declared.symbols.Symbol.TheVariants.{Token, Name, Act}
use Rattle.gv_grammar.specs.declared.levels.TheConstants.{OPEN_BEFORE}
use Rattle.gv_grammar.specs.Derivation.{Tables, is_among, members, symbols_of}

-- what shows that a table is predictive, by name: whether it derives the empty list, which classes begin what it derives,
-- which may stand behind it (0 for the end), two numbers that fall, and a rule that ends
pub record Certificate : Type 0 where
  pub empty : List Bool
  pub first : List (List ℕ)
  pub follow : List (List ℕ)
  pub weight : List ℕ
  pub depth : List ℕ
  pub closing : List ℕ

abbrev pub row : List (List ℕ) → ℕ → List ℕ
row rows at = elim (slice_get rows at) [ None ↦ [] | Some found ↦ found ]

abbrev pub is_empty : Certificate → ℕ → Bool
is_empty c name = elim (slice_get c.empty name) [ None ↦ false | Some found ↦ found ]

-- whether this is a rule of the name
abbrev pub is_rule_of : Tables → ℕ → ℕ → Bool
is_rule_of g name rule = elim (slice_get g.names rule) [ None ↦ false | Some found ↦ found == name ]

-- what the table has for a name before a class: one more than a rule, or 0
abbrev pub entry : Tables → ℕ → ℕ → ℕ
entry g name class = slice_index g.table (name * g.width + class)

-- whether a line of the table has a rule at each of these classes
abbrev pub predicts_in : List ℕ → ℕ → List ℕ → Bool
predicts_in line rule classes = list_all (λ class. slice_index line class == rule + 1) classes

abbrev pub is_within : List ℕ → List ℕ → Bool
is_within ms ns = list_all (λ m. is_among m ns) ms

-- whether this is no mark for the token taken last
abbrev pub is_prompt : Symbol → Bool
is_prompt (Token set) = true
is_prompt (Name name) = true
is_prompt (Act number) = not (number == OPEN_BEFORE)

abbrev pub are_prompt : List Symbol → Bool
are_prompt symbols = list_all is_prompt symbols

abbrev pub has_token_first : List Symbol → Bool
has_token_first [] = false
has_token_first (Token set ∷ more) = true
has_token_first (Name name ∷ more) = false
has_token_first (Act number ∷ more) = false

-- a mark for the token taken last stands at the front, before a token that shows it
abbrev pub shows_late : List Symbol → Bool
shows_late [] = true
shows_late (Token set ∷ more) = are_prompt more
shows_late (Name name ∷ more) = are_prompt more
shows_late (Act number ∷ more) = (not (number == OPEN_BEFORE) || has_token_first more) && are_prompt more

module _ (g : Tables) (c : Certificate) where
  -- whether these symbols may derive the empty list
  abbrev pub empties : List Symbol → Bool
  empties [] = true
  empties (Token set ∷ more) = false
  empties (Act number ∷ more) = empties more
  empties (Name name ∷ more) = is_empty c name && empties more

  -- the classes that may begin what these symbols derive
  abbrev pub beginnings : List Symbol → List ℕ
  beginnings [] = []
  beginnings (Token set ∷ more) = members g set
  beginnings (Act number ∷ more) = beginnings more
  beginnings (Name name ∷ more) = row c.first name ++ (if is_empty c name then beginnings more else [])

  -- how many names may be replaced before a token is taken
  abbrev pub reach : List Symbol → ℕ
  reach [] = 0
  reach (Token set ∷ more) = 0
  reach (Act number ∷ more) = suc (reach more)
  reach (Name name ∷ more) = slice_index c.weight name + (if is_empty c name then reach more else 0)

  abbrev pub follows_hold : ℕ → List Symbol → Bool
  follows_hold name [] = true
  follows_hold name (Token set ∷ more) = follows_hold name more
  follows_hold name (Act number ∷ more) = follows_hold name more
  follows_hold name (Name inner ∷ more) =
      is_within (beginnings more) (row c.follow inner)
      && ((not (empties more) || is_within (row c.follow name) (row c.follow inner)) && follows_hold name more)

  abbrev pub is_known : Symbol → Bool
  is_known (Token set) = not (length (members g set) == 0)
  is_known (Act number) = true
  is_known (Name name) = nat_lt name (length c.closing)

  abbrev pub is_below : ℕ → Symbol → Bool
  is_below depth (Token set) = not (length (members g set) == 0)
  is_below depth (Act number) = not (number == OPEN_BEFORE)
  is_below depth (Name name) = nat_lt name (length c.closing) && nat_lt (slice_index c.depth name) depth

  abbrev pub predicts : ℕ → ℕ → List ℕ → Bool
  predicts name rule classes = predicts_in (drop (name * g.width) g.table) rule classes

  abbrev pub rule_holds : ℕ × ℕ → Bool
  rule_holds (rule, name) =
      let symbols = symbols_of g rule in
      list_all is_known symbols
      && (is_within (beginnings symbols) (row c.first name)
      && ((not (empties symbols) || is_empty c name)
      && (follows_hold name symbols
      && (predicts name rule (beginnings symbols)
      && ((not (empties symbols) || predicts name rule (row c.follow name))
      && (nat_lt (reach symbols) (slice_index c.weight name)
      && shows_late symbols))))))

  abbrev pub closes : ℕ × ℕ → Bool
  closes (name, rule) = is_rule_of g name rule && list_all (is_below (slice_index c.depth name)) (symbols_of g rule)

  -- a root is a name, behind which the end may stand
  abbrev pub root_holds : ℕ → Bool
  root_holds root = nat_lt root (length c.closing) && is_among 0 (row c.follow root)

  abbrev pub is_shown_by : Bool
  is_shown_by =
      list_all root_holds g.roots
      && (list_all rule_holds (enumerate_from 0 g.names)
      && list_all closes (enumerate_from 0 c.closing))

abbrev pub union : List ℕ → List ℕ → List ℕ
union [] ns = ns
union (m ∷ ms) ns = union ms (elim (is_among m ns) [ true ↦ ns | false ↦ m ∷ ns ])

abbrev pub spread : Tables → Certificate → ℕ → List Symbol → List (List ℕ) → List (List ℕ)
spread g c name [] follow = follow
spread g c name (Token set ∷ more) follow = spread g c name more follow
spread g c name (Act number ∷ more) follow = spread g c name more follow
spread g c name (Name inner ∷ more) follow =
    spread g c name more (slice_set follow inner (
    union (elim (empties g c more) [ true ↦ row follow name | false ↦ [] ]) (union (beginnings g c more) (row follow inner))))

-- one more than the greatest depth, or 0 where one has none yet
abbrev pub depth_of : Certificate → List Symbol → ℕ
depth_of c [] = 1
depth_of c (Token set ∷ more) = depth_of c more
depth_of c (Act number ∷ more) = elim (number == OPEN_BEFORE) [ true ↦ 0 | false ↦ depth_of c more ]
depth_of c (Name name ∷ more) =
    elim (slice_index c.depth name == 0)
    [ true ↦ 0 | false ↦ elim (depth_of c more == 0) [ true ↦ 0 | false ↦ max (slice_index c.depth name + 1) (depth_of c more) ] ]

abbrev pub with_rule : Tables → ℕ × ℕ → Certificate → Certificate
with_rule g (rule, name) c =
    let symbols = symbols_of g rule in
    let depth : ℕ = elim (slice_index c.depth name == 0) [ true ↦ depth_of c symbols | false ↦ 0 ] in
    record {
      empty = slice_set c.empty name (is_empty c name || empties g c symbols);
      first = slice_set c.first name (union (beginnings g c symbols) (row c.first name));
      follow = spread g c name symbols c.follow;
      weight = slice_set c.weight name (max (slice_index c.weight name) (reach g c symbols + 1));
      depth = elim (depth == 0) [ true ↦ c.depth | false ↦ slice_set c.depth name depth ];
      closing = elim (depth == 0) [ true ↦ c.closing | false ↦ slice_set c.closing name rule ];
    }

abbrev pub with_rules : Tables → List (ℕ × ℕ) → Certificate → Certificate
with_rules g [] c = c
with_rules g (rule ∷ rules) c = with_rules g rules (with_rule g rule c)

abbrev pub after_rounds : ℕ → Tables → List (ℕ × ℕ) → List (ℕ × ℕ) → Certificate → Certificate
after_rounds zero g rules backwards c = c
after_rounds (suc n) g rules backwards c = after_rounds n g rules backwards (with_rules g rules (with_rules g backwards c))

-- the end alone stands behind each root at first, and nothing behind other names
abbrev pub with_ends : List ℕ → List (List ℕ) → List (List ℕ)
with_ends [] follow = follow
with_ends (root ∷ roots) follow = with_ends roots (slice_set follow root (0 ∷ []))

-- the certificate that some rounds over the rules make
unfoldable pub certificate_of : Tables → Certificate
certificate_of g =
    let rules = enumerate_from 0 g.names in
    let count = fold max 0 g.names + 1 in
    after_rounds 4 g rules (reverse rules) (record {
      empty = replicate count false;
      first = replicate count [];
      follow = with_ends g.roots (replicate count []);
      weight = replicate count 0;
      depth = replicate count 0;
      closing = replicate count 0;
    })

-- the table has the one rule that may go on, each name derives something, and marks for the token taken last are shown
unfoldable pub is_predictive : Tables → Bool
is_predictive g = is_shown_by g (certificate_of g)

-- lists may be read from this name on
abbrev pub MayBegin : Tables → ℕ → Type 0
MayBegin g root = (is_predictive g ≡ true) × (is_among root g.roots ≡ true)
