-- The same grammar read from the front, step by step: what the readers of this crate compute.
use Rattle.std.specs.Prelude.{◌≡◌, ℕ, zero, suc, Bool, true, false, ◌&&◌, ◌||◌, ◌==◌, if◌then◌else◌, List, [], ◌∷◌, ◌++◌, length, map, not, Option, Some, None, option_map, option_and_then, Result, Ok, Err}
use Rattle.std.specs.Str.{bytes_eq}
use Rattle.gv_base.specs.declared.answers.Refusal.{Refusal}
use Rattle.gv_base.specs.declared.answers.Refusal.TheVariants as refusal
use Rattle.gv_base.specs.declared.answers.Code.TheVariants.{NotInProfile}
use Rattle.gv_base.specs.declared.small.Part.{Part}
use Rattle.gv_base.specs.declared.small.Part.TheVariants.{Param, Number}
use Rattle.gv_base.specs.declared.small.Turn.{Turn}
use Rattle.gv_small.specs.Tokens.{Token, named, signed, arrowed, Placed, start}
use Rattle.gv_small.specs.Forms.{is_name, is_distinct, part_of}

-- what a reader of A gives: an A and what is left behind it
abbrev pub ReadFrom : Type 0 → Type 0 → Type 0
ReadFrom S A = Option (A × List S)

abbrev pub Read : Type 0 → Type 0
Read A = ReadFrom Token A

-- a text is refused at its first place where the reading finds nothing
abbrev pub Refuses : {X : Type 0} → Option X → Refusal → Type 0
Refuses found refusal.NoMemory = Unit {0}
Refuses found (refusal.At place code) = (found ≡ None) × (place ≡ start) × (code ≡ NotInProfile)

abbrev pub start_refusal : Refusal
start_refusal = refusal.At start NotInProfile

abbrev pub is_same : Token → Token → Bool
is_same (named v) (named w) = bytes_eq v w
is_same (named v) arrowed = false
is_same (named v) (signed b) = false
is_same arrowed (named w) = false
is_same arrowed arrowed = true
is_same arrowed (signed b) = false
is_same (signed a) (named w) = false
is_same (signed a) arrowed = false
is_same (signed a) (signed b) = a == b

-- the tokens behind these, where the list begins with them
abbrev pub behind_all : List Token → List Token → Option (List Token)
behind_all [] ts = Some ts
behind_all (w ∷ ws) [] = None
behind_all (w ∷ ws) (t ∷ ts) = if is_same w t then behind_all ws ts else None

-- the same with places
abbrev pub behind_placed : List Token → List Placed → Option (List Placed)
behind_placed [] ts = Some ts
behind_placed (w ∷ ws) [] = None
behind_placed (w ∷ ws) (t ∷ ts) = if is_same w t.token then behind_placed ws ts else None

-- the word that comes first, where it passes
abbrev pub word_at : (List ℕ → Bool) → List Token → Read (List ℕ)
word_at p [] = None
word_at p (named w ∷ ts) = if p w then Some (w, ts) else None
word_at p (arrowed ∷ ts) = None
word_at p (signed b ∷ ts) = None

abbrev pub word_behind : (List ℕ → Bool) → Token → List Placed → Option (List ℕ × List Placed)
word_behind p (named w) ts = if p w then Some (w, ts) else None
word_behind p arrowed ts = None
word_behind p (signed b) ts = None

-- the same with places
abbrev pub word_placed : (List ℕ → Bool) → List Placed → Option (List ℕ × List Placed)
word_placed p [] = None
word_placed p (t ∷ ts) = word_behind p t.token ts

abbrev pub begins_with_sign : ℕ → List Token → Bool
begins_with_sign b [] = false
begins_with_sign b (named w ∷ ts) = false
begins_with_sign b (arrowed ∷ ts) = false
begins_with_sign b (signed c ∷ ts) = c == b

-- one after the other until it stops, at most so many
abbrev pub many : {S A : Type 0} → (List S → Bool) → (List S → ReadFrom S A) → ℕ → List S → ReadFrom S (List A)
many stop step zero ts = if stop ts then Some ([], ts) else None
many stop step (suc n) ts = if stop ts then Some ([], ts) else option_and_then (λ x. option_map (λ y. (x.0 ∷ y.0, y.1)) (many stop step n x.1)) (step ts)

abbrev pub all_of : {S A : Type 0} → (List S → Bool) → (List S → ReadFrom S A) → List S → ReadFrom S (List A)
all_of stop step ts = many stop step (length ts) ts

-- what was read before, and what is read now
abbrev pub joined : {S A : Type 0} → List A → ReadFrom S (List A) → ReadFrom S (List A)
joined done o = option_map (λ y. (done ++ y.0, y.1)) o

-- ---- parameters

-- a name and the words of its type
abbrev pub parameter : List Token → List Token → Read (List ℕ)
parameter kind ts = option_and_then (λ x. option_map (λ after. (x.0, after)) (behind_all kind x.1)) (word_at is_name ts)

abbrev pub next_parameter : List Token → List Token → Read (List ℕ)
next_parameter kind ts = option_and_then (λ after. parameter kind after) (behind_all (signed 44 ∷ []) ts)

abbrev pub no_comma : List Token → Bool
no_comma ts = not (begins_with_sign 44 ts)

abbrev pub more_parameters : List Token → List Token → Read (List (List ℕ))
more_parameters kind ts = all_of no_comma (next_parameter kind) ts

-- none before a closing parenthesis
abbrev pub parameters : List Token → List Token → Read (List (List ℕ))
parameters kind ts = if begins_with_sign 41 ts then Some ([], ts)
    else option_and_then (λ x. option_map (λ y. (x.0 ∷ y.0, y.1)) (more_parameters kind x.1)) (parameter kind ts)

-- ---- Sums

abbrev pub no_turn : List Token → Bool
no_turn ts = not (begins_with_sign 43 ts || begins_with_sign 45 ts)

-- `+` or `-`, and whether it is the second
abbrev pub turn_sign : List Token → Read Bool
turn_sign [] = None
turn_sign (named w ∷ ts) = None
turn_sign (arrowed ∷ ts) = None
turn_sign (signed b ∷ ts) = if b == 43 then Some (false, ts) else (if b == 45 then Some (true, ts) else None)

abbrev pub part_at : List (List ℕ) → List Token → Read Part
part_at params ts = option_and_then (λ x. option_map (λ part. (part, x.1)) (part_of params x.0)) (word_at (λ w. true) ts)

abbrev pub turn : List (List ℕ) → List Token → Read Turn
turn params ts = option_and_then (λ x. option_map (λ y. (record { minus = x.0; part = y.0 }, y.1)) (part_at params x.1)) (turn_sign ts)

abbrev pub turns : List (List ℕ) → List Token → Read (List Turn)
turns params ts = all_of no_turn (turn params) ts

-- a number alone, or a parameter and its turns
abbrev pub after_part : List (List ℕ) → Part → List Token → Read (Part × List Turn)
after_part params (Number v) ts = Some ((Number v, []), ts)
after_part params (Param i) ts = option_map (λ y. ((Param i, y.0), y.1)) (turns params ts)

abbrev pub sum_at : List (List ℕ) → List Token → Read (Part × List Turn)
sum_at params ts = option_and_then (λ x. after_part params x.0 x.1) (part_at params ts)

-- ---- the rest of an operation

abbrev pub past_semicolon : List Token → List Token
past_semicolon [] = []
past_semicolon (named w ∷ ts) = named w ∷ ts
past_semicolon (arrowed ∷ ts) = arrowed ∷ ts
past_semicolon (signed b ∷ ts) = if b == 59 then ts else signed b ∷ ts

-- the names, where no two are alike
abbrev pub distinct_names : List (List ℕ) → Option (List (List ℕ))
distinct_names ns = if is_distinct ns then Some ns else None

-- ---- answers

-- what a reader answers where a text spells this very value
abbrev pub IsReadAs : {A : Type 0} → A → Result A Refusal → Type 0
IsReadAs x (Ok y) = y ≡ x
IsReadAs x (Err refusal.NoMemory) = Unit {0}
IsReadAs x (Err (refusal.At place code)) = ⊥

-- the one refusal of the small forms
abbrev pub IsStartRefusal : Refusal → Type 0
IsStartRefusal refusal.NoMemory = Unit {0}
IsStartRefusal (refusal.At place code) = (place ≡ start) × (code ≡ NotInProfile)
