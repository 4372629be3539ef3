-- The words of a command.
use Rattle.std.proofs.Common.{◌≡◌, ℕ, zero, suc, ◌+◌, ◌-◌, ◌^◌, ◌<◌, ◌≤◌, if◌then◌else◌, true, List, [], ◌∷◌, ◌++◌, length, take, get_or, Option, Some, None, refl, sym, ap, subst, ◌∙◌, arith}
use Rattle.std.specs.Prelude.{slice_get, string_bytes, codes, IfNone}
use Rattle.std.specs.Str.{bytes_eq}
use Rattle.std.specs.Str.Parse.{digits_value}
use Rattle.std.specs.declared.string.String.{String}
use Rattle.std.specs.declared.alloc.Global.{Global}
use Rattle.std.proofs.lemmas.Fmt.{decimal_is_IsNumeral}
use Rattle.std.proofs.lemmas.List.{append_cancel_right}
use Rattle.std.proofs.lemmas.Option.{slice_get_within}
use Rattle.std.proofs.lemmas.Slice.Eq.{bytes_eq-Decides}
use Rattle.gv_top.specs.Commands.{Command, check, explain, replay, judge, words_of, words_behind, AreInRange, Asks, asks_for_json, texts, AreWordsOf}

-- ---- the last word

last_at : (ws : List (String Global)) (i : ℕ) (w : String Global) → i + 1 ≡ length ws → Some w ≡ slice_get ws i → asks_for_json (texts ws) ≡ bytes_eq (string_bytes w) (codes "json")
last_at [] i w n e = absurd cc
last_at (v ∷ []) zero w n e = let same : w ≡ v = cc in ap (λ x. bytes_eq (string_bytes x) (codes "json")) (sym same)
last_at (v ∷ []) (suc i) w n e = absurd cc
last_at (v ∷ u ∷ ws) zero w n e = absurd (omega (arith, n))
last_at (v ∷ u ∷ ws) (suc i) w n e = last_at (u ∷ ws) i w (omega (arith, n)) e

pub last_is : (ws : List (String Global)) (w : String Global) → Some w ≡ slice_get ws (length ws - 1) → asks_for_json (texts ws) ≡ bytes_eq (string_bytes w) (codes "json")
last_is ws w e = let h = slice_get_within ws (length ws - 1) w (sym e) in last_at ws (length ws - 1) w (omega (arith, h)) e

-- the words before a last one `json`
before_json : (ws : List (String Global)) (n : ℕ) → n + 1 ≡ length ws → asks_for_json (texts ws) ≡ true → texts ws ≡ texts (take n ws) ++ codes "json" ∷ []
before_json [] n long e = absurd cc
before_json (w ∷ []) zero long e = ap (λ (v : List ℕ). v ∷ []) ((bytes_eq-Decides (string_bytes w) (codes "json")).0 e)
before_json (w ∷ []) (suc n) long e = absurd (omega (arith, long))
before_json (w ∷ v ∷ ws) zero long e = absurd (omega (arith, long))
before_json (w ∷ v ∷ ws) (suc n) long e = ap (λ (vs : List (List ℕ)). string_bytes w ∷ vs) (before_json (v ∷ ws) n (omega (arith, long)) e)

some_word : (ws : List (String Global)) → asks_for_json (texts ws) ≡ true → 1 ≤ length ws
some_word [] e = absurd cc
some_word (w ∷ ws) e = omega arith

-- where the last word is `json`, the words are those before it and that one; else they are all
pub cut_off : (ws : List (String Global)) → asks_for_json (texts ws) ≡ true → texts ws ≡ texts (take (length ws - 1) ws) ++ words_behind (asks_for_json (texts ws))
cut_off ws e =
    let some = some_word ws e in
    before_json ws (length ws - 1) (omega (arith, some)) e ∙ ap (λ b. texts (take (length ws - 1) ws) ++ words_behind b) (sym e)

-- ---- a command's own words

-- the words that are asked are its own
pub own_of : (words own : List (List ℕ)) (c : Command) → words ≡ own ++ words_behind (asks_for_json words) → Asks words c → AreWordsOf c own
own_of words own c cut asks = record {
  words_are = append_cancel_right own (words_of c) (words_behind (asks_for_json words)) (sym cut ∙ asks.words_are);
  in_range = asks.in_range;
}

-- ---- words by their count

four : (ws : List (String Global)) (a b c d : String Global) → length ws ≡ 4 → a ≡ get_or ws 0 a → b ≡ get_or ws 1 b → c ≡ get_or ws 2 c → d ≡ get_or ws 3 d → ws ≡ a ∷ b ∷ c ∷ d ∷ []
four [] a b c d n w x y z = absurd (omega arith)
four (p ∷ []) a b c d n w x y z = absurd (omega arith)
four (p ∷ q ∷ []) a b c d n w x y z = absurd (omega arith)
four (p ∷ q ∷ r ∷ []) a b c d n w x y z = absurd (omega arith)
four (p ∷ q ∷ r ∷ s ∷ []) a b c d n w x y z = rw (w, x, y, z) refl
four (p ∷ q ∷ r ∷ s ∷ t ∷ more) a b c d n w x y z = absurd (omega arith)

module _ (words : List (List ℕ)) (own : List (String Global)) (command : Command) (cut : words ≡ texts own ++ words_behind (asks_for_json words)) (a b c d : String Global) where
  -- four own words of a command
  pub own_four : length own ≡ 4 → a ≡ get_or own 0 a → b ≡ get_or own 1 b → c ≡ get_or own 2 c → d ≡ get_or own 3 d → Asks words command
      → AreWordsOf command (string_bytes a ∷ string_bytes b ∷ string_bytes c ∷ string_bytes d ∷ [])
  own_four n w x y z asks = subst (AreWordsOf command) (ap texts (four own a b c d n w x y z)) (own_of words (texts own) command cut asks)

-- what an absence says, says more
pub none_on : {X : Type 0} (P Q : Type 0) (r : Option X) → (P → Q) → IfNone r P → IfNone r Q
none_on P Q None f h = f h
none_on P Q (Some x) f h = tt

-- ---- words are one command at most

-- the command that a word is with three behind it
of_words : List ℕ → List ℕ → List ℕ → List ℕ → Option Command
of_words w a b c = if bytes_eq w (codes "check") then Some (check a b c) else if bytes_eq w (codes "explain") then Some (explain a b c)
    else if bytes_eq w (codes "replay") then Some (replay a b c) else if bytes_eq w (codes "judge") then Some (judge a b (digits_value 10 c)) else None

command_in : List (List ℕ) → Option Command
command_in (w ∷ a ∷ b ∷ c ∷ []) = of_words w a b c
command_in _ = None

command_is : (c : Command) → AreInRange c → command_in (words_of c) ≡ Some c
unfolding command_in of_words
command_is (check p s t) r = refl
command_is (explain s h m) r = refl
command_is (replay p s c) r = refl
command_is (judge s h n) r = let small : n < 2 ^ 64 = omega (arith, r.few) in ap (λ k. Some (judge s h k)) (decimal_is_IsNumeral n small).1

some_same : {A : Type 0} (x y : A) → Some x ≡ Some y → x ≡ y
some_same x y e = cc

pub one_command : (words : List (List ℕ)) (c d : Command) → Asks words c → Asks words d → c ≡ d
one_command words c d h k =
    let b = words_behind (asks_for_json words) in
    let same : words_of c ≡ words_of d = append_cancel_right (words_of c) (words_of d) b (sym h.words_are ∙ k.words_are) in
    some_same c d (sym (command_is c h.in_range) ∙ ap command_in same ∙ command_is d k.in_range)
