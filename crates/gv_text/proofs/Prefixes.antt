-- A part takes as much of a prefix of a text as of the text, where the prefix is long enough for that.
use Rattle.std.proofs.Common.{◌≡◌, ◌≤◌, ◌+◌, ◌-◌, ◌&&◌, ℕ, zero, suc, Bool, true, false, cond, eqb, List, [], ◌∷◌, take, drop, refl, ap, ◌∙◌, arith}
use Rattle.std.proofs.lemmas.List.{drop-take}
use Rattle.std.specs.List.{prefix_len}
use Rattle.gv_text.specs.Bytes.{is_blank}
use Rattle.gv_text.specs.Gaps.{is_on_line, blank_length, line_length}
use Rattle.gv_text.specs.Lengths.{nothing, optional, after_two, in_turn}

abbrev pub KeepsPrefixes : (List ℕ → ℕ) → Type 0
KeepsPrefixes part = (text : List ℕ) (k : ℕ) → part text ≤ k → part (take k text) ≡ part text

-- a test, and one more where it holds
pub one_step : (b : Bool) (m n k : ℕ) → cond b (1 + n) 0 ≤ suc k → (n ≤ k → m ≡ n) → cond b (1 + m) 0 ≡ cond b (1 + n) 0
one_step true m n k h f = ap (λ i. 1 + i) (f (omega arith))
one_step false m n k h f = refl

two_steps : (b : Bool) (m n k : ℕ) → cond b (2 + n) 0 ≤ suc (suc k) → (n ≤ k → m ≡ n) → cond b (2 + m) 0 ≡ cond b (2 + n) 0
two_steps true m n k h f = ap (λ i. 2 + i) (f (omega arith))
two_steps false m n k h f = refl

none_of_two : (b : Bool) (n : ℕ) → cond b (2 + n) 0 ≤ 1 → 0 ≡ cond b (2 + n) 0
none_of_two true n h = absurd (omega arith)
none_of_two false n h = refl

pub nothing_keeps : KeepsPrefixes nothing
nothing_keeps text k h = refl

pub run_keeps : (p : ℕ → Bool) → KeepsPrefixes (prefix_len p)
run_keeps p [] zero h = refl
run_keeps p [] (suc k) h = refl
run_keeps p (x ∷ xs) zero h = omega arith
run_keeps p (x ∷ xs) (suc k) h = one_step (p x) (prefix_len p (take k xs)) (prefix_len p xs) k h (λ l. run_keeps p xs k l)

pub optional_keeps : (test : ℕ → Bool) (more : List ℕ → ℕ) → KeepsPrefixes more → KeepsPrefixes (optional test more)
optional_keeps test more f [] zero h = refl
optional_keeps test more f [] (suc k) h = refl
optional_keeps test more f (x ∷ xs) zero h = omega arith
optional_keeps test more f (x ∷ xs) (suc k) h = one_step (test x) (more (take k xs)) (more xs) k h (λ l. f xs k l)

pub after_two_keeps : (x y : ℕ) (more : List ℕ → ℕ) → KeepsPrefixes more → KeepsPrefixes (after_two x y more)
after_two_keeps x y more f [] zero h = refl
after_two_keeps x y more f [] (suc k) h = refl
after_two_keeps x y more f (b ∷ []) zero h = refl
after_two_keeps x y more f (b ∷ []) (suc zero) h = refl
after_two_keeps x y more f (b ∷ []) (suc (suc k)) h = refl
after_two_keeps x y more f (b ∷ c ∷ bs) zero h = omega arith
after_two_keeps x y more f (b ∷ c ∷ bs) (suc zero) h = none_of_two (eqb b x && eqb c y) (more bs) h
after_two_keeps x y more f (b ∷ c ∷ bs) (suc (suc k)) h = two_steps (eqb b x && eqb c y) (more (take k bs)) (more bs) k h (λ l. f bs k l)

pub in_turn_keeps : (first second : List ℕ → ℕ) → KeepsPrefixes first → KeepsPrefixes second → KeepsPrefixes (in_turn first second)
in_turn_keeps first second f s text k h =
    let n = first text in
    let same : first (take k text) ≡ n = f text k (omega arith) in
    let split : k ≡ n + (k - n) = omega arith in
    let dropped : drop n (take k text) ≡ take (k - n) (drop n text) = ap (λ i. drop n (take i text)) split ∙ drop-take n (k - n) text in
    ap (λ i. i + second (drop i (take k text))) same ∙ ap (λ i. n + i) (ap second dropped ∙ s (drop n text) (k - n) (omega arith))

pub blank_keeps : KeepsPrefixes blank_length
blank_keeps = optional_keeps is_blank nothing nothing_keeps

pub line_keeps : KeepsPrefixes line_length
line_keeps = after_two_keeps 47 47 (prefix_len is_on_line) (run_keeps is_on_line)
