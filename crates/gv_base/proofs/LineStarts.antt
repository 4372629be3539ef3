-- How the index of lines grows with the text, and how it gives a place.
use Rattle.std.proofs.Common.{◌≡◌, ℕ, zero, suc, ◌+◌, ◌-◌, ◌<◌, ◌≤◌, Bool, true, false, List, [], ◌∷◌, ◌++◌, length, take, get_or, count_by, slice_index, ⊎_elim, refl, sym, ap, subst, arith, length-append, eq-eqb, ◌∙◌}
use Rattle.std.proofs.lemmas.Bool.Decides.{nat_tests}
use Rattle.std.proofs.Math.Nat.{eq-or-lt_of_le}
use Rattle.std.proofs.lemmas.List.{take-take, get_or_append_left}
use Rattle.std.proofs.Math.Seq.{get_or-append_seam}
use Rattle.std.proofs.lemmas.List.Sums.{count_by_more_no, count_by_more_yes}
use Rattle.std.proofs.lemmas.Grind.{common_steps}
use Rattle.gv_base.specs.Places.{is_newline, lines_ended, bytes_on_line}
use Rattle.gv_base.specs.Lines.{AreStarts}

-- the first items of a list have no more of a kind than the list
count_take : (p : ℕ → Bool) (xs : List ℕ) (n : ℕ) → count_by p (take n xs) ≤ count_by p xs
count_take p [] zero = grind (arith, common_steps)
count_take p [] (suc n) = grind (arith, common_steps)
count_take p (x ∷ xs) zero = grind (arith, common_steps)
count_take p (x ∷ xs) (suc n) = grind (arith, common_steps, count_take p xs n)

-- no more lines end before an earlier place
pub ended_mono : (text : List ℕ) (s at : ℕ) → s ≤ at → lines_ended (take s text) ≤ lines_ended (take at text)
ended_mono text s at h =
    let fewer : lines_ended (take s (take at text)) ≤ lines_ended (take at text) = count_take is_newline (take at text) s in
    let same : take s (take at text) ≡ take s text = take-take s at text h in
    rw same at fewer

line_goes_on : (text : List ℕ) (i : ℕ) → i < length text → is_newline (slice_index text i) ≡ false →
    bytes_on_line (take (i + 1) text) ≡ bytes_on_line (take i text) + 1
line_goes_on text i h other = grind (arith, common_steps)

line_ends : (text : List ℕ) (i : ℕ) → i < length text → is_newline (slice_index text i) ≡ true →
    bytes_on_line (take (i + 1) text) ≡ 0
line_ends text i h newline = grind (arith, common_steps)

newline_of : (b : ℕ) → b ≡ 10 → is_newline b ≡ true
newline_of b e = eq-eqb b 10 e

other_of : (b : ℕ) → (b ≡ 10 → ⊥) → is_newline b ≡ false
other_of b ne = grind (arith, nat_tests)

-- the last of the places up to one more, or an earlier one
at_most_one_more : (P : ℕ → Type 0) (i : ℕ) → ((at : ℕ) → at ≤ i → P at) → P (i + 1) → (at : ℕ) → at ≤ i + 1 → P at
at_most_one_more P i below last at h =
    ⊎_elim (λ (e : at ≡ i + 1). subst P (sym e) last) (λ (l : at < i + 1). below at (omega arith)) (eq-or-lt_of_le h)

pub starts_same : (text : List ℕ) (i : ℕ) (starts : List ℕ) → i < length text → (slice_index text i ≡ 10 → ⊥) →
    AreStarts text i starts → AreStarts text (i + 1) starts
starts_same text i starts h other_byte all =
    let other : is_newline (slice_index text i) ≡ false = other_of (slice_index text i) other_byte in
    let ended : lines_ended (take (i + 1) text) ≡ lines_ended (take i text) = count_by_more_no is_newline text i 0 h other in
    let column : bytes_on_line (take (i + 1) text) ≡ bytes_on_line (take i text) + 1 = line_goes_on text i h other in
    let here : slice_index starts (lines_ended (take i text)) + bytes_on_line (take i text) ≡ i = all.columns i (omega arith) in
    let next : slice_index starts (lines_ended (take (i + 1) text)) + bytes_on_line (take (i + 1) text) ≡ i + 1 =
    rw (ended, column) (omega arith) in
    record {
      count = all.count ∙ ap (λ n. 1 + n) (sym ended);
      lines = all.lines;
      columns = at_most_one_more (λ at. slice_index starts (lines_ended (take at text)) + bytes_on_line (take at text) ≡ at) i all.columns next;
    }

-- an older start stays, and the new one is last
old_start : (starts : List ℕ) (s k : ℕ) → k < length starts → slice_index (starts ++ s ∷ []) k ≡ slice_index starts k
old_start starts s k h = get_or_append_left starts (s ∷ []) 0 k h

new_start : (starts : List ℕ) (s k : ℕ) → k ≡ length starts → slice_index (starts ++ s ∷ []) k ≡ s
new_start starts s k e = ap (λ n. slice_index (starts ++ s ∷ []) n) e ∙ get_or-append_seam starts s [] 0

pub starts_more : (text : List ℕ) (i : ℕ) (starts : List ℕ) → i < length text → slice_index text i ≡ 10 →
    AreStarts text i starts → AreStarts text (i + 1) (starts ++ (i + 1) ∷ [])
starts_more text i starts h newline_byte all =
    let newline : is_newline (slice_index text i) ≡ true = newline_of (slice_index text i) newline_byte in
    let ended : lines_ended (take (i + 1) text) ≡ lines_ended (take i text) + 1 = count_by_more_yes is_newline text i 0 h newline in
    let column : bytes_on_line (take (i + 1) text) ≡ 0 = line_ends text i h newline in
    let all_starts : List ℕ = starts ++ (i + 1) ∷ [] in
    let many : length (starts ++ (i + 1) ∷ []) ≡ length starts + 1 = length-append starts ((i + 1) ∷ []) in
    let count : length starts ≡ 1 + lines_ended (take i text) = all.count in
    let last : slice_index (starts ++ (i + 1) ∷ []) (lines_ended (take (i + 1) text)) ≡ i + 1 =
    new_start starts (i + 1) (lines_ended (take (i + 1) text)) (omega arith) in
    record {
      count = omega arith;
      lines = λ k below. ⊎_elim
          (λ (e : k ≡ length starts). rw (new_start starts (i + 1) k e) (omega arith))
          (λ (l : k < length starts). rw (old_start starts (i + 1) k l) (all.lines k l))
          (eq-or-lt_of_le (le_from k (length starts) (omega arith)));
      columns = at_most_one_more (λ at. slice_index (starts ++ (i + 1) ∷ []) (lines_ended (take at text)) + bytes_on_line (take at text) ≡ at) i
          (λ at up_to. let fewer : lines_ended (take at text) ≤ lines_ended (take i text) = ended_mono text at i up_to in
          let same : slice_index (starts ++ (i + 1) ∷ []) (lines_ended (take at text)) ≡ slice_index starts (lines_ended (take at text)) =
          old_start starts (i + 1) (lines_ended (take at text)) (omega arith) in
          ap (λ n. n + bytes_on_line (take at text)) same ∙ all.columns at up_to)
          (omega arith);
    }
  where
    le_from : (k n : ℕ) → k < n + 1 → k ≤ n
    le_from k n l = omega arith

-- a line that begins no later than a place has its number
pub line_reached : (text starts : List ℕ) (line at : ℕ) → AreStarts text (length text) starts → line < length starts →
    slice_index starts line ≤ at → line ≤ lines_ended (take at text)
line_reached text starts line at all h begins =
    let number : lines_ended (take (slice_index starts line) text) ≡ line = all.lines line h in
    let fewer : lines_ended (take (slice_index starts line) text) ≤ lines_ended (take at text) = ended_mono text (slice_index starts line) at begins in
    omega arith

-- and one that begins later has a larger number
pub line_ahead : (text starts : List ℕ) (line at : ℕ) → AreStarts text (length text) starts → line < length starts → at ≤ length text →
    at < slice_index starts line → lines_ended (take at text) < line
line_ahead text starts line at all h within later =
    let number : lines_ended (take (slice_index starts line) text) ≡ line = all.lines line h in
    let fewer : lines_ended (take at text) ≤ lines_ended (take (slice_index starts line) text) = ended_mono text at (slice_index starts line) (omega arith) in
    let not_here : lines_ended (take at text) ≡ line → ⊥ = λ (e : lines_ended (take at text) ≡ line).
    let here : slice_index starts line + bytes_on_line (take at text) ≡ at =
    subst (λ (n : ℕ). slice_index starts n + bytes_on_line (take at text) ≡ at) e (all.columns at within) in
    omega arith in
    ⊎_elim (λ (e : lines_ended (take at text) ≡ line). absurd (not_here e)) (λ (l : lines_ended (take at text) < line). l)
    (eq-or-lt_of_le (omega arith))
