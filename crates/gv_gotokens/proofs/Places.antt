-- Tokens by where a search by halves ends.
use Rattle.std.proofs.Common.{◌≡◌, ℕ, zero, suc, ◌≤◌, ◌<◌, Bool, true, false, cond, ◌&&◌, List, [], ◌∷◌, length, get_or, refl, ap, ◌∙◌, arith}
use Rattle.std.specs.Prelude.{nat_lt, nat_le, ◌==◌, slice_get, unwrap_or}
use Rattle.std.specs.List.Sorted.{IsPartitionPoint, IsNonDecreasingBy}
use Rattle.gv_gosyntax.specs.declared.lexeme.Lexeme.{Lexeme}
use Rattle.gv_gotypes.specs.Scopes.{next_of, token_before}
use Rattle.gv_gotokens.specs.Indexed.{starts_of, AreOrdered}

and_false : (a : Bool) → (a && false) ≡ false
and_false true = refl
and_false false = refl

above : (m n : ℕ) → nat_le m n ≡ false → nat_lt n m ≡ true
above m n e = grind arith

not_above : (m n : ℕ) → nat_le m n ≡ true → nat_lt n m ≡ false
not_above m n e = grind arith

abbrev Parted : ℕ → List ℕ → ℕ → Type 0
Parted at ss i = IsPartitionPoint (λ s. nat_le s at ≡ true) (λ s. nat_le s at ≡ false) ss i

-- the first start behind a place
pub next_by : (class at : ℕ) (ts : List Lexeme) (i : ℕ) → Parted at (starts_of class ts) i → next_of class ts at ≡ unwrap_or (slice_get (starts_of class ts) i) at
next_by class at [] i h = refl
next_by class at (t ∷ ts) i h = step (next_by class at ts) (t.class == class) i h
  where
    step : ((i : ℕ) → Parted at (starts_of class ts) i → next_of class ts at ≡ unwrap_or (slice_get (starts_of class ts) i) at) → (b : Bool) (i : ℕ) → Parted at (cond b (t.start ∷ starts_of class ts) (starts_of class ts)) i
        → cond (nat_lt at t.start && b) t.start (next_of class ts at) ≡ unwrap_or (slice_get (cond b (t.start ∷ starts_of class ts) (starts_of class ts)) i) at
    step more false i h = ap (λ (b : Bool). cond b t.start (next_of class ts at)) (and_false (nat_lt at t.start)) ∙ more i h
    step more true zero h = ap (λ (b : Bool). cond (b && true) t.start (next_of class ts at)) (above t.start at (h.1 0 0 (omega arith) (omega arith)))
    step more true (suc j) h =
        ap (λ (b : Bool). cond (b && true) t.start (next_of class ts at)) (not_above t.start at (h.0 0 0 (omega arith) (omega arith)))
        ∙ more j ((λ k d low high. h.0 (suc k) d (omega arith) (omega (arith, high))), (λ k d low high. h.1 (suc k) d (omega (arith, low)) (omega (arith, high))))

abbrev pub last_or : ℕ → List Lexeme → ℕ → Lexeme → ℕ
last_or last ts zero d = last
last_or last ts (suc j) d = (get_or ts j d).start

abbrev Before : ℕ → List Lexeme → ℕ → Type 0
Before at ts i = IsPartitionPoint (λ t. nat_lt t.start at ≡ true) (λ t. nat_lt t.start at ≡ false) ts i

-- the last start before a place
pub before_by : (at last : ℕ) (ts : List Lexeme) (i : ℕ) (d : Lexeme) → i ≤ length ts → Before at ts i → token_before last ts at ≡ last_or last ts i d
before_by at last [] zero d within h = refl
before_by at last [] (suc i) d within h = absurd (omega (arith, within))
before_by at last (t ∷ ts) zero d within h =
    ap (λ (b : Bool). cond b (token_before t.start ts at) (token_before last ts at)) (h.1 0 d (omega arith) (omega arith))
    ∙ before_by at last ts zero d (omega arith) ((λ k e low high. absurd (omega (arith, high))), (λ k e low high. h.1 (suc k) e (omega arith) (omega (arith, high))))
before_by at last (t ∷ ts) (suc j) d within h =
    ap (λ (b : Bool). cond b (token_before t.start ts at) (token_before last ts at)) (h.0 0 d (omega arith) (omega arith))
    ∙ before_by at t.start ts j d (omega (arith, within)) ((λ k e low high. h.0 (suc k) e (omega arith) (omega (arith, high))), (λ k e low high. h.1 (suc k) e (omega (arith, low)) (omega (arith, high))))
    ∙ shifted j
  where
    shifted : (j : ℕ) → last_or t.start ts j d ≡ (get_or (t ∷ ts) j d).start
    shifted zero = refl
    shifted (suc j) = refl

-- starts in order of text
starts_above : (class low : ℕ) (ts : List Lexeme) → ((k : ℕ) (d : Lexeme) → k < length ts → low ≤ (get_or ts k d).start) → (k : ℕ) (d : ℕ) → k < length (starts_of class ts) → low ≤ get_or (starts_of class ts) k d
starts_above class low [] h k d l = absurd (omega (arith, l))
starts_above class low (t ∷ ts) h k d l = step (λ k l. starts_above class low ts (λ i e m. h (suc i) e (omega (arith, m))) k d l) (t.class == class) k l
  where
    step : ((k : ℕ) → k < length (starts_of class ts) → low ≤ get_or (starts_of class ts) k d) → (b : Bool) (k : ℕ) → k < length (cond b (t.start ∷ starts_of class ts) (starts_of class ts)) → low ≤ get_or (cond b (t.start ∷ starts_of class ts) (starts_of class ts)) k d
    step rest false k l = rest k l
    step rest true zero l = h 0 t (omega arith)
    step rest true (suc k) l = rest k (omega (arith, l))

pub starts_ordered : (class : ℕ) (ts : List Lexeme) → AreOrdered ts → IsNonDecreasingBy (λ (s : ℕ). s) (starts_of class ts)
starts_ordered class [] h i j d le l = absurd (omega (arith, l))
starts_ordered class (t ∷ ts) h i j d le l =
    step (λ i j. starts_ordered class ts (λ a b e low high. h (suc a) (suc b) e (omega (arith, low)) (omega (arith, high))) i j d) (t.class == class) i j le l
  where
    step : ((i j : ℕ) → i ≤ j → j < length (starts_of class ts) → get_or (starts_of class ts) i d ≤ get_or (starts_of class ts) j d) → (b : Bool) (i j : ℕ) → i ≤ j → j < length (cond b (t.start ∷ starts_of class ts) (starts_of class ts))
        → get_or (cond b (t.start ∷ starts_of class ts) (starts_of class ts)) i d ≤ get_or (cond b (t.start ∷ starts_of class ts) (starts_of class ts)) j d
    step rest false i j le l = rest i j le l
    step rest true zero zero le l = omega arith
    step rest true zero (suc j) le l = starts_above class t.start ts (λ k e m. h 0 (suc k) e (omega arith) (omega (arith, m))) j d (omega (arith, l))
    step rest true (suc i) zero le l = absurd (omega (arith, le))
    step rest true (suc i) (suc j) le l = rest i j (omega (arith, le)) (omega (arith, l))
