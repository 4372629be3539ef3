-- Tokens in the order of a text.
use Rattle.std.specs.Prelude.{ℕ, ◌≤◌, List, [], ◌∷◌}
use Rattle.gv_base.specs.declared.token.Token.{Token}

-- The tokens lie one after another between two places, and none begins before the one before it ends.
abbrev pub AreSpans : ℕ → ℕ → List Token → Type 0
AreSpans from end [] = from ≤ end
AreSpans from end (t ∷ ts) = (from ≤ t.start) × (t.start ≤ t.end) × AreSpans t.end end ts
