-- The first name under which operations differ, as it is found.
use Rattle.std.specs.Prelude.{ℕ, Bool, true, false, not, ◌&&◌, ◌==◌, List, [], ◌∷◌, length, Option, Some, None, if◌then◌else◌}
use Rattle.std.specs.Cmp.Lexicographic.{slice_cmp}
use Rattle.std.specs.List.{list_all}
use Rattle.std.specs.Ordering.{nat_cmp, is_lt}
use Rattle.gv_base.specs.declared.small.Small.{Small}
use Rattle.gv_base.specs.declared.small.SmallOp.{SmallOp}
use Rattle.gv_terms.specs.declared.sort.Sort.{Sort}
use Rattle.gv_terms.specs.declared.sort.Sort.TheVariants as sort
use Rattle.gv_terms.specs.declared.tree.TermTree.{TermTree}
use Rattle.gv_terms.specs.declared.var.Var.{Var}
use Rattle.gv_terms.specs.Sorts.{sort_eq}
use Rattle.gv_atomic.specs.declared.spec.Op.{Op}
use Rattle.gv_atomic.specs.declared.spec.Spec.{Spec}
use Rattle.gv_spec.specs.Atomic.{term_sort}
use Rattle.gv_interfaces.specs.Interfaces.{named}

abbrev pub are_words : List Var → Bool
are_words vars = list_all (λ v. sort_eq v.sort sort.Word) vars

abbrev pub is_word : Option Sort → Bool
is_word None = false
is_word (Some s) = sort_eq s sort.Word

-- whether an operation takes so many words and replies one
abbrev pub takes_words : ℕ → List TermTree → Op → Bool
takes_words count ts op = (length op.params == count) && are_words op.params && is_word (term_sort ts op.reply)

abbrev pub are_other : List TermTree → Option SmallOp → Option Op → Bool
are_other ts None None = false
are_other ts None (Some other) = true
are_other ts (Some op) None = true
are_other ts (Some op) (Some other) = not (takes_words (length op.params) ts other)

-- whether the operations with a name differ
abbrev pub differs : Small → Spec → List ℕ → Bool
differs p s name = are_other s.store (named (λ op. op.name) name p.ops) (named (λ op. op.name) name s.ops)

abbrev pub is_before : List ℕ → List ℕ → Bool
is_before name other = is_lt (slice_cmp nat_cmp name other)

abbrev pub lesser : Option (List ℕ) → List ℕ → Option (List ℕ)
lesser None name = Some name
lesser (Some first) name = if is_before name first then Some name else Some first

-- the first of those that differ among names, and of one that was found before
abbrev pub first_among : Small → Spec → Option (List ℕ) → List (List ℕ) → Option (List ℕ)
first_among p s first [] = first
first_among p s first (name ∷ names) = first_among p s (if differs p s name then lesser first name else first) names
