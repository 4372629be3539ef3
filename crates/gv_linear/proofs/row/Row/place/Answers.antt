use Rattle.std.proofs.Common.{rules, ◌≡◌, ℕ, ◌<◌, ◌≤◌, true, false, List, length, ltb, get_or, subst, sym, arith}
use Rattle.std.proofs.Math.IntN.{ℤ}
use Rattle.std.specs.Prelude.{AllPairs}
use Rattle.std.proofs.lemmas.List.Sorted.{IsPartitionPoint-from_clause}
use Rattle.std.specs.List.Sorted.{IsPartitionPoint}
use Rattle.gv_linear.proofs.RowLemmas.{parted}
use Rattle.gv_linear.proofs.row.Row.place.Goals as goal

pub returns-clause-before : goal.returns-clause-before
returns-clause-before c k d l =
    let items = c.as_slice.result.now in
    let same : items ≡ c.args.self.now.items = c.as_slice.ensures in
    let up : AllPairs (λ i j. i.0 < j.0) items = subst (λ (xs : List (ℕ × ℤ)). AllPairs (λ i j. i.0 < j.0) xs) (sym same) c.requires.ascending in
    let point : IsPartitionPoint (λ (i : ℕ × ℤ). ltb i.0 c.args.unknown ≡ true) (λ (i : ℕ × ℤ). ltb i.0 c.args.unknown ≡ false) items c.partition_point.result
    = IsPartitionPoint-from_clause (λ (i : ℕ × ℤ). ltb i.0 c.args.unknown) items c.partition_point.result c.partition_point.ensures.partitioned (parted c.args.unknown items up) (λ a r f' called. search rules) in
    let here : (get_or items k d).0 < c.args.unknown = grind (arith, point.0 k d) in
    subst (λ (xs : List (ℕ × ℤ)). (get_or xs k d).0 < c.args.unknown) same here

pub returns-clause-behind : goal.returns-clause-behind
returns-clause-behind c k d l short =
    let items = c.as_slice.result.now in
    let same : items ≡ c.args.self.now.items = c.as_slice.ensures in
    let up : AllPairs (λ i j. i.0 < j.0) items = subst (λ (xs : List (ℕ × ℤ)). AllPairs (λ i j. i.0 < j.0) xs) (sym same) c.requires.ascending in
    let within : k < length items = subst (λ (xs : List (ℕ × ℤ)). k < length xs) (sym same) short in
    let point : IsPartitionPoint (λ (i : ℕ × ℤ). ltb i.0 c.args.unknown ≡ true) (λ (i : ℕ × ℤ). ltb i.0 c.args.unknown ≡ false) items c.partition_point.result
    = IsPartitionPoint-from_clause (λ (i : ℕ × ℤ). ltb i.0 c.args.unknown) items c.partition_point.result c.partition_point.ensures.partitioned (parted c.args.unknown items up) (λ a r f' called. search rules) in
    let here : c.args.unknown ≤ (get_or items k d).0 = grind (arith, point.1 k d l within) in
    subst (λ (xs : List (ℕ × ℤ)). c.args.unknown ≤ (get_or xs k d).0) same here
