-- What is owned stands for other assertions: moves that leave a frame where it is.
use Rattle.std.proofs.Common.{◌≡◌, ℕ, ◌+◌, List, [], ◌∷◌, ◌++◌, Some, refl, arith, ap, sym, subst}
use Rattle.gv_terms.specs.declared.sort.Sort.TheVariants as sort
use Rattle.gv_terms.specs.declared.tree.TermTree.{TermTree}
use Rattle.gv_terms.specs.declared.value.Env.{Env}
use Rattle.gv_terms.specs.declared.value.Value.{Value}
use Rattle.gv_terms.specs.Trees.{sort_of}
use Rattle.gv_terms.specs.Ranges.{IsValuation}
use Rattle.gv_atomic.specs.Choices.{binds}
use Rattle.gv_resources.specs.Pieces.{Piece}
use Rattle.gv_resources.proofs.Sums.{sum_zero}
use Rattle.gv_assertions.specs.Atoms.{Atom, Each, Predicate, Takes, here, there}
use Rattle.gv_assertions.specs.Standing.{StandsFor, StandForAll, AreTrueUnder, both, none, each, indexed, number_under}
use Rattle.gv_assertions.proofs.Lists.{front, parted, put_back, joined, more_for, more_all}
use Rattle.gv_assertions.proofs.Ranges.{range_laws}
use Rattle.gv_instances.specs.Instances.{given_under, AreApart}
use Rattle.gv_instances.proofs.Assertions.{all_into, all_out}
use Rattle.gv_seats.specs.Paths.{Path}
use Rattle.gv_seats.specs.Seats.{Proof}
use Rattle.gv_seats.specs.Changes.{changes_nothing}
use Rattle.gv_seats.specs.Soundness.{IsSoundMove}
use Rattle.gv_seats.proofs.Bases.{arrived}
use Rattle.gv_rules.specs.Rows.{Replaces, here, there}
use Rattle.gv_rules.proofs.Moves.{with_atoms, and_last}
use Rattle.gv_ranges.specs.Rows.{next, at_number, body_at, drops, takes_number, puts_number, splits, joins, adds_empty, makes_one}
use Rattle.gv_ranges.specs.Laws.{DropsLaw, TakesNumberLaw, PutsNumberLaw, SplitsLaw, JoinsLaw, AddsEmptyLaw, MakesOneLaw}
use Rattle.gv_ranges.proofs.Numbers.{at_most_is, less_is, is_word, none_of, none_last, none_taken, next_is}

-- where a piece that stands for a path's assertions stands for others, the path may have these
restated : (o : Proof) (h : Path) (atoms : List Atom)
    → ((env : Env) → IsValuation env → AreTrueUnder env h.facts → (p : Piece) → StandForAll o.preds env h.atoms p → StandForAll o.preds env atoms p)
    → IsSoundMove o changes_nothing h (record h { atoms = atoms } ∷ [])
restated o h atoms again w g start f rest s =
    arrived o w g start f h _ rest refl (record {
      env = s.env;
      piece = s.piece;
      pool = s.pool;
      locks = s.locks;
      described = with_atoms o.preds start s.env h f s.piece s.piece atoms h.bracket s.described
          (again s.env s.described.valuation s.described.facts s.piece s.described.stands);
      base = s.base;
      still = s.still;
    })

-- what becomes another is taken of the one list, and the other of what comes of it
record Kept (all : List Atom) (x y : Atom) (now : List Atom) : Type 0 where
  left : List Atom
  was : Takes all x left
  is : Takes now y left

kept : {all now : List Atom} {x y : Atom} → Replaces all x y now → Kept all x y now
kept (here {xs = xs}) = record { left = xs; was = here; is = here }
kept (there {z = z} r) = let k = kept r in record { left = z ∷ k.left; was = there k.was; is = there k.is }

alone : {preds : List Predicate} {env : Env} {a : Atom} {p : Piece} → StandForAll preds env (a ∷ []) p → StandsFor preds env a p
alone s = let (q, r, split, h, others) = parted s in more_for (λ e. let l = split e in omega arith) h

-- ---- what a range says of a number, with a term for it

same_env : (env : Env) (index : List ℕ) (t : TermTree) → sort_of t ≡ Some sort.Word → given_under (at_number index t) env ≡ indexed env index (number_under env t)
same_env env index t word = ap (λ (v : Value). binds (record { name = index; value = v } ∷ env.bindings)) (is_word env t word)

into_body : (preds : List Predicate) (env : Env) (index : List ℕ) (t : TermTree) (a : Atom) (p : Piece) → sort_of t ≡ Some sort.Word → AreApart (at_number index t) a
    → StandsFor preds (indexed env index (number_under env t)) a p → StandsFor preds env (body_at index t a) p
into_body preds env index t a p word apart h =
    alone (all_into preds (at_number index t) (word, tt) (a ∷ []) env p (apart, tt)
    (both p (λ e. 0) (λ e. omega arith) (subst (λ v. StandsFor preds v a p) (sym (same_env env index t word)) h) none))

out_of_body : (preds : List Predicate) (env : Env) (index : List ℕ) (t : TermTree) (a : Atom) (p : Piece) → sort_of t ≡ Some sort.Word → AreApart (at_number index t) a
    → StandsFor preds env (body_at index t a) p → StandsFor preds (indexed env index (number_under env t)) a p
out_of_body preds env index t a p word apart h =
    subst (λ v. StandsFor preds v a p) (same_env env index t word)
    (alone (all_out preds (at_number index t) (word, tt) (a ∷ []) env p (apart, tt) (both p (λ e. 0) (λ e. omega arith) h none)))

-- ---- laws

pub drops_law : DropsLaw
drops_law o h k (drops a left takes) =
    restated o h left (λ env valuation facts p stands. (let (q, r, split, h, others) = parted (front takes stands) in more_all (λ e. let l = split e in omega arith) others))

pub takes_law : TakesNumberLaw
takes_law o h k (takes_number index low high t except a atoms word words apart known becomes) =
    restated o h (atoms ++ body_at index t a ∷ []) (λ env valuation facts p stands. (
    let met = known env valuation facts in
    let laws = range_laws o.preds in
    let m = kept becomes in
    let (q, r, split, range, others) = parted (front m.was stands) in
    let (one, rest, parts, body, left) =
    laws.take env index low high t except a q (at_most_is env low t met.0) (less_is env t high met.1.0) (none_of env t except word words met.1.1) range in
    let now = laws.others env index low high (t ∷ except) (except ++ t ∷ []) a rest (λ n free. none_last env t except n free) left in
    and_last {p = λ e. rest e + r e} (body_at index t a) one (λ e. let l = split e in let j = parts e in omega arith)
    (put_back m.is (both rest r (λ e. omega arith) now others)) (into_body o.preds env index t a one word apart body)))

pub puts_law : PutsNumberLaw
puts_law o h k (puts_number index low high t except fewer a mid atoms word apart takes taken becomes) =
    restated o h atoms (λ env valuation facts p stands. (
    let laws = range_laws o.preds in
    let m = kept becomes in
    let (one, more, split, body, behind) = parted (front taken stands) in
    let (q, r, parts, range, others) = parted (front m.was behind) in
    let whole : Piece = λ e. one e + q e in
    let out = laws.others env index low high except (t ∷ fewer) a q (λ n free. none_taken env t except fewer n takes free) range in
    let now = laws.put env index low high t fewer a whole (one, q, (λ e. omega arith), out_of_body o.preds env index t a one word apart body, out) in
    put_back m.is (both whole r (λ e. let l = split e in let j = parts e in omega arith) now others)))

pub splits_law : SplitsLaw
splits_law o h k (splits index low mid high a left known takes) =
    restated o h (left ++ Each index low mid [] a ∷ Each index mid high [] a ∷ []) (λ env valuation facts p stands. (
    let met = known env valuation facts in
    let (q, r, split, range, others) = parted (front takes stands) in
    let (one, two, parts, lower, upper) = (range_laws o.preds).split env index low mid high a q (at_most_is env low mid met.0) (at_most_is env mid high met.1.0) range in
    joined {q = q} (λ e. let l = split e in omega arith) others
    (both one two (λ e. let j = parts e in omega arith) lower (both two (λ e. 0) (λ e. omega arith) upper none))))

pub joins_law : JoinsLaw
joins_law o h k (joins index low mid high a rest left first second) =
    restated o h (left ++ Each index low high [] a ∷ []) (λ env valuation facts p stands. (
    let (q, behind, split, lower, more) = parted (front first stands) in
    let (r, others, parts, upper, kept) = parted (front second more) in
    let whole : Piece = λ e. q e + r e in
    let now = (range_laws o.preds).join env index low mid high a whole (q, r, (λ e. omega arith), lower, upper) in
    and_last (Each index low high [] a) whole (λ e. let l = split e in let j = parts e in omega arith) kept now))

pub empty_law : AddsEmptyLaw
empty_law o h k (adds_empty index low high except a known) =
    restated o h (h.atoms ++ Each index low high except a ∷ []) (λ env valuation facts p stands. (
    let met = known env valuation facts in
    and_last (Each index low high except a) (λ e. 0) (λ e. omega arith) stands
    ((range_laws o.preds).empty env index low high except a (λ e. 0) (at_most_is env high low met.0))))

pub one_law : MakesOneLaw
one_law o h k (makes_one index low a atoms word apart becomes) =
    restated o h atoms (λ env valuation facts p stands. (
    let m = kept becomes in
    let (q, r, split, body, others) = parted (front m.was stands) in
    let now = (range_laws o.preds).put env index low (next low) low [] a q
    (q, (λ e. 0), (λ e. omega arith), out_of_body o.preds env index low a q word apart body, nothing env) in
    put_back m.is (both q r split now others)))
  where
    -- but for its only number the range says nothing
    nothing : (env : Env) → StandsFor o.preds env (Each index low (next low) (low ∷ []) a) (λ e. 0)
    nothing env = each (λ n e. 0) (λ e. let z = sum_zero (number_under env (next low)) in omega arith)
        (λ n from below free. absurd (free.0 (let u = next_is env low in omega (arith, from, below, u))))
