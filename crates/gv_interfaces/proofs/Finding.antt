-- What is found first is the first name under which operations differ.
use Rattle.std.proofs.Common.{◌≡◌, ◌⊎◌, inl, inr, ℕ, Bool, true, false, List, [], ◌∷◌, ◌++◌, length, map, Option, Some, None, option_map, refl, sym, ap, subst, ◌∙◌, arith}
use Rattle.std.specs.Prelude.{◌&&◌, ◌==◌, not, if◌then◌else◌}
use Rattle.std.specs.List.{AllByRecursion}
use Rattle.std.proofs.lemmas.Bool.{eqb-true, eq-eqb}
use Rattle.gv_base.specs.declared.small.Small.{Small}
use Rattle.gv_base.specs.declared.small.SmallOp.{SmallOp}
use Rattle.gv_terms.specs.declared.sort.Sort.{Sort}
use Rattle.gv_terms.specs.declared.sort.Sort.TheVariants as sort
use Rattle.gv_terms.specs.declared.tree.TermTree.{TermTree}
use Rattle.gv_terms.specs.declared.var.Var.{Var}
use Rattle.gv_terms.specs.Sorts.{sort_eq}
use Rattle.gv_atomic.specs.declared.spec.Op.{Op}
use Rattle.gv_atomic.specs.declared.spec.Spec.{Spec}
use Rattle.gv_spec.specs.Atomic.{term_sort}
use Rattle.gv_small.proofs.Cuts.{both}
use Rattle.gv_interfaces.specs.Deciding.{are_words, is_word, takes_words, are_other, differs, is_before, lesser, first_among}
use Rattle.gv_interfaces.specs.Interfaces.{Signature, named, small_signature, spec_signature, in_package, in_spec, SameOperations, IsDiffering, IsFirstDiffering}
use Rattle.gv_interfaces.proofs.ByName.{among_names}
use Rattle.gv_interfaces.proofs.Order.{before_clash, not_before_itself, not_after, not_before}

-- ---- signatures

is_word_sort : (s : Sort) → sort_eq s sort.Word ≡ true → sort.Word ≡ s
is_word_sort sort.Word h = refl
is_word_sort sort.Bool h = absurd cc
is_word_sort sort.Bytes h = absurd cc
is_word_sort sort.Words h = absurd cc
is_word_sort sort.Refs h = absurd cc
is_word_sort sort.Blocks h = absurd cc
is_word_sort sort.MapWW h = absurd cc
is_word_sort sort.MapWB h = absurd cc
is_word_sort sort.Ref h = absurd cc
is_word_sort sort.SliceS h = absurd cc
is_word_sort sort.Call h = absurd cc
is_word_sort sort.Name h = absurd cc

words_same : (names : List (List ℕ)) (vars : List Var) → length vars ≡ length names → are_words vars ≡ true → map (λ n. sort.Word) names ≡ map (λ v. v.sort) vars
words_same [] [] n h = refl
words_same [] (v ∷ vs) n h = absurd (omega (arith, n))
words_same (x ∷ xs) [] n h = absurd (omega (arith, n))
words_same (x ∷ xs) (v ∷ vs) n h =
    let parts = both (sort_eq v.sort sort.Word) (are_words vs) h in
    ap (λ s. s ∷ map (λ n. sort.Word) xs) (is_word_sort v.sort parts.0)
    ∙ ap (λ ss. v.sort ∷ ss) (words_same xs vs (omega (arith, n)) parts.1)

words_other : (names : List (List ℕ)) (vars : List Var) → map (λ n. sort.Word) names ≡ map (λ v. v.sort) vars → (length vars ≡ length names) × (are_words vars ≡ true)
words_other [] [] h = (refl, refl)
words_other [] (v ∷ vs) h = absurd cc
words_other (x ∷ xs) [] h = absurd cc
words_other (x ∷ xs) (v ∷ vs) h =
    let head : sort.Word ≡ v.sort = cc in
    let rest : map (λ n. sort.Word) xs ≡ map (λ v. v.sort) vs = cc in
    let more = words_other xs vs rest in
    let is : sort_eq v.sort sort.Word ≡ true = ap (λ s. sort_eq s sort.Word) (sym head) in
    (omega (arith, more.0), ap (λ b. b && are_words vs) is ∙ more.1)

reply_same : (r : Option Sort) → is_word r ≡ true → Some sort.Word ≡ r
reply_same None h = absurd cc
reply_same (Some s) h = ap Some (is_word_sort s h)

same_number : (a b : ℕ) → (a == b) ≡ true → a ≡ b
same_number a b h = eqb-true a b h

signature_same : (op : SmallOp) (ts : List TermTree) (o : Op) → takes_words (length op.params) ts o ≡ true → small_signature op ≡ spec_signature ts o
signature_same op ts o h =
    let parts = both ((length o.params == length op.params) && are_words o.params) (is_word (term_sort ts o.reply)) h in
    let more = both (length o.params == length op.params) (are_words o.params) parts.0 in
    let params = words_same op.params o.params (same_number (length o.params) (length op.params) more.0) more.1 in
    let reply = reply_same (term_sort ts o.reply) parts.1 in
    λ i. record { params = params i; reply = reply i }

signature_other : (op : SmallOp) (ts : List TermTree) (o : Op) → small_signature op ≡ spec_signature ts o → takes_words (length op.params) ts o ≡ true
signature_other op ts o h =
    let words = words_other op.params o.params (ap (λ (x : Signature). x.params) h) in
    let reply : is_word (term_sort ts o.reply) ≡ true = ap is_word (sym (ap (λ (x : Signature). x.reply) h)) in
    let count : (length o.params == length op.params) ≡ true = ap (λ n. n == length op.params) words.0 ∙ itself (length op.params) in
    ap (λ b. (b && are_words o.params) && is_word (term_sort ts o.reply)) count
    ∙ ap (λ b. b && is_word (term_sort ts o.reply)) words.1 ∙ reply
  where
    itself : (n : ℕ) → (n == n) ≡ true
    itself n = eq-eqb n n refl

-- ---- names

not_true : (b : Bool) → not b ≡ true → b ≡ false
not_true true h = absurd cc
not_true false h = refl

not_false : (b : Bool) → not b ≡ false → b ≡ true
not_false true h = refl
not_false false h = absurd cc

other_is : (ts : List TermTree) (one : Option SmallOp) (other : Option Op) → are_other ts one other ≡ true
    → option_map small_signature one ≡ option_map (spec_signature ts) other → ⊥
other_is ts None None h same = absurd cc
other_is ts None (Some o) h same = absurd cc
other_is ts (Some op) None h same = absurd cc
other_is ts (Some op) (Some o) h same =
    let alike : small_signature op ≡ spec_signature ts o = cc in
    let clash : true ≡ false = sym (signature_other op ts o alike) ∙ not_true (takes_words (length op.params) ts o) h in
    absurd cc

same_is : (ts : List TermTree) (one : Option SmallOp) (other : Option Op) → are_other ts one other ≡ false
    → option_map small_signature one ≡ option_map (spec_signature ts) other
same_is ts None None h = refl
same_is ts None (Some o) h = absurd cc
same_is ts (Some op) None h = absurd cc
same_is ts (Some op) (Some o) h = ap Some (signature_same op ts o (not_false (takes_words (length op.params) ts o) h))

module _ (p : Small) (s : Spec) where
  differing : (name : List ℕ) → differs p s name ≡ true → IsDiffering p s name
  differing name h = other_is s.store (named (λ op. op.name) name p.ops) (named (λ op. op.name) name s.ops) h

  alike : (name : List ℕ) → differs p s name ≡ false → in_package p name ≡ in_spec s name
  alike name h = same_is s.store (named (λ op. op.name) name p.ops) (named (λ op. op.name) name s.ops) h

  -- ---- the first one

  abbrev IsBest : Option (List ℕ) → List (List ℕ) → Option (List ℕ) → Type 0
  IsBest first names None = (first ≡ None) × AllByRecursion (λ n. differs p s n ≡ false) names
  IsBest first names (Some m) =
      ((first ≡ Some m) ⊎ (differs p s m ≡ true)) × ((f : List ℕ) → first ≡ Some f → is_before f m ≡ false)
      × AllByRecursion (λ n. differs p s n ≡ true → is_before n m ≡ false) names

  best_none : (first r : Option (List ℕ)) → first ≡ r → IsBest first [] r
  best_none first None e = (e, tt)
  best_none first (Some m) e = (inl e, λ f is. let same : f ≡ m = some_same f m first is e in ap (λ x. is_before x m) same ∙ not_before_itself m, tt)
    where
      some_same : (x y : List ℕ) (o : Option (List ℕ)) → o ≡ Some x → o ≡ Some y → x ≡ y
      some_same x y o h k = let same : Some x ≡ Some y = sym h ∙ k in cc

  -- a name that doesn't differ
  best_passed : (first r : Option (List ℕ)) (n : List ℕ) (ns : List (List ℕ)) → differs p s n ≡ false → IsBest first ns r → IsBest first (n ∷ ns) r
  best_passed first None n ns d h = (h.0, (d, h.1))
  best_passed first (Some m) n ns d h = (h.0, h.1, (λ t. absurd (let clash : true ≡ false = sym t ∙ d in cc), h.2))

  -- one that differs, where another one was found before it or none was
  best_taken : (first r : Option (List ℕ)) (n : List ℕ) (ns : List (List ℕ)) → differs p s n ≡ true → IsBest (lesser first n) ns r → IsBest first (n ∷ ns) r
  best_taken None None n ns d h = let none : Some n ≡ None = h.0 in absurd cc
  best_taken None (Some m) n ns d h = (inr (own h.0), λ f is. absurd cc, (λ t. h.1 n refl, h.2))
    where
      own : (Some n ≡ Some m) ⊎ (differs p s m ≡ true) → differs p s m ≡ true
      own (inl e) = let same : n ≡ m = cc in ap (λ x. differs p s x) (sym same) ∙ d
      own (inr e) = e
  best_taken (Some f) r n ns d h = by_test (is_before n f) refl r h
    where
      by_test : (b : Bool) → is_before n f ≡ b → (r : Option (List ℕ)) → IsBest (if is_before n f then Some n else Some f) ns r → IsBest (Some f) (n ∷ ns) r
      by_test true t r h = less r (subst (λ b. IsBest (if b then Some n else Some f) ns r) t h)
        where
          less : (r : Option (List ℕ)) → IsBest (Some n) ns r → IsBest (Some f) (n ∷ ns) r
          less None h = let none : Some n ≡ None = h.0 in absurd cc
          less (Some m) h = (
            inr (own h.0),
            λ g is. let same : f ≡ g = cc in subst (λ x. is_before x m ≡ false) same (not_before m n f (h.1 n refl) (not_after n f t)),
            (λ z. h.1 n refl, h.2),
          )
            where
              own : (Some n ≡ Some m) ⊎ (differs p s m ≡ true) → differs p s m ≡ true
              own (inl e) = let same : n ≡ m = cc in ap (λ x. differs p s x) (sym same) ∙ d
              own (inr e) = e
      by_test false t r h = more r (subst (λ b. IsBest (if b then Some n else Some f) ns r) t h)
        where
          more : (r : Option (List ℕ)) → IsBest (Some f) ns r → IsBest (Some f) (n ∷ ns) r
          more None h = let none : Some f ≡ None = h.0 in absurd cc
          more (Some m) h = (h.0, h.1, (λ z. not_before m f n (h.1 f refl) t, h.2))

  best : (first : Option (List ℕ)) (names : List (List ℕ)) → IsBest first names (first_among p s first names)
  best first [] = best_none first first refl
  best first (n ∷ ns) = by_test (differs p s n) refl (best (lesser first n) ns) (best first ns)
    where
      by_test : (b : Bool) → differs p s n ≡ b → IsBest (lesser first n) ns (first_among p s (lesser first n) ns) → IsBest first ns (first_among p s first ns)
          → IsBest first (n ∷ ns) (first_among p s (if differs p s n then lesser first n else first) ns)
      by_test true t taken passed =
          subst (λ b. IsBest first (n ∷ ns) (first_among p s (if b then lesser first n else first) ns)) (sym t)
          (best_taken first (first_among p s (lesser first n) ns) n ns t taken)
      by_test false t taken passed =
          subst (λ b. IsBest first (n ∷ ns) (first_among p s (if b then lesser first n else first) ns)) (sym t)
          (best_passed first (first_among p s first ns) n ns t passed)

  -- ---- all names

  abbrev pub all_names : List (List ℕ)
  all_names = map (λ op. op.name) p.ops ++ map (λ op. op.name) s.ops

  front_of : (P : List ℕ → Type 0) (xs ys : List (List ℕ)) → AllByRecursion P (xs ++ ys) → AllByRecursion P xs
  front_of P [] ys h = tt
  front_of P (x ∷ xs) ys h = (h.0, front_of P xs ys h.1)

  back_of : (P : List ℕ → Type 0) (xs ys : List (List ℕ)) → AllByRecursion P (xs ++ ys) → AllByRecursion P ys
  back_of P [] ys h = h
  back_of P (x ∷ xs) ys h = back_of P xs ys h.1

  -- what is said of all names is said of each under which they differ
  of_each : (P : List ℕ → Type 0) → AllByRecursion P all_names → (name : List ℕ) → IsDiffering p s name → P name
  of_each P all name d = by_side (named (λ op. op.name) name p.ops) (named (λ op. op.name) name s.ops) refl refl
    where
      by_side : (one : Option SmallOp) (other : Option Op) → named (λ op. op.name) name p.ops ≡ one → named (λ op. op.name) name s.ops ≡ other → P name
      by_side (Some op) other h k = among_names (λ op. op.name) name P p.ops op h (front_of P (map (λ op. op.name) p.ops) (map (λ op. op.name) s.ops) all)
      by_side None (Some o) h k = among_names (λ op. op.name) name P s.ops o k (back_of P (map (λ op. op.name) p.ops) (map (λ op. op.name) s.ops) all)
      by_side None None h k = absurd (d (ap (option_map small_signature) h ∙ sym (ap (option_map (spec_signature s.store)) k)))

  differs_true : (name : List ℕ) → IsDiffering p s name → differs p s name ≡ true
  differs_true name d = by_test (differs p s name) refl
    where
      by_test : (b : Bool) → differs p s name ≡ b → differs p s name ≡ true
      by_test true t = t
      by_test false t = absurd (d (alike name t))

  first_by : (r : Option (List ℕ)) (name : List ℕ) → r ≡ Some name → IsBest None all_names r → IsFirstDiffering p s name
  first_by None name e h = absurd cc
  first_by (Some m) name e h =
      let same : m ≡ name = cc in
      subst (λ x. IsFirstDiffering p s x) same (record {
        differs = differing m (own h.0);
        first = λ other d less.
            let few : is_before other m ≡ false = of_each (λ n. differs p s n ≡ true → is_before n m ≡ false) h.2 other d (differs_true other d) in
            before_clash other m few less;
      })
    where
      own : (None ≡ Some m) ⊎ (differs p s m ≡ true) → differs p s m ≡ true
      own (inl e) = absurd cc
      own (inr e) = e

  none_by : (r : Option (List ℕ)) → r ≡ None → IsBest None all_names r → SameOperations p s
  none_by (Some m) e h = absurd cc
  none_by None e h = λ name. by_test name (differs p s name) refl
    where
      by_test : (name : List ℕ) (b : Bool) → differs p s name ≡ b → in_package p name ≡ in_spec s name
      by_test name false t = alike name t
      by_test name true t =
          let no : differs p s name ≡ false = of_each (λ n. differs p s n ≡ false) h.1 name (differing name t) in
          let clash : true ≡ false = sym t ∙ no in
          absurd cc

  -- ---- first among the names of the package, and then among those of the specification

  first_more : (first : Option (List ℕ)) (xs ys : List (List ℕ)) → first_among p s (first_among p s first xs) ys ≡ first_among p s first (xs ++ ys)
  first_more first [] ys = refl
  first_more first (x ∷ xs) ys = first_more (if differs p s x then lesser first x else first) xs ys

  pub first_found : (ours theirs : List (List ℕ)) (name : List ℕ) → ours ≡ map (λ op. op.name) p.ops → theirs ≡ map (λ op. op.name) s.ops
      → first_among p s (first_among p s None ours) theirs ≡ Some name → IsFirstDiffering p s name
  first_found ours theirs name a b e =
      let whole : first_among p s None all_names ≡ Some name =
      ap (λ (xs : List (List ℕ)). first_among p s None (xs ++ map (λ op. op.name) s.ops)) (sym a)
      ∙ ap (λ (ys : List (List ℕ)). first_among p s None (ours ++ ys)) (sym b) ∙ sym (first_more None ours theirs) ∙ e in
      first_by (first_among p s None all_names) name whole (best None all_names)

  pub none_found : (ours theirs : List (List ℕ)) → ours ≡ map (λ op. op.name) p.ops → theirs ≡ map (λ op. op.name) s.ops
      → first_among p s (first_among p s None ours) theirs ≡ None → SameOperations p s
  none_found ours theirs a b e =
      let whole : first_among p s None all_names ≡ None =
      ap (λ (xs : List (List ℕ)). first_among p s None (xs ++ map (λ op. op.name) s.ops)) (sym a)
      ∙ ap (λ (ys : List (List ℕ)). first_among p s None (ours ++ ys)) (sym b) ∙ sym (first_more None ours theirs) ∙ e in
      none_by (first_among p s None all_names) whole (best None all_names)
