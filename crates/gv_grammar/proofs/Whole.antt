-- The top of a language: from its two laws to what its reader promises.
use Rattle.std.proofs.Common.{◌≡◌, ℕ, suc, ◌+◌, ◌<◌, Bool, true, false, List, [], ◌∷◌, ◌++◌, length, take, Option, Some, None, refl, sym, ap, subst, ◌∙◌, arith}
use Rattle.std.specs.Prelude.{map, nat_lt, if◌then◌else◌}
use Rattle.std.specs.List.{list_all}
use Rattle.std.proofs.lemmas.List.{map-append, take-map, length-map}
use Rattle.gv_grammar.specs.declared.symbols.Symbol.TheVariants.{Name}
use Rattle.gv_grammar.specs.declared.steps.Step.{Step}
use Rattle.gv_grammar.specs.declared.read_faults.ReadFault.{ReadFault}
use Rattle.gv_grammar.specs.declared.read_faults.ReadFault.TheVariants.{NoMemory, Refused, TooDeep, End}
use Rattle.gv_grammar.specs.Derivation.{Tables, Spells as Derived, IsViable, IsStuck, is_among}
use Rattle.gv_grammar.specs.Predictive.{MayBegin}
use Rattle.gv_grammar.specs.Outcomes.{IsDerivation, IsRefusedAt, EndsEarly, IsLongest}
use Rattle.gv_grammar.specs.Levels.{deep_from, NotBefore, IsTooDeep as IsDeepClass, IsShallow as HasNoDeepClass}
use Rattle.gv_grammar.specs.Faults.{ReadExplains, RunExplains}
use Rattle.gv_grammar.specs.Text.{Placed, plain, opens, token_of, first_above, Spells, Begins, BeginsNone, IsRefused, IsUnfinished, IsLongestFront, IsWithin, IsTooDeep, IsShallow, Says, SaysOfFront}
use Rattle.gv_grammar.specs.Building.{run}
use Rattle.gv_grammar.proofs.Tests.{both}
use Rattle.gv_grammar.proofs.Outcome.{take_within}
use Rattle.gv_grammar.proofs.Unique.{one_derivation, classes_known}
use Rattle.gv_grammar.proofs.Spelling.{Reading}

above_within : {X : Type 0} (limit at : ℕ) (ps : List (Placed X)) (i : ℕ) → first_above limit at ps ≡ Some i → i < at + length ps
above_within limit at [] i e = absurd cc
above_within limit at (plain t ∷ ps) i e = let l = above_within limit (at + 1) ps i e in omega (arith, l)
above_within limit at (opens level t ∷ ps) i e = go (nat_lt level limit) (λ f. let l = above_within limit (at + 1) ps i f in omega (arith, l)) e
  where
    go : (b : Bool) → (first_above limit (at + 1) ps ≡ Some i → i < at + suc (length ps)) → (if b then first_above limit (at + 1) ps else Some at) ≡ Some i → i < at + suc (length ps)
    go true l e = l e
    go false l e = let q : at ≡ i = cc in omega (arith, q)

-- A language: its tables, the name that its texts are derived from, its tokens' classes and parts, what its acts make, its published grammar, and a whole tree's part.
module _ {X T P : Type 0} (g : Tables) (root : ℕ) (class_of : X → ℕ) (part_of : X → P) (make : ℕ → List P → Option (List P)) (IsText : ℕ → T → List (Placed X) → Type 0) (whole : T → P) where
  -- what the language owes
  pub record Laws : Type 0 where
    pub may_begin : MayBegin g root
    -- each class of the grammar has a token
    pub token_for : (class : ℕ) → is_among class g.classes ≡ true → (t : X) × (class_of t ≡ class)
    -- one part is one tree
    pub one_tree : (a b : T) → whole a ≡ whole b → a ≡ b
    -- what is spelled is derived, and builds this very tree
    pub reads : (level : ℕ) (tree : T) (ps : List (Placed X)) → IsText level tree ps → Reading g class_of part_of make (Name root ∷ []) ps level [] [] (Some (whole tree ∷ []))
    -- what is derived is spelled
    pub means : (level : ℕ) (steps : List Step) (tokens : List X) → Derived g root steps (map class_of tokens) → (tree : T) × Spells (IsText level) tree tokens

  -- tokens of these classes
  made : ((class : ℕ) → is_among class g.classes ≡ true → (t : X) × (class_of t ≡ class)) → (ks : List ℕ) → list_all (λ k. is_among k g.classes) ks ≡ true → (ts : List X) × (map class_of ts ≡ ks)
  made f [] h = ([], refl)
  made f (k ∷ ks) h =
      let h' = both (is_among k g.classes) (list_all (λ k. is_among k g.classes) ks) h in
      let (t, e) = f k h'.0 in
      let (ts, es) = made f ks h'.1 in
      let q : class_of t ∷ map class_of ts ≡ k ∷ ks = ap (λ (c : ℕ). c ∷ map class_of ts) e ∙ ap (λ (cs : List ℕ). k ∷ cs) es in
      (t ∷ ts, q)

  all_back : (xs ys : List ℕ) → list_all (λ k. is_among k g.classes) (xs ++ ys) ≡ true → list_all (λ k. is_among k g.classes) ys ≡ true
  all_back [] ys h = h
  all_back (x ∷ xs) ys h = all_back xs ys (both (is_among x g.classes) (list_all (λ k. is_among k g.classes) (xs ++ ys)) h).1

  module _ (laws : Laws) (level limit : ℕ) where
    -- the steps of what is spelled
    pub record Walk (tree : T) (tokens : List X) (s : Spells (IsText level) tree tokens) : Type 0 where
      pub steps : List Step
      pub derives : Derived g root steps (map class_of tokens)
      pub runs : run part_of make steps tokens [] ≡ Some (whole tree ∷ [])
      pub deep : deep_from limit level [] 0 steps ≡ first_above limit 0 s.placed

    walk : (tree : T) (tokens : List X) (s : Spells (IsText level) tree tokens) → Walk tree tokens s
    walk tree tokens s =
        let w = laws.reads level tree s.placed s.derived in
        record {
          steps = w.steps;
          derives = subst (λ (us : List X). Derived g root w.steps (map class_of us)) s.same w.derives;
          runs = subst (λ (us : List X). run part_of make w.steps us [] ≡ Some (whole tree ∷ [])) s.same w.runs;
          deep = w.levels limit 0;
        }

    -- the classes of what follows a front
    fronted : (front more : List X) (ks : List ℕ) (steps : List Step) → map class_of front ≡ ks → Derived g root steps (map class_of (front ++ more)) → Derived g root steps (ks ++ map class_of more)
    fronted front more ks steps e d = subst (λ (js : List ℕ). Derived g root steps js) (map-append class_of front more ∙ ap (λ (js : List ℕ). js ++ map class_of more) e) d

    -- a text of derived classes that begin so
    text_of : (front : List X) (ks more : List ℕ) (steps : List Step) → map class_of front ≡ ks → Derived g root steps (ks ++ more)
        → (tree : T) × (after : List X) × (map class_of after ≡ more) × Spells (IsText level) tree (front ++ after)
    text_of front ks more steps e d =
        let (after, q) = made laws.token_for more (all_back ks more (classes_known d)) in
        let r : ks ++ more ≡ map class_of (front ++ after) = ap (λ (js : List ℕ). ks ++ js) (sym q) ∙ (ap (λ (js : List ℕ). js ++ map class_of after) (sym e) ∙ sym (map-append class_of front after)) in
        let b = laws.means level steps (front ++ after) (subst (λ (js : List ℕ). Derived g root steps js) r d) in
        (b.0, after, q, b.1)

    begins : (front : List X) (ks : List ℕ) → map class_of front ≡ ks → IsViable g root ks → Begins (IsText level) front
    begins front ks e (steps, more, d) = let (tree, after, q, s) = text_of front ks more steps e d in (tree, after, s)

    begins_none : (front : List X) (ks : List ℕ) → map class_of front ≡ ks → IsStuck g root ks → BeginsNone (IsText level) front
    begins_none front ks e h tree more s = let w = walk tree (front ++ more) s in h w.steps (map class_of more) (fronted front more ks w.steps e w.derives)

    viable : (front : List X) (ks : List ℕ) → map class_of front ≡ ks → Begins (IsText level) front → IsViable g root ks
    viable front ks e (tree, more, s) = let w = walk tree (front ++ more) s in (w.steps, map class_of more, fronted front more ks w.steps e w.derives)

    front_classes : (n : ℕ) (tokens : List X) → map class_of (take n tokens) ≡ take n (map class_of tokens)
    front_classes n tokens = sym (take-map class_of n tokens)

    refused : (tokens : List X) (at : ℕ) → IsRefusedAt g root (map class_of tokens) at → IsRefused (IsText level) tokens at
    refused tokens at r = record {
      within = let l = length-map tokens class_of in let w = r.within in omega (arith, l, w);
      begins = begins (take at tokens) _ (front_classes at tokens) r.viable;
      none = begins_none (take (at + 1) tokens) _ (front_classes (at + 1) tokens) r.stuck;
    }

    unfinished : (tokens : List X) (ks : List ℕ) → map class_of tokens ≡ ks → EndsEarly g root ks → IsUnfinished (IsText level) tokens
    unfinished tokens ks e r = record {
      begins = begins tokens ks e r.viable;
      none = λ tree s. let w = walk tree tokens s in r.not_whole w.steps (subst (λ (js : List ℕ). Derived g root w.steps js) e w.derives);
    }

    pub longest_front : (tokens : List X) (len : ℕ) → IsLongest g root (map class_of tokens) len → IsLongestFront (IsText level) tokens len
    longest_front tokens len r = record {
      within = let l = length-map tokens class_of in let w = r.within in omega (arith, l, w);
      begins = begins (take len tokens) _ (front_classes len tokens) r.viable;
      none = λ h. let l = length-map tokens class_of in begins_none (take (len + 1) tokens) _ (front_classes (len + 1) tokens) (r.stuck (omega (arith, l, h)));
    }

    too_deep : (tokens : List X) (at : ℕ) → IsDeepClass g root level limit (map class_of tokens) at → IsTooDeep (IsText level) limit tokens at
    too_deep tokens at r = record {
      end = r.end;
      past = r.past;
      near = r.near;
      within = let l = length-map tokens class_of in let w = r.within in omega (arith, l, w);
      begins = begins (take r.end tokens) _ (front_classes r.end tokens) r.viable;
      each = λ tree more s.
          let w = walk tree (take r.end tokens ++ more) s in
          sym w.deep ∙ r.each w.steps (map class_of more) (fronted (take r.end tokens) more _ w.steps (front_classes r.end tokens) w.derives);
    }

    shallow : (tokens : List X) → HasNoDeepClass g root level limit (map class_of tokens) → IsShallow (IsText level) limit tokens
    shallow tokens h at r = h at (record {
      end = r.end;
      past = r.past;
      near = r.near;
      within = let l = length-map tokens class_of in let w = r.within in omega (arith, l, w);
      viable = viable (take r.end tokens) _ (front_classes r.end tokens) r.begins;
      each = λ steps more d.
          let (tree, after, q, s) = text_of (take r.end tokens) _ more steps (front_classes r.end tokens) d in
          let w = walk tree (take r.end tokens ++ after) s in
          let d' : Derived g root w.steps (take r.end (map class_of tokens) ++ more) =
          subst (λ (js : List ℕ). Derived g root w.steps (take r.end (map class_of tokens) ++ js)) q (fronted (take r.end tokens) after _ w.steps (front_classes r.end tokens) w.derives) in
          let same : steps ≡ w.steps = one_derivation g root laws.may_begin steps w.steps _ d d' in
          ap (deep_from limit level [] 0) same ∙ (w.deep ∙ r.each tree after s);
    })

    -- a fault of the classes is one of the tokens
    pub says : (tokens : List X) (fault : ReadFault) → ReadExplains g root level limit (map class_of tokens) fault → Says (IsText level) limit tokens fault
    says tokens NoMemory h = tt
    says tokens (Refused at) h = (refused tokens at h.0, shallow tokens h.1)
    says tokens (TooDeep at) h = too_deep tokens at h
    says tokens End h = (unfinished tokens _ refl h.0, shallow tokens h.1)

    pub says_of_front : (tokens : List X) (fault : ReadFault) → RunExplains g root level limit (map class_of tokens) fault → SaysOfFront (IsText level) limit tokens fault
    says_of_front tokens NoMemory h = tt
    says_of_front tokens (Refused at) h = (refused tokens at h.0, unfinished (take at tokens) _ (front_classes at tokens) h.1, shallow tokens h.2)
    says_of_front tokens (TooDeep at) h = too_deep tokens at h
    says_of_front tokens End h = (unfinished tokens _ refl h.0, shallow tokens h.1)

    runs_of : (steps : List Step) (tokens : List X) → IsDerivation g root steps (map class_of tokens) → (tree : T) (s : Spells (IsText level) tree tokens) → run part_of make steps tokens [] ≡ Some (whole tree ∷ [])
    runs_of steps tokens d tree s = let w = walk tree tokens s in subst (λ (ps : List Step). run part_of make ps tokens [] ≡ Some (whole tree ∷ [])) (d.only w.steps w.derives) w.runs

    -- tokens spell one tree at most
    pub at_most_one : (a b : T) (tokens : List X) → Spells (IsText level) a tokens → Spells (IsText level) b tokens → a ≡ b
    at_most_one a b tokens s t =
        let v = walk a tokens s in
        let w = walk b tokens t in
        let same : v.steps ≡ w.steps = one_derivation g root laws.may_begin v.steps w.steps _ v.derives w.derives in
        let e : Some (whole a ∷ []) ≡ Some (whole b ∷ []) = sym v.runs ∙ (ap (λ (ps : List Step). run part_of make ps tokens []) same ∙ w.runs) in
        laws.one_tree a b (cc)

    -- a derivation builds a whole tree
    pub builds : (steps : List Step) (tokens : List X) → IsDerivation g root steps (map class_of tokens) → (tree : T) × (run part_of make steps tokens [] ≡ Some (whole tree ∷ []))
    builds steps tokens d = let (tree, s) = laws.means level steps tokens d.derives in (tree, runs_of steps tokens d tree s)

    -- What is built is what the tokens spell, and nothing else is.
    module _ (steps : List Step) (tokens : List X) (d : IsDerivation g root steps (map class_of tokens)) (tree : T) (r : run part_of make steps tokens [] ≡ Some (whole tree ∷ [])) where
      pub only : (other : T) → Spells (IsText level) other tokens → other ≡ tree
      only other o =
          let e : Some (whole other ∷ []) ≡ Some (whole tree ∷ []) = sym (runs_of steps tokens d other o) ∙ r in
          laws.one_tree other tree (cc)

      pub found : Spells (IsText level) tree tokens
      found = let (other, s) = laws.means level steps tokens d.derives in subst (λ (t : T). Spells (IsText level) t tokens) (only other s) s

      pub within : NotBefore (length tokens) (deep_from limit level [] 0 steps) → IsWithin (IsText level) limit tree tokens
      within n o = go (first_above limit 0 o.placed) refl
        where
          go : (deep : Option ℕ) → first_above limit 0 o.placed ≡ deep → first_above limit 0 o.placed ≡ None
          go None e = e
          go (Some i) e =
              let w = walk tree tokens o in
              let f : deep_from limit level [] 0 steps ≡ Some i = ap (deep_from limit level [] 0) (sym (d.only w.steps w.derives)) ∙ (w.deep ∙ e) in
              let l = n i f in
              let m = above_within limit 0 o.placed i e in
              let k : length o.placed ≡ length tokens = sym (length-map o.placed token_of) ∙ ap length o.same in
              absurd (omega (arith, l, m, k))

pub classes_of_front : {X : Type 0} (class_of : X → ℕ) (len : ℕ) (tokens : List X) {ks : List ℕ} → ks ≡ map class_of tokens → take len ks ≡ map class_of (take len tokens)
classes_of_front class_of len tokens e = ap (take len) e ∙ take-map class_of len tokens

pub before_front : {h : Tables} {root : ℕ} {ks : List ℕ} {len : ℕ} {deep : Option ℕ} → IsLongest h root ks len → NotBefore len deep → NotBefore (length (take len ks)) deep
before_front {ks = ks} {len = len} {deep = deep} l n = subst (λ (k : ℕ). NotBefore k deep) (sym (take_within len ks l.within)) n

-- A reader's clauses, where it derives by the language's tables and builds what the steps say.
module _ {X T P : Type 0} {g : Tables} {root : ℕ} {class_of : X → ℕ} {part_of : X → P} {make : ℕ → List P → Option (List P)} {IsText : ℕ → T → List (Placed X) → Type 0} {whole : T → P}
    (laws : Laws g root class_of part_of make IsText whole) (level limit : ℕ) {h : Tables} (tables : h ≡ g) (tokens : List X) {ks : List ℕ} (classes : ks ≡ map class_of tokens) where
  derivation_of : {steps : List Step} → IsDerivation h root steps ks → IsDerivation g root steps (map class_of tokens)
  derivation_of {steps} d = subst (λ (js : List ℕ). IsDerivation g root steps js) classes (subst (λ (x : Tables). IsDerivation x root steps ks) tables d)

  pub read_fault : (fault : ReadFault) → ReadExplains h root level limit ks fault → Says (IsText level) limit tokens fault
  read_fault fault e =
      says g root class_of part_of make IsText whole laws level limit tokens fault
      (subst (λ (js : List ℕ). ReadExplains g root level limit js fault) classes (subst (λ (x : Tables). ReadExplains x root level limit ks fault) tables e))

  pub run_fault : (fault : ReadFault) → RunExplains h root level limit ks fault → SaysOfFront (IsText level) limit tokens fault
  run_fault fault e =
      says_of_front g root class_of part_of make IsText whole laws level limit tokens fault
      (subst (λ (js : List ℕ). RunExplains g root level limit js fault) classes (subst (λ (x : Tables). RunExplains x root level limit ks fault) tables e))

  pub run_longest : (len : ℕ) → IsLongest h root ks len → IsLongestFront (IsText level) tokens len
  run_longest len l =
      longest_front g root class_of part_of make IsText whole laws level limit tokens len
      (subst (λ (js : List ℕ). IsLongest g root js len) classes (subst (λ (x : Tables). IsLongest x root ks len) tables l))

  -- The steps are handed on from the derivation to the building.
  module _ {steps read : List Step} (handed : read ≡ steps) (d : IsDerivation h root steps ks) where
    pub read_builds : (tree : T) × (run part_of make read tokens [] ≡ Some (whole tree ∷ []))
    read_builds =
        let (tree, r) = builds g root class_of part_of make IsText whole laws level limit steps tokens (derivation_of d) in
        (tree, ap (λ (ps : List Step). run part_of make ps tokens []) handed ∙ r)

    module _ {tree : T} (r : run part_of make read tokens [] ≡ Some (whole tree ∷ [])) where
      ran : run part_of make steps tokens [] ≡ Some (whole tree ∷ [])
      ran = ap (λ (ps : List Step). run part_of make ps tokens []) (sym handed) ∙ r

      pub read_found : Spells (IsText level) tree tokens
      read_found = found g root class_of part_of make IsText whole laws level limit steps tokens (derivation_of d) tree ran

      pub read_only : (other : T) → Spells (IsText level) other tokens → other ≡ tree
      read_only = only g root class_of part_of make IsText whole laws level limit steps tokens (derivation_of d) tree ran

      pub read_within : NotBefore (length ks) (deep_from limit level [] 0 steps) → IsWithin (IsText level) limit tree tokens
      read_within n =
          let l : length ks ≡ length tokens = ap length classes ∙ length-map tokens class_of in
          within g root class_of part_of make IsText whole laws level limit steps tokens (derivation_of d) tree ran (subst (λ (k : ℕ). NotBefore k (deep_from limit level [] 0 steps)) l n)
