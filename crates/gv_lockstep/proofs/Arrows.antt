-- Successors are exactly what the table of steps leads to.
use Rattle.std.proofs.Common.{◌≡◌, ◌∙◌, ℕ, zero, suc, ◌<◌, List, [], ◌∷◌, Bool, true, false, Option, Some, None, refl, ap, sym, subst, arith, Contains}
use Rattle.std.specs.List.{AllByRecursion}
use Rattle.gv_lang.specs.Tree.{Cmd, Do, If, Loop, Break, Continue, Return, Block, finish, next}
use Rattle.gv_lang.specs.Graph.{Point, size, points}
use Rattle.gv_lockstep.specs.Sites.{Numbered, RunAt, numbered_put, numbered_onward, here, number, Site, to_do, sites, reached, point_of, nth}
use Rattle.gv_lockstep.specs.Lockstep.{Leads, EntryIsFirst, GraphLaw}
use Rattle.gv_lockstep.proofs.Lists.{mapped_nth, nth_mapped, all_nth, all_contains}
use Rattle.gv_lockstep.proofs.Sites.{here_put, number_is, points_are_sites}
use Rattle.gv_lockstep.proofs.Shape.{IsWithin, TargetsAreIn, targets_are_in}
use Rattle.gv_lockstep.proofs.Laid.{laid_onward, site_laid, entry_laid, Stands, stands}

pub point_there : (b : Block) (k : ℕ) (s : Site) → nth (sites b) k ≡ Some s → nth (points b) k ≡ Some (point_of s)
point_there b k s e = subst (λ (ps : List Point). nth ps k ≡ Some (point_of s)) (sym (points_are_sites b).same) (mapped_nth point_of (sites b) k s e)

-- a point is that of a site
site_there : (b : Block) (k : ℕ) (p : Point) → nth (points b) k ≡ Some p → (s : Site) × (nth (sites b) k ≡ Some s) × (point_of s ≡ p)
site_there b k p e = nth_mapped point_of (sites b) k p (subst (λ (ps : List Point). nth ps k ≡ Some p) (points_are_sites b).same e)

-- ---- from the table to the successors

-- what the table leads to bears the number of a successor
pub onward_reached : (v : Bool) (n : ℕ) (c : Cmd) (z after : List Numbered) → numbered_onward v (RunAt n c ∷ z) ≡ Some after
    → Contains (reached (record { number = n; command = c; rest = z }) c) (here after)
onward_reached v n (Do a place) z after e = (0, omega arith, ap number e)
onward_reached true n (If x t f place) z after e = (0, omega arith, ap number e)
onward_reached false n (If x t f place) z after e = (1, omega arith, ap number e)
onward_reached v n (Loop body place) z after e = (0, omega arith, ap number e)
onward_reached v n (Break place) z after e = (0, omega arith, ap number e)
onward_reached v n (Continue place) z after e = (0, omega arith, ap number e)
onward_reached v n (Return es place) z after e = absurd cc

pub within : (b : Block) → TargetsAreIn b → (j k : ℕ) (p : Point) → nth (points b) j ≡ Some p → Contains p.next k → IsWithin (size b) k
within b t j k p e c =
    all_contains (IsWithin (size b)) p.next k (all_nth (λ (p : Point). AllByRecursion (IsWithin (size b)) p.next) (points b) j p t.targets e) c

-- where the table leads to from a site, in a body of a good shape: a site, whose number is a successor
pub record Onward (b : Block) (j : ℕ) (s : Site) (z : List Numbered) : Type 0 where
  pub after : Stands b z
  pub arrow : Contains (point_of s).next (here z)

pub onward_stands : (b : Block) → TargetsAreIn b → (j : ℕ) (s : Site) (v : Bool) (z : List Numbered) → nth (sites b) j ≡ Some s
    → numbered_onward v (to_do s) ≡ Some z → Onward b j s z
onward_stands b t j s v z e o =
    let l = laid_onward (sites b) v s.number s.command s.rest z (site_laid b j s e) o in
    let c = onward_reached v s.number s.command s.rest z o in
    let w = within b t j (here z) (point_of s) (point_there b j s e) c in
    record { after = stands b z l w.0; arrow = c }

arrow_of : (b : Block) (j k : ℕ) (p : Point) → nth (points b) j ≡ Some p → Leads b j k → Contains p.next k
arrow_of b j k p e l =
    let c = onward_reached l.value l.before.number l.before.command l.before.rest (to_do l.after) l.leads in
    let n : here (to_do l.after) ≡ k = number_is b k l.after l.is_after in
    let q : Some (point_of l.before) ≡ Some p = sym (point_there b j l.before l.is_before) ∙ e in
    let r : point_of l.before ≡ p = cc in
    subst (λ (x : ℕ). Contains p.next x) n (subst (λ (y : Point). Contains y.next (here (to_do l.after))) r c)

-- ---- from the successors to the table

-- what the table leads to, under a number
record Led (v : Bool) (s : Site) (k : ℕ) : Type 0 where
  after : List Numbered
  leads : numbered_onward v (to_do s) ≡ Some after
  number : here after ≡ k

led : (o : Option (List Numbered)) (v : Bool) (s : Site) (k : ℕ) → numbered_onward v (to_do s) ≡ o → number o ≡ k → 0 < k → Led v s k
led None v s k e n p = absurd (omega arith)
led (Some z) v s k e n p = record { after = z; leads = e; number = n }

abbrev SomeLed : Site → ℕ → Type 0
SomeLed s k = (v : Bool) × Led v s k

none_led : (s : Site) (k : ℕ) (xs : List ℕ) → xs ≡ [] → Contains xs k → SomeLed s k
none_led s k [] q (i, p, e) = absurd (omega arith)
none_led s k (x ∷ xs) q c = absurd cc

one_led : (s : Site) (k : ℕ) → Contains (number (numbered_onward true (to_do s)) ∷ []) k → 0 < k → SomeLed s k
one_led s k (zero, l, e) p = (true, led (numbered_onward true (to_do s)) true s k refl e p)
one_led s k (suc i, l, e) p = absurd (omega arith)

both_led : (s : Site) (k : ℕ) → Contains (number (numbered_onward true (to_do s)) ∷ number (numbered_onward false (to_do s)) ∷ []) k → 0 < k → SomeLed s k
both_led s k (zero, l, e) p = (true, led (numbered_onward true (to_do s)) true s k refl e p)
both_led s k (suc zero, l, e) p = (false, led (numbered_onward false (to_do s)) false s k refl e p)
both_led s k (suc (suc i), l, e) p = absurd (omega arith)

reached_led : (s : Site) (c : Cmd) (k : ℕ) → Contains (reached s c) k → 0 < k → SomeLed s k
reached_led s (Do a place) k c p = one_led s k c p
reached_led s (If e t f place) k c p = both_led s k c p
reached_led s (Loop body place) k c p = one_led s k c p
reached_led s (Break place) k c p = one_led s k c p
reached_led s (Continue place) k c p = one_led s k c p
reached_led s (Return es place) k c p = none_led s k [] refl c

leads_from : (b : Block) → TargetsAreIn b → (j k : ℕ) (s : Site) → nth (sites b) j ≡ Some s → Contains (point_of s).next k → Leads b j k
leads_from b t j k s e c =
    let w = within b t j k (point_of s) (point_there b j s e) c in
    let (v, l) = reached_led s s.command k c w.0 in
    let laid = laid_onward (sites b) v s.number s.command s.rest l.after (site_laid b j s e) l.leads in
    let w2 : 0 < here l.after = subst (λ (x : ℕ). 0 < x) (sym l.number) w.0 in
    let st = stands b l.after laid w2 in
    record {
      value = v;
      before = s;
      after = st.site;
      is_before = e;
      is_after = subst (λ (x : ℕ). nth (sites b) x ≡ Some st.site) l.number st.there;
      leads = l.leads ∙ ap (λ z. Some z) st.same;
    }

arrows_are_led : (b : Block) → TargetsAreIn b → (j k : ℕ) (p : Point) → nth (points b) j ≡ Some p → Contains p.next k → Leads b j k
arrows_are_led b t j k p e c =
    let (s, is, q) = site_there b j p e in
    leads_from b t j k s is (subst (λ (y : Point). Contains y.next k) (sym q) c)

-- ---- the entry

first_here : (b : Block) → 0 < size b → here (numbered_put 1 b []) ≡ 1
first_here finish p = absurd (omega arith)
first_here (next c b) p = refl

pub entry_is_first : (b : Block) → TargetsAreIn b → EntryIsFirst b
entry_is_first b t =
    let h = first_here b t.entry in
    let st = stands b (numbered_put 1 b []) (entry_laid b) (omega arith) in
    record {
      entry = sym (here_put 1 b []) ∙ h;
      site = st.site;
      is_first = subst (λ k. nth (sites b) k ≡ Some st.site) h st.there;
      to_do = st.same;
    }

pub graph_law : GraphLaw
graph_law b s =
    let t = targets_are_in b s in
    record {
      points = points_are_sites b;
      arrows = λ j k p e. (λ c. arrows_are_led b t j k p e c, λ l. arrow_of b j k p e l);
      entry = entry_is_first b t;
    }
