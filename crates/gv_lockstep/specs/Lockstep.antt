-- What a graph is of a body: its points are the body's sites, and its arrows are the steps of control between them.
use Rattle.std.specs.Prelude.{◌≡◌, ℕ, Bool, true, List, [], Some, ◌↔◌, map, option_map, length, Contains}
use Rattle.gv_lang.specs.Tree.{Block}
use Rattle.gv_lang.specs.Todo.{put, onward}
use Rattle.gv_lang.specs.Graph.{Point, size, points, entry}
use Rattle.gv_lang.specs.Shape.{is_shaped}
use Rattle.gv_lockstep.specs.Sites.{Numbered, plain, numbered_put, numbered_onward, Site, to_do, sites, point_of, nth}

-- the table of steps goes the same ways with numbers as without
pub record NumbersAreAside : Type 0 where
  pub put : (n : ℕ) (b : Block) (z : List Numbered) → plain (numbered_put n b z) ≡ put b (plain z)
  pub onward : (v : Bool) (z : List Numbered) → onward v (plain z) ≡ option_map plain (numbered_onward v z)

-- there are as many points as commands; point k is that of site k, whose number is k
pub record PointsAreSites (body : Block) : Type 0 where
  pub same : points body ≡ map point_of (sites body)
  pub numbers : (k : ℕ) (s : Site) → nth (sites body) k ≡ Some s → s.number ≡ k
  pub count : length (points body) ≡ size body

-- by some truth value of its condition, what is to do after site j is what is to do from site k on
pub record Leads (body : Block) (j k : ℕ) : Type 0 where
  pub value : Bool
  pub before : Site
  pub after : Site
  pub is_before : nth (sites body) j ≡ Some before
  pub is_after : nth (sites body) k ≡ Some after
  pub leads : numbered_onward value (to_do before) ≡ Some (to_do after)

-- a point's successors are those sites to which the table of steps leads from its own
abbrev pub ArrowsAreSteps : Block → Type 0
ArrowsAreSteps body = (j k : ℕ) (p : Point) → nth (points body) j ≡ Some p → Contains p.next k ↔ Leads body j k

-- the first point is the first site, at which everything is still to do
pub record EntryIsFirst (body : Block) : Type 0 where
  pub entry : entry body 1 0 ≡ 1
  pub site : Site
  pub is_first : nth (sites body) 1 ≡ Some site
  pub to_do : numbered_put 1 body [] ≡ to_do site

-- the graph of a body of a good shape
pub record IsGraphOf (body : Block) : Type 0 where
  pub points : PointsAreSites body
  pub arrows : ArrowsAreSteps body
  pub entry : EntryIsFirst body

abbrev pub GraphLaw : Type 0
GraphLaw = (body : Block) → is_shaped body ≡ true → IsGraphOf body
