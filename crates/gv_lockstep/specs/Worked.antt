-- Two graphs, computed.
use Rattle.std.specs.Prelude.{◌≡◌, ℕ, List, [], ◌∷◌, codes, map}
use Rattle.gv_base.specs.declared.answers.Place.{Place}
use Rattle.gv_lang.specs.declared.pure.Binary.TheVariants as binary
use Rattle.gv_lang.specs.declared.program.LocalKind.TheVariants as kind
use Rattle.gv_lang.specs.Tree.{Number, LocalAt, Two, Let, New, Load, Store, Do, If, Loop, Break, Continue, Return, Block, finish, next, Proc, Program}
use Rattle.gv_lang.specs.Graph.{Point, ProcGraph, points, graphs_of}
use Rattle.gv_lang.specs.Shape.{is_shaped}
use Rattle.std.specs.Prelude.{true}

abbrev at : ℕ → ℕ → Place
at line column = record { line = line; column = column }

-- func Recover() *Counter { c := &Counter{n: 0}; return c }
abbrev recovering : Proc
recovering = record {
  name = codes "Recover";
  params = 0;
  locals = record { name = codes "c"; kind = kind.Ref } ∷ [];
  results = kind.Ref ∷ [];
  body = next (Do (New 0 0 (Number 0 ∷ [])) (at 8 2)) (next (Return (LocalAt 0 ∷ []) (at 9 2)) finish);
}

-- func (c *Counter) Inc() uint64 { x := c.n; c.n = x + 1; return x }
abbrev incrementing : Proc
incrementing = record {
  name = codes "Counter.Inc";
  params = 1;
  locals = record { name = codes "c"; kind = kind.Ref } ∷ record { name = codes "x"; kind = kind.Word } ∷ [];
  results = kind.Word ∷ [];
  body =
      next (Do (Load 1 (LocalAt 0) 0 0) (at 13 2))
      (next (Do (Store (LocalAt 0) 0 0 (Two binary.Plus (LocalAt 1) (Number 1))) (at 14 2))
      (next (Return (LocalAt 1 ∷ []) (at 15 2)) finish));
}

abbrev pub counter : Program
counter = record {
  structs = record { name = codes "Counter"; fields = record { name = codes "n"; kind = kind.Word } ∷ [] } ∷ [];
  procs = recovering ∷ incrementing ∷ [];
  recover = 0;
  ops = 1 ∷ [];
}

abbrev pub counter_graphs : List ProcGraph
counter_graphs =
    record {
      entry = 1;
      points =
          record { action = Do (New 0 0 (Number 0 ∷ [])) (at 8 2); place = at 8 2; targets = 0 ∷ []; next = 2 ∷ [] }
          ∷ record { action = Return (LocalAt 0 ∷ []) (at 9 2); place = at 9 2; targets = []; next = [] }
          ∷ [];
    }
    ∷ record {
      entry = 1;
      points =
          record { action = Do (Load 1 (LocalAt 0) 0 0) (at 13 2); place = at 13 2; targets = 1 ∷ []; next = 2 ∷ [] }
          ∷ record { action = Do (Store (LocalAt 0) 0 0 (Two binary.Plus (LocalAt 1) (Number 1))) (at 14 2); place = at 14 2; targets = []; next = 3 ∷ [] }
          ∷ record { action = Return (LocalAt 1 ∷ []) (at 15 2); place = at 15 2; targets = []; next = [] }
          ∷ [];
    }
    ∷ []

abbrev here : Place
here = at 1 1

-- for { for { if x { break } else { y = 1; continue } }; if x { } else { }; if x { return y } }, each body with its added continue
abbrev pub nested : Block
nested =
    next (Loop
    (next (Loop
    (next (If (LocalAt 0) (next (Break here) finish) (next (Do (Let 1 (Number 1)) here) (next (Continue here) finish)) here)
    (next (Continue here) finish)) here)
    (next (If (LocalAt 0) finish finish here)
    (next (If (LocalAt 0) (next (Return (LocalAt 1 ∷ []) here) finish) finish here)
    (next (Continue here) finish)))) here)
    finish

abbrev pub next_of : Point → List ℕ
next_of p = p.next

pub record Worked : Type 0 where
  pub counter : graphs_of counter ≡ counter_graphs
  pub is_shaped : is_shaped nested ≡ true
  -- 1 Loop, 2 Loop, 3 If, 4 Break, 5 Let, 6 Continue, 7 Continue, 8 If, 9 If, 10 Return, 11 Continue
  pub nested : map next_of (points nested)
      ≡ (2 ∷ []) ∷ (3 ∷ []) ∷ (4 ∷ 5 ∷ []) ∷ (8 ∷ []) ∷ (6 ∷ []) ∷ (3 ∷ []) ∷ (3 ∷ []) ∷ (9 ∷ 9 ∷ []) ∷ (10 ∷ 11 ∷ []) ∷ [] ∷ (2 ∷ []) ∷ []
