-- Rows of rules about modes and acts: what a path must be like, and which path comes of it.
use Rattle.std.specs.Prelude.{◌≡◌, false, List, [], ◌∷◌}
use Rattle.gv_terms.specs.declared.tree.TermTree.{TermTree}
use Rattle.gv_resources.specs.Kinds as kind
use Rattle.gv_resources.specs.Ghost.{Owned, Sharing, Shared}
use Rattle.gv_assertions.specs.Atoms.{Atom, Owns, Instance, Takes}
use Rattle.gv_assertions.specs.Kept.{AreOfKinds}
use Rattle.gv_resources.specs.Kinds.{is_token_free}
use Rattle.gv_seats.specs.Paths.{Path, Recovers, Closed}
use Rattle.gv_seats.specs.Seats.{Proof}

-- a list without its tokens
pub data DropsTokens : List Atom → List Atom → Type 0 where
  drops_none : DropsTokens [] []
  drops_token : {key value : List TermTree} {all left : List Atom} → DropsTokens all left → DropsTokens (Owns kind.Token key value ∷ all) left
  keeps_atom : {a : Atom} {all left : List Atom} → DropsTokens all left → DropsTokens (a ∷ all) (a ∷ left)

-- share { begins: in own mode, recovery drops all tokens; what remains has none
pub data BeginsSharing (o : Proof) (h : Path) : Path → Type 0 where
  begins_sharing : (left : List Atom) → h.booted ≡ false → h.mode ≡ Owned → h.procedure.role ≡ Recovers → h.bracket ≡ Closed → DropsTokens h.atoms left
      → AreOfKinds is_token_free o.preds left → BeginsSharing o h (record h { atoms = left; mode = Sharing })

-- } ends it: what its block leaves holds the crash invariant, which is shared from now on
pub data EndsSharing (o : Proof) (h : Path) : Path → Type 0 where
  ends_sharing : (left : List Atom) → h.mode ≡ Sharing → h.bracket ≡ Closed → Takes h.atoms (Instance o.crash []) left
      → EndsSharing o h (record h { atoms = left; mode = Shared })
