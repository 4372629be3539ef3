-- Recovery shares what it owns.
use Rattle.std.proofs.Common.{◌≡◌, ◌≢◌, ◌≤◌, Bool, true, false, if◌then◌else◌, List, [], ◌∷◌, refl, sym, ◌∙◌, arith}
use Rattle.gv_terms.specs.declared.value.Env.{Env}
use Rattle.gv_world.specs.Store.{Store as World}
use Rattle.gv_resources.specs.Kinds.{Kind, is_token_free}
use Rattle.gv_resources.specs.Ghost.{Ghost, Mode, Owned, Sharing, Shared}
use Rattle.gv_resources.specs.Pieces.{Resource, Have, Piece, part_of}
use Rattle.gv_assertions.specs.Atoms.{Atom, Predicate}
use Rattle.gv_assertions.specs.Standing.{StandForAll, both}
use Rattle.gv_assertions.proofs.Kept.{parts_law}
use Rattle.gv_assertions.proofs.Lists.{front, parted, more_all}
use Rattle.gv_seats.specs.Paths.{Path}
use Rattle.gv_seats.specs.Seats.{Proof, IsConsistent}
use Rattle.gv_seats.specs.Changes.{Shares, Changed}
use Rattle.gv_seats.specs.Soundness.{IsSoundMove}
use Rattle.gv_seats.proofs.Instances.{at_values}
use Rattle.gv_acting.specs.Rows.{DropsTokens, drops_none, drops_token, keeps_atom, BeginsSharing, begins_sharing, EndsSharing, ends_sharing}
use Rattle.gv_acting.specs.Laws.{SharingLaw}

-- what is dropped needs no part
left_stands : {preds : List Predicate} {env : Env} {all left : List Atom} {p : Piece} → DropsTokens all left → StandForAll preds env all p → StandForAll preds env left p
left_stands drops_none s = s
left_stands (drops_token more) (both q r split a s) = more_all (λ e. let l = split e in omega arith) (left_stands more s)
left_stands (keeps_atom more) (both q r split a s) = both q r split a (left_stands more s)

part_least : (keeps : Kind → Bool) (p : Piece) (e : Resource) → part_of keeps p e ≤ p e
part_least keeps p (Have k key v) = at (keeps k)
  where
    at : (b : Bool) → (if b then p (Have k key v) else 0) ≤ p (Have k key v)
    at true = omega arith
    at false = omega arith

-- the record beside the state in another mode
abbrev in_mode : Ghost → Mode → Ghost
in_mode g m = record g { mode = m }

mode_changes : (g : Ghost) (m : Mode) → Changed Shares g (in_mode g m)
mode_changes g m = record {
  history = refl;
  moves = refl;
  walk = λ never. refl;
  kept = λ call never. refl;
  book = λ book place never. refl;
  halves = λ never. refl;
  named = λ never. refl;
  shadow = λ disk address never. refl;
  mode = λ never. absurd (never refl);
  booted = refl;
  calls = refl;
  since = refl;
  gone = refl;
}

consistent_in : (o : Proof) (w : World) (g : Ghost) (m : Mode) → g.mode ≢ Shared → IsConsistent o w g → IsConsistent o w (in_mode g m)
consistent_in o w g m unshared c = record {
  fresh = λ object l. (let u = c.fresh object l in record { guards = u.guards; sliced = u.sliced; frozen = u.frozen });
  blocks = record { as_many = c.blocks.as_many; sized = c.blocks.sized; same = c.blocks.same; long = c.blocks.long; whole = c.blocks.whole };
  failures = c.failures;
  fields = c.fields;
  names = c.names;
  unguarded = λ never. c.unguarded unshared;
  walked = record {
    entries = c.walked.entries;
    passes = c.walked.passes;
    later = c.walked.later;
    unacted = c.walked.unacted;
    acted = c.walked.acted;
    since = c.walked.since;
    gone = c.walked.gone;
  };
}

begins_law : (o : Proof) (h k : Path) → BeginsSharing o h k → IsSoundMove o (λ env. Shares) h (k ∷ [])
begins_law o h k (begins_sharing left not_booted owned recovers closed drops free) w g start f rest seat =
    let d = seat.described in
    let later = part_of is_token_free seat.piece in
    record {
      after = in_mode g Sharing;
      changed = mode_changes g Sharing;
      path = record h { atoms = left; mode = Sharing };
      place = 0;
      among = refl;
      procedure = refl;
      seat = record {
        env = seat.env;
        piece = later;
        pool = seat.pool;
        locks = seat.locks;
        described = record {
          todo = d.todo;
          as_many = d.as_many;
          locals = d.locals;
          valuation = d.valuation;
          started = d.started;
          facts = d.facts;
          stands = parts_law is_token_free o.preds seat.env left seat.piece free (left_stands drops d.stands);
        };
        base = record {
          fits = record {
            says = λ k key v l. seat.base.fits.says k key v (let m = part_least is_token_free seat.piece (Have k key v) in omega arith);
            few = λ k key v n e. (let m = part_least is_token_free seat.piece (Have k key v) in let b = seat.base.fits.few k key v n e in omega arith);
          };
          mode = refl;
          crash = λ shared. absurd (not_shared shared);
          free = seat.base.free;
          consistent = consistent_in o w g Sharing (λ shared. owned_only (sym (seat.base.mode ∙ owned) ∙ shared)) seat.base.consistent;
        };
        still = seat.still;
      };
    }
  where
    not_shared : Sharing ≡ Shared → ⊥
    not_shared e = cc

    owned_only : Owned ≡ Shared → ⊥
    owned_only e = cc

ends_law : (o : Proof) (h k : Path) → EndsSharing o h k → IsSoundMove o (λ env. Shares) h (k ∷ [])
ends_law o h k (ends_sharing left sharing closed takes) w g start f rest seat =
    let d = seat.described in
    let (q, r, split, stands, others) = parted (front takes d.stands) in
    record {
      after = in_mode g Shared;
      changed = mode_changes g Shared;
      path = record h { atoms = left; mode = Shared };
      place = 0;
      among = refl;
      procedure = refl;
      seat = record {
        env = seat.env;
        piece = r;
        pool = q;
        locks = seat.locks;
        described = record {
          todo = d.todo;
          as_many = d.as_many;
          locals = d.locals;
          valuation = d.valuation;
          started = d.started;
          facts = d.facts;
          stands = others;
        };
        base = record {
          fits = record {
            says = λ k key v l. seat.base.fits.says k key v (let m = split (Have k key v) in omega arith);
            few = λ k key v n e. (let m = split (Have k key v) in let b = seat.base.fits.few k key v n e in omega arith);
          };
          mode = refl;
          crash = λ shared b env args values. at_values o.preds seat.env env o.crash [] args q values stands;
          free = seat.base.free;
          consistent = consistent_in o w g Shared (λ shared. sharing_only (sym (seat.base.mode ∙ sharing) ∙ shared)) seat.base.consistent;
        };
        still = seat.still;
      };
    }
  where
    sharing_only : Sharing ≡ Shared → ⊥
    sharing_only e = cc

pub sharing_law : SharingLaw
sharing_law o h k = record { begin = begins_law o h k; end = ends_law o h k }
