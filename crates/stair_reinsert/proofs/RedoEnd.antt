-- At rest, and once a redo is done, the session knows of all media what it is to know, and no change is in doubt.
use Rattle.std.proofs.Common.{List, None, Option, Some, ap, inl, refl, subst, sym, ◌∙◌, ◌≡◌, ℕ}
use Rattle.stair_model.specs.Device.{gate_sector}
use Rattle.stair_model.specs.Geometry.{Geometry}
use Rattle.stair_model.specs.Slots.{HasSlot}
use Rattle.stair_rack.specs.Answers.{Ran}
use Rattle.stair_rack.specs.Crash.{CrashMayLeave}
use Rattle.stair_rack.specs.History.{Happening}
use Rattle.stair_rack.specs.Media.{Image}
use Rattle.stair_rack.specs.Placed.{IsSlot}
use Rattle.stair_rack.specs.Sector.{Cell}
use Rattle.stair_rack.specs.Stretch.{every_slot}
use Rattle.stair_rack.proofs.MomentLemmas.{ran_none}
use Rattle.stair_super.specs.Superblock.{Superblock}
use Rattle.stair_super.specs.declared.configuration.Configuration.{Configuration}
use Rattle.stair_member.specs.Current.{IsCurrent}
use Rattle.stair_member.specs.Seats.{seats_of}
use Rattle.stair_member.specs.declared.fault.FenceFault.{FenceFault}
use Rattle.stair_journal.specs.Gate.{ReadsClosed}
use Rattle.stair_state.specs.Blocks.{AreEncodingsOf, Codewords}
use Rattle.stair_state.specs.Forms.{RepresentsBy}
use Rattle.stair_state.specs.Holding.{IsBorneSince, IsConsistentBy, IsCurrentMedium}
use Rattle.stair_state.specs.Reassembly.{IsReassembly}
use Rattle.stair_state.specs.Redoing.{AtRest, AttachesNone, Done, GateHas, IsLeftIn, Redoing, Stage, new_in, old_in}
use Rattle.stair_state.specs.Represents.{Encodings}
use Rattle.stair_state.specs.State.{Change, Content, State}
use Rattle.stair_state.specs.Tolerance.{IsTolerated}
use Rattle.stair_state.proofs.HoldingLemmas.{current_since}
use Rattle.stair_state.proofs.OutsideLemmas.{tolerated_alone}
use Rattle.stair_invariant.specs.Effects.{Snapshot}
use Rattle.stair_invariant.specs.InSession.{IsBesideEpochs, state_with}
use Rattle.stair_invariant.specs.Rebuilding.{Rebuild}
use Rattle.stair_invariant.specs.Returning.{KnowsMedia, current_media_of}
use Rattle.stair_invariant.specs.Session.{seats_in}
use Rattle.stair_reinsert.proofs.MediaInStage.{stands_together}
use Rattle.stair_reinsert.proofs.RedoPhase.{IsAmidAny, amid_consistent, own_names, staged}
use Rattle.stair_reinsert.proofs.RedoStart.{in_redo, RedoAny, redo_of}
use Rattle.stair_reinsert.proofs.SessionBehind.{left_reassembled}

-- no gate is open, and one stripe stands
pub data IsSettled : Stage → Type 0 where
  Rests : IsSettled AtRest
  Ends : IsSettled Done

one_stripe : (a : Redoing) (stage : Stage) → IsSettled stage → new_in a stage ≡ old_in a stage
one_stripe a _ Rests = refl
one_stripe a _ Ends = refl

none_open : (a : Redoing) (stage : Stage) → IsSettled stage → (gate : Cell) → GateHas a stage gate → ReadsClosed a.geometry gate
none_open a _ Rests gate has = has
none_open a _ Ends gate has = has

module _ (before : List Happening) {kept : Content} {change : Option Change} (doing : RedoAny kept change) (stage : Stage) (settled : IsSettled stage)
    (rebuild : Option Rebuild) (stopped : Option FenceFault) (p : Snapshot) (is : IsAmidAny before doing stage rebuild stopped p)
    (tolerated : IsTolerated doing.m.array.geometry before p.told.history) (content : Content)
    (encoded : AreEncodingsOf doing.m.array.geometry content.blocks (old_in (redo_of doing) stage)) (frozen : p.member.array.frozen ≡ content.frozen)
    (label : p.member.array.label ≡ content.label) where
  open doing use {both, m, new, redoing}

  abbrev h : List Happening
  h = p.told.history

  stayed : Ran (IsBesideEpochs p.member) p.told.history p.told.history
  stayed = ran_none {allowed = IsBesideEpochs p.member} p.told.history

  free_now : Ran (AttachesNone every_slot) p.told.history p.told.history
  free_now = ran_none {allowed = AttachesNone every_slot} p.told.history

  module _ (image : Image) (left : CrashMayLeave p.told.history image) where
    now : IsConsistentBy (in_redo m kept change) both (current_media_of p.member) p.member.array.epoch image
    now =
        amid_consistent before doing stage rebuild stopped p is p.told.history stayed free_now is.since image left

    names : (x : Superblock) → IsBorneSince m.array.geometry p.member.array.epoch image x → x.array ≡ p.member.array
    names =
        own_names before doing stage rebuild stopped p is p.told.history stayed free_now is.since image left

    -- each holder has the stripes, and its gate reads closed
    staged_then : (to : Image) → IsReassembly image to → (j : ℕ) → IsCurrentMedium m.array.geometry (current_media_of p.member) j ((to j).cell)
        → IsLeftIn (redo_of doing) stage (IsSlot j) to
    staged_then =
        staged before doing stage rebuild stopped p is p.told.history stayed free_now is.since image left

    seat : (current : Superblock) (j : ℕ) → IsCurrent m.array.geometry image current → seats_of current j ≡ seats_in p.member.array j
    seat current j is_current =
        ap (λ (x : Configuration). seats_in x j)
        (names current
        (current_since (in_redo m kept change) both (current_media_of p.member) p.member.array.epoch image now image
        (left_reassembled p.told.history is.history image left)
        (tolerated_alone m.array.geometry before p.told.history image tolerated left) current is_current))

  abbrev settled_state : State
  settled_state = record { geometry = m.array.geometry; content = content; in_doubt = None; seats = Some (seats_in p.member.array) }

  abbrev its_words : Encodings settled_state
  its_words = record {
    old = old_in (redo_of doing) stage;
    new = old_in (redo_of doing) stage;
    old_are = encoded;
    new_are = encoded;
  }

  knows_settled : KnowsMedia settled_state p.member p.told.history
  knows_settled = record {
    known = is.known;
    is = record {
      encodings = its_words;
      each = λ image left.
          let it = now image left in
          record {
            overtaken = it.overtaken;
            reserved = it.reserved;
            live = it.live;
            rebuilt = it.rebuilt;
            frozen = λ x there. inl (ap (λ (y : Configuration). y.frozen) (names image left x there) ∙ frozen);
            label = λ x there. inl (ap (λ (y : Configuration). y.label) (names image left x there) ∙ label);
            forms = λ to some reassembly have gate.
                subst (λ (w : Codewords). RepresentsBy m.array.geometry (old_in (redo_of doing) stage) w (HasSlot some) to)
                (one_stripe (redo_of doing) stage settled)
                (stands_together (redo_of doing) stage some to redoing (λ j on. staged_then image left to reassembly j (have j on))
                (λ placing. gate));
            full = it.full;
            rebuilding = it.rebuilding;
            one_list = it.one_list;
            own_joined = it.own_joined;
          };
      seats = λ image left current j only is_current. seat image left current j is_current;
      steady = is.consistent.steady;
    };
    latest = is.latest;
    own = is.own;
    closed = λ image left to j reassembly current_medium.
        none_open (redo_of doing) stage settled ((to j).cell gate_sector) ((staged_then image left to reassembly j current_medium).gates j refl);
  }

  pub settled_knows : KnowsMedia (state_with p.member content None p.member.array) p.member p.told.history
  settled_knows =
      subst
      (λ (y : Geometry). KnowsMedia (record { geometry = y; content = content; in_doubt = None; seats = Some (seats_in p.member.array) }) p.member
      p.told.history) (sym is.stays.geometry) knows_settled
