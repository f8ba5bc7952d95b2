-- What a session keeps gives what its rack represents, now and while an epoch is established.
use Rattle.std.proofs.Common.{◌≡◌, ◌≢◌, ℕ, ◌<◌, List, [], ◌⊎◌, inl, inr, refl, arith, Option, Some, None}
use Rattle.std.specs.Prelude.{IsTrue}
use Rattle.stair_model.specs.Slots.{Slots, HasSlot}
use Rattle.stair_rack.specs.Crash.{CrashMayLeave}
use Rattle.stair_rack.specs.History.{Happening, stopped}
use Rattle.stair_rack.specs.Media.{Image}
use Rattle.stair_rack.specs.Offline.{IsAttached}
use Rattle.stair_rack.specs.Placed.{IsSlot}
use Rattle.stair_super.specs.Superblock.{Superblock}
use Rattle.stair_member.specs.Aims.{IsAimed, admitted, aimed}
use Rattle.stair_member.specs.Current.{IsCurrent}
use Rattle.stair_member.specs.Epochs.{IsTaken}
use Rattle.stair_member.specs.Fencing.{IsFencing}
use Rattle.stair_member.specs.Membership.{Membership, IsHere, why_of}
use Rattle.stair_member.specs.Reserve.{HasReached}
use Rattle.stair_member.specs.declared.aim.EpochChange.{EpochChange}
use Rattle.stair_member.specs.declared.why.Why.TheVariants as why
use Rattle.stair_member.proofs.CountingLemmas.{all_but_mapped}
use Rattle.stair_journal.specs.declared.redo.Redo.{Redo}
use Rattle.stair_state.specs.Blocks.{Codewords}
use Rattle.stair_state.specs.Recovering.{IsShut}
use Rattle.stair_state.specs.Redoing.{AtRest}
use Rattle.stair_state.specs.Represents.{Represents, RepresentsAlone}
use Rattle.stair_state.specs.State.{Change, Content}
use Rattle.stair_state.specs.Tolerance.{IsTolerated, IsToleratedAlone}
use Rattle.stair_state.proofs.StageLemmas.{slot_in}
use Rattle.stair_invariant.specs.Changing.{IsAttachedOrBare, IsSettled}
use Rattle.stair_invariant.specs.InSession.{HasEpoch, IsInSession, IsOfContent, IsReadyFor, state_with, IsAimedContent}
use Rattle.stair_invariant.specs.Session.{ServesSlot}
use Rattle.stair_invariant.proofs.AmidLemmas.{represents_amid}
use Rattle.stair_invariant.proofs.EstablishingLemmas.{stands_then, AreStaged, names_then}
use Rattle.stair_invariant.proofs.InSessionLemmas.{IsPrepared}
use Rattle.stair_invariant.proofs.MidwayLemmas.{doing, here_aimed}

-- of stripe 0, and of no cells: at rest nothing is said of it
no_redo : Redo
no_redo = record { stripe = 0; cells = record { rows = [] } }

-- BETWEEN CALLS

module _ (m : Membership) (words : Codewords) (h : List Happening) (is : IsInSession m words h) where
  epoch_of : HasEpoch m h
  epoch_of = record { begun = is.begun; marks = is.marks; reached = is.reached; own = is.own; shut = is.shut }

  -- Between calls the rack represents the state that the member and the stripes tell.
  pub represents_now : (content : Content) → IsOfContent m words content → (before : List Happening) → IsTolerated m.array.geometry before h
      → Represents (state_with m content None m.array) h
  represents_now content of before tolerated =
      represents_amid m no_redo words words AtRest h h epoch_of (inl refl)
      (λ j below up on. (
        slot_in (doing m no_redo words words) AtRest (IsSlot j) h h ((is.live j below up on).rests no_redo words) j refl,
        (λ pulled. omega (arith, pulled)),
        (is.live j below up on).large,
      )) content None
      (record {
        old_are = of.encodings;
        new_are = of.encodings;
        frozen = of.frozen;
        label = of.label;
        frozen_new = inl of.frozen;
        label_new = inl of.label;
      }) before tolerated

-- WHILE AN EPOCH IS ESTABLISHED

module _ (aim : EpochChange) (m : Membership) (words : Codewords) (h : List Happening) (ready : IsReadyFor aim m words h) where
  serving : (j : ℕ) → j < m.array.geometry.n → aimed aim j (why_of m j) ≡ why.Here → IsAttached h j → ServesSlot m.array.geometry words h j
  serving j below up on =
      elim (here_aimed aim j (why_of m j) up) [
        | inl here ↦ ready.session.live j below here on
        | inr promotes ↦ ready.serves j promotes on
      ]

  pub own_taken : (j : ℕ) → IsTaken (admitted aim) m j → IsAttachedOrBare h j
  own_taken j (inl here) = ready.session.own j here
  own_taken j (inr joins) = ready.own j joins.0

  pub shut_taken : (j : ℕ) → j < m.array.geometry.n → (why_of m j ≡ why.Rebuilding) ⊎ (admitted aim ≡ Some j) → IsAttached h j
      → IsShut m.array.geometry h h j
  shut_taken j below (inl rebuilt) on = ready.session.shut j below rebuilt on
  shut_taken j below (inr joins) on = ready.shut j joins on

  settled : IsSettled aim m
  settled = record {
    marks = ready.session.marks;
    joining = λ j here same. let is = ready.absent j same in is.1 (record { below = is.0; why = inl here });
  }

  prepared : IsPrepared aim m h
  prepared = record {
    promoted = ready.promoted;
    own = own_taken;
    large = λ j below up on. (serving j below up on).large;
    reached = λ image left.
        all_but_mapped {P = λ j. IsHere m j × HasReached m.array.geometry image m.array.epoch j}
        {Q = λ j. (admitted aim ≢ Some j) × HasReached m.array.geometry image m.array.epoch j}
        (λ j below has. (λ same. (ready.absent j same).1 has.0, has.1)) (ready.session.reached image left);
  }

  staged : AreStaged aim m (doing m no_redo words words) AtRest h h
  staged = record {
    up = λ j below up on. (
      slot_in (doing m no_redo words words) AtRest (IsSlot j) h h ((serving j below up on).rests no_redo words) j refl,
      λ pulled. omega (arith, pulled),
    );
    shut = shut_taken;
  }

module _ (aim : EpochChange) (gone : Slots) (m last : Membership) (words : Codewords) (old h new : List Happening) (image : Image)
    (ready : IsReadyFor aim m words old) (f : IsFencing aim gone m last old h new) (going : ¬ IsTrue (stopped h))
    (left : CrashMayLeave h image) where
  -- At every moment of it, whatever a crash leaves represents the state, with the marks of that image's current superblock.
  pub meanwhile : (content : Content) (doubt : Option Change) → IsOfContent m words content → IsAimedContent aim m words content doubt
      → (tolerated : IsToleratedAlone m.array.geometry image) → RepresentsAlone (state_with m content doubt tolerated.current.array) image
  meanwhile content doubt of aimed_at tolerated =
      stands_then aim gone m last old h new f (prepared aim m words old ready) going image left no_redo words words AtRest old
      (settled aim m words old ready) (staged aim m words old ready) content doubt (inl refl)
      (record {
        old_are = of.encodings;
        new_are = aimed_at.encodings;
        frozen = of.frozen;
        label = of.label;
        frozen_new = aimed_at.frozen;
        label_new = aimed_at.label;
      }) tolerated

  pub names_meanwhile : (current : Superblock) → IsToleratedAlone m.array.geometry image → IsCurrent m.array.geometry image current
      → (current.array ≡ m.array) ⊎ ((m.array.epoch < current.array.epoch) × IsAimed aim (HasSlot gone) m current.array)
  names_meanwhile current tolerated is_current =
      names_then aim gone m last old h new f (prepared aim m words old ready) going image left tolerated current is_current
