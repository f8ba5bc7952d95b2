-- An open array's session, where nothing came back: what its epoch is to all media.
use Rattle.std.proofs.Common.{◌≡◌, ℕ, List, None, inl, inr, refl, subst}
use Rattle.std.specs.Prelude.{IsTrue}
use Rattle.stair_model.specs.Geometry.{Geometry}
use Rattle.stair_rack.specs.Crash.{CrashMayLeave, EachImage, image_now}
use Rattle.stair_rack.specs.History.{Happening, stopped}
use Rattle.stair_rack.specs.Media.{Image}
use Rattle.stair_rack.specs.Offline.{RackStopped}
use Rattle.stair_rack.specs.Sector.{Damaged, MayLeave}
use Rattle.stair_rack.specs.Stretch.{NothingReturned}
use Rattle.stair_rack.proofs.CrashLemmas.{CrashMayLeave-now, settled_left}
use Rattle.stair_member.specs.Current.{ByOutside}
use Rattle.stair_member.specs.Fencing.{IsBegun}
use Rattle.stair_member.specs.Membership.{IsHere, Membership, why_of}
use Rattle.stair_member.specs.Reserve.{HasReached}
use Rattle.stair_member.specs.declared.why.Why.TheVariants.{Here}
use Rattle.stair_member.proofs.CountingLemmas.{all_but_mapped}
use Rattle.stair_member.proofs.StoodLemmas.{all_here}
use Rattle.stair_state.specs.Blocks.{Codewords}
use Rattle.stair_state.specs.Tolerance.{IsTolerated}
use Rattle.stair_invariant.specs.Changing.{IsAttachedOrBare}
use Rattle.stair_invariant.specs.InSession.{HaveReached, IsInSession}
use Rattle.stair_invariant.specs.Session.{ArrayState, IsOpenWith}
use Rattle.stair_invariant.proofs.OwnLaws.{attached_or_bare, own_reached}

module _ (before : List Happening) (a : ArrayState) (words : Codewords) (h : List Happening) (is : IsOpenWith before a words h)
    (none : NothingReturned before h) (goes_on : ¬ IsTrue (stopped h)) where
  abbrev m : Membership
  m = a.member

  in_use : (j : ℕ) → IsHere m j → IsAttachedOrBare h j
  in_use j here =
      elim (attached_or_bare before h j is.ran none (is.held j here)) [ inl is_stopped ↦ absurd (goes_on is_stopped) | inr so ↦ so ]

  -- a slot that takes part has reached the epoch: by its own superblock, or since it's bare
  here_reached : (image : Image) → CrashMayLeave h image → (j : ℕ) → IsHere m j → HasReached m.array.geometry image m.array.epoch j
  here_reached image left j here =
      elim (in_use j here) [
        | inl on ↦ own_reached m h image j is.array.member here (is.own j here on.0) left
        | inr off ↦ λ s counts first second. absurd
            (first (ByOutside (settled_left Damaged ((image j).cell 0) (subst (λ b. MayLeave b ((image j).cell 0)) (off.1 0) ((left j).each 0)))))
      ]

  pub have_reached : EachImage (HaveReached m) h
  have_reached image left =
      all_but_mapped {P = λ j. why_of m j ≡ Here} {Q = λ j. IsHere m j × HasReached m.array.geometry image m.array.epoch j}
      (λ j below why.
      let here : IsHere m j = record { below = below; why = inl why } in
      (here, here_reached image left j here)) (all_here m.array.geometry m refl is.array.enough)

  -- so it is in session, where its member may begin a call
  pub in_session : IsBegun None m h → IsInSession m words h
  in_session begun = record {
    begun = begun;
    marks = is.array.marks;
    reached = have_reached;
    own = in_use;
    live = λ j below why. is.live j (record { below = below; why = why });
    shut = λ j below why. is.shut j (record { below = below; why = why });
  }

-- a rack within tolerance goes on: the slot that has the journal isn't offline
pub goes_on_within : (g : Geometry) (before h : List Happening) → IsTolerated g before h → ¬ IsTrue (stopped h)
goes_on_within g before h tolerated is_stopped =
    (tolerated (image_now h) (CrashMayLeave-now h)).journal.serves.online (RackStopped is_stopped)
