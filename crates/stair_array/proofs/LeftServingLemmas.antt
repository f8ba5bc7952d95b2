-- An open array while cells are read and slots that were gone are left out, whether media come back or not: what a crash leaves meanwhile.
use Rattle.std.proofs.Common.{◌≡◌, ℕ, List, inl, refl, sym, ◌∙◌, subst, None, Some, Option, ap, ◌<◌, ◌∷◌, []}
use Rattle.std.specs.Prelude.{IsTrue}
use Rattle.stair_model.specs.Slots.{HasSlot, Slots}
use Rattle.stair_rack.specs.Answers.{Ran, any_call, IsHistory}
use Rattle.stair_rack.specs.Crash.{CrashMayLeave, image_now}
use Rattle.stair_rack.specs.History.{Happening, Made}
use Rattle.stair_rack.specs.Media.{Image}
use Rattle.stair_rack.specs.Moments.{AtEveryMoment}
use Rattle.stair_rack.specs.Offline.{IsOfflineUntilAttached, IsOffline}
use Rattle.stair_rack.specs.RackState.{RackState}
use Rattle.stair_rack.proofs.CrashLemmas.{CrashMayLeave-now}
use Rattle.stair_rack.proofs.MomentLemmas.{at_every_from, at_every_none, ran_any, ran_before, ran_join}
use Rattle.stair_rack.proofs.TidyLemmas.{history_tidy, left_past_end}
use Rattle.stair_super.specs.Superblock.{Superblock, mark_in}
use Rattle.stair_member.specs.Aims.{mark_for}
use Rattle.stair_member.specs.Current.{IsCurrent, IsLive}
use Rattle.stair_member.specs.Membership.{IsHere, Membership, why_of}
use Rattle.stair_member.specs.Seats.{Seat, seats_of}
use Rattle.stair_member.specs.declared.fault.FenceFault.{FenceFault}
use Rattle.stair_member.specs.declared.why.Why.TheVariants as why
use Rattle.stair_state.specs.Blocks.{Codewords}
use Rattle.stair_state.specs.State.{Content}
use Rattle.stair_state.specs.Tolerance.{IsWithinTolerance}
use Rattle.stair_invariant.specs.Effects.{Fenced, FencesGone, NoneWas, Snapshot, snapshot}
use Rattle.stair_invariant.specs.InSession.{state_with}
use Rattle.stair_invariant.specs.Returning.{Returning}
use Rattle.stair_invariant.specs.Session.{ArrayState, IsLiveIn, seats_in}
use Rattle.stair_invariant.proofs.EachAloneLemmas.{made_left}
use Rattle.stair_invariant.proofs.RedoingLemmas.{out_ran}
use Rattle.stair_invariant.proofs.Serving.{StaysWithinToleranceTo, IsServing, LeadsReads, StandsAs, StandsIn, any_read, alone_seats}
use Rattle.stair_invariant.proofs.Mending.{calm_going}
use Rattle.stair_invariant.proofs.Stamping.{live_before}

-- within tolerance each image that a crash leaves represents the state, with no change in doubt
abbrev pub StandsAt : Returning → List Happening → Membership → Content → List Happening → Type 0
StandsAt returning before m kept c =
    StaysWithinToleranceTo returning m.array.geometry before c → (image : Image) → CrashMayLeave c image → StandsIn returning m kept None image

module _ (returning : Returning) (laws : LeadsReads returning) (before : List Happening) (a : ArrayState) (words : Codewords) (kept : Content) where
  abbrev Stands : List Happening → Type 0
  Stands = StandsAt returning before a.member kept

  -- BETWEEN CALLS, and while cells are read

  pub serving_stands : (h : List Happening)
      → (StaysWithinToleranceTo returning a.member.array.geometry before h → IsServing returning before a words kept h) → Stands h
  serving_stands h serves calm image left =
      let is = serves calm in
      record {
        array = a.member.array;
        stands =
            laws.alone (state_with a.member kept None a.member.array) h image is.history (laws.stands before a words kept h is calm)
            left;
        dropped = λ j. inl refl;
      }

  pub reading_stands : (old new : List Happening) → IsServing returning before a words kept old → Ran any_read old new
      → AtEveryMoment Stands old new
  reading_stands old new is ran =
      at_every_from {P = Stands} ran.more ran.is
      (λ c at.
      let so_far : Ran any_read old c = ran_before {allowed = any_read} ran at in
      serving_stands c
      (λ calm.
      laws.reads before a words kept old c is so_far
      (calm_going returning a.member.array.geometry before c (ran_join {allowed = any_call} is.is_open.ran (ran_any {allowed = any_read} so_far))
      calm)))

  -- SLOTS THAT ARE LEFT OUT, after reads

  module _ (gone : Slots) (refusal : Option FenceFault) (mid : RackState) (y : Snapshot) (leaves : FencesGone gone refusal (snapshot a.member mid) y)
      (honest : IsTrue y.told.honest) (is : IsServing returning before a words kept mid.history)
      (here : (j : ℕ) → HasSlot gone j → IsHere a.member j)
      (off : (j : ℕ) → HasSlot gone j → IsLiveIn a.member j → IsOfflineUntilAttached before mid.history j) where
    pub leaving_stands : AtEveryMoment Stands mid.history y.told.history
    leaving_stands = by leaves
      where
        later : Ran any_call mid.history y.told.history
        later = out_ran gone refusal (snapshot a.member mid) y leaves honest

        by : FencesGone gone refusal (snapshot a.member mid) y → AtEveryMoment Stands mid.history y.told.history
        by (NoneWas out same fine) =
            subst (λ (p : Snapshot). AtEveryMoment Stands mid.history p.told.history) (sym same)
            (at_every_none {P = Stands} mid.history (serving_stands mid.history (λ calm. is)))
        by (Fenced j has answer fine does) =
            at_every_from {P = Stands} later.more later.is
            (λ c at calm image left.
            laws.fencing before a words kept gone y.member answer mid y.told is does honest here off c at calm image left)

    -- refused
    pub leaving_refused : (fault : FenceFault) → refusal ≡ Some fault → StaysWithinToleranceTo returning a.member.array.geometry before y.told.history
        → StandsAs returning a.member kept None y.told.history
    leaving_refused fault at calm = by leaves
      where
        by : FencesGone gone refusal (snapshot a.member mid) y → StandsAs returning a.member kept None y.told.history
        by (NoneWas out same fine) = absurd (let never : None ≡ Some fault = sym fine ∙ at in cc)
        by (Fenced j has answer fine does) = laws.fenced before a words kept gone y.member answer mid y.told is does honest here off calm

-- WHAT IS LIVE on an image that represents the state was so to the member
pub stands_live : (returning : Returning) (before : List Happening) (m : Membership) (kept : Content) (h : List Happening) → IsHistory h
    → IsWithinTolerance (IsOffline before h) m.array.geometry (image_now h) → StandsIn returning m kept None (image_now h)
    → ((j : ℕ) → j < m.array.geometry.n → mark_in m.array j ≡ mark_for (why_of m j)) → (current : Superblock)
    → IsCurrent m.array.geometry (image_now h) current → (j : ℕ) → IsLive m.array.geometry (image_now h) current j → why_of m j ≡ why.Here
stands_live returning before m kept h history within stands marks current is_current j live =
    live_before m marks stands.array j live.below (stands.dropped j) (sym (ap (λ (s : Seat). s.mark) seat) ∙ live.marked)
  where
    alone : CrashMayLeave (Made (image_now h) ∷ []) (image_now h)
    alone = made_left (image_now h) (left_past_end h (history_tidy history) (image_now h) (CrashMayLeave-now h))

    seat : seats_of current j ≡ seats_in stands.array j
    seat =
        alone_seats returning (state_with m kept None stands.array) (image_now h) stands.stands (image_now h) alone current j within.identity
        is_current
