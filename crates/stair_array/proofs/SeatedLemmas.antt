-- What each image that a crash leaves represents by itself, with the seats of its own current superblock, the rack represents with one
-- list of seats, where nothing is unsynced in superblock places.
use Rattle.std.proofs.Common.{◌≡◌, List, subst, arith, Option}
use Rattle.stair_model.specs.Geometry.{IsWithinLimits}
use Rattle.stair_rack.specs.Answers.{IsHistory}
use Rattle.stair_rack.specs.Crash.{CrashMayLeave, image_now}
use Rattle.stair_rack.specs.History.{Happening}
use Rattle.stair_rack.specs.Media.{Image}
use Rattle.stair_rack.proofs.CrashLemmas.{CrashMayLeave-now}
use Rattle.stair_super.specs.Superblock.{Superblock}
use Rattle.stair_member.specs.Membership.{Membership}
use Rattle.stair_member.proofs.SuperLemmas.{one_current}
use Rattle.stair_state.specs.Represents.{AreSteady, Represents, RepresentsAlone}
use Rattle.stair_state.specs.State.{Change, Content}
use Rattle.stair_state.specs.Tolerance.{IsTolerated, IsToleratedAlone}
use Rattle.stair_state.proofs.AgreeLemmas.{current_agree}
use Rattle.stair_state.proofs.OutsideLemmas.{tolerated_alone}
use Rattle.stair_state.proofs.StillLemmas.{steady_cells}
use Rattle.stair_invariant.specs.InSession.{state_with}
use Rattle.stair_invariant.proofs.EachAloneLemmas.{each_alone}

module _ (m : Membership) (content : Content) (doubt : Option Change) (before h : List Happening) (limits : IsWithinLimits m.array.geometry)
    (history : IsHistory h) (tolerated : IsTolerated m.array.geometry before h) (steady : AreSteady m.array.geometry h)
    (stands : (image : Image) → CrashMayLeave h image → (alone : IsToleratedAlone m.array.geometry image)
    → RepresentsAlone (state_with m content doubt alone.current.array) image) where
  -- those of what is current now
  abbrev pub now_alone : IsToleratedAlone m.array.geometry (image_now h)
  now_alone = tolerated_alone m.array.geometry before h (image_now h) tolerated (CrashMayLeave-now h)

  one_for_all : (image : Image) → CrashMayLeave h image → RepresentsAlone (state_with m content doubt now_alone.current.array) image
  one_for_all image left =
      let alone = tolerated_alone m.array.geometry before h image tolerated left in
      let same : alone.current ≡ now_alone.current =
      one_current m.array.geometry (image_now h) alone.current now_alone.current
      (current_agree m.array.geometry m.array.geometry.n (omega arith) image (image_now h) alone.current
      (λ j k below place. steady_cells m.array.geometry h image steady left j k below place) alone.is_current) now_alone.is_current in
      subst (λ (s : Superblock). RepresentsAlone (state_with m content doubt s.array) image) same (stands image left alone)

  pub seated : Represents (state_with m content doubt now_alone.current.array) h
  seated =
      each_alone (state_with m content doubt now_alone.current.array) before h limits history tolerated steady one_for_all
