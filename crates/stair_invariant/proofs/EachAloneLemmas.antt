-- A rack represents a state where a rack over each image that a crash may leave of it does.
use Rattle.std.proofs.Common.{◌≡◌, List, [], ◌∷◌, Option, sym, refl, subst}
use Rattle.std.specs.Prelude.{None, Some}
use Rattle.stair_model.specs.Geometry.{IsWithinLimits}
use Rattle.stair_rack.specs.Answers.{IsHistory}
use Rattle.stair_rack.specs.Crash.{CrashMayLeave, EachImage, image_now}
use Rattle.stair_rack.specs.History.{Happening, Made}
use Rattle.stair_rack.specs.Media.{Image}
use Rattle.stair_rack.specs.Sector.{MayLeave, Sector}
use Rattle.stair_rack.proofs.TidyLemmas.{history_tidy, left_past_end}
use Rattle.stair_rack.proofs.CrashLemmas.{CrashMayLeave-now}
use Rattle.stair_member.specs.Seats.{Seats}
use Rattle.stair_state.specs.Degraded.{IsDegraded}
use Rattle.stair_state.specs.Represents.{AreSteady, HaveSeats, ImageRepresents, IsImageOf, Left, Lesser, Represents, RepresentsAlone, Shrinks}
use Rattle.stair_state.specs.State.{State}
use Rattle.stair_state.specs.Tolerance.{IsTolerated, IsToleratedAlone}
use Rattle.stair_state.proofs.AloneLemmas.{IsImageTidy, made_settled}
use Rattle.stair_state.proofs.DegradedLemmas.{again}
use Rattle.stair_state.proofs.OutsideLemmas.{tolerated_alone}
use Rattle.stair_state.proofs.WordLemmas.{by_any_encodings}

-- a rack over an image is left as it is
pub made_left : (image : Image) → IsImageTidy image → CrashMayLeave (Made image ∷ []) image
made_left image tidy j = record {
  size = refl;
  each = λ k. subst (λ (s : Sector). MayLeave s ((image j).cell k)) (sym (made_settled image tidy j k)) refl;
  removed = refl;
}

module _ (s : State) (before h : List Happening) (limits : IsWithinLimits s.geometry) (history : IsHistory h)
    (tolerated : IsTolerated s.geometry before h) (steady : AreSteady s.geometry h) (alone : EachImage (RepresentsAlone s) h) where
  tidy : (image : Image) → CrashMayLeave h image → IsImageTidy image
  tidy image left = left_past_end h (history_tidy history) image left

  here : (image : Image) (left : CrashMayLeave h image) → CrashMayLeave (Made image ∷ []) image
  here image left = made_left image (tidy image left)

  first : RepresentsAlone s (image_now h)
  first = alone (image_now h) (CrashMayLeave-now h)

  lesser : (x y : Image) → CrashMayLeave h x → IsDegraded x y → IsToleratedAlone s.geometry y → IsImageOf s.geometry (Made x ∷ []) y
  lesser x y left degraded also = Lesser x (here x left) degraded also

  each : (x : Image) → IsImageOf s.geometry h x → ImageRepresents s first.encodings x
  each x (Left left) =
      by_any_encodings s (alone x left).encodings first.encodings x limits ((alone x left).each x (Left (here x left)))
  each x (Lesser more left degraded also) =
      by_any_encodings s (alone more left).encodings first.encodings x limits
      ((alone more left).each x (lesser more x left degraded also))

  alone_of : (x : Image) → IsImageOf s.geometry h x → IsToleratedAlone s.geometry x
  alone_of x (Left left) = tolerated_alone s.geometry before h x tolerated left
  alone_of x (Lesser more left degraded also) = also

  shrink : (more less : Image) → IsImageOf s.geometry h more → IsImageOf s.geometry h less → IsDegraded more less
      → Shrinks s.geometry more less
  shrink more less (Left left) of degraded =
      (alone more left).shrinks more less (Left (here more left)) (lesser more less left degraded (alone_of less of)) degraded
  shrink more less (Lesser top left lost also) of degraded =
      (alone top left).shrinks more less (lesser top more left lost also)
      (lesser top less left (again top more less lost degraded) (alone_of less of)) degraded

  seats : (known : Option Seats) → s.seats ≡ known → HaveSeats known s.geometry h
  seats None same = tt
  seats (Some known) same = λ image left current j only is_current.
      (subst (λ (k : Option Seats). HaveSeats k s.geometry (Made image ∷ [])) same (alone image left).seats) image (here image left) current j only
      is_current

  pub each_alone : Represents s h
  each_alone = record {
    encodings = first.encodings;
    each = each;
    orderly = λ image left. (alone image left).orderly image (here image left);
    shrinks = shrink;
    seats = seats s.seats refl;
    steady = steady;
  }
