-- A rack over an image represents a state where the image, and whatever of less of it is within tolerance, does.
use Rattle.std.proofs.Common.{[], ◌∷◌, sym, ap, subst}
use Rattle.std.specs.Prelude.{Some}
use Rattle.stair_model.specs.Geometry.{Geometry}
use Rattle.stair_rack.specs.History.{Made}
use Rattle.stair_rack.specs.Media.{Image}
use Rattle.stair_super.specs.Superblock.{Superblock}
use Rattle.stair_member.specs.Current.{IsCurrent}
use Rattle.stair_member.specs.Reserve.{IsOrderly}
use Rattle.stair_member.specs.Seats.{seats_of}
use Rattle.stair_member.proofs.SuperLemmas.{one_current}
use Rattle.stair_state.specs.Degraded.{IsDegraded}
use Rattle.stair_state.specs.Represents.{Encodings, HaveSeats, ImageRepresents, IsImageOf, Left, Lesser, RepresentsAlone, Shrinks}
use Rattle.stair_state.specs.State.{State}
use Rattle.stair_state.specs.Tolerance.{IsToleratedAlone}
use Rattle.stair_state.proofs.AloneLemmas.{IsImageTidy, each_left, left_is, steady_made}
use Rattle.stair_state.proofs.DegradedLemmas.{degraded_same}
use Rattle.stair_invariant.specs.Session.{seats_in}

-- less of an image, within tolerance
pub record IsPart (g : Geometry) (image x : Image) : Type 0 where
  pub degraded : IsDegraded image x
  pub alone : IsToleratedAlone g x

module _ (g : Geometry) (image : Image) (tidy : IsImageTidy image) (tolerated : IsToleratedAlone g image) where
  -- the images of a rack over it are such
  part : (x : Image) → IsImageOf g (Made image ∷ []) x → IsPart g image x
  part x (Left left) = subst (IsPart g image) (sym (left_is image tidy x left)) (record { degraded = degraded_same image; alone = tolerated })
  part x (Lesser more left degraded also) =
      record { degraded = subst (λ y. IsDegraded y x) (left_is image tidy more left) degraded; alone = also }

  -- and its seats are those of the current superblock
  pub seats_over : HaveSeats (Some (seats_in tolerated.current.array)) g (Made image ∷ [])
  seats_over other left current j only is_current =
      ap (λ (c : Superblock). seats_of c j)
      (one_current g image current tolerated.current (subst (λ y. IsCurrent g y current) (left_is image tidy other left) is_current)
      tolerated.is_current)

pub stands_over : (s : State) (encodings : Encodings s) (image : Image) → IsImageTidy image → IsToleratedAlone s.geometry image
    → IsOrderly s.geometry image → HaveSeats s.seats s.geometry (Made image ∷ [])
    → ((x : Image) → IsPart s.geometry image x → ImageRepresents s encodings x)
    → ((more less : Image) → IsPart s.geometry image more → IsPart s.geometry image less → IsDegraded more less → Shrinks s.geometry more less)
    → RepresentsAlone s image
stands_over s encodings image tidy tolerated orderly seats each shrinks = record {
  encodings = encodings;
  each = λ x at. each x (part s.geometry image tidy tolerated x at);
  orderly = each_left image tidy (IsOrderly s.geometry) orderly;
  shrinks = λ more less at also. shrinks more less (part s.geometry image tidy tolerated more at) (part s.geometry image tidy tolerated less also);
  seats = seats;
  steady = steady_made s.geometry image;
}
