-- What holds at every moment of a stretch. A moment is the list of the happenings up to it, the newest first.
use Rattle.std.specs.Prelude.{◌≡◌, List, [], ◌∷◌, ◌++◌}
use Rattle.stair_rack.specs.History.{Happening}

-- a moment from old to new, both included
pub record IsMoment (old moment new : List Happening) : Type 0 where
  pub before : List Happening
  pub later : List Happening
  pub from : moment ≡ before ++ old
  pub to : new ≡ later ++ moment

-- at some moment from old to new, both included
pub record AtSomeMoment (P : List Happening → Type 0) (old new : List Happening) : Type 0 where
  pub moment : List Happening
  pub is_one : IsMoment old moment new
  pub holds : P moment

-- at h, and at each moment of these happenings after it
abbrev pub Throughout : (List Happening → Type 0) → List Happening → List Happening → Type 0
Throughout P [] h = P h
Throughout P (e ∷ more) h = P (e ∷ (more ++ h)) × Throughout P more h

-- at every moment from old to new, both included
pub record AtEveryMoment (P : List Happening → Type 0) (old new : List Happening) : Type 0 where
  pub more : List Happening
  pub is : new ≡ more ++ old
  pub each : Throughout P more old
