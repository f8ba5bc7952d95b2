-- A rack that is made over an image which a crash left, or over a degraded one.
use Rattle.std.proofs.Common.{◌≡◌, ℕ, List, [], ◌∷◌, Option, inl, inr, sym, refl, ap, ◌∙◌, subst}
use Rattle.std.specs.Prelude.{false, None, Some}
use Rattle.std.proofs.lemmas.Bool.{cases_Bool, cond-false, cond_both}
use Rattle.stair_model.specs.Geometry.{Geometry}
use Rattle.stair_rack.specs.Answers.{IsHistory}
use Rattle.stair_rack.specs.Crash.{CrashMayLeave, EachImage}
use Rattle.stair_rack.specs.History.{Happening, Made, slot_state}
use Rattle.stair_rack.specs.Media.{Image, has_sector}
use Rattle.stair_rack.specs.Sector.{Sector, Damaged, settled, damaged}
use Rattle.stair_rack.proofs.TidyLemmas.{history_tidy, left_past_end, sectors_within}
use Rattle.stair_rack.proofs.CrashLemmas.{settled_cell}
use Rattle.stair_member.specs.Current.{IsCurrent}
use Rattle.stair_member.specs.Reserve.{IsOrderly}
use Rattle.stair_member.specs.Seats.{Seats}
use Rattle.stair_member.specs.Superblocks.{IsOnlyIdentity}
use Rattle.stair_state.specs.Degraded.{IsDegraded}
use Rattle.stair_state.specs.Holding.{IsConsistentBy, IsConsistentUnderReassembly}
use Rattle.stair_state.specs.Represents.{AreSteady, Encodings, HaveSeats, ImageRepresents, IsImageOf, Left, Lesser, Represents, RepresentsAlone}
use Rattle.stair_state.specs.State.{State, without_seats}
use Rattle.stair_state.specs.Tolerance.{IsToleratedAlone}
use Rattle.stair_state.proofs.DegradedLemmas.{again, degraded_past_end, orderly_before}

-- WITHOUT A WORD ON MARKS

-- with other marks the state has the same stripes
abbrev pub reseated : (s : State) (seats : Option Seats) → Encodings s → Encodings (record s { seats = seats })
reseated s seats encodings = record {
  old = encodings.old;
  new = encodings.new;
  old_are = encodings.old_are;
  new_are = encodings.new_are;
}

abbrev pub encodings_without_seats : (s : State) → Encodings s → Encodings (without_seats s)
encodings_without_seats s = reseated s None

pub image_without_seats : (s : State) (encodings : Encodings s) (image : Image) → ImageRepresents s encodings image
    → ImageRepresents (without_seats s) (encodings_without_seats s encodings) image
image_without_seats s encodings image stands = record {
  identity = stands.identity;
  current = stands.current;
  is_current = stands.is_current;
  full = stands.full;
  form = stands.form;
  rebuilding = stands.rebuilding;
  frozen = stands.frozen;
  label = stands.label;
}

-- A RACK OVER MEDIA PAST WHOSE END NOTHING CAN BE READ

abbrev pub IsImageTidy : Image → Type 0
IsImageTidy image = (j k : ℕ) → has_sector (image j).size k ≡ false → (image j).cell k ≡ Damaged

-- nothing is unsynced there
pub steady_made : (g : Geometry) (image : Image) → AreSteady g (Made image ∷ [])
steady_made g image j k below place =
    cond_both (has_sector (image j).size k) (settled ((image j).cell k)) damaged (λ (s : Sector). s.since ≡ []) (λ within. refl) (λ past. refl)

module _ (image : Image) (tidy : IsImageTidy image) where
  pub made_settled : (j k : ℕ) → (slot_state (Made image ∷ []) j).sector k ≡ settled ((image j).cell k)
  made_settled j k =
      elim (cases_Bool (has_sector (image j).size k)) [
        | inl within ↦ sectors_within (image j).size (image j).cell k within
        | inr past ↦ cond-false _ _ _ past ∙ sym (ap settled (tidy j k past))
      ]

  -- so a crash leaves these media and nothing else
  pub left_is : (other : Image) → CrashMayLeave (Made image ∷ []) other → other ≡ image
  left_is other left x j = record {
    size = (left j).size x;
    cell = λ k. settled_cell (Made image ∷ []) other j k ((image j).cell k) left (made_settled j k) x;
    removed = (left j).removed x;
  }

  pub each_left : (P : Image → Type 0) → P image → EachImage P (Made image ∷ [])
  each_left P holds other left = subst P (sym (left_is other left)) holds

  -- of the images of this rack each is one of a rack from which its media came
  pub images_made : (g : Geometry) (h : List Happening) → IsImageOf g h image
      → ((less : Image) → IsDegraded image less → IsToleratedAlone g less → IsImageOf g h less)
      → (x : Image) → IsImageOf g (Made image ∷ []) x → IsImageOf g h x
  images_made g h here lesser x (Left left) = subst (IsImageOf g h) (sym (left_is x left)) here
  images_made g h here lesser x (Lesser more left degraded tolerated) =
      lesser x (subst (λ y. IsDegraded y x) (left_is more left) degraded) tolerated

-- what a crash left represents the state, marks too
pub seats_left : (seats : Option Seats) (g : Geometry) (h : List Happening) (image : Image) → IsImageTidy image → CrashMayLeave h image
    → HaveSeats seats g h → HaveSeats seats g (Made image ∷ [])
seats_left None g h image tidy left have = tt
seats_left (Some seats) g h image tidy left have = λ other is_left current j only is_current.
    let same = left_is image tidy other is_left in
    have image left current j (subst (λ y. IsOnlyIdentity g y) same only)
    (subst (λ y. IsCurrent g y current) same is_current)

pub left_stands : (s : State) (h : List Happening) (image : Image) → IsHistory h → Represents s h → CrashMayLeave h image
    → RepresentsAlone s image
left_stands s h image history stands left =
    let tidy : IsImageTidy image = left_past_end h (history_tidy history) image left in
    let back = images_made image tidy s.geometry h (Left left) (λ less degraded tolerated. Lesser image left degraded tolerated) in
    record {
      encodings = stands.encodings;
      each = λ x is. stands.each x (back x is);
      orderly = each_left image tidy (IsOrderly s.geometry) (stands.orderly image left);
      shrinks = λ more less is also. stands.shrinks more less (back more is) (back less also);
      seats = seats_left s.seats s.geometry h image tidy left stands.seats;
      steady = steady_made s.geometry image;
    }

-- so does what is degraded from it, marks aside
pub lesser_stands : (s : State) (h : List Happening) (more less : Image) → IsHistory h → Represents s h → CrashMayLeave h more
    → IsDegraded more less → IsToleratedAlone s.geometry less → RepresentsAlone (without_seats s) less
lesser_stands s h more less history stands left degraded tolerated =
    let tidy : IsImageTidy less = λ j. degraded_past_end (degraded j) (left_past_end h (history_tidy history) more left j) in
    let back =
    images_made less tidy s.geometry h (Lesser more left degraded tolerated)
    (λ x more_degraded also. Lesser more left (again more less x degraded more_degraded) also) in
    record {
      encodings = encodings_without_seats s stands.encodings;
      each = λ x is. image_without_seats s stands.encodings x (stands.each x (back x is));
      orderly = each_left less tidy (IsOrderly s.geometry) (orderly_before s.geometry more less degraded (stands.orderly more left));
      shrinks = λ a b is also. stands.shrinks a b (back a is) (back b also);
      seats = tt;
      steady = steady_made s.geometry less;
    }

-- what a crash left of a rack that is consistent under reassembly is so
pub left_consistent : (s : State) (h : List Happening) (image : Image) → IsHistory h → IsConsistentUnderReassembly s h
    → CrashMayLeave h image → IsConsistentUnderReassembly s (Made image ∷ [])
left_consistent s h image history consistent left =
    let tidy : IsImageTidy image = left_past_end h (history_tidy history) image left in
    record {
      current_media = consistent.current_media;
      since = consistent.since;
      is = record {
        encodings = consistent.is.encodings;
        each = each_left image tidy (IsConsistentBy s consistent.is.encodings consistent.current_media consistent.since) (consistent.is.each image left);
        seats = seats_left s.seats s.geometry h image tidy left consistent.is.seats;
        steady = steady_made s.geometry image;
      };
    }
