-- A recovery that was done decides what was in doubt, and leaves an open array.
use Rattle.std.proofs.Common.{◌≡◌, ℕ, List, Bool, inl, inr, refl, sym, subst, None, Option, Some}
use Rattle.std.specs.Prelude.{◌⊎◌, IsTrue}
use Rattle.stair_model.specs.Geometry.{Geometry}
use Rattle.stair_rack.specs.History.{Happening, stopped}
use Rattle.stair_rack.specs.Stretch.{NothingReturned}
use Rattle.stair_member.specs.Membership.{Membership}
use Rattle.stair_state.specs.Blocks.{AreEncodingsOf, Codewords}
use Rattle.stair_state.specs.Represents.{Encodings, Represents}
use Rattle.stair_state.specs.State.{BlocksAre, Change, Content, FrozenIs, LabelIs, State, changed_if}
use Rattle.stair_state.specs.Surveyed.{NamesContent}
use Rattle.stair_state.specs.Tolerance.{IsTolerated}
use Rattle.stair_invariant.specs.InSession.{IsInSession}
use Rattle.stair_invariant.specs.Opening.{IsDecidedAs, IsOpening, opened_with}
use Rattle.stair_invariant.specs.Effects.{Snapshot}
use Rattle.stair_invariant.specs.Session.{IsOpenWith, seats_in}
use Rattle.stair_invariant.proofs.OpenCourseLemmas.{opens_with}
use Rattle.stair_invariant.proofs.OpenWithLemmas.{represents_open}

-- what was decided of this content with this doubt
record IsOneOf (g : Geometry) (content : Content) (doubt : Option Change) (words : Codewords) (frozen : Bool) (label : List ℕ) : Type 0 where
  pub now : Content
  pub one : (now ≡ content) ⊎ (now ≡ changed_if doubt content)
  pub encodings : AreEncodingsOf g now.blocks words
  pub frozen_is : frozen ≡ now.frozen
  pub label_is : label ≡ now.label

module _ (g : Geometry) (content : Content) (words : Codewords) (frozen : Bool) (label : List ℕ) where
  either_way : {A : Type 0} {x y : A} → (x ≡ y) ⊎ (x ≡ y) → x ≡ y
  either_way (inl same) = same
  either_way (inr same) = same

  decided : (doubt : Option Change) (old new : Codewords) → AreEncodingsOf g content.blocks old → AreEncodingsOf g (changed_if doubt content).blocks new
      → (frozen ≡ content.frozen) ⊎ (frozen ≡ (changed_if doubt content).frozen) → (label ≡ content.label) ⊎ (label ≡ (changed_if doubt content).label)
      → (words ≡ old) ⊎ (words ≡ new) → IsOneOf g content doubt words frozen label
  decided None old new old_are new_are f l w = record {
    now = content;
    one = inl refl;
    encodings =
        elim w [
          | inl is ↦ subst (AreEncodingsOf g content.blocks) (sym is) old_are
          | inr is ↦ subst (AreEncodingsOf g content.blocks) (sym is) new_are
        ];
    frozen_is = either_way f;
    label_is = either_way l;
  }
  decided (Some (BlocksAre first contents)) old new old_are new_are f l (inl is) = record {
    now = content;
    one = inl refl;
    encodings = subst (AreEncodingsOf g content.blocks) (sym is) old_are;
    frozen_is = either_way f;
    label_is = either_way l;
  }
  decided (Some (BlocksAre first contents)) old new old_are new_are f l (inr is) = record {
    now = changed_if (Some (BlocksAre first contents)) content;
    one = inr refl;
    encodings = subst (AreEncodingsOf g (changed_if (Some (BlocksAre first contents)) content).blocks) (sym is) new_are;
    frozen_is = either_way f;
    label_is = either_way l;
  }
  decided (Some (FrozenIs to)) old new old_are new_are f l w = by f
    where
      of_words : AreEncodingsOf g content.blocks words
      of_words =
          elim w [
            | inl is ↦ subst (AreEncodingsOf g content.blocks) (sym is) old_are
            | inr is ↦ subst (AreEncodingsOf g content.blocks) (sym is) new_are
          ]

      by : (frozen ≡ content.frozen) ⊎ (frozen ≡ to) → IsOneOf g content (Some (FrozenIs to)) words frozen label
      by (inl same) =
          record { now = content; one = inl refl; encodings = of_words; frozen_is = same; label_is = either_way l }
      by (inr same) = record {
        now = changed_if (Some (FrozenIs to)) content;
        one = inr refl;
        encodings = of_words;
        frozen_is = same;
        label_is = either_way l;
      }
  decided (Some (LabelIs to)) old new old_are new_are f l w = by l
    where
      of_words : AreEncodingsOf g content.blocks words
      of_words =
          elim w [
            | inl is ↦ subst (AreEncodingsOf g content.blocks) (sym is) old_are
            | inr is ↦ subst (AreEncodingsOf g content.blocks) (sym is) new_are
          ]

      by : (label ≡ content.label) ⊎ (label ≡ to) → IsOneOf g content (Some (LabelIs to)) words frozen label
      by (inl same) =
          record { now = content; one = inl refl; encodings = of_words; frozen_is = either_way f; label_is = same }
      by (inr same) = record {
        now = changed_if (Some (LabelIs to)) content;
        one = inr refl;
        encodings = of_words;
        frozen_is = either_way f;
        label_is = same;
      }

pub decides : (s : State) (encodings : Encodings s) (m : Membership) (words : Codewords) → NamesContent s m.array
    → (words ≡ encodings.old) ⊎ (words ≡ encodings.new) → (content : Content) × IsDecidedAs s m words content
decides s encodings m words names either =
    let is =
    decided s.geometry s.content words m.array.frozen m.array.label s.in_doubt encodings.old encodings.new encodings.old_are encodings.new_are names.frozen
    names.label either in
    (is.now, record { one = is.one; encodings = is.encodings; frozen = is.frozen_is; label = is.label_is })

-- The rack then represents the state with that content, and its seats are those of the member's epoch.
pub opens_as : (s : State) (before : List Happening) (x : Snapshot) (words : Codewords) (content : Content) → IsOpening before x
    → IsInSession x.member words x.told.history → IsDecidedAs s x.member words content → s.geometry ≡ x.member.array.geometry
    → NothingReturned before x.told.history → IsTolerated s.geometry before x.told.history → ¬ IsTrue (stopped x.told.history)
    → Represents (record { geometry = s.geometry; content = content; in_doubt = None; seats = Some (seats_in x.member.array) }) x.told.history
    × IsOpenWith before (opened_with x.member) words x.told.history
opens_as s before x words content is session decided geometry none tolerated going =
    let opens = opens_with before x.member words x.told.history is.amid session in (
      subst
          (λ (g : Geometry). Represents (record { geometry = g; content = content; in_doubt = None; seats = Some (seats_in x.member.array) }) x.told.history)
          (sym geometry)
          (represents_open before (opened_with x.member) words x.told.history opens none is.begun content
          (record {
            encodings = subst (λ (g : Geometry). AreEncodingsOf g content.blocks words) geometry decided.encodings;
            frozen = decided.frozen;
            label = decided.label;
          })
          (subst (λ (g : Geometry). IsTolerated g before x.told.history) geometry tolerated)),
      opens,
    )
