-- What stays of an open array over a call in which slots may have been gone and dropped: marks, draws, and a rebuild.
use Rattle.std.proofs.Common.{◌≡◌, ◌≢◌, ℕ, ◌<◌, ◌≤◌, refl, sym, ◌∙◌, subst, None, Option, Some}
use Rattle.stair_model.specs.Geometry.{Geometry}
use Rattle.stair_rack.specs.RackState.{RackState}
use Rattle.stair_super.specs.Superblock.{mark_in}
use Rattle.stair_super.specs.declared.mark.Mark.TheVariants.{Down}
use Rattle.stair_member.specs.Aims.{mark_for}
use Rattle.stair_member.specs.Membership.{Membership, why_of}
use Rattle.stair_member.specs.declared.fault.FenceFault.{FenceFault}
use Rattle.stair_member.specs.declared.why.Why.{Why}
use Rattle.stair_member.specs.declared.why.Why.TheVariants as why
use Rattle.stair_invariant.specs.Effects.{Snapshot, snapshot}
use Rattle.stair_invariant.specs.Rebuilding.{Rebuild}
use Rattle.stair_invariant.specs.Session.{ArrayState, IsArray, IsRebuiltIn, Remembered}
use Rattle.stair_array.specs.Causes.{MarkGoesOn, MemberGoesOn, WhyGoesOn}
use Rattle.stair_array.specs.Draws.{Before, DrawsFew, allowance}
use Rattle.stair_array.specs.Machine.{Step}
use Rattle.stair_array.specs.Promise.{KeepsProgress, left_of, rebuild_after, rebuild_of, running, unopened}
use Rattle.stair_array.proofs.PartsLemmas.{IsPart, MarkStays, WhyStays}

-- SLOTS AND DRAWS, of whichever step

pub why_goes_on : (step : Step) (x y : Snapshot) (j : ℕ) → WhyStays x y j → WhyGoesOn step x.told y.told x.member y.member j
why_goes_on step x y j (WhyStays.Same same) = WhyGoesOn.Stays same
why_goes_on step x y j (WhyStays.Went gone was) = WhyGoesOn.Went gone was

pub draws_few : (step : Step) (x y : Snapshot) → IsPart (allowance step) x y → DrawsFew step x.member y.member x.told y.told
draws_few step x y part = record { draw = x.member.drawn; had_seen = Before refl; few = part.draws }

away_mark : (w : Why) → w ≢ why.Here → w ≢ why.Rebuilding → mark_for w ≡ Down
away_mark why.Here live rebuilt = absurd (live refl)
away_mark why.Rebuilding live rebuilt = absurd (rebuilt refl)
away_mark w live rebuilt = refl

-- a mark says what is known of its slot, so that of one that wasn't here is Down already
pub mark_goes_on : (step : Step) (x y : Snapshot) (j : ℕ) → mark_in x.member.array j ≡ mark_for (why_of x.member j) → MarkStays x y j
    → MarkGoesOn step x.told y.told x.member y.member j
mark_goes_on step x y j marked (MarkStays.Same same) = MarkGoesOn.Stays same
mark_goes_on step x y j marked (MarkStays.WasAway live rebuilt down) =
    MarkGoesOn.Stays (down ∙ sym (marked ∙ away_mark (why_of x.member j) live rebuilt))
mark_goes_on step x y j marked (MarkStays.Went was down) = MarkGoesOn.Went was down

-- AN OPEN ARRAY

module _ (last : Membership) (rebuild : Rebuild) where
  -- a rebuild goes on where its slot is still rebuilt
  goes_where : (w : Why) → why_of last rebuild.slot ≡ w → (kept : Rebuild) → rebuild_of w rebuild ≡ Some kept
      → (kept ≡ rebuild) × (why_of last rebuild.slot ≡ why.Rebuilding)
  goes_where why.Rebuilding is kept same = ((let one : kept ≡ rebuild = cc in one), is)
  goes_where w is kept same = absurd (cc)

  keeps_where : (m : Membership) (known : Option Remembered) (stopped : Option FenceFault) (w : Why) → why_of last rebuild.slot ≡ w → rebuild.slot < last.array.geometry.n
      → KeepsProgress (running m (Some rebuild) known)
      (record { member = last; rebuild = rebuild_of w rebuild; stopped = stopped; remembered = None })
  keeps_where m known stopped why.Rebuilding is below =
      KeepsProgress.Stays refl
      (λ kept same.
      let one : rebuild ≡ kept = cc in
      subst (λ (r : Rebuild). IsRebuiltIn last r.slot) one (record { below = below; why = is }))
  keeps_where m known stopped w is below =
      KeepsProgress.Ended rebuild refl (λ rebuilt. let never : w ≡ why.Rebuilding = sym is ∙ rebuilt.why in absurd (cc)) refl

-- of an array that has the same geometry in the end
module _ (m last : Membership) (rebuild : Option Rebuild) (known : Option Remembered) (stopped : Option FenceFault) (array : IsArray (running m rebuild known))
    (geometry : last.array.geometry ≡ m.array.geometry) where
  slot_below : (r : Rebuild) → rebuild ≡ Some r → r.slot < last.array.geometry.n
  slot_below r is = subst (λ (g : Geometry). r.slot < g.n) (sym geometry) (array.rebuilds r is).0.below

  keeps : (found : Option Rebuild) → rebuild ≡ found → KeepsProgress (running m found known) (left_of last found stopped)
  keeps None is = KeepsProgress.Stays refl (λ r same. absurd (cc))
  keeps (Some r) is = keeps_where last r m known stopped (why_of last r.slot) refl (slot_below r is)

  pub progress_kept : KeepsProgress (running m rebuild known) (left_of last rebuild stopped)
  progress_kept = keeps rebuild refl

  pub without_rebuild : IsArray (unopened m)
  without_rebuild = record { member = array.member; marks = array.marks; enough = array.enough; rebuilds = λ r is. absurd (cc) }

  rebuilds_on : (found : Option Rebuild) → rebuild ≡ found → (kept : Rebuild) → rebuild_after last found ≡ Some kept
      → IsRebuiltIn last kept.slot × (kept.stripe ≤ last.array.geometry.stripes)
  rebuilds_on None is kept same = absurd (cc)
  rebuilds_on (Some r) is kept same =
      let on = goes_where last r (why_of last r.slot) refl kept same in
      subst (λ (k : Rebuild). IsRebuiltIn last k.slot × (k.stripe ≤ last.array.geometry.stripes)) (sym on.0) (
        record { below = slot_below r is; why = on.1 },
        subst (λ (g : Geometry). r.stripe ≤ g.stripes) (sym geometry) (array.rebuilds r is).1,
      )

  -- what stands of its slots stands with the rebuild
  pub stands_rebuilt : IsArray (unopened last) → IsArray (left_of last rebuild stopped)
  stands_rebuilt is = record { member = is.member; marks = is.marks; enough = is.enough; rebuilds = rebuilds_on rebuild refl }

-- whatever it remembers then
pub progress_then : {was is : ArrayState} (after : Option Remembered) → KeepsProgress was is → KeepsProgress was (record is { remembered = after })
progress_then after (KeepsProgress.Stays same on) = KeepsProgress.Stays same on
progress_then after (KeepsProgress.Ended rebuild under not_rebuilt none) = KeepsProgress.Ended rebuild under not_rebuilt none

pub array_then : {is : ArrayState} (after : Option Remembered) → IsArray is → IsArray (record is { remembered = after })
array_then after array = record { member = array.member; marks = array.marks; enough = array.enough; rebuilds = array.rebuilds }

-- In a call that an array took slots may have been gone and dropped.
module _ {more : ℕ} (m last : Membership) (rebuild : Option Rebuild) (known : Option Remembered) (stopped : Option FenceFault) (old new : RackState)
    (array : IsArray (running m rebuild known)) (part : IsPart more (snapshot m old) (snapshot last new)) where
  pub member_goes_on : (step : Step) → MemberGoesOn step old new m last
  member_goes_on step = record {
    geometry = part.geometry;
    whys = λ j below. why_goes_on step (snapshot m old) (snapshot last new) j (part.whys j below);
    marks = λ j below. mark_goes_on step (snapshot m old) (snapshot last new) j (array.marks j below) (part.marks j below);
    drawn = part.drawn;
  }

  pub keeps_progress : KeepsProgress (running m rebuild known) (left_of last rebuild stopped)
  keeps_progress = progress_kept m last rebuild known stopped array part.geometry

  pub bare : IsArray (unopened m)
  bare = without_rebuild m last rebuild known stopped array part.geometry

  pub stands : IsArray (unopened last) → IsArray (left_of last rebuild stopped)
  stands = stands_rebuilt m last rebuild known stopped array part.geometry
