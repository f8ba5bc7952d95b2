-- That no other array stands at a moment is one condition, whether superblocks are counted in each image that a crash may leave then or
-- of each slot all that it bears.
use Rattle.std.proofs.Common.{List, [], ◌∷◌, ◌++◌, ◌≡◌, ◌∙◌, ◌⊎◌, ℕ, ap, arith, inl, inr, length, length-append, refl, subst}
use Rattle.stair_model.specs.Geometry.{Geometry}
use Rattle.stair_model.specs.Slots.{HasSlot}
use Rattle.stair_rack.specs.Crash.{CrashMayLeave, EachImage, SlotMayLeave}
use Rattle.stair_rack.specs.History.{Happening, slot_state}
use Rattle.stair_rack.specs.Media.{Image, SlotImage}
use Rattle.stair_rack.specs.Moments.{IsMoment}
use Rattle.stair_super.specs.Superblock.{Superblock}
use Rattle.stair_member.specs.Counting.{MoreThan}
use Rattle.stair_member.specs.Reserve.{Bears, MayStand}
use Rattle.stair_member.proofs.CountingLemmas.{has_or_not}
use Rattle.stair_rack.proofs.MomentLemmas.{moment_first}
use Rattle.stair_state.proofs.OutsideLemmas.{slot_now, slot_now_left}
use Rattle.stair_reinsert.specs.Counted.{HasBorne, IsAlone}

-- a stretch of one moment has no other
only_moment : (h moment : List Happening) → IsMoment h moment h → moment ≡ h
only_moment h moment at = by at.before at.from
  where
    by : (before : List Happening) → moment ≡ before ++ h → moment ≡ h
    by [] from = from
    by (e ∷ more) from =
        let whole = ap length at.to ∙ length-append at.later moment in
        let longer = ap length from in
        let rest = length-append more h in
        absurd (omega (arith, whole, longer, rest))

-- What each slot bears at the moment, in something that a crash may leave of it, lies in one image that a crash may leave.
pub borne_alone : (g : Geometry) (h : List Happening) → EachImage (λ image. (other : Geometry) → MayStand other image → other ≡ g) h
    → IsAlone g h h
borne_alone g h alone other many = alone together (λ j. each_left j (has_or_not many.slots j)) other stands
  where
    each_slot : (j : ℕ) → HasSlot many.slots j ⊎ (¬ HasSlot many.slots j) → SlotImage
    each_slot j (inl has) = (many.each j has).image
    each_slot j (inr not) = slot_now (slot_state h j)

    together : Image
    together j = each_slot j (has_or_not many.slots j)

    each_left : (j : ℕ) (which : HasSlot many.slots j ⊎ (¬ HasSlot many.slots j)) → SlotMayLeave (slot_state h j) (each_slot j which)
    each_left j (inl has) =
        let left = (many.each j has).left in
        subst (λ (m : List Happening). SlotMayLeave (slot_state m j) (many.each j has).image) (only_moment h left.moment left.is_one) left.holds
    each_left j (inr not) = slot_now_left (slot_state h j)

    borne : (j : ℕ) (which : HasSlot many.slots j ⊎ (¬ HasSlot many.slots j)) → HasSlot many.slots j
        → (s : Superblock) × Bears other j ((each_slot j which).cell) s
    borne j (inl has) on = ((many.each j has).super, (many.each j has).bears)
    borne j (inr not) on = absurd (not on)

    stands : MayStand other together
    stands = record {
      slots = many.slots;
      formed = many.formed;
      many = many.many;
      each = λ j on. let it = borne j (has_or_not many.slots j) on in record { super = it.0; bears = it.1 };
    }

-- and the other way round
pub alone_borne : (g : Geometry) (h : List Happening) → IsAlone g h h
    → EachImage (λ image. (other : Geometry) → MayStand other image → other ≡ g) h
alone_borne g h alone image left other stands =
    alone other (record {
      slots = stands.slots;
      formed = stands.formed;
      many = stands.many;
      each = λ j on. record {
        image = image j;
        left = record { moment = h; is_one = moment_first [] refl; holds = left j };
        super = (stands.each j on).super;
        bears = (stands.each j on).bears;
      };
    })
