-- A slot that an epoch names takes part in what a crash leaves then.
use Rattle.std.proofs.Common.{◌≡◌, ℕ, ◌-◌, List, ◌⊎◌, inl, inr, refl, ap, subst, true}
use Rattle.stair_model.specs.Slots.{Slots}
use Rattle.stair_rack.specs.Answers.{is_good}
use Rattle.stair_rack.specs.Crash.{EachImage}
use Rattle.stair_rack.specs.History.{Happening, slot_state}
use Rattle.stair_rack.specs.Moments.{AtSomeMoment}
use Rattle.stair_rack.specs.Offline.{Here, Lost, WasPulled}
use Rattle.stair_rack.specs.Sector.{Good, MayLeave, content}
use Rattle.stair_rack.proofs.CrashLemmas.{settled_left}
use Rattle.stair_rack.proofs.MomentLemmas.{moment_sooner}
use Rattle.stair_super.specs.Spelling.{spelled}
use Rattle.stair_member.specs.Editions.{copy_of, edition_of}
use Rattle.stair_member.specs.Epochs.{IsOnDisk}
use Rattle.stair_member.specs.Fencing.{HasStood}
use Rattle.stair_member.specs.Membership.{Membership, IsHere, place_of}
use Rattle.stair_member.specs.declared.aim.EpochChange.{EpochChange}
use Rattle.stair_member.proofs.AgainLemmas.{taking_part}
use Rattle.stair_invariant.specs.InSession.{TakesPart, WasHarmed}

pub there : (aim : EpochChange) (gone : Slots) (m last : Membership) (old new : List Happening) (j : ℕ) → HasStood aim gone m last old new → IsHere last j
    → EachImage (TakesPart last j) new ⊎ (WasPulled old new j ⊎ WasHarmed old new j (1 - place_of last j))
there aim gone m last old new j st here = by (st.on_disk.on_disk j here)
  where
    landed : AtSomeMoment (λ h. is_good (content ((slot_state h j).sector (1 - place_of last j))) ≡ true) old new
    landed =
        let got = st.on_disk.got j (1 - place_of last j) here (inl refl) in
        record {
          moment = got.landed.moment;
          is_one = moment_sooner got.landed.is_one got.is_one;
          holds = ap is_good got.landed.holds;
        }

    by : IsOnDisk old new j (1 - place_of last j) (copy_of (edition_of last) j)
        → EachImage (TakesPart last j) new ⊎ (WasPulled old new j ⊎ WasHarmed old new j (1 - place_of last j))
    by (Here same some (inl harmed)) = inr (inr (landed, harmed))
    by (Here same some (inr is)) =
        inl
        (λ image left current names.
        taking_part aim gone m last old new image j current st left here
        (settled_left (Good (spelled (copy_of (edition_of last) j))) ((image j).cell (1 - place_of last j))
        (subst (λ s. MayLeave s ((image j).cell (1 - place_of last j))) is ((left j).each (1 - place_of last j)))) names)
    by (Lost less) = inr (inl less)
