-- A slot of a redo is in a stage of it from a moment on before which its medium wasn't pulled: so it is of its medium, wherever that lies.
use Rattle.std.proofs.Common.{◌≡◌, ℕ, List, [], ◌∷◌, ◌++◌, inl, inr, refl, sym, ◌∙◌, subst, arith, append_assoc}
use Rattle.std.specs.Prelude.{IsSome, not}
use Rattle.stair_model.specs.Device.{DevicePart, sector_of}
use Rattle.stair_rack.specs.Answers.{IsNoAttach, Ran, is_ready, no_call}
use Rattle.stair_rack.specs.Crash.{CrashMayLeave}
use Rattle.stair_rack.specs.History.{Called, Happening, SlotCall, Sync, slot_state, stopped}
use Rattle.stair_rack.specs.Media.{Image}
use Rattle.stair_rack.specs.Moments.{AtEveryMoment, IsMoment}
use Rattle.stair_rack.specs.Offline.{IsAttached, WasPulled}
use Rattle.stair_rack.specs.Placed.{IsSlot, IsSyncOf, Placed, IsWriteOf}
use Rattle.stair_rack.specs.Sector.{Good}
use Rattle.stair_rack.specs.Stretch.{WasAnswered}
use Rattle.stair_rack.specs.declared.rack.Reply.TheVariants as reply
use Rattle.stair_rack.proofs.CrashLemmas.{Leaves-settled, Leaves-mapped}
use Rattle.stair_rack.proofs.KeptLemmas.{IsKept-mapped, IsKept-since}
use Rattle.stair_rack.proofs.MomentLemmas.{at_every_from, at_every_join, at_every_mapped, at_every_none, at_last, at_moment, moment_first, moment_later, moment_sooner, moment_wider, ran_after, ran_before, ran_weakened, ran_none}
use Rattle.stair_rack.proofs.OfflineLemmas.{and-true_left, pulls_on, reply_if-Done}
use Rattle.stair_rack.proofs.StretchLemmas.{answered_runs}
use Rattle.stair_state.specs.Reassembly.{InSlot}
use Rattle.stair_state.specs.Redoing.{IsIn, IsLeftIn, IsRedoing, Redoing, Stage, WritesNone, next, writes_in}
use Rattle.stair_state.proofs.RedoPhaseLemmas.{slot_phase, slot_unwritten}
use Rattle.stair_state.proofs.StageLemmas.{Concerns, PartIn, PartLeaves, Same, SlotIn, Written, is_in, part_ends}
use Rattle.stair_reinsert.specs.Following.{HoldsNamed, name_of}
use Rattle.stair_reinsert.proofs.MediaInStage.{stage_wherever}
use Rattle.stair_reinsert.proofs.NameLemmas.{still_attached}

pub record SinceIn (r : Redoing) (stage : Stage) (start h : List Happening) (j : ℕ) : Type 0 where
  pub from : List Happening
  pub is_one : IsMoment start from h
  pub there : ¬ WasPulled start from j
  pub each : AtEveryMoment (λ x. SlotIn r stage start x j) from h

-- so its medium is in the stage, wherever it lies
pub left_in_stage : (r : Redoing) (stage : Stage) (start h : List Happening) (j : ℕ) (image to : Image) → IsSome (slot_state start j).size
    → Ran (IsNoAttach j) start h → SinceIn r stage start h j → CrashMayLeave h image → HoldsNamed h image to (name_of start j InSlot) j
    → IsLeftIn r stage (IsSlot j) to
left_in_stage r stage start h j image to some ran since left own =
    stage_wherever r stage start since.from h j image to some since.is_one since.there ran
    (at_every_mapped {P = λ x. SlotIn r stage start x j} {Q = IsIn r stage (IsSlot j) start}
    (λ x is. is_in r stage (IsSlot j) start x (λ i at. subst (λ (n : ℕ). SlotIn r stage start x n) (sym at) is)) since.each) left own

-- FROM STRETCH TO STRETCH

pub since_now : (r : Redoing) (stage : Stage) (start : List Happening) (j : ℕ) → SlotIn r stage start start j → SinceIn r stage start start j
since_now r stage start j is = record {
  from = start;
  is_one = moment_first [] refl;
  there = λ pulled. omega (arith, pulled);
  each = at_every_none {P = λ x. SlotIn r stage start x j} start is;
}

module _ (r : Redoing) (stage : Stage) (start old : List Happening) (j : ℕ) (is : SinceIn r stage start old j) where
  pub slot_last : SlotIn r stage start old j
  slot_last = at_last {P = λ x. SlotIn r stage start x j} is.each

  -- it is so as long as the slot is in the stage
  pub since_on : (h : List Happening) → IsMoment start old h → AtEveryMoment (λ x. SlotIn r stage start x j) old h → SinceIn r stage start h j
  since_on h at more = record {
    from = is.from;
    is_one = moment_sooner is.is_one at;
    there = is.there;
    each = at_every_join {P = λ x. SlotIn r stage start x j} is.each more;
  }

  -- as through calls that write none of its sectors from the gate on
  pub since_unwritten : (h : List Happening) → IsMoment start old h → Ran (WritesNone (IsSlot j)) old h → SinceIn r stage start h j
  since_unwritten h at ran = since_on h at (slot_unwritten r stage start j (IsSlot j) refl old h ran slot_last)

-- A PHASE

-- a slot that answered Done to a sync was attached then
synced_attached : {allowed : ℕ → SlotCall → Type 0} {j : ℕ} {old new : List Happening} → Ran allowed old new
    → (told : WasAnswered j (Sync reply.Done) old new) → IsAttached (told.earlier ++ old) j
synced_attached {allowed} {j} {old} {new} ran told =
    elim (answered_runs {allowed = allowed} {j = j} {c = Sync reply.Done} ran told).1 [
      | inl act ↦ absurd act
      | inr call ↦
          and-true_left (slot_state (told.earlier ++ old) j).attached (not (stopped (told.earlier ++ old)))
          (reply_if-Done (is_ready (told.earlier ++ old) j) call.1)
    ]

-- a slot whose sync was answered then was attached at first, and wasn't pulled since
module _ (start old mid : List Happening) (upto : IsMoment start old mid) (j : ℕ) (ran : Ran (IsNoAttach j) start mid)
    (synced : WasAnswered j (Sync reply.Done) old mid) where
  stretch : Ran (IsNoAttach j) old mid
  stretch = ran_after {allowed = IsNoAttach j} ran upto

  synced_at : IsMoment old (synced.earlier ++ old) mid
  synced_at = record {
    before = synced.earlier;
    later = synced.later ++ (Called j (Sync reply.Done) ∷ []);
    from = refl;
    to = synced.is ∙ sym (append_assoc synced.later (Called j (Sync reply.Done) ∷ []) (synced.earlier ++ old));
  }

  -- so its medium wasn't pulled by then
  still : IsAttached start j × ((slot_state (synced.earlier ++ old) j).pulls ≡ (slot_state start j).pulls)
  still =
      still_attached j (ran_before ran (moment_later upto synced_at))
      (synced_attached {allowed = IsNoAttach j} stretch synced)

  pub was_attached : IsAttached start j
  was_attached = still.0

module _ (r : Redoing) (redoing : IsRedoing r) (stage : Stage) (start old mid : List Happening) (to gone : ℕ → Type 0)
    (phase : Placed (writes_in r stage) to gone old mid) (upto : IsMoment start old mid) (j : ℕ) (is : SinceIn r stage start old j) where
  each_moment : AtEveryMoment (λ x. SlotIn r stage start x j) old mid
  each_moment = slot_phase r stage start j to gone old mid redoing phase (slot_last r stage start old j is)

  -- the stage stays at each moment of its phase
  pub since_phase : (c : List Happening) → IsMoment old c mid → SinceIn r stage start c j
  since_phase c at =
      since_on r stage start old j is c
      (record { before = upto.before; later = at.before; from = upto.from; to = at.from })
      (at_every_from {P = λ x. SlotIn r stage start x j} at.before at.from
      (λ x within. at_moment {P = λ y. SlotIn r stage start y j} each_moment (moment_sooner within at)))

  -- and a slot that wasn't gone has the next one then, if its sync was answered
  module _ (ran : Ran (IsNoAttach j) start mid) (on : to j) (fine : ¬ gone j) (synced : WasAnswered j (Sync reply.Done) old mid) where
    unpulled : (slot_state old j).pulls ≡ (slot_state start j).pulls
    unpulled =
        let least = pulls_on {allowed = IsNoAttach j} j (ran_before ran upto) in
        let most = pulls_on {allowed = IsNoAttach j} j (ran_before (stretch start old mid upto j ran synced)
        (synced_at start old mid upto j ran synced)) in
        let same = (still start old mid upto j ran synced).1 in
        omega (arith, least, most, same)

    at_did : IsMoment old (phase.did j on fine).moment mid
    at_did = moment_wider {a = IsWriteOf (writes_in r stage) to} {b = no_call} phase.writes (ran_none mid) (phase.did j on fine).is_one

    part_then : (part : DevicePart) → Concerns r j part → PartIn r (next stage) start j part (phase.did j on fine).moment
    part_then part concerns =
        elim (part_ends r redoing stage j part concerns) [
          | Written bytes written has ↦
              IsKept-mapped (λ s is. subst (PartLeaves r (next stage) j part) (sym is) (Leaves-settled (Good bytes) has has))
              (IsKept-since (pulls_on {allowed = IsNoAttach j} j (ran_before ran upto))
              ((phase.did j on fine).written (sector_of r.geometry part) bytes written))
          | Same still ↦
              IsKept-mapped (λ s leaves. Leaves-mapped still still leaves)
              ((at_moment {P = λ x. SlotIn r stage start x j} each_moment at_did).each part concerns)
        ]

    syncs_write : (i : ℕ) (c : SlotCall) → IsSyncOf to i c → WritesNone (IsSlot j) i c
    syncs_write i c is = subst (WritesNone (IsSlot j) i) (sym is.is) tt

    pub since_next : SinceIn r (next stage) start mid j
    since_next = record {
      from = (phase.did j on fine).moment;
      is_one = moment_later upto at_did;
      there = λ pulled.
          let before = unpulled in
          let after = (phase.did j on fine).there in
          absurd (after (omega (arith, pulled, before)));
      each =
          slot_unwritten r (next stage) start j (IsSlot j) refl (phase.did j on fine).moment mid
          (ran_weakened {allowed = IsSyncOf to} {more = WritesNone (IsSlot j)} syncs_write
          (ran_after {allowed = IsSyncOf to} phase.syncs (phase.did j on fine).is_one))
          (record { each = part_then });
    }
