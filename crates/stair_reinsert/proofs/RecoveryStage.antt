-- In which stage of a redo a recovery finds an array whose media come back, where all live slots are attached: so are the media that hold
-- chunks, wherever they lie.
use Rattle.std.specs.Prelude.{IsSome, ◌==◌, ◌&&◌}
use Rattle.std.proofs.Common.{Bool, List, None, Option, ap, inl, inr, refl, subst, sym, ◌<◌, ◌∙◌, ◌≡◌, ◌⊎◌, arith, ℕ, true}
use Rattle.std.proofs.lemmas.Bool.{cases_lt, eqb-true, false≢true}
use Rattle.std.proofs.lemmas.List.Elements.{All-from_get_or}
use Rattle.stair_model.specs.CellSet.{CellSet, HasCell, IsCellSet, has_cell}
use Rattle.stair_model.specs.Device.{DevicePart, sector_of}
use Rattle.stair_model.specs.Geometry.{Geometry, IsWithinLimits}
use Rattle.stair_model.specs.Slots.{HasSlot, IsSlotSet, Slots, has_slot, no_slots}
use Rattle.stair_model.proofs.PlaceLaws.{length-list_of, list_of, list_of_at}
use Rattle.stair_rack.specs.Crash.{CrashMayLeave, EachImage, image_now}
use Rattle.stair_rack.specs.History.{Happening, slot_state}
use Rattle.stair_rack.specs.Media.{Image}
use Rattle.stair_rack.specs.Offline.{IsAttached}
use Rattle.stair_rack.specs.Sector.{Cell, MayLeave, Sector}
use Rattle.stair_rack.specs.Stretch.{every_slot}
use Rattle.stair_rack.specs.RackState.{RackState}
use Rattle.stair_rack.proofs.CrashLemmas.{CrashMayLeave-now, nothing_unsynced, settled_left}
use Rattle.stair_rack.proofs.MomentLemmas.{ran_none}
use Rattle.stair_rack.proofs.OfflineLemmas.{and-true_left, and-true_right}
use Rattle.stair_rack.proofs.TidyLemmas.{history_tidy}
use Rattle.stair_super.specs.Superblock.{joined_in}
use Rattle.stair_member.specs.Membership.{IsHere, Membership}
use Rattle.stair_member.proofs.CountingLemmas.{slot_in_range, slots_by, slots_by-at, slots_by-formed}
use Rattle.stair_journal.specs.Redo.{IsRedo}
use Rattle.stair_journal.specs.declared.redo.Redo.{Redo}
use Rattle.stair_journal.proofs.ReadGateLemmas.{has_cell-past}
use Rattle.stair_state.specs.Blocks.{Codewords}
use Rattle.stair_state.specs.Forms.{HasGate, RepresentsBy}
use Rattle.stair_state.specs.Holding.{IsCurrentMedium}
use Rattle.stair_state.specs.Reassembly.{InSlot, IsMediumOf, IsReassembly, Location}
use Rattle.stair_state.specs.Redoing.{AtRest, AttachesNone, IsLeftIn, IsRedoing, Placing, Redoing, Stage, Uncommitted}
use Rattle.stair_state.specs.Represents.{Encodings}
use Rattle.stair_state.specs.State.{Change, Content}
use Rattle.stair_state.specs.Tolerance.{IsTolerated, IsToleratedAlone}
use Rattle.stair_state.proofs.HoldingLemmas.{live_current_medium}
use Rattle.stair_state.proofs.OutsideLemmas.{tolerated_alone}
use Rattle.stair_state.proofs.ReassembledLemmas.{IsBorneFrom, borne_of, from_slot}
use Rattle.stair_state.proofs.RedoFormLemmas.{started}
use Rattle.stair_state.proofs.StageLemmas.{Concerns, PartHas, SlotIn, is_in, is_left_in, left_in, part_damage, slot_in}
use Rattle.stair_state.proofs.ToleranceLemmas.{journal_gate}
use Rattle.stair_invariant.specs.Effects.{AreLive, snapshot}
use Rattle.stair_invariant.specs.Opening.{After, AllAreClosed, AreBetween, GatesTell, OneIsOpen, Before}
use Rattle.stair_invariant.specs.Returning.{current_media_of}
use Rattle.stair_invariant.specs.Session.{IsLiveIn}
use Rattle.stair_invariant.specs.UnderWay.{IsInUse}
use Rattle.stair_invariant.proofs.KnownGates.{gates_tell}
use Rattle.stair_invariant.proofs.StageFoundLemmas.{IsLeftSo, first_among, stage_told}
use Rattle.stair_reinsert.specs.Behind.{ByMember, HasCurrentMedium, HasNumber}
use Rattle.stair_reinsert.specs.Following.{name_of}
use Rattle.stair_reinsert.proofs.RecoveryFence.{AreSynced, IsUntouched}
use Rattle.stair_reinsert.proofs.RedoPhase.{IsAmidAny, SparesGate}
use Rattle.stair_reinsert.proofs.RedoStart.{StartsRedo, in_redo, redo_by, RedoAny}
use Rattle.stair_reinsert.proofs.SessionBehind.{left_reassembled}
use Rattle.stair_reinsert.proofs.StageSince.{since_now}
use Rattle.stair_reinsert.proofs.StoodSince.{IsHeldHere, held_here, current_media_here}

-- A REDO OF ONE CELL, which represents none

only_first : ℕ → ℕ → Bool
only_first i j = (i == 0) && (j == 0)

row_first : ℕ → Slots
row_first i = slots_by (only_first i)

abbrev first_cells : CellSet
first_cells = record { rows = list_of 32 row_first }

pub first_redo : Redo
first_redo = record { stripe = 0; cells = first_cells }

row_is : (i j : ℕ) → i < 32 → has_cell first_cells i j ≡ has_slot (slots_by (only_first i)) j
unfolding row_first
row_is i j row = ap (λ (s : Slots). has_slot s j) (list_of_at 32 row_first i no_slots row)

first_formed : IsCellSet first_cells
unfolding row_first
first_formed = record {
  count = length-list_of 32 row_first;
  slots = All-from_get_or IsSlotSet (list_of 32 row_first) no_slots
      (λ i below.
      let within : i < 32 = omega (arith, length-list_of 32 row_first) in
      subst IsSlotSet (sym (list_of_at 32 row_first i no_slots within)) (slots_by-formed (only_first i)));
}

only_zero : (i j : ℕ) → only_first i j ≡ true → (i ≡ 0) × (j ≡ 0)
unfolding only_first
only_zero i j is = (eqb-true i 0 (and-true_left (i == 0) (j == 0) is), eqb-true j 0 (and-true_right (i == 0) (j == 0) is))

has_zero : (i j : ℕ) → HasCell first_cells i j → (i ≡ 0) × (j ≡ 0)
has_zero i j has =
    elim (cases_lt i 32) [
      | inr past ↦ absurd (false≢true (sym (has_cell-past first_cells i j first_formed past) ∙ has))
      | inl row ↦
          let in_row : has_slot (slots_by (only_first i)) j ≡ true = sym (row_is i j row) ∙ has in
          let slot : j < 32 = slot_in_range (slots_by (only_first i)) j (slots_by-formed (only_first i)) in_row in
          only_zero i j (sym (slots_by-at (only_first i) j slot) ∙ in_row)
    ]

pub first_is_redo : (g : Geometry) → IsWithinLimits g → IsRedo g first_redo
unfolding first_redo only_first
first_is_redo g limits = record {
  stripe_in = let least = limits.size.0 in omega (arith, least);
  formed = first_formed;
  inside = λ i j has.
      let at = has_zero i j has in
      let row = at.0 in let slot = at.1 in
      let rows = limits.rows.0 in
      let devices = limits.devices.0 in (omega (arith, row, rows), omega (arith, slot, devices));
  row = 0;
  slot = 0;
  some = row_is 0 0 (omega arith) ∙ slots_by-at (only_first 0) 0 (omega arith);
}

-- THE STAGE

-- the slots are in this stage of this redo, which leads from the stripes before or after the change in doubt to one of the two
pub record IsStaged (m : Membership) (old new : Codewords) (live : ℕ → Type 0) (image : Image) : Type 0 where
  pub first : Codewords
  pub last : Codewords
  pub redo : Redo
  pub stage : Stage
  pub redoing : IsRedoing (redo_by m first last redo)
  pub begun : (stage ≡ AtRest) ⊎ ((stage ≡ Uncommitted) ⊎ (stage ≡ Placing))
  pub words : AreBetween old new first last
  pub left : IsLeftIn (redo_by m first last redo) stage live image

staged_of : (m : Membership) → IsWithinLimits m.array.geometry → (old new : Codewords) (live : ℕ → Type 0) (image : Image)
    → IsLeftSo m.array.geometry old new live image → IsStaged m old new live image
staged_of m limits old new live image so = by so.begun
  where
    same : so.redoing ≡ redo_by m so.redoing.old so.redoing.new so.redoing.redo
    same = λ i. record { geometry = so.geometry i; redo = so.redoing.redo; old = so.redoing.old; new = so.redoing.new }

    left_own : IsLeftIn (redo_by m so.redoing.old so.redoing.new so.redoing.redo) so.stage live image
    left_own = subst (λ (r : Redoing). IsLeftIn r so.stage live image) same so.left

    rests : AreBetween old new so.redoing.old so.redoing.old
    rests = elim (first_among so.words) [ inl was ↦ Before was was | inr was ↦ After was was ]

    by : (so.stage ≡ AtRest) ⊎ (IsRedoing so.redoing × ((so.stage ≡ Uncommitted) ⊎ (so.stage ≡ Placing))) → IsStaged m old new live image
    by (inl rest) = record {
      first = so.redoing.old;
      last = so.redoing.old;
      redo = first_redo;
      stage = AtRest;
      redoing = record { limits = limits; formed = first_is_redo m.array.geometry limits; same = λ t i j t_in i_in j_in. inr refl };
      begun = inl refl;
      words = rests;
      left =
          at_rest
          (subst (λ (x : Stage). IsLeftIn (redo_by m so.redoing.old so.redoing.new so.redoing.redo) x live image) rest left_own);
    }
      where
        at_rest : IsLeftIn (redo_by m so.redoing.old so.redoing.new so.redoing.redo) AtRest live image
            → IsLeftIn (redo_by m so.redoing.old so.redoing.old first_redo) AtRest live image
        at_rest is = record { gates = is.gates; bodies = λ j i c on has. tt; chunks = is.chunks }
    by (inr going) = record {
      first = so.redoing.old;
      last = so.redoing.new;
      redo = so.redoing.redo;
      stage = so.stage;
      redoing = subst IsRedoing same going.0;
      begun = inr going.1;
      words = so.words;
      left = left_own;
    }

-- WHERE ALL LIVE SLOTS ARE ATTACHED, and nothing of them is unsynced

module _ (before : List Happening) (kept : Content) (change : Option Change) (m : Membership) (told : RackState)
    (is : IsUntouched before kept change m told.history) (settled : AreSynced m told.history) (live : Slots) (are : AreLive m live)
    (all : (j : ℕ) → HasSlot live j → IsAttached told.history j) (tolerated : IsTolerated m.array.geometry before told.history) where
  abbrev h : List Happening
  h = told.history

  abbrev g : Geometry
  g = m.array.geometry

  abbrev pub both : Encodings (in_redo m kept change)
  both = is.stands.is.encodings

  limits : IsWithinLimits m.array.geometry
  limits = is.amid.array.member.array.limits

  here : (j : ℕ) → HasSlot live j → IsHere m j
  here j has = let on = (are.are j).0 has in record { below = on.below; why = inl on.why }

  itself : IsReassembly (image_now h) (image_now h)
  itself = left_reassembled h is.history (image_now h) (CrashMayLeave-now h)

  pub has_current_medium : (image : Image) (j : ℕ) → HasSlot live j → HasCurrentMedium m.array.geometry (current_media_of m) m h (image j) (image j) j
  has_current_medium image j has = record {
    joined = joined_in m.array j;
    current_medium = current_media_here m j ((are.are j).0 has).below ((are.are j).0 has).why;
    number = HasNumber.InUse (here j has) (all j has) refl refl (λ k. inl refl);
  }

  -- one of them has a gate that isn't lost
  pub gate_now : HasGate (HasSlot live) (image_now h)
  gate_now = record {
    slot = alone.journal_slot;
    among = (are.are alone.journal_slot).1 (record { below = held.below; why = held.here });
    kept = journal_gate (λ j. (image_now h j).size ≡ None) g (image_now h) alone.current alone.journal_slot alone.journal;
  }
    where
      alone : IsToleratedAlone m.array.geometry (image_now h)
      alone = tolerated_alone m.array.geometry before h (image_now h) tolerated (CrashMayLeave-now h)

      current_medium : IsCurrentMedium m.array.geometry (current_media_of m) alone.journal_slot ((image_now h alone.journal_slot).cell)
      current_medium =
          live_current_medium (in_redo m kept change) is.stands.is.encodings (current_media_of m) m.array.epoch (image_now h)
          (is.stands.is.each (image_now h) (CrashMayLeave-now h)) (image_now h) itself alone alone.current alone.is_current alone.journal_slot
          alone.journal.serves.live

      held : IsHeldHere m alone.journal_slot current_medium.super.joined
      held = held_here m alone.journal_slot current_medium.super.joined current_medium.joined

  form_now : RepresentsBy m.array.geometry is.stands.is.encodings.old is.stands.is.encodings.new (HasSlot live) (image_now h)
  form_now =
      is.stands.behind.forms (image_now h) (CrashMayLeave-now h) (image_now h) live itself (λ j has. has_current_medium (image_now h) j has) gate_now

  tells : GatesTell m.array.geometry (HasSlot live) (image_now h)
  tells = by (gates_tell m.array.geometry limits m h (image_now h))
    where
      by : GatesTell m.array.geometry (IsInUse m h) (image_now h) → GatesTell m.array.geometry (HasSlot live) (image_now h)
      by (OneIsOpen j redo used opened) = OneIsOpen j redo ((are.are j).1 used.0) opened
      by (AllAreClosed closed) = AllAreClosed (λ j has. closed j ((are.are j).0 has, all j has))

  pub staged : IsStaged m is.stands.is.encodings.old is.stands.is.encodings.new (HasSlot live) (image_now h)
  staged =
      staged_of m limits is.stands.is.encodings.old is.stands.is.encodings.new (HasSlot live) (image_now h)
      (stage_told m.array.geometry limits is.stands.is.encodings.old is.stands.is.encodings.new (HasSlot live) (image_now h) form_now tells)

  abbrev r : Redoing
  r = redo_by m staged.first staged.last staged.redo

  -- so they are in whatever a crash leaves
  left_base : (image : Image) → CrashMayLeave h image → (j k : ℕ) → HasSlot live j → (image j).cell k ≡ ((slot_state h j).sector k).base
  left_base image left j k has =
      settled_left ((slot_state h j).sector k).base ((image j).cell k)
      (subst (λ (x : Sector). MayLeave x ((image j).cell k)) (nothing_unsynced ((slot_state h j).sector k) (settled j k (here j has) (all j has)))
      ((left j).each k))

  pub one_image : (image : Image) → CrashMayLeave h image → (j k : ℕ) → HasSlot live j → (image_now h j).cell k ≡ (image j).cell k
  one_image image left j k has = left_base (image_now h) (CrashMayLeave-now h) j k has ∙ sym (left_base image left j k has)

  each_staged : EachImage (IsLeftIn (redo_by m staged.first staged.last staged.redo) staged.stage (HasSlot live)) h
  each_staged image left =
      is_left_in (redo_by m staged.first staged.last staged.redo) staged.stage (HasSlot live) image
      (λ j has part concerns.
      subst (PartHas (redo_by m staged.first staged.last staged.redo) staged.stage j part)
      (one_image image left j (sector_of m.array.geometry part) has)
      (left_in (redo_by m staged.first staged.last staged.redo) staged.stage (HasSlot live) (image_now h) staged.left j has part concerns))

  some_size : (j : ℕ) → HasSlot live j → IsSome (slot_state h j).size
  some_size j has = (history_tidy is.history).attached j (all j has)

  in_stage_now : (j : ℕ) → HasSlot live j → SlotIn (redo_by m staged.first staged.last staged.redo) staged.stage h h j
  in_stage_now j has =
      slot_in (redo_by m staged.first staged.last staged.redo) staged.stage (HasSlot live) h h
      (started (redo_by m staged.first staged.last staged.redo) staged.stage (HasSlot live) h some_size each_staged) j has

  -- A MEDIUM THAT HOLDS A CHUNK lies in its slot
  media_left : (image : Image) → CrashMayLeave h image → (to : Image) → IsReassembly image to → (j : ℕ)
      → IsCurrentMedium m.array.geometry (current_media_of m) j ((to j).cell) → (part : DevicePart)
      → Concerns (redo_by m staged.first staged.last staged.redo) j part
      → PartHas (redo_by m staged.first staged.last staged.redo) staged.stage j part ((to j).cell (sector_of m.array.geometry part))
  media_left image left to reassembly j current_medium part concerns =
      elim (came.copies (sector_of m.array.geometry part)) [
        | inr harmed ↦
            subst (PartHas (redo_by m staged.first staged.last staged.redo) staged.stage j part) (sym harmed)
            (part_damage (redo_by m staged.first staged.last staged.redo) staged.stage j part)
        | inl same ↦
            subst (PartHas (redo_by m staged.first staged.last staged.redo) staged.stage j part)
            (sym (same ∙ ap (λ (c : ℕ → Cell). c (sector_of m.array.geometry part)) (sym inside.1)))
            (left_in (redo_by m staged.first staged.last staged.redo) staged.stage (HasSlot live) image (each_staged image left) j on part concerns)
      ]
    where
      held : IsHeldHere m j current_medium.super.joined
      held = held_here m j current_medium.super.joined current_medium.joined

      on : HasSlot live j
      on = (are.are j).1 (record { below = held.below; why = held.here })

      came : IsBorneFrom m.array.geometry image to j current_medium.super
      came = from_slot m.array.geometry image to j current_medium.super (reassembly j) current_medium.bears

      in_slot : came.place ≡ InSlot
      in_slot = (is.known image left).sole j came.place current_medium.super (here j on) (all j on) (borne_of came) held.number

      inside : IsMediumOf (image j) InSlot came.medium
      inside = subst (λ (p : Location). IsMediumOf (image j) p came.medium) in_slot came.is_one

  pub recovery_starts : StartsRedo m staged.first staged.last staged.redo kept change is.stands.is.encodings staged.stage h
  recovery_starts = record {
    history = is.history;
    steady = is.stands.is.steady;
    marks = is.amid.array.marks;
    each = λ image left. is.stands.is.each image left;
    left = λ image left to reassembly. media_left image left to reassembly;
    shut = λ image left to reassembly j b marked bears joined redo opened.
        is.stands.behind.rebuilding image left to j b.joined redo reassembly (ByMember marked (sym joined)) (HasNumber.Bearing b bears refl) opened;
    sole = λ j p x here_j on there. (is.known (image_now h) (CrashMayLeave-now h)).sole j p x here_j on there;
    in_stage = λ j on_live on. in_stage_now j ((are.are j).1 on_live);
    gate_shut = is.amid.shut;
    large = λ j on_live on.
        is.stands.behind.full (image_now h) (CrashMayLeave-now h) (image_now h) j itself (has_current_medium (image_now h) j ((are.are j).1 on_live));
  }

  abbrev pub recovery_doing : RedoAny kept change
  recovery_doing = record {
    m = m;
    words = staged.first;
    new = staged.last;
    redo = staged.redo;
    both = is.stands.is.encodings;
    stage_first = staged.stage;
    start = told.history;
    starts = recovery_starts;
    between = staged.words;
    redoing = staged.redoing;
    says = is.says;
  }

  -- AT THAT POINT the recovery is in the midst of the redo
  pub recovery_amid : IsAmidAny before recovery_doing staged.stage None None (snapshot m told)
  recovery_amid = record {
    amid = record {
      amid = is.amid;
      geometry = refl;
      ran = ran_none {allowed = AttachesNone every_slot} h;
      large = recovery_starts.large;
      is_in =
          is_in (redo_by m staged.first staged.last staged.redo) staged.stage (λ j. IsLiveIn m j × IsAttached h j) h h
          (λ j both. in_stage_now j ((are.are j).1 both.0));
      rebuilt = λ rebuild never. absurd (cc);
    };
    history = is.history;
    stays = record { rules = is.amid.array.member; geometry = refl; frozen = refl; label = refl; seats = λ j. inl refl };
    known = is.known;
    consistent = is.stands.is;
    latest = is.latest;
    own = is.own;
    named = λ j q x here_j on there joined. ap (λ (l : Location). name_of h j l) (recovery_starts.sole j q x here_j on there joined);
    live = λ j on_live. (on_live, refl);
    rebuilt = λ j rebuilt. (rebuilt, refl);
    ungated = λ j rebuilt. ran_none {allowed = SparesGate j} h;
    since = λ j on_live on. since_now (redo_by m staged.first staged.last staged.redo) staged.stage h j (in_stage_now j ((are.are j).1 on_live));
    used = inl refl;
  }
