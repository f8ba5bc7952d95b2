-- A redo of an array whose media come back begins: what media are then, and what those of slots that aren't attached are later.
use Rattle.std.proofs.Common.{◌≡◌, ℕ, List, inl, inr, refl, sym, subst, Option, None, ◌<◌, ◌⊎◌, ◌∙◌}
use Rattle.stair_model.specs.Device.{DevicePart, cell_sector, gate_sector, sector_of}
use Rattle.stair_model.specs.Stripe.{cell}
use Rattle.stair_rack.specs.Answers.{IsNoAttach, Ran, IsHistory}
use Rattle.stair_rack.specs.Crash.{CrashMayLeave, image_now, EachImage}
use Rattle.stair_rack.specs.History.{Happening, slot_state}
use Rattle.stair_rack.specs.Media.{Image, SlotImage}
use Rattle.stair_rack.specs.Offline.{IsAttached}
use Rattle.stair_rack.specs.Placed.{IsSlot}
use Rattle.stair_rack.proofs.CrashLemmas.{CrashMayLeave-now}
use Rattle.stair_super.specs.Superblock.{joined_in, mark_in, Superblock}
use Rattle.stair_super.specs.declared.mark.Mark.TheVariants as mark
use Rattle.stair_member.specs.Aims.{mark_for}
use Rattle.stair_member.specs.Membership.{Membership, why_of, IsHere}
use Rattle.stair_member.specs.Reserve.{Bears}
use Rattle.stair_member.specs.declared.aim.EpochChange.TheVariants.{Fence}
use Rattle.stair_journal.specs.Body.{IsOrDamaged}
use Rattle.stair_journal.specs.Gate.{ReadsClosed}
use Rattle.stair_journal.specs.declared.redo.Redo.{Redo}
use Rattle.stair_state.specs.Blocks.{Codewords}
use Rattle.stair_state.specs.Forms.{IdleOld}
use Rattle.stair_state.specs.Holding.{IsConsistentBy, IsCurrentMedium}
use Rattle.stair_state.specs.Reassembly.{IsReassembledSlot, IsReassembly, Location, IsBorne, InSlot}
use Rattle.stair_state.specs.Recovering.{IsShut}
use Rattle.stair_state.specs.Redoing.{AtRest, Redoing, Stage, IsRedoing, new_in, old_in, Done, InPlace, Placing, Uncommitted}
use Rattle.stair_state.specs.Represents.{Encodings, IsLargeEnough, AreSteady}
use Rattle.stair_state.specs.State.{Change, Content, State, changed_if}
use Rattle.stair_state.specs.Tolerance.{IsTolerated}
use Rattle.stair_state.proofs.ExchangedLemmas.{slot_cases, slot_here, slot_left, with_slot}
use Rattle.stair_state.proofs.StageLemmas.{Concerns, PartHas, slot_in, SlotIn}
use Rattle.stair_invariant.specs.InSession.{state_with}
use Rattle.stair_invariant.specs.Returning.{AnyReturns, current_media_of}
use Rattle.stair_invariant.specs.Session.{ArrayState, IsLiveIn, IsRebuiltIn}
use Rattle.stair_invariant.proofs.Serving.{IsServing}
use Rattle.stair_reinsert.specs.Behind.{Bearing, ByMember}
use Rattle.stair_reinsert.proofs.IdleSlots.{WasReassembled, idle_slot}
use Rattle.stair_reinsert.proofs.SessionBehind.{current_medium_chunk, left_reassembled, session_behind}
use Rattle.stair_invariant.specs.Opening.{After, AreBetween, Before, StaysArray}
use Rattle.stair_invariant.proofs.StageFoundLemmas.{first_among, last_among}
use Rattle.stair_reinsert.specs.Beginning.{SaysContent}

-- the state in the midst of a redo: its change is in doubt, and seats aren't told
abbrev pub in_redo : Membership → Content → Option Change → State
in_redo m kept change = record { geometry = m.array.geometry; content = kept; in_doubt = change; seats = None }

-- a redo of the member's array, from these stripes to those
abbrev pub redo_by : Membership → Codewords → Codewords → Redo → Redoing
redo_by m words new redo = record { geometry = m.array.geometry; redo = redo; old = words; new = new }

-- At `start` a member's session begins a redo, or goes on with one, in this stage: so are the media that hold chunks, wherever they lie,
-- and the slots that are attached.
pub record StartsRedo (m : Membership) (words new : Codewords) (redo : Redo) (kept : Content) (change : Option Change)
    (both : Encodings (in_redo m kept change)) (stage : Stage) (start : List Happening) : Type 0 where
  pub history : IsHistory start
  pub steady : AreSteady m.array.geometry start
  pub marks : (j : ℕ) → j < m.array.geometry.n → mark_in m.array j ≡ mark_for (why_of m j)
  pub each : EachImage (IsConsistentBy (in_redo m kept change) both (current_media_of m) m.array.epoch) start
  pub left : EachImage (λ image. (to : Image) → IsReassembly image to → (j : ℕ) → IsCurrentMedium m.array.geometry (current_media_of m) j ((to j).cell)
      → (part : DevicePart) → Concerns (redo_by m words new redo) j part
      → PartHas (redo_by m words new redo) stage j part ((to j).cell (sector_of m.array.geometry part))) start
  -- no gate is open on a medium that is rebuilt
  pub shut : EachImage (λ image. (to : Image) → IsReassembly image to → (j : ℕ) (b : Superblock) → mark_in m.array j ≡ mark.Rebuilding
      → Bears m.array.geometry j ((to j).cell) b → b.joined ≡ joined_in m.array j → ReadsClosed m.array.geometry ((to j).cell gate_sector)) start
  -- the medium in a slot that takes part and is attached is the one that the member means
  pub sole : (j : ℕ) (p : Location) (x : Superblock) → IsHere m j → IsAttached start j → IsBorne m.array.geometry (image_now start) j p x
      → x.joined ≡ joined_in m.array j → p ≡ InSlot
  pub in_stage : (j : ℕ) → IsLiveIn m j → IsAttached start j → SlotIn (redo_by m words new redo) stage start start j
  pub gate_shut : (j : ℕ) → IsRebuiltIn m j → IsAttached start j → IsShut m.array.geometry start start j
  pub large : (j : ℕ) → IsLiveIn m j → IsAttached start j → IsLargeEnough m.array.geometry (slot_state start j).size

-- THE STRIPES of a stage

pub between_stages : (old new : Codewords) (r : Redoing) → AreBetween old new r.old r.new → (stage : Stage)
    → AreBetween old new (old_in r stage) (new_in r stage)
between_stages old new r words stage = by stage
  where
    firsts : AreBetween old new r.old r.old
    firsts = elim (first_among words) [ inl was ↦ Before was was | inr was ↦ After was was ]

    lasts : AreBetween old new r.new r.new
    lasts = elim (last_among words) [ inl was ↦ Before was was | inr was ↦ After was was ]

    by : (s : Stage) → AreBetween old new (old_in r s) (new_in r s)
    by AtRest = firsts
    by Uncommitted = words
    by Placing = lasts
    by InPlace = lasts
    by Done = lasts

-- what a member's epoch says of the content is said by one that stays
pub says_on : (kept : Content) (change : Option Change) (m : Membership) → SaysContent (in_redo m kept change) Fence m → (p : Membership)
    → StaysArray m p → SaysContent (in_redo m kept change) Fence p
says_on kept change m says p stays = record {
  frozen = frozen_so says.frozen;
  label = label_so says.label;
  frozen_new = frozen_so says.frozen;
  label_new = label_so says.label;
}
  where
    frozen_so : (m.array.frozen ≡ kept.frozen) ⊎ (m.array.frozen ≡ (changed_if change kept).frozen)
        → (p.array.frozen ≡ kept.frozen) ⊎ (p.array.frozen ≡ (changed_if change kept).frozen)
    frozen_so (inl is) = inl (stays.frozen ∙ is)
    frozen_so (inr is) = inr (stays.frozen ∙ is)

    label_so : (m.array.label ≡ kept.label) ⊎ (m.array.label ≡ (changed_if change kept).label)
        → (p.array.label ≡ kept.label) ⊎ (p.array.label ≡ (changed_if change kept).label)
    label_so (inl is) = inl (stays.label ∙ is)
    label_so (inr is) = inr (stays.label ∙ is)

-- A redo of a member's array, from these stripes to those, with this change in doubt meanwhile: a session begins it at `start`, or goes on with
-- it, in this stage.
pub record RedoAny (kept : Content) (change : Option Change) : Type 0 where
  pub m : Membership
  pub words : Codewords
  pub new : Codewords
  pub redo : Redo
  pub both : Encodings (in_redo m kept change)
  pub stage_first : Stage
  pub start : List Happening
  pub starts : StartsRedo m words new redo kept change both stage_first start
  pub between : AreBetween both.old both.new words new
  pub redoing : IsRedoing (redo_by m words new redo)
  pub says : SaysContent (in_redo m kept change) Fence m

module _ {kept : Content} {change : Option Change} (doing : RedoAny kept change) where
  abbrev pub redo_of : Redoing
  redo_of = redo_by doing.m doing.words doing.new doing.redo

  -- in each stage its stripes are those of the change in doubt
  pub between_all : (stage : Stage) → AreBetween doing.both.old doing.both.new (old_in redo_of stage) (new_in redo_of stage)
  between_all = between_stages doing.both.old doing.both.new redo_of doing.between

  -- and what the member's epoch says of the content one says that stays
  pub says_still : (p : Membership) → StaysArray doing.m p → SaysContent (in_redo doing.m kept change) Fence p
  says_still = says_on kept change doing.m doing.says

-- LATER, of a slot that wasn't attached, and that no call attached

module _ (m : Membership) (words new : Codewords) (redo : Redo) (kept : Content) (change : Option Change) (both : Encodings (in_redo m kept change))
    (stage : Stage) (start : List Happening) (starts : StartsRedo m words new redo kept change both stage start) (h : List Happening)
    (ran : (j : ℕ) → Ran (IsNoAttach j) start h) (image : Image) (left : CrashMayLeave h image) (j : ℕ) (off : ¬ IsAttached start j) (to : SlotImage)
    (reassembled : IsReassembledSlot (image j) to) where
  abbrev first : WasReassembled start h ran image left j off to
  first = idle_slot start h ran image left j off to reassembled

  abbrev then : Image
  then = with_slot (image_now start) j first.was

  then_left : CrashMayLeave start then
  then_left = slot_left start (image_now start) j first.was (CrashMayLeave-now start) first.may

  abbrev whole : Image
  whole = with_slot then j to

  whole_reassembled : IsReassembly then whole
  whole_reassembled i =
      slot_cases (λ n slot. IsReassembledSlot (then n) slot) then j to i
      (subst (λ (slot : SlotImage). IsReassembledSlot slot to) (sym (slot_here (image_now start) j first.was)) first.slot)
      (λ other. left_reassembled start starts.history then then_left i)

  here : whole j ≡ to
  here = slot_here then j to

  -- its holder is in the stage in which the redo began,
  pub idle_left : IsCurrentMedium m.array.geometry (current_media_of m) j to.cell → (part : DevicePart) → Concerns (redo_by m words new redo) j part
      → PartHas (redo_by m words new redo) stage j part (to.cell (sector_of m.array.geometry part))
  idle_left current_medium part concerns =
      subst (λ (slot : SlotImage). PartHas (redo_by m words new redo) stage j part (slot.cell (sector_of m.array.geometry part))) here
      (starts.left then then_left whole whole_reassembled j
      (subst (λ (slot : SlotImage). IsCurrentMedium m.array.geometry (current_media_of m) j slot.cell) (sym here) current_medium) part concerns)

  -- and as large as it was,
  pub idle_full : IsCurrentMedium m.array.geometry (current_media_of m) j to.cell → IsLargeEnough m.array.geometry to.size
  idle_full current_medium =
      subst (λ (slot : SlotImage). IsLargeEnough m.array.geometry slot.size) here
      ((starts.each then then_left).full whole j whole_reassembled
      (subst (λ (slot : SlotImage). IsCurrentMedium m.array.geometry (current_media_of m) j slot.cell) (sym here) current_medium))

  -- and where the slot is rebuilt the gate of its medium reads closed
  pub idle_shut : mark_in m.array j ≡ mark.Rebuilding → (b : Superblock) → Bears m.array.geometry j to.cell b → b.joined ≡ joined_in m.array j
      → ReadsClosed m.array.geometry (to.cell gate_sector)
  idle_shut marked b bears joined =
      subst (λ (slot : SlotImage). ReadsClosed m.array.geometry (slot.cell gate_sector)) here
      (starts.shut then then_left whole whole_reassembled j b marked
      (subst (λ (slot : SlotImage). Bears m.array.geometry j slot.cell b) (sym here) bears) joined)

-- AT REST, where the array serves

module _ (before : List Happening) (a : ArrayState) (words new : Codewords) (kept : Content) (change : Option Change) (redo : Redo)
    (start : List Happening) (serving : IsServing AnyReturns before a words kept start) (tolerated : IsTolerated a.member.array.geometry before start)
    (both : Encodings (in_redo a.member kept change)) (olds : both.old ≡ words) where
  rest_left : (image : Image) → CrashMayLeave start image → (to : Image) → IsReassembly image to → (j : ℕ)
      → IsCurrentMedium a.member.array.geometry (current_media_of a.member) j ((to j).cell) → (part : DevicePart)
      → Concerns (redo_by a.member words new redo) j part
      → PartHas (redo_by a.member words new redo) AtRest j part ((to j).cell (sector_of a.member.array.geometry part))
  rest_left image left to reassembly j current_medium (DevicePart.Superblock place) never = absurd never
  rest_left image left to reassembly j current_medium DevicePart.Gate concerned = serving.knows.closed image left to j reassembly current_medium
  rest_left image left to reassembly j current_medium (DevicePart.Body i c) has = tt
  rest_left image left to reassembly j current_medium (DevicePart.Chunk t i) within =
      current_medium_chunk kept None (state_with a.member kept None a.member.array).seats before a words start serving.history serving.is_open serving.knows
      tolerated serving.of.encodings refl image left to reassembly j current_medium t i within.1 within.2

  -- the rack is consistent with the change in doubt, whatever the new stripes are
  starts_consistent : (image : Image) → CrashMayLeave start image
      → IsConsistentBy (in_redo a.member kept change) both (current_media_of a.member) a.member.array.epoch image
  starts_consistent image left =
      let it = serving.knows.is.each image left in
      record {
        overtaken = it.overtaken;
        reserved = it.reserved;
        live = it.live;
        rebuilt = it.rebuilt;
        frozen = λ x there. elim (it.frozen x there) [ inl same ↦ inl same | inr same ↦ inl same ];
        label = λ x there. elim (it.label x there) [ inl same ↦ inl same | inr same ↦ inl same ];
        forms = λ to some reassembly have gate. record {
          one_redo = λ i j x y on also opened opened'.
              absurd (serving.knows.closed image left to i reassembly (have i on) x opened);
          form = IdleOld (record {
            encodes = λ t i j t_in i_in j_in on.
                subst (λ (w : Codewords). IsOrDamaged (cell (w t) i j) ((to j).cell (cell_sector a.member.array.geometry t i))) (sym olds)
                (rest_left image left to reassembly j (have j on) (DevicePart.Chunk t i) (j_in, t_in, i_in));
            body = λ j x on opened. absurd (serving.knows.closed image left to j reassembly (have j on) x opened);
          });
        };
        full = it.full;
        rebuilding = it.rebuilding;
        one_list = it.one_list;
        own_joined = it.own_joined;
      }

  -- the gate of a medium that is rebuilt
  rest_shut : (image : Image) → CrashMayLeave start image → (to : Image) → IsReassembly image to → (j : ℕ) (b : Superblock)
      → mark_in a.member.array j ≡ mark.Rebuilding → Bears a.member.array.geometry j ((to j).cell) b → b.joined ≡ joined_in a.member.array j
      → ReadsClosed a.member.array.geometry ((to j).cell gate_sector)
  rest_shut image left to reassembly j b marked bears joined x opened =
      (session_behind kept None (state_with a.member kept None a.member.array).seats before a words start serving.history serving.is_open serving.knows
      tolerated serving.of.encodings refl Fence refl).rebuilding image left to j b.joined x reassembly (ByMember marked (sym joined))
      (Bearing b bears refl) opened

  pub serving_starts : StartsRedo a.member words new redo kept change both AtRest start
  serving_starts = record {
    history = serving.history;
    steady = serving.knows.is.steady;
    marks = serving.is_open.array.marks;
    each = λ image left. starts_consistent image left;
    left = λ image left to reassembly. rest_left image left to reassembly;
    shut = λ image left to reassembly. rest_shut image left to reassembly;
    sole = λ j p x here on there. (serving.knows.known (image_now start) (CrashMayLeave-now start)).sole j p x here on there;
    in_stage = λ j live on.
        slot_in (redo_by a.member words new redo) AtRest (IsSlot j) start start ((serving.is_open.live j live on).rests redo new) j refl;
    gate_shut = serving.is_open.shut;
    large = λ j live on. (serving.is_open.live j live on).large;
  }
