-- A redo of an array whose media come back is in a stage: what is known then, and at each moment of the stage's phase.
use Rattle.std.specs.Prelude.{IsSome}
use Rattle.std.proofs.Common.{List, None, Option, Some, ap, inl, inr, refl, subst, sym, ◌<◌, ◌∙◌, ◌≡◌, ◌≢◌, ◌≤◌, ◌⊎◌, ℕ, arith, true≢false}
use Rattle.std.proofs.lemmas.Bool.{cases_Bool}
use Rattle.stair_model.specs.Device.{DevicePart, gate_sector, sector_of}
use Rattle.stair_model.specs.Geometry.{Geometry}
use Rattle.stair_model.specs.Slots.{HasSlot, Slots}
use Rattle.stair_rack.specs.Answers.{IsHistory, IsNoAttach, Ran}
use Rattle.stair_rack.specs.Crash.{CrashMayLeave, EachImage, image_now}
use Rattle.stair_rack.specs.History.{Happening, SlotCall, Write, slot_state}
use Rattle.stair_rack.specs.Media.{Image}
use Rattle.stair_rack.specs.Moments.{AtEveryMoment}
use Rattle.stair_rack.specs.Offline.{IsAttached}
use Rattle.stair_rack.specs.Placed.{IsSlot}
use Rattle.stair_rack.specs.Sector.{Cell}
use Rattle.stair_rack.specs.Stretch.{every_slot}
use Rattle.stair_rack.specs.declared.rack.Reply.{Reply}
use Rattle.stair_rack.specs.declared.rack.Reply.TheVariants as reply
use Rattle.stair_rack.specs.RackState.{RackState}
use Rattle.stair_rack.proofs.CrashLemmas.{CrashMayLeave-now, leaves_throughout}
use Rattle.stair_rack.proofs.MomentLemmas.{ran_join, ran_weakened}
use Rattle.stair_rack.proofs.TidyLemmas.{history_on, history_tidy}
use Rattle.stair_super.specs.Superblock.{Superblock, joined_at, joined_in, mark_at, mark_in}
use Rattle.stair_super.specs.declared.configuration.Configuration.{Configuration}
use Rattle.stair_super.specs.declared.mark.Mark.TheVariants as mark
use Rattle.stair_member.specs.declared.why.Why.TheVariants as why
use Rattle.stair_member.specs.Aims.{mark_for}
use Rattle.stair_member.specs.Membership.{IsHere, why_of}
use Rattle.stair_member.specs.Reserve.{Bears}
use Rattle.stair_member.specs.declared.fault.FenceFault.{FenceFault}
use Rattle.stair_member.proofs.EditionLemmas.{bears_below}
use Rattle.stair_journal.specs.Gate.{ReadsClosed}
use Rattle.stair_journal.specs.declared.redo.Redo.{Redo}
use Rattle.stair_state.specs.Degraded.{AreAllDamaged}
use Rattle.stair_state.specs.Forms.{HasGate, IsOpen, RepresentsBy}
use Rattle.stair_state.specs.Holding.{IsBorneSince, IsConsistentBy, IsCurrentMedium, IsConsistentSince}
use Rattle.stair_state.specs.Reassembly.{InSlot, IsBorne, IsReassembly, Location}
use Rattle.stair_state.specs.Recovering.{IsShut}
use Rattle.stair_state.specs.Redoing.{AttachesNone, IsLeftIn, Redoing, Stage, new_in, old_in}
use Rattle.stair_state.specs.Represents.{AreSteady, IsLargeEnough}
use Rattle.stair_state.specs.State.{Change, Content}
use Rattle.stair_state.proofs.FormLemmas.{good_whole}
use Rattle.stair_state.proofs.ReassembledLemmas.{IsBorneFrom, borne_of, from_slot}
use Rattle.stair_state.proofs.StageLemmas.{Concerns, PartHas, is_in, is_left_in}
use Rattle.stair_invariant.specs.Effects.{Snapshot, snapshot}
use Rattle.stair_invariant.specs.InSession.{IsBehindPlaces, IsBesideEpochs}
use Rattle.stair_invariant.specs.Leading.{IsAmidRedo}
use Rattle.stair_invariant.specs.Opening.{StaysArray, opened_with}
use Rattle.stair_invariant.specs.Rebuilding.{Rebuild}
use Rattle.stair_invariant.specs.Returning.{CoversMedia, HasOwnNewest, IsKnownWherever, current_media_of}
use Rattle.stair_invariant.specs.Session.{ArrayState, IsLiveIn, IsRebuiltIn}
use Rattle.stair_invariant.proofs.BesideLemmas.{large_on}
use Rattle.stair_invariant.proofs.DoubtLemmas.{widened_form}
use Rattle.stair_invariant.proofs.EstablishingLemmas.{none_open}
use Rattle.stair_invariant.proofs.KnownLemmas.{attached_before}
use Rattle.stair_invariant.proofs.MidwayLemmas.{rebuilding_why}
use Rattle.stair_invariant.proofs.OpenWithLemmas.{amid_beside}
use Rattle.stair_invariant.proofs.OwnLaws.{newest_beside}
use Rattle.stair_reinsert.specs.Following.{HoldsNamed, name_of}
use Rattle.stair_reinsert.proofs.MediaInStage.{stands_together}
use Rattle.stair_reinsert.proofs.PlacesSince.{steady_behind}
use Rattle.stair_reinsert.proofs.RedoMedia.{shut_wherever, sized_wherever}
use Rattle.stair_reinsert.proofs.RedoStart.{idle_full, idle_left, idle_shut, in_redo, RedoAny, redo_of, between_all}
use Rattle.stair_reinsert.proofs.StageSince.{SinceIn, left_in_stage, slot_last}
use Rattle.stair_reinsert.proofs.StoodSince.{held_here, current_media_here}
use Rattle.stair_reinsert.proofs.SupersSince.{consistent_as, known_so, latest_so, since_so, was_borne}

-- an array with this member
abbrev pub with_member : Option Rebuild → Option FenceFault → Snapshot → ArrayState
with_member rebuild stopped p = record { member = p.member; rebuild = rebuild; stopped = stopped; remembered = None }

-- a call that doesn't write this slot's gate
abbrev pub SparesGate : ℕ → ℕ → SlotCall → Type 0
SparesGate j i call = (bytes : List ℕ) (answer : Reply) → i ≡ j → call ≢ Write gate_sector bytes answer

module _ (before : List Happening) {kept : Content} {change : Option Change} (doing : RedoAny kept change) where
  open doing use {both, m, new, redo, redoing, stage_first, start, starts, words}

  -- At a point of the redo it has come to this stage. Slots that take part did so when it began, with the media that they have.
  pub record IsAmidAny (stage : Stage) (rebuild : Option Rebuild) (stopped : Option FenceFault) (p : Snapshot) : Type 0 where
    pub amid : IsAmidRedo (redo_of doing) before (with_member rebuild stopped p) stage start p.told.history
    pub history : IsHistory p.told.history
    pub stays : StaysArray m p.member
    pub known : EachImage (IsKnownWherever None p.member (IsAttached p.told.history)) p.told.history
    pub consistent : IsConsistentSince (in_redo m kept change) (current_media_of p.member) p.member.array.epoch p.told.history
    pub latest : CoversMedia m.array.geometry p.member.array.epoch p.told.history
    pub own : (j : ℕ) → IsHere p.member j → IsAttached p.told.history j → HasOwnNewest p.member p.told.history j
    -- a medium that the member means, of a slot that was attached, is the one that lay in the slot
    pub named : (j : ℕ) (q : Location) (x : Superblock) → IsHere p.member j → IsAttached start j
        → IsBorne m.array.geometry (image_now p.told.history) j q x → x.joined ≡ joined_in p.member.array j
        → name_of p.told.history j q ≡ name_of start j InSlot
    pub live : (j : ℕ) → IsLiveIn p.member j → IsLiveIn m j × (joined_in p.member.array j ≡ joined_in m.array j)
    pub rebuilt : (j : ℕ) → IsRebuiltIn p.member j → IsRebuiltIn m j × (joined_in p.member.array j ≡ joined_in m.array j)
    pub ungated : (j : ℕ) → IsRebuiltIn p.member j → Ran (SparesGate j) start p.told.history
    pub since : (j : ℕ) → IsLiveIn p.member j → IsAttached start j → SinceIn (redo_of doing) stage start p.told.history j
    -- a live slot that wasn't attached is left out after the first phase
    pub used : (stage ≡ stage_first) ⊎ ((j : ℕ) → IsLiveIn p.member j → IsAttached start j)

  -- the medium of a live slot is large enough as long as the slot is attached
  pub amid_large : (stage : Stage) (rebuild : Option Rebuild) (stopped : Option FenceFault) (p : Snapshot) → IsAmidAny stage rebuild stopped p
      → (c : List Happening) → Ran (AttachesNone every_slot) start c → (j : ℕ) → IsLiveIn p.member j → IsAttached c j
      → IsLargeEnough m.array.geometry (slot_state c j).size
  amid_large stage rebuild stopped p is c ran j live on =
      let was = attached_before {some = every_slot} j tt ran on in
      large_on m.array.geometry start c j
      (ran_weakened {allowed = AttachesNone every_slot} {more = AttachesNone (λ l. l ≡ j)} (λ l call may same. may tt) ran) was.0 on
      (is.amid.large j live was.0)

  -- CALLS BESIDE THE EPOCHS, that attach nothing

  module _ (stage : Stage) (rebuild : Option Rebuild) (stopped : Option FenceFault) (p : Snapshot)
      (is : IsAmidAny stage rebuild stopped p) (c : List Happening) (beside : Ran (IsBesideEpochs p.member) p.told.history c)
      (free : Ran (AttachesNone every_slot) p.told.history c)
      (since : (j : ℕ) → IsLiveIn p.member j → IsAttached start j → SinceIn (redo_of doing) stage start c j) where
    abbrev g : Geometry
    g = m.array.geometry

    abbrev r : Redoing
    r = redo_of doing

    abbrev old : List Happening
    old = p.told.history

    pub same_geometry : p.member.array.geometry ≡ m.array.geometry
    same_geometry = is.stays.geometry

    pub behind : Ran IsBehindPlaces p.told.history c
    behind = ran_weakened {allowed = IsBesideEpochs p.member} {more = IsBehindPlaces} (λ i call may. may.behind) beside

    pub alone : (j : ℕ) → Ran (IsNoAttach j) p.told.history c
    alone j = ran_weakened {allowed = AttachesNone every_slot} {more = IsNoAttach j} (λ i call may same. may tt) free

    pub all_free : Ran (AttachesNone every_slot) start c
    all_free = ran_join {allowed = AttachesNone every_slot} is.amid.ran free

    pub all_alone : (j : ℕ) → Ran (IsNoAttach j) start c
    all_alone j = ran_weakened {allowed = AttachesNone every_slot} {more = IsNoAttach j} (λ i call may same. may tt) all_free

    pub history_then : IsHistory c
    history_then = history_on {allowed = IsBesideEpochs p.member} is.history beside

    pub ungated_then : (j : ℕ) → IsRebuiltIn p.member j → Ran (SparesGate j) start c
    ungated_then j rebuilt =
        ran_join {allowed = SparesGate j} (is.ungated j rebuilt)
        (ran_weakened {allowed = IsBesideEpochs p.member} {more = SparesGate j}
        (λ i call may bytes answer same.
        may.gate (subst (λ (n : ℕ). n < p.member.array.geometry.n) (sym same) rebuilt.below)
        (subst (λ (n : ℕ). why_of p.member n ≡ why.Rebuilding) (sym same) rebuilt.why) bytes answer) beside)

    -- the gate of a slot that is rebuilt stays closed
    pub shut_throughout : (j : ℕ) → IsRebuiltIn p.member j → IsAttached start j → AtEveryMoment (λ x. IsShut m.array.geometry start x j) start c
    shut_throughout j rebuilt on =
        leaves_throughout {allowed = SparesGate j} {Q = ReadsClosed m.array.geometry} {Base = ReadsClosed m.array.geometry}
        (slot_state start j).pulls j gate_sector (record {
          damage = none_open m.array.geometry;
          under_damage = none_open m.array.geometry;
          write = λ bytes may. absurd (may bytes reply.Done refl refl);
          cut = λ bytes cell may under. absurd (may bytes reply.Done refl refl);
          sync = λ cell may holds. holds;
        }) (ungated_then j rebuilt) (starts.gate_shut j (is.rebuilt j rebuilt).0 on)

    module _ (image : Image) (left : CrashMayLeave c image) where
      -- a medium that the member means, of a slot that was attached, lay in the slot
      record IsInUse (to : Image) (j : ℕ) : Type 0 where
        own : HoldsNamed c image to (name_of start j InSlot) j
        size : (to j).size ≡ Some own.medium.size
        written : ¬ AreAllDamaged own.medium.cell

      in_use : (to : Image) → IsReassembly image to → (j : ℕ) (x : Superblock) → IsHere p.member j → IsAttached start j
          → Bears m.array.geometry j ((to j).cell) x → x.joined ≡ joined_in p.member.array j → IsInUse to j
      in_use to reassembly j x here on bears same =
          let came : IsBorneFrom m.array.geometry image to j x = from_slot m.array.geometry image to j x (reassembly j) bears in
          let was = was_borne m.array.geometry p.told.history c is.consistent.steady behind image left j came.place x (borne_of came) in
          record {
            own = record {
              place = came.place;
              medium = came.medium;
              is_one = came.is_one;
              named = sym was.named ∙ is.named j was.place x here on was.borne same;
              copies = came.copies;
            };
            size = came.size;
            written = λ all. good_whole came.bears.holds.good (all came.bears.place);
          }

      pub some_size : (j : ℕ) → IsAttached start j → IsSome (slot_state start j).size
      some_size j on = (history_tidy starts.history).attached j on

      -- THE MEDIA THAT HOLD CHUNKS

      pub live_of : (j n : ℕ) → current_media_of p.member j ≡ Some n → IsLiveIn p.member j × (n ≡ joined_in p.member.array j)
      live_of j n current_medium =
          let held = held_here p.member j n current_medium in (record { below = held.below; why = held.here }, held.number)

      -- so they held them when the redo began
      first_current_medium : (j : ℕ) (cells : ℕ → Cell) → IsCurrentMedium m.array.geometry (current_media_of p.member) j cells
          → IsCurrentMedium m.array.geometry (current_media_of m) j cells
      first_current_medium j cells current_medium =
          let live = live_of j current_medium.super.joined current_medium.joined in
          let was = is.live j live.0 in
          record {
            super = current_medium.super;
            bears = current_medium.bears;
            joined = current_media_here m j was.0.below was.0.why ∙ ap Some (sym (live.1 ∙ was.1));
          }

      -- the medium that lay in a live slot is in the stage
      pub own_staged : (to : Image) (j : ℕ) → IsLiveIn p.member j → IsAttached start j → HoldsNamed c image to (name_of start j InSlot) j
          → IsLeftIn (redo_of doing) stage (IsSlot j) to
      own_staged to j live on own =
          left_in_stage (redo_of doing) stage start c j image to (some_size j on) (all_alone j) (since j live on) left own

      pub staged : (to : Image) → IsReassembly image to → (j : ℕ) → IsCurrentMedium m.array.geometry (current_media_of p.member) j ((to j).cell)
          → IsLeftIn (redo_of doing) stage (IsSlot j) to
      staged to reassembly j current_medium =
          elim (cases_Bool (slot_state start j).attached) [
            | inl on ↦
                let live = live_of j current_medium.super.joined current_medium.joined in
                own_staged to j live.0 on
                (in_use to reassembly j current_medium.super (record { below = live.0.below; why = inl live.0.why }) on current_medium.bears live.1).own
            | inr off ↦ idle (λ on. true≢false (sym on ∙ off)) is.used
          ]
        where
          idle : ¬ IsAttached start j → (stage ≡ stage_first) ⊎ ((i : ℕ) → IsLiveIn p.member i → IsAttached start i)
              → IsLeftIn (redo_of doing) stage (IsSlot j) to
          idle off (inr all) = absurd (off (all j (live_of j current_medium.super.joined current_medium.joined).0))
          idle off (inl first) =
              subst (λ (x : Stage). IsLeftIn (redo_of doing) x (IsSlot j) to) (sym first)
              (is_left_in (redo_of doing) stage_first (IsSlot j) to
              (λ i at part concerns.
              subst (λ (n : ℕ). (y : DevicePart) → Concerns (redo_of doing) n y → PartHas (redo_of doing) stage_first n y ((to n).cell (sector_of m.array.geometry y)))
              (sym at)
              (idle_left m words new redo kept change both stage_first start starts c all_alone image left j off (to j) (reassembly j)
              (first_current_medium j ((to j).cell) current_medium)) part concerns))

      -- slots whose media are each in the stage stand as it does
      pub staged_form : (to : Image) (some : Slots) → ((j : ℕ) → HasSlot some j → IsLeftIn (redo_of doing) stage (IsSlot j) to)
          → HasGate (HasSlot some) to → RepresentsBy m.array.geometry both.old both.new (HasSlot some) to
      staged_form to some each gate =
          widened_form m.array.geometry both.old both.new (HasSlot some) to (old_in (redo_of doing) stage) (new_in (redo_of doing) stage)
          (between_all doing stage) (stands_together (redo_of doing) stage some to redoing each (λ placing. gate))

      forms_then : (to : Image) (some : Slots) → IsReassembly image to
          → ((j : ℕ) → HasSlot some j → IsCurrentMedium m.array.geometry (current_media_of p.member) j ((to j).cell)) → HasGate (HasSlot some) to
          → RepresentsBy m.array.geometry both.old both.new (HasSlot some) to
      forms_then to some reassembly have gate = staged_form to some (λ j on. staged to reassembly j (have j on)) gate

      pub large_then : (to : Image) (j : ℕ) → IsReassembly image to → IsCurrentMedium m.array.geometry (current_media_of p.member) j ((to j).cell)
          → IsLargeEnough m.array.geometry (to j).size
      large_then to j reassembly current_medium =
          elim (cases_Bool (slot_state start j).attached) [
            | inr off ↦
                idle_full m words new redo kept change both stage_first start starts c all_alone image left j (λ on. true≢false (sym on ∙ off)) (to j)
                (reassembly j) (first_current_medium j ((to j).cell) current_medium)
            | inl on ↦
                let live = live_of j current_medium.super.joined current_medium.joined in
                let mine = in_use to reassembly j current_medium.super (record { below = live.0.below; why = inl live.0.why }) on current_medium.bears live.1 in
                subst (λ (o : Option ℕ). IsLargeEnough m.array.geometry o)
                (sym (mine.size ∙ sized_wherever start c j (some_size j on) (all_alone j) image left mine.own.place mine.own.medium mine.own.is_one mine.own.named mine.written))
                (starts.large j (is.live j live.0).0 on)
          ]

      -- SLOTS THAT ARE REBUILT

      -- the gate of the medium that lay in one is closed
      pub own_closed : (to : Image) (j : ℕ) → IsRebuiltIn p.member j → IsAttached start j → HoldsNamed c image to (name_of start j InSlot) j
          → ReadsClosed m.array.geometry ((to j).cell gate_sector)
      own_closed to j rebuilt on own =
          shut_wherever m.array.geometry start c j (some_size j on) (all_alone j) (shut_throughout j rebuilt on) image left to own

      pub gate_closed : (to : Image) → IsReassembly image to → (j : ℕ) (x : Superblock) → IsRebuiltIn p.member j
          → Bears m.array.geometry j ((to j).cell) x → x.joined ≡ joined_in p.member.array j → ReadsClosed m.array.geometry ((to j).cell gate_sector)
      gate_closed to reassembly j x rebuilt bears same =
          elim (cases_Bool (slot_state start j).attached) [
            | inl on ↦
                own_closed to j rebuilt on
                (in_use to reassembly j x (record { below = rebuilt.below; why = inr rebuilt.why }) on bears same).own
            | inr off ↦
                let was = is.rebuilt j rebuilt in
                idle_shut m words new redo kept change both stage_first start starts c all_alone image left j (λ on. true≢false (sym on ∙ off)) (to j)
                (reassembly j)
                (starts.marks j was.0.below ∙ ap mark_for was.0.why) x bears (same ∙ was.1)
          ]

      -- what is borne since the member's epoch names what the member has
      pub own_names : (x : Superblock) → IsBorneSince m.array.geometry p.member.array.epoch image x → x.array ≡ p.member.array
      own_names x there =
          let was = since_so (in_redo m kept change) is.consistent.encodings (current_media_of p.member) p.member.array.epoch p.told.history c is.consistent.steady behind (is.consistent.each (image_now p.told.history) (CrashMayLeave-now p.told.history)) image left x there in
          let least : p.member.array.epoch ≤ x.array.epoch = was.since_then in
          let most : x.array.epoch ≤ p.member.array.epoch =
          is.latest (image_now p.told.history) (CrashMayLeave-now p.told.history) was.slot was.place x was.borne in
          (is.known (image_now p.told.history) (CrashMayLeave-now p.told.history)).named was.slot was.place x
          (subst (λ (y : Geometry). IsBorne y (image_now p.told.history) was.slot was.place x) (sym same_geometry) was.borne) (omega (arith, least, most))

      rebuilding_then : (to : Image) (j : ℕ) (x b : Superblock) (other : Redo) → IsReassembly image to
          → IsBorneSince m.array.geometry p.member.array.epoch image x → mark_at x j ≡ mark.Rebuilding → Bears m.array.geometry j ((to j).cell) b
          → b.joined ≡ joined_at x j → ¬ IsOpen m.array.geometry to j other
      rebuilding_then to j x b other reassembly there marked bears joined =
          let names = own_names x there in
          let below : j < p.member.array.geometry.n =
          subst (λ (y : Geometry). j < y.n) (sym same_geometry) (bears_below m.array.geometry j ((to j).cell) b bears) in
          gate_closed to reassembly j b
          (record {
            below = below;
            why =
                rebuilding_why (why_of p.member j)
                (sym (is.amid.amid.array.marks j below) ∙ sym (ap (λ (y : Configuration). mark_in y j) names) ∙ marked);
          }) bears (joined ∙ ap (λ (y : Configuration). joined_in y j) names) other

      -- at each moment of them the rack is consistent by the member's live slots since its epoch
      pub amid_consistent : IsConsistentBy (in_redo m kept change) both (current_media_of p.member) p.member.array.epoch image
      amid_consistent =
          consistent_as (in_redo m kept change) is.consistent.encodings (current_media_of p.member) p.member.array.epoch p.told.history c is.consistent.steady behind (is.consistent.each (image_now p.told.history) (CrashMayLeave-now p.told.history)) image left both forms_then large_then rebuilding_then

      pub amid_known : IsKnownWherever None p.member (IsAttached c) image
      amid_known =
          known_so p.member p.told.history c is.history
          (subst (λ (y : Geometry). AreSteady y p.told.history) (sym same_geometry) is.consistent.steady) behind (λ j here. alone j)
          (is.known (image_now p.told.history) (CrashMayLeave-now p.told.history)) image left

    pub latest_then : CoversMedia m.array.geometry p.member.array.epoch c
    latest_then image left =
        latest_so m.array.geometry p.told.history c is.consistent.steady behind image left p.member.array.epoch is.latest

    pub own_then : (j : ℕ) → IsHere p.member j → IsAttached c j → HasOwnNewest p.member c j
    own_then j here on =
        newest_beside p.member p.told.history c is.amid.amid.array.member is.history
        (ran_weakened {allowed = IsBesideEpochs p.member} {more = λ i call. IsBehindPlaces i call × AttachesNone (IsHere p.member) i call}
        (λ i call may. (may.behind, may.attaches)) beside) j here on (is.own j here)

    pub named_then : (j : ℕ) (q : Location) (x : Superblock) → IsHere p.member j → IsAttached start j
        → IsBorne m.array.geometry (image_now c) j q x → x.joined ≡ joined_in p.member.array j → name_of c j q ≡ name_of start j InSlot
    named_then j q x here on there same =
        let was = was_borne m.array.geometry p.told.history c is.consistent.steady behind (image_now c) (CrashMayLeave-now c) j q x there in
        sym was.named ∙ is.named j was.place x here on was.borne same

    pub steady_then : AreSteady m.array.geometry c
    steady_then = steady_behind m.array.geometry p.told.history c is.consistent.steady behind

    -- the rack is consistent so then
    abbrev pub consistent_then : IsConsistentSince (in_redo m kept change) (current_media_of p.member) p.member.array.epoch c
    consistent_then = record {
      encodings = both;
      each = λ image left. amid_consistent image left;
      seats = tt;
      steady = steady_then;
    }

-- A REDO AT A LATER POINT

module _ (before : List Happening) {kept : Content} {change : Option Change} (doing : RedoAny kept change) (stage : Stage) (p : Snapshot)
    (is : IsAmidAny before doing stage None None p) (told : RackState) (beside : Ran (IsBesideEpochs p.member) p.told.history told.history)
    (free : Ran (AttachesNone every_slot) p.told.history told.history)
    (since : (j : ℕ) → IsLiveIn p.member j → IsAttached doing.start j → SinceIn (redo_of doing) stage doing.start told.history j) where
  open doing use {both, stage_first, start}

  -- after calls beside the epochs its slots may be in another stage
  pub amid_on : (now : Stage)
      → ((j : ℕ) → IsLiveIn p.member j → IsAttached start j → SinceIn (redo_of doing) now start told.history j)
      → (now ≡ stage_first) ⊎ ((j : ℕ) → IsLiveIn p.member j → IsAttached start j)
      → IsAmidAny before doing now None None (snapshot p.member told)
  amid_on now then used = record {
    amid = record {
      amid = amid_beside before (opened_with p.member) p.told.history told.history is.amid.amid is.history beside;
      geometry = is.amid.geometry;
      ran = ran_join {allowed = AttachesNone every_slot} is.amid.ran free;
      large = is.amid.large;
      is_in =
          is_in (redo_of doing) now (λ j. IsLiveIn p.member j × IsAttached start j) start told.history
          (λ j both. slot_last (redo_of doing) now start told.history j (then j both.0 both.1));
      rebuilt = λ rebuild never. absurd (cc);
    };
    history = history_on {allowed = IsBesideEpochs p.member} is.history beside;
    stays = is.stays;
    known = λ image left.
        amid_known before doing stage None None p is told.history beside free since image left;
    consistent =
        consistent_then before doing stage None None p is told.history beside free since;
    latest = latest_then before doing stage None None p is told.history beside free since;
    own = own_then before doing stage None None p is told.history beside free since;
    named = named_then before doing stage None None p is told.history beside free since;
    live = is.live;
    rebuilt = is.rebuilt;
    ungated =
        ungated_then before doing stage None None p is told.history beside free since;
    since = then;
    used = used;
  }
