-- Whatever a crash leaves while an epoch is established in a session represents the state.
use Rattle.std.proofs.lemmas.Bool.{cases_lt}
use Rattle.std.proofs.Common.{◌≡◌, ℕ, ◌<◌, List, ◌⊎◌, inl, inr, refl, sym, subst, arith, Option, Some, None}
use Rattle.std.specs.Prelude.{IsTrue}
use Rattle.stair_model.specs.Device.{gate_sector}
use Rattle.stair_model.specs.Geometry.{Geometry}
use Rattle.stair_model.specs.Slots.{Slots, HasSlot}
use Rattle.stair_rack.specs.Placed.{IsSlot}
use Rattle.stair_rack.specs.Answers.{IsBesideAttach, Ran}
use Rattle.stair_rack.specs.Crash.{CrashMayLeave}
use Rattle.stair_rack.specs.History.{Happening, SlotCall, Write, slot_state, stopped}
use Rattle.stair_rack.specs.Media.{Image}
use Rattle.stair_rack.specs.Offline.{WasPulled, IsAttached, IsHeld}
use Rattle.stair_rack.specs.Sector.{Damaged, damaged}
use Rattle.stair_rack.specs.declared.rack.Reply.TheVariants as reply
use Rattle.stair_rack.proofs.CrashLemmas.{cell_left, leaves_on}
use Rattle.stair_rack.proofs.MomentLemmas.{at_last, ran_before, ran_weakened, ran_none}
use Rattle.stair_rack.proofs.TidyLemmas.{history_on, history_tidy, left_past_end}
use Rattle.stair_super.specs.Superblock.{Superblock}
use Rattle.stair_member.specs.Current.{IsCurrent, IsFailed}
use Rattle.stair_member.specs.Aims.{admitted, aimed, IsAimed}
use Rattle.stair_member.specs.Counting.{AtMost}
use Rattle.stair_member.specs.Editions.{Edition}
use Rattle.stair_member.specs.Epochs.{ASync, AWrite, IsIssuing, IsTaken}
use Rattle.stair_member.specs.Fencing.{IsFencing}
use Rattle.stair_member.specs.Membership.{Membership, why_of}
use Rattle.stair_member.specs.Reserve.{BearsFor}
use Rattle.stair_member.specs.declared.aim.EpochChange.{EpochChange}
use Rattle.stair_member.specs.declared.why.Why.TheVariants as why
use Rattle.stair_member.proofs.SuperLemmas.{one_current}
use Rattle.stair_member.proofs.EstablishLemmas.{dropped_gone}
use Rattle.stair_member.proofs.EditionLemmas.{Bare, Same, slot_is}
use Rattle.stair_journal.specs.Gate.{ReadsClosed}
use Rattle.stair_journal.specs.declared.redo.Redo.{Redo}
use Rattle.stair_state.specs.Blocks.{Codewords}
use Rattle.stair_state.specs.Recovering.{IsShut}
use Rattle.stair_state.specs.Redoing.{AtRest, AttachesNone, IsRedoing, Stage, WritesNone, Redoing}
use Rattle.stair_state.specs.Represents.{IsLargeEnough, RepresentsAlone}
use Rattle.stair_state.specs.State.{Change, Content}
use Rattle.stair_state.specs.Tolerance.{IsToleratedAlone}
use Rattle.stair_state.proofs.FormLemmas.{good_whole}
use Rattle.stair_state.proofs.RedoFormLemmas.{slot_left}
use Rattle.stair_state.proofs.RedoPhaseLemmas.{IsHeldFull, held_full_on, slot_unwritten, large_some}
use Rattle.stair_state.proofs.StageLemmas.{SlotIn}
use Rattle.stair_invariant.specs.Changing.{IsChanging, IsSettled}
use Rattle.stair_invariant.specs.InSession.{state_with}
use Rattle.stair_invariant.proofs.ChangingLemmas.{AsBefore, IsNow, New, current_now}
use Rattle.stair_invariant.proofs.InSessionLemmas.{IsLeftOut, bare_on, changing, IsPrepared, so_far}
use Rattle.stair_invariant.proofs.MidwayLemmas.{AreInStage, IsOfStage, doing, midway, below_of, bears_none, here_aimed}

-- THE CALLS

-- they write superblock places alone, and attach nothing
pub issuing_writes : (slots : Slots) (editions : List Edition) (some : ℕ → Type 0) (j : ℕ) (c : SlotCall) → IsIssuing slots editions j c
    → WritesNone some j c
issuing_writes slots editions some j c (AWrite e k answer on among formed small is) =
    subst (WritesNone some j) (sym is) (λ one. omega (arith, small))
issuing_writes slots editions some j c (ASync answer on is) = subst (WritesNone some j) (sym is) tt

pub issuing_attaches : (slots : Slots) (editions : List Edition) (some : ℕ → Type 0) (j : ℕ) (c : SlotCall) → IsIssuing slots editions j c
    → AttachesNone some j c
issuing_attaches slots editions some j c (AWrite e k answer on among formed small is) one = subst IsBesideAttach (sym is) tt
issuing_attaches slots editions some j c (ASync answer on is) one = subst IsBesideAttach (sym is) tt

-- nothing is open with a damaged gate
pub none_open : (g : Geometry) → ReadsClosed g Damaged
none_open g other opened = good_whole opened.good refl

module _ (slots : Slots) (editions : List Edition) (old h : List Happening) (j : ℕ) (ran : Ran (IsIssuing slots editions) old h) where
  attaches_none : Ran (AttachesNone (IsSlot j)) old h
  attaches_none =
      ran_weakened {allowed = IsIssuing slots editions} {more = AttachesNone (IsSlot j)}
      (λ i c may. issuing_attaches slots editions (IsSlot j) i c may) ran

  writes_none : Ran (WritesNone (IsSlot j)) old h
  writes_none =
      ran_weakened {allowed = IsIssuing slots editions} {more = WritesNone (IsSlot j)}
      (λ i c may. issuing_writes slots editions (IsSlot j) i c may) ran

  -- the stage of a redo stays
  pub stage_on : (a : Redoing) (stage : Stage) (start : List Happening) → SlotIn a stage start old j → SlotIn a stage start h j
  stage_on a stage start is = at_last (slot_unwritten a stage start j (IsSlot j) refl old h writes_none is)

  -- a medium is as large as it was
  pub large_on : (g : Geometry) → IsAttached old j → IsLargeEnough g (slot_state old j).size → ¬ WasPulled old h j
      → IsLargeEnough g (slot_state h j).size
  large_on g on large stays =
      let now : IsHeldFull g old h j =
      held_full_on g (IsSlot j) old old h j refl (ran_none old) attaches_none
      (record {
        held = IsHeld.InUse on (large_some g (slot_state old j).size large) (omega arith);
        full = inr large;
        same = λ attached pulled. omega (arith, pulled);
      }) in
      elim now.full [ inl pulled ↦ absurd (stays pulled) | inr still ↦ still ]

  -- and so does a closed gate
  pub shut_on : (g : Geometry) (start : List Happening) → IsShut g start old j → IsShut g start h j
  shut_on g start is =
      leaves_on {allowed = IsIssuing slots editions} {Q = ReadsClosed g} {Base = ReadsClosed g} (slot_state start j).pulls j gate_sector
      (record {
        damage = none_open g;
        under_damage = none_open g;
        write = λ bytes may. absurd (no_write bytes may);
        cut = λ bytes cell may under. absurd (no_write bytes may);
        sync = λ cell may holds. holds;
      }) ran is
    where
      no_write : (bytes : List ℕ) → IsIssuing slots editions j (Write gate_sector bytes reply.Done) → ⊥
      no_write bytes may =
          let before : gate_sector < gate_sector = issuing_writes slots editions (IsSlot j) j (Write gate_sector bytes reply.Done) may refl in
          omega (arith, before)

-- WHAT A CRASH LEAVES

-- The slots, when the call begins: an attached one that is live, or will be, is in this stage of a redo, with the medium that it
-- had at the redo's start. The gate of one that is rebuilt, or admitted, is closed.
pub record AreStaged (aim : EpochChange) (m : Membership) (a : Redoing) (stage : Stage) (start h : List Happening) : Type 0 where
  pub up : (j : ℕ) → j < m.array.geometry.n → aimed aim j (why_of m j) ≡ why.Here → IsAttached h j
      → SlotIn a stage start h j × (¬ WasPulled start h j)
  pub shut : (j : ℕ) → j < m.array.geometry.n → (why_of m j ≡ why.Rebuilding) ⊎ (admitted aim ≡ Some j) → IsAttached h j
      → IsShut m.array.geometry h h j

module _ (aim : EpochChange) (gone : Slots) (m last : Membership) (old h new : List Happening) (f : IsFencing aim gone m last old h new)
    (prepared : IsPrepared aim m old) (going : ¬ IsTrue (stopped h)) (image : Image) (left : CrashMayLeave h image) where
  ran : Ran (IsIssuing f.issued.slots f.issued.editions) old h
  ran = ran_before {allowed = IsIssuing f.issued.slots f.issued.editions} f.issued.ran f.moment

  -- a slot that takes part has the medium that it had, if it bears anything
  record IsSameMedium (j : ℕ) : Type 0 where
    pub on : IsAttached old j
    pub stays : ¬ WasPulled old h j

  same_medium : (j : ℕ) → IsTaken (admitted aim) m j → BearsFor m.array.geometry image j → IsSameMedium j
  same_medium j taken for =
      elim (prepared.own j taken) [
        | inl on ↦ record { on = on.0; stays = λ pulled. omega (arith, pulled, by_slot) }
        | inr off ↦ absurd (bare (bare_on f.issued.slots f.issued.editions old h j ran f.returned off.0 off.1).1)
      ]
    where
      below : j < m.array.geometry.n
      below = elim taken [ inl here ↦ here.below | inr joins ↦ joins.1 ]

      bare : ((k : ℕ) → (slot_state h j).sector k ≡ damaged) → ⊥
      bare none = bears_none m.array.geometry h image j left none for

      by_slot : (slot_state h j).pulls ≡ (slot_state old j).pulls
      by_slot =
          elim
          (slot_is f.issued.slots f.issued.editions old h j (history_tidy f.begun.history) (λ k lt. f.begun.settled j k below lt) ran
          f.returned) [
            | Same some same still each ↦ same
            | Bare off none ↦ absurd (bare none)
          ]

  up_medium : (j : ℕ) → aimed aim j (why_of m j) ≡ why.Here → BearsFor m.array.geometry image j → IsSameMedium j
  up_medium j up for =
      let below = below_of m.array.geometry image j for in
      elim (here_aimed aim j (why_of m j) up) [
        | inl here ↦ same_medium j (inl (record { below = below; why = inl here })) for
        | inr promotes ↦ same_medium j (inl (prepared.promoted j promotes)) for
      ]

  rebuilt_medium : (j : ℕ) → (why_of m j ≡ why.Rebuilding) ⊎ (admitted aim ≡ Some j) → BearsFor m.array.geometry image j → IsSameMedium j
  rebuilt_medium j (inl rebuilt) for = same_medium j (inl (record { below = below_of m.array.geometry image j for; why = inr rebuilt })) for
  rebuilt_medium j (inr joins) for = same_medium j (inr (joins, below_of m.array.geometry image j for)) for

  abbrev IsDropped : ℕ → Type 0
  IsDropped = IsLeftOut aim gone m last old h new f prepared going

  changes : IsChanging aim IsDropped m image
  changes = changing aim gone m last old h new f prepared going image left

  module _ (redo : Redo) (old_words new_words : Codewords) (stage : Stage) (start : List Happening) (settled : IsSettled aim m)
      (staged : AreStaged aim m (doing m redo old_words new_words) stage start old) where
    in_stage : AreInStage aim m (doing m redo old_words new_words) stage image
    in_stage = record {
      each = λ j up for.
          let medium = up_medium j up for in
          let is = staged.up j (below_of m.array.geometry image j for) up medium.on in
          slot_left (doing m redo old_words new_words) stage start h image j left
          (not_since j medium.stays is.1) (stage_on f.issued.slots f.issued.editions old h j ran (doing m redo old_words new_words) stage start is.0);
      large = λ j up for.
          let medium = up_medium j up for in
          subst (IsLargeEnough m.array.geometry) (sym (left j).size)
          (large_on f.issued.slots f.issued.editions old h j ran m.array.geometry medium.on
          (prepared.large j (below_of m.array.geometry image j for) up medium.on) medium.stays);
      shut = λ j which for.
          let medium = rebuilt_medium j which for in
          elim
          (cell_left {Q = ReadsClosed m.array.geometry} {Base = ReadsClosed m.array.geometry} h image (slot_state old j).pulls j gate_sector
          (none_open m.array.geometry) left
          (shut_on f.issued.slots f.issued.editions old h j ran m.array.geometry old
          (staged.shut j (below_of m.array.geometry image j for) which medium.on))) [
            | inl pulled ↦ absurd (medium.stays pulled)
            | inr closed ↦ closed
          ];
    }
      where
        not_since : (j : ℕ) → ¬ WasPulled old h j → ¬ WasPulled start old j → ¬ WasPulled start h j
        not_since j stays before pulled =
            elim (cases_lt (slot_state old j).pulls (slot_state h j).pulls) [
              | inl later ↦ stays later
              | inr most ↦ before (omega (arith, pulled, most))
            ]

    -- it represents the state, with the marks of its current superblock
    pub stands_then : (content : Content) (doubt : Option Change) → (stage ≡ AtRest) ⊎ IsRedoing (doing m redo old_words new_words)
        → IsOfStage aim m (doing m redo old_words new_words) stage content doubt → (tolerated : IsToleratedAlone m.array.geometry image)
        → RepresentsAlone (state_with m content doubt tolerated.current.array) image
    stands_then content doubt redoing of tolerated =
        midway aim IsDropped m settled redo old_words new_words stage content doubt redoing of image changes tolerated
        (left_past_end h (history_tidy (history_on {allowed = IsIssuing f.issued.slots f.issued.editions} f.begun.history ran)) image left) in_stage

  -- That superblock names what the member has, or what a new epoch names that is for this, in which a slot was dropped only where
  -- it was gone.
  pub names_then : IsToleratedAlone m.array.geometry image → (current : Superblock) → IsCurrent m.array.geometry image current
      → (current.array ≡ m.array) ⊎ ((m.array.epoch < current.array.epoch) × IsAimed aim (HasSlot gone) m current.array)
  names_then tolerated current is_current =
      by (current_now aim IsDropped m {offline = λ j. (image j).size ≡ None} image current changes is_current few)
    where
      few : AtMost m.array.geometry.m (IsFailed (λ j. (image j).size ≡ None) m.array.geometry image current)
      few =
          subst (λ (x : Superblock). AtMost m.array.geometry.m (IsFailed (λ j. (image j).size ≡ None) m.array.geometry image x))
          (one_current m.array.geometry image tolerated.current current tolerated.is_current is_current) tolerated.few

      left_gone : (j : ℕ) → IsDropped j → HasSlot gone j
      left_gone j out =
          let written = so_far aim gone m last old h new f prepared going in
          dropped_gone aim m gone out.0.array j (f.issued.each out.0 (written.within out.0 out.1)).epoch out.2

      by : IsNow aim IsDropped m current.array
          → (current.array ≡ m.array) ⊎ ((m.array.epoch < current.array.epoch) × IsAimed aim (HasSlot gone) m current.array)
      by (AsBefore same) = inl same
      by (New above is) =
          inr (
            above,
            record {
              geometry = is.geometry;
              frozen = is.frozen;
              label = is.label;
              marks = λ j below. elim (is.marks j below) [ inl as_aimed ↦ inl as_aimed | inr out ↦ inr (left_gone j out.0, out.1) ];
              joined = is.joined;
              joins = is.joins;
            },
          )
