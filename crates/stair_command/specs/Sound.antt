-- Which cells were good at some moment of a trace: those of slots that were promoted or replaced in it, and of stripes that were
-- scrubbed.
use Rattle.std.specs.Prelude.{◌≡◌, ◌⊎◌, ◌<◌, ℕ, true, IsTrue, List, [], ◌∷◌, None, Ok}
use Rattle.stair_model.specs.Device.{cell_sector, chunks_start}
use Rattle.stair_model.specs.Geometry.{Geometry}
use Rattle.stair_rack.specs.Answers.{is_good}
use Rattle.stair_rack.specs.History.{Happening, slot_state}
use Rattle.stair_rack.specs.Moments.{AtSomeMoment}
use Rattle.stair_rack.specs.Sector.{content}
use Rattle.stair_member.specs.Membership.{Membership}
use Rattle.stair_invariant.specs.Session.{ArrayState, IsLiveIn}
use Rattle.stair_array.specs.Machine.{Promoted, RebuildNext, ReplaceSlot, ScrubStripe}
use Rattle.stair_array.specs.Promise.{Opened}
use Rattle.stair_command.specs.Devices.{DeviceView, Devices, WorksAll}
use Rattle.stair_command.specs.Kept.{HasMember}
use Rattle.stair_command.specs.Rebuilt.{stands_in}
use Rattle.stair_command.specs.Run.{history_of}
use Rattle.stair_command.specs.Trace.{TraceItem, Stepped, AlongTrace}

-- CELLS

-- The sector of slot j was good at some moment from the one to the other, both included: so it is good in the end, or it was so
-- and failed since.
abbrev pub IsSound : ℕ → ℕ → List Happening → List Happening → Type 0
IsSound j k old new = AtSomeMoment (λ h. is_good (content ((slot_state h j).sector k)) ≡ true) old new

-- each cell of stripe t on slot j was
abbrev pub IsSoundChunk : Geometry → ℕ → ℕ → List Happening → List Happening → Type 0
IsSoundChunk g j t old new = (i : ℕ) → i < g.r → IsSound j (cell_sector g t i) old new

-- each cell of the slot
abbrev pub AreSoundChunks : Geometry → ℕ → List Happening → List Happening → Type 0
AreSoundChunks g j old new = (t : ℕ) → t < g.stripes → IsSoundChunk g j t old new

-- the superblock places and the journal of the slot, which come before its chunks
abbrev pub IsSoundStart : Geometry → ℕ → List Happening → List Happening → Type 0
IsSoundStart g j old new = (k : ℕ) → k < chunks_start g → IsSound j k old new

-- DEEDS

-- slot j was promoted
abbrev pub IsPromotionOf : ℕ → TraceItem → Type 0
IsPromotionOf j (Stepped RebuildNext (Ok (Promoted slot)) events left) = slot ≡ j
IsPromotionOf j _ = ⊥

-- slot j got the device in it for its own
abbrev pub IsReplacementOf : ℕ → TraceItem → Type 0
IsReplacementOf j (Stepped (ReplaceSlot slot) (Ok done) events left) = slot ≡ j
IsReplacementOf j _ = ⊥

-- stripe t was scrubbed
abbrev pub IsScrubOf : ℕ → TraceItem → Type 0
IsScrubOf t (Stepped (ScrubStripe stripe) (Ok count) events left) = stripe ≡ t
IsScrubOf t _ = ⊥

-- such an item is one of the trace
abbrev pub HasItem : (TraceItem → Type 0) → List TraceItem → Type 0
HasItem IsSo [] = ⊥
HasItem IsSo (item ∷ trace) = IsSo item ⊎ HasItem IsSo trace

-- The session knew this of its slots at some moment of the trace: as the array was found, or after a step of the open array.
abbrev pub KnewOnce : {R W : Type 0} → (view : DeviceView R W) → Membership → (trace : List TraceItem)
    → (old new : Devices R W) → AlongTrace (WorksAll view) trace old new → Type 0
KnewOnce view m [] old new works = HasMember old.session m
KnewOnce view m (item ∷ trace) old new works =
    HasMember old.session m ⊎ KnewOnce view m trace works.0 new works.2

-- THE LAWS, over a trace that leads to an open array

-- A slot becomes live by a promotion alone: one that is live in the end, and wasn't at some moment of the trace, was promoted in
-- it, unless the array was stopped.
abbrev pub PromotionsBringUp : (R W : Type 0) → Type 0
PromotionsBringUp R W = (view : DeviceView R W) (trace : List TraceItem) (old new : Devices R W)
    (works : AlongTrace (WorksAll view) trace old new) (m : Membership) (last : ArrayState) (j : ℕ)
    → new.session ≡ Opened last → last.stopped ≡ None → KnewOnce view m trace old new works
    → IsLiveIn last.member j → ¬ IsLiveIn m j → HasItem (IsPromotionOf j) trace

-- Each cell of a slot that was promoted is sound, on an honest rack, where the trace began with no slot under way.
abbrev pub PromotedAreSound : (R W : Type 0) → Type 0
PromotedAreSound R W = (view : DeviceView R W) (trace : List TraceItem) (old new : Devices R W)
    (works : AlongTrace (WorksAll view) trace old new) (last : ArrayState) (j : ℕ)
    → IsTrue view.rack.honest → stands_in old.session ≡ None → new.session ≡ Opened last
    → HasItem (IsPromotionOf j) trace
    → AreSoundChunks last.member.array.geometry j (history_of view old) (history_of view new)

-- The places and the journal of a slot that was replaced are.
abbrev pub ReplacedAreSound : (R W : Type 0) → Type 0
ReplacedAreSound R W = (view : DeviceView R W) (trace : List TraceItem) (old new : Devices R W)
    (works : AlongTrace (WorksAll view) trace old new) (last : ArrayState) (j : ℕ)
    → IsTrue view.rack.honest → new.session ≡ Opened last → HasItem (IsReplacementOf j) trace
    → IsSoundStart last.member.array.geometry j (history_of view old) (history_of view new)

-- And so is each cell of a stripe that was scrubbed, on a slot that is live in the end, unless the array was stopped. A slot that
-- wasn't live yet as the stripe was scrubbed was promoted since.
abbrev pub ScrubbedAreSound : (R W : Type 0) → Type 0
ScrubbedAreSound R W = (view : DeviceView R W) (trace : List TraceItem) (old new : Devices R W)
    (works : AlongTrace (WorksAll view) trace old new) (last : ArrayState) (t j : ℕ)
    → IsTrue view.rack.honest → stands_in old.session ≡ None → new.session ≡ Opened last
    → last.stopped ≡ None → HasItem (IsScrubOf t) trace → IsLiveIn last.member j
    → IsSoundChunk last.member.array.geometry j t (history_of view old) (history_of view new)
