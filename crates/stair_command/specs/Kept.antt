-- Which slots a call gives up.
use Rattle.std.specs.Prelude.{◌≡◌, ◌≢◌, ◌⊎◌, ◌<◌, ℕ, List, [], ◌∷◌}
use Rattle.stair_super.specs.Superblock.{mark_in}
use Rattle.stair_super.specs.declared.mark.Mark.TheVariants.{Down}
use Rattle.stair_member.specs.Membership.{IsHere, Membership}
use Rattle.stair_array.specs.Causes.{WasGoneTo}
use Rattle.stair_array.specs.Promise.{Found, Opened, Phase}
use Rattle.stair_command.specs.Devices.{DeviceView, Devices, WorksAll}
use Rattle.stair_command.specs.Rack.{told_of}
use Rattle.stair_command.specs.Trace.{TraceItem, Stepped, AlongTrace}

-- the session has an open array, and knows this of its slots
abbrev pub IsOpenAs : Phase → Membership → Type 0
IsOpenAs (Opened array) m = m ≡ array.member
IsOpenAs _ m = ⊥

-- it has found an array, which may be open, and knows this of its slots
abbrev pub HasMember : Phase → Membership → Type 0
HasMember (Found found) m = m ≡ found
HasMember (Opened array) m = m ≡ array.member
HasMember _ m = ⊥

-- this is so of an item of the trace, at the moments before and after it
abbrev pub SomeItem : {R W : Type 0} → (view : DeviceView R W)
    → (TraceItem → Devices R W → Devices R W → Type 0) → (trace : List TraceItem) → (old new : Devices R W)
    → AlongTrace (WorksAll view) trace old new → Type 0
SomeItem view P [] old new works = ⊥
SomeItem view P (item ∷ trace) old new works =
    P item old works.0 ⊎ SomeItem view P trace works.0 new works.2

-- The item was a step to a call of which the slot was gone, by what the session knew of its slots then. So its count rose, and
-- on an honest rack, where the session holds it, it is offline until it is attached; or its medium has too few sectors.
abbrev pub WasGoneAt : {R W : Type 0} → DeviceView R W → ℕ → TraceItem → Devices R W → Devices R W → Type 0
WasGoneAt view j (Stepped step answer events left) old new = (m : Membership)
    × HasMember old.session m
    × WasGoneTo m j (told_of view.rack old.rack) (told_of view.rack new.rack)
WasGoneAt view j _ old new = ⊥

abbrev pub WasGoneIn : {R W : Type 0} → (view : DeviceView R W) → ℕ → (trace : List TraceItem)
    → (old new : Devices R W) → AlongTrace (WorksAll view) trace old new → Type 0
WasGoneIn view j trace old new works = SomeItem view (WasGoneAt view j) trace old new works

-- No device is given up without cause: a slot that isn't Down in an open array is Down later in the session only where a step
-- between found it gone.
abbrev pub NoneIsGivenUp : (R W : Type 0) → Type 0
NoneIsGivenUp R W = (view : DeviceView R W) (trace : List TraceItem) (old new : Devices R W)
    (works : AlongTrace (WorksAll view) trace old new) (first last : Membership) (j : ℕ)
    → IsOpenAs old.session first → IsOpenAs new.session last
    → j < first.array.geometry.n → mark_in first.array j ≢ Down → mark_in last.array j ≡ Down
    → WasGoneIn view j trace old new works

-- Nor is one at the opening: a slot that isn't Down in the array that was found is Down once it is open only where it didn't
-- take part as the array was found, or where a step between found it gone.
abbrev pub NoneIsLeftOut : (R W : Type 0) → Type 0
NoneIsLeftOut R W = (view : DeviceView R W) (trace : List TraceItem) (old new : Devices R W)
    (works : AlongTrace (WorksAll view) trace old new) (first last : Membership) (j : ℕ)
    → old.session ≡ Found first → IsOpenAs new.session last
    → j < first.array.geometry.n → mark_in first.array j ≢ Down → mark_in last.array j ≡ Down
    → (¬ IsHere first j) ⊎ WasGoneIn view j trace old new works
