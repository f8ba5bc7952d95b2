-- In which order the chunks of a rebuild come.
use Rattle.std.specs.Prelude.{◌≡◌, ◌+◌, ◌-◌, ◌*◌, ◌<◌, ◌≤◌, ◌&&◌, ℕ, zero, suc, Bool, true, false, List, [], ◌∷◌, ◌++◌, Option, None, Some, Ok, if◌then◌else◌, nat_lt, ⊤}
use Rattle.std.specs.Option.{option_map_or}
use Rattle.stair_member.specs.Membership.{Membership, why_of}
use Rattle.stair_member.specs.declared.why.Why.{Why}
use Rattle.stair_member.specs.declared.why.Why.TheVariants as why
use Rattle.stair_invariant.specs.Rebuilding.{Rebuild}
use Rattle.stair_invariant.specs.Session.{ArrayState}
use Rattle.stair_array.specs.Causes.{IsLowestRebuilt}
use Rattle.stair_array.specs.Draws.{weights}
use Rattle.stair_array.specs.Machine.{Chunk, Dropped, Nothing, Progress, Promoted, RebuildNext}
use Rattle.stair_array.specs.Promise.{Opened, Phase}
use Rattle.stair_command.specs.Devices.{DeviceView, Devices, WorksAll}
use Rattle.stair_command.specs.Trace.{TraceItem, Stepped, AlongTrace}

-- WHERE A REBUILD STANDS

-- the chunk of a slot that comes next
pub record NextChunk : Type 0 where
  pub slot : ℕ
  pub stripe : ℕ

abbrev pub next_chunk : ℕ → ℕ → NextChunk
next_chunk slot stripe = record { slot = slot; stripe = stripe }

-- the slot that is under way in a session, and how far it has come
abbrev pub stands_in : Phase → Option NextChunk
stands_in (Opened array) =
    option_map_or (λ rebuild. Some (next_chunk rebuild.slot rebuild.stripe)) array.rebuild None
stands_in _ = None

abbrev pub is_rebuilding : Why → Bool
is_rebuilding why.Rebuilding = true
is_rebuilding _ = false

-- the slot is rebuilt
abbrev pub is_rebuilt : Membership → ℕ → Bool
is_rebuilt m j = nat_lt j m.array.geometry.n && is_rebuilding (why_of m j)

-- a slot stays under way as long as it is rebuilt
abbrev pub still_in : Phase → Option NextChunk → Option NextChunk
still_in (Opened array) (Some next) = if is_rebuilt array.member next.slot then Some next else None
still_in _ next = None

-- Where it stands after an item, which left the session so: a chunk leads to the next stripe of its slot; a promotion ends it,
-- and so does the loss of its slot, at any step; and what is no step leaves it.
abbrev pub next_behind : TraceItem → Phase → Option NextChunk → Option NextChunk
next_behind (Stepped RebuildNext (Ok (Chunk j t)) events left) later next = Some (next_chunk j (t + 1))
next_behind (Stepped RebuildNext (Ok (Promoted j)) events left) later next = None
next_behind (Stepped RebuildNext (Ok (Dropped j)) events left) later next = None
next_behind (Stepped step answer events left) later next = still_in later next
next_behind _ later next = next

-- THE ORDER

-- this chunk comes next: that of the slot that is under way, else the first one of the lowest slot that is rebuilt
abbrev pub ComesNext : Option NextChunk → Membership → ℕ → ℕ → Type 0
ComesNext (Some next) m j t = (j ≡ next.slot) × (t ≡ next.stripe)
ComesNext None m j t = IsLowestRebuilt m j × (t ≡ 0)

-- What is answered of a rebuild is in turn where it stands so: a chunk is the one that comes next, with another stripe after
-- it; a promotion comes with the chunk of the last stripe; and it is the slot of the next chunk that is dropped.
abbrev pub IsInTurn : TraceItem → Option NextChunk → Phase → Type 0
IsInTurn (Stepped RebuildNext (Ok (Chunk j t)) events left) next (Opened array) =
    ComesNext next array.member j t × (t + 1 < array.member.array.geometry.stripes)
IsInTurn (Stepped RebuildNext (Ok (Promoted j)) events left) next (Opened array) =
    (t : ℕ) × ComesNext next array.member j t × (array.member.array.geometry.stripes ≤ t + 1)
IsInTurn (Stepped RebuildNext (Ok (Dropped j)) events left) next (Opened array) =
    (t : ℕ) × ComesNext next array.member j t
IsInTurn (Stepped RebuildNext (Ok progress) events left) next (Opened array) = ⊤
IsInTurn (Stepped RebuildNext (Ok progress) events left) next session = ⊥
IsInTurn _ next session = ⊤

-- each answer of the trace is in turn
abbrev pub AreInOrder : {R W : Type 0} → (view : DeviceView R W) → Option NextChunk
    → (trace : List TraceItem) → (old new : Devices R W) → AlongTrace (WorksAll view) trace old new → Type 0
AreInOrder view next [] old new works = ⊤
AreInOrder view next (item ∷ trace) old new works = IsInTurn item next old.session
    × AreInOrder view (next_behind item works.0.session next) trace works.0 new works.2

-- The chunks of each slot come in order, on from where its rebuild stood as the trace began, else from stripe 0, one after the
-- other, until the slot is promoted with the last one or isn't rebuilt any more. None of another slot come between.
abbrev pub ChunksInOrder : (R W : Type 0) → Type 0
ChunksInOrder R W = (view : DeviceView R W) (trace : List TraceItem) (old new : Devices R W)
    (works : AlongTrace (WorksAll view) trace old new)
    → AreInOrder view (stands_in old.session) trace old new works

-- RUNS

-- what a step of a rebuild answered, but that there was nothing
abbrev pub progress_at : TraceItem → List Progress
progress_at (Stepped RebuildNext (Ok Nothing) events left) = []
progress_at (Stepped RebuildNext (Ok progress) events left) = progress ∷ []
progress_at _ = []

abbrev pub progress_of : List TraceItem → List Progress
progress_of [] = []
progress_of (item ∷ trace) = progress_at item ++ progress_of trace

-- the chunks of slot j below stripe t, in order
abbrev pub chunks_below : ℕ → ℕ → List Progress
chunks_below j zero = []
chunks_below j (suc t) = chunks_below j t ++ Chunk j t ∷ []

-- these are the last answers of a rebuild in the trace
pub record EndsWith (answers : List Progress) (trace : List TraceItem) : Type 0 where
  pub before : List TraceItem
  pub run : List TraceItem
  pub joined : trace ≡ before ++ run
  pub answered : progress_of run ≡ answers

-- A chunk comes after all chunks of its slot that are below it, in order and with nothing else of a rebuild between; and a
-- promotion after all chunks but that of the last stripe, with which it comes.
abbrev pub ComesBehind : TraceItem → List TraceItem → Phase → Type 0
ComesBehind (Stepped RebuildNext (Ok (Chunk j t)) events left) trace session =
    EndsWith (chunks_below j t) trace
ComesBehind (Stepped RebuildNext (Ok (Promoted j)) events left) trace (Opened array) =
    EndsWith (chunks_below j (array.member.array.geometry.stripes - 1)) trace
ComesBehind (Stepped RebuildNext (Ok (Promoted j)) events left) trace session = ⊥
ComesBehind _ trace session = ⊤

-- So it is of an item after any trace that began where no slot was under way, as a call begins, and an array once it is open.
abbrev pub RunsAreWhole : (R W : Type 0) → Type 0
RunsAreWhole R W = (view : DeviceView R W) (trace : List TraceItem) (item : TraceItem)
    (old mid new : Devices R W) → AlongTrace (WorksAll view) trace old mid → WorksAll view item mid new
    → stands_in old.session ≡ None → ComesBehind item trace mid.session

-- HOW MANY STEPS IT TAKES

-- so many stripes of the slot that is under way were rebuilt
abbrev pub stripes_done : Option Rebuild → ℕ
stripes_done (Some rebuild) = rebuild.stripe
stripes_done None = 0

-- No fewer than the steps of a rebuild that come until there is nothing: a slot that is rebuilt weighs two, and one that is live
-- one.
abbrev pub steps_left : ArrayState → ℕ
steps_left a = weights a.member * (a.member.array.geometry.stripes + 1) - stripes_done a.rebuild
