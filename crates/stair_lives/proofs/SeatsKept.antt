-- What becomes of a seat over a step: a slot that takes part in the end did before, with one medium, unless one was admitted to it.
use Rattle.std.proofs.Common.{◌≡◌, ◌∙◌, ◌⊎◌, ℕ, Bool, List, Option, None, Some, Result, Ok, Err, inl, inr, sym, ap, subst}
use Rattle.std.proofs.lemmas.Bool.{cases_eq}
use Rattle.std.specs.Prelude.{◌≢◌}
use Rattle.stair_super.specs.declared.mark.Mark.{Mark}
use Rattle.stair_super.specs.declared.mark.Mark.TheVariants.{Down, Live, Rebuilding}
use Rattle.stair_rack.specs.declared.watcher.Event.{Event}
use Rattle.stair_member.specs.Seats.{Seat, Seats}
use Rattle.stair_member.specs.declared.fault.FenceFault.{FenceFault}
use Rattle.stair_invariant.specs.SeatSteps.{MayDrop, SeatGoes}
use Rattle.stair_array.specs.Machine.{AlreadyArray, Answer, Chunk, Dropped, EpochsSpent, Frozen, Gone, JournalLost, LookAtSeats, Lost, Nothing, OutOfRange, Progress, Promoted, ReadBlock, RebuildNext, Recover, Refusal, ReplaceSlot, ScrubStripe, SeatsAfter, SeatsRebuilt, SetFrozen, SetLabel, SlotBusy, SmallDevice, Step, TooFew, WriteBlocks}
use Rattle.stair_array.specs.Promise.{Keeps, Stops}
use Rattle.stair_command.specs.Trace.{Stepped}
use Rattle.stair_lives.specs.Stale.{Admits}

-- a slot that takes part in the end did before, with the same joined number
abbrev pub KeepsSeat : Seat → Seat → Type 0
KeepsSeat old new = new.mark ≢ Down → (old.mark ≢ Down) × (new.joined ≡ old.joined)

pub may_keep : (old new : Seat) → MayDrop old new → KeepsSeat old new
may_keep old new (inl same) up = (subst (λ (s : Seat). s.mark ≢ Down) same up, ap (λ (s : Seat). s.joined) same)
may_keep old new (inr drops) up = absurd (up (ap (λ (s : Seat). s.mark) drops.1))

goes_keep : (i : ℕ) (from to : Mark) (old new : Seats) → from ≢ Down → SeatGoes i from to old new → (j : ℕ) → KeepsSeat (old j) (new j)
goes_keep i from to old new not goes j =
    elim (cases_eq j i) [
      | inl same ↦
          subst (λ (k : ℕ). KeepsSeat (old k) (new k)) (sym same)
          (λ up. (λ down. not (sym goes.was ∙ down), goes.joined not (λ down. up (goes.is ∙ down))))
      | inr other ↦ may_keep (old j) (new j) (goes.others j other)
    ]

rebuilding_up : ◌≢◌ {A = Mark} Rebuilding Down
rebuilding_up same = cc

rebuilt_keep : (progress : Progress) (old new : Seats) → SeatsRebuilt progress old new → (j : ℕ) → KeepsSeat (old j) (new j)
rebuilt_keep Nothing old new seats j = may_keep (old j) (new j) (seats.1 j)
rebuilt_keep (Chunk i t) old new seats j = goes_keep i Rebuilding Rebuilding old new rebuilding_up seats j
rebuilt_keep (Promoted i) old new seats j = goes_keep i Rebuilding Live old new rebuilding_up seats j
rebuilt_keep (Dropped i) old new seats j = goes_keep i Rebuilding Down old new rebuilding_up seats j

-- over a step that doesn't stop the array
pub after_keep : (step : Step) (answer : Answer step) (events : List Event) (left : Bool) (old new : Seats) → SeatsAfter step answer old new → ¬ Stops answer
    → (j : ℕ) → KeepsSeat (old j) (new j) ⊎ Admits j (Stepped step answer events left)
after_keep Recover answer events left old new seats goes j = inl (may_keep (old j) (new j) (seats j))
after_keep (ReadBlock b) answer events left old new seats goes j = inl (may_keep (old j) (new j) (seats j))
after_keep (WriteBlocks first contents) answer events left old new seats goes j = inl (may_keep (old j) (new j) (seats j))
after_keep (ScrubStripe t) answer events left old new seats goes j = inl (may_keep (old j) (new j) (seats j))
after_keep (ReplaceSlot i) (Ok done) events left old new seats goes j =
    elim (cases_eq j i) [ inl same ↦ inr (sym same) | inr other ↦ inl (may_keep (old j) (new j) (seats.others j other)) ]
after_keep (ReplaceSlot i) (Err refusal) events left old new seats goes j =
    elim seats [ inl drops ↦ inl (may_keep (old j) (new j) (drops j)) | inr stops ↦ absurd (goes stops.0) ]
after_keep RebuildNext (Ok progress) events left old new seats goes j = inl (rebuilt_keep progress old new seats j)
after_keep RebuildNext (Err refusal) events left old new seats goes j =
    elim seats [ inl drops ↦ inl (may_keep (old j) (new j) (drops j)) | inr stops ↦ absurd (goes stops.0) ]
after_keep (SetFrozen frozen) answer events left old new seats goes j = inl (may_keep (old j) (new j) (seats j))
after_keep (SetLabel label) answer events left old new seats goes j = inl (may_keep (old j) (new j) (seats j))
after_keep LookAtSeats (Ok given) events left old new seats goes j = inl (may_keep (old j) (new j) (inl (ap (λ (s : Seats). s j) seats.1)))
after_keep LookAtSeats (Err refusal) events left old new seats goes j = inl (may_keep (old j) (new j) (inl (ap (λ (s : Seats). s j) seats)))

-- an array that isn't stopped afterwards wasn't by the answer
pub going_on : {T : Type 0} (answer : Result T Refusal) (kept : Option FenceFault) → Keeps answer kept → kept ≡ None → ¬ Stops answer
going_on (Ok x) kept keeps none stops = stops
going_on (Err (TooFew whys)) kept keeps none stops = let is : kept ≡ Some keeps.0 = keeps.1 in cc
going_on (Err EpochsSpent) kept keeps none stops = let is : kept ≡ Some keeps.0 = keeps.1 in cc
going_on (Err (OutOfRange asked limit)) kept keeps none stops = stops
going_on (Err Frozen) kept keeps none stops = stops
going_on (Err (Lost t counts)) kept keeps none stops = stops
going_on (Err (JournalLost sector)) kept keeps none stops = stops
going_on (Err (SlotBusy j mark)) kept keeps none stops = stops
going_on (Err (Gone j)) kept keeps none stops = stops
going_on (Err (SmallDevice j has needs)) kept keeps none stops = stops
going_on (Err (AlreadyArray j)) kept keeps none stops = stops
