-- What an opening did, whichever media come back.
use Rattle.std.specs.Prelude.{◌≡◌, ℕ, None, Option, Some, Result, Ok, Err}
use Rattle.stair_model.specs.Geometry.{Geometry}
use Rattle.stair_model.specs.Slots.{Slots, no_slots}
use Rattle.stair_model.specs.Stripe.{Stripe}
use Rattle.stair_member.specs.Establishing.{Fences}
use Rattle.stair_member.specs.declared.fault.FenceFault.{FenceFault}
use Rattle.stair_journal.specs.Gate.{closed_gate}
use Rattle.stair_journal.specs.Journalling.{gate_writes}
use Rattle.stair_journal.specs.declared.body.Body.{Body}
use Rattle.stair_journal.specs.declared.redo.Redo.{Redo}
use Rattle.stair_invariant.specs.Effects.{AreLive, DoesStage, FindsBody, FindsRedo, Snapshot, Replays}
use Rattle.stair_array.specs.Calls.{answer_of, refused}
use Rattle.stair_array.specs.Machine.{JournalLost, Refusal}

-- What comes of a redo that was found, or of none: the gates of all live slots are closed, or the redo is done again.
pub data ClearsJournal : Option Redo → Slots → Result Geometry Refusal → Snapshot → Snapshot → Type 0 where
  Closes : (opened live : Slots) (refusal : Option FenceFault) (x y : Snapshot) → AreLive x.member live
      → DoesStage (gate_writes closed_gate) live refusal x y
      → ClearsJournal None opened (answer_of x.member.array.geometry refusal) x y
  -- no epoch is there without the slots that were gone as its body was read
  Stops : (redo : Redo) (opened : Slots) (body : Body) (was stripe : Stripe) (fault : FenceFault)
      (x y : Snapshot) → FindsBody redo body was stripe (Some fault) x y
      → ClearsJournal (Some redo) opened (Err (refused fault)) x y
  BodyLost : (redo : Redo) (opened : Slots) (body : Body) (was stripe : Stripe) (sector : ℕ)
      (x y : Snapshot) → FindsBody redo body was stripe None x y → body.unread ≡ Some sector
      → ClearsJournal (Some redo) opened (Err (JournalLost sector)) x y
  Replayed : (redo : Redo) (opened : Slots) (body : Body) (was stripe : Stripe)
      (refusal : Option FenceFault) (x y z : Snapshot) → FindsBody redo body was stripe None x y
      → body.unread ≡ None → Replays redo stripe opened refusal y z
      → ClearsJournal (Some redo) opened (answer_of x.member.array.geometry refusal) x z

-- An opening: an epoch is established before any gate is read.
pub data Recovers : Result Geometry Refusal → Snapshot → Snapshot → Type 0 where
  NoEpoch : (fault : FenceFault) (x y : Snapshot)
      → Fences no_slots x.member y.member (Err fault) x.told y.told
      → Recovers (Err (refused fault)) x y
  Stops : (fallen opened : Slots) (redo : Option Redo) (fault : FenceFault) (x y z : Snapshot)
      → Fences no_slots x.member y.member (Ok fallen) x.told y.told
      → FindsRedo redo opened (Some fault) y z → Recovers (Err (refused fault)) x z
  Goes : (fallen opened : Slots) (redo : Option Redo) (answer : Result Geometry Refusal)
      (x y z w : Snapshot) → Fences no_slots x.member y.member (Ok fallen) x.told y.told
      → FindsRedo redo opened None y z → ClearsJournal redo opened answer z w → Recovers answer x w
