-- What was written to the slots of a rack in memory: acts write nothing, and each call at most once.
use Rattle.std.proofs.Common.{◌≡◌, ℕ, ◌<◌, ◌≤◌, suc, Bool, not, ◌&&◌, List, [], ◌∷◌, length, take, refl, sym, ap, ◌∙◌, subst, arith, None, Some}
use Rattle.std.specs.Prelude.{is_some, if◌then◌else◌, ◌==◌, nat_lt}
use Rattle.std.proofs.lemmas.Bool.{cond_both}
use Rattle.std.proofs.lemmas.List.{length-take}
use Rattle.stair_rack.specs.Media.{has_sector}
use Rattle.stair_rack.specs.History.{SlotAct, Pulled, InsertedBlank, InsertedOld, SectorDamaged, SlotCall, Happening, Made, Acted, slot_state}
use Rattle.stair_rack.specs.History as slot
use Rattle.stair_rack.specs.declared.rack.Reply.TheVariants as reply
use Rattle.stair_memrack.specs.declared.act.Act.{Act}
use Rattle.stair_memrack.specs.declared.act.What.{What}
use Rattle.stair_memrack.specs.declared.act.What.TheVariants.{Pull, PullLosing, InsertBlank, InsertOld, Damage, Stop}
use Rattle.stair_memrack.specs.declared.disk.Settling.TheVariants.{AsRead, AsSynced}
use Rattle.stair_memrack.specs.declared.record.Recorded.{Recorded}
use Rattle.stair_memrack.specs.declared.disk.StoredSector.{StoredSector}
use Rattle.stair_memrack.specs.Disk.{stored_in}
use Rattle.stair_memrack.specs.Place.{PlaceState}
use Rattle.stair_memrack.specs.Origin.{image_over}
use Rattle.stair_memrack.specs.Script.{medium_kept, act_where, followed_by, after_what, after_acts}
use Rattle.stair_memrack.specs.Record.{MemRackState, slot_call, after_calls, after_late, recorded, stopped_by_record, history_of, has_room, moment}
use Rattle.stair_memrack.specs.Shelf.{Written, with_write, writes_in, IsShelfOf, place_at}

acted-writes : (h : List Happening) (i j : ℕ) (act : SlotAct) (applies : Bool) → writes_in (followed_by (act_where applies i act) h) j ≡ writes_in h j
acted-writes h i j act applies =
    cond_both (nat_lt i 32 && applies) (Some (Acted i act)) None (λ e. writes_in (followed_by e h) j ≡ writes_in h j) (λ e. refl) (λ e. refl)

what-writes : (what : What) (h : List Happening) (j : ℕ) → writes_in (after_what what h) j ≡ writes_in h j
what-writes (Pull i) h j = acted-writes h i j (Pulled (medium_kept AsRead (slot_state h i))) (is_some (slot_state h i).size)
what-writes (PullLosing i) h j = acted-writes h i j (Pulled (medium_kept AsSynced (slot_state h i))) (is_some (slot_state h i).size)
what-writes (InsertBlank i size) h j = acted-writes h i j (InsertedBlank size) (not (is_some (slot_state h i).size))
what-writes (InsertOld i l) h j = acted-writes h i j (InsertedOld l) (not (is_some (slot_state h i).size) && nat_lt l (length (slot_state h i).removed))
what-writes (Damage i k) h j = acted-writes h i j (SectorDamaged k) (has_sector (slot_state h i).size k)
what-writes Stop h j = refl

pub acts-writes : (n : ℕ) (acts : List Act) (h : List Happening) (j : ℕ) → writes_in (after_acts n acts h) j ≡ writes_in h j
acts-writes n [] h j = refl
acts-writes n (act ∷ acts) h j =
    acts-writes n acts (if act.at == n then after_what act.what h else h) j
    ∙ cond_both (act.at == n) (after_what act.what h) h (λ g. writes_in g j ≡ writes_in h j) (λ e. what-writes act.what h j) (λ e. refl)

one_write : (c : SlotCall) (w : Written) (k : ℕ) → length (with_write c w k) ≤ suc (length (w k))
one_write (slot.Attach answer) w k = omega arith
one_write (slot.Sectors size) w k = omega arith
one_write (slot.Read l answer) w k = omega arith
one_write (slot.Write l bytes reply.Done) w k =
    cond_both (k == l) (bytes ∷ w k) (w k) (λ xs. length xs ≤ suc (length (w k))) (λ e. omega arith) (λ e. omega arith)
one_write (slot.Write l bytes reply.Gone) w k = omega arith
one_write (slot.Sync answer) w k = omega arith

called-writes : (c : SlotCall) (h : List Happening) (i j k n : ℕ) → length (writes_in h j k) ≤ n
    → length (writes_in (slot.Called i c ∷ h) j k) ≤ suc n
called-writes c h i j k n before =
    cond_both (i == j) (with_write c (writes_in h j)) (writes_in h j) (λ w. length (w k) ≤ suc n)
    (λ e. let one = one_write c (writes_in h j) k in omega arith) (λ e. omega arith)

pub writes-within : (script : List Act) (made : Happening) (calls : List Recorded) (j k : ℕ) → writes_in (made ∷ []) j k ≡ []
    → length (writes_in (after_calls script made calls) j k) ≤ length calls
writes-within script made [] j k none = let it = ap length none in omega arith
writes-within script made (c ∷ calls) j k none =
    let before : length (writes_in (after_acts (length calls) script (after_calls script made calls)) j k) ≤ length calls =
    subst (λ w. length (w k) ≤ length calls) (sym (acts-writes (length calls) script (after_calls script made calls) j)) (writes-within script made calls j k none) in
    called-writes (slot_call c.call) (after_acts (length calls) script (after_calls script made calls)) c.slot j k (length calls) before

late-writes : (late : List ℕ) (h : List Happening) (j k : ℕ) → writes_in (after_late late h) j k ≡ writes_in h j k
late-writes [] h j k = refl
late-writes (i ∷ late) h j k =
    cond_both (i == j) (with_write (slot.Attach reply.Gone) (writes_in (after_late late h) j)) (writes_in (after_late late h) j)
    (λ w. w k ≡ writes_in (after_late late h) j k) (λ e. refl) (λ e. refl)
    ∙ late-writes late h j k

-- the history has the writes of the record
pub history-writes : (s : MemRackState) (j k : ℕ) → writes_in (history_of s) j k ≡ writes_in (recorded s) j k
history-writes s j k =
    cond_both s.spent (stopped_by_record s) (recorded s) (λ h. writes_in h j k ≡ writes_in (recorded s) j k)
    (λ e. late-writes s.late (slot.Stopped ∷ recorded s) j k) (λ e. refl)

pub moment-writes : (s : MemRackState) (j k : ℕ) → writes_in (moment s) j k ≡ writes_in (recorded s) j k
moment-writes s j k =
    cond_both (has_room s) (after_acts (length s.calls) s.script (recorded s)) (stopped_by_record s)
    (λ h. writes_in h j k ≡ writes_in (recorded s) j k) (λ e. ap (λ (w : Written). w k) (acts-writes (length s.calls) s.script (recorded s) j))
    (λ e. late-writes s.late (slot.Stopped ∷ recorded s) j k)

-- so no sector has more unsynced writes than there were calls
pub pending-within : (s : MemRackState) (places : List PlaceState) (stop : Bool) (h : List Happening) (j k : ℕ) → j < 32 → IsShelfOf places stop h
    → writes_in h j k ≡ writes_in (recorded s) j k → (stored_in (place_at places j).medium k).pending ≤ length s.calls
pending-within s places stop h j k within is writes =
    let x : StoredSector = stored_in (place_at places j).medium k in
    let it = (is.each j within).medium.each k in
    let taken : x.pending ≡ length (take x.pending (writes_in h j k)) = it.pending_is ∙ ap length it.since_is in
    let few : length (writes_in (recorded s) j k) ≤ length s.calls = writes-within s.script (Made (image_over s.made)) s.calls j k refl in
    let same = ap length writes in
    omega (arith, length-take x.pending (writes_in h j k))
