-- Runs of reads alone.
use Rattle.std.proofs.Common.{ℕ, List, sym, subst}
use Rattle.stair_rack.specs.Answers.{Calls, IsBesideAttach, Ran}
use Rattle.stair_rack.specs.History.{Happening, SlotCall, Attach, Sectors, Read, Write, Sync}
use Rattle.stair_rack.specs.Reading.{IsReadOf}
use Rattle.stair_rack.specs.declared.rack.Got.{Got}
use Rattle.stair_rack.proofs.MomentLemmas.{IsThis, calls_ran, ran_weakened}

-- one read
pub read_ran : {slots sectors : ℕ → Type 0} {old new : List Happening} {j k : ℕ} {answer : Got} → slots j → sectors k
    → Calls old new j (Read k answer) → Ran (IsReadOf slots sectors) old new
read_ran {slots} {sectors} {j = j} {k = k} {answer = answer} on of called =
    ran_weakened {allowed = IsThis j (Read k answer)} {more = IsReadOf slots sectors} this_one (calls_ran called)
  where
    this_one : (i : ℕ) (c : SlotCall) → IsThis j (Read k answer) i c → IsReadOf slots sectors i c
    this_one i c this = subst (IsReadOf slots sectors i) (sym this.1) (subst slots (sym this.0) on, of)

-- a read attaches no slot
pub reads_beside : (slots sectors : ℕ → Type 0) (j : ℕ) (c : SlotCall) → IsReadOf slots sectors j c → IsBesideAttach c
reads_beside slots sectors j (Attach answer) is = is
reads_beside slots sectors j (Sectors size) is = tt
reads_beside slots sectors j (Read k answer) is = tt
reads_beside slots sectors j (Write k bytes answer) is = tt
reads_beside slots sectors j (Sync answer) is = tt

-- reads of these slots and sectors are reads of more of them
pub reads_within : {slots sectors slots' sectors' : ℕ → Type 0} {old new : List Happening} → ((j : ℕ) → slots j → slots' j)
    → ((k : ℕ) → sectors k → sectors' k) → Ran (IsReadOf slots sectors) old new → Ran (IsReadOf slots' sectors') old new
reads_within {slots} {sectors} {slots'} {sectors'} on of ran =
    ran_weakened {allowed = IsReadOf slots sectors} {more = IsReadOf slots' sectors'} within ran
  where
    within : (j : ℕ) (c : SlotCall) → IsReadOf slots sectors j c → IsReadOf slots' sectors' j c
    within j (Attach answer) is = is
    within j (Sectors size) is = is
    within j (Read k answer) is = (on j is.0, of k is.1)
    within j (Write k bytes answer) is = is
    within j (Sync answer) is = is
