-- What making the cells of a redo known came to.
use Rattle.std.proofs.Common.{◌≡◌, ◌≢◌, ℕ, ◌*◌, ◌<◌, ◌≤◌, inl, inr, sym, subst, arith, None, Option, Some}
use Rattle.std.specs.Prelude.{Ok, Result}
use Rattle.std.specs.Result.{IsErrAnd}
use Rattle.stair_model.specs.CellSet.{CellSet, HasCell, IsInStripe, cell_count}
use Rattle.stair_model.specs.Device.{cell_sector}
use Rattle.stair_model.specs.Geometry.{Geometry, IsWithinLimits, data_cells}
use Rattle.stair_model.specs.Slots.{HasSlot, Slots}
use Rattle.stair_model.specs.Stripe.{Stripe}
use Rattle.stair_model.proofs.SetLaws.{cell_count_member}
use Rattle.stair_rack.specs.RackCounts.{RisesAtMost}
use Rattle.stair_rack.specs.Sector.{Damaged}
use Rattle.stair_rack.specs.RackState.{IsLater, RackState}
use Rattle.stair_rack.proofs.GoneLemmas.{is_gone_wider}
use Rattle.stair_rack.proofs.PassCounts.{rises_more, rises_within}
use Rattle.stair_rack.proofs.RackStateLemmas.{later_none, reading_wider}
use Rattle.stair_member.specs.Membership.{Membership}
use Rattle.stair_member.specs.declared.fault.FenceFault.{FenceFault}
use Rattle.stair_member.proofs.CountingLemmas.{has_or_not}
use Rattle.stair_journal.proofs.ReadGateLemmas.{cell_counted}
use Rattle.stair_stripes.specs.Gathering.{Gathers, IsAway}
use Rattle.stair_stripes.proofs.ReadCounts.{stripe_few}
use Rattle.stair_stripes.specs.declared.gathering.Gathered.{Gathered}
use Rattle.stair_invariant.specs.Effects.{AreLive, FencesGone, Loads, Snapshot, snapshot}
use Rattle.stair_invariant.specs.Session.{IsLiveIn}
use Rattle.stair_array.specs.Arrays.{LacksOne, cells_of, outcome}
use Rattle.stair_array.specs.Calls.{LoadsStripe, Prepares}
use Rattle.stair_array.specs.Faults.{array_fault}
use Rattle.stair_array.specs.Machine.{Refusal}
use Rattle.stair_array.specs.declared.fault.ArrayFault.{ArrayFault}
use Rattle.stair_array.proofs.CourseLemmas.{gathers_after}
use Rattle.stair_array.proofs.GoneToLemmas.{IsAfter, after_join, attaches_none}
use Rattle.stair_array.proofs.PartsLemmas.{out_after}
use Rattle.stair_array.proofs.ReadCourseLemmas.{loaded_after}
use Rattle.stair_array.proofs.ReadingLemmas.{epoch_answer}

-- for whichever number of blocks that don't fill the stripe
abbrev pub ReadiesFor : Membership → ℕ → CellSet → Stripe → Result (Unit {0}) Refusal → Snapshot → Snapshot → Type 0
ReadiesFor m t cells loaded answer x y = (count : ℕ) → count < data_cells m.array.geometry → Prepares t count cells loaded answer x y

module _ (m : Membership) (t : ℕ) (cells : CellSet) (live : Slots) (are : AreLive m live) (old : RackState) where
  -- a slot that isn't live has one of these cells
  module _ (lacking : (i : ℕ) × (j : ℕ) × HasCell cells i j × (¬ HasSlot live j)) where
    away : ¬ IsLiveIn m lacking.1
    away is = lacking.3 ((are.are lacking.1).1 is)

    pub by_stripe : (loaded : Stripe) (answer : Result (Unit {0}) Refusal) (y : Snapshot) → LoadsStripe t loaded answer (snapshot m old) y
        → ReadiesFor m t cells loaded answer (snapshot m old) y
    by_stripe loaded answer y loads count few = Prepares.ByStripe lacking.0 lacking.1 answer (snapshot m old) y few lacking.2 away loads

    pub lacks_slot : (now : RackState) → LacksOne t cells (snapshot m old) now
    lacks_slot now = LacksOne.NotLive lacking.0 lacking.1 lacking.2 away

  -- they were gathered
  module _ (g : Geometry) (same : g ≡ m.array.geometry) (gathered : Gathered) (was read : Stripe) (mid : RackState)
      (gathers : Gathers g live t (HasCell cells) gathered was read old mid) where
    own : Gathers m.array.geometry live t (HasCell cells) gathered was read old mid
    own = subst (λ (k : Geometry). Gathers k live t (HasCell cells) gathered was read old mid) same gathers

    gathering_after : IsAfter old mid
    gathering_after = gathers_after g live t (HasCell cells) gathered was read old mid gathers

    loads : (refusal : Option FenceFault) (y : Snapshot) → FencesGone gathered.gone refusal (snapshot m mid) y
        → Loads t (HasCell cells) gathered was read refusal (snapshot m old) y
    loads refusal y leaves = record { live = live; are_live = are; mid = mid; gathers = own; leaves = leaves }

    pub cells_later : (refusal : Option FenceFault) (y : Snapshot) → FencesGone gathered.gone refusal (snapshot m mid) y → IsLater old y.told
    cells_later refusal y leaves = (after_join gathering_after (out_after gathered.gone refusal (snapshot m mid) y leaves)).later

    -- slots that were gone couldn't be left out
    pub cells_stop : (fault : FenceFault) (result : Result (Unit {0}) ArrayFault) (y : Snapshot) (kept : Stripe) → kept ≡ read
        → IsErrAnd result (λ e. e ≡ array_fault fault) → FencesGone gathered.gone (Some fault) (snapshot m mid) y
        → ReadiesFor m t cells kept (outcome result) (snapshot m old) y
    cells_stop fault result y kept as_read is leaves count few =
        subst (λ (s : Stripe). Prepares t count cells s (outcome result) (snapshot m old) y) (sym as_read)
        (subst (λ (a : Result (Unit {0}) Refusal). Prepares t count cells read a (snapshot m old) y) (sym (epoch_answer result fault is))
        (Prepares.Stops gathered was fault (snapshot m old) y few (loads (Some fault) y leaves)))

    module _ (y : Snapshot) (leaves : FencesGone gathered.gone None (snapshot m mid) y) (found : ℕ) (counted : found ≡ cell_count gathered.erased) where
      -- each of them was had
      pub cells_known : (kept : Stripe) → kept ≡ read → IsWithinLimits m.array.geometry → IsInStripe m.array.geometry cells → found ≡ 0
          → ReadiesFor m t cells kept (Ok tt) (snapshot m old) y
      cells_known kept as_read limits inside zero count few =
          subst (λ (s : Stripe). Prepares t count cells s (Ok tt) (snapshot m old) y) (sym as_read)
          (Prepares.ByCells gathered was (snapshot m old) y few (loads None y leaves)
          (λ i j erased.
          let within = inside i j (own.wanted_erased i j erased) in
          let rows = limits.rows.1 in
          let devices = limits.devices.1 in
          let above = cell_counted gathered.erased i j (omega (arith, within.0, rows)) (omega (arith, within.1, devices)) erased in
          omega (arith, above, counted, zero)))

      -- or one wasn't, and the stripe was loaded
      module _ (some : found ≢ 0) (loaded : Stripe) (answer : Result (Unit {0}) Refusal) (z : Snapshot) (whole : LoadsStripe t loaded answer y z) where
        lost : (i : ℕ) × (j : ℕ) × (i < 32) × (j < 32) × HasCell gathered.erased i j
        lost = cell_count_member gathered.erased (omega (arith, some, counted))

        pub then_stripe : ReadiesFor m t cells loaded answer (snapshot m old) z
        then_stripe count few =
            Prepares.AfterCells gathered was read lost.0 lost.1 answer (snapshot m old) y z few (loads None y leaves) lost.4 whole

        rest : IsAfter mid z.told
        rest = after_join (out_after gathered.gone None (snapshot m mid) y leaves) (loaded_after t loaded answer y z whole)

        pub lacks_cell : LacksOne t cells (snapshot m old) z.told
        lacks_cell =
            elim (has_or_not live lost.1) [
              | inr off ↦ LacksOne.NotLive lost.0 lost.1 wanted (λ on. off ((are.are lost.1).1 on))
              | inl on ↦
                  elim (has_or_not gathered.gone lost.1) [
                    | inl gone ↦
                        LacksOne.WasGone lost.0 lost.1 wanted
                        (is_gone_wider {allowed = attaches_none} old old mid z.told (later_none old) gathering_after.later.honest
                        gathering_after.later.counts rest.later lost.1 (λ c beside. beside) rest.beside (own.gone lost.1 gone))
                    | inr out ↦
                        LacksOne.WasBad lost.0 lost.1 wanted
                        (reading_wider old old mid z.told (later_none old) gathering_after.later.honest gathering_after.later.counts rest.later lost.1
                        (cell_sector m.array.geometry t lost.0) Damaged (own.bad lost.0 lost.1 lost.4 (used on out)).0)
                  ]
            ]
          where
            wanted : HasCell cells lost.0 lost.1
            wanted = own.wanted_erased lost.0 lost.1 lost.4

            used : HasSlot live lost.1 → ¬ HasSlot gathered.gone lost.1 → ¬ IsAway live gathered.gone lost.1
            used on out (inl dead) = dead on
            used on out (inr gone) = out gone

-- READS

-- the cells of a redo, and those of the stripe too, are few
module _ (g : Geometry) (cells : CellSet) (limits : IsWithinLimits g) (inside : IsInStripe g cells) where
  few : cell_count cells ≤ cells_of g
  few = stripe_few g cells inside limits.rows.1 limits.devices.1

  pub cells_few : (o m n : Option ℕ) → n ≡ m → RisesAtMost (cell_count cells) o m → RisesAtMost (2 * cells_of g) o n
  cells_few o m n same rises =
      rises_within (cell_count cells) (2 * cells_of g) o n (omega (arith, few)) (subst (RisesAtMost (cell_count cells) o) (sym same) rises)

  pub both_few : (o m n k : Option ℕ) → n ≡ m → RisesAtMost (cell_count cells) o m → (h : Geometry) → h ≡ g → RisesAtMost (cells_of h) n k
      → RisesAtMost (2 * cells_of g) o k
  both_few o m n k same rises h alike more =
      rises_more (cells_of g) (cells_of g) (2 * cells_of g) o n k (omega arith)
      (rises_within (cell_count cells) (cells_of g) o n few (subst (RisesAtMost (cell_count cells) o) (sym same) rises))
      (subst (λ (f : Geometry). RisesAtMost (cells_of f) n k) alike more)
