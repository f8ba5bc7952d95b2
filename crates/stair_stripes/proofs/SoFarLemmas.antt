-- How far gathering has come: the next cell, the next chunk, and all of them.
use Rattle.std.proofs.Common.{◌≡◌, ℕ, ◌+◌, ◌<◌, List, inl, inr, refl, sym, ◌∙◌, subst, arith}
use Rattle.std.specs.Prelude.{◌⊎◌, ◌↔◌, ◌≢◌, IsTrue}
use Rattle.std.proofs.lemmas.Bool.{cases_eq}
use Rattle.stair_model.specs.CellSet.{CellSet, HasCell, IsCellSet, IsInStripe}
use Rattle.stair_model.specs.Device.{cell_sector}
use Rattle.stair_model.specs.Geometry.{Geometry}
use Rattle.stair_model.specs.Slots.{Slots, HasSlot, IsSlotSet}
use Rattle.stair_model.specs.Stripe.{Stripe, IsStripeOf, IsWellFormed, with_cell}
use Rattle.stair_rack.specs.Answers.{Calls, Ran, no_call}
use Rattle.stair_rack.specs.History.{Happening, Read}
use Rattle.stair_rack.specs.Sector.{Good, Damaged}
use Rattle.stair_rack.specs.Stretch.{WasAnswered}
use Rattle.stair_rack.specs.RackState.{RackState, IsGone, IsLater, IsReading}
use Rattle.stair_rack.specs.declared.rack.Got.{Got}
use Rattle.stair_rack.specs.declared.rack.Got.TheVariants as got
use Rattle.stair_rack.proofs.MomentLemmas.{IsThis, calls_ran, ran_none, ran_weakened}
use Rattle.stair_rack.proofs.PassCounts.{NoneFalls-same}
use Rattle.stair_rack.proofs.StretchLemmas.{answered_allowed}
use Rattle.stair_rack.proofs.RackStateLemmas.{later_none}
use Rattle.stair_stripes.specs.Gathering.{Gathers, IsCellOf, IsReadOfCell}
use Rattle.stair_stripes.specs.Reads.{ReadsInTurn}
use Rattle.stair_stripes.specs.GatheringSteps.{ErasesChunk, GathersBefore, GoesOn, IsWantedBefore}
use Rattle.stair_stripes.specs.declared.gathering.Gathered.{Gathered}
use Rattle.stair_stripes.proofs.GatheringLemmas.{gathers_bad, gathers_erased, gathers_good, gathers_same}
use Rattle.stair_stripes.proofs.ReadsLemmas.{reads_all, reads_cell, reads_dead, reads_ended, reads_lost, reads_none, reads_skipped}

-- WHICH CELLS

module _ (wanted : CellSet) (slot row : ℕ) where
  pub not_before : ¬ IsWantedBefore wanted slot row row slot
  not_before (is_wanted, inl less) = omega (arith, less)
  not_before (is_wanted, inr here) = omega (arith, here.1)

  -- this cell is the next
  pub wanted_next : HasCell wanted row slot → (i j : ℕ)
      → IsWantedBefore wanted slot (row + 1) i j ↔ (IsWantedBefore wanted slot row i j ⊎ ((i ≡ row) × (j ≡ slot)))
  wanted_next is_wanted i j = (into, from)
    where
      into : IsWantedBefore wanted slot (row + 1) i j → IsWantedBefore wanted slot row i j ⊎ ((i ≡ row) × (j ≡ slot))
      into (is, inl less) = inl (is, inl less)
      into (is, inr chunk) =
          elim (cases_eq i row) [ inl here ↦ inr (here, chunk.0) | inr other ↦ inl (is, inr (chunk.0, omega (arith, chunk.1, other))) ]

      from : IsWantedBefore wanted slot row i j ⊎ ((i ≡ row) × (j ≡ slot)) → IsWantedBefore wanted slot (row + 1) i j
      from (inl (is, inl less)) = (is, inl less)
      from (inl (is, inr chunk)) = (is, inr (chunk.0, omega (arith, chunk.1)))
      from (inr here) = (rw (here.0, here.1) is_wanted, inr (here.1, omega (arith, here.0)))

  pub wanted_skipped : ¬ HasCell wanted row slot → (i j : ℕ) → IsWantedBefore wanted slot row i j ↔ IsWantedBefore wanted slot (row + 1) i j
  wanted_skipped unwanted i j = (into, from)
    where
      into : IsWantedBefore wanted slot row i j → IsWantedBefore wanted slot (row + 1) i j
      into (is, inl less) = (is, inl less)
      into (is, inr chunk) = (is, inr (chunk.0, omega (arith, chunk.1)))

      from : IsWantedBefore wanted slot (row + 1) i j → IsWantedBefore wanted slot row i j
      from (is, inl less) = (is, inl less)
      from (is, inr chunk) =
          elim (cases_eq i row) [
            | inl here ↦ absurd (unwanted (rw (← here, ← chunk.0) is))
            | inr other ↦ (is, inr (chunk.0, omega (arith, chunk.1, other)))
          ]

  -- the chunk as a whole
  pub wanted_chunk : (i j : ℕ) → IsWantedBefore wanted (slot + 1) 0 i j ↔ (IsWantedBefore wanted slot row i j ⊎ (HasCell wanted i j × (j ≡ slot)))
  wanted_chunk i j = (into, from)
    where
      into : IsWantedBefore wanted (slot + 1) 0 i j → IsWantedBefore wanted slot row i j ⊎ (HasCell wanted i j × (j ≡ slot))
      into (is, inl less) =
          elim (cases_eq j slot) [ inl here ↦ inr (is, here) | inr other ↦ inl (is, inl (omega (arith, less, other))) ]
      into (is, inr chunk) = absurd (omega (arith, chunk.1))

      from : IsWantedBefore wanted slot row i j ⊎ (HasCell wanted i j × (j ≡ slot)) → IsWantedBefore wanted (slot + 1) 0 i j
      from (inl (is, inl less)) = (is, inl (omega (arith, less)))
      from (inl (is, inr chunk)) = (is, inl (omega (arith, chunk.0)))
      from (inr (is, here)) = (is, inl (omega (arith, here)))

-- its last row was reached
wanted_ended : (g : Geometry) (wanted : CellSet) (slot : ℕ) → IsInStripe g wanted → (i j : ℕ)
    → IsWantedBefore wanted slot g.r i j ↔ IsWantedBefore wanted (slot + 1) 0 i j
wanted_ended g wanted slot in_stripe i j = (into, from)
  where
    into : IsWantedBefore wanted slot g.r i j → IsWantedBefore wanted (slot + 1) 0 i j
    into before = (wanted_chunk wanted slot g.r i j).1 (inl before)

    from : IsWantedBefore wanted (slot + 1) 0 i j → IsWantedBefore wanted slot g.r i j
    from before =
        elim ((wanted_chunk wanted slot g.r i j).0 before) [
          | inl earlier ↦ earlier
          | inr chunk ↦ (chunk.0, inr (chunk.1, (in_stripe i j chunk.0).0))
        ]

-- and the last slot
wanted_all : (g : Geometry) (wanted : CellSet) → IsInStripe g wanted → (i j : ℕ) → IsWantedBefore wanted g.n 0 i j ↔ HasCell wanted i j
wanted_all g wanted in_stripe i j = (λ before. before.0, λ is. (is, inl (in_stripe i j is).1))

-- A CHUNK

-- a read of a wanted cell on a live slot
read_ran : (g : Geometry) (live : Slots) (t slot row : ℕ) (V : ℕ → ℕ → Type 0) (answer : Got) (old new : List Happening) → HasSlot live slot
    → V row slot → Calls old new slot (Read (cell_sector g t row) answer) → Ran (IsReadOfCell g live t V) old new
read_ran g live t slot row V answer old new is_live is_wanted told =
    ran_weakened {allowed = IsThis slot (Read (cell_sector g t row) answer)} {more = IsReadOfCell g live t V}
    (λ j c this. record {
      on = subst (λ (k : ℕ). HasSlot live k) (sym this.0) is_live;
      row = row;
      is_wanted = subst (λ (k : ℕ). V row k) (sym this.0) is_wanted;
      answer = answer;
      is = this.1;
    })
    (calls_ran told)

-- where nothing happened no slot answered
never_answered : (h : List Happening) (j k : ℕ) → ¬ WasAnswered j (Read k got.Gone) h h
never_answered h j k was = answered_allowed {allowed = no_call} (ran_none {allowed = no_call} h) was

pub goes_none : (g : Geometry) (t : ℕ) (wanted : CellSet) (slot : ℕ) (gathered : Gathered) (into : Stripe) (now : RackState)
    → GoesOn g t wanted slot slot 0 gathered gathered into into now now
goes_none g t wanted slot gathered into now = record { on = λ live was old is_live before. before }

module _ (g : Geometry) (t : ℕ) (wanted : CellSet) (in_stripe : IsInStripe g wanted) (slot row : ℕ) (first so_far : Gathered) (into into' : Stripe)
    (mid now : RackState) (goes : GoesOn g t wanted slot slot row first so_far into into' mid now) where
  -- a cell of the chunk isn't wanted
  pub goes_skipped : ¬ HasCell wanted row slot → GoesOn g t wanted slot slot (row + 1) first so_far into into' mid now
  goes_skipped unwanted = record {
    on = λ live was old is_live before.
        let here = goes.on live was old is_live before in
        record {
          gathers =
              gathers_same g live t (IsWantedBefore wanted slot row) (IsWantedBefore wanted slot (row + 1)) so_far was into' old now
              (wanted_skipped wanted slot row unwanted) here.gathers;
          gone_before = here.gone_before;
          in_turn = λ is. reads_skipped g live t wanted slot row so_far.gone old.history now.history (here.in_turn is) unwanted;
        };
  }

  -- all of its cells were read
  pub goes_ended : row ≡ g.r → GoesOn g t wanted slot (slot + 1) 0 first so_far into into' mid now
  goes_ended all = record {
    on = λ live was old is_live before.
        let here = goes.on live was old is_live before in
        record {
          gathers =
              gathers_same g live t (IsWantedBefore wanted slot g.r) (IsWantedBefore wanted (slot + 1) 0) so_far was into' old now
              (wanted_ended g wanted slot in_stripe)
              (subst (λ (i : ℕ). Gathers g live t (IsWantedBefore wanted slot i) so_far was into' old now) all here.gathers);
          gone_before = λ j gone. omega (arith, here.gone_before j gone);
          in_turn = λ is.
              reads_ended g live t wanted slot row so_far.gone old.history now.history (here.in_turn is) all is_live
              (λ gone. omega (arith, here.gone_before slot gone));
        };
  }

  -- a wanted cell was read
  module _ (new : RackState) (row_in : row < g.r) (slot_in : slot < g.n) (is_wanted : HasCell wanted row slot) (later : IsLater now new) (answer : Got)
      (told : IsTrue new.honest → Calls now.history new.history slot (Read (cell_sector g t row) answer)) where
    ran : (V : ℕ → ℕ → Type 0) → V row slot → (live : Slots) → HasSlot live slot → IsTrue new.honest
        → Ran (IsReadOfCell g live t V) now.history new.history
    ran V in_v live is_live is = read_ran g live t slot row V answer now.history new.history is_live in_v (told is)

    grows_next : (i j : ℕ) → IsWantedBefore wanted slot row i j → IsWantedBefore wanted slot (row + 1) i j
    grows_next i j before = (wanted_next wanted slot row is_wanted i j).1 (inl before)

    ran_next : (live : Slots) → HasSlot live slot → IsTrue new.honest
        → Ran (IsReadOfCell g live t (IsWantedBefore wanted slot (row + 1))) now.history new.history
    ran_next = ran (IsWantedBefore wanted slot (row + 1)) ((wanted_next wanted slot row is_wanted row slot).1 (inr (refl, refl)))

    ran_chunk : (live : Slots) → HasSlot live slot → IsTrue new.honest
        → Ran (IsReadOfCell g live t (IsWantedBefore wanted (slot + 1) 0)) now.history new.history
    ran_chunk = ran (IsWantedBefore wanted (slot + 1) 0) ((wanted_chunk wanted slot row row slot).1 (inr (is_wanted, refl)))

    within : (i j : ℕ) → IsWantedBefore wanted slot row i j → IsCellOf g i j
    within i j before = in_stripe i j before.0

    -- no other slot answered than this one
    answers : IsTrue new.honest → (j k : ℕ) → WasAnswered j (Read k got.Gone) now.history new.history → (j ≡ slot) × (answer ≡ got.Gone)
    answers is j k was =
        let this = answered_allowed {allowed = IsThis slot (Read (cell_sector g t row) answer)} (calls_ran (told is)) was in
        let call : Read k got.Gone ≡ Read (cell_sector g t row) answer = this.1 in
        let gone : answer ≡ got.Gone = cc in
        (this.0, gone)

    there : (live : Slots) (was : Stripe) (old : RackState) → GathersBefore g live t wanted slot row so_far was into' old now → ¬ HasSlot so_far.gone slot
    there live was old here gone = omega (arith, here.gone_before slot gone)

    pub goes_good : answer ≢ got.Gone → (bytes : List ℕ) → IsWellFormed (with_cell into' row slot bytes) → IsReading slot (cell_sector g t row) now new (Good bytes)
        → GoesOn g t wanted slot slot (row + 1) first so_far into (with_cell into' row slot bytes) mid new
    goes_good answered bytes formed reading = record {
      on = λ live was old is_live before.
          let here = goes.on live was old is_live before in
          record {
            gathers =
                gathers_good g live t (IsWantedBefore wanted slot row) (IsWantedBefore wanted slot (row + 1)) so_far was into' old now new here.gathers
                later grows_next (ran_next live is_live) row slot row_in slot_in is_live (there live was old here) (not_before wanted slot row) within
                (wanted_next wanted slot row is_wanted) (λ is j k answering. answered (answers is j k answering).1) bytes formed reading;
            gone_before = here.gone_before;
            in_turn = λ is.
                reads_cell g live t wanted slot row so_far.gone old.history now.history (here.in_turn (later.honest ∙ is)) answer new.history is_wanted
                answered (told is);
          };
    }

    pub goes_bad : answer ≢ got.Gone → (erased : CellSet) → IsCellSet erased → ((i j : ℕ) → HasCell erased i j ↔ (HasCell so_far.erased i j ⊎ ((i ≡ row) × (j ≡ slot))))
        → IsReading slot (cell_sector g t row) now new Damaged
        → GoesOn g t wanted slot slot (row + 1) first (record { erased = erased; gone = so_far.gone }) into into' mid new
    goes_bad answered erased formed members reading = record {
      on = λ live was old is_live before.
          let here = goes.on live was old is_live before in
          record {
            gathers =
                gathers_bad g live t (IsWantedBefore wanted slot row) (IsWantedBefore wanted slot (row + 1)) so_far was into' old now new here.gathers
                later grows_next (ran_next live is_live) row slot row_in slot_in is_live (there live was old here) (not_before wanted slot row) within
                (wanted_next wanted slot row is_wanted) (λ is j k answering. answered (answers is j k answering).1) erased formed members reading;
            gone_before = here.gone_before;
            in_turn = λ is.
                reads_cell g live t wanted slot row so_far.gone old.history now.history (here.in_turn (later.honest ∙ is)) answer new.history is_wanted
                answered (told is);
          };
    }

    -- the slots before this one are gone as they were
    agree : (after : Gathered) → ((j : ℕ) → HasSlot after.gone j ↔ (HasSlot so_far.gone j ⊎ (j ≡ slot))) → (j : ℕ) → j < slot
        → HasSlot so_far.gone j ↔ HasSlot after.gone j
    agree after members j less = (
      λ had. (members j).1 (inl had),
      λ has. elim ((members j).0 has) [ inl had ↦ had | inr same ↦ absurd (omega (arith, less, same)) ],
    )

    pub goes_lost : answer ≡ got.Gone → (after : Gathered) → IsSlotSet after.gone → ((j : ℕ) → HasSlot after.gone j ↔ (HasSlot so_far.gone j ⊎ (j ≡ slot)))
        → ErasesChunk wanted slot so_far.erased after.erased → IsGone slot now new → GoesOn g t wanted slot (slot + 1) 0 first after into into' mid new
    goes_lost answered after formed_gone members erases is_gone = record {
      on = λ live was old is_live before.
          let here = goes.on live was old is_live before in
          record {
            gathers =
                gathers_erased g live t (IsWantedBefore wanted slot row) (IsWantedBefore wanted (slot + 1) 0) so_far was into' old now new here.gathers
                later (λ i j before. (wanted_chunk wanted slot row i j).1 (inl before)) (ran_chunk live is_live) slot wanted after erases.formed formed_gone (λ i j before. before.0) (wanted_chunk wanted slot row)
                erases.members (inr ((members slot).1 (inr refl))) (λ j gone. (members j).1 (inl gone)) (λ j gone. (members j).0 gone)
                (λ gone. inr (is_live, slot_in, is_gone)) (λ is j k answering. (members j).1 (inr (answers is j k answering).0));
            gone_before = λ j gone.
                elim ((members j).0 gone) [ inl had ↦ omega (arith, here.gone_before j had) | inr same ↦ omega (arith, same) ];
            in_turn = λ is.
                reads_lost g live t wanted slot row so_far.gone old.history now.history (here.in_turn (later.honest ∙ is)) after.gone new.history
                is_live ((members slot).1 (inr refl)) (agree after members) is_wanted
                (subst (λ (a : Got). Calls now.history new.history slot (Read (cell_sector g t row) a)) answered (told is));
          };
    }

-- ALL CHUNKS

pub before_none : (g : Geometry) (live : Slots) (t : ℕ) (wanted : CellSet) (gathered : Gathered) (into : Stripe) (now : RackState)
    → IsStripeOf g into → ((i j : ℕ) → ¬ HasCell gathered.erased i j) → IsCellSet gathered.erased → ((j : ℕ) → ¬ HasSlot gathered.gone j)
    → IsSlotSet gathered.gone → GathersBefore g live t wanted 0 0 gathered into into now now
before_none g live t wanted gathered into now shape no_cell formed_erased no_slot formed_gone = record {
  gathers = record {
    given = λ i j before kept. absurd (none i j before);
    wanted_erased = λ i j erased. absurd (no_cell i j erased);
    away = λ i j before is_away. absurd (none i j before);
    bad = λ i j erased used. absurd (no_cell i j erased);
    rest = λ i j in_stripe either. refl;
    kept_or_read = λ i j in_stripe. inl refl;
    shape = shape;
    live_gone = λ j gone. absurd (no_slot j gone);
    gone = λ j gone. absurd (no_slot j gone);
    formed_erased = formed_erased;
    formed_gone = formed_gone;
    honest = refl;
    counts = NoneFalls-same now.bads now.gones;
    told = λ is j k was. absurd (never_answered now.history j k was);
    ran = λ is. ran_none now.history;
  };
  gone_before = λ j gone. absurd (no_slot j gone);
  in_turn = λ is. reads_none g live t wanted gathered.gone now.history;
}
  where
    none : (i j : ℕ) → ¬ IsWantedBefore wanted 0 0 i j
    none i j (is_wanted, inl less) = omega (arith, less)
    none i j (is_wanted, inr here) = omega (arith, here.1)

module _ (g : Geometry) (live : Slots) (t : ℕ) (wanted : CellSet) (gathered : Gathered) (was into : Stripe) (old now : RackState) where
  -- the chunk of a slot that isn't live is erased
  pub before_dead : (slot : ℕ) (erased : CellSet) → GathersBefore g live t wanted slot 0 gathered was into old now → ¬ HasSlot live slot
      → ErasesChunk wanted slot gathered.erased erased
      → GathersBefore g live t wanted (slot + 1) 0 (record { erased = erased; gone = gathered.gone }) was into old now
  before_dead slot erased before dead erases = record {
    gathers =
        gathers_erased g live t (IsWantedBefore wanted slot 0) (IsWantedBefore wanted (slot + 1) 0) gathered was into old now now before.gathers
        (later_none now) (λ i j earlier. (wanted_chunk wanted slot 0 i j).1 (inl earlier)) (λ is. ran_none now.history) slot wanted (record { erased = erased; gone = gathered.gone }) erases.formed
        before.gathers.formed_gone (λ i j earlier. earlier.0) (wanted_chunk wanted slot 0) erases.members (inl dead) (λ j gone. gone)
        (λ j gone. inl gone) (λ gone. inl gone) (λ is j k was. absurd (never_answered now.history j k was));
    gone_before = λ j gone. omega (arith, before.gone_before j gone);
    in_turn = λ is. reads_dead g live t wanted slot gathered.gone old.history now.history (before.in_turn is) dead;
  }

  pub before_all : IsInStripe g wanted → GathersBefore g live t wanted g.n 0 gathered was into old now
      → Gathers g live t (HasCell wanted) gathered was into old now
  before_all in_stripe before =
      gathers_same g live t (IsWantedBefore wanted g.n 0) (HasCell wanted) gathered was into old now (wanted_all g wanted in_stripe) before.gathers

  pub in_turn_all : GathersBefore g live t wanted g.n 0 gathered was into old now → IsTrue now.honest
      → ReadsInTurn g live t (HasCell wanted) gathered.gone old.history now.history
  in_turn_all before is = reads_all g live t wanted gathered.gone old.history now.history (before.in_turn is)
