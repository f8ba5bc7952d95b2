-- What was gathered, a cell more and a chunk more.
use Rattle.std.proofs.Common.{◌≡◌, ℕ, ◌*◌, ◌+◌, ◌<◌, List, inl, inr, sym, ap₂, ◌∙◌, subst, arith, length-set, get_or-set_same}
use Rattle.std.specs.Prelude.{◌⊎◌, ◌↔◌, IsTrue}
use Rattle.std.proofs.lemmas.Bool.{cases_eq}
use Rattle.std.proofs.lemmas.Nat.{mul-add-lt}
use Rattle.stair_model.specs.CellSet.{CellSet, HasCell, IsCellSet}
use Rattle.stair_model.specs.Device.{cell_sector}
use Rattle.stair_model.specs.Geometry.{Geometry}
use Rattle.stair_model.specs.Slots.{Slots, HasSlot, IsSlotSet}
use Rattle.stair_model.specs.Stripe.{Stripe, IsWellFormed, cell, with_cell}
use Rattle.stair_model.proofs.StripeLaws.{cell-with_cell_other}
use Rattle.stair_rack.specs.Answers.{IsBesideAttach, Ran}
use Rattle.stair_rack.specs.History.{Happening, Read, SlotCall}
use Rattle.stair_rack.specs.RackCounts.{NoneFalls}
use Rattle.stair_rack.specs.Sector.{Cell, Good, Damaged}
use Rattle.stair_rack.specs.Stretch.{WasAnswered}
use Rattle.stair_rack.specs.RackState.{RackState, IsGone, IsLater, IsReading}
use Rattle.stair_rack.specs.declared.rack.Got.TheVariants as got
use Rattle.stair_rack.proofs.GoneLemmas.{is_gone_wider}
use Rattle.stair_rack.proofs.MomentLemmas.{moment_between, ran_any, ran_join, ran_none, ran_weakened}
use Rattle.stair_rack.proofs.PassCounts.{NoneFalls-then}
use Rattle.stair_rack.proofs.RackStateLemmas.{later_none, reading_wider}
use Rattle.stair_journal.proofs.ToldLemmas.{answered_cases}
use Rattle.stair_stripes.specs.Gathering.{Gathers, IsAway, IsCellOf, IsReadOfCell}
use Rattle.stair_stripes.specs.declared.gathering.Gathered.{Gathered}

-- reads of wanted cells are reads of more of them
reads_wider : (g : Geometry) (live : Slots) (t : ℕ) (W V : ℕ → ℕ → Type 0) (old new : List Happening) → ((i j : ℕ) → W i j → V i j)
    → Ran (IsReadOfCell g live t W) old new → Ran (IsReadOfCell g live t V) old new
reads_wider g live t W V old new grows ran =
    ran_weakened {allowed = IsReadOfCell g live t W} {more = IsReadOfCell g live t V}
    (λ j c read. record { on = read.on; row = read.row; is_wanted = grows read.row j read.is_wanted; answer = read.answer; is = read.is }) ran

-- the same cells are gathered
pub gathers_same : (g : Geometry) (live : Slots) (t : ℕ) (W V : ℕ → ℕ → Type 0) (gathered : Gathered) (was into : Stripe) (old new : RackState)
    → ((i j : ℕ) → W i j ↔ V i j) → Gathers g live t W gathered was into old new → Gathers g live t V gathered was into old new
gathers_same g live t W V gathered was into old new same before = record {
  given = λ i j wanted kept. before.given i j ((same i j).1 wanted) kept;
  wanted_erased = λ i j erased. (same i j).0 (before.wanted_erased i j erased);
  away = λ i j wanted away. before.away i j ((same i j).1 wanted) away;
  bad = before.bad;
  rest = λ i j in_stripe either.
      before.rest i j in_stripe (elim either [ inl other ↦ inl (λ wanted. other ((same i j).0 wanted)) | inr dead ↦ inr dead ]);
  kept_or_read = before.kept_or_read;
  shape = before.shape;
  live_gone = before.live_gone;
  gone = before.gone;
  formed_erased = before.formed_erased;
  formed_gone = before.formed_gone;
  honest = before.honest;
  counts = before.counts;
  told = before.told;
  ran = λ is. reads_wider g live t W V old.history new.history (λ i j. (same i j).0) (before.ran is);
}

read_beside : (g : Geometry) (live : Slots) (t : ℕ) (W : ℕ → ℕ → Type 0) (j : ℕ) (c : SlotCall) → IsReadOfCell g live t W j c → IsBesideAttach c
read_beside g live t W j c read = subst (λ (d : SlotCall). IsBesideAttach d) (sym read.is) tt

-- What was gathered of the cells W is known at a later moment, when those of V are gathered.
module _ (g : Geometry) (live : Slots) (t : ℕ) (W V : ℕ → ℕ → Type 0) (gathered : Gathered) (was into : Stripe) (old mid new : RackState)
    (before : Gathers g live t W gathered was into old mid) (later : IsLater mid new)
    (grows : (i j : ℕ) → W i j → V i j) (ran : IsTrue new.honest → Ran (IsReadOfCell g live t V) mid.history new.history) where
  -- the calls that gather
  abbrev gathering : ℕ → SlotCall → Type 0
  gathering = IsReadOfCell g live t V

  earlier : IsLater old mid
  earlier =
      record { counts = before.counts; honest = before.honest; ran = λ is. ran_any {allowed = IsReadOfCell g live t W} (before.ran is) }

  read_before : (j k : ℕ) (found : Cell) → IsReading j k old mid found → IsReading j k old new found
  read_before = reading_wider old old mid new (later_none old) before.honest before.counts later

  read_now : (j k : ℕ) (found : Cell) → IsReading j k mid new found → IsReading j k old new found
  read_now = reading_wider old mid new new earlier later.honest later.counts (later_none new)

  gone_still : (j : ℕ) → HasSlot gathered.gone j → IsGone j old new
  gone_still j has =
      is_gone_wider {allowed = gathering} old old mid new (later_none old) before.honest before.counts later j
      (read_beside g live t V j) ran (before.gone j has)

  gone_now : (j : ℕ) → IsGone j mid new → IsGone j old new
  gone_now j was_gone =
      is_gone_wider {allowed = gathering} old mid new new earlier later.honest later.counts (later_none new) j
      (read_beside g live t V j) (λ is. ran_none new.history) was_gone

  honest_on : old.honest ≡ new.honest
  honest_on = before.honest ∙ later.honest

  counts_on : NoneFalls old.bads new.bads old.gones new.gones
  counts_on = NoneFalls-then before.counts later.counts

  ran_on : IsTrue new.honest → Ran gathering old.history new.history
  ran_on is = ran_join (reads_wider g live t W V old.history mid.history grows (before.ran (later.honest ∙ is))) (ran is)

  -- each slot that answered gone is one of these, where those before are
  told_on : (gone : Slots) → ((j : ℕ) → HasSlot gathered.gone j → HasSlot gone j)
      → (IsTrue new.honest → (j k : ℕ) → WasAnswered j (Read k got.Gone) mid.history new.history → HasSlot gone j) → IsTrue new.honest → (j k : ℕ)
      → WasAnswered j (Read k got.Gone) old.history new.history → HasSlot gone j
  told_on gone kept now is j k was =
      elim (answered_cases (moment_between {a = IsReadOfCell g live t W} {b = gathering} (before.ran (later.honest ∙ is)) (ran is)) was) [
        | inl sooner ↦ kept j (before.told (later.honest ∙ is) j k sooner)
        | inr late ↦ now is j k late
      ]

  -- what stands in a cell is what it was, or what was read
  stands : (i j : ℕ) → IsCellOf g i j → (cell into i j ≡ cell was i j) ⊎ IsReading j (cell_sector g t i) old new (Good (cell into i j))
  stands i j in_stripe =
      elim (before.kept_or_read i j in_stripe) [
        | inl kept ↦ inl kept
        | inr read ↦ inr (read_before j (cell_sector g t i) (Good (cell into i j)) read)
      ]

  -- A cell of a live slot was read, and its slot wasn't gone.
  module _ (row slot : ℕ) (row_in : row < g.r) (slot_in : slot < g.n) (on : HasSlot live slot) (there : ¬ HasSlot gathered.gone slot)
      (fresh : ¬ W row slot) (within : (i j : ℕ) → W i j → IsCellOf g i j) (more : (i j : ℕ) → V i j ↔ (W i j ⊎ ((i ≡ row) × (j ≡ slot))))
      (answered : IsTrue new.honest → (j k : ℕ) → ¬ WasAnswered j (Read k got.Gone) mid.history new.history) where
    told_still : IsTrue new.honest → (j k : ℕ) → WasAnswered j (Read k got.Gone) old.history new.history → HasSlot gathered.gone j
    told_still = told_on gathered.gone (λ j has. has) (λ is j k was. absurd (answered is j k was))

    in_use : ¬ IsAway live gathered.gone slot
    in_use (inl dead) = dead on
    in_use (inr gone) = there gone

    -- of the cells that were gathered it is none
    apart : (i j : ℕ) → W i j → ¬ ((i ≡ row) × (j ≡ slot))
    apart i j in_w same = fresh (subst (λ (k : ℕ). W row k) same.1 (subst (λ (k : ℕ). W k j) same.0 in_w))

    is_here : (i j : ℕ) → ((i ≡ row) × (j ≡ slot)) ⊎ (¬ ((i ≡ row) × (j ≡ slot)))
    is_here i j =
        elim (cases_eq i row) [
          | inl same_row ↦ elim (cases_eq j slot) [ inl same_slot ↦ inl (same_row, same_slot) | inr other ↦ inr (λ same. other same.1) ]
          | inr other ↦ inr (λ same. other same.0)
        ]

    -- a cell that stays as it was isn't among them, nor this one
    unwanted : (i j : ℕ) → (¬ V i j) ⊎ (¬ HasSlot live j) → ((¬ W i j) ⊎ (¬ HasSlot live j)) × ¬ ((i ≡ row) × (j ≡ slot))
    unwanted i j (inl other) = (inl (λ in_w. other ((more i j).1 (inl in_w))), λ same. other ((more i j).1 (inr same)))
    unwanted i j (inr dead) = (inr dead, λ same. dead (rw (same.1) on))

    module _ (bytes : List ℕ) (formed : IsWellFormed (with_cell into row slot bytes)) (reading : IsReading slot (cell_sector g t row) mid new (Good bytes)) where
      put : Stripe
      put = with_cell into row slot bytes

      here : (i j : ℕ) → i ≡ row → j ≡ slot → cell (with_cell into row slot bytes) i j ≡ bytes
      here i j same_row same_slot =
          let place : row * into.chunks + slot < into.chunks * into.rows =
          mul-add-lt row into.chunks slot into.rows (omega (arith, before.shape.rows)) (omega (arith, before.shape.chunks)) in
          ap₂ (λ (k l : ℕ). cell (with_cell into row slot bytes) k l) same_row same_slot
          ∙ get_or-set_same into.cells (row * into.chunks + slot) bytes _
          (omega (arith, place, formed.count, length-set into.cells (row * into.chunks + slot) bytes))

      elsewhere : (i j : ℕ) → j < g.n → ¬ ((i ≡ row) × (j ≡ slot)) → cell (with_cell into row slot bytes) i j ≡ cell into i j
      elsewhere i j j_in other =
          cell-with_cell_other into i j row slot bytes (omega (arith, before.shape.chunks)) (omega (arith, before.shape.chunks)) other

      -- this cell was read, and those that were read before still are
      read_here : (i j : ℕ) → (i ≡ row) × (j ≡ slot)
          → IsReading j (cell_sector g t i) old new (Good (cell (with_cell into row slot bytes) i j))
      read_here i j same =
          subst (λ (b : List ℕ). IsReading j (cell_sector g t i) old new (Good b)) (sym (here i j same.0 same.1))
          (subst (λ (k : ℕ). IsReading k (cell_sector g t i) old new (Good bytes)) (sym same.1)
          (subst (λ (k : ℕ). IsReading slot (cell_sector g t k) old new (Good bytes)) (sym same.0)
          (read_now slot (cell_sector g t row) (Good bytes) reading)))

      still_read : (i j : ℕ) → j < g.n → ¬ ((i ≡ row) × (j ≡ slot)) → IsReading j (cell_sector g t i) old new (Good (cell into i j))
          → IsReading j (cell_sector g t i) old new (Good (cell (with_cell into row slot bytes) i j))
      still_read i j j_in other read =
          subst (λ (b : List ℕ). IsReading j (cell_sector g t i) old new (Good b)) (sym (elsewhere i j j_in other)) read

      -- it was good
      pub gathers_good : Gathers g live t V gathered was (with_cell into row slot bytes) old new
      gathers_good = record {
        given = λ i j wanted kept. given i j ((more i j).0 wanted) kept;
        wanted_erased = λ i j erased. (more i j).1 (inl (before.wanted_erased i j erased));
        away = λ i j wanted is_away. away i j ((more i j).0 wanted) is_away;
        bad = λ i j erased used.
            let found = before.bad i j erased used in
            let in_w = before.wanted_erased i j erased in
            (read_before j (cell_sector g t i) Damaged found.0, elsewhere i j (within i j in_w).1 (apart i j in_w) ∙ found.1);
        rest = λ i j in_stripe either.
            let other = unwanted i j either in elsewhere i j in_stripe.1 other.1 ∙ before.rest i j in_stripe other.0;
        kept_or_read = kept_or_read;
        shape = record { rows = before.shape.rows; chunks = before.shape.chunks };
        live_gone = before.live_gone;
        gone = gone_still;
        formed_erased = before.formed_erased;
        formed_gone = before.formed_gone;
        honest = honest_on;
        counts = counts_on;
        told = told_still;
        ran = ran_on;
      }
        where
          given : (i j : ℕ) → W i j ⊎ ((i ≡ row) × (j ≡ slot)) → ¬ HasCell gathered.erased i j
              → ¬ IsAway live gathered.gone j × IsReading j (cell_sector g t i) old new (Good (cell (with_cell into row slot bytes) i j))
          given i j (inl in_w) kept =
              let found = before.given i j in_w kept in
              let read = read_before j (cell_sector g t i) (Good (cell into i j)) found.1 in
              (found.0, still_read i j (within i j in_w).1 (apart i j in_w) read)
          given i j (inr same) kept = (subst (λ (k : ℕ). ¬ IsAway live gathered.gone k) (sym same.1) in_use, read_here i j same)

          kept_or_read : (i j : ℕ) → IsCellOf g i j
              → (cell (with_cell into row slot bytes) i j ≡ cell was i j)
              ⊎ IsReading j (cell_sector g t i) old new (Good (cell (with_cell into row slot bytes) i j))
          kept_or_read i j in_stripe =
              elim (is_here i j) [
                | inl same ↦ inr (read_here i j same)
                | inr other ↦
                    elim (stands i j in_stripe) [
                      | inl kept ↦ inl (elsewhere i j in_stripe.1 other ∙ kept)
                      | inr read ↦ inr (still_read i j in_stripe.1 other read)
                    ]
              ]

          away : (i j : ℕ) → W i j ⊎ ((i ≡ row) × (j ≡ slot)) → IsAway live gathered.gone j → HasCell gathered.erased i j
          away i j (inl in_w) is_away = before.away i j in_w is_away
          away i j (inr same) is_away = absurd (in_use (subst (λ (k : ℕ). IsAway live gathered.gone k) same.1 is_away))

    module _ (erased : CellSet) (formed : IsCellSet erased) (members : (i j : ℕ) → HasCell erased i j ↔ (HasCell gathered.erased i j ⊎ ((i ≡ row) × (j ≡ slot))))
        (reading : IsReading slot (cell_sector g t row) mid new Damaged) where
      -- it was bad
      pub gathers_bad : Gathers g live t V (record { erased = erased; gone = gathered.gone }) was into old new
      gathers_bad = record {
        given = λ i j wanted kept. given i j ((more i j).0 wanted) kept;
        wanted_erased = λ i j has.
            (more i j).1 (elim ((members i j).0 has) [ inl had ↦ inl (before.wanted_erased i j had) | inr same ↦ inr same ]);
        away = λ i j wanted is_away.
            (members i j).1 (elim ((more i j).0 wanted) [ inl in_w ↦ inl (before.away i j in_w is_away) | inr same ↦ inr same ]);
        bad = λ i j has used. bad i j ((members i j).0 has) used;
        rest = λ i j in_stripe either. before.rest i j in_stripe (unwanted i j either).0;
        kept_or_read = stands;
        shape = before.shape;
        live_gone = before.live_gone;
        gone = gone_still;
        formed_erased = formed;
        formed_gone = before.formed_gone;
        honest = honest_on;
        counts = counts_on;
        told = told_still;
        ran = ran_on;
      }
        where
          given : (i j : ℕ) → W i j ⊎ ((i ≡ row) × (j ≡ slot)) → ¬ HasCell erased i j
              → ¬ IsAway live gathered.gone j × IsReading j (cell_sector g t i) old new (Good (cell into i j))
          given i j (inl in_w) kept =
              let found = before.given i j in_w (λ had. kept ((members i j).1 (inl had))) in
              (found.0, read_before j (cell_sector g t i) (Good (cell into i j)) found.1)
          given i j (inr same) kept = absurd (kept ((members i j).1 (inr same)))

          bad : (i j : ℕ) → HasCell gathered.erased i j ⊎ ((i ≡ row) × (j ≡ slot)) → ¬ IsAway live gathered.gone j
              → IsReading j (cell_sector g t i) old new Damaged × (cell into i j ≡ cell was i j)
          bad i j (inl had) used = let found = before.bad i j had used in (read_before j (cell_sector g t i) Damaged found.0, found.1)
          bad i j (inr same) used = (
            subst (λ (k : ℕ). IsReading k (cell_sector g t i) old new Damaged) (sym same.1)
                (subst (λ (k : ℕ). IsReading slot (cell_sector g t k) old new Damaged) (sym same.0)
                (read_now slot (cell_sector g t row) Damaged reading)),
            before.rest i j (omega (arith, same.0), omega (arith, same.1)) (inl (λ in_w. apart i j in_w same)),
          )

  -- The chunk of a slot that isn't live, or that was gone to a call, was erased.
  module _ (slot : ℕ) (wanted : CellSet) (after : Gathered) (formed_erased : IsCellSet after.erased) (formed_gone : IsSlotSet after.gone)
      (wanted_w : (i j : ℕ) → W i j → HasCell wanted i j) (more : (i j : ℕ) → V i j ↔ (W i j ⊎ (HasCell wanted i j × (j ≡ slot))))
      (members : (i j : ℕ) → HasCell after.erased i j ↔ (HasCell gathered.erased i j ⊎ (HasCell wanted i j × (j ≡ slot))))
      (is_away : IsAway live after.gone slot) (gone_kept : (j : ℕ) → HasSlot gathered.gone j → HasSlot after.gone j)
      (gone_more : (j : ℕ) → HasSlot after.gone j → HasSlot gathered.gone j ⊎ (j ≡ slot))
      (went : HasSlot after.gone slot → HasSlot gathered.gone slot ⊎ (HasSlot live slot × (slot < g.n) × IsGone slot mid new))
      (answered : IsTrue new.honest → (j k : ℕ) → WasAnswered j (Read k got.Gone) mid.history new.history → HasSlot after.gone j) where
    away_before : (j : ℕ) → IsAway live after.gone j → IsAway live gathered.gone j ⊎ (j ≡ slot)
    away_before j (inl dead) = inl (inl dead)
    away_before j (inr gone) = elim (gone_more j gone) [ inl had ↦ inl (inr had) | inr same ↦ inr same ]

    away_still : (j : ℕ) → IsAway live gathered.gone j → IsAway live after.gone j
    away_still j (inl dead) = inl dead
    away_still j (inr gone) = inr (gone_kept j gone)

    pub gathers_erased : Gathers g live t V after was into old new
    gathers_erased = record {
      given = λ i j in_v kept. given i j ((more i j).0 in_v) kept;
      wanted_erased = λ i j has.
          (more i j).1 (elim ((members i j).0 has) [ inl had ↦ inl (before.wanted_erased i j had) | inr chunk ↦ inr chunk ]);
      away = λ i j in_v away.
          (members i j).1
          (elim ((more i j).0 in_v) [
            | inl in_w ↦
                elim (away_before j away) [
                  | inl was_away ↦ inl (before.away i j in_w was_away)
                  | inr same ↦ inr (wanted_w i j in_w, same)
                ]
            | inr chunk ↦ inr chunk
          ]);
      bad = λ i j has used. bad i j ((members i j).0 has) used;
      rest = λ i j in_stripe either.
          before.rest i j in_stripe
          (elim either [ inl other ↦ inl (λ in_w. other ((more i j).1 (inl in_w))) | inr dead ↦ inr dead ]);
      kept_or_read = stands;
      shape = before.shape;
      live_gone = λ j gone. live_gone j (went_cases j gone);
      gone = λ j gone. still_gone j (went_cases j gone);
      formed_erased = formed_erased;
      formed_gone = formed_gone;
      honest = honest_on;
      counts = counts_on;
      told = told_on after.gone gone_kept answered;
      ran = ran_on;
    }
      where
        given : (i j : ℕ) → W i j ⊎ (HasCell wanted i j × (j ≡ slot)) → ¬ HasCell after.erased i j
            → ¬ IsAway live after.gone j × IsReading j (cell_sector g t i) old new (Good (cell into i j))
        given i j (inl in_w) kept =
            let found = before.given i j in_w (λ had. kept ((members i j).1 (inl had))) in (
              λ away.
                  elim (away_before j away) [
                    | inl was_away ↦ found.0 was_away
                    | inr same ↦ kept ((members i j).1 (inr (wanted_w i j in_w, same)))
                  ],
              read_before j (cell_sector g t i) (Good (cell into i j)) found.1,
            )
        given i j (inr chunk) kept = absurd (kept ((members i j).1 (inr chunk)))

        bad : (i j : ℕ) → HasCell gathered.erased i j ⊎ (HasCell wanted i j × (j ≡ slot)) → ¬ IsAway live after.gone j
            → IsReading j (cell_sector g t i) old new Damaged × (cell into i j ≡ cell was i j)
        bad i j (inl had) used =
            let found = before.bad i j had (λ away. used (away_still j away)) in (read_before j (cell_sector g t i) Damaged found.0, found.1)
        bad i j (inr chunk) used = absurd (used (subst (λ (k : ℕ). IsAway live after.gone k) (sym chunk.1) is_away))

        went_cases : (j : ℕ) → HasSlot after.gone j
            → HasSlot gathered.gone j ⊎ ((j ≡ slot) × HasSlot live slot × (slot < g.n) × IsGone slot mid new)
        went_cases j gone =
            elim (gone_more j gone) [
              | inl had ↦ inl had
              | inr same ↦
                  elim (went (subst (λ (k : ℕ). HasSlot after.gone k) same gone)) [
                    | inl had ↦ inl (subst (λ (k : ℕ). HasSlot gathered.gone k) (sym same) had)
                    | inr now ↦ inr (same, now.0, now.1, now.2)
                  ]
            ]

        live_gone : (j : ℕ) → HasSlot gathered.gone j ⊎ ((j ≡ slot) × HasSlot live slot × (slot < g.n) × IsGone slot mid new)
            → HasSlot live j × (j < g.n)
        live_gone j (inl had) = before.live_gone j had
        live_gone j (inr now) = (subst (λ (k : ℕ). HasSlot live k) (sym now.0) now.1, omega (arith, now.0, now.2))

        still_gone : (j : ℕ) → HasSlot gathered.gone j ⊎ ((j ≡ slot) × HasSlot live slot × (slot < g.n) × IsGone slot mid new) → IsGone j old new
        still_gone j (inl had) = gone_still j had
        still_gone j (inr now) = subst (λ (k : ℕ). IsGone k old new) (sym now.0) (gone_now slot now.3)
