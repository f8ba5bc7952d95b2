-- How far reading the body of a redo has come.
use Rattle.std.proofs.Common.{◌≡◌, ℕ, ◌+◌, ◌*◌, ◌<◌, ◌≤◌, inl, inr, refl, sym, ap, subst, ◌∙◌, arith, add-one, [], List, slice_index_or, Option, None, Some, length-set, get_or-set_same}
use Rattle.std.specs.Prelude.{◌⊎◌, IsTrue, if◌then◌else◌, false}
use Rattle.std.specs.Option.{unwrap_or}
use Rattle.std.proofs.lemmas.Bool.{cases_lt, false_from_ne_true, false≢true}
use Rattle.std.proofs.lemmas.List.{length-replicate}
use Rattle.std.proofs.lemmas.Nat.{mul-add-lt}
use Rattle.stair_model.specs.CellSet.{CellSet, HasCell, IsInStripe, cell_count, count_in_row, has_cell}
use Rattle.stair_model.specs.Device.{Body, body_sector}
use Rattle.stair_model.specs.Geometry.{Geometry, IsWithinLimits}
use Rattle.stair_model.specs.Slots.{Slots, HasSlot, IsSlotSet, no_slots, slot_count}
use Rattle.stair_model.specs.Stripe.{Stripe, IsStripeOf, IsWellFormed, cell, with_cell}
use Rattle.stair_model.specs.Sum.{sum_below}
use Rattle.stair_model.proofs.CountLaws.{sum_below_more, sum_below_none, sum_below_tail}
use Rattle.stair_model.proofs.DeviceLaws.{part_once}
use Rattle.stair_model.proofs.SetLaws.{has_slot-none, same_slots, slot_count_none, unmarked}
use Rattle.stair_model.proofs.StripeLaws.{cell-with_cell_other}
use Rattle.stair_rack.specs.RackCounts.{RisesAtMost}
use Rattle.stair_rack.specs.Sector.{Good}
use Rattle.stair_rack.specs.RackState.{IsGone, IsReading}
use Rattle.stair_rack.proofs.PassCounts.{rises_more, rises_none}
use Rattle.stair_rack.proofs.RackStateLemmas.{later_none, reading_wider}
use Rattle.stair_journal.specs.BodySteps.{Asks, Fails, Gives, AllSoFar, AreCellsRead, AsksBefore, FirstSoFar, IsBelow, IsCellGiven, IsCellUngiven, IsFirst, IsReadTo, ReadsCell, Standing, asking_of, cells_before}
use Rattle.stair_journal.specs.Bodies.{AllGiven, IsBodySector, IsFirstUngiven, ReadsBody, UngivenFirst}
use Rattle.stair_journal.specs.Reads.{PassesAll, AsksCell, AsksFor, AsksInTurn, AsksRow, AsksUpTo, Given, IsUnreadUpTo, NotRedone, Redone, Ungiven, asking}
use Rattle.stair_journal.specs.Redo.{IsRedo}
use Rattle.stair_journal.specs.declared.redo.Redo.{Redo}
use Rattle.stair_journal.proofs.AskLemmas.{asks_join, asks_none, fails_on, fails_since}
use Rattle.stair_journal.proofs.ReadToldLemmas.{body_told}
use Rattle.stair_journal.proofs.TurnLemmas.{cells_on, each_more, rows_on, unread_here}

-- PLACES

cell_once : (g : Geometry) (i c row chunk : ℕ) → i < g.r → c < g.n → row < g.r → chunk < g.n → body_sector g i c ≡ body_sector g row chunk
    → (i ≡ row) × (c ≡ chunk)
cell_once g i c row chunk i_in c_in row_in chunk_in same =
    let parts : Body i c ≡ Body row chunk = part_once g (Body i c) (Body row chunk) (i_in, c_in) (row_in, chunk_in) same in
    let rows : i ≡ row = cc in
    let chunks : c ≡ chunk = cc in
    (rows, chunks)

below_next : (g : Geometry) (row chunk : ℕ) → body_sector g row (chunk + 1) ≡ body_sector g row chunk + 1
below_next g row chunk = omega arith

-- a cell before the next one is before this one, or it is this one
below_cases : (g : Geometry) (redo : Redo) (row chunk : ℕ) → IsInStripe g redo.cells → row < g.r → chunk < g.n → (i c : ℕ)
    → IsBelow g redo (body_sector g row (chunk + 1)) i c → IsBelow g redo (body_sector g row chunk) i c ⊎ ((i ≡ row) × (c ≡ chunk))
below_cases g redo row chunk inside row_in chunk_in i c on =
    let within = inside i c on.0 in
    let most = on.1 in
    elim (cases_lt (body_sector g i c) (body_sector g row chunk)) [
      | inl below ↦ inl (on.0, below)
      | inr least ↦ inr (cell_once g i c row chunk within.0 within.1 row_in chunk_in (omega arith))
    ]

below_into : (g : Geometry) (redo : Redo) (row chunk i c : ℕ) → IsBelow g redo (body_sector g row chunk) i c
    → IsBelow g redo (body_sector g row (chunk + 1)) i c
below_into g redo row chunk i c on = let below = on.1 in (on.0, omega arith)

-- HOW MANY CELLS

cells_skipped : (cells : CellSet) (i c : ℕ) → ¬ HasCell cells i c → cells_before cells i (c + 1) ≡ cells_before cells i c
cells_skipped cells i c off =
    let none : has_cell cells i c ≡ false = false_from_ne_true (has_cell cells i c) off in
    let next = rw none at (sum_below_more c (λ j. if has_cell cells i j then 1 else 0)) in
    ap (λ k. sum_below i (count_in_row cells) + k) (ap (λ k. sum_below k (λ j. if has_cell cells i j then 1 else 0)) (add-one c) ∙ next) ∙ omega arith

cells_next : (cells : CellSet) (i c : ℕ) → HasCell cells i c → cells_before cells i (c + 1) ≡ cells_before cells i c + 1
cells_next cells i c on =
    let next = rw on at (sum_below_more c (λ j. if has_cell cells i j then 1 else 0)) in
    ap (λ k. sum_below i (count_in_row cells) + k) (ap (λ k. sum_below k (λ j. if has_cell cells i j then 1 else 0)) (add-one c) ∙ next) ∙ omega arith

cells_row : (g : Geometry) (cells : CellSet) (i : ℕ) → IsInStripe g cells → g.n ≤ 32 → cells_before cells i g.n ≡ cells_before cells (i + 1) 0
cells_row g cells i inside few =
    let tail : count_in_row cells i ≡ sum_below g.n (λ j. if has_cell cells i j then 1 else 0) =
    sum_below_tail g.n 32 (λ j. if has_cell cells i j then 1 else 0) few
    (λ j from to. unmarked (has_cell cells i j) (λ has. let within = (inside i j has).1 in omega arith)) in
    let next : sum_below (i + 1) (count_in_row cells) ≡ sum_below i (count_in_row cells) + count_in_row cells i =
    ap (λ k. sum_below k (count_in_row cells)) (add-one i) ∙ sum_below_more i (count_in_row cells) in
    let none : sum_below 0 (λ j. if has_cell cells (i + 1) j then 1 else 0) ≡ 0 = sum_below_none (λ j. if has_cell cells (i + 1) j then 1 else 0) in
    omega (arith, tail, next, none)

cells_all : (g : Geometry) (cells : CellSet) → IsInStripe g cells → g.r ≤ 32 → cells_before cells g.r 0 ≡ cell_count cells
cells_all g cells inside few =
    let none : sum_below 0 (λ j. if has_cell cells g.r j then 1 else 0) ≡ 0 = sum_below_none (λ j. if has_cell cells g.r j then 1 else 0) in
    let tail : cell_count cells ≡ sum_below g.r (count_in_row cells) = sum_below_tail g.r 32 (count_in_row cells) few (λ i from to. empty i from) in
    omega (arith, none, tail)
  where
    empty : (i : ℕ) → g.r ≤ i → count_in_row cells i ≡ 0
    empty i from =
        slot_count_none (slice_index_or cells.rows i no_slots) (λ j below has. let within = (inside i j has).0 in omega arith)

-- THE FIRST THAT ISN'T GIVEN

module _ (some some' given given' ungiven ungiven' : ℕ → ℕ → Type 0) (sector : ℕ → ℕ → ℕ) (into : (i c : ℕ) → some i c → some' i c)
    (given_on : (i c : ℕ) → some i c → given i c → given' i c) (ungiven_on : (i c : ℕ) → some i c → ungiven i c → ungiven' i c) where
  -- what is more is given
  first_given : {o : Option ℕ} → ((i c : ℕ) → some' i c → some i c ⊎ given' i c) → IsFirst some given ungiven sector o
      → IsFirst some' given' ungiven' sector o
  first_given cases (AllSoFar all) =
      AllSoFar (λ i c on. elim (cases i c on) [ inl was ↦ given_on i c was (all i c was) | inr is ↦ is ])
  first_given cases (FirstSoFar i c k on at is lower) =
      FirstSoFar i c k (into i c on) at (ungiven_on i c on is)
      (λ a b on' less. elim (cases a b on') [ inl was ↦ given_on a b was (lower a b was less) | inr is ↦ is ])

  -- cell (row, chunk) is more, and isn't given
  first_ungiven : (row chunk : ℕ) → some' row chunk → ungiven' row chunk → ((i c : ℕ) → some i c → sector i c < sector row chunk)
      → ((i c : ℕ) → some' i c → some i c ⊎ ((i ≡ row) × (c ≡ chunk))) → {o : Option ℕ} → IsFirst some given ungiven sector o
      → IsFirst some' given' ungiven' sector (Some (unwrap_or o (sector row chunk)))
  first_ungiven row chunk on is below cases (AllSoFar all) =
      FirstSoFar row chunk (sector row chunk) on refl is
      (λ a b on' less.
      elim (cases a b on') [
        | inl was ↦ given_on a b was (all a b was)
        | inr same ↦
            let here : sector a b ≡ sector row chunk = ap (λ i. sector i b) same.0 ∙ ap (sector row) same.1 in absurd (omega arith)
      ])
  first_ungiven row chunk on is below cases (FirstSoFar i c k on_first at is_first lower) =
      FirstSoFar i c k (into i c on_first) at (ungiven_on i c on_first is_first)
      (λ a b on' less.
      elim (cases a b on') [
        | inl was ↦ given_on a b was (lower a b was less)
        | inr same ↦
            let here : sector a b ≡ sector row chunk = ap (λ i. sector i b) same.0 ∙ ap (sector row) same.1 in
            let first = below i c on_first in
            absurd (omega arith)
      ])

-- ONE CELL

-- the bytes that were put into a cell
put_same : (s : Stripe) (row chunk : ℕ) (bytes : List ℕ) → IsWellFormed (with_cell s row chunk bytes) → row < s.rows → chunk < s.chunks
    → cell (with_cell s row chunk bytes) row chunk ≡ bytes
put_same s row chunk bytes formed row_in chunk_in =
    let place : row * s.chunks + chunk < s.chunks * s.rows = mul-add-lt row s.chunks chunk s.rows row_in chunk_in in
    get_or-set_same s.cells (row * s.chunks + chunk) bytes []
    (omega (arith, place, formed.count, length-set s.cells (row * s.chunks + chunk) bytes))

module _ (g : Geometry) (live : Slots) (row chunk : ℕ) (row_in : row < g.r) (chunk_in : chunk < g.n) (old new : Standing)
    (shape : IsStripeOf g old.into) (k : ℕ) (at : k ≡ body_sector g row chunk)
    (asks : Asks live (λ s. s ≡ k) old.body.gone new.body.gone old.rack_state new.rack_state) (reads : RisesAtMost (slot_count live) old.reads new.reads) where
  asks_here : Asks live (λ s. s ≡ body_sector g row chunk) old.body.gone new.body.gone old.rack_state new.rack_state
  asks_here = subst (λ n. Asks live (λ s. s ≡ n) old.body.gone new.body.gone old.rack_state new.rack_state) at asks

  pub cell_given : (bytes : List ℕ) → Gives live k new.body.gone bytes old.rack_state new.rack_state
      → (IsTrue new.rack_state.honest → AsksUpTo live k bytes (asking_of old) (asking_of new)) → new.into ≡ with_cell old.into row chunk bytes
      → IsWellFormed new.into → new.body.unread ≡ old.body.unread → ReadsCell g live row chunk old new
  cell_given bytes gives in_turn is formed unread = record {
    asks = asks_here;
    told = inl (record {
      given = given;
      unread = unread;
      in_turn = λ honest.
          subst (λ n. AsksUpTo live n (cell new.into row chunk) (asking_of old) (asking_of new)) at
          (subst (λ b. AsksUpTo live k b (asking_of old) (asking_of new)) (sym same) (in_turn honest));
    });
    rest = λ a b a_in b_in other.
        ap (λ (s : Stripe). cell s a b) is
        ∙ cell-with_cell_other old.into a b row chunk bytes (omega (arith, shape.chunks)) (omega (arith, shape.chunks)) other;
    shape = subst (IsStripeOf g) (sym is) (record { rows = shape.rows; chunks = shape.chunks });
    reads = reads;
  }
    where
      same : cell new.into row chunk ≡ bytes
      same =
          ap (λ (s : Stripe). cell s row chunk) is
          ∙ put_same old.into row chunk bytes (subst IsWellFormed is formed) (omega (arith, shape.rows)) (omega (arith, shape.chunks))

      here : Gives live (body_sector g row chunk) new.body.gone bytes old.rack_state new.rack_state
      here = subst (λ n. Gives live n new.body.gone bytes old.rack_state new.rack_state) at gives

      given : IsCellGiven g live old new row chunk
      given = record {
        slot = here.slot;
        live_slot = here.live_slot;
        read = subst (λ b. IsReading here.slot (body_sector g row chunk) old.rack_state new.rack_state (Good b)) (sym same) here.read;
        lower = here.lower;
      }

  pub cell_ungiven : ((j : ℕ) → HasSlot live j → Fails new.body.gone old.rack_state new.rack_state j k)
      → (IsTrue new.rack_state.honest → PassesAll live k (asking_of old) (asking_of new)) → new.into ≡ old.into
      → new.body.unread ≡ Some (unwrap_or old.body.unread k) → ReadsCell g live row chunk old new
  cell_ungiven none in_turn is unread = record {
    asks = asks_here;
    told = inr (record {
      ungiven = record {
        none = λ j on. subst (Fails new.body.gone old.rack_state new.rack_state j) at (none j on);
        left = ap (λ (s : Stripe). cell s row chunk) is;
      };
      unread = unread ∙ ap (λ n. Some (unwrap_or old.body.unread n)) at;
      in_turn = λ honest. subst (λ n. PassesAll live n (asking_of old) (asking_of new)) at (in_turn honest);
    });
    rest = λ a b a_in b_in other. ap (λ (s : Stripe). cell s a b) is;
    shape = subst (IsStripeOf g) (sym is) shape;
    reads = reads;
  }

-- ONE CELL MORE

module _ (g : Geometry) (live : Slots) (redo : Redo) (of : IsRedo g redo) (row chunk : ℕ) (row_in : row < g.r) (chunk_in : chunk < g.n)
    (start old : Standing) (reached : IsReadTo g live redo row chunk start old) where
  before : AreCellsRead g live redo (body_sector g row chunk) (cells_before redo.cells row chunk) start old
  before = reached.read

  abbrev some : ℕ → ℕ → Type 0
  some = IsBelow g redo (body_sector g row chunk)

  abbrev some' : ℕ → ℕ → Type 0
  some' = IsBelow g redo (body_sector g row (chunk + 1))

  into : (i c : ℕ) → some i c → some' i c
  into = below_into g redo row chunk

  cases : (i c : ℕ) → some' i c → some i c ⊎ ((i ≡ row) × (c ≡ chunk))
  cases = below_cases g redo row chunk of.inside row_in chunk_in

  -- it isn't one of the redo's
  skipped : ¬ HasCell redo.cells row chunk
      → AreCellsRead g live redo (body_sector g row (chunk + 1)) (cells_before redo.cells row (chunk + 1)) start old
  skipped off = record {
    asks = before.asks;
    each = λ i c on. before.each i c (only i c on);
    unread = first_given some some' (IsCellGiven g live start old) (IsCellGiven g live start old) (IsCellUngiven g live start old)
        (IsCellUngiven g live start old) (body_sector g) into (λ i c on is. is) (λ i c on is. is) (λ i c on. inl (only i c on)) before.unread;
    rest = λ i c i_in c_in not_yet. before.rest i c i_in c_in (λ was. not_yet (into i c was));
    shape = before.shape;
    reads = subst (λ k. RisesAtMost (k * slot_count live) start.reads old.reads) (sym (cells_skipped redo.cells row chunk off)) before.reads;
  }
    where
      only : (i c : ℕ) → some' i c → some i c
      only i c on =
          elim (cases i c on) [
            | inl was ↦ was
            | inr is ↦ absurd (off (subst (λ a. HasCell redo.cells a chunk) is.0 (subst (HasCell redo.cells i) is.1 on.0)))
          ]

  pub cell_skipped : ¬ HasCell redo.cells row chunk → IsReadTo g live redo row (chunk + 1) start old
  cell_skipped off = record {
    read = skipped off;
    in_turn = λ honest.
        let was = reached.in_turn honest in
        record {
          mid = was.mid;
          rows = was.rows;
          cells =
              each_more (AsksCell g live redo old.body.unread start.into old.into row) chunk was.mid (asking_of old) (asking_of old) was.cells
              (NotRedone off refl);
        };
  }

  -- it is, and it is read
  module _ (new : Standing) (has : HasCell redo.cells row chunk) (reading : ReadsCell g live row chunk old new) where
    abbrev one : ℕ → Type 0
    one k = k ≡ body_sector g row chunk

    here : some' row chunk
    here = (has, omega arith)

    not_yet : ¬ some row chunk
    not_yet on = let below = on.1 in omega arith

    stays : (i c : ℕ) → some i c → cell new.into i c ≡ cell old.into i c
    stays i c on =
        let within = of.inside i c on.0 in
        reading.rest i c within.0 within.1
        (λ is. not_yet (subst (λ a. some a chunk) is.0 (subst (some i) is.1 on)))

    given_on : (i c : ℕ) → some i c → IsCellGiven g live start old i c → IsCellGiven g live start new i c
    given_on i c on given = record {
      slot = given.slot;
      live_slot = given.live_slot;
      read = subst (λ bytes. IsReading given.slot (body_sector g i c) start.rack_state new.rack_state (Good bytes)) (sym (stays i c on))
          (reading_wider start.rack_state start.rack_state old.rack_state new.rack_state (later_none start.rack_state) before.asks.later.honest
          before.asks.later.counts reading.asks.later given.slot (body_sector g i c) (Good (cell old.into i c)) given.read);
      lower = λ j less on_live.
          fails_on live (IsBodySector g redo) one start.body.gone old.body.gone new.body.gone start.rack_state old.rack_state new.rack_state before.asks
          reading.asks j (body_sector g i c) (given.lower j less on_live);
    }

    ungiven_on : (i c : ℕ) → some i c → IsCellUngiven g live start old i c → IsCellUngiven g live start new i c
    ungiven_on i c on ungiven = record {
      none = λ j on_live.
          fails_on live (IsBodySector g redo) one start.body.gone old.body.gone new.body.gone start.rack_state old.rack_state new.rack_state before.asks
          reading.asks j (body_sector g i c) (ungiven.none j on_live);
      left = stays i c on ∙ ungiven.left;
    }

    given_now : IsCellGiven g live old new row chunk → IsCellGiven g live start new row chunk
    given_now given = record {
      slot = given.slot;
      live_slot = given.live_slot;
      read = reading_wider start.rack_state old.rack_state new.rack_state new.rack_state before.asks.later reading.asks.later.honest
          reading.asks.later.counts (later_none new.rack_state) given.slot (body_sector g row chunk) (Good (cell new.into row chunk)) given.read;
      lower = λ j less on_live.
          fails_since live (IsBodySector g redo) one start.body.gone old.body.gone new.body.gone start.rack_state old.rack_state new.rack_state before.asks
          reading.asks j (body_sector g row chunk) (given.lower j less on_live);
    }

    ungiven_now : IsCellUngiven g live old new row chunk → IsCellUngiven g live start new row chunk
    ungiven_now ungiven = record {
      none = λ j on_live.
          fails_since live (IsBodySector g redo) one start.body.gone old.body.gone new.body.gone start.rack_state old.rack_state new.rack_state before.asks
          reading.asks j (body_sector g row chunk) (ungiven.none j on_live);
      left = ungiven.left ∙ before.rest row chunk row_in chunk_in not_yet;
    }

    -- the first unread sector is of a cell before this one
    first_below : {o : Option ℕ} → IsFirst some (IsCellGiven g live start old) (IsCellUngiven g live start old) (body_sector g) o → (first : ℕ)
        → o ≡ Some first → first < body_sector g row chunk
    first_below (AllSoFar all) first is = absurd (cc)
    first_below (FirstSoFar i c k on at ungiven lower) first is =
        let less = on.1 in let same : k ≡ first = cc in omega (arith, less, at, same)

    -- what holds of this cell holds of one that is the same
    same_cell : (P : ℕ → ℕ → Type 0) (i c : ℕ) → P row chunk → (i ≡ row) × (c ≡ chunk) → P i c
    same_cell P i c holds is = subst (λ a. P a c) (sym is.0) (subst (P row) (sym is.1) holds)

    each_read : (i c : ℕ) → some' i c → IsCellGiven g live start new i c ⊎ IsCellUngiven g live start new i c
    each_read i c on =
        elim (cases i c on) [
          | inl was ↦
              elim (before.each i c was) [ inl given ↦ inl (given_on i c was given) | inr ungiven ↦ inr (ungiven_on i c was ungiven) ]
          | inr is ↦
              elim reading.told [
                | inl given ↦ inl (same_cell (IsCellGiven g live start new) i c (given_now given.given) is)
                | inr ungiven ↦ inr (same_cell (IsCellUngiven g live start new) i c (ungiven_now ungiven.ungiven) is)
              ]
        ]

    first_more : IsFirst some' (IsCellGiven g live start new) (IsCellUngiven g live start new) (body_sector g) new.body.unread
    first_more =
        elim reading.told [
          | inl given ↦
              subst (IsFirst some' (IsCellGiven g live start new) (IsCellUngiven g live start new) (body_sector g)) (sym given.unread)
              (first_given some some' (IsCellGiven g live start old) (IsCellGiven g live start new) (IsCellUngiven g live start old)
              (IsCellUngiven g live start new) (body_sector g) into given_on ungiven_on
              (λ i c on.
              elim (cases i c on) [
                | inl was ↦ inl was
                | inr is ↦ inr (same_cell (IsCellGiven g live start new) i c (given_now given.given) is)
              ])
              before.unread)
          | inr ungiven ↦
              subst (IsFirst some' (IsCellGiven g live start new) (IsCellUngiven g live start new) (body_sector g)) (sym ungiven.unread)
              (first_ungiven some some' (IsCellGiven g live start old) (IsCellGiven g live start new) (IsCellUngiven g live start old)
              (IsCellUngiven g live start new) (body_sector g) into given_on ungiven_on row chunk here (ungiven_now ungiven.ungiven)
              (λ i c on. on.1) cases before.unread)
        ]

    -- the calls for this cell
    asks_now : IsTrue new.rack_state.honest → AsksFor g live redo new.body.unread start.into new.into row chunk (asking_of old) (asking_of new)
    asks_now honest =
        elim reading.told [
          | inl given ↦
              Given (given.in_turn honest)
              (λ is.
              let less : body_sector g row chunk < body_sector g row chunk = first_below before.unread (body_sector g row chunk) (sym given.unread ∙ is) in
              omega (arith, less))
          | inr ungiven ↦
              Ungiven (ungiven.in_turn honest) ((ungiven_now ungiven.ungiven).left)
              (subst (IsUnreadUpTo (body_sector g row chunk)) (sym ungiven.unread)
              (unread_here (body_sector g row chunk) old.body.unread (first_below before.unread)))
        ]

    next : (new.body.unread ≡ old.body.unread) ⊎ (new.body.unread ≡ Some (unwrap_or old.body.unread (body_sector g row chunk)))
    next = elim reading.told [ inl given ↦ inl given.unread | inr ungiven ↦ inr ungiven.unread ]

    in_turn_more : IsTrue new.rack_state.honest → AsksBefore g live redo row (chunk + 1) start new
    in_turn_more honest =
        let was = reached.in_turn (reading.asks.later.honest ∙ honest) in
        record {
          mid = was.mid;
          rows =
              rows_on g live redo old.body.unread new.body.unread start.into old.into new.into row chunk next (λ i c on below. stays i c (on, below))
              (asking_of start) was.mid was.rows;
          cells =
              each_more (AsksCell g live redo new.body.unread start.into new.into row) chunk was.mid (asking_of old) (asking_of new)
              (cells_on g live redo old.body.unread new.body.unread start.into old.into new.into row chunk next
              (λ i c on below. stays i c (on, below)) was.mid (asking_of old) was.cells)
              (Redone has (asks_now honest));
        }

    cells_more : AreCellsRead g live redo (body_sector g row (chunk + 1)) (cells_before redo.cells row (chunk + 1)) start new
    cells_more = record {
      asks = asks_join live (IsBodySector g redo) one start.body.gone old.body.gone new.body.gone start.rack_state old.rack_state new.rack_state before.asks
          reading.asks (λ k is. record { row = row; slot = chunk; has = has; is = is });
      each = each_read;
      unread = first_more;
      rest = λ i c i_in c_in not_yet.
          reading.rest i c i_in c_in (λ is. not_yet (same_cell some' i c here is)) ∙ before.rest i c i_in c_in (λ was. not_yet (into i c was));
      shape = reading.shape;
      reads = rises_more (cells_before redo.cells row chunk * slot_count live) (slot_count live)
          (cells_before redo.cells row (chunk + 1) * slot_count live) start.reads old.reads new.reads
          (let next = cells_next redo.cells row chunk has in rw next (omega arith)) before.reads reading.reads;
    }

    pub cell_more : IsReadTo g live redo row (chunk + 1) start new
    cell_more = record { read = cells_more; in_turn = in_turn_more }

-- ALL CELLS

pub row_done : (g : Geometry) (live : Slots) (redo : Redo) (row : ℕ) (start now : Standing) → IsRedo g redo → IsWithinLimits g
    → IsReadTo g live redo row g.n start now → IsReadTo g live redo (row + 1) 0 start now
row_done g live redo row start now of limits all = record {
  read =
      let at : body_sector g row g.n ≡ body_sector g (row + 1) 0 = omega arith in
      subst (λ k. AreCellsRead g live redo k (cells_before redo.cells (row + 1) 0) start now) at
      (subst (λ n. AreCellsRead g live redo (body_sector g row g.n) n start now) (cells_row g redo.cells row of.inside limits.devices.1) all.read);
  in_turn = λ honest.
      let was = all.in_turn honest in
      record {
        mid = asking_of now;
        rows = each_more (AsksRow g live redo now.body.unread start.into now.into) row (asking_of start) was.mid (asking_of now) was.rows was.cells;
        cells = refl;
      };
}

pub none_read : (g : Geometry) (live : Slots) (redo : Redo) (now : Standing) → IsStripeOf g now.into → now.body.unread ≡ None
    → IsReadTo g live redo 0 0 now now
none_read g live redo now shape none = record {
  read = record {
    asks = asks_none live (IsBodySector g redo) now.body.gone now.rack_state;
    each = λ i c on. absurd (nothing i c on);
    unread = subst (IsFirst (IsBelow g redo (body_sector g 0 0)) (IsCellGiven g live now now) (IsCellUngiven g live now now) (body_sector g)) (sym none)
        (AllSoFar (λ i c on. absurd (nothing i c on)));
    rest = λ i c i_in c_in not_yet. refl;
    shape = shape;
    reads = subst (λ k. RisesAtMost k now.reads now.reads) (sym no_cells) (rises_none now.reads);
  };
  in_turn = λ honest. record { mid = asking_of now; rows = refl; cells = refl };
}
  where
    nothing : (i c : ℕ) → ¬ IsBelow g redo (body_sector g 0 0) i c
    nothing i c on = let below = on.1 in omega arith

    no_cells : cells_before redo.cells 0 0 * slot_count live ≡ 0
    no_cells =
        let rows : sum_below 0 (count_in_row redo.cells) ≡ 0 = sum_below_none (count_in_row redo.cells) in
        let slots : sum_below 0 (λ j. if has_cell redo.cells 0 j then 1 else 0) ≡ 0 = sum_below_none (λ j. if has_cell redo.cells 0 j then 1 else 0) in
        rw (rows, slots) (omega arith)

module _ (g : Geometry) (live : Slots) (redo : Redo) (start now : Standing) (of : IsRedo g redo) (limits : IsWithinLimits g)
    (reached : IsReadTo g live redo g.r 0 start now) where
  all : AreCellsRead g live redo (body_sector g g.r 0) (cells_before redo.cells g.r 0) start now
  all = reached.read

  below : (i c : ℕ) → HasCell redo.cells i c → IsBelow g redo (body_sector g g.r 0) i c
  below i c has =
      let within = of.inside i c has in
      let at : i * g.n + c < g.n * g.r = mul-add-lt i g.n c g.r within.0 within.1 in
      (has, omega arith)

  first_is : {o : Option ℕ} → IsFirst (IsBelow g redo (body_sector g g.r 0)) (IsCellGiven g live start now) (IsCellUngiven g live start now) (body_sector g) o
      → IsFirstUngiven g live now.body.gone start.into now.into start.rack_state now.rack_state redo o
  first_is (AllSoFar given) = AllGiven (λ i c has. given i c (below i c has))
  first_is (FirstSoFar i c k on at is lower) =
      subst (λ s. IsFirstUngiven g live now.body.gone start.into now.into start.rack_state now.rack_state redo (Some s)) (sym at)
      (UngivenFirst i c on.0 is (λ a b has less. lower a b (below a b has) less))

  pub all_in_turn : ((j : ℕ) → ¬ HasSlot start.body.gone j) → IsSlotSet start.body.gone → IsTrue now.rack_state.honest
      → AsksInTurn g live redo now.body.unread start.into now.into (asking no_slots start.rack_state.history) (asking_of now)
  all_in_turn none formed honest =
      let was = reached.in_turn honest in
      let no_row : asking_of now ≡ was.mid = was.cells in
      let nobody : start.body.gone ≡ no_slots = same_slots start.body.gone no_slots formed (length-replicate 32 false)
      (λ j. (λ has. absurd (none j has), λ has. absurd (false≢true (sym (has_slot-none j) ∙ has)))) in
      subst (λ gone. AsksInTurn g live redo now.body.unread start.into now.into (asking gone start.rack_state.history) (asking_of now)) nobody
      (subst (λ to. AsksInTurn g live redo now.body.unread start.into now.into (asking_of start) to) (sym no_row) was.rows)

  pub all_read : ((j : ℕ) → ¬ HasSlot start.body.gone j) → IsSlotSet start.body.gone
      → ReadsBody g live redo now.body start.into now.into start.rack_state now.rack_state
  all_read none formed = record {
    each = λ i c has. all.each i c (below i c has);
    unread = first_is all.unread;
    rest = λ i c i_in c_in other. all.rest i c i_in c_in (λ on. other on.0);
    shape = all.shape;
    live_gone = λ j has. (newly j has).0;
    gone = λ j has. (newly j has).1;
    formed = all.asks.formed formed;
    honest = all.asks.later.honest;
    counts = all.asks.later.counts;
    told = λ honest.
        body_told g live redo now.body.unread start.into now.into (asking no_slots start.rack_state.history) (asking_of now) (all_in_turn none formed honest);
    ran = all.asks.ran;
  }
    where
      newly : (j : ℕ) → HasSlot now.body.gone j → HasSlot live j × IsGone j start.rack_state now.rack_state
      newly j has = elim (all.asks.newly j has) [ inl was ↦ absurd (none j was) | inr is ↦ is ]

  pub all_reads : RisesAtMost (cell_count redo.cells * slot_count live) start.reads now.reads
  all_reads =
      subst (λ k. RisesAtMost (k * slot_count live) start.reads now.reads) (cells_all g redo.cells of.inside limits.rows.1) all.reads
