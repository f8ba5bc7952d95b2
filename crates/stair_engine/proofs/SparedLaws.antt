-- Which sectors an opening and a scrub leave alone, and what becomes of a sector meanwhile.
use Rattle.std.proofs.Common.{◌≡◌, ◌≢◌, ◌∙◌, ◌⊎◌, ◌+◌, ◌-◌, ◌*◌, ◌/◌, ◌<◌, ◌≤◌, ℕ, List, Option, None, Some, Result, inl, inr, refl, sym, ap, subst, true, false, arith}
use Rattle.std.proofs.lemmas.Nat.{le-div}
use Rattle.std.proofs.lemmas.Bool.{cases_lt, cond-false, cond-true, false_from_ne_true, le-ltb, lt-ltb, ne_eqb}
use Rattle.std.specs.Prelude.{IsSome, IsTrue, if◌then◌else◌, nat_lt, ⊤}
use Rattle.stair_model.specs.CellSet.{has_cell}
use Rattle.stair_model.specs.Device.{body_start, cell_sector, gate_sector}
use Rattle.stair_model.specs.Geometry.{Geometry}
use Rattle.stair_model.specs.Slots.{Slots}
use Rattle.stair_model.specs.Stripe.{Stripe}
use Rattle.stair_rack.specs.Answers.{Ran, is_good}
use Rattle.stair_rack.specs.History.{Attach, Happening, Read, Sectors, SlotCall, Sync, Write, slot_state}
use Rattle.stair_rack.specs.Offline.{Here, IsKept, Lost, WasPulled}
use Rattle.stair_rack.specs.Placed.{IsSyncOf, IsWriteOf, Placed, Writes}
use Rattle.stair_rack.specs.Reading.{IsReadOf}
use Rattle.stair_rack.specs.Sector.{Damaged, Good, Sector, content, synced}
use Rattle.stair_rack.specs.Stretch.{IsNoWrite, NothingDamaged}
use Rattle.stair_rack.proofs.KeptLemmas.{keeps_sector}
use Rattle.stair_rack.proofs.MomentLemmas.{at_last, ran_join, ran_none, ran_weakened}
use Rattle.stair_rack.proofs.StepLemmas.{kept}
use Rattle.stair_rack.proofs.StretchLemmas.{IsUndamaged, but_for_pulls, undamaged_throughout}
use Rattle.stair_member.specs.Epochs.{AWrite, ASync, IsIssuing}
use Rattle.stair_member.specs.Establishing.{Fences}
use Rattle.stair_member.specs.declared.fault.FenceFault.{FenceFault}
use Rattle.stair_journal.specs.Journalling.{body_writes, gate_writes}
use Rattle.stair_journal.specs.Redo.{IsRedo}
use Rattle.stair_journal.specs.declared.redo.Redo.{Redo}
use Rattle.stair_stripes.specs.Placing.{cell_writes}
use Rattle.stair_state.specs.Redoing as stage
use Rattle.stair_state.specs.Redoing.{Stage}
use Rattle.stair_invariant.specs.Effects as course
use Rattle.stair_invariant.specs.Effects.{DoesStage, FencesGone, Loads, Snapshot, Redoes, snapshot, stage_writes}
use Rattle.stair_invariant.proofs.HonestLemmas.{left_honest, redo_honest}
use Rattle.stair_array.specs.Machine.{Refusal}
use Rattle.stair_array.specs.Mends as mends
use Rattle.stair_array.specs.Mends.{Scrubs}

-- ---- calls that leave a sector alone

-- no write to sector k of slot j
abbrev pub Spares : ℕ → ℕ → ℕ → SlotCall → Type 0
Spares j k i (Write l bytes answer) = i ≡ j → l ≢ k
Spares j k i call = ⊤

module _ (j k : ℕ) where
  pub spares_no_write : (i : ℕ) (call : SlotCall) → IsNoWrite call → Spares j k i call
  spares_no_write i (Write l bytes answer) none = absurd none
  spares_no_write i (Attach answer) none = tt
  spares_no_write i (Sectors size) none = tt
  spares_no_write i (Read l answer) none = tt
  spares_no_write i (Sync answer) none = tt

  spares_read : (slots sectors : ℕ → Type 0) (i : ℕ) (call : SlotCall) → IsReadOf slots sectors i call → Spares j k i call
  spares_read slots sectors i (Read l answer) is = tt
  spares_read slots sectors i (Attach answer) is = absurd is
  spares_read slots sectors i (Sectors size) is = absurd is
  spares_read slots sectors i (Write l bytes answer) is = absurd is
  spares_read slots sectors i (Sync answer) is = absurd is

  spares_write : (what : Writes) (to : ℕ → Type 0) → what j k ≡ None → (i : ℕ) (call : SlotCall) → IsWriteOf what to i call → Spares j k i call
  spares_write what to none i call is =
      subst (Spares j k i) (sym is.is)
      (λ slot sector.
      let some : what j k ≡ Some is.bytes =
      subst (λ (s : ℕ). what s k ≡ Some is.bytes) slot (subst (λ (l : ℕ). what i l ≡ Some is.bytes) sector is.is_one) in
      let never : None ≡ Some is.bytes = sym none ∙ some in
      cc)

  spares_sync : (to : ℕ → Type 0) (i : ℕ) (call : SlotCall) → IsSyncOf to i call → Spares j k i call
  spares_sync to i call is = subst (Spares j k i) (sym is.is) tt

  abbrev pub Spared : List Happening → List Happening → Type 0
  Spared old new = Ran (Spares j k) old new

  spared_placed : {what : Writes} {to gone : ℕ → Type 0} {old new : List Happening} → what j k ≡ None → Placed what to gone old new → Spared old new
  spared_placed {what} {to} none placed =
      ran_join (ran_weakened (spares_write what to none) placed.writes) (ran_weakened (spares_sync to) placed.syncs)

  -- ---- epochs write superblock places alone

  module _ (behind : 2 ≤ k) where
    spares_issuing : {slots : Slots} {editions : List _} (i : ℕ) (call : SlotCall) → IsIssuing slots editions i call → Spares j k i call
    spares_issuing i call (AWrite e l answer slot among formed place is) = subst (Spares j k i) (sym is) (λ same sector. omega (arith, place, sector, behind))
    spares_issuing i call (ASync answer slot is) = subst (Spares j k i) (sym is) tt

    pub spared_fenced : {leaving : Slots} {x y : Snapshot} {answer : Result Slots FenceFault} → Fences leaving x.member y.member answer x.told y.told
        → IsTrue y.told.honest → Spared x.told.history y.told.history
    spared_fenced fences honest = ran_weakened (spares_issuing) (fences.establishes.issued honest).ran

    pub spared_left : {gone : Slots} {refusal : Option FenceFault} {x y : Snapshot} → FencesGone gone refusal x y → IsTrue y.told.honest
        → Spared x.told.history y.told.history
    spared_left {x = x} {y = y} (course.NoneWas none same quiet) honest =
        subst (λ (p : Snapshot). Spared x.told.history p.told.history) (sym same) (ran_none {allowed = Spares j k} x.told.history)
    spared_left (course.Fenced i has answer is fences) honest = spared_fenced fences honest

    -- ---- the stages of a redo

    pub spared_stage : {what : Writes} {to : Slots} {refusal : Option FenceFault} {x y : Snapshot} → what j k ≡ None → (does : DoesStage what to refusal x y)
        → IsTrue y.told.honest → Spared x.told.history y.told.history
    spared_stage none does honest =
        let honest_mid : IsTrue does.mid.honest = subst IsTrue (sym (left_honest _ _ _ _ does.leaves)) honest in
        ran_join (spared_placed none (does.phase.placed honest_mid)) (spared_left does.leaves honest)

    spared_redo : {g : Geometry} {redo : Redo} {stripe : Stripe} {s : Stage} {refusal : Option FenceFault} {x y : Snapshot}
        → ((s : Stage) → stage_writes g redo stripe s j k ≡ None) → (does : Redoes g redo stripe s refusal x y) → IsTrue y.told.honest
        → Spared x.told.history y.told.history
    spared_redo none (course.Ends x) honest = ran_none {allowed = Spares j k} x.told.history
    spared_redo none (course.Goes s to refusal x y z apart over does rest) honest =
        let honest_y : IsTrue y.told.honest = subst IsTrue (sym (redo_honest _ _ _ _ _ _ _ rest)) honest in
        ran_join (spared_stage (none s) does honest_y) (spared_redo none rest honest)
    spared_redo none (course.Stops s to fault x y apart over does) honest = spared_stage (none s) does honest

    pub spared_read : {slots sectors : ℕ → Type 0} {old new : List Happening} → Ran (IsReadOf slots sectors) old new → Spared old new
    spared_read {slots} {sectors} reads = ran_weakened (spares_read slots sectors) reads

    spared_loaded : {t : ℕ} {wanted : ℕ → ℕ → Type 0} {gathered : _} {was into : Stripe} {refusal : Option FenceFault} {x y : Snapshot}
        → (loads : Loads t wanted gathered was into refusal x y) → IsTrue y.told.honest → Spared x.told.history y.told.history
    spared_loaded loads honest =
        let honest_mid : IsTrue loads.mid.honest = subst IsTrue (sym (left_honest _ _ _ _ loads.leaves)) honest in
        ran_join (ran_weakened (λ i call is. subst (Spares j k i) (sym is.is) tt) (loads.gathers.ran honest_mid)) (spared_left loads.leaves honest)

-- ---- a scrub of another stripe

-- a sector of the chunks is none of the gate, of the body, or of a cell of another stripe
module _ (g : Geometry) (t row j : ℕ) (inside : row < g.r) where
  below_none : (k n : ℕ) (some : Option (List ℕ)) → k < n → (if nat_lt k n then None else some) ≡ None
  below_none k n some less = cond-true _ _ _ (lt-ltb k n less)

  pub gate_none : (gate : List ℕ) → gate_writes gate j (cell_sector g t row) ≡ None
  gate_none gate = cond-false _ _ _ (ne_eqb (cell_sector g t row) gate_sector (λ is. omega (arith, is)))

  -- no cell of the redo lies in such a row
  no_row : (redo : Redo) → IsRedo g redo → (i n : ℕ) → g.r ≤ i → has_cell redo.cells i n ≡ false
  no_row redo formed i n past =
      false_from_ne_true _ (λ has. let within = formed.inside i n has in let less : i < g.r = within.0 in omega (arith, less, past))

  body_none : (redo : Redo) (stripe : Stripe) → IsRedo g redo → 0 < g.n → body_writes g redo stripe j (cell_sector g t row) ≡ None
  body_none redo stripe formed some =
      cond-false _ _ _ (le-ltb (cell_sector g t row) body_start (omega arith))
      ∙ cond-false _ _ _ (no_row redo formed ((cell_sector g t row - body_start) / g.n) _ (past (cell_sector g t row - body_start) (omega arith)))
    where
      past : (c : ℕ) → g.n * g.r ≤ c → g.r ≤ c / g.n
      past c less = le-div g.r c g.n some (omega (arith, less))

  other_none : (redo : Redo) (stripe : Stripe) → IsRedo g redo → redo.stripe ≢ t → cell_writes g redo stripe j (cell_sector g t row) ≡ None
  other_none redo stripe formed other =
      elim (cases_lt t redo.stripe) [
        | inl before ↦
            let fewer : t * g.r + g.r ≤ redo.stripe * g.r = stripes_apart t redo.stripe before in
            below_none (cell_sector g t row) (cell_sector g redo.stripe 0) _ (omega (arith, fewer, inside))
        | inr past ↦
            let more : redo.stripe * g.r + g.r ≤ t * g.r = stripes_apart redo.stripe t (above past) in
            cond-false _ _ _ (le-ltb (cell_sector g t row) (cell_sector g redo.stripe 0) (omega (arith, more)))
            ∙ cond-false _ _ _ (no_row redo formed (cell_sector g t row - cell_sector g redo.stripe 0) j (omega (arith, more)))
      ]
    where
      stripes_apart : (a b : ℕ) → a < b → a * g.r + g.r ≤ b * g.r
      stripes_apart a b less =
          let rest : b ≡ a + 1 + (b - (a + 1)) = omega (arith, less) in
          let scaled : b * g.r ≡ (a + 1 + (b - (a + 1))) * g.r = ap (λ n. n * g.r) rest in
          omega (arith, scaled)

      above : redo.stripe ≤ t → redo.stripe < t
      above past = elim (cases_lt redo.stripe t) [ inl less ↦ less | inr least ↦ absurd (other (omega (arith, past, least))) ]

  stage_none : (redo : Redo) (stripe : Stripe) → IsRedo g redo → 0 < g.n → redo.stripe ≢ t → (s : Stage)
      → stage_writes g redo stripe s j (cell_sector g t row) ≡ None
  stage_none redo stripe formed some other stage.AtRest = body_none redo stripe formed some
  stage_none redo stripe formed some other stage.Uncommitted = gate_none _
  stage_none redo stripe formed some other stage.Placing = other_none redo stripe formed other
  stage_none redo stripe formed some other stage.InPlace = gate_none _
  stage_none redo stripe formed some other stage.Done = refl

  pub spared_scrub : (u : ℕ) (answer : Result ℕ Refusal) (x y : Snapshot) → Scrubs u answer x y → x.member.array.geometry ≡ g → 0 < g.n → u ≢ t
      → IsTrue y.told.honest → Spared j (cell_sector g t row) x.told.history y.told.history
  spared_scrub u _ _ _ (mends.OutOf x past) same some other honest = ran_none {allowed = Spares j (cell_sector g t row)} x.told.history
  spared_scrub u _ _ _ (mends.Stops was read gathered fault x y within loads) same some other honest =
      spared_loaded j (cell_sector g t row) (omega arith) loads honest
  spared_scrub u _ _ _ (mends.Sound was read gathered x y within loads none) same some other honest =
      spared_loaded j (cell_sector g t row) (omega arith) loads honest
  spared_scrub u _ _ _ (mends.Unrestored was read into gathered refusal x y within loads lost) same some other honest =
      spared_loaded j (cell_sector g t row) (omega arith) loads honest
  spared_scrub u _ _ _ (mends.Rewrote was read into gathered redo refusal x y z within loads whole of_stripe formed on done) same some other honest =
      let honest_y : IsTrue y.told.honest = subst IsTrue (sym (redo_honest _ _ _ _ _ _ _ done)) honest in
      ran_join (spared_loaded j (cell_sector g t row) (omega arith) loads honest_y)
      (spared_redo j (cell_sector g t row) (omega arith)
      (subst (λ (h : Geometry). (s : Stage) → stage_writes h redo into s j (cell_sector g t row) ≡ None) (sym same)
      (stage_none redo into (subst (λ (h : Geometry). IsRedo h redo) same formed) some (λ is. other (sym of_stripe ∙ is)))) done honest)

-- ---- what becomes of a sector

abbrev pub IsBadSector : Sector → Type 0
IsBadSector s = is_good (content s) ≡ false

abbrev pub IsGoodSector : Sector → Type 0
IsGoodSector s = is_good (content s) ≡ true

synced_content : (s : Sector) → content (synced s) ≡ content s
synced_content s = refl

module _ {old new : List Happening} (j k : ℕ) (some : IsSome (slot_state old j).size) (unpulled : ¬ WasPulled old new j) where
  -- where it isn't written it stays bad
  pub stays_bad : Ran (Spares j k) old new → IsBadSector ((slot_state old j).sector k) → IsBadSector ((slot_state new j).sector k)
  stays_bad ran bad =
      by (kept {allowed = Spares j k} {P = λ h. IsKept (slot_state old j).pulls k IsBadSector (slot_state h j)}
      (keeps_sector {allowed = Spares j k} {j = j} {k = k} {P = IsBadSector} (slot_state old j).pulls (record {
        write = λ bytes s may was. absurd (may refl refl);
        sync = λ s may was. ap is_good (synced_content s) ∙ was;
      })) ran (Here refl some (inr bad)))
    where
      by : IsKept (slot_state old j).pulls k IsBadSector (slot_state new j) → IsBadSector ((slot_state new j).sector k)
      by (Here same is (inl lost)) = ap (λ (s : Sector). is_good (content s)) lost
      by (Here same is (inr still)) = still
      by (Lost less) = absurd (unpulled less)

  -- where nothing is damaged it stays good
  pub stays_good : {allowed : ℕ → SlotCall → Type 0} → NothingDamaged old new → Ran allowed old new → IsGoodSector ((slot_state old j).sector k)
      → IsGoodSector ((slot_state new j).sector k)
  stays_good {allowed} none ran good =
      by (but_for_pulls
      (at_last {P = λ h. IsUndamaged (slot_state old j).pulls k (slot_state h j)}
      (undamaged_throughout {allowed = allowed} (slot_state old j).pulls j k none ran (IsUndamaged.Whole refl some fine)))
      (kept {allowed = allowed} {P = λ h. IsKept (slot_state old j).pulls k IsGoodSector (slot_state h j)}
      (keeps_sector {allowed = allowed} {j = j} {k = k} {P = IsGoodSector} (slot_state old j).pulls (record {
        write = λ bytes s may was. refl;
        sync = λ s may was. ap is_good (synced_content s) ∙ was;
      })) ran (Here refl some (inr good))))
    where
      fine : content ((slot_state old j).sector k) ≢ Damaged
      fine is = let never : false ≡ true = sym (ap is_good is) ∙ good in cc

      by : ((slot_state old j).pulls < (slot_state new j).pulls) ⊎ IsGoodSector ((slot_state new j).sector k) → IsGoodSector ((slot_state new j).sector k)
      by (inl less) = absurd (unpulled less)
      by (inr still) = still

  -- what it holds where it isn't written it held before
  pub held_before : (bytes : List ℕ) → Ran (Spares j k) old new → content ((slot_state new j).sector k) ≡ Good bytes
      → content ((slot_state old j).sector k) ≡ Good bytes
  held_before bytes ran holds =
      by (kept {allowed = Spares j k} {P = λ h. IsKept (slot_state old j).pulls k (λ s. content s ≡ content ((slot_state old j).sector k)) (slot_state h j)}
      (keeps_sector {allowed = Spares j k} {j = j} {k = k} {P = λ s. content s ≡ content ((slot_state old j).sector k)} (slot_state old j).pulls (record {
        write = λ bytes s may was. absurd (may refl refl);
        sync = λ s may was. synced_content s ∙ was;
      })) ran (Here refl some (inr refl)))
    where
      by : IsKept (slot_state old j).pulls k (λ s. content s ≡ content ((slot_state old j).sector k)) (slot_state new j)
          → content ((slot_state old j).sector k) ≡ Good bytes
      by (Here same is (inl lost)) = absurd (let never : Damaged ≡ Good bytes = sym (ap content lost) ∙ holds in cc)
      by (Here same is (inr still)) = sym still ∙ holds
      by (Lost less) = absurd (unpulled less)
