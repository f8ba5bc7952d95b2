-- A slot that a survey finds being rebuilt has a closed gate, whatever a crash at the survey's end leaves of it.
use Rattle.std.proofs.Common.{◌≡◌, ◌≢◌, ℕ, ◌<◌, List, ◌⊎◌, inl, inr, refl, sym, ap, ◌∙◌, subst}
use Rattle.std.specs.Prelude.{IsTrue, Result, Ok}
use Rattle.std.proofs.lemmas.Bool.{cases_lt}
use Rattle.stair_model.specs.Device.{gate_sector}
use Rattle.stair_model.specs.Geometry.{Geometry}
use Rattle.stair_model.specs.Slots.{HasSlot}
use Rattle.stair_rack.specs.Answers.{IsHistory, Ran, any_call}
use Rattle.stair_rack.specs.Crash.{CrashMayLeave, image_now}
use Rattle.stair_rack.specs.History.{Happening, slot_state}
use Rattle.stair_rack.specs.Media.{Image, SlotImage}
use Rattle.stair_rack.specs.Offline.{Here, IsOffline}
use Rattle.stair_rack.specs.Sector.{Cell, Damaged, MayLeave}
use Rattle.stair_rack.specs.Stretch.{NothingReturned}
use Rattle.stair_rack.specs.RackState.{RackState}
use Rattle.stair_rack.proofs.CrashLemmas.{CrashMayLeave-now, MayLeave-base, in_each_image}
use Rattle.stair_rack.proofs.MomentLemmas.{moment_between}
use Rattle.stair_rack.proofs.TidyLemmas.{history_on, history_tidy}
use Rattle.stair_super.specs.Superblock.{Superblock, mark_at, mark_in}
use Rattle.stair_super.specs.declared.configuration.Configuration.{Configuration}
use Rattle.stair_super.specs.declared.mark.Mark.TheVariants as mark
use Rattle.stair_member.specs.Current.{IsCurrent, IsRebuilding, NotLive}
use Rattle.stair_member.specs.Findings.{AreFound, Findings}
use Rattle.stair_member.specs.Membership.{Membership, why_of}
use Rattle.stair_member.specs.Reasons.{IsReason}
use Rattle.stair_member.specs.Survey.{IsAnswer, IsSurveyed, Surveys}
use Rattle.stair_member.specs.declared.fault.SurveyFault.{SurveyFault}
use Rattle.stair_member.specs.declared.why.Why.{Why}
use Rattle.stair_member.specs.declared.why.Why.TheVariants.{Rebuilding}
use Rattle.stair_member.proofs.AskedLemmas.{asked_ran}
use Rattle.stair_member.proofs.SuperLemmas.{one_current}
use Rattle.stair_journal.specs.Gate.{ReadsClosed}
use Rattle.stair_journal.specs.declared.redo.Redo.{Redo}
use Rattle.stair_state.specs.Degraded.{AreDamagedCopies, IsDegraded, IsDegradedSlot}
use Rattle.stair_state.specs.Forms.{IsOpen}
use Rattle.stair_state.specs.Represents.{Left, Lesser, Represents, no_write}
use Rattle.stair_state.specs.State.{State}
use Rattle.stair_state.specs.Surveyed.{IsLeftShut}
use Rattle.stair_state.specs.Tolerance.{IsToleratedAlone, IsWithinTolerance, ToleratedSince}
use Rattle.stair_state.proofs.AgreeLemmas.{here_rebuilding, mark_agree}
use Rattle.stair_state.proofs.DegradedLemmas.{degraded_copies}
use Rattle.stair_state.proofs.ExchangedLemmas.{slot_cases, slot_here, slot_left, with_slot}
use Rattle.stair_state.proofs.FormLemmas.{good_whole}
use Rattle.stair_state.proofs.MixedLemmas.{closed_by_mixed}
use Rattle.stair_state.proofs.OutsideLemmas.{ComesFrom, comes_from, steady_looks, unwritten_ran}
use Rattle.stair_state.proofs.SeenLemmas.{IsLookedAt, ending, fits, found_is, mark_by_first}
use Rattle.stair_state.proofs.StillLemmas.{degraded_now, read_behind, read_copies, read_image, steady_cells}
use Rattle.stair_state.proofs.SurveyedLemmas.{agree, current_read, identity, looks_from, reasons}

-- a gate that is closed, or was and is damaged
damaged_closed : {g : Geometry} {was is : Cell} → (is ≡ was) ⊎ (is ≡ Damaged) → ReadsClosed g was → ReadsClosed g is
damaged_closed {g} (inl same) closed = subst (ReadsClosed g) (sym same) closed
damaged_closed (inr harmed) closed = λ redo opened. good_whole opened.good harmed

module _ (s : State) (before : List Happening) (old new : RackState) (f : Findings) (found : AreFound f old new) (honest : IsTrue new.honest)
    (is : IsHistory old.history) (ran : Ran no_write old.history new.history) (began : Ran any_call before old.history)
    (stands : Represents s old.history) (none : NothingReturned old.history new.history)
    (tolerated : ToleratedSince s.geometry before new.history) (j : ℕ) (below : j < s.geometry.n) where
  abbrev g : Geometry
  g = s.geometry

  abbrev offline : ℕ → Type 0
  offline i = IsOffline before new.history i

  -- an image that a crash at the end leaves, and the one from which it came
  module _ (image : Image) (left : CrashMayLeave new.history image) (from : ComesFrom old.history image) where
    -- the images now with this slot as the crash leaves it
    abbrev first : Image
    first = with_slot (image_now old.history) j (from.was j)

    abbrev last : Image
    last = with_slot (image_now new.history) j (image j)

    first_left : CrashMayLeave old.history first
    first_left = slot_left old.history (image_now old.history) j (from.was j) (CrashMayLeave-now old.history) (from.left j)

    last_left : CrashMayLeave new.history last
    last_left = slot_left new.history (image_now new.history) j (image j) (CrashMayLeave-now new.history) (left j)

    degraded : IsDegraded first last
    degraded i =
        slot_cases (λ n slot. IsDegradedSlot (first n) slot) (image_now new.history) j (image j) i
        (subst (λ (slot : SlotImage). IsDegradedSlot slot (image j)) (sym (slot_here (image_now old.history) j (from.was j))) (from.degraded j))
        (λ other.
        slot_cases (λ n slot. n ≢ j → IsDegradedSlot slot (image_now new.history n)) (image_now old.history) j (from.was j) i
        (λ apart. absurd (apart refl)) (λ apart is_other. degraded_now ran none i) other)

    copies : (i : ℕ) → AreDamagedCopies (first i).cell (read_image f i).cell
    copies i =
        slot_cases (λ n slot. AreDamagedCopies slot.cell (read_image f n).cell) (image_now old.history) j (from.was j) i here
        (λ other. read_copies f old new found honest is ran none i)
      where
        here : AreDamagedCopies (from.was j).cell (read_image f j).cell
        here k =
            elim (cases_lt k 2) [
              | inl place ↦
                  subst (λ (cell : Cell). ((read_image f j).cell k ≡ cell) ⊎ ((read_image f j).cell k ≡ Damaged))
                  (sym (steady_cells g old.history from.was stands.steady from.left j k below place))
                  (read_copies f old new found honest is ran none j k)
              | inr behind ↦ inr (read_behind f j k behind)
            ]

    now : (i k : ℕ) → i < 32 → k < 2 → (last i).cell k ≡ (image_now new.history i).cell k
    now i k i_in k_in =
        slot_cases (λ n slot. slot.cell k ≡ (image_now new.history n).cell k) (image_now new.history) j (image j) i
        (steady_cells g new.history image (steady_looks g old.history new.history ran stands.steady) left j k below k_in) (λ other. refl)

    looked : IsLookedAt g offline first (read_image f) last
    looked = looks_from s before old new f found honest is ran began stands none tolerated first last first_left last_left degraded copies now

    module _ (m : Membership) (surveyed : IsSurveyed f m) (rebuilt : why_of m j ≡ Rebuilding) where
      -- by what was read the slot is rebuilt
      rebuilding_read : IsRebuilding g (read_image f) surveyed.current j
      rebuilding_read =
          mark_agree g 32 (fits looked) f.image (read_image f) surveyed.current j (agree f)
          (here_rebuilding (HasSlot f.gone) g f.image surveyed.current j below
          (subst (λ (why : Why). IsReason (HasSlot f.gone) g f.image surveyed.current j why) rebuilt
          (reasons s before old new f found honest is ran began stands none tolerated m surveyed j below)))

      found_current : IsCurrent g (read_image f) surveyed.current
      found_current = current_read s before old new f found honest is ran began stands none tolerated m surveyed

      at_first : IsWithinTolerance (λ i. IsOffline before old.history i) g first
      at_first = tolerated old.history (moment_between began ran) first first_left

      -- no gate is open on a slot that is rebuilt at first, or in less of it
      closed_less : (less : Image) → IsDegraded first less → IsToleratedAlone g less → (c : Superblock) → IsCurrent g less c
          → IsRebuilding g less c j → (redo : Redo) → ¬ IsOpen g less j redo
      closed_less less lesser alone c is_c has redo =
          let of = stands.each less (Lesser first first_left lesser alone) in
          of.rebuilding j redo (subst (λ (t : Superblock). IsRebuilding g less t j) (one_current g less c of.current is_c of.is_current) has)

      closed_first : IsRebuilding g first at_first.current j → ReadsClosed g ((first j).cell gate_sector)
      closed_first has redo =
          let of = stands.each first (Left first_left) in
          of.rebuilding j redo
          (subst (λ (t : Superblock). IsRebuilding g first t j) (one_current g first at_first.current of.current at_first.is_current of.is_current) has)

      not_live : surveyed.current.array ≡ (ending looked).array → mark_at (ending looked) j ≢ mark.Live
      not_live same live =
          let both : mark.Live ≡ mark.Rebuilding =
          sym live ∙ ap (λ (array : Configuration). mark_in array j) (sym same) ∙ rebuilding_read.marked in
          absurd (cc)

      first_closed : ReadsClosed g ((first j).cell gate_sector)
      first_closed =
          elim (found_is looked at_first.current surveyed.current at_first.is_current found_current) [
            | inl same ↦
                closed_by_mixed looked at_first.current surveyed.current at_first.is_current found_current j
                (NotLive below (λ live. not_live same live.marked)) same closed_less rebuilding_read
            | inr same ↦
                closed_first
                (mark_by_first looked at_first.current surveyed.current at_first.is_current found_current {mark = mark.Rebuilding} j (λ down. cc) same
                rebuilding_read)
          ]

      pub left_closed : ReadsClosed g ((image j).cell gate_sector)
      left_closed =
          damaged_closed (degraded_copies (from.degraded j) gate_sector)
          (subst (λ (slot : SlotImage). ReadsClosed g (slot.cell gate_sector)) (slot_here (image_now old.history) j (from.was j)) first_closed)

  pub shut_found : (m : Membership) → IsSurveyed f m → why_of m j ≡ Rebuilding → IsLeftShut g new.history j
  shut_found m surveyed rebuilt = record {
    closed = λ image left redo. closed image left redo;
    shut = λ attached.
        Here refl ((history_tidy (history_on {allowed = no_write} is ran)).attached j attached)
        (inr (record {
          each = each;
          base = each ((slot_state new.history j).sector gate_sector).base (MayLeave-base ((slot_state new.history j).sector gate_sector));
        }));
  }
    where
      closed : (image : Image) → CrashMayLeave new.history image → ReadsClosed g ((image j).cell gate_sector)
      closed image left = left_closed image left (comes_from old.history new.history ran none image left) m surveyed rebuilt

      each : (cell : Cell) → MayLeave ((slot_state new.history j).sector gate_sector) cell → ReadsClosed g cell
      each = in_each_image new.history j gate_sector (ReadsClosed g) closed

pub found_shut : (s : State) (before : List Happening) (old new : RackState) (answer : Result Membership SurveyFault) (m : Membership)
    → Surveys answer old new → IsTrue new.honest → Ran any_call before old.history → Represents s old.history
    → NothingReturned old.history new.history → ToleratedSince s.geometry before new.history → answer ≡ Ok m → (j : ℕ)
    → j < m.array.geometry.n → why_of m j ≡ Rebuilding → IsLeftShut m.array.geometry new.history j
found_shut s before old new answer m surveys honest began stands none tolerated ok j below rebuilt =
    let answered : IsAnswer surveys.findings (Ok m) = subst (λ (a : Result Membership SurveyFault). IsAnswer surveys.findings a) ok surveys.answered in
    let is : IsHistory old.history = surveys.began honest in
    let ran : Ran no_write old.history new.history = unwritten_ran (asked_ran 32 old.history new.history (surveys.asked honest)) in
    let same : m.array.geometry ≡ s.geometry =
    identity s before old new surveys.findings surveys.found honest is ran began stands none tolerated m answered.0 in
    subst (λ (g : Geometry). IsLeftShut g new.history j) (sym same)
    (shut_found s before old new surveys.findings surveys.found honest is ran began stands none tolerated j
    (subst (λ (g : Geometry). j < g.n) same below) m answered.0 rebuilt)
