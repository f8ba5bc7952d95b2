-- The example goes on: the next opening, and the reads after it, leave out the device that was put back.
use Rattle.std.proofs.Common.{◌≡◌, ◌≢◌, ◌∙◌, ◌<◌, ◌⊎◌, ℕ, List, true, false, None, Ok, Err, inl, inr, refl, sym, ap, subst}
use Rattle.std.proofs.lemmas.Bool.{false≢true}
use Rattle.std.specs.Prelude.{IsSome, IsTrue}
use Rattle.stair_model.specs.Geometry.{Geometry, block_count}
use Rattle.stair_rack.specs.Answers.{IsHistory, Ran, any_call}
use Rattle.stair_rack.specs.History.{Attach, Happening, Read, Sectors, SlotCall, Sync, Write}
use Rattle.stair_rack.specs.RackState.{RackState}
use Rattle.stair_rack.specs.declared.watcher.Event.{Event}
use Rattle.stair_rack.proofs.MomentLemmas.{ran_none, ran_weakened}
use Rattle.stair_rack.proofs.TidyLemmas.{history_on}
use Rattle.stair_super.specs.Superblock.{mark_in}
use Rattle.stair_super.specs.declared.configuration.Configuration.{Configuration}
use Rattle.stair_member.specs.Membership.{IsHere, IsMembership, Membership}
use Rattle.stair_member.specs.Seats.{Seats}
use Rattle.stair_member.specs.Survey.{Surveys}
use Rattle.stair_state.specs.Blocks.{AreEncodingsOf, Blocks, Codewords, zero_block, zero_blocks}
use Rattle.stair_state.specs.Holding.{IsConsistentUnderReassembly}
use Rattle.stair_state.specs.Represents.{no_write}
use Rattle.stair_state.specs.State.{Content, State}
use Rattle.stair_state.proofs.OutsideLemmas.{unwritten_ran}
use Rattle.stair_state.proofs.ReturnLemmas.{looked_consistent}
use Rattle.stair_invariant.specs.Mixed.{IsToleratedMixed}
use Rattle.stair_invariant.specs.Returning.{AnyReturns, StaysWithinTolerance, StaysWithinToleranceUnread}
use Rattle.stair_invariant.specs.SeatSteps.{EachMayDrop}
use Rattle.stair_invariant.specs.Session.{ArrayState, IsLiveIn, seats_in}
use Rattle.stair_array.specs.Machine.{Answer, EpochsSpent, IsDecided, ReadBlock, Recover, Refusal, ReplaceSlot, Step}
use Rattle.stair_array.specs.Promise.{Ends, EndsIn, Found, GoesOn, IsInState, IsLed, IsOpenFor, LeadsStep, Opened, Performs, Seen, ServesState, Phase, is_open}
use Rattle.stair_array.proofs.ReadDoneLemmas as read
use Rattle.stair_array.proofs.RecoverLemmas as recover
use Rattle.stair_array.proofs.StepsLead.{promises}
use Rattle.stair_reinsert.specs.Misled.{five}
use Rattle.stair_reinsert.specs.Still.{IsStill}
use Rattle.stair_reinsert.proofs.AnyReturnsLead.{any_returns_leads}
use Rattle.stair_reinsert.proofs.OpeningsLead.{openings_lead}
use Rattle.stair_reinsert.proofs.ReadsLead.{reads_lead}
use Rattle.stair_reinsert.proofs.SurveyLemmas as survey
use Rattle.stair_reinsert_examples.proofs.FiveConsistent.{zeros}
use Rattle.stair_lives.specs.Example.{EachOpensAmid, EachOpensWithout, HaveAllBut, OpensWithout, ReadsWithout, made_without, reinserted}
use Rattle.stair_lives.specs.Stale.{HasMember, ReadsBehind}
use Rattle.stair_lives.proofs.AmidCalls.{calm_amid}
use Rattle.stair_lives.proofs.Known.{IsKnown, up_here}
use Rattle.stair_lives.proofs.LeftOutAgain.{acted, made_consistent, made_names, mixed, newest, not_here, was_history}
use Rattle.stair_lives.proofs.NewestLemmas.{NamesNewest, found_newest, looked_current}
use Rattle.stair_lives.proofs.ReadsOf.{only_live_are_read}
use Rattle.stair_lives.proofs.SeatsKept.{may_keep}
use Rattle.stair_lives.proofs.SessionLine.{row_seats}

-- READS

reads_mapped : (P Q : ℕ → Type 0) → ((j : ℕ) → P j → Q j) → (j : ℕ) (call : SlotCall) → ReadsBehind P j call → ReadsBehind Q j call
reads_mapped P Q map j (Read k answer) is = λ behind. map j (is behind)
reads_mapped P Q map j (Attach answer) is = tt
reads_mapped P Q map j (Sectors size) is = tt
reads_mapped P Q map j (Write k bytes answer) is = tt
reads_mapped P Q map j (Sync answer) is = tt

-- a step that replaces no slot, by a member for which slot 3 takes no part, reads none of it
none_of_three : (step : Step) (answer : Answer step) (events : List Event) (x y : Seen) (m : Membership) → Performs step answer events x y
    → IsTrue y.told.honest → HasMember x.session m → ((j : ℕ) → step ≢ ReplaceSlot j) → ¬ IsHere m 3
    → Ran (ReadsBehind (λ j. j ≢ 3)) x.told.history y.told.history
none_of_three step answer events x y m p honest has none out =
    ran_weakened (λ j call is. reads_mapped (λ i. IsLiveIn m i ⊎ (step ≡ ReplaceSlot i)) (λ i. i ≢ 3) other j call is)
    (only_live_are_read step answer events x y m (inl p) honest has)
  where
    other : (j : ℕ) → IsLiveIn m j ⊎ (step ≡ ReplaceSlot j) → j ≢ 3
    other j (inl live) same = out (subst (IsHere m) same (record { below = live.below; why = inl live.why }))
    other j (inr replaces) same = absurd (none j replaces)

-- ONCE IT IS OPEN

module _ (words : Codewords) (s : State) (y : Seen) (a : ArrayState) (geometry : s.geometry ≡ five) (blocks : s.content.blocks ≡ zero_blocks)
    (history : IsHistory y.told.history) (is_in : IsInState AnyReturns (reinserted words) s y) (is_opened : y.session ≡ Opened a)
    (out : ¬ IsHere a.member 3) where
  module _ (b : ℕ) (answer : Answer (ReadBlock b)) (events : List Event) (z : Seen) (p : Performs (ReadBlock b) answer events y z)
      (honest : IsTrue z.told.honest) (calm : StaysWithinTolerance AnyReturns five true (reinserted words) z.told.history) (below : b < block_count five) where
    kept_calm : StaysWithinTolerance AnyReturns s.geometry (is_open y.session) (reinserted words) z.told.history
    kept_calm =
        subst (λ (session : Phase). StaysWithinTolerance AnyReturns s.geometry (is_open session) (reinserted words) z.told.history) (sym is_opened)
        (subst (λ (g : Geometry). StaysWithinTolerance AnyReturns g true (reinserted words) z.told.history) (sym geometry) calm)

    leads_by : LeadsStep AnyReturns p.was.member (ReadBlock b) answer y z
    leads_by = promises AnyReturns any_returns_leads (ReadBlock b) answer events y z p (λ same. cc)

    led_by : IsLed AnyReturns p.was.member (reinserted words) s (ReadBlock b) answer z
    led_by = leads_by.leads honest (reinserted words) s history is_in kept_calm

    block_is : (given : Answer (ReadBlock b)) (now : IsLed AnyReturns p.was.member (reinserted words) s (ReadBlock b) given z) (bytes : List ℕ)
        → given ≡ Ok bytes → bytes ≡ zero_block
    block_is (Ok read_bytes) now bytes same =
        let is : read_bytes ≡ bytes = cc in sym is ∙ now.is_step.row.holds.0 ∙ ap (λ (content : Blocks). content b) blocks
    block_is (Err refusal) now bytes same = absurd (cc)

    spent_by : (refusal : Refusal) → answer ≡ Err refusal → refusal ≡ EpochsSpent
    spent_by refusal same =
        read.none_refused AnyReturns reads_lead b answer events y z p honest (reinserted words) s history is_in kept_calm
        (subst (λ (g : Geometry). b < block_count g) (sym geometry) below) refusal same

    reads_none : Ran (ReadsBehind (λ j. j ≢ 3)) y.told.history z.told.history
    reads_none =
        none_of_three (ReadBlock b) answer events y z a.member p honest
        (subst (λ (session : Phase). HasMember session a.member) (sym is_opened) refl) (λ j same. cc) out

-- THE OPENING

module _ (words now : Codewords) (encoded : AreEncodingsOf five zero_blocks now) (agree : HaveAllBut now words) (first found : RackState)
    (m : Membership) (answer : Answer Recover) (events : List Event) (y : Seen) (begins : first.history ≡ reinserted words)
    (honest : IsTrue found.honest) (still : IsStill first.history found.history) (surveys : Surveys (Ok m) first found) (rules : IsMembership m)
    (p : Performs Recover answer events (record { told = found; session = Found m }) y) (told : IsTrue y.told.honest)
    (calm : StaysWithinTolerance AnyReturns five false (reinserted words) y.told.history) where
  abbrev x : Seen
  x = record { told = found; session = Found m }

  looks : Ran no_write (reinserted words) found.history
  looks =
      subst (λ (h : List Happening). Ran no_write h found.history) begins
      (unwritten_ran (survey.ran first.history first found (Ok m) surveys honest (ran_none {allowed = any_call} first.history)))

  history : IsHistory found.history
  history = history_on {allowed = no_write} (was_history words) looks

  consistent : IsConsistentUnderReassembly zeros (reinserted words)
  consistent = looked_consistent zeros (made_without words) (reinserted words) (made_consistent words now agree encoded) (acted words)

  is_in : IsInState AnyReturns (reinserted words) zeros x
  is_in = record {
    stands = looked_consistent zeros (reinserted words) found.history consistent looks;
    serves = (first, begins, consistent, surveys, refl);
  }

  same : m.array ≡ newest.array
  same =
      found_newest five m newest.array first found surveys honest
      (subst (NamesNewest five newest.array) (sym begins)
      (looked_current five newest.array (made_without words) (reinserted words) (made_names words now agree) (acted words)))
      (subst (λ (h : List Happening). IsToleratedMixed five h h found.history) (sym begins)
      (mixed words found.history (subst (λ (h : List Happening). IsStill h found.history) begins still)))

  out : ¬ IsHere m 3
  out = not_here words first found m surveys same

  leads : LeadsStep AnyReturns p.was.member Recover answer x y
  leads =
      promises AnyReturns any_returns_leads Recover answer events x y p
      (λ at. subst (λ (a : ArrayState). IsMembership a.member) (sym p.starts) rules)

  led : IsLed AnyReturns p.was.member (reinserted words) zeros Recover answer y
  led = leads.leads told (reinserted words) zeros history is_in calm

  reads : Ran (ReadsBehind (λ j. j ≢ 3)) found.history y.told.history
  reads = none_of_three Recover answer events x y m p told refl (λ j at. cc) out

  spent : StaysWithinToleranceUnread AnyReturns five false (reinserted words) y.told.history → (refusal : Refusal) → answer ≡ Err refusal → refusal ≡ EpochsSpent
  spent unread refusal at =
      recover.only_spent AnyReturns openings_lead answer events x y p (subst (λ (a : ArrayState). IsMembership a.member) (sym p.starts) rules) told
      (reinserted words) zeros is_in calm unread refusal at

  zero_after : (s : State) → IsDecided zeros s → s.content.blocks ≡ zero_blocks
  zero_after s (inl is) = ap (λ (c : Content). c.blocks) is.content
  zero_after s (inr is) = ap (λ (c : Content). c.blocks) is.content

  after : (given : Answer Recover) (a : ArrayState) → EndsIn Recover given a y.session
      → IsLed AnyReturns p.was.member (reinserted words) zeros Recover given y → (g : Geometry) → given ≡ Ok g → ReadsWithout words y
  after (Err refusal) a ends done g at = absurd (cc)
  after (Ok given) a (Ends opens err closed) done g at = absurd (false≢true err)
  after (Ok given) a (GoesOn opens keeps is_opened) done g at =
      by (subst (λ (session : Phase). ServesState AnyReturns (reinserted words) done.state session y.told) is_opened done.is_in.serves)
    where
      some_not : a.stopped ≡ None → IsSome a.stopped → ⊥
      some_not none some = cc

      without : IsOpenFor AnyReturns (reinserted words) done.state a y.told.history → ¬ IsHere a.member 3
      without is here =
          let known : IsKnown a.member = record { rules = is.is_open.array.member; marks = is.is_open.array.marks } in
          let seats : done.is_step.row.seats ≡ seats_in a.member.array =
          row_seats Recover (Ok given) done.is_step.begun (seats_in a.member.array) zeros done.state done.is_step.row is.seats in
          let drops : EachMayDrop (seats_in p.was.member.array) (seats_in a.member.array) =
          subst (λ (z : Seats). EachMayDrop z (seats_in a.member.array)) done.is_step.begins.0
          (subst (λ (z : Seats). EachMayDrop done.is_step.begun z) seats done.is_step.row.marks) in
          (may_keep (seats_in p.was.member.array 3) (seats_in a.member.array 3) (drops 3) (up_here a.member known 3 here)).0
          (ap (λ (k : ArrayState). mark_in k.member.array 3) p.starts ∙ ap (λ (c : Configuration). mark_in c 3) same)

      by : IsOpenFor AnyReturns (reinserted words) done.state a y.told.history ⊎ IsSome a.stopped → ReadsWithout words y
      by (inr stopped) = absurd (some_not keeps stopped)
      by (inl is) =
          let geometry : done.state.geometry ≡ five = done.is_step.row.geometry in
          let blocks = zero_after done.state done.is_step.row.holds.1 in
          let was = history_on {allowed = ReadsBehind (λ j. j ≢ 3)} history reads in
          let away = without is in
          record {
            member = a.member;
            opened = (a, is_opened, keeps, refl);
            left = away;
            read = λ b got more z q honest_z calm_z below. (
              reads_none words done.state y a geometry blocks was done.is_in is_opened away b got more z q honest_z calm_z below,
              block_is words done.state y a geometry blocks was done.is_in is_opened away b got more z q honest_z calm_z below got
                  (led_by words done.state y a geometry blocks was done.is_in is_opened away b got more z q honest_z calm_z below),
              spent_by words done.state y a geometry blocks was done.is_in is_opened away b got more z q honest_z calm_z below,
            );
          }

  opens : OpensWithout words answer x y
  opens = record { reads = reads; refused = spent; done = after answer p.is p.ends led }

pub each_opens_without : (words now : Codewords) → AreEncodingsOf five zero_blocks now → HaveAllBut now words → EachOpensWithout words
each_opens_without words now encoded agree first found m answer events y begins honest still surveys rules p told calm =
    opens words now encoded agree first found m answer events y begins honest still surveys rules p told calm

pub each_opens_amid : (words now : Codewords) → AreEncodingsOf five zero_blocks now → HaveAllBut now words → EachOpensAmid words
each_opens_amid words now encoded agree first found m answer events y begins honest still surveys rules p told keeps =
    let amid = calm_amid words in
    let each = amid.kept y.told.history keeps in
    let opened : OpensWithout words answer (record { told = found; session = Found m }) y =
    opens words now encoded agree first found m answer events y begins honest still surveys rules p told (amid.calm y.told.history each) in
    (opened, opened.refused (amid.unread y.told.history each))
