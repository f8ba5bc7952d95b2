-- A slot that is live and stays whole is left out by no epoch of a call, whatever comes of the call.
use Rattle.std.proofs.Common.{◌≡◌, ◌≢◌, ◌∙◌, ◌⊎◌, ◌<◌, ◌≤◌, ℕ, List, [], ◌∷◌, None, Ok, Err, inl, inr, refl, sym, ap, subst}
use Rattle.std.specs.Prelude.{Bool, IsTrue}
use Rattle.stair_model.specs.Geometry.{Geometry}
use Rattle.stair_model.specs.Slots.{HasSlot}
use Rattle.stair_rack.specs.Answers.{Ran, any_call}
use Rattle.stair_rack.specs.Crash.{image_now}
use Rattle.stair_rack.specs.History.{Attach, Happening, Read, Sectors, SlotCall, Sync, Write}
use Rattle.stair_rack.specs.Moments.{IsMoment}
use Rattle.stair_rack.specs.Offline.{IsOffline}
use Rattle.stair_rack.specs.Stretch.{NothingWritten, every_slot}
use Rattle.stair_rack.specs.declared.watcher.Event.{Event}
use Rattle.stair_rack.proofs.CrashLemmas.{CrashMayLeave-now}
use Rattle.stair_rack.proofs.MomentLemmas.{moment_between, moment_first, moment_last, moment_sooner, ran_any, ran_join, ran_none, ran_weakened}
use Rattle.stair_rack.proofs.OfflineLemmas.{held_on}
use Rattle.stair_rack.proofs.StretchLemmas.{each_before, none_written}
use Rattle.stair_super.specs.Superblock.{Superblock, joined_at, joined_in, mark_in}
use Rattle.stair_super.specs.declared.configuration.Configuration.{Configuration}
use Rattle.stair_super.specs.declared.mark.Mark.TheVariants.{Down, Live}
use Rattle.stair_member.specs.Asked.{LeavesSectors}
use Rattle.stair_member.specs.Current.{IsCurrent, IsLive}
use Rattle.stair_member.specs.Membership.{Membership, why_of}
use Rattle.stair_member.specs.Reasons.{IsReason}
use Rattle.stair_member.specs.Superblocks.{Counts}
use Rattle.stair_member.specs.Survey.{Surveys}
use Rattle.stair_member.specs.declared.why.Why.{Why}
use Rattle.stair_member.specs.declared.why.Why.TheVariants as why
use Rattle.stair_member.proofs.AskedLemmas.{asked_ran}
use Rattle.stair_member.proofs.SuperLemmas.{one_super}
use Rattle.stair_state.specs.Represents.{AreSteady, no_write}
use Rattle.stair_state.specs.State.{State, without_seats}
use Rattle.stair_state.proofs.AgreeLemmas.{counts_agree, here_live}
use Rattle.stair_state.proofs.OutsideLemmas.{unwritten_ran}
use Rattle.stair_state.proofs.SeenLemmas.{IsLookedAt, counts_read, fits}
use Rattle.stair_state.proofs.StillLemmas.{read_image}
use Rattle.stair_state.proofs.SurveyedLemmas.{agree, looks, reasons}
use Rattle.stair_invariant.specs.Effects.{snapshot}
use Rattle.stair_invariant.specs.Returning.{NoneReturns}
use Rattle.stair_invariant.specs.Session.{ArrayState, IsArray, IsLiveIn, IsRebuiltIn}
use Rattle.stair_array.specs.Causes.{First, IsNextChunk, UnderWay}
use Rattle.stair_array.specs.Machine.{Answer, LookAtSeats, ReadBlock, RebuildNext, Recover, ReplaceSlot, ScrubStripe, SetFrozen, SetLabel, Step, WriteBlocks}
use Rattle.stair_array.specs.Promise.{Begun, Closed, DoesStep, Ends, Found, GoesOn, Opened, Performs, Seen, Phase, StartsFrom}
use Rattle.stair_array.proofs.KeepLemmas.{no_writes}
use Rattle.stair_array.proofs.OpeningsLeadLemmas.{looks_write_none}
use Rattle.stair_command.specs.Action.{Create, Survey}
use Rattle.stair_command.specs.Devices.{DeviceView, Devices, WorksAll, seen_of}
use Rattle.stair_command.specs.Kept.{HasMember}
use Rattle.stair_command.specs.LeftOut.{LiveSlotsAreLeftOutByNone, MayHave, NamesLive}
use Rattle.stair_command.specs.Living.{StandsOver}
use Rattle.stair_command.specs.Rack.{told_of}
use Rattle.stair_command.specs.Run.{history_of}
use Rattle.stair_command.specs.Trace.{TraceItem, Did, Stepped, AlongTrace}
use Rattle.stair_command.proofs.BoundedArrayLaws.{calls_of_array}
use Rattle.stair_command.proofs.KeptLaws.{known_begun, known_closed, same_session, starts_known}
use Rattle.stair_command.proofs.LiveLaws.{BeginsWhole, IsUp, KeepsArray, ends_array, found_up, stays_here}
use Rattle.stair_command.proofs.HeadlineLaws.{all_lead, calm_trace}
use Rattle.stair_command.proofs.NamedLaws.{IsNaming, says_naming, stays_said}
use Rattle.stair_command.proofs.NamedStepLaws.{IsNamed, MayAim, step_goes}
use Rattle.stair_command.proofs.OwnNewLaws.{live_unless}
use Rattle.stair_command.proofs.PerformedLaws.{step_leads}
use Rattle.stair_command.proofs.RunLaws.{one_ran, runs_on, works_ran}
use Rattle.stair_command.proofs.SureStepLaws.{begins_at}
use Rattle.stair_command.proofs.StepPartLaws.{MayTake}

-- ---- what the steps of a session aim at

started_array : (was : ArrayState) (session : Phase) → StartsFrom RebuildNext was session → KeepsArray session → IsArray was
started_array was (Opened a) starts keeps = subst IsArray (sym starts.0) (keeps a refl starts.1)
started_array was _ starts keeps = absurd starts

-- a chunk is one of a slot that is rebuilt
next_rebuilt : (a : ArrayState) (slot stripe : ℕ) → IsArray a → IsNextChunk a slot stripe → IsRebuiltIn a.member slot
next_rebuilt a slot stripe is (UnderWay rebuild under same at) = subst (IsRebuiltIn a.member) same (is.rebuilds rebuild under).0
next_rebuilt a slot stripe is (First none lowest at) = lowest.rebuilt

module _ (g : Geometry) (j joined drawn : ℕ) where
  -- no step admits a live slot, or promotes it
  may_step : (step : Step) (was : ArrayState) (session : Phase) → StartsFrom step was session → KeepsArray session → IsLiveIn was.member j
      → IsNamed g j joined drawn was.member → MayTake (MayAim j) step was
  may_step (ReplaceSlot slot) was session starts keeps live named = λ free. record {
    admits = λ is.
        let same : slot ≡ j = cc in
        let down : mark_in was.member.array j ≡ Down = subst (λ (i : ℕ). mark_in was.member.array i ≡ Down) same free.1 in
        let never : Live ≡ Down = sym named.marked ∙ down in
        cc;
    promotes = λ is. cc;
  }
  may_step RebuildNext was session starts keeps live named = λ slot t next. record {
    admits = λ is. cc;
    promotes = λ is.
        let same : slot ≡ j = cc in
        let rebuilt = next_rebuilt was slot t (started_array was session starts keeps) next in
        let never : why.Rebuilding ≡ why.Here = sym rebuilt.why ∙ ap (λ (i : ℕ). why_of was.member i) same ∙ live.why in
        cc;
  }
  may_step (SetFrozen frozen) was session starts keeps live named = λ label. record { admits = λ is. cc; promotes = λ is. cc }
  may_step (SetLabel label) was session starts keeps live named = λ frozen. record { admits = λ is. cc; promotes = λ is. cc }
  may_step Recover was session starts keeps live named = tt
  may_step (ReadBlock b) was session starts keeps live named = tt
  may_step (WriteBlocks first contents) was session starts keeps live named = tt
  may_step (ScrubStripe t) was session starts keeps live named = tt
  may_step LookAtSeats was session starts keeps live named = tt

  -- ---- traces of a session that has found the array, or has ended

  module _ {R W : Type 0} (view : DeviceView R W) (honest : IsTrue view.rack.honest) (before last : List Happening) where
    -- What an item did: nothing, or a step.
    data Came (item : TraceItem) (x y : Devices R W) : Type 0 where
      Rested : y.session ≡ x.session → history_of view y ≡ history_of view x → Came item x y
      Took : (step : Step) (answer : Answer step) (events : List Event) (does : Performs step answer events (seen_of view x) (seen_of view y))
          → Came item x y

    stepped : (step : Step) (answer : Answer step) (events : List Event) (left : Bool) (x y : Devices R W)
        → DoesStep step answer events (seen_of view x) (seen_of view y) → Came (Stepped step answer events left) x y
    stepped step answer events left x y (inl performs) = Took step answer events performs
    stepped step answer events left x y (inr stopped) =
        Rested (ap (λ (z : Seen). z.session) stopped.same) (ap (λ (z : Seen). z.told.history) stopped.same)

    came : (item : TraceItem) (x y : Devices R W) → WorksAll view item x y → x.session ≢ Begun → Came item x y
    came (Stepped step answer events left) x y works begun = stepped step answer events left x y works.0
    came (Did (Create array) outcome) x y works begun = absurd (begun works.1)
    came (Did Survey outcome) x y works begun = absurd (begun works.1)
    came item x y works begun = Rested (same_session view works) (ap (λ (d : Devices R W). history_of view d) works)

    -- what is known after a step is its own
    ends_in : {step : Step} {answer : Answer step} {events : List Event} {x y : Seen} (does : Performs step answer events x y)
        → ((n : Membership) → HasMember y.session n → n ≡ does.is.member) × (y.session ≢ Begun)
    ends_in {y = y} does =
        elim does.ends [
          | Ends is err closed ↦ (
            (λ n has. absurd (subst (λ (s : Phase). HasMember s n) closed has)),
            (λ begun. let same : Closed ≡ Begun = sym closed ∙ begun in cc),
          )
          | GoesOn ok kept opened ↦ (
            (λ n has. subst (λ (s : Phase). HasMember s n) opened has),
            (λ begun. let same : Opened does.is ≡ Begun = sym opened ∙ begun in cc),
          )
        ]

    record IsSlot (x : Devices R W) (m : Membership) : Type 0 where
      up : IsUp view honest g before j last m x
      named : IsNamed g j joined drawn m

    -- the slot is live to the session, as long as it has an array
    record Stands (x : Devices R W) : Type 0 where
      begun : x.session ≢ Begun
      slot : (m : Membership) → HasMember x.session m → IsSlot x m

    closed_stands : (x : Devices R W) → x.session ≡ Closed → Stands x
    closed_stands x closed = record {
      begun = λ begun. let same : Closed ≡ Begun = sym closed ∙ begun in cc;
      slot = λ m has. absurd (known_closed x.session m closed has);
    }

    still_up : (item : TraceItem) (x y : Devices R W) → WorksAll view item x y → y.session ≡ x.session → (m : Membership)
        → IsUp view honest g before j last m x → IsUp view honest g before j last m y
    still_up item x y works session m up =
        let one = one_ran view honest item x y works in
        record {
          below = up.below;
          here = up.here;
          geometry = up.geometry;
          held = held_on {allowed = any_call} j one up.held;
          from = up.from;
          since = ran_join up.since one;
          there = up.there;
          array = subst KeepsArray (sym session) up.array;
        }

    over : (trace : List TraceItem) (x y : Devices R W) → AlongTrace (WorksAll view) trace x y → Stands x → Ran any_call (history_of view y) last
        → Ran (IsNaming g j joined drawn) (history_of view x) (history_of view y)
    over [] x y works stands later =
        subst (λ (d : Devices R W). Ran (IsNaming g j joined drawn) (history_of view x) (history_of view d)) (sym works)
        (ran_none {allowed = IsNaming g j joined drawn} (history_of view x))
    over (item ∷ trace) x y works stands later =
        by (came item x works.0 works.1 stands.begun) (λ then. over trace works.0 y works.2 then later)
      where
        one : Ran any_call (history_of view x) (history_of view works.0)
        one = one_ran view honest item x works.0 works.1

        rest : Ran any_call (history_of view works.0) last
        rest = ran_join (works_ran view honest trace works.0 y works.2) later

        rested : works.0.session ≡ x.session → Stands works.0
        rested session = record {
          begun = λ is. stands.begun (sym session ∙ is);
          slot = λ m has.
              let was = stands.slot m (subst (λ (s : Phase). HasMember s m) session has) in
              record { up = still_up item x works.0 works.1 session m was.up; named = was.named };
        }

        took : (step : Step) (answer : Answer step) (events : List Event) (does : Performs step answer events (seen_of view x) (seen_of view works.0))
            → (Stands works.0 → Ran (IsNaming g j joined drawn) (history_of view works.0) (history_of view y))
            → Ran (IsNaming g j joined drawn) (history_of view x) (history_of view y)
        took step answer events does behind =
            let was = stands.slot does.was.member (starts_known step does.was x.session does.starts) in
            let up = was.up in
            let here = stays_here view honest g before j last does.was.member x works.0 up step answer events does refl rest in
            let geometry : does.is.member.array.geometry ≡ g = does.goes_on.geometry ∙ up.geometry in
            let under : j < does.was.member.array.geometry.n = subst (λ (q : Geometry). j < q.n) (sym up.geometry) up.below in
            let live : IsLiveIn does.is.member j =
            record { below = subst (λ (q : Geometry). j < q.n) (sym geometry) up.below; why = here } in
            let goes =
            step_goes g j joined drawn step does.was does.is.remembered answer (seen_of view x).told (snapshot does.is.member (seen_of view works.0).told)
            (may_step step does.was x.session does.starts up.array (record { below = under; why = up.here }) was.named) does.does in
            let ends = ends_in does in
            ran_join (goes.wrote live was.named honest)
            (behind (record {
              begun = ends.1;
              slot = λ n has. subst (IsSlot works.0) (sym (ends.0 n has)) (record {
                up = record {
                  below = up.below;
                  here = here;
                  geometry = geometry;
                  held = held_on {allowed = any_call} j one up.held;
                  from = up.from;
                  since = ran_join up.since one;
                  there = up.there;
                  array = ends_array step answer events (seen_of view x) (seen_of view works.0) does;
                };
                named = goes.on live was.named;
              });
            }))

        by : Came item x works.0 → (Stands works.0 → Ran (IsNaming g j joined drawn) (history_of view works.0) (history_of view y))
            → Ran (IsNaming g j joined drawn) (history_of view x) (history_of view y)
        by (Rested session same) behind =
            subst (λ (h : List Happening). Ran (IsNaming g j joined drawn) h (history_of view y)) same (behind (rested session))
        by (Took step answer events does) behind = took step answer events does behind

-- ---- a call from its beginning

module _ {R W : Type 0} (view : DeviceView R W) (s : State) (j : ℕ) where
  names_looks : (g : Geometry) (joined drawn i : ℕ) (call : SlotCall) → LeavesSectors i call → IsNaming g j joined drawn i call
  names_looks g joined drawn i (Write k bytes answer) is = absurd is
  names_looks g joined drawn i (Attach answer) is = tt
  names_looks g joined drawn i (Sectors size) is = tt
  names_looks g joined drawn i (Read k answer) is = tt
  names_looks g joined drawn i (Sync answer) is = tt

  names_unwritten : (g : Geometry) (joined drawn i : ℕ) (call : SlotCall) → no_write i call → IsNaming g j joined drawn i call
  names_unwritten g joined drawn i (Write k bytes answer) is = absurd is
  names_unwritten g joined drawn i (Attach answer) is = tt
  names_unwritten g joined drawn i (Sectors size) is = tt
  names_unwritten g joined drawn i (Read k answer) is = tt
  names_unwritten g joined drawn i (Sync answer) is = tt

  -- what the survey found names the slot as the rack did at first
  found_named : (m : Membership) (trace : List TraceItem) (x mid y : Devices R W) → Surveys (Ok m) (told_of view.rack x.rack) (told_of view.rack mid.rack)
      → mid.session ≡ Found m → AlongTrace (WorksAll view) trace mid y → BeginsWhole view s j x y → (current : Superblock)
      → IsCurrent s.geometry (image_now (history_of view x)) current → (own : Superblock) → Counts s.geometry (image_now (history_of view x)) j own
      → own.joined ≡ joined_at current j → IsNamed s.geometry j (joined_at current j) own.draw m
  found_named m trace x mid y surveys is_found works begins current is_current own own_counts own_is = record {
    geometry = up.geometry;
    marked = ap (λ (c : Configuration). mark_in c j) surveys.answered.0.array ∙ read_live.marked;
    joined_is =
        ap (λ (c : Configuration). joined_in c j) surveys.answered.0.array ∙ sym read_live.joined ∙ ap (λ (t : Superblock). t.joined) same_super ∙ own_is;
    draws = subst (λ (t : Superblock). t.draw ≤ m.drawn) same_super (surveys.answered.0.drawn.above j read_live.super found_counts);
  }
    where
      stands : StandsOver view s x y
      stands = begins.stands

      before : List Happening
      before = history_of view x

      after : List Happening
      after = history_of view mid

      up : IsUp view stands.honest s.geometry before j (history_of view y) m mid
      up = found_up view s j m trace x mid y surveys is_found works begins

      asked : Ran LeavesSectors before after
      asked = asked_ran 32 before after (surveys.asked stands.honest)

      rest : Ran any_call after (history_of view y)
      rest = works_ran view stands.honest trace mid y works

      until : IsMoment before after (history_of view y)
      until = moment_between (ran_any asked) rest

      looked : IsLookedAt s.geometry (λ i. IsOffline before after i) (image_now before) (read_image surveys.findings) (image_now after)
      looked =
          looks s before (told_of view.rack x.rack) (told_of view.rack mid.rack) surveys.findings surveys.found stands.honest
          (surveys.began stands.honest) (unwritten_ran asked) (ran_none before) stands.represents (each_before stands.returned until)
          (λ h is. stands.tolerated h (moment_sooner is until))

      read_live : IsLive s.geometry surveys.findings.image surveys.answered.0.current j
      read_live =
          here_live (HasSlot surveys.findings.gone) s.geometry surveys.findings.image surveys.answered.0.current j up.below
          (subst (λ (w : Why). IsReason (HasSlot surveys.findings.gone) s.geometry surveys.findings.image surveys.answered.0.current j w) up.here
          (reasons s before (told_of view.rack x.rack) (told_of view.rack mid.rack) surveys.findings surveys.found stands.honest
          (surveys.began stands.honest) (unwritten_ran asked) (ran_none before) stands.represents (each_before stands.returned until)
          (λ h is. stands.tolerated h (moment_sooner is until)) m surveys.answered.0 j up.below))

      found_counts : Counts m.array.geometry surveys.findings.image j read_live.super
      found_counts = subst (λ (q : Geometry). Counts q surveys.findings.image j read_live.super) (sym up.geometry) read_live.counts

      same_super : read_live.super ≡ own
      same_super =
          one_super ((read_image surveys.findings j).cell) read_live.super own
          (counts_agree s.geometry 32 (fits looked) surveys.findings.image (read_image surveys.findings) j read_live.super (agree surveys.findings)
          read_live.counts).super
          (counts_read looked j own (λ k place. begins.stays.places after k until place) own_counts).super

  module _ (y : Devices R W) (current own : Superblock) where
    abbrev AreNaming : List Happening → List Happening → Type 0
    AreNaming old new = Ran (IsNaming s.geometry j (joined_at current j) own.draw) old new

    -- what is asked of the rack as the call begins
    record Begins (x : Devices R W) : Type 0 where
      whole : BeginsWhole view s j x y
      is_current : IsCurrent s.geometry (image_now (history_of view x)) current
      counts : Counts s.geometry (image_now (history_of view x)) j own
      joined_is : own.joined ≡ joined_at current j

    from_begun : (trace : List TraceItem) (x : Devices R W) → AlongTrace (WorksAll view) trace x y → Begins x → AreNaming (history_of view x) (history_of view y)
    from_begun [] x works begins =
        subst (λ (d : Devices R W). AreNaming (history_of view x) (history_of view d)) (sym works)
        (ran_none {allowed = IsNaming s.geometry j (joined_at current j) own.draw} (history_of view x))
    from_begun (Stepped step answer events left ∷ trace) x works begins =
        elim works.1.0 [
          | inl does ↦ absurd (known_begun x.session does.was.member begins.whole.stands.begun (starts_known step does.was x.session does.starts))
          | inr stopped ↦ absurd (let same : Begun ≡ Opened stopped.array = sym begins.whole.stands.begun ∙ stopped.is_open in cc)
        ]
    from_begun (Did (Create array) outcome ∷ trace) x works begins =
        let of = calls_of_array R W view s (Did (Create array) outcome ∷ trace) x y works begins.whole.stands in
        let honest = begins.whole.stands.honest in
        ran_join (ran_weakened (names_unwritten s.geometry (joined_at current j) own.draw) (no_writes (works.1.0.ran honest) of.0))
        (over s.geometry j (joined_at current j) own.draw view honest (history_of view x) (history_of view y) trace works.0 y works.2
        (closed_stands s.geometry j (joined_at current j) own.draw view honest (history_of view x) (history_of view y) works.0 works.1.2)
        (ran_none (history_of view y)))
    from_begun (Did Survey (Ok m) ∷ trace) x works begins =
        let honest = begins.whole.stands.honest in
        ran_join
        (ran_weakened (names_looks s.geometry (joined_at current j) own.draw)
        (asked_ran 32 (history_of view x) (history_of view works.0) (works.1.0.asked honest)))
        (over s.geometry j (joined_at current j) own.draw view honest (history_of view x) (history_of view y) trace works.0 y works.2 (record {
          begun = λ begun. let same : Found m ≡ Begun = sym works.1.2 ∙ begun in cc;
          slot = λ n has.
              let is : n ≡ m = subst (λ (session : Phase). HasMember session n) works.1.2 has in
              subst (IsSlot s.geometry j (joined_at current j) own.draw view honest (history_of view x) (history_of view y) works.0) (sym is) (record {
                up = found_up view s j m trace x works.0 y works.1.0 works.1.2 works.2 begins.whole;
                named = found_named m trace x works.0 y works.1.0 works.1.2 works.2 begins.whole current begins.is_current own begins.counts begins.joined_is;
              });
        }) (ran_none (history_of view y)))
    from_begun (Did Survey (Err fault) ∷ trace) x works begins =
        let honest = begins.whole.stands.honest in
        ran_join
        (ran_weakened (names_looks s.geometry (joined_at current j) own.draw)
        (asked_ran 32 (history_of view x) (history_of view works.0) (works.1.0.asked honest)))
        (over s.geometry j (joined_at current j) own.draw view honest (history_of view x) (history_of view y) trace works.0 y works.2
        (closed_stands s.geometry j (joined_at current j) own.draw view honest (history_of view x) (history_of view y) works.0 works.1.2)
        (ran_none (history_of view y)))
    from_begun (item ∷ trace) x works begins =
        subst (λ (d : Devices R W). AreNaming (history_of view d) (history_of view y)) works.1
        (from_begun trace works.0 works.2 (subst Begins (sym works.1) begins))

-- the rack represents a state in the end, so nothing is unsynced in its superblock places
ends_steady : {R W : Type 0} (view : DeviceView R W) (s : State) (trace : List TraceItem) (x y : Devices R W) → AlongTrace (WorksAll view) trace x y → StandsOver view s x y
    → AreSteady s.geometry (history_of view y)
ends_steady view s trace x y works stands =
    let ran = works_ran view stands.honest trace x y works in
    let run =
    runs_on view stands.honest NoneReturns (history_of view x) (without_seats s) None trace x y works
    (all_lead NoneReturns view step_leads trace x y works) stands.history (begins_at NoneReturns view s x stands.begun stands.represents)
    (calm_trace view stands.honest s.geometry (history_of view x) (history_of view y) trace x y works (ran_none (history_of view x))
    (λ h at. stands.tolerated h at) stands.returned) in
    subst (λ (g : Geometry). AreSteady g (history_of view y)) run.geometry run.is_at.is_in.stands.steady

pub left_out_by_none : (R W : Type 0) → LiveSlotsAreLeftOutByNone R W
left_out_by_none R W view s trace first last works stands j stays live current is_current =
    record {
      names = λ h t at may.
          stays_said s.geometry (λ (u : Superblock). MayHave s.geometry before u ⊎ NamesLive j (joined_at current j) u)
          (ran_weakened
          (says_naming s.geometry (λ (u : Superblock). MayHave s.geometry before u ⊎ NamesLive j (joined_at current j) u) j (joined_at current j)
          first_live.super.draw (λ u is. inr is)) ran)
          (λ u there. inl there) h t at may;
      live = live_unless s.geometry j (joined_at current j) first_live.super.draw before after ran stands.returned first_live.super first_live.counts
          first_live.joined refl (λ k place. stays.places after k (moment_last all.more all.is) place) current is_current first_live refl
          (stands.represents.orderly (image_now before) (CrashMayLeave-now before)) (ends_steady view s trace first last works stands);
    }
  where
    before : List Happening
    before = history_of view first

    after : List Happening
    after = history_of view last

    all : Ran any_call before after
    all = works_ran view stands.honest trace first last works

    unwritten : NothingWritten before before
    unwritten = none_written {allowed = LeavesSectors} {slots = every_slot} looks_write_none (ran_none {allowed = LeavesSectors} before)

    first_live : IsLive s.geometry (image_now before) current j
    first_live = live before (moment_first all.more all.is) unwritten current is_current

    ran : Ran (IsNaming s.geometry j (joined_at current j) first_live.super.draw) before after
    ran = from_begun view s j last current first_live.super trace first works (record {
      whole = record { stands = stands; stays = stays; live = live };
      is_current = is_current;
      counts = first_live.counts;
      joined_is = first_live.joined;
    })
