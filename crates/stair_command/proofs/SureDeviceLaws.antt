-- A device that takes no part in an array can replace what its slot had: to no survey is the slot here, so it is Down until it is
-- replaced.
use Rattle.std.proofs.Common.{◌≡◌, ◌≢◌, ◌∙◌, ◌⊎◌, ℕ, ◌<◌, List, [], ◌∷◌, Ok, Err, Result, inl, inr, refl, sym, ap, subst, arith}
use Rattle.std.proofs.lemmas.Bool.{false≢true}
use Rattle.std.specs.Prelude.{Bool, IsOk, IsTrue, ⊤}
use Rattle.stair_model.specs.Geometry.{Geometry}
use Rattle.stair_model.specs.Slots.{HasSlot}
use Rattle.stair_rack.specs.Answers.{Ran, any_call}
use Rattle.stair_rack.specs.History.{Happening}
use Rattle.stair_rack.specs.Moments.{IsMoment}
use Rattle.stair_rack.specs.Offline.{IsOffline}
use Rattle.stair_rack.specs.Sector.{Cell, Good}
use Rattle.stair_rack.specs.Stretch.{NothingWritten, every_slot}
use Rattle.stair_rack.specs.RackState.{IsReading, RackState}
use Rattle.stair_rack.specs.declared.watcher.Event.{Event}
use Rattle.stair_rack.specs.Crash.{image_now}
use Rattle.stair_rack.proofs.CrashLemmas.{CrashMayLeave-now}
use Rattle.stair_rack.proofs.MomentLemmas.{moment_between, moment_first, moment_last, moment_later, moment_sooner, ran_any, ran_before, ran_join, ran_none}
use Rattle.stair_rack.proofs.OfflineLemmas.{pulls_on}
use Rattle.stair_rack.proofs.StretchLemmas.{none_written}
use Rattle.stair_super.specs.Superblock.{Superblock, mark_in}
use Rattle.stair_super.specs.declared.mark.Mark.TheVariants.{Down, Rebuilding}
use Rattle.stair_member.specs.Aims.{mark_for}
use Rattle.stair_member.specs.Asked.{LeavesSectors}
use Rattle.stair_member.specs.Findings.{IsPlaceFound, Unread}
use Rattle.stair_member.specs.Findings as found
use Rattle.stair_member.specs.Membership.{IsHere, Membership, why_of}
use Rattle.stair_member.specs.Reasons.{Applies, rank}
use Rattle.stair_member.specs.Superblocks.{HoldsSuper}
use Rattle.stair_member.specs.Survey.{IsSurveyed, Surveys}
use Rattle.stair_super.specs.declared.configuration.Configuration.{Configuration}
use Rattle.stair_member.specs.declared.why.Why.{Why}
use Rattle.stair_member.specs.declared.why.Why.TheVariants as why
use Rattle.stair_member.proofs.AskedLemmas.{asked_ran}
use Rattle.stair_member.proofs.SuperLemmas.{counts_limits}
use Rattle.stair_state.specs.State.{State}
use Rattle.stair_state.specs.Surveyed.{FindsArray}
use Rattle.stair_state.specs.Tolerance.{IsWithinTolerance}
use Rattle.stair_state.proofs.SurveyedLemmas.{finds_array}
use Rattle.stair_invariant.specs.Returning.{AnyReturns, NoneReturns, Returning, StandsFor}
use Rattle.stair_invariant.specs.Session.{ArrayState}
use Rattle.stair_array.specs.Causes.{MarkGoesOn, WhyGoesOn}
use Rattle.stair_array.specs.Machine.{Answer, Chunk, Dropped, Nothing, Promoted, RebuildNext, Recover, Refusal, ReplaceSlot, Step}
use Rattle.stair_array.specs.Promise.{Begun, Closed, Ends, Found, GoesOn, Opened, Performs, Seen, Phase, StartsFrom, Stops, unopened}
use Rattle.stair_array.proofs.OpenStepLemmas.{opening_or_open}
use Rattle.stair_array.proofs.OpeningsLeadLemmas.{looks_write_none}
use Rattle.stair_command.specs.Action.{Action, Create, OkOf, Outcome, Survey}
use Rattle.stair_command.specs.Devices.{DeviceView, Devices, ExecutesWhole, WorksAll, devices, seen_of}
use Rattle.stair_command.specs.Ending.{AdmitsNone, AdmitsOnce, EachStep}
use Rattle.stair_command.specs.Outside.{Outside, Views}
use Rattle.stair_command.specs.Program.{Program, Ask, Take, Put, Allocate, Do, Try, RebuildAll, after_rebuild}
use Rattle.stair_command.specs.Rack.{told_of}
use Rattle.stair_command.specs.Trace.{TraceItem, Found as FoundOut, Took, TookLast, TakeFailed, HasPut, PutFailed, Grew, RanOut, Did, Stepped, AlongTrace, StepsProgram, after}
use Rattle.stair_command.specs.Sure.{CanReplaceAt, EachCanReplace, EachItem, HasDevice, BearsNone, StaysWithinToleranceBetween, IsFitFrom, IsMarkedDown, ServesAlong}
use Rattle.stair_reinsert.proofs.SurveyLemmas.{current_together, together, together_mixed}
use Rattle.stair_command.proofs.AlongLaws.{Serves, along_found, serves_on, survey_calm}
use Rattle.stair_command.proofs.FoundLaws.{IsArrayFound}
use Rattle.stair_command.proofs.KeptLaws.{known_begun, starts_known}
use Rattle.stair_command.proofs.PlannedLaws.{steps_along}
use Rattle.stair_command.proofs.PlannedSureLaws.{none_replaced_in}
use Rattle.stair_command.proofs.RunLaws.{one_ran, works_ran}

-- ---- what a survey finds

module _ (s : State) (m : Membership) (old new : RackState) (last : List Happening) (j : ℕ) (honest : IsTrue new.honest) (surveys : Surveys (Ok m) old new)
    (later : Ran any_call new.history last) where
  surveyed : IsSurveyed surveys.findings m
  surveyed = surveys.answered.0

  asked : Ran LeavesSectors old.history new.history
  asked = asked_ran 32 old.history new.history (surveys.asked honest)

  -- a moment of the survey, at which nothing is written yet
  until : {h : List Happening} → IsMoment old.history h new.history → IsMoment old.history h last
  until at = moment_sooner at (moment_between (ran_any asked) later)

  unwritten : {h : List Happening} → IsMoment old.history h new.history → NothingWritten old.history h
  unwritten at = none_written {allowed = LeavesSectors} {slots = every_slot} looks_write_none (ran_before asked at)

  small : IsHere m j → j < 32
  small here = let drawn = surveyed.drawn in
      let slots = (counts_limits m.array.geometry surveys.findings.image drawn.slot drawn.super drawn.counts).devices.1 in
      omega (arith, here.below, slots)

  -- no reason came before
  none_first : IsHere m j → (other : Why) → rank other < rank why.Rebuilding → ¬ Applies (HasSlot surveys.findings.gone) m.array.geometry surveys.findings.image surveyed.current j other
  none_first here other less = (surveyed.reasons j here.below).first other (by (why_of m j) here.why)
    where
      by : (reason : Why) → (reason ≡ why.Here) ⊎ (reason ≡ why.Rebuilding) → rank other < rank reason
      by why.Here is = omega (arith, less)
      by why.Rebuilding is = less
      by _ is = absurd (elim is [ inl same ↦ cc | inr same ↦ cc ])

  -- what was read was there
  was_there : (k : ℕ) (super : Superblock) (cell : Cell) → k < 2 → IsReading j k old new cell → HoldsSuper cell super → BearsNone old.history last j → ⊥
  was_there k super (Good bytes) place reading holds bare =
      let was = reading honest in
      bare was.moment (until was.is_one) (unwritten was.is_one) (record {
        place = k;
        place_in = place;
        super = super;
        holds = record { bytes = holds.bytes; good = was.found ∙ holds.good; spells = holds.spells };
      })
  was_there k super cell place reading holds bare = absurd (let is = holds.good in cc)

  found_there : (k : ℕ) (super : Superblock) {gone : Type 0} {cell : Cell} → k < 2 → IsPlaceFound gone j k old new cell → HoldsSuper cell super
      → BearsNone old.history last j → ⊥
  found_there k super {cell = cell} place (found.Read reading) holds bare = was_there k super cell place reading holds bare
  found_there k super place (Unread gone is) holds bare = absurd (let good = holds.good in cc)

  -- what the survey took for current marks it Down
  marked_down : (returning : Returning) → StandsFor returning s old.history → StaysWithinToleranceBetween returning s.geometry old.history old.history new.history
      → IsMarkedDown returning s.geometry old.history last j → mark_in surveyed.current.array j ≡ Down
  marked_down NoneReturns stands calm down =
      ap (λ (c : Configuration). mark_in c j) (sym surveyed.array)
      ∙ elim (finds.named first.current then.current first.is_current then.is_current) [
        | inl same ↦
            ap (λ (c : Configuration). mark_in c j) (named ∙ same)
            ∙ down new.history (until at_end) (unwritten at_end) (image_now new.history) refl then.current then.is_current
        | inr same ↦
            ap (λ (c : Configuration). mark_in c j) (named ∙ same)
            ∙ down old.history (until at_start) (unwritten at_start) (image_now old.history) refl first.current first.is_current
      ]
    where
      finds : FindsArray s (Ok m) old.history old.history new.history
      finds = finds_array s old.history old new (Ok m) surveys honest (ran_none (old.history)) stands calm.1 calm.0

      at_end : IsMoment old.history new.history new.history
      at_end = moment_last asked.more asked.is

      at_start : IsMoment old.history old.history new.history
      at_start = moment_first asked.more asked.is

      first : IsWithinTolerance (IsOffline old.history old.history) s.geometry (image_now old.history)
      first = calm.0 old.history at_start (image_now old.history) (CrashMayLeave-now old.history)

      then : IsWithinTolerance (IsOffline old.history new.history) s.geometry (image_now new.history)
      then = calm.0 new.history at_end (image_now new.history) (CrashMayLeave-now new.history)

      named : m.array ≡ finds.member.array
      named = let is = finds.found in cc
  marked_down AnyReturns stands calm down =
      down new.history (until at_end) (unwritten at_end) (together old.history old new (Ok m) surveys honest (ran_none old.history))
      (together_mixed old.history old new (Ok m) surveys honest (ran_none old.history)) surveyed.current
      (current_together old.history old new (Ok m) surveys honest (ran_none old.history) s.geometry calm.1 m surveyed)
    where
      at_end : IsMoment old.history new.history new.history
      at_end = moment_last asked.more asked.is

  -- a slot that is bare, or marked Down, isn't here
  not_here : (returning : Returning) → StandsFor returning s old.history → StaysWithinToleranceBetween returning s.geometry old.history old.history new.history
      → BearsNone old.history last j ⊎ IsMarkedDown returning s.geometry old.history last j → ¬ IsHere m j
  not_here returning stands calm (inl bare) here =
      none_first here why.NoSuper (omega arith)
      (λ has. found_there has.place has.super has.place_in ((surveys.found.each j (small here)).places has.place has.place_in) has.holds bare)
  not_here returning stands calm (inr down) here = none_first here why.MarkedDown (omega arith) (marked_down returning stands calm down)

-- ---- a slot that takes no part

-- it doesn't where the array was found, and is Down where it is open
abbrev IsOut : ℕ → Phase → Type 0
IsOut slot (Found m) = (slot < m.array.geometry.n) × (¬ IsHere m slot)
IsOut slot (Opened a) = (slot < a.member.array.geometry.n) × (mark_in a.member.array slot ≡ Down)
IsOut slot _ = ⊤

-- a reason for which a slot isn't here is one for which it is marked Down
down_for : (reason : Why) → reason ≢ why.Here → reason ≢ why.Rebuilding → mark_for reason ≡ Down
down_for why.Here not_live not_rebuilt = absurd (not_live refl)
down_for why.Rebuilding not_live not_rebuilt = absurd (not_rebuilt refl)
down_for _ not_live not_rebuilt = refl

module _ (slot : ℕ) (step : Step) (other : step ≢ ReplaceSlot slot) (m last : Membership) (old new : RackState) where
  still_away : slot < m.array.geometry.n → ¬ IsHere m slot → WhyGoesOn step old new m last slot → mark_for (why_of last slot) ≡ Down
  still_away below away (WhyGoesOn.Stays same) =
      down_for (why_of last slot) (λ here. away (record { below = below; why = inl (sym same ∙ here) }))
      (λ rebuilt. away (record { below = below; why = inr (sym same ∙ rebuilt) }))
  still_away below away (WhyGoesOn.Went gone was) = ap mark_for gone
  still_away below away (WhyGoesOn.IsAdmitted replaces is) = absurd (other replaces)
  still_away below away (WhyGoesOn.IsPromoted rebuilds was is) = absurd (away (record { below = below; why = inr was }))

  still_down : mark_in m.array slot ≡ Down → MarkGoesOn step old new m last slot → mark_in last.array slot ≡ Down
  still_down down (MarkGoesOn.Stays same) = same ∙ down
  still_down down (MarkGoesOn.WasAway opens not_live not_rebuilt to_down) = to_down
  still_down down (MarkGoesOn.Went gone to_down) = to_down
  still_down down (MarkGoesOn.IsAdmitted replaces mark) = absurd (other replaces)
  still_down down (MarkGoesOn.IsPromoted rebuilds was_mark mark) = let never : Down ≡ Rebuilding = sym down ∙ was_mark in absurd cc

-- from what an opening opens an array
record OpensFrom (was : ArrayState) (session : Phase) : Type 0 where
  found : Membership
  is_found : session ≡ Found found
  same : was ≡ unopened found

opens_from : (was : ArrayState) (session : Phase) → StartsFrom Recover was session → OpensFrom was session
opens_from was (Found found) starts = record { found = found; is_found = refl; same = starts }
opens_from was _ starts = absurd starts

ok_goes_on : {T : Type 0} (answer : Result T Refusal) → IsOk answer → ¬ Stops answer
ok_goes_on (Ok given) ok stops = absurd stops
ok_goes_on (Err refusal) ok stops = absurd (false≢true ok)

-- it stays so over every step but its own replacement
module _ (slot : ℕ) (step : Step) (other : step ≢ ReplaceSlot slot) (answer : Answer step) (events : List Event) (x y : Seen)
    (does : Performs step answer events x y) where
  opened_out : (step ≡ Recover → IsOk answer) → IsOut slot x.session → IsOut slot (Opened does.is)
  opened_out ok out =
      elim (opening_or_open step does.was x.session does.starts) [
        | inl opening ↦
            let opens = opens_from does.was x.session (subst (λ (begun : Step). StartsFrom begun does.was x.session) opening does.starts) in
            let found : IsOut slot (Found opens.found) = subst (IsOut slot) opens.is_found out in
            let was : (slot < does.was.member.array.geometry.n) × (¬ IsHere does.was.member slot) =
            subst (λ (a : ArrayState). (slot < a.member.array.geometry.n) × (¬ IsHere a.member slot)) (sym opens.same) found in
            let below : slot < does.is.member.array.geometry.n = omega (arith, was.0, ap (λ (g : Geometry). g.n) does.goes_on.geometry) in (
              below,
              (does.array (ok_goes_on answer (ok opening))).marks slot below
                  ∙ still_away slot step other does.was.member does.is.member x.told y.told was.0 was.1 (does.goes_on.whys slot was.0),
            )
        | inr began ↦
            let was : IsOut slot (Opened does.was) = subst (IsOut slot) began.is_open out in
            let below : slot < does.is.member.array.geometry.n = omega (arith, was.0, ap (λ (g : Geometry). g.n) does.goes_on.geometry) in
            (below, still_down slot step other does.was.member does.is.member x.told y.told was.1 (does.goes_on.marks slot was.0))
      ]

  performed_out : IsOut slot x.session → IsOut slot y.session
  performed_out out =
      elim does.ends [
        | Ends is err closed ↦ subst (IsOut slot) (sym closed) tt
        | GoesOn ok kept opened ↦ subst (IsOut slot) (sym opened) (opened_out ok out)
      ]

-- ---- the replacement in a trace

-- the item is a step of the replacement of this slot, or admits no medium
abbrev Replaces : ℕ → TraceItem → Type 0
Replaces slot (Stepped (ReplaceSlot j) answer events left) = j ≡ slot
Replaces slot _ = ⊥

abbrev ReplacesNone : TraceItem → Type 0
ReplacesNone (Stepped (ReplaceSlot j) answer events left) = ⊥
ReplacesNone _ = ⊤

-- what is left of a program that admits a medium to it once
data Admits (slot : ℕ) (item : TraceItem) (rest : Program) : Type 0 where
  StillOnce : ReplacesNone item → AdmitsOnce slot rest → Admits slot item rest
  NoneMore : Replaces slot item → EachStep AdmitsNone rest → Admits slot item rest

module _ (slot : ℕ) where
  after_once : (action : Action) (k : OkOf action → Program) (outcome : Outcome action) → ((done : OkOf action) → AdmitsOnce slot (k done))
      → AdmitsOnce slot (after action k outcome)
  after_once action k (Ok done) once = once done
  after_once action k (Err refusal) once = tt

  rebuilt_once : (slots done : ℕ) (k : ℕ → Program) (answer : Answer RebuildNext) → AdmitsOnce slot (RebuildAll slots done k)
      → AdmitsOnce slot (after_rebuild slots done k answer)
  rebuilt_once slots done k (Ok Nothing) once = once done
  rebuilt_once slots done k (Ok (Chunk j t)) once = once
  rebuilt_once slots done k (Ok (Promoted j)) once = once
  rebuilt_once slots done k (Ok (Dropped j)) once = once
  rebuilt_once slots done k (Err refusal) once = tt

  tried : (step : Step) (k : Answer step → Bool → Program) (answer : Answer step) (events : List Event) (left : Bool) → AdmitsOnce slot (Try step k)
      → Admits slot (Stepped step answer events left) (k answer left)
  tried (ReplaceSlot j) k answer events left once = NoneMore once.0 (once.1 answer left)
  tried _ k answer events left once = StillOnce tt (once answer left)

  same_rest : (item one : TraceItem) (rest next : Program) → item ≡ one → rest ≡ next → Admits slot one next → Admits slot item rest
  same_rest item one rest next trace_items programs admits =
      subst (λ (d : TraceItem). Admits slot d rest) (sym trace_items) (subst (Admits slot one) (sym programs) admits)

  move_admits : (item : TraceItem) (program rest : Program) → AdmitsOnce slot program → StepsProgram item program rest → Admits slot item rest
  move_admits (FoundOut reply) (Ask question k) rest once moves = StillOnce tt (subst (AdmitsOnce slot) (sym moves.3) (once moves.0 moves.2))
  move_admits (Took bytes) (Take least most k short) rest once moves = StillOnce tt (subst (AdmitsOnce slot) (sym moves.1) (once.0 bytes))
  move_admits (TookLast bytes) (Take least most k short) rest once moves = StillOnce tt (subst (AdmitsOnce slot) (sym moves.1) (once.1 bytes))
  move_admits (TakeFailed bytes) (Take least most k short) rest once moves = StillOnce tt (subst (AdmitsOnce slot) (sym moves.1) tt)
  move_admits (HasPut bytes) (Put all program) rest once moves = StillOnce tt (subst (AdmitsOnce slot) (sym moves.1) once)
  move_admits (PutFailed part) (Put all program) rest once moves = StillOnce tt (subst (AdmitsOnce slot) (sym moves.1) tt)
  move_admits Grew (Allocate program) rest once moves = StillOnce tt (subst (AdmitsOnce slot) (sym moves) once)
  move_admits RanOut (Allocate program) rest once moves = StillOnce tt (subst (AdmitsOnce slot) (sym moves) tt)
  move_admits (Did did came) (Do action k) rest once moves =
      StillOnce tt (subst (AdmitsOnce slot) (sym moves.2) (after_once action k moves.0 once))
  move_admits (Stepped did came events left) (Try step k) rest once moves =
      same_rest (Stepped did came events left) (Stepped step moves.0 events left) rest (k moves.0 left) moves.1 moves.2
      (tried step k moves.0 events left once)
  move_admits (Stepped did came events left) (RebuildAll slots done k) rest once moves =
      same_rest (Stepped did came events left) (Stepped RebuildNext moves.0 events left) rest (after_rebuild slots done k moves.0) moves.1 moves.2
      (StillOnce tt (rebuilt_once slots done k moves.0 once))
  move_admits _ _ rest once moves = absurd moves

module _ {R W : Type 0} (returning : Returning) (view : DeviceView R W) (honest : IsTrue view.rack.honest) (g : Geometry) (slot : ℕ)
    (first : List Happening) where
  abbrev h_of : Devices R W → List Happening
  h_of x = view.rack.history x.rack

  -- what is offline later is so in the whole session
  offline_before : {from h : List Happening} → Ran any_call first from → IsOffline from h slot → IsOffline first h slot
  offline_before ran (IsOffline.NoMedium none) = IsOffline.NoMedium none
  offline_before ran (IsOffline.Unattached apart pulled) =
      let fewer = pulls_on {allowed = any_call} slot ran in
      IsOffline.Unattached apart (omega (arith, fewer, pulled))
  offline_before ran (IsOffline.RackStopped stops) = IsOffline.RackStopped stops

  fit_from : (from last : List Happening) → Ran any_call first from → Ran any_call from last → HasDevice returning g first last slot → IsFitFrom g from last slot
  fit_from from last since ran device =
      let until : IsMoment first from last = moment_between since ran in
      record {
        there = record {
          online = λ moment at offline. device.stays.there.online moment (moment_later until at) (offline_before since offline);
          large = λ moment at. device.stays.there.large moment (moment_later until at);
        };
        own = λ moment k super at unwritten place holds. device.own moment k super (moment_later until at) place holds;
      }

  -- as it is replaced the slot is Down
  can_replace : (item : TraceItem) (x y : Devices R W) (last : List Happening) → IsOut slot x.session → Ran any_call first (h_of x) → Ran any_call (h_of x) last
      → HasDevice returning g first last slot → Replaces slot item → CanReplaceAt view g last item x y
  can_replace (Stepped (ReplaceSlot j) answer events left) x y last out since ran device same = (
    λ was opened.
        let is : IsOut slot (Opened was) = subst (IsOut slot) opened out in
        subst (λ (i : ℕ). mark_in was.member.array i ≡ Down) (sym same) is.1,
    subst (IsFitFrom g (h_of x) last) (sym same) (fit_from (h_of x) last since ran device),
  )
  can_replace _ x y last out since ran device same = absurd same

  none_to_replace : (item : TraceItem) (x y : Devices R W) (last : List Happening) → ReplacesNone item → CanReplaceAt view g last item x y
  none_to_replace (Stepped (ReplaceSlot j) answer events left) x y last none = absurd none
  none_to_replace _ x y last none = tt

  -- any item but its replacement leaves it out, where none is a survey
  steps_other : (step : Step) (answer : Answer step) (events : List Event) (left : Bool) → ReplacesNone (Stepped step answer events left) → step ≢ ReplaceSlot slot
  steps_other (ReplaceSlot j) answer events left none is = absurd none
  steps_other _ answer events left none is = absurd (cc)

  out_on : (item : TraceItem) (x y : Devices R W) → WorksAll view item x y → x.session ≢ Begun → ReplacesNone item → IsOut slot x.session → IsOut slot y.session
  out_on (Stepped step answer events left) x y works begun none out =
      elim works.0 [
        | inl does ↦ performed_out slot step (steps_other step answer events left none) answer events (seen_of view x) (seen_of view y) does out
        | inr stopped ↦ subst (λ (s : Phase). IsOut slot s) (sym (ap (λ (z : Seen). z.session) stopped.same)) out
      ]
  out_on (Did (Create array) outcome) x y works begun none out = absurd (begun works.1)
  out_on (Did Survey outcome) x y works begun none out = absurd (begun works.1)
  out_on item x y works begun none out = subst (λ (d : Devices R W). IsOut slot d.session) (sym works) out

  not_begun : (item : TraceItem) (x y : Devices R W) → WorksAll view item x y → x.session ≢ Begun → y.session ≢ Begun
  not_begun (Stepped step answer events left) x y works begun is =
      elim works.0 [
        | inl does ↦ elim does.ends [
          | Ends opens err closed ↦ let never : Closed ≡ Begun = sym closed ∙ is in cc
          | GoesOn ok kept opened ↦ let never : Opened does.is ≡ Begun = sym opened ∙ is in cc
        ]
        | inr stopped ↦ begun (sym (ap (λ (z : Seen). z.session) stopped.same) ∙ is)
      ]
  not_begun (Did (Create array) outcome) x y works begun is = begun works.1
  not_begun (Did Survey outcome) x y works begun is = begun works.1
  not_begun item x y works begun is = begun (sym (ap (λ (d : Devices R W). d.session) works) ∙ is)

  -- after the survey
  found_can : (trace : List TraceItem) (program rest : Program) (x y : Devices R W) (works : AlongTrace (WorksAll view) trace x y) → AlongTrace StepsProgram trace program rest
      → AdmitsOnce slot program → x.session ≢ Begun → IsOut slot x.session → Ran any_call first (h_of x) → HasDevice returning g first (h_of y) slot
      → EachItem view (CanReplaceAt view g (h_of y)) trace x y works
  found_can [] program rest x y works follows once begun out since device = tt
  found_can (item ∷ trace) program rest x y works follows once begun out since device =
      let one = one_ran view honest item x works.0 works.1 in
      let later = works_ran view honest trace works.0 y works.2 in
      elim (move_admits slot item program follows.0 once follows.1) [
        | StillOnce none still ↦ (
          none_to_replace item x works.0 (h_of y) none,
          found_can trace follows.0 rest works.0 y works.2 follows.2 still (not_begun item x works.0 works.1 begun)
              (out_on item x works.0 works.1 begun none out) (ran_join since one) device,
        )
        | NoneMore replaces none ↦ (
          can_replace item x works.0 (h_of y) out since (ran_join one later) device replaces,
          none_replaced_in view g (h_of y) trace works.0 y works.2 (steps_along AdmitsNone trace follows.0 rest none follows.2),
        )
      ]

-- from the beginning of a session
module _ {R W : Type 0} (returning : Returning) (view : DeviceView R W) (s : State) (slot : ℕ) (y : Devices R W) where
  abbrev HasOne : Devices R W → Type 0
  HasOne x = HasDevice returning s.geometry (view.rack.history x.rack) (view.rack.history y.rack) slot

  surveyed_out : (came : Outcome Survey) (trace : List TraceItem) (x : Devices R W) (works : AlongTrace (WorksAll view) (Did Survey came ∷ trace) x y)
      → Serves returning view s y (Did Survey came ∷ trace) x works → HasOne x → IsOut slot works.0.session
  surveyed_out came trace x works serves device =
      by came works.1 (along_found returning view s y came trace x works serves)
    where
      by : (came : Outcome Survey) → WorksAll view (Did Survey came) x works.0 → IsArrayFound s.geometry came → IsOut slot works.0.session
      by (Err fault) did finds = subst (IsOut slot) (sym did.2) tt
      by (Ok m) did finds =
          let same : m ≡ finds.member = let is = finds.found in cc in
          let geometry : m.array.geometry ≡ s.geometry = ap (λ (n : Membership). n.array.geometry) same ∙ finds.geometry in
          subst (IsOut slot) (sym did.2) (
            omega (arith, device.stays.below, ap (λ (g : Geometry). g.n) geometry),
            not_here s m (told_of view.rack x.rack) (told_of view.rack works.0.rack) (view.rack.history y.rack) slot serves.1.honest did.0
                (works_ran view serves.1.honest trace works.0 y works.2) returning serves.1.stands
                (survey_calm returning view s y came trace x works serves) device.out,
          )

  -- after what was done to the array
  behind_can : (item : TraceItem) (trace : List TraceItem) (program rest : Program) (x : Devices R W) (works : AlongTrace (WorksAll view) (item ∷ trace) x y)
      → IsTrue view.rack.honest → HasOne x → AlongTrace StepsProgram trace program rest → AdmitsOnce slot program → works.0.session ≢ Begun → IsOut slot works.0.session
      → EachItem view (CanReplaceAt view s.geometry (view.rack.history y.rack)) trace works.0 y works.2
  behind_can item trace program rest x works honest device follows once begun out =
      found_can returning view honest s.geometry slot (view.rack.history x.rack) trace program rest works.0 y works.2 follows once begun out
      (one_ran view honest item x works.0 works.1) device

  begun_can : (trace : List TraceItem) (program rest : Program) (x : Devices R W) (works : AlongTrace (WorksAll view) trace x y) → AlongTrace StepsProgram trace program rest
      → AdmitsOnce slot program → Serves returning view s y trace x works → HasOne x → EachCanReplace view s.geometry trace x y works
  begun_can [] program rest x works follows once serves device = tt
  begun_can (Stepped step answer events left ∷ trace) program rest x works follows once serves device = absurd (
      elim works.1.0 [
        | inl does ↦ known_begun x.session does.was.member serves.0 (starts_known step does.was x.session does.starts)
        | inr stopped ↦ let same : Begun ≡ Opened stopped.array = sym serves.0 ∙ stopped.is_open in cc
      ])
  begun_can (Did (Create array) outcome ∷ trace) program rest x works follows once serves device =
      elim (move_admits slot (Did (Create array) outcome) program follows.0 once follows.1) [
        | StillOnce none still ↦ (
          tt,
          behind_can (Did (Create array) outcome) trace follows.0 rest x works serves.1.honest device follows.2 still
              (λ begun. let never : Closed ≡ Begun = sym works.1.2 ∙ begun in cc) (subst (IsOut slot) (sym works.1.2) tt),
        )
        | NoneMore replaces none ↦ absurd replaces
      ]
  begun_can (Did Survey came ∷ trace) program rest x works follows once serves device =
      elim (move_admits slot (Did Survey came) program follows.0 once follows.1) [
        | StillOnce none still ↦ (
          tt,
          behind_can (Did Survey came) trace follows.0 rest x works serves.1.honest device follows.2 still (ended came works.1)
              (surveyed_out came trace x works serves device),
        )
        | NoneMore replaces none ↦ absurd replaces
      ]
    where
      ended : (found : Outcome Survey) → WorksAll view (Did Survey found) x works.0 → works.0.session ≢ Begun
      ended (Ok m) did begun = let never : Found m ≡ Begun = sym did.2 ∙ begun in cc
      ended (Err fault) did begun = let never : Closed ≡ Begun = sym did.2 ∙ begun in cc
  begun_can (item ∷ trace) program rest x works follows once serves device =
      elim (move_admits slot item program follows.0 once follows.1) [
        | StillOnce none still ↦ (
          tt,
          begun_can trace follows.0 rest works.0 works.2 follows.2 still (serves_on returning view s y item trace x works works.1 serves)
              (subst HasOne (sym works.1) device),
        )
        | NoneMore replaces none ↦ absurd replaces
      ]

pub devices_replace : {R W S K : Type 0} (returning : Returning) (view : DeviceView R W) (streams : Views S K) (program rest : Program) (s : State) (slot : ℕ)
    (a b : Outside S K) (x y : R) (watchers left : List W) (whole : ExecutesWhole view streams program rest a b x y watchers left) → AdmitsOnce slot program
    → ServesAlong returning view s whole.with.means.trace (devices x Begun watchers) (devices y whole.session left) whole.with.works
    → HasDevice returning s.geometry (view.rack.history x) (view.rack.history y) slot
    → EachCanReplace view s.geometry whole.with.means.trace (devices x Begun watchers) (devices y whole.session left) whole.with.works
devices_replace returning view streams program rest s slot a b x y watchers left whole once serves device =
    begun_can returning view s slot (devices y whole.session left) whole.with.means.trace program rest (devices x Begun watchers) whole.with.works
    whole.with.means.follows once (refl, serves) device
