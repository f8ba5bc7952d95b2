-- What a call leaves good that scrubs, replaces or rebuilds.
use Rattle.std.proofs.Common.{◌≡◌, ◌∙◌, ◌+◌, ◌*◌, ◌<◌, ◌≤◌, ℕ, List, [], ◌∷◌, ◌++◌, None, Some, Ok, inl, inr, refl, sym, ap, subst, arith, append_assoc}
use Rattle.std.specs.Prelude.{Bool, IsSome, IsTrue, nat_lt}
use Rattle.std.proofs.lemmas.Bool.{cases_lt, ltb-true}
use Rattle.std.proofs.lemmas.Nat.{mul-add-lt}
use Rattle.stair_model.specs.Device.{Body, Chunk, DevicePart, Gate, IsOnDevice, Superblock, chunks_start, sector_of}
use Rattle.stair_model.specs.Geometry.{Geometry, IsWithinLimits, sectors_needed}
use Rattle.stair_model.proofs.DeviceLaws.{sector_has_part}
use Rattle.stair_rack.specs.Answers.{IsHistory}
use Rattle.stair_rack.specs.History.{Happening}
use Rattle.stair_rack.specs.Stretch.{NothingReturned}
use Rattle.stair_rack.specs.declared.watcher.Event.{Event}
use Rattle.stair_super.specs.Superblock.{mark_in}
use Rattle.stair_super.specs.declared.mark.Mark.TheVariants.{Down, Live, Rebuilding}
use Rattle.stair_member.specs.Aims.{mark_for}
use Rattle.stair_member.specs.Membership.{Membership, why_of}
use Rattle.stair_member.specs.Seats.{Seats}
use Rattle.stair_member.specs.declared.why.Why.{Why}
use Rattle.stair_member.specs.declared.why.Why.TheVariants as why
use Rattle.stair_state.specs.Represents.{Represents}
use Rattle.stair_state.specs.State.{State, without_seats}
use Rattle.stair_state.specs.Tolerance.{ToleratedSince}
use Rattle.stair_invariant.specs.Returning.{NoneReturns}
use Rattle.stair_invariant.specs.SeatSteps.{MayDrop}
use Rattle.stair_invariant.specs.Effects.{Snapshot}
use Rattle.stair_invariant.specs.Session.{ArrayState, IsArray, IsLiveIn, IsRebuiltIn, seats_in}
use Rattle.stair_array.specs.Machine.{Answer, LookAtSeats, Nothing, RebuildNext, Recover, ReplaceSlot, Step}
use Rattle.stair_array.specs.Causes.{IsAdmitted, IsPromoted, Stays, Went}
use Rattle.stair_array.specs.Promise.{AreFound, Begun, Ends, EndsIn, GoesOn, IsInState, IsOpenFor, Opened, Performs, ServesState, Phase}
use Rattle.stair_array.proofs.OpenStepLemmas.{starts_open}
use Rattle.stair_conf.specs.Words.{Spells}
use Rattle.stair_conf.specs.declared.job.Job.{Job}
use Rattle.stair_conf.specs.declared.job.Job.TheVariants as job
use Rattle.stair_command.specs.Devices.{DeviceView, Devices, ExecutesWhole, ExecutesWith, WorksAll, devices, seen_of}
use Rattle.stair_command.specs.Kept.{HasMember}
use Rattle.stair_command.specs.Outside.{Outside, Views}
use Rattle.stair_command.specs.Program.{Over, Put, RebuildAll}
use Rattle.stair_command.specs.Question.{Question}
use Rattle.stair_command.specs.Run.{Goes, IsRun, IsUpTo, Now, Runs, history_of, now}
use Rattle.stair_command.specs.Headline.{RefinesProgram}
use Rattle.stair_command.specs.Rebuilt.{stands_in}
use Rattle.stair_command.specs.Sound.{AreSoundChunks, HasItem, IsPromotionOf, IsReplacementOf, IsScrubOf, IsSound}
use Rattle.stair_command.specs.Trace.{TraceItem, HasPut, Stepped, AlongTrace, StepsProgram}
use Rattle.stair_status.specs.declared.status.Status.{Status}
use Rattle.stair_status.specs.declared.status.Status.TheVariants.{Done}
use Rattle.stair_command.proofs.PerformedLaws.{borne_whole}
use Rattle.stair_command.proofs.KeptLaws.{known_once}
use Rattle.stair_command.proofs.PromotedLaws.{geometry_stays, was_promoted}
use Rattle.stair_command.proofs.SessionLaws.{life_geometry, runs_are_lived}
use Rattle.stair_command.proofs.SoundLaws.{promoted_sound, replaced_sound, scrubbed_sound}
use Rattle.stair_command.specs.Sessions.{turns_of}
use Rattle.stair_engine.specs.Laws.{ArrayIsMended, SessionIsMended}
use Rattle.stair_engine.specs.Mended.{EndsMended, IsMendedBy, LeavesSound, Mends}
use Rattle.stair_engine.specs.Mending.{if_slot, rebuilt_line, replaces, scrubs}
use Rattle.stair_engine.specs.Programs.{program_of}
use Rattle.stair_engine.proofs.DoneLaws.{AreDone, GoesOnOpen, done_join, drop_dead, has_later, run_promoted, runs_upto, stays_open}
use Rattle.stair_engine.proofs.FollowedLaws.{IsDoneBy, OpensDone, OpensFirst, PutsLine, RebuildFirst, ReplacesFirst, opened_trace, opens_first, puts_line, rebuild_first, replaces_first, scrubs_all, slot_there}

-- ---- an array in the end

live_here : (reason : Why) → mark_for reason ≡ Live → reason ≡ why.Here
live_here why.Here is = refl
live_here why.Rebuilding is = absurd (let never : Rebuilding ≡ Live = is in cc)
live_here why.Gone is = absurd (let never : Down ≡ Live = is in cc)
live_here why.NoSuper is = absurd (let never : Down ≡ Live = is in cc)
live_here why.OtherArray is = absurd (let never : Down ≡ Live = is in cc)
live_here why.OtherSlot is = absurd (let never : Down ≡ Live = is in cc)
live_here why.MarkedDown is = absurd (let never : Down ≡ Live = is in cc)
live_here why.OtherJoined is = absurd (let never : Down ≡ Live = is in cc)

rebuilt_so : (reason : Why) → mark_for reason ≡ Rebuilding → reason ≡ why.Rebuilding
rebuilt_so why.Rebuilding is = refl
rebuilt_so why.Here is = absurd (let never : Live ≡ Rebuilding = is in cc)
rebuilt_so why.Gone is = absurd (let never : Down ≡ Rebuilding = is in cc)
rebuilt_so why.NoSuper is = absurd (let never : Down ≡ Rebuilding = is in cc)
rebuilt_so why.OtherArray is = absurd (let never : Down ≡ Rebuilding = is in cc)
rebuilt_so why.OtherSlot is = absurd (let never : Down ≡ Rebuilding = is in cc)
rebuilt_so why.MarkedDown is = absurd (let never : Down ≡ Rebuilding = is in cc)
rebuilt_so why.OtherJoined is = absurd (let never : Down ≡ Rebuilding = is in cc)

-- the session knows as live a slot whose mark is live, and as rebuilding one that is rebuilding
live_in : (a : ArrayState) → IsArray a → (j : ℕ) → j < a.member.array.geometry.n → mark_in a.member.array j ≡ Live → IsLiveIn a.member j
live_in a array j below live = record { below = below; why = live_here (why_of a.member j) (sym (array.marks j below) ∙ live) }

rebuilt_in : (a : ArrayState) → IsArray a → (j : ℕ) → j < a.member.array.geometry.n → mark_in a.member.array j ≡ Rebuilding → IsRebuiltIn a.member j
rebuilt_in a array j below rebuilt = record { below = below; why = rebuilt_so (why_of a.member j) (sym (array.marks j below) ∙ rebuilt) }

-- so what is so by a job by what the session knows of its slots is so by their marks
mended_seats : (first last : List Happening) (a : ArrayState) → IsArray a → (asked : Job)
    → IsMendedBy asked a.member.array.geometry (IsLiveIn a.member) (IsRebuiltIn a.member) first last
    → IsMendedBy asked a.member.array.geometry (λ j. (seats_in a.member.array j).mark ≡ Live) (λ j. (seats_in a.member.array j).mark ≡ Rebuilding) first last
mended_seats first last a array job.Scrub so = λ j below live. so j below (live_in a array j below live)
mended_seats first last a array (job.Replace slot) so = (so.0, array.marks slot so.0 ∙ ap mark_for so.1.why, so.2)
mended_seats first last a array job.Rebuild so = λ j below rebuilt. so j below (rebuilt_in a array j below rebuilt)
mended_seats first last a array _ so = tt

-- each sector that is needed lies before the chunks, or is a cell of one
sectors_sound : (g : Geometry) (j : ℕ) (first last : List Happening) → IsWithinLimits g → ((k : ℕ) → k < chunks_start g → IsSound j k first last)
    → AreSoundChunks g j first last → (k : ℕ) → k < sectors_needed g → IsSound j k first last
sectors_sound g j first last limits start chunks k below =
    elim (cases_lt k (chunks_start g)) [
      | inl before ↦ start k before
      | inr past ↦ by past (sector_has_part g k limits below)
    ]
  where
    by : chunks_start g ≤ k → (part : DevicePart) × IsOnDevice g part × (sector_of g part ≡ k) → IsSound j k first last
    by past (Superblock place, on, is) = absurd (let few : place < 2 = on in let same : place ≡ k = is in omega (arith, past, few, same))
    by past (Gate, on, is) = absurd (let same : 2 ≡ k = is in omega (arith, past, same))
    by past (Body row slot, on, is) =
        let at : row * g.n + slot < g.n * g.r = mul-add-lt row g.n slot g.r on.0 on.1 in
        let same : 3 + row * g.n + slot ≡ k = is in
        absurd (omega (arith, past, at, same))
    by past (Chunk t i, on, is) = subst (λ (s : ℕ). IsSound j s first last) is (chunks t on.0 i on.1)

-- ---- the last items of a call

-- after a step that isn't the opening the session has the array as it is then
ends_with : (step : Step) (answer : Answer step) (is : ArrayState) (session : Phase) → (step ≡ Recover → ⊥) → EndsIn step answer is session
    → HasMember session is.member
ends_with step answer is session other (Ends recovers err closed) = absurd (other recovers)
ends_with step answer is session other (GoesOn ok keeps opened) = subst (λ (s : Phase). HasMember s is.member) (sym opened) refl

module _ {R W : Type 0} (view : DeviceView R W) where
  known_behind : (x y z : Devices R W) (m n : Membership) → z ≡ y → y ≡ x → HasMember x.session m → HasMember z.session n → n ≡ m
  known_behind x y z m n again same has ends =
      known_once x.session n m (subst (λ (d : Devices R W). HasMember d.session n) (again ∙ same) ends) has

  -- where a rebuild came to its end no slot is rebuilt
  last_nothing : (steps : List TraceItem) (events : List Event) (left : Bool) (bytes : List ℕ) (x y : Devices R W)
      → AlongTrace (WorksAll view) (steps ++ Stepped RebuildNext (Ok Nothing) events left ∷ HasPut bytes ∷ []) x y → (m : Membership)
      → HasMember y.session m → (j : ℕ) → ¬ IsRebuiltIn m j
  last_nothing [] events left bytes x y works m ends j rebuilt =
      elim works.1.0 [
        | inl does ↦
            let same = known_behind works.0 works.2.0 y does.is.member m works.2.2 works.2.1 (ends_with RebuildNext (Ok Nothing) does.is works.0.session (λ is. cc) does.ends) ends in
            let on : IsRebuiltIn does.is.member j = subst (λ (n : Membership). IsRebuiltIn n j) same rebuilt in
            let below : j < does.was.member.array.geometry.n = subst (λ (g : Geometry). j < g.n) does.goes_on.geometry on.below in
            elim (does.goes_on.whys j below) [
              | Stays was ↦ does.allowed j (record { below = below; why = sym was ∙ on.why })
              | Went gone was ↦ (let never : why.Gone ≡ why.Rebuilding = sym gone ∙ on.why in cc)
              | IsAdmitted is so ↦ (let never = is in cc)
              | IsPromoted is was here ↦ (let never : why.Here ≡ why.Rebuilding = sym here ∙ on.why in cc)
            ]
        | inr again ↦ (let never = again.answered in cc)
      ]
  last_nothing (item ∷ steps) events left bytes x y works m ends j rebuilt = last_nothing steps events left bytes works.0 y works.2 m ends j rebuilt

  -- the marks that were looked at last are those in the end
  last_look : (steps : List TraceItem) (seats : Seats) (events : List Event) (left : Bool) (bytes : List ℕ) (x y : Devices R W)
      → AlongTrace (WorksAll view) (steps ++ Stepped LookAtSeats (Ok seats) events left ∷ HasPut bytes ∷ []) x y → (m : Membership)
      → HasMember y.session m → (j : ℕ) → mark_in m.array j ≡ (seats j).mark
  last_look [] seats events left bytes x y works m ends j =
      elim works.1.0 [
        | inl does ↦
            let same = known_behind works.0 works.2.0 y does.is.member m works.2.2 works.2.1 (ends_with LookAtSeats (Ok seats) does.is works.0.session (λ is. cc) does.ends) ends in
            let looked : does.is.member ≡ does.was.member = ap (λ (p : Snapshot). p.member) does.does in
            ap (λ (n : Membership). mark_in n.array j) (same ∙ looked) ∙ sym (ap (λ (s : Seats). (s j).mark) does.allowed)
        | inr again ↦ absurd (let never = again.answered in cc)
      ]
  last_look (item ∷ steps) seats events left bytes x y works m ends j = last_look steps seats events left bytes works.0 y works.2 m ends j

  -- a slot that was admitted and is live in the end was promoted
  admitted_promoted : (slot : ℕ) (events : List Event) (left : Bool) (later : List TraceItem) (x y : Devices R W)
      → AlongTrace (WorksAll view) (Stepped (ReplaceSlot slot) (Ok tt) events left ∷ later) x y → GoesOnOpen x → (last : ArrayState) → y.session ≡ Opened last
      → last.stopped ≡ None → IsLiveIn last.member slot → HasItem (IsPromotionOf slot) later
  admitted_promoted slot events left later x y works was last opened none live =
      elim works.1.0 [
        | inr again ↦ absurd (let never = again.answered in cc)
        | inl does ↦
            was_promoted view slot last none live later works.0 y works.2 does.is.member
            (ends_with (ReplaceSlot slot) (Ok tt) does.is works.0.session (λ is. cc) does.ends) opened (dead does)
      ]
    where
      dead : (does : Performs (ReplaceSlot slot) (Ok tt) events (seen_of view x) (seen_of view works.0)) → ¬ IsLiveIn does.is.member slot
      dead does on =
          let open_at = starts_open (ReplaceSlot slot) (λ is. cc) does.was x.session does.starts in
          let both : Opened does.was ≡ Opened was.last = sym open_at.is_open ∙ was.opened in
          let same : does.was ≡ was.last = cc in
          let marks : mark_in does.was.member.array slot ≡ mark_for (why_of does.was.member slot) =
          (subst IsArray (sym same) was.array).marks slot does.allowed.0 in
          elim (does.goes_on.whys slot does.allowed.0) [
            | Stays kept ↦ (let never : Down ≡ Live = sym does.allowed.1 ∙ marks ∙ ap mark_for (sym kept ∙ on.why) in cc)
            | Went gone is ↦ (let never : why.Gone ≡ why.Here = sym gone ∙ on.why in cc)
            | IsAdmitted is rebuilt ↦ (let never : why.Rebuilding ≡ why.Here = sym rebuilt ∙ on.why in cc)
            | IsPromoted is rebuilt here ↦ (let never = is in cc)
          ]

-- ---- a call, and the session's array in the end

module _ {R W : Type 0} (view : DeviceView R W) (honest : IsTrue view.rack.honest) (x y : Devices R W) (begun : x.session ≡ Begun) where
  abbrev h_of : Devices R W → List Happening
  h_of x = history_of view x

  -- What it leaves where all steps after the opening were done: the array once it was open, and in the end.
  record IsLeftOpen (rest : List TraceItem) (g : Geometry) : Type 0 where
    pub mid : Devices R W
    pub works : AlongTrace (WorksAll view) rest mid y
    pub first : GoesOnOpen mid
    pub ends : GoesOnOpen y
    pub geometry : ends.last.member.array.geometry ≡ g

  -- after the opening
  record IsOpenedAs (g : Geometry) (z : Devices R W) : Type 0 where
    pub session : GoesOnOpen z
    pub geometry : session.last.member.array.geometry ≡ g

  opened_as : (g : Geometry) (events : List Event) (left : Bool) (w z : Devices R W) → WorksAll view (Stepped Recover (Ok g) events left) w z
      → IsOpenedAs g z
  opened_as g events left w z works =
      elim works.0 [
        | inr again ↦ absurd (let never = again.answered in cc)
        | inl does ↦
            elim does.ends [
              | Ends is err closed ↦ absurd (let never = err in cc)
              | GoesOn ok keeps opened ↦ record {
                session = record { last = does.is; opened = opened; unstopped = keeps; array = does.array (λ stops. stops) };
                geometry = does.goes_on.geometry ∙ sym does.allowed;
              }
            ]
      ]

  left_open : (asked : Question) (member : Membership) (g : Geometry) (events : List Event) (left : Bool) (rest : List TraceItem)
      → AlongTrace (WorksAll view) (opened_trace asked member g events left rest) x y → AreDone rest → IsLeftOpen rest g
  left_open asked member g events left rest whole done =
      let works = whole.2.2.2.2 in
      let opened = opened_as g events left whole.2.2.2.0 works.0 works.1 in
      let ends = stays_open view rest works.0 y works.2 done opened.session in
      let stays =
      geometry_stays view rest works.0 y opened.session.last.member ends.last.member works.2
      (subst (λ (t : Phase). HasMember t opened.session.last.member) (sym opened.session.opened) refl)
      (subst (λ (t : Phase). HasMember t ends.last.member) (sym ends.opened) refl) in
      record { mid = works.0; works = works.2; first = opened.session; ends = ends; geometry = stays ∙ opened.geometry }

  -- an item after the opening is one of the trace
  in_trace : (asked : Question) (member : Membership) (g : Geometry) (events : List Event) (left : Bool) (rest : List TraceItem) (IsSo : TraceItem → Type 0)
      → HasItem IsSo rest → HasItem IsSo (opened_trace asked member g events left rest)
  in_trace asked member g events left rest IsSo has = has_later IsSo (opened_trace asked member g events left []) rest has

  fresh : stands_in x.session ≡ None
  fresh = ap stands_in begun

  -- with what is so by the job
  ends_mended : (asked : Job) (g : Geometry) (rest : List TraceItem) (leaves : IsLeftOpen rest g)
      → IsMendedBy asked leaves.ends.last.member.array.geometry (IsLiveIn leaves.ends.last.member) (IsRebuiltIn leaves.ends.last.member) (h_of x) (h_of y)
      → EndsMended asked y.session (h_of x) (h_of y)
  ends_mended asked g rest leaves so =
      record { array = leaves.ends.last; opened = leaves.ends.opened; unstopped = leaves.ends.unstopped; rules = leaves.ends.array; by_job = so }

  last_known : (rest : List TraceItem) (g : Geometry) (leaves : IsLeftOpen rest g) → HasMember y.session leaves.ends.last.member
  last_known rest g leaves = subst (λ (t : Phase). HasMember t leaves.ends.last.member) (sym leaves.ends.opened) refl

  -- ---- each job

  -- the story's items, of which all after the opening were done, and what is left by the job
  record IsJobDone (asked : Job) (trace : List TraceItem) : Type 0 where
    pub opens : OpensDone trace
    pub ends : EndsMended asked y.session (h_of x) (h_of y)

  scrub_done : (trace : List TraceItem) → AlongTrace (WorksAll view) trace x y → OpensFirst (λ g. scrubs g 0 g.stripes 0) trace → IsJobDone job.Scrub trace
  scrub_done trace works opens =
      let all = scrubs_all opens.g 0 opens.g.stripes 0 opens.rest opens.follows in
      let whole = subst (λ (l : List TraceItem). AlongTrace (WorksAll view) l x y) opens.is works in
      let leaves = left_open opens.asked opens.member opens.g opens.events opens.left opens.rest whole all.done in
      record {
        opens = record {
          asked = opens.asked;
          member = opens.member;
          g = opens.g;
          events = opens.events;
          left = opens.left;
          rest = opens.rest;
          is = opens.is;
          done = all.done;
        };
        ends = ends_mended job.Scrub opens.g opens.rest leaves (λ j below live t within.
            scrubbed_sound view honest leaves.ends.last t j leaves.ends.unstopped live
            (opened_trace opens.asked opens.member opens.g opens.events opens.left opens.rest) x y whole fresh leaves.ends.opened
            (in_trace opens.asked opens.member opens.g opens.events opens.left opens.rest (IsScrubOf t)
            (all.scrubbed t (omega arith) (omega (arith, subst (λ (g : Geometry). t < g.stripes) leaves.geometry within)))));
      }

  rebuild_done : (trace : List TraceItem) → AlongTrace (WorksAll view) trace x y
      → OpensFirst (λ g. RebuildAll g.n 0 (λ steps. Put (rebuilt_line steps) (Over Done))) trace → IsJobDone job.Rebuild trace
  rebuild_done trace works opens =
      let first = rebuild_first opens.g.n 0 (λ steps. Put (rebuilt_line steps) (Over Done)) opens.rest opens.follows in
      by first (puts_line (rebuilt_line first.count) first.rest first.follows)
    where
      by : (first : RebuildFirst (λ steps. Put (rebuilt_line steps) (Over Done)) opens.rest) → PutsLine first.rest → IsJobDone job.Rebuild trace
      by first put =
          let last : List TraceItem = Stepped RebuildNext (Ok Nothing) first.events first.left ∷ HasPut put.bytes ∷ [] in
          let rest : opens.rest ≡ first.steps ++ last =
          first.is ∙ ap (λ (l : List TraceItem). first.steps ++ Stepped RebuildNext (Ok Nothing) first.events first.left ∷ l) put.is in
          let is = opens.is ∙ ap (opened_trace opens.asked opens.member opens.g opens.events opens.left) rest in
          let done : AreDone (first.steps ++ last) = done_join first.steps last first.done (tt, (tt, tt)) in
          let leaves = left_open opens.asked opens.member opens.g opens.events opens.left (first.steps ++ last)
          (subst (λ (l : List TraceItem). AlongTrace (WorksAll view) l x y) is works) done in
          record {
            opens = record {
              asked = opens.asked;
              member = opens.member;
              g = opens.g;
              events = opens.events;
              left = opens.left;
              rest = first.steps ++ last;
              is = is;
              done = done;
            };
            ends = ends_mended job.Rebuild opens.g (first.steps ++ last) leaves (λ j below.
                last_nothing view first.steps first.events first.left put.bytes leaves.mid y leaves.works leaves.ends.last.member
                (last_known (first.steps ++ last) opens.g leaves) j);
          }

  replace_done : (slot : ℕ) (trace : List TraceItem) → AlongTrace (WorksAll view) trace x y
      → OpensFirst (λ g. if_slot g slot (nat_lt slot g.n) (replaces g slot)) trace → IsJobDone (job.Replace slot) trace
  replace_done slot trace works opens =
      let there = slot_there opens.g slot (replaces opens.g slot) (nat_lt slot opens.g.n) opens.rest opens.follows in
      by (ltb-true slot opens.g.n there.0) (replaces_first opens.g slot opens.rest there.1)
    where
      by : slot < opens.g.n → ReplacesFirst slot opens.rest → IsJobDone (job.Replace slot) trace
      by below first =
          let look : List TraceItem = Stepped LookAtSeats (Ok first.seats) first.looked first.away ∷ HasPut first.bytes ∷ [] in
          let admits : TraceItem = Stepped (ReplaceSlot slot) (Ok tt) first.events first.left in
          let rest : List TraceItem = admits ∷ (first.steps ++ look) in
          let is = opens.is ∙ ap (opened_trace opens.asked opens.member opens.g opens.events opens.left) first.is in
          let done : AreDone rest = (tt, done_join first.steps look first.done (tt, (tt, tt))) in
          let whole = subst (λ (l : List TraceItem). AlongTrace (WorksAll view) l x y) is works in
          let leaves = left_open opens.asked opens.member opens.g opens.events opens.left rest whole done in
          let a = leaves.ends.last in
          let within : slot < a.member.array.geometry.n = subst (λ (g : Geometry). slot < g.n) (sym leaves.geometry) below in
          let mark = last_look view (admits ∷ first.steps) first.seats first.looked first.away first.bytes leaves.mid y leaves.works a.member
          (last_known rest opens.g leaves) slot in
          let live = live_in a leaves.ends.array slot within (mark ∙ first.live) in
          let promoted = admitted_promoted view slot first.events first.left (first.steps ++ look) leaves.mid y leaves.works leaves.first a leaves.ends.opened
          leaves.ends.unstopped live in
          record {
            opens = record {
              asked = opens.asked;
              member = opens.member;
              g = opens.g;
              events = opens.events;
              left = opens.left;
              rest = rest;
              is = is;
              done = done;
            };
            ends = ends_mended (job.Replace slot) opens.g rest leaves (
              within,
              live,
              sectors_sound a.member.array.geometry slot (h_of x) (h_of y) leaves.ends.array.member.array.limits
                  (replaced_sound view honest (opened_trace opens.asked opens.member opens.g opens.events opens.left rest) x y whole a slot leaves.ends.opened
                  (in_trace opens.asked opens.member opens.g opens.events opens.left rest (IsReplacementOf slot) (inl refl)))
                  (promoted_sound view honest (opened_trace opens.asked opens.member opens.g opens.events opens.left rest) x y whole a slot fresh
                  leaves.ends.opened (in_trace opens.asked opens.member opens.g opens.events opens.left rest (IsPromotionOf slot) (inr promoted))),
            );
          }

  job_done : (words : List (List ℕ)) (asked : Job) → Spells words asked → Mends asked → (trace : List TraceItem) → AlongTrace (WorksAll view) trace x y
      → IsDoneBy (program_of words) trace → IsJobDone asked trace
  job_done words job.Scrub spells mends trace works follows =
      scrub_done trace works (opens_first (λ g. scrubs g 0 g.stripes 0) words job.Scrub spells refl trace follows)
  job_done words (job.Replace slot) spells mends trace works follows =
      replace_done slot trace works
      (opens_first (λ g. if_slot g slot (nat_lt slot g.n) (replaces g slot)) words (job.Replace slot) spells refl trace follows)
  job_done words job.Rebuild spells mends trace works follows =
      rebuild_done trace works
      (opens_first (λ g. RebuildAll g.n 0 (λ steps. Put (rebuilt_line steps) (Over Done))) words job.Rebuild spells refl trace follows)
  job_done words _ spells mends trace works follows = absurd mends

-- the seats that an array was found with, for a later moment and another state of its geometry
found_later : (before h later : List Happening) (s t : State) (seats : Seats) → IsUpTo h later → s.geometry ≡ t.geometry → AreFound NoneReturns before h s seats
    → AreFound NoneReturns before later t seats
found_later before h later s t seats upto same found = record {
  moment = found.moment;
  is_one = record {
    before = found.is_one.before;
    later = upto.later ++ found.is_one.later;
    from = found.is_one.from;
    to = upto.to ∙ ap (λ (x : List Happening). upto.later ++ x) found.is_one.to ∙ sym (append_assoc upto.later found.is_one.later found.moment);
  };
  unwritten = found.unwritten;
  slot = found.slot;
  super = found.super;
  speaks = record { super = found.speaks.super; slot = found.speaks.slot; identity = found.speaks.identity ∙ same };
  are = found.are;
}

-- the geometry stays over a run
run_geometry : (before : List Happening) (trace : List TraceItem) (old new : Now) → Runs NoneReturns before trace old new → new.state.geometry ≡ old.state.geometry
run_geometry before trace old new runs =
    life_geometry (turns_of NoneReturns before trace old new runs []) old.state new.state (runs_are_lived NoneReturns before trace old new [] old.state runs refl)

-- ---- the opening

-- what an opening that was done left, from where the call's run goes on
record IsOpening (before : List Happening) (s : State) (old new : Now) : Type 0 where
  pub found : Seats
  pub are_found : AreFound NoneReturns before new.history s found
  pub seats : Seats
  pub known : new.state.seats ≡ Some seats
  pub drops : (j : ℕ) → MayDrop (found j) (seats j)

opening_taken : (before : List Happening) (s : State) (old new : Now) (g : Geometry) (events : List Event) (left : Bool)
    → Goes NoneReturns before (Stepped Recover (Ok g) events left) old new → old.state.geometry ≡ s.geometry → IsOpening before s old new
opening_taken before s old new g events left (inl taken) same =
    let is_step = taken.is_step in
    record {
      found = is_step.begun;
      are_found = found_later before new.history new.history old.state s is_step.begun (runs_upto NoneReturns before [] new new refl) same is_step.begins.1;
      seats = is_step.row.seats;
      known = is_step.row.known;
      drops = is_step.row.marks;
    }
opening_taken before s old new g events left (inr again) same = absurd (let never = again.answered in cc)

-- ---- the state in the end

module _ {R W : Type 0} (view : DeviceView R W) (honest : IsTrue view.rack.honest) (s : State) (x y : Devices R W) (begun : x.session ≡ Begun) where
  -- the trace is a run of the machine
  abbrev IsRunTo : List TraceItem → Type 0
  IsRunTo trace = IsRun view NoneReturns (history_of view x) (without_seats s) trace x y

  serves_last : (state : State) (last : ArrayState) → y.session ≡ Opened last → last.stopped ≡ None
      → IsInState NoneReturns (history_of view x) state (seen_of view y) → IsOpenFor NoneReturns (history_of view x) state last (history_of view y)
  serves_last state last opened none is_in =
      elim (subst (λ (session : Phase). ServesState NoneReturns (history_of view x) state session (seen_of view y).told) opened is_in.serves) [
        | inl serves ↦ serves
        | inr stopped ↦ absurd (let never = subst IsSome none stopped in cc)
      ]

  -- what holds for the session's array holds for the state
  run_sound : (asked : Job) (question : Question) (member : Membership) (g : Geometry) (events : List Event) (left : Bool) (rest : List TraceItem)
      → AlongTrace (WorksAll view) (opened_trace question member g events left rest) x y → IsRunTo (opened_trace question member g events left rest)
      → AreDone rest → EndsMended asked y.session (history_of view x) (history_of view y)
      → LeavesSound asked s (history_of view x) (history_of view y)
  run_sound asked question member g events left rest works run done ends =
      let runs = run.runs.2.2.2.2 in
      let end : Now = now run.state (history_of view y) run.stopped in
      let keeps = run.runs.2.2.1 in
      let so_far : run.runs.2.2.2.0.state ≡ without_seats s =
      ap (λ (n : Now). n.state) run.runs.2.2.2.1 ∙ keeps.state ∙ ap (λ (n : Now). n.state) (run.runs.2.1 ∙ run.runs.1) in
      let opening = opening_taken (history_of view x) s run.runs.2.2.2.0 runs.0 g events left runs.1 (ap (λ (t : State). t.geometry) so_far) in
      let serves = serves_last run.state ends.array ends.opened ends.unstopped run.is_in in
      let state_same : run.state.geometry ≡ s.geometry =
      run_geometry (history_of view x) (opened_trace question member g events left rest) (now (without_seats s) (history_of view x) None) end run.runs in
      let same : ends.array.member.array.geometry ≡ s.geometry = serves.geometry ∙ state_same in
      record {
        state = run.state;
        represents = run.is_in.stands;
        geometry = state_same;
        seats = seats_in ends.array.member.array;
        known = serves.seats;
        found = opening.found;
        are_found = found_later (history_of view x) runs.0.history (history_of view y) s s opening.found
            (runs_upto NoneReturns (history_of view x) rest runs.0 end runs.2) refl opening.are_found;
        brought_up = λ j below live dead.
            subst (λ (of : Geometry). AreSoundChunks of j (history_of view x) (history_of view y)) same
            (promoted_sound view honest (opened_trace question member g events left rest) x y works ends.array j (ap stands_in begun) ends.opened
            (has_later (IsPromotionOf j) (opened_trace question member g events left []) rest
            (run_promoted NoneReturns (history_of view x) j rest runs.0 end opening.seats (seats_in ends.array.member.array) done runs.2 opening.known serves.seats
            (drop_dead (opening.found j) (opening.seats j) (opening.drops j) dead) live)));
        by_job = subst
            (λ (of : Geometry). IsMendedBy asked of (λ j. (seats_in ends.array.member.array j).mark ≡ Live)
            (λ j. (seats_in ends.array.member.array j).mark ≡ Rebuilding) (history_of view x) (history_of view y))
            same (mended_seats (history_of view x) (history_of view y) ends.array ends.rules asked ends.by_job);
      }

  leaves_sound : (asked : Job) (trace : List TraceItem) → AlongTrace (WorksAll view) trace x y → IsRunTo trace → OpensDone trace
      → EndsMended asked y.session (history_of view x) (history_of view y) → LeavesSound asked s (history_of view x) (history_of view y)
  leaves_sound asked trace works run opens ends =
      run_sound asked opens.asked opens.member opens.g opens.events opens.left opens.rest
      (subst (λ (l : List TraceItem). AlongTrace (WorksAll view) l x y) opens.is works) (subst IsRunTo opens.is run) opens.done ends

-- ---- every call

module _ {R W S K : Type 0} (view : DeviceView R W) (streams : Views S K) (words : List (List ℕ)) (asked : Job) (status : Status)
    (a b : Outside S K) (x y : R) (watchers left : List W) (spells : Spells words asked) (mends : Mends asked) (done : status ≡ Done)
    (honest : IsTrue view.rack.honest) where
  whole_done : (session : Phase)
      → (with : ExecutesWith view streams (program_of words) (Over status) a b (devices x Begun watchers) (devices y session left))
      → IsJobDone view honest (devices x Begun watchers) (devices y session left) refl asked with.means.trace
  whole_done session with =
      job_done view honest (devices x Begun watchers) (devices y session left) refl words asked spells mends with.means.trace with.works
      (subst (λ (t : Status). AlongTrace StepsProgram with.means.trace (program_of words) (Over t)) done with.means.follows)

  call_mended : ExecutesWhole view streams (program_of words) (Over status) a b x y watchers left → (s : State) → IsHistory (view.rack.history x)
      → Represents s (view.rack.history x) → ToleratedSince s.geometry (view.rack.history x) (view.rack.history y)
      → NothingReturned (view.rack.history x) (view.rack.history y) → LeavesSound asked s (view.rack.history x) (view.rack.history y)
  call_mended whole s history represents tolerated returned = by (borne_whole view streams (program_of words) (Over status) a b x y watchers left whole)
    where
      by : RefinesProgram view streams (program_of words) (Over status) a b x y watchers left → LeavesSound asked s (view.rack.history x) (view.rack.history y)
      by borne =
          let so = whole_done borne.session borne.over in
          leaves_sound view honest s (devices x Begun watchers) (devices y borne.session left) refl asked borne.over.means.trace borne.over.works
          (borne.runs honest s history represents tolerated returned) so.opens so.ends

pub array_is_mended : (R W S K : Type 0) → ArrayIsMended R W S K
array_is_mended R W S K view streams words asked status a b x y watchers left spells whole honest mends done =
    call_mended view streams words asked status a b x y watchers left spells mends done honest whole

pub session_is_mended : (R W S K : Type 0) → SessionIsMended R W S K
session_is_mended R W S K view streams words asked status a b x y watchers left spells whole honest mends done =
    (whole_done view streams words asked status a b x y watchers left spells mends done honest whole.session whole.with).ends
