-- An opening is a step of the array's machine, what a crash leaves in the midst of it is what one within the step leaves, and it is
-- done where it can be, by the laws of what a recovery comes to, whether media come back or not.
use Rattle.std.proofs.Common.{◌≡◌, List, [], ◌∷◌, inl, inr, refl, sym, ap, ◌∙◌, subst, None, Some}
use Rattle.std.specs.Prelude.{Bool, false, IsErr, IsOk, IsTrue, Result, Ok, Err}
use Rattle.std.proofs.lemmas.Bool.{false≢true}
use Rattle.stair_model.specs.Geometry.{Geometry}
use Rattle.stair_rack.specs.Answers.{Ran, any_call}
use Rattle.stair_rack.specs.Crash.{CrashMayLeave, EachImage}
use Rattle.stair_rack.specs.History.{Happening, Made}
use Rattle.stair_rack.specs.Media.{Image}
use Rattle.stair_rack.specs.Moments.{IsMoment}
use Rattle.stair_rack.specs.RackState.{RackState}
use Rattle.stair_rack.proofs.MomentLemmas.{moment_between, moment_last, ran_any, ran_before}
use Rattle.stair_rack.specs.declared.watcher.Event.{Event}
use Rattle.stair_member.specs.Asked.{LeavesSectors}
use Rattle.stair_member.specs.Membership.{IsMembership, Membership}
use Rattle.stair_member.specs.Survey.{Surveys}
use Rattle.stair_member.specs.declared.fault.FenceFault.{FenceFault}
use Rattle.stair_member.specs.declared.fault.FenceFault.TheVariants.{EpochsSpent, TooFew}
use Rattle.stair_member.specs.declared.why.Why.{Why}
use Rattle.stair_member.proofs.AskedLemmas.{asked_ran}
use Rattle.stair_state.specs.Blocks.{Codewords}
use Rattle.stair_state.specs.State.{Content, State, without_seats}
use Rattle.stair_invariant.specs.Effects.{Snapshot, snapshot}
use Rattle.stair_invariant.specs.Opening.{IsDecidedAs, opened_with}
use Rattle.stair_invariant.specs.Returning.{StaysWithinTolerance, StaysWithinToleranceUnread, Knows, Returning, StandsFor, StandsForAlone}
use Rattle.stair_invariant.specs.SeatSteps.{EachMayDrop}
use Rattle.stair_invariant.specs.Session.{ArrayState, IsOpenWith, seats_in}
use Rattle.stair_array.specs.Calls.{refused}
use Rattle.stair_array.specs.Draws.{HasDraws}
use Rattle.stair_array.specs.Machine.{IsDecided, Recover, Refusal}
use Rattle.stair_array.specs.Openings.{Recovers}
use Rattle.stair_array.specs.Promise.{AreFound, Begun, Closed, EndsIn, Found, IsInState, IsLed, IsLeftBy, Keeps, KeepsRebuild, LeadsStep, Opened, Performs, Seen, ServesState, Phase, StartsFrom, is_open}
use Rattle.stair_array.proofs.DrawsLemmas.{done_with_room}

-- WHAT A RECOVERY COMES TO

-- a survey found the array, on a rack that stood for the state when it began
pub record IsSurveyedFor (returning : Returning) (s : State) (first : RackState) (u : Snapshot) : Type 0 where
  pub stands : StandsFor returning s first.history
  pub surveys : Surveys (Ok u.member) first u.told
  pub rules : IsMembership u.member

-- the state of an array that was opened with this content
abbrev pub opened_state : State → Snapshot → Content → State
opened_state s y content = record { geometry = s.geometry; content = content; in_doubt = None; seats = Some (seats_in y.member.array) }

-- The array was opened by this member: it holds what the state held before or after the change in doubt.
pub record IsOpenedFor (returning : Returning) (s : State) (m : Membership) (before : List Happening) (y : Snapshot) : Type 0 where
  pub words : Codewords
  pub content : Content
  pub decided : IsDecidedAs s y.member words content
  pub stands : StandsFor returning (opened_state s y content) y.told.history
  pub is_open : IsOpenWith before (opened_with y.member) words y.told.history
  pub knows : Knows returning (opened_state s y content) y.member y.told.history
  pub geometry : s.geometry ≡ y.member.array.geometry
  pub seats : EachMayDrop (seats_in m.array) (seats_in y.member.array)

-- it was opened, or an epoch was refused, not for want of slots
pub data ComesTo (returning : Returning) (s : State) (m : Membership) (before : List Happening) : Result Geometry Refusal → Snapshot → Type 0 where
  Opens : (g : Geometry) (y : Snapshot) → g ≡ s.geometry → IsOpenedFor returning s m before y → ComesTo returning s m before (Ok g) y
  Refuses : (fault : FenceFault) (y : Snapshot) → StandsFor returning (without_seats s) y.told.history
      → (StaysWithinToleranceUnread returning s.geometry false before y.told.history → (whys : List Why) → ¬ (fault ≡ TooFew whys)) → ComesTo returning s m before (Err (refused fault)) y

-- By these laws an opening is led on, on an honest rack, within tolerance from the survey's beginning on.
pub record LeadsOpenings (returning : Returning) : Type 0 where
  -- the seats of the survey's member are those of a superblock that speaks for the array
  pub seats : (s : State) (first : RackState) (u : Snapshot) → IsSurveyedFor returning s first u → IsTrue u.told.honest → (h : List Happening)
      → IsMoment first.history u.told.history h → StaysWithinTolerance returning s.geometry false first.history h
      → AreFound returning first.history h s (seats_in u.member.array)
  pub comes : (s : State) (first : RackState) (u v : Snapshot) (answer : Result Geometry Refusal) → IsSurveyedFor returning s first u → Recovers answer u v
      → IsTrue u.told.honest → IsTrue v.told.honest → StaysWithinTolerance returning s.geometry false first.history v.told.history → ComesTo returning s u.member first.history answer v
  -- and what a crash leaves at a moment of it represents the state as it was
  pub moments : (s : State) (first : RackState) (u v : Snapshot) (answer : Result Geometry Refusal) → IsSurveyedFor returning s first u → Recovers answer u v
      → IsTrue u.told.honest → IsTrue v.told.honest → (c : List Happening) → IsMoment u.told.history c v.told.history → StaysWithinTolerance returning s.geometry false first.history c
      → (image : Image) → CrashMayLeave c image → StandsForAlone returning (without_seats s) image

-- WHERE IT LEADS

module _ (returning : Returning) (s : State) (before : List Happening) (m : Membership) where
  -- by what it comes to
  led : (answer : Result Geometry Refusal) (v : Snapshot) → ComesTo returning s m before answer v → (session : Phase)
      → ((refusal : Refusal) → answer ≡ Err refusal → session ≡ Closed) → ((g : Geometry) → answer ≡ Ok g → session ≡ Opened (opened_with v.member))
      → AreFound returning before v.told.history s (seats_in m.array) → IsLed returning m before s Recover answer (record { told = v.told; session = session })
  led _ _ (Refuses fault v stands enough) session closed opened found = record {
    state = without_seats s;
    is_step = record {
      begun = seats_in m.array;
      begins = (refl, found);
      row = record {
        geometry = refl;
        begins = tt;
        passes = λ begun. tt;
        holds = inl (record { content = refl; in_doubt = refl });
        seats = seats_in m.array;
        known = refl;
        marks = λ j. inl refl;
      };
    };
    is_in = record {
      stands = stands;
      serves = subst (λ (e : Phase). ServesState returning before (without_seats s) e v.told) (sym (closed (refused fault) refl)) tt;
    };
  }
  led _ _ (Opens g v same is) session closed opened found = record {
    state = opened_state s v is.content;
    is_step = record {
      begun = seats_in m.array;
      begins = (refl, found);
      row = record {
        geometry = refl;
        begins = tt;
        passes = λ begun. tt;
        holds = (same, decided);
        seats = seats_in v.member.array;
        known = refl;
        marks = is.seats;
      };
    };
    is_in = record {
      stands = is.stands;
      serves =
          subst (λ (e : Phase). ServesState returning before (opened_state s v is.content) e v.told) (sym (opened g refl))
          (inl (record {
            words = is.words;
            encodings = is.decided.encodings;
            is_open = is.is_open;
            geometry = sym is.geometry;
            frozen = is.decided.frozen;
            label = is.decided.label;
            seats = refl;
            certain = refl;
            knows = is.knows;
            remembered = tt;
          }));
    };
  }
    where
      decided : IsDecided s (opened_state s v is.content)
      decided =
          elim is.decided.one [
            | inl not_made ↦ inl (record { content = not_made; in_doubt = refl })
            | inr made ↦ inr (record { content = made; in_doubt = refl })
          ]

-- THE STEP

-- of an array that a survey found, in a session that began at `before`
module _ (returning : Returning) (laws : LeadsOpenings returning) (answer : Result Geometry Refusal) (events : List Event) (x y : Seen)
    (p : Performs Recover answer events x y) (rules : IsMembership p.was.member) (honest : IsTrue y.told.honest) (before : List Happening) (s : State)
    (state : IsInState returning before s x) where
  honest_x : IsTrue x.told.honest
  honest_x = subst IsTrue (sym p.later.honest) honest

  abbrev u : Snapshot
  u = snapshot p.was.member x.told

  abbrev v : Snapshot
  v = snapshot p.is.member y.told

  -- where it began, and that it isn't open yet
  record IsFoundSo : Type 0 where
    pub first : RackState
    pub began : first.history ≡ before
    pub surveyed : IsSurveyedFor returning s first u
    pub unseated : s.seats ≡ None
    pub unopened : is_open x.session ≡ false

  found_so : IsFoundSo
  found_so = by x.session refl p.starts state.serves
    where
      by : (session : Phase) → session ≡ x.session → StartsFrom Recover p.was session → ServesState returning before s session x.told → IsFoundSo
      by Begun is starts serves = absurd starts
      by (Opened a) is starts serves = absurd starts
      by Closed is starts serves = absurd starts
      by (Found k) is starts serves = record {
        first = serves.0;
        began = serves.1;
        surveyed = record {
          stands = subst (StandsFor returning s) (sym serves.1) serves.2;
          surveys = subst (λ (m : Membership). Surveys (Ok m) serves.0 x.told) (sym (ap (λ (a : ArrayState). a.member) starts)) serves.3;
          rules = rules;
        };
        unseated = serves.4;
        unopened = ap is_open (sym is);
      }

  ran : Ran any_call x.told.history y.told.history
  ran = p.later.ran honest

  -- the survey's beginning is the session's
  calm_found : (h : List Happening) → StaysWithinTolerance returning s.geometry (is_open x.session) before h
      → StaysWithinTolerance returning s.geometry false found_so.first.history h
  calm_found h calm =
      subst (λ (b : List Happening). StaysWithinTolerance returning s.geometry false b h) (sym found_so.began)
      (subst (λ (opened : Bool). StaysWithinTolerance returning s.geometry opened before h) found_so.unopened calm)

  unread_found : StaysWithinToleranceUnread returning s.geometry (is_open x.session) before y.told.history
      → StaysWithinToleranceUnread returning s.geometry false before y.told.history
  unread_found unread = subst (λ (opened : Bool). StaysWithinToleranceUnread returning s.geometry opened before y.told.history) found_so.unopened unread

  are_found : (c : List Happening) → IsMoment x.told.history c y.told.history → StaysWithinTolerance returning s.geometry (is_open x.session) before c
      → AreFound returning before c s (seats_in p.was.member.array)
  are_found c at calm =
      subst (λ (b : List Happening). AreFound returning b c s (seats_in p.was.member.array)) found_so.began
      (laws.seats s found_so.first u found_so.surveyed honest_x c
      (moment_between {a = any_call} {b = any_call}
      (ran_any {allowed = LeavesSectors} (asked_ran 32 found_so.first.history x.told.history (found_so.surveyed.surveys.asked honest_x)))
      (ran_before {allowed = any_call} ran at)) (calm_found c calm))

  comes_to : StaysWithinTolerance returning s.geometry (is_open x.session) before y.told.history → ComesTo returning s p.was.member before answer v
  comes_to calm =
      subst (λ (b : List Happening). ComesTo returning s p.was.member b answer v) found_so.began
      (laws.comes s found_so.first u v answer found_so.surveyed p.does honest_x honest (calm_found y.told.history calm))

  pub leads : StaysWithinTolerance returning s.geometry (is_open x.session) before y.told.history → IsLed returning p.was.member before s Recover answer y
  leads calm = led returning s before p.was.member answer v (comes_to calm) y.session closed opened (are_found y.told.history (moment_last ran.more ran.is) calm)
    where
      closed : (refusal : Refusal) → answer ≡ Err refusal → y.session ≡ Closed
      closed refusal same = by p.ends
        where
          by : EndsIn Recover answer p.is y.session → y.session ≡ Closed
          by (EndsIn.Ends at error session) = session
          by (EndsIn.GoesOn fine keeps session) = absurd (false≢true (subst (λ (r : Result Geometry Refusal). IsOk r) same (fine refl)))

      opened : (g : Geometry) → answer ≡ Ok g → y.session ≡ Opened (opened_with p.is.member)
      opened g same = by p.ends
        where
          rebuild : p.is.rebuild ≡ None
          rebuild = subst (λ (r : Result Geometry Refusal). KeepsRebuild Recover r p.was p.is) same p.rebuild

          by : EndsIn Recover answer p.is y.session → y.session ≡ Opened (opened_with p.is.member)
          by (EndsIn.Ends at error session) = absurd (false≢true (subst (λ (r : Result Geometry Refusal). IsErr r) same error))
          by (EndsIn.GoesOn fine keeps session) =
              let kept : p.is.stopped ≡ None = subst (λ (r : Result Geometry Refusal). Keeps r p.is.stopped) same keeps in
              session ∙ (λ i. Opened (record { member = p.is.member; rebuild = rebuild i; stopped = kept i; remembered = p.remembers i }))

  -- nothing is refused but an epoch of which no number is left to draw
  pub only_spent : StaysWithinTolerance returning s.geometry (is_open x.session) before y.told.history
      → StaysWithinToleranceUnread returning s.geometry (is_open x.session) before y.told.history → (refusal : Refusal) → answer ≡ Err refusal
      → refusal ≡ refused EpochsSpent
  only_spent calm unread refusal is = by answer v refl is (unread_found unread) (comes_to calm)
    where
      by : (given : Result Geometry Refusal) (w : Snapshot) → given ≡ answer → given ≡ Err refusal
          → StaysWithinToleranceUnread returning s.geometry false before w.told.history → ComesTo returning s p.was.member before given w
          → refusal ≡ refused EpochsSpent
      by _ _ same err upto (Opens g w of is) = absurd (cc)
      by _ _ same err upto (Refuses (TooFew whys) w stands enough) = absurd (enough upto whys refl)
      by _ _ same err upto (Refuses EpochsSpent w stands enough) = sym (let at : refused EpochsSpent ≡ refusal = cc in at)

  -- so it is done
  pub complete : StaysWithinTolerance returning s.geometry (is_open x.session) before y.told.history
      → StaysWithinToleranceUnread returning s.geometry (is_open x.session) before y.told.history → HasDraws p.was.member → IsOk answer
  complete calm unread draws =
      done_with_room Recover (λ j same. cc) answer events x y p rules draws (λ cause. cause.1) (only_spent calm unread)

  -- at each moment of it a crash leaves the state as it was
  pub stays : (c : List Happening) → IsMoment x.told.history c y.told.history → StaysWithinTolerance returning s.geometry (is_open x.session) before c → (image : Image)
      → CrashMayLeave c image → StandsForAlone returning s image
  stays c at calm image left =
      subst (λ (t : State). StandsForAlone returning t image) (λ i. record {
        geometry = s.geometry;
        content = s.content;
        in_doubt = s.in_doubt;
        seats = sym found_so.unseated i;
      }) (laws.moments s found_so.first u v answer found_so.surveyed p.does honest_x honest c at (calm_found c calm) image left)

  pub cuts : (c : List Happening) → IsMoment x.told.history c y.told.history → StaysWithinTolerance returning s.geometry (is_open x.session) before c
      → EachImage (IsLeftBy returning Recover p.was.member before c s) c
  cuts c at calm image left = record {
    state = s;
    cut = record { begun = seats_in p.was.member.array; begins = (refl, are_found c at calm); within = inl refl };
    stands = stays c at calm image left;
  }

  -- in which the next session over it begins
  pub again : (c : List Happening) (image : Image) (first : RackState) → IsMoment x.told.history c y.told.history
      → StaysWithinTolerance returning s.geometry (is_open x.session) before c → CrashMayLeave c image → first.history ≡ Made image ∷ []
      → IsInState returning (Made image ∷ []) s (record { told = first; session = Begun })
  again c image first at calm left is = record {
    stands = subst (λ (h : List Happening). StandsFor returning s h) (sym is) (stays c at calm image left);
    serves = (sym is, found_so.unseated);
  }

-- So it is what is promised of a step.
pub promise : (returning : Returning) → LeadsOpenings returning → (answer : Result Geometry Refusal) (events : List Event) (x y : Seen)
    (p : Performs Recover answer events x y) → IsMembership p.was.member → LeadsStep returning p.was.member Recover answer x y
promise returning laws answer events x y p rules = record {
  leads = λ honest before s history state calm. leads returning laws answer events x y p rules honest before s state calm;
  cuts = λ honest before s history state c at calm. cuts returning laws answer events x y p rules honest before s state c at calm;
  complete = λ honest before s history state calm unread can. complete returning laws answer events x y p rules honest before s state calm unread can.draws;
}
