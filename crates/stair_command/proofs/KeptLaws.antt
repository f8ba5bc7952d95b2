-- No device is given up without cause; and what an item makes of a session that has found an array.
use Rattle.std.proofs.Common.{◌≡◌, ◌∙◌, ◌≢◌, ◌<◌, ℕ, List, [], ◌∷◌, ◌⊎◌, inl, inr, refl, sym, ap, subst}
use Rattle.std.specs.Prelude.{Bool}
use Rattle.stair_rack.specs.declared.watcher.Event.{Event}
use Rattle.stair_model.specs.Geometry.{Geometry}
use Rattle.stair_super.specs.Superblock.{mark_in}
use Rattle.stair_super.specs.declared.mark.Mark.TheVariants.{Live, Down, Rebuilding}
use Rattle.stair_member.specs.Membership.{IsHere, Membership}
use Rattle.stair_invariant.specs.Session.{ArrayState}
use Rattle.stair_array.specs.Causes.{IsAdmitted, IsPromoted, Stays, WasAway, WasGoneTo, Went}
use Rattle.stair_array.specs.Machine.{Answer, LookAtSeats, ReadBlock, RebuildNext, Recover, ReplaceSlot, ScrubStripe, SetFrozen, SetLabel, Step, WriteBlocks}
use Rattle.stair_array.specs.Promise.{Begun, Closed, Ends, Found, GoesOn, Opened, Performs, Seen, Phase, StartsFrom}
use Rattle.stair_command.specs.Action.{Create, Survey}
use Rattle.stair_command.specs.Devices.{DeviceView, Devices, WorksAll, seen_of}
use Rattle.stair_command.specs.Kept.{HasMember, IsOpenAs, WasGoneAt, WasGoneIn}
use Rattle.stair_command.specs.Trace.{TraceItem, Did, Stepped, AlongTrace}

-- a step starts from what its session knows of its slots
pub starts_known : (step : Step) (was : ArrayState) (session : Phase) → StartsFrom step was session → HasMember session was.member
starts_known Recover was (Found m) starts = ap (λ a. a.member) starts
starts_known (ReadBlock b) was (Opened a) starts = ap (λ a. a.member) starts.0
starts_known (WriteBlocks b contents) was (Opened a) starts = ap (λ a. a.member) starts.0
starts_known (ScrubStripe t) was (Opened a) starts = ap (λ a. a.member) starts.0
starts_known (ReplaceSlot j) was (Opened a) starts = ap (λ a. a.member) starts.0
starts_known RebuildNext was (Opened a) starts = ap (λ a. a.member) starts.0
starts_known (SetFrozen frozen) was (Opened a) starts = ap (λ a. a.member) starts.0
starts_known (SetLabel label) was (Opened a) starts = ap (λ a. a.member) starts.0
starts_known LookAtSeats was (Opened a) starts = ap (λ a. a.member) starts.0
starts_known _ was _ starts = absurd starts

-- and it knows one thing of them
pub known_once : (session : Phase) (m n : Membership) → HasMember session m → HasMember session n → m ≡ n
known_once (Found found) m n has also = has ∙ sym also
known_once (Opened a) m n has also = has ∙ sym also
known_once Begun m n has also = absurd has
known_once Closed m n has also = absurd has

pub open_known : (session : Phase) (m : Membership) → IsOpenAs session m → HasMember session m
open_known (Opened a) m is = is
open_known _ m is = absurd is

pub known_closed : (session : Phase) (m : Membership) → session ≡ Closed → HasMember session m → ⊥
known_closed session m is has = subst (λ (s : Phase). HasMember s m) is has

pub known_begun : (session : Phase) (m : Membership) → session ≡ Begun → HasMember session m → ⊥
known_begun session m is has = subst (λ (s : Phase). HasMember s m) is has

module _ {R W : Type 0} (view : DeviceView R W) where
  pub same_session : {x y : Devices R W} → y ≡ x → y.session ≡ x.session
  same_session same = ap (λ (d : Devices R W). d.session) same

  -- What an item makes of a session that knows this of its slots: it stays as it was, it ends, or a step leaves it open.
  pub data Comes (item : TraceItem) (x y : Devices R W) (m : Membership) : Type 0 where
    Same : y.session ≡ x.session → Comes item x y m
    Closes : y.session ≡ Closed → Comes item x y m
    Takes : (step : Step) (answer : Answer step) (events : List Event) (left : Bool) → item ≡ Stepped step answer events left
        → (does : Performs step answer events (seen_of view x) (seen_of view y)) → does.was.member ≡ m
        → IsOpenAs y.session does.is.member → Comes item x y m

  pub comes : (item : TraceItem) (x y : Devices R W) (m : Membership) → HasMember x.session m → WorksAll view item x y → Comes item x y m
  comes (Stepped step answer events left) x y m has works =
      elim works.0 [
        | inl does ↦ elim does.ends [
          | Ends is err closed ↦ Closes closed
          | GoesOn ok kept opened ↦
              Takes step answer events left refl does
              (known_once x.session does.was.member m (starts_known step does.was x.session does.starts) has)
              (subst (λ (s : Phase). IsOpenAs s does.is.member) (sym opened) refl)
        ]
        | inr stopped ↦ Same (ap (λ (z : Seen). z.session) stopped.same)
      ]
  comes (Did (Create g) outcome) x y m has works = absurd (known_begun x.session m works.1 has)
  comes (Did Survey outcome) x y m has works = absurd (known_begun x.session m works.1 has)
  comes item x y m has works = Same (same_session works)

  -- a session that ended stays so
  pub closed_on : (item : TraceItem) (x y : Devices R W) → x.session ≡ Closed → WorksAll view item x y → y.session ≡ Closed
  closed_on (Stepped step answer events left) x y closed works =
      elim works.0 [
        | inl does ↦ absurd (known_closed x.session does.was.member closed (starts_known step does.was x.session does.starts))
        | inr stopped ↦ ap (λ (z : Seen). z.session) stopped.same ∙ closed
      ]
  closed_on (Did (Create g) outcome) x y closed works = works.2
  closed_on (Did Survey outcome) x y closed works = absurd (let same : Closed ≡ Begun = sym closed ∙ works.1 in cc)
  closed_on item x y closed works = same_session works ∙ closed

  pub never_known : (trace : List TraceItem) (x y : Devices R W) (m : Membership) → AlongTrace (WorksAll view) trace x y → x.session ≡ Closed
      → HasMember y.session m → ⊥
  never_known [] x y m works closed has = known_closed y.session m (same_session works ∙ closed) has
  never_known (item ∷ trace) x y m works closed has =
      never_known trace works.0 y m works.2 (closed_on item x works.0 closed works.1) has

  module _ (j : ℕ) where
    -- it didn't take part in an array that was found and isn't open yet
    abbrev WasAwayIn : Phase → Membership → Type 0
    WasAwayIn session m = (session ≡ Found m) × (¬ IsHere m j)

    not_open : (session : Phase) (m n : Membership) → IsOpenAs session n → session ≡ Found m → ⊥
    not_open session m n is found = subst (λ (s : Phase). IsOpenAs s n) found is

    -- the mark after a step, of a slot that wasn't Down
    pub data MarkComes (x y : Devices R W) (m last : Membership) : Type 0 where
      Away : WasAwayIn x.session m → MarkComes x y m last
      Gone : WasGoneTo m j (seen_of view x).told (seen_of view y).told → MarkComes x y m last
      Kept : mark_in last.array j ≢ Down → MarkComes x y m last

    -- only an array that was found is opened
    found_for : (step : Step) (was : ArrayState) (session : Phase) → step ≡ Recover → StartsFrom step was session → session ≡ Found was.member
    found_for Recover was (Found m) is starts = ap Found (sym (ap (λ a. a.member) starts))
    found_for Recover was _ is starts = absurd starts
    found_for _ was _ is starts = absurd (let same = is in cc)

    mark_comes : (step : Step) (answer : Answer step) (events : List Event) (x y : Devices R W)
        (does : Performs step answer events (seen_of view x) (seen_of view y)) → j < does.was.member.array.geometry.n
        → mark_in does.was.member.array j ≢ Down → MarkComes x y does.was.member does.is.member
    mark_comes step answer events x y does below up =
        elim (does.goes_on.marks j below) [
          | Stays same ↦ Kept (λ down. up (sym same ∙ down))
          | WasAway is not_here not_rebuilt down ↦
              Away (
                found_for step does.was x.session is does.starts,
                λ here. elim here.why [ inl is_here ↦ not_here is_here | inr rebuilt ↦ not_rebuilt rebuilt ],
              )
          | Went gone down ↦ Gone gone
          | IsAdmitted is rebuilding ↦ Kept (λ down. let same : Rebuilding ≡ Down = sym rebuilding ∙ down in cc)
          | IsPromoted is was live ↦ Kept (λ down. let same : Live ≡ Down = sym live ∙ down in cc)
        ]

    pub given_up : (trace : List TraceItem) (x y : Devices R W) (works : AlongTrace (WorksAll view) trace x y) (m last : Membership) → HasMember x.session m
        → HasMember y.session last → j < m.array.geometry.n → mark_in m.array j ≢ Down → mark_in last.array j ≡ Down
        → WasAwayIn x.session m ⊎ WasGoneIn view j trace x y works
    given_up [] x y works m last has ends below up down =
        let same : m ≡ last = known_once x.session m last has (subst (λ (s : Phase). HasMember s last) (same_session works) ends) in
        absurd (up (ap (λ (n : Membership). mark_in n.array j) same ∙ down))
    given_up (item ∷ trace) x y works m last has ends below up down =
        elim (comes item x works.0 m has works.1) [
          | Same same ↦
              elim (given_up trace works.0 y works.2 m last (subst (λ (s : Phase). HasMember s m) (sym same) has) ends below up down) [
                | inl away ↦ inl (sym same ∙ away.0, away.1)
                | inr gone ↦ inr (inr gone)
              ]
          | Closes closed ↦ absurd (never_known trace works.0 y last works.2 closed ends)
          | Takes step answer events left is does known opened ↦
              took step answer events left is does known opened
              (λ n then_has then_below then_up. given_up trace works.0 y works.2 n last then_has ends then_below then_up down)
        ]
      where
        took : (step : Step) (answer : Answer step) (events : List Event) (left : Bool) → item ≡ Stepped step answer events left
            → (does : Performs step answer events (seen_of view x) (seen_of view works.0)) → does.was.member ≡ m
            → IsOpenAs works.0.session does.is.member
            → ((n : Membership) → HasMember works.0.session n → j < n.array.geometry.n → mark_in n.array j ≢ Down
            → WasAwayIn works.0.session n ⊎ WasGoneIn view j trace works.0 y works.2)
            → WasAwayIn x.session m ⊎ WasGoneIn view j (item ∷ trace) x y works
        took step answer events left is does known opened rest =
            let below_then : j < does.was.member.array.geometry.n = subst (λ (n : Membership). j < n.array.geometry.n) (sym known) below in
            let up_then : mark_in does.was.member.array j ≢ Down = subst (λ (n : Membership). mark_in n.array j ≢ Down) (sym known) up in
            elim (mark_comes step answer events x works.0 does below_then up_then) [
              | Away away ↦ inl (subst (λ (n : Membership). WasAwayIn x.session n) known away)
              | Gone gone ↦
                  inr (inl (subst (λ (d : TraceItem). WasGoneAt view j d x works.0) (sym is)
                  (does.was.member, subst (λ (n : Membership). HasMember x.session n) (sym known) has, gone)))
              | Kept kept ↦
                  elim (rest does.is.member (open_known works.0.session does.is.member opened)
                  (subst (λ (k : ℕ). j < k) (sym (ap (λ (g : Geometry). g.n) does.goes_on.geometry)) below_then) kept) [
                    | inl away ↦ absurd (not_open works.0.session does.is.member does.is.member opened away.0)
                    | inr gone ↦ inr (inr gone)
                  ]
            ]

    pub none_is_given_up : (trace : List TraceItem) (x y : Devices R W) (works : AlongTrace (WorksAll view) trace x y) (m last : Membership)
        → IsOpenAs x.session m → IsOpenAs y.session last → j < m.array.geometry.n → mark_in m.array j ≢ Down → mark_in last.array j ≡ Down
        → WasGoneIn view j trace x y works
    none_is_given_up trace x y works m last is ends below up down =
        elim (given_up trace x y works m last (open_known x.session m is) (open_known y.session last ends) below up down) [
          | inl away ↦ absurd (not_open x.session m m is away.0)
          | inr gone ↦ gone
        ]

    pub none_is_left_out : (trace : List TraceItem) (x y : Devices R W) (works : AlongTrace (WorksAll view) trace x y) (m last : Membership)
        → x.session ≡ Found m → IsOpenAs y.session last → j < m.array.geometry.n → mark_in m.array j ≢ Down → mark_in last.array j ≡ Down
        → (¬ IsHere m j) ⊎ WasGoneIn view j trace x y works
    none_is_left_out trace x y works m last is ends below up down =
        elim (given_up trace x y works m last (subst (λ (s : Phase). HasMember s m) (sym is) refl) (open_known y.session last ends) below up down) [
          | inl away ↦ inl away.1
          | inr gone ↦ inr gone
        ]
