-- An array that is led on by epochs without some of its slots: what it says of its content, how far its rebuild is, and the seats that
-- it is left with.
use Rattle.std.proofs.Common.{◌≡◌, ◌<◌, ◌≤◌, List, inl, inr, refl, sym, ap, ◌∙◌, subst, None, Some, Option}
use Rattle.std.proofs.lemmas.Bool.{cases_lt}
use Rattle.stair_model.specs.Geometry.{Geometry}
use Rattle.stair_rack.specs.History.{Happening}
use Rattle.stair_super.specs.Superblock.{joined_in, mark_in}
use Rattle.stair_super.specs.declared.configuration.Configuration.{Configuration}
use Rattle.stair_super.specs.declared.mark.Mark.TheVariants as mark
use Rattle.stair_member.specs.Aims.{mark_for}
use Rattle.stair_member.specs.Fencing.{IsBegun}
use Rattle.stair_member.specs.Membership.{Membership, why_of}
use Rattle.stair_member.specs.Seats.{Seat}
use Rattle.stair_member.specs.declared.fault.FenceFault.{FenceFault}
use Rattle.stair_member.specs.declared.why.Why.{Why}
use Rattle.stair_member.specs.declared.why.Why.TheVariants as why
use Rattle.stair_state.specs.Blocks.{AreEncodingsOf, Codewords}
use Rattle.stair_state.specs.State.{Content}
use Rattle.stair_invariant.specs.Effects.{Snapshot}
use Rattle.stair_invariant.specs.InSession.{IsOfContent}
use Rattle.stair_invariant.specs.Leading.{IsOpenAmid, led_to, rebuild_if, rebuild_in}
use Rattle.stair_invariant.specs.Opening.{IsOpening, StaysArray}
use Rattle.stair_invariant.specs.Rebuilding.{Rebuild}
use Rattle.stair_invariant.specs.SeatSteps.{EachMayDrop}
use Rattle.stair_invariant.specs.Session.{ArrayState, IsArray, IsOpenWith, seats_in}
use Rattle.stair_invariant.specs.UnderWay.{AreKept}
use Rattle.stair_invariant.proofs.OpenWithLemmas.{goes_on_from, rebuilds_on}
use Rattle.stair_invariant.proofs.SeatLemmas.{IsListed, down_or_not, down_seat, past_down, same_seat}
use Rattle.stair_array.specs.Promise.{Ended, KeepsProgress, Stays}

-- what an epoch leaves as it was, it says of the content
pub still_of : (m last : Membership) (words : Codewords) (kept : Content) → StaysArray m last → IsOfContent m words kept → IsOfContent last words kept
still_of m last words kept stays of = record {
  encodings = subst (λ (g : Geometry). AreEncodingsOf g kept.blocks words) (sym stays.geometry) of.encodings;
  frozen = stays.frozen ∙ of.frozen;
  label = stays.label ∙ of.label;
}

-- ITS REBUILD

-- the array that a step ends with is the one that it leads to
pub led_open : (before : List Happening) (was is : ArrayState) (words : Codewords) (h : List Happening)
    → IsOpenWith before (led_to was is.member) words h → KeepsProgress was is → IsOpenWith before is words h
led_open before was is words h open_so (Ended rebuild of out none) =
    rebuilds_on before (led_to was is.member) is words h open_so refl
    (λ other at. absurd (let never : None ≡ Some other = sym none ∙ at in cc))
led_open before was is words h open_so (Stays same still) =
    rebuilds_on before (led_to was is.member) is words h open_so refl
    (λ rebuild at.
    let slot = still rebuild at in
    let led : rebuild_in is.member was.rebuild ≡ Some rebuild =
    ap (rebuild_in is.member) (sym same ∙ at) ∙ ap (λ (w : Why). rebuild_if w rebuild) slot.why in
    (slot, ((open_so.array.rebuilds rebuild led).1, open_so.rebuilt rebuild led)))

pub rebuilt_why : (w : Why) → mark_for w ≡ mark.Rebuilding → w ≡ why.Rebuilding
rebuilt_why why.Rebuilding marked = refl
rebuilt_why w marked = absurd (cc)

-- by two epochs it is led to where one leads: a slot that is rebuilt in the end was so in between
pub led_again : (before : List Happening) (a : ArrayState) (y z : Membership) (words : Codewords) (h : List Happening) → IsArray a
    → StaysArray a.member y → IsArray (led_to a y) → StaysArray y z → IsOpenWith before (led_to (led_to a y) z) words h
    → IsOpenWith before (led_to a z) words h
led_again before a y z words h first from then stays is =
    rebuilds_on before (led_to (led_to a y) z) (led_to a z) words h is refl
    (λ rebuild of.
    let was = goes_on_from z a.rebuild rebuild of in
    let led = led_so rebuild was.0 was.1 in
    ((is.array.rebuilds rebuild led).0, ((is.array.rebuilds rebuild led).1, is.rebuilt rebuild led)))
  where
    why_between : (rebuild : Rebuild) → a.rebuild ≡ Some rebuild → why_of z rebuild.slot ≡ why.Rebuilding → why_of y rebuild.slot ≡ why.Rebuilding
    why_between rebuild was last =
        let below_y : rebuild.slot < y.array.geometry.n =
        subst (λ (g : Geometry). rebuild.slot < g.n) (sym from.geometry) (first.rebuilds rebuild was).0.below in
        let below_z : rebuild.slot < z.array.geometry.n = subst (λ (g : Geometry). rebuild.slot < g.n) (sym stays.geometry) below_y in
        let marked : mark_in z.array rebuild.slot ≡ mark.Rebuilding = is.array.marks rebuild.slot below_z ∙ ap mark_for last in
        elim (stays.seats rebuild.slot) [
          | inl same ↦
              rebuilt_why (why_of y rebuild.slot)
              (sym (then.marks rebuild.slot below_y) ∙ sym (ap (λ (s : Seat). s.mark) same) ∙ marked)
          | inr fell ↦ let never : mark.Rebuilding ≡ mark.Down = sym marked ∙ ap (λ (s : Seat). s.mark) fell.1 in absurd (cc)
        ]

    led_so : (rebuild : Rebuild) → a.rebuild ≡ Some rebuild → why_of z rebuild.slot ≡ why.Rebuilding
        → rebuild_in z (rebuild_in y a.rebuild) ≡ Some rebuild
    led_so rebuild was last =
        ap (rebuild_in z) (ap (rebuild_in y) was ∙ ap (λ (w : Why). rebuild_if w rebuild) (why_between rebuild was last))
        ∙ ap (λ (w : Why). rebuild_if w rebuild) last

-- what lasts in the midst of a redo does so of the array without its rebuild
pub amid_opening : (before : List Happening) (rebuild : Option Rebuild) (stopped : Option FenceFault) (p : Snapshot)
    → IsOpenAmid before (record { member = p.member; rebuild = rebuild; stopped = stopped; remembered = None }) p.told.history → IsBegun None p.member p.told.history
    → IsOpening before p
amid_opening before rebuild stopped p is begun = record {
  amid = record {
    array = record {
      member = is.array.member;
      marks = is.array.marks;
      enough = is.array.enough;
      rebuilds = λ other never. absurd (cc);
    };
    ran = is.ran;
    held = is.held;
    own = is.own;
    shut = is.shut;
  };
  begun = begun;
}

-- SEATS

-- marks and joined numbers that are kept, but for slots that are Down, are seats of which some were dropped
pub kept_drops : (was now : Configuration) → IsListed was → IsListed now → now.geometry ≡ was.geometry → AreKept was.geometry was now
    → EachMayDrop (seats_in was) (seats_in now)
kept_drops was now of_was of_now same kept j =
    elim (cases_lt j was.geometry.n) [
      | inr past ↦
          inl
          (down_seat now j of_now (past_down now j of_now (subst (λ (g : Geometry). g.n ≤ j) (sym same) past))
          ∙ sym (down_seat was j of_was (past_down was j of_was past)))
      | inl below ↦
          elim (kept j below) [
            | inl so ↦ inl (same_seat (mark_in now j) (mark_in was j) (joined_in now j) (joined_in was j) so.0 so.1)
            | inr down ↦
                elim (down_or_not (mark_in was j)) [
                  | inl already ↦ inl (down_seat now j of_now down ∙ sym (down_seat was j of_was already))
                  | inr up ↦ inr (up, down_seat now j of_now down)
                ]
          ]
    ]
