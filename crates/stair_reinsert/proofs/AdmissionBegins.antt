-- How the admission of a slot begins that was looked at and laid out, whichever media come back meanwhile.
use Rattle.std.proofs.Common.{◌≡◌, ℕ, ◌<◌, ◌≤◌, List, inl, inr, refl, sym, ap, ◌∙◌, subst, arith, None, Some}
use Rattle.std.specs.Prelude.{max}
use Rattle.stair_model.specs.Device.{gate_sector}
use Rattle.stair_rack.specs.Crash.{CrashMayLeave}
use Rattle.stair_rack.specs.History.{Happening, slot_state}
use Rattle.stair_rack.specs.Media.{Image}
use Rattle.stair_rack.specs.Offline.{IsAttached}
use Rattle.stair_rack.specs.Sector.{Leaves}
use Rattle.stair_super.specs.Superblock.{mark_in}
use Rattle.stair_super.specs.declared.configuration.Configuration.{Configuration}
use Rattle.stair_super.specs.declared.mark.Mark.TheVariants as mark
use Rattle.stair_member.specs.Aims.{mark_for}
use Rattle.stair_member.specs.Membership.{IsHere, Membership}
use Rattle.stair_member.specs.Seeing.{draw_in}
use Rattle.stair_member.specs.declared.aim.EpochChange.TheVariants.{Admit, Fence}
use Rattle.stair_member.specs.declared.why.Why.{Why}
use Rattle.stair_journal.specs.Gate.{ReadsClosed}
use Rattle.stair_journal.specs.declared.redo.Redo.{Redo}
use Rattle.stair_state.specs.Blocks.{AreEncodingsOf, Codewords}
use Rattle.stair_state.specs.Forms.{IsOpen}
use Rattle.stair_state.specs.State.{Content}
use Rattle.stair_state.specs.Tolerance.{IsTolerated, ToleratedSince}
use Rattle.stair_state.proofs.FormLemmas.{good_whole}
use Rattle.stair_invariant.specs.InSession.{state_with}
use Rattle.stair_invariant.specs.Returning.{AnyReturns, KnowsMedia, current_media_of}
use Rattle.stair_invariant.specs.Session.{ArrayState}
use Rattle.stair_invariant.proofs.Mending.{IsLookedAt, seen_by}
use Rattle.stair_invariant.proofs.SawMoreLemmas.{newest_then, of_parts, open_more}
use Rattle.stair_invariant.proofs.Serving.{IsServing}
use Rattle.stair_reinsert.specs.Beginning.{AreCurrentMediaClosed, BeginsWherever}
use Rattle.stair_reinsert.specs.Given.{KnowsSuper}
use Rattle.stair_reinsert.proofs.AdmissionSeen.{knows_slot}
use Rattle.stair_reinsert.proofs.BesideLead.{beside_serves}
use Rattle.stair_reinsert.proofs.ServingEpochs.{serving_begins, serving_closed}
use Rattle.stair_reinsert.proofs.StoodSince.{held_here}
use Rattle.stair_reinsert.proofs.WhereverLemmas.{kept_left}

module _ (before : List Happening) (a : ArrayState) (words : Codewords) (kept : Content) (slot : ℕ) (seen : Membership) (old new : List Happening)
    (is : IsServing AnyReturns before a words kept old) (l : IsLookedAt a slot seen old new)
    (calm : ToleratedSince a.member.array.geometry before new) where
  abbrev m : Membership
  m = a.member

  -- a slot that is marked Down doesn't take part
  pub slot_out : ¬ IsHere m slot
  slot_out here =
      elim here.why [
        | inl live ↦
            let never : mark.Down ≡ mark.Live = sym l.down ∙ is.is_open.array.marks slot here.below ∙ ap mark_for live in absurd (cc)
        | inr rebuilt ↦
            let never : mark.Down ≡ mark.Rebuilding = sym l.down ∙ is.is_open.array.marks slot here.below ∙ ap mark_for rebuilt in absurd (cc)
      ]

  pub still_serves : IsServing AnyReturns before a words kept new
  still_serves = beside_serves before a words kept old new is l.ran calm

  -- BY WHAT WAS SEEN

  more : m.drawn ≤ seen.drawn
  more =
      let drawn : seen.drawn ≡ max (max m.drawn (draw_in l.first)) (draw_in l.second) = l.sees.drawn in
      omega (arith, drawn)

  -- the member as it was, with the draws and places that were seen
  abbrev parts : Membership
  parts = of_parts m.array seen.drawn m.whys seen.places

  was_here : (j : ℕ) → IsHere parts j → IsHere m j
  was_here j here = record { below = here.below; why = here.why }

  parts_know : KnowsMedia (state_with m kept None m.array) parts new
  parts_know =
      let knows = still_serves.knows in record {
        known = λ image left.
            let known = knows.known image left in record {
              covered = λ i p s there. let least = known.covered i p s there in let up = more in omega (arith, least, up);
              named = known.named;
              sole = λ j p s here. known.sole j p s (was_here j here);
              down = λ j joins. absurd (let never : None ≡ Some j = joins in cc);
            };
        is = knows.is;
        latest = knows.latest;
        own = λ j here on. newest_then before a slot l.first l.second seen words new still_serves.is_open l.sees l.rules slot_out j (was_here j here) (knows.own j (was_here j here) on);
        closed = knows.closed;
      }

  seen_knows : KnowsMedia (state_with seen kept None seen.array) seen new
  seen_knows =
      subst (λ (whys : List Why). KnowsMedia (state_with seen kept None seen.array) (of_parts seen.array seen.drawn whys seen.places) new)
      (sym l.sees.whys)
      (subst
      (λ (array : Configuration). KnowsMedia (state_with (of_parts array seen.drawn m.whys seen.places) kept None array)
      (of_parts array seen.drawn m.whys seen.places) new) (sym l.sees.array) parts_know)

  -- the array serves
  pub seen_serves : IsServing AnyReturns before (seen_by a seen) words kept new
  seen_serves = record {
    is_open = open_more before a slot l.first l.second seen words new still_serves.is_open l.sees l.rules slot_out;
    history = still_serves.history;
    of = record {
      encodings = subst (λ (c : Configuration). AreEncodingsOf c.geometry kept.blocks words) (sym l.sees.array) is.of.encodings;
      frozen = ap (λ (c : Configuration). c.frozen) l.sees.array ∙ is.of.frozen;
      label = ap (λ (c : Configuration). c.label) l.sees.array ∙ is.of.label;
    };
    knows = seen_knows;
  }

  pub seen_down : mark_in seen.array slot ≡ mark.Down
  seen_down = ap (λ (c : Configuration). mark_in c slot) l.sees.array ∙ l.down

  pub seen_below : slot < seen.array.geometry.n
  seen_below = subst (λ (c : Configuration). slot < c.geometry.n) (sym l.sees.array) l.below

  -- IT BEGINS

  module _ (tolerated : IsTolerated seen.array.geometry before new) where
    fence : BeginsWherever (state_with seen kept None seen.array) (current_media_of seen) seen.array.epoch Fence seen new
    fence =
        serving_begins before (seen_by a seen) words kept None refl new seen_serves Fence refl (λ i never. cc)
        (record {
          frozen = inl seen_serves.of.frozen;
          label = inl seen_serves.of.label;
          frozen_new = inl seen_serves.of.frozen;
          label_new = inl seen_serves.of.label;
        }) tolerated

    -- its gate isn't open
    laid : (image : Image) → CrashMayLeave new image → IsAttached new slot → (redo : Redo) → ¬ IsOpen seen.array.geometry image slot redo
    laid image left on =
        subst (λ (c : Configuration). ReadsClosed c.geometry ((image slot).cell gate_sector)) (sym l.sees.array)
        (kept_left {P = Leaves (ReadsClosed m.array.geometry) (ReadsClosed m.array.geometry)} (ReadsClosed m.array.geometry) (slot_state new slot).pulls
        gate_sector (slot_state new slot) (image slot) (λ redo opened. good_whole opened.good refl) (λ c leaves may. leaves.each c may) refl (left slot)
        (l.shut on))

    pub admission_begins : BeginsWherever (state_with seen kept None seen.array) (current_media_of seen) seen.array.epoch (Admit slot) seen new
    admission_begins = record {
      history = seen_serves.history;
      member = l.rules;
      geometry = refl;
      is = fence.is;
      recent = omega arith;
      known = λ image left.
          let known = seen_serves.knows.known image left in record {
            covered = known.covered;
            named = known.named;
            sole = known.sole;
            down = λ j joins. let at : slot ≡ j = cc in subst (λ (k : ℕ). mark_in seen.array k ≡ mark.Down) at seen_down;
          };
      supers = λ j taken on.
          elim taken [
            | inl here ↦ fence.supers j (inl here) on
            | inr joins ↦
                let at : slot ≡ j = (let same : Some slot ≡ Some j = joins.0 in cc) in
                subst (λ (k : ℕ). KnowsSuper seen new k) at
                (knows_slot a slot seen old new is.history is.knows.is.steady l (subst (IsAttached new) (sym at) on))
          ];
      behind = record {
        forms = fence.behind.forms;
        full = fence.behind.full;
        rebuilding = fence.behind.rebuilding;
        laid = λ image left j redo joins on.
            let at : slot ≡ j = cc in
            subst (λ (k : ℕ). ¬ IsOpen seen.array.geometry image k redo) at (laid image left (subst (IsAttached new) (sym at) on) redo);
      };
      drawn = fence.drawn;
      meant = record {
        taken = λ j n taken current_medium.
            let held = held_here seen j n current_medium in (record { below = held.below; why = inl held.here }, held.number);
        live = fence.meant.live;
        rebuilt = fence.meant.rebuilt;
        promoted = λ j promotes. absurd (cc);
      };
      says = record { frozen = fence.says.frozen; label = fence.says.label; frozen_new = fence.says.frozen_new; label_new = fence.says.label_new };
    }

    pub admission_closed : AreCurrentMediaClosed seen.array.geometry (current_media_of seen) seen new
    admission_closed = serving_closed before (seen_by a seen) words kept None refl new seen_serves tolerated
