-- At each moment of a call that establishes an epoch, whatever returns meanwhile, the rack is consistent by the same holders since the
-- same epoch.
use Rattle.std.proofs.Common.{◌≡◌, ◌≢◌, ℕ, ◌<◌, ◌≤◌, List, ◌⊎◌, inl, inr, sym, ap, ◌∙◌, subst, arith, Option, Some}
use Rattle.std.specs.Prelude.{length}
use Rattle.std.proofs.lemmas.Bool.{cases_lt}
use Rattle.std.proofs.lemmas.List.{get_or_past}
use Rattle.stair_model.specs.Geometry.{Geometry}
use Rattle.stair_model.specs.Slots.{HasSlot, Slots}
use Rattle.stair_rack.specs.Crash.{CrashMayLeave, image_now}
use Rattle.stair_rack.specs.History.{Happening}
use Rattle.stair_rack.specs.Media.{Image, Medium}
use Rattle.stair_rack.specs.Moments.{IsMoment}
use Rattle.stair_rack.specs.Offline.{IsAttached}
use Rattle.stair_rack.proofs.CrashLemmas.{CrashMayLeave-now}
use Rattle.stair_rack.proofs.MomentLemmas.{at_moment}
use Rattle.stair_super.specs.Superblock.{Superblock, joined_at, joined_in, mark_at, mark_in}
use Rattle.stair_super.specs.declared.configuration.Configuration.{Configuration}
use Rattle.stair_super.specs.declared.mark.Mark.{Mark}
use Rattle.stair_super.specs.declared.mark.Mark.TheVariants as mark
use Rattle.stair_member.specs.Aims.{IsAimed, admitted, aimed}
use Rattle.stair_member.specs.Epochs.{AreReserved, Issued}
use Rattle.stair_member.specs.Fencing.{IsCopy}
use Rattle.stair_member.specs.Membership.{IsHere, IsMarkedFor, IsMembership, Membership, why_of}
use Rattle.stair_member.specs.Reserve.{Bears}
use Rattle.stair_member.specs.declared.aim.EpochChange.{EpochChange}
use Rattle.stair_member.specs.declared.aim.EpochChange.TheVariants.{Promote}
use Rattle.stair_member.specs.declared.why.Why.{Why}
use Rattle.stair_member.specs.declared.why.Why.TheVariants as why
use Rattle.stair_member.proofs.NumberLemmas.{IsNamed, block_named}
use Rattle.stair_journal.specs.declared.redo.Redo.{Redo}
use Rattle.stair_state.specs.Forms.{IsOpen}
use Rattle.stair_state.specs.Holding.{CurrentMedia, IsBorneSince, IsConsistentBy}
use Rattle.stair_state.specs.Reassembly.{InSlot, IsBorne, IsMediumOf, IsReassembly, Location}
use Rattle.stair_state.specs.State.{Content, Change, State, new_content}
use Rattle.stair_invariant.proofs.ChangingLemmas.{live_here}
use Rattle.stair_invariant.proofs.MidwayLemmas.{here_aimed, rebuilding_why, rebuilt_before}
use Rattle.stair_invariant.specs.Returning.{IsKnownWherever}
use Rattle.stair_reinsert.specs.Beginning.{BeginsWherever}
use Rattle.stair_reinsert.specs.Behind.{ByMedium, ByMember, IsRebuiltAs}
use Rattle.stair_reinsert.specs.Following.{name_of}
use Rattle.stair_reinsert.specs.Given.{KnowsSuper}
use Rattle.stair_reinsert.proofs.BehindSince.{forms_since, full_since, laid_since, shut_since}
use Rattle.stair_reinsert.proofs.BorneSince.{Before, Given, IsBorneOf, borne_since}
use Rattle.stair_reinsert.proofs.OrderSince.{Anew, AsMeant, IsJoinedAs, decided, joined_of, joined_upto, one_list_since, overtaken_since, own_joined_since, reserved_since}
use Rattle.stair_member.specs.Seats.{Seats}

-- ANOTHER MARK

live_not_down : {marked : Mark} → marked ≡ mark.Live → marked ≢ mark.Down
live_not_down is down = cc

rebuilt_not_down : {marked : Mark} → marked ≡ mark.Rebuilding → marked ≢ mark.Down
rebuilt_not_down is down = cc

-- a slot that isn't marked Down is one of the array
pub up_below : (array : Configuration) (j : ℕ) → IsNamed array → mark_in array j ≢ mark.Down → j < array.geometry.n
up_below array j is up =
    let size : length array.marks ≡ 32 = is.marks in
    elim (cases_lt j 32) [
      | inr past ↦ absurd (up (get_or_past array.marks j mark.Down (omega arith)))
      | inl within ↦
          elim (cases_lt j array.geometry.n) [
            | inl below ↦ below
            | inr past ↦ absurd (up (is.rules.absent j past within))
          ]
    ]

-- a slot that takes part isn't marked Down
pub here_up : (m : Membership) → IsMembership m → (j : ℕ) → IsHere m j → mark_in m.array j ≢ mark.Down
here_up m rules j here =
    elim here.why [
      | inl is ↦ live_not_down (subst (λ (w : Why). IsMarkedFor w (mark_in m.array j)) is (rules.marked j here.below))
      | inr is ↦ rebuilt_not_down (subst (λ (w : Why). IsMarkedFor w (mark_in m.array j)) is (rules.marked j here.below))
    ]

module _ (current_media : CurrentMedia) (since : ℕ) (aim : EpochChange) (m : Membership) (content : Content) (in_doubt : Option Change) (seats : Option Seats)
    (old : List Happening) where
  abbrev s : State
  s = record { geometry = m.array.geometry; content = content; in_doubt = in_doubt; seats = seats }

  module _ (begins : BeginsWherever s current_media since aim m old) (gone : Slots) (last : Membership) (h new : List Happening)
      (issued : Issued aim gone m last old new) (at : IsMoment old h new) (image : Image) (left : CrashMayLeave h image) where
    abbrev g : Geometry
    g = m.array.geometry

    pub so : AreReserved (admitted aim) issued.slots issued.editions m old h
    so = at_moment {P = AreReserved (admitted aim) issued.slots issued.editions m old} issued.reserved at

    pub knows : (j : ℕ) → HasSlot issued.slots j → IsAttached old j → KnowsSuper m old j
    knows j has on = begins.supers j (issued.taking j has) on

    pub known : IsKnownWherever (admitted aim) m (IsAttached old) (image_now old)
    known = begins.known (image_now old) (CrashMayLeave-now old)

    pub seen : m.array.epoch ≤ m.drawn
    seen = begins.member.known

    pub numbers : (j n : ℕ) → HasSlot issued.slots j → current_media j ≡ Some n → IsHere m j × (n ≡ joined_in m.array j)
    numbers j n has current_medium = begins.meant.taken j n (issued.taking j has) current_medium

    it : IsConsistentBy s begins.is.encodings current_media since (image_now old)
    it = begins.is.each (image_now old) (CrashMayLeave-now old)

    pub borne : (j : ℕ) (p : Location) (x : Superblock) → IsBorne g image j p x → IsBorneOf issued.slots so.editions g old j (name_of h j p) x
    borne = borne_since issued.slots so.editions g old h begins.history so.ran begins.is.steady image left

    -- WHAT SUPERBLOCKS SAY SINCE THEN

    -- what holds of all that were borne, and of what an epoch names that is for this
    pub since_kept : (Q : Configuration → Type 0) → ((x : Superblock) → IsBorneSince g since (image_now old) x → Q x.array) → Q m.array
        → ((named : Configuration) → IsAimed aim (HasSlot gone) m named → Q named) → (x : Superblock) → IsBorneSince g since image x → Q x.array
    since_kept Q first present coming x there = by (borne there.slot there.place x there.borne)
      where
        by : IsBorneOf issued.slots so.editions g old there.slot (name_of h there.slot there.place) x → Q x.array
        by (Before place named is) = first x (record { slot = there.slot; place = place; borne = is; since_then = there.since_then })
        by (Given own on copy) =
            subst Q (sym (ap (λ (y : Superblock). y.array) copy.is))
            (elim (issued.each copy.edition (so.within copy.edition copy.among)).epoch [
              | inl same ↦ subst Q (sym same) present
              | inr aimed_at ↦ coming copy.edition.array aimed_at.1
            ])

    not_joining : (j : ℕ) → (why_of m j ≡ why.Here) ⊎ (aim ≡ Promote j) → j < g.n → admitted aim ≢ Some j
    not_joining j (inl here) below joins = here_up m begins.member j (record { below = below; why = inl here }) (known.down j joins)
    not_joining j (inr promoted) below joins = let never : admitted (Promote j) ≡ Some j = ap admitted (sym promoted) ∙ joins in absurd (cc)

    -- live is who was live, or is to be promoted
    pub live_of : (j : ℕ) → j < g.n → (named : Configuration) → IsAimed aim (HasSlot gone) m named → mark_in named j ≡ mark.Live
        → current_media j ≡ Some (joined_in named j)
    live_of j below named is marked = by (here_aimed aim j (why_of m j) up)
      where
        up : aimed aim j (why_of m j) ≡ why.Here
        up =
            elim (is.marks j below) [
              | inl of ↦ live_here (aimed aim j (why_of m j)) (sym of ∙ marked)
              | inr out ↦ absurd (live_not_down marked out.1)
            ]

        same : (why_of m j ≡ why.Here) ⊎ (aim ≡ Promote j) → joined_in named j ≡ joined_in m.array j
        same which = is.joined j below (live_not_down marked) (not_joining j which below)

        by : (why_of m j ≡ why.Here) ⊎ (aim ≡ Promote j) → current_media j ≡ Some (joined_in named j)
        by (inl here) =
            begins.meant.live j (subst (λ (w : Why). IsMarkedFor w (mark_in m.array j)) here (begins.member.marked j below))
            ∙ ap Some (sym (same (inl here)))
        by (inr promoted) = begins.meant.promoted j promoted ∙ ap Some (sym (same (inr promoted)))

    -- what is to be rebuilt was so before, or is admitted
    rebuilt_first : (j : ℕ) → j < g.n → (named : Configuration) → IsAimed aim (HasSlot gone) m named → mark_in named j ≡ mark.Rebuilding
        → admitted aim ≢ Some j → mark_in m.array j ≡ mark.Rebuilding
    rebuilt_first j below named is rebuilds other =
        elim (is.marks j below) [
          | inr out ↦ absurd (rebuilt_not_down rebuilds out.1)
          | inl of ↦
              elim (rebuilt_before aim j (why_of m j) (rebuilding_why (aimed aim j (why_of m j)) (sym of ∙ rebuilds))) [
                | inl was ↦ subst (λ (w : Why). IsMarkedFor w (mark_in m.array j)) was (begins.member.marked j below)
                | inr joins ↦ absurd (other joins)
              ]
        ]

    -- with its holder, if it has one; an admitted slot has none
    rebuilt_of : (j joined : ℕ) → j < g.n → (named : Configuration) → IsAimed aim (HasSlot gone) m named → mark_in named j ≡ mark.Rebuilding
        → current_media j ≡ Some joined → joined ≡ joined_in named j
    rebuilt_of j joined below named is marked current_medium =
        elim (decided (admitted aim) j) [
          | inl joins ↦
              absurd (here_up m begins.member j (begins.meant.taken j joined (inr (joins, below)) current_medium).0 (known.down j joins))
          | inr other ↦
              begins.meant.rebuilt j joined (rebuilt_first j below named is marked other) current_medium
              ∙ sym (is.joined j below (rebuilt_not_down marked) other)
        ]

    -- SLOTS THAT ARE REBUILT

    module _ (to : Image) (j : ℕ) (a b : Superblock) (redo : Redo) (reassembly : IsReassembly image to) (there : IsBorneSince g since image a)
        (marked : mark_at a j ≡ mark.Rebuilding) (bears : Bears g j ((to j).cell) b) (joined : b.joined ≡ joined_at a j) where
      -- a new number is in use alone
      own : admitted aim ≡ Some j → m.drawn < b.joined → (p : Location) (medium : Medium) → IsMediumOf (image j) p medium → Bears g j medium.cell b
          → (name_of h j p ≡ name_of old j InSlot) × IsAttached old j
      own joins above p medium is has = by (borne j p b (record { medium = medium; is_one = is; bears = has }))
        where
          by : IsBorneOf issued.slots so.editions g old j (name_of h j p) b → (name_of h j p ≡ name_of old j InSlot) × IsAttached old j
          by (Given own on copy) = (own, on)
          by (Before place named first) =
              let most : b.array.epoch ≤ m.drawn = known.covered j place b first in
              let upto : b.joined ≤ b.array.epoch = joined_upto b first.bears.holds in
              absurd (omega (arith, most, upto, above))

      -- it is one that was there
      by_number : IsRebuiltAs g since m old j b.joined → ¬ IsOpen g to j redo
      by_number rebuilt =
          elim (decided (admitted aim) j) [
            | inl joins ↦
                elim (cases_lt m.drawn b.joined) [
                  | inl above ↦
                      laid_since s begins.is.encodings current_media since aim m issued.slots so.editions old h begins.history so.ran begins.behind image left to
                      reassembly j b bears joins (own joins above) redo
                  | inr upto ↦
                      shut_since s begins.is.encodings current_media since aim m issued.slots so.editions old h begins.history so.ran begins.behind image left to
                      reassembly j b bears (λ copy. meant copy (inr upto)) rebuilt redo
                ]
            | inr other ↦
                shut_since s begins.is.encodings current_media since aim m issued.slots so.editions old h begins.history so.ran begins.behind image left to
                reassembly j b bears (λ copy. meant copy (inl other)) rebuilt redo
          ]
        where
          meant : IsCopy issued.slots so.editions j b → (admitted aim ≢ Some j) ⊎ (b.joined ≤ m.drawn) → IsHere m j × (b.joined ≡ joined_in m.array j)
          meant copy old_number =
              by (joined_of aim gone m last old h new issued at begins.history begins.is.steady seen known knows so image left j b bears.holds.spells.block copy)
              old_number
            where
              by : IsJoinedAs aim gone m last old h new issued at begins.history begins.is.steady seen known knows so image left j b
                  → (admitted aim ≢ Some j) ⊎ (b.joined ≤ m.drawn) → IsHere m j × (b.joined ≡ joined_in m.array j)
              by (AsMeant here same) which = (here, same)
              by (Anew joins above) (inl other) = absurd (other joins)
              by (Anew joins above) (inr upto) = absurd (omega (arith, above, upto))

      by_edition : (named : Configuration) → IsAimed aim (HasSlot gone) m named → mark_in named j ≡ mark.Rebuilding → b.joined ≡ joined_in named j
          → m.drawn < named.epoch → j < g.n → ¬ IsOpen g to j redo
      by_edition named is rebuilds number above below =
          elim (decided (admitted aim) j) [
            | inl joins ↦
                let new_number : joined_in named j ≡ named.epoch = is.joins j joins (rebuilt_not_down rebuilds) in
                laid_since s begins.is.encodings current_media since aim m issued.slots so.editions old h begins.history so.ran begins.behind image left to
                reassembly j b bears joins (own joins (omega (arith, new_number, number, above))) redo
            | inr other ↦
                by_number
                (ByMember (rebuilt_first j below named is rebuilds other)
                (sym (is.joined j below (rebuilt_not_down rebuilds) other) ∙ sym number))
          ]

      pub shut_kept : j < g.n → ¬ IsOpen g to j redo
      shut_kept below = by (borne there.slot there.place a there.borne)
        where
          by : IsBorneOf issued.slots so.editions g old there.slot (name_of h there.slot there.place) a → ¬ IsOpen g to j redo
          by (Before place named is) =
              by_number
              (ByMedium a (record { slot = there.slot; place = place; borne = is; since_then = there.since_then }) marked (sym joined))
          by (Given own on copy) =
              let array : a.array ≡ copy.edition.array = ap (λ (y : Superblock). y.array) copy.is in
              elim (issued.each copy.edition (so.within copy.edition copy.among)).epoch [
                | inl same ↦
                    by_number
                    (ByMember (sym (ap (λ (c : Configuration). mark_in c j) (array ∙ same)) ∙ marked)
                    (sym (ap (λ (c : Configuration). joined_in c j) (array ∙ same)) ∙ sym joined))
                | inr aimed_at ↦
                    by_edition copy.edition.array aimed_at.1 (sym (ap (λ (c : Configuration). mark_in c j) array) ∙ marked)
                    (joined ∙ ap (λ (c : Configuration). joined_in c j) array) aimed_at.0 below
              ]

    -- AT EACH MOMENT

    -- a slot that isn't marked Down is one of the array
    pub since_below : (x : Superblock) → IsBorneSince g since image x → (j : ℕ) → mark_at x j ≢ mark.Down → j < g.n
    since_below x there j up =
        subst (λ (y : Geometry). j < y.n) there.borne.bears.identity
        (up_below x.array j (block_named x there.borne.bears.holds.spells.block) up)

    pub kept_since : IsConsistentBy s begins.is.encodings current_media since image
    kept_since = record {
      overtaken =
          overtaken_since aim gone m last old h new issued at begins.history begins.is.steady seen known knows so image left since begins.recent it.overtaken;
      reserved =
          reserved_since aim gone m last old h new issued at begins.history begins.is.steady seen known knows so image left current_media numbers begins.drawn;
      live = λ j x there marked.
          since_kept (λ c. mark_in c j ≡ mark.Live → current_media j ≡ Some (joined_in c j)) (λ y first. it.live j y first) (begins.meant.live j)
          (live_of j (since_below x there j (live_not_down marked))) x there marked;
      rebuilt = λ j joined x there marked.
          since_kept (λ c. mark_in c j ≡ mark.Rebuilding → current_media j ≡ Some joined → joined ≡ joined_in c j) (λ y first. it.rebuilt j joined y first)
          (begins.meant.rebuilt j joined) (rebuilt_of j joined (since_below x there j (rebuilt_not_down marked))) x there marked;
      frozen =
          since_kept (λ c. (c.frozen ≡ content.frozen) ⊎ (c.frozen ≡ (new_content s).frozen)) it.frozen begins.says.frozen
          (λ named is. elim begins.says.frozen_new [ inl same ↦ inl (is.frozen ∙ same) | inr same ↦ inr (is.frozen ∙ same) ]);
      label =
          since_kept (λ c. (c.label ≡ content.label) ⊎ (c.label ≡ (new_content s).label)) it.label begins.says.label
          (λ named is. elim begins.says.label_new [ inl same ↦ inl (is.label ∙ same) | inr same ↦ inr (is.label ∙ same) ]);
      forms = λ to some reassembly have.
          forms_since s begins.is.encodings current_media since aim m issued.slots so.editions old h begins.history so.ran begins.behind image left numbers to some
          reassembly have;
      full = λ to j reassembly current_medium.
          full_since s begins.is.encodings current_media since aim m issued.slots so.editions old h begins.history so.ran begins.behind image left numbers to j
          reassembly current_medium;
      rebuilding = λ to j a b redo reassembly there marked bears joined.
          shut_kept to j a b redo reassembly there marked bears joined (since_below a there j (rebuilt_not_down marked));
      one_list = one_list_since aim gone m last old h new issued at begins.history begins.is.steady seen known knows so image left it.one_list;
      own_joined = own_joined_since aim gone m last old h new issued at begins.history begins.is.steady seen known knows so image left it.own_joined;
    }
