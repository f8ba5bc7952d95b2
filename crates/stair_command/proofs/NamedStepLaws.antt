-- A step that leaves a slot live names it in each superblock that it writes.
use Rattle.std.proofs.Common.{◌≡◌, ◌≢◌, ◌∙◌, ◌<◌, ◌≤◌, ℕ, List, Option, None, Some, Result, inl, inr, refl, sym, ap, subst, arith}
use Rattle.std.proofs.lemmas.Bool.{cond-false, ne_eqb}
use Rattle.std.proofs.Math.Nat.{le-max_left}
use Rattle.std.specs.Prelude.{Contains, IsTrue, max}
use Rattle.stair_model.specs.Geometry.{Geometry}
use Rattle.stair_model.specs.Slots.{HasSlot, Slots}
use Rattle.stair_rack.specs.Answers.{Ran}
use Rattle.stair_rack.specs.History.{Attach, Happening, Read, Sectors, SlotCall, Sync, Write}
use Rattle.stair_rack.specs.RackState.{RackState}
use Rattle.stair_rack.proofs.MomentLemmas.{ran_join, ran_none, ran_weakened}
use Rattle.stair_super.specs.Spelling.{spelled}
use Rattle.stair_super.specs.Superblock.{Superblock, joined_in, mark_in}
use Rattle.stair_super.specs.declared.configuration.Configuration.{Configuration}
use Rattle.stair_super.specs.declared.mark.Mark.TheVariants.{Down, Live}
use Rattle.stair_member.specs.Aims.{IsAimed, admitted, aimed, mark_for}
use Rattle.stair_member.specs.Editions.{Edition, copy_of}
use Rattle.stair_member.specs.Epochs.{ASync, AWrite, IsIssuing, Issued}
use Rattle.stair_member.specs.Establishing.{Did, Establishes, Fences, HasBegun, Leaves, NotYet, refusal_of}
use Rattle.stair_member.specs.Membership.{Membership, why_of}
use Rattle.stair_member.specs.Seeing.{Sees, draw_in}
use Rattle.stair_member.specs.declared.aim.EpochChange.{EpochChange}
use Rattle.stair_member.specs.declared.aim.EpochChange.TheVariants.{Admit, Fence, Promote, Stamp}
use Rattle.stair_member.specs.declared.fault.FenceFault.{FenceFault}
use Rattle.stair_member.specs.declared.why.Why.{Why}
use Rattle.stair_member.specs.declared.why.Why.TheVariants as why
use Rattle.stair_member.proofs.CountingLemmas.{has_or_not}
use Rattle.stair_member.proofs.EditionLemmas.{spells_copy}
use Rattle.stair_invariant.specs.Effects.{Snapshot, snapshot}
use Rattle.stair_invariant.specs.InSession.{IsBehindPlaces}
use Rattle.stair_invariant.specs.Session.{ArrayState, IsLiveIn, Remembered}
use Rattle.stair_array.specs.Machine.{Answer, Step}
use Rattle.stair_array.specs.Promise.{Does}
use Rattle.stair_command.specs.LeftOut.{NamesLive}
use Rattle.stair_command.proofs.NamedLaws.{IsNaming, IsNew}
use Rattle.stair_command.proofs.StepPartLaws.{Behind, MayTake, goes_step}

-- The epoch of the member names slot j as a live one of this array, with this joined number, and no draw from this one down is new.
pub record IsNamed (g : Geometry) (j joined drawn : ℕ) (m : Membership) : Type 0 where
  pub geometry : m.array.geometry ≡ g
  pub marked : mark_in m.array j ≡ Live
  pub joined_is : joined_in m.array j ≡ joined
  pub draws : drawn ≤ m.drawn

-- the epoch neither admits the slot nor promotes it
pub record MayAim (j : ℕ) (aim : EpochChange) : Type 0 where
  pub admits : admitted aim ≢ Some j
  pub promotes : aim ≢ Promote j

module _ (g : Geometry) (j joined drawn : ℕ) where
  abbrev Named : Membership → Type 0
  Named m = IsNamed g j joined drawn m

  abbrev pub Wrote : List Happening → List Happening → Type 0
  Wrote old new = Ran (IsNaming g j joined drawn) old new

  -- Between two points of a step: where the slot is live in the end it was so at first, the member names it still, and what was written
  -- says so.
  pub record Goes (x y : Snapshot) : Type 0 where
    pub back : IsLiveIn y.member j → IsLiveIn x.member j
    pub on : IsLiveIn y.member j → Named x.member → Named y.member
    pub wrote : IsLiveIn y.member j → Named x.member → IsTrue y.told.honest → Wrote x.told.history y.told.history

  -- so does one of the same epoch
  named_as : (m n : Membership) → n.array ≡ m.array → m.drawn ≤ n.drawn → Named m → Named n
  named_as m n same more named = record {
    geometry = ap (λ (c : Configuration). c.geometry) same ∙ named.geometry;
    marked = ap (λ (c : Configuration). mark_in c j) same ∙ named.marked;
    joined_is = ap (λ (c : Configuration). joined_in c j) same ∙ named.joined_is;
    draws = omega (arith, more, named.draws);
  }

  rests : (x y : Snapshot) → y ≡ x → Goes x y
  rests x y same = record {
    back = λ live. subst (λ (p : Snapshot). IsLiveIn p.member j) same live;
    on = λ live named. subst (λ (p : Snapshot). Named p.member) (sym same) named;
    wrote = λ live named honest. subst (λ (p : Snapshot). Wrote x.told.history p.told.history) (sym same) (ran_none {allowed = IsNaming g j joined drawn} x.told.history);
  }

  joins_up : (x y z : Snapshot) → Goes x y → y.told.honest ≡ z.told.honest → Goes y z → Goes x z
  joins_up x y z first same second = record {
    back = λ live. first.back (second.back live);
    on = λ live named. second.on live (first.on (second.back live) named);
    wrote = λ live named honest.
        ran_join (first.wrote (second.back live) named (subst IsTrue (sym same) honest)) (second.wrote live (first.on (second.back live) named) honest);
  }

  says_behind : (i : ℕ) (call : SlotCall) → IsBehindPlaces i call → IsNaming g j joined drawn i call
  says_behind i (Write k bytes answer) behind = λ place. absurd (omega (arith, behind, place))
  says_behind i (Attach answer) behind = tt
  says_behind i (Sectors size) behind = tt
  says_behind i (Read k answer) behind = tt
  says_behind i (Sync answer) behind = tt

  kept : (x y : Snapshot) → y.member ≡ x.member → (IsTrue y.told.honest → Behind x.told.history y.told.history) → Goes x y
  kept x y same ran = record {
    back = λ live. subst (λ (m : Membership). IsLiveIn m j) same live;
    on = λ live named. subst Named (sym same) named;
    wrote = λ live named honest. ran_weakened says_behind (ran honest);
  }

  seen : (slot : ℕ) (first second : Option Superblock) (x y : Snapshot) → Sees slot first second x.member y.member
      → (IsTrue y.told.honest → Behind x.told.history y.told.history) → Goes x y
  seen slot first second x y sees ran = record {
    back = λ live. record {
      below = subst (λ (c : Configuration). j < c.geometry.n) sees.array live.below;
      why = subst (λ whys. why_of (record x.member { whys = whys }) j ≡ why.Here) sees.whys live.why;
    };
    on = λ live named. named_as x.member y.member sees.array
        (omega (arith, sees.drawn, le-max_left x.member.drawn (draw_in first), le-max_left (max x.member.drawn (draw_in first)) (draw_in second))) named;
    wrote = λ live named honest. ran_weakened says_behind (ran honest);
  }

  -- ---- an epoch

  as_was : (aim : EpochChange) → MayAim j aim → (w : Why) → aimed aim j w ≡ w
  as_was (Admit slot) may w = cond-false _ _ _ (ne_eqb j slot (λ same. may.admits (ap Some (sym same))))
  as_was (Promote slot) may w = cond-false _ _ _ (ne_eqb j slot (λ same. may.promotes (ap Promote (sym same))))
  as_was Fence may w = refl
  as_was (Stamp frozen label) may w = refl

  module _ (aim : EpochChange) (may : MayAim j aim) (m last : Membership) (refusal : Option FenceFault) (old new : RackState)
      (e : Establishes aim m last refusal old new) where
    kept_in : IsLiveIn last j → ¬ HasSlot e.gone j
    kept_in live gone = let never : why.Gone ≡ why.Here = sym (e.were_gone.dropped j gone) ∙ live.why in cc

    was_live : IsLiveIn last j → IsLiveIn m j
    was_live live = record { below = below; why = by e.began }
      where
        below : j < m.array.geometry.n
        below = subst (λ (h : Geometry). j < h.n) e.geometry live.below

        by : HasBegun aim e.gone m last → why_of m j ≡ why.Here
        by (NotYet same whys) = sym (whys j below (kept_in live)) ∙ live.why
        by (Did above named whys) = sym (whys j below (kept_in live) ∙ as_was aim may (why_of m j)) ∙ live.why

    -- an epoch that is begun names the slot as the one before did
    aimed_so : (live : IsLiveIn last j) → Named m → (c : Configuration) → IsAimed aim (HasSlot e.gone) m c
        → (mark_in c j ≡ Live) × (joined_in c j ≡ joined)
    aimed_so live named c is =
        let was = was_live live in
        let marked : mark_in c j ≡ Live =
        elim (is.marks j was.below) [
          | inl as_aimed ↦ as_aimed ∙ ap mark_for (as_was aim may (why_of m j) ∙ was.why)
          | inr dropped ↦ absurd (kept_in live dropped.0)
        ] in (
          marked,
          is.joined j was.below (λ down. let never : Live ≡ Down = sym marked ∙ down in cc) may.admits ∙ named.joined_is,
        )

    more_drawn : m.drawn ≤ last.drawn
    more_drawn = by refusal refl
      where
        by : (found : Option FenceFault) → refusal ≡ found → m.drawn ≤ last.drawn
        by None is = omega (arith, (e.done is).drawn)
        by (Some fault) is = omega (arith, (e.refused fault is).1)

    named_last : IsLiveIn last j → Named m → Named last
    named_last live named = by e.began
      where
        by : HasBegun aim e.gone m last → Named last
        by (NotYet same whys) = named_as m last same more_drawn named
        by (Did above is whys) =
            let so = aimed_so live named last.array is in
            record { geometry = e.geometry ∙ named.geometry; marked = so.0; joined_is = so.1; draws = omega (arith, more_drawn, named.draws) }

    -- so do the superblocks that are written
    edition_names : (issued : Issued aim e.gone m last old.history new.history) → IsLiveIn last j → Named m → (d : Edition) → Contains issued.editions d → (i : ℕ)
        → NamesLive j joined (copy_of d i)
    edition_names issued live named d among i =
        elim ((issued.each d among).epoch) [
          | inl same ↦ record {
            marked = ap (λ (c : Configuration). mark_in c j) same ∙ named.marked;
            joined_is = ap (λ (c : Configuration). joined_in c j) same ∙ named.joined_is;
          }
          | inr begun ↦ let so = aimed_so live named d.array begun.1 in record { marked = so.0; joined_is = so.1 }
        ]

    is_new : (issued : Issued aim e.gone m last old.history new.history) → IsLiveIn last j → Named m → (d : Edition) → Contains issued.editions d → (i : ℕ)
        → IsNew g j joined drawn i (copy_of d i)
    is_new issued live named d among i = record {
      slot = refl;
      identity = (issued.each d among).geometry ∙ named.geometry;
      names = edition_names issued live named d among i;
      above = omega (arith, (issued.each d among).above, named.draws);
    }

    naming : {slots : Slots} {editions : List Edition} → ((d : Edition) → Contains editions d → (i : ℕ) → IsNew g j joined drawn i (copy_of d i)) → (i : ℕ)
        (call : SlotCall) → IsIssuing slots editions i call → IsNaming g j joined drawn i call
    naming each i call (AWrite d k answer slot among formed place is) =
        subst (IsNaming g j joined drawn i) (sym is)
        (λ below. record {
          super = copy_of d i;
          holds = record { bytes = spelled (copy_of d i); good = refl; spells = spells_copy d i formed };
          is_new = each d among i;
        })
    naming each i call (ASync answer slot is) = subst (IsNaming g j joined drawn i) (sym is) tt

    wrote_so : IsLiveIn last j → Named m → IsTrue new.honest → Wrote old.history new.history
    wrote_so live named honest =
        let issued = e.issued honest in
        ran_weakened (naming {slots = issued.slots} {editions = issued.editions} (λ d among i. is_new issued live named d among i)) issued.ran

  epoch : (aim : EpochChange) (refusal : Option FenceFault) (x y : Snapshot) → MayAim j aim → Establishes aim x.member y.member refusal x.told y.told → Goes x y
  epoch aim refusal x y may e = record {
    back = λ live. was_live aim may x.member y.member refusal x.told y.told e live;
    on = λ live named. named_last aim may x.member y.member refusal x.told y.told e live named;
    wrote = λ live named honest. wrote_so aim may x.member y.member refusal x.told y.told e live named honest;
  }

  fence_may : MayAim j Fence
  fence_may = record { admits = λ is. cc; promotes = λ is. cc }

  -- where slots leave first
  fence : (leaving : Slots) (answer : Result Slots FenceFault) (x y : Snapshot) → Fences leaving x.member y.member answer x.told y.told → Goes x y
  fence leaving answer x y fences = record {
    back = λ live. back fences.leaves (started.back live);
    on = λ live named. started.on live (named_start named);
    wrote = λ live named honest. started.wrote live (named_start named) honest;
  }
    where
      started : Goes (snapshot fences.start x.told) y
      started = epoch Fence (refusal_of answer) (snapshot fences.start x.told) y fence_may fences.establishes

      back : Leaves leaving x.member fences.start → IsLiveIn fences.start j → IsLiveIn x.member j
      back leaves live = record {
        below = subst (λ (c : Configuration). j < c.geometry.n) leaves.array live.below;
        why = elim (has_or_not leaving j) [
          | inl left ↦ absurd (let never : why.Gone ≡ why.Here = sym (leaves.left j left) ∙ live.why in cc)
          | inr out ↦ sym (leaves.others j out) ∙ live.why
        ];
      }

      named_start : Named x.member → Named fences.start
      named_start named = named_as x.member fences.start fences.leaves.array (omega (arith, fences.leaves.drawn)) named

  -- ---- a step

  pub step_goes : (step : Step) (was : ArrayState) (after : Option Remembered) (answer : Answer step) (old : RackState) (y : Snapshot) → MayTake (MayAim j) step was
      → Does step was after answer (snapshot was.member old) y → Goes (snapshot was.member old) y
  step_goes step was after answer old y may does =
      goes_step Goes (MayAim j) rests joins_up kept seen fence epoch step was after answer old y may does
