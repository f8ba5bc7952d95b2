-- Slots that are Down stay so where a chunk is written or a slot promoted, and the news of two calls are those of one.
use Rattle.std.proofs.Common.{◌≡◌, ◌≢◌, ℕ, ◌+◌, ◌<◌, ◌≤◌, List, inl, inr, refl, sym, ap, ◌∙◌, subst, None, Option, Some, arith, length}
use Rattle.std.specs.Prelude.{◌⊎◌, Result, slice_index_or}
use Rattle.std.proofs.lemmas.Bool.{cases_eq, cases_lt, cond-false, ne_eqb}
use Rattle.std.proofs.lemmas.List.{get_or_past}
use Rattle.stair_model.specs.Geometry.{Geometry}
use Rattle.stair_rack.specs.RackState.{RackState}
use Rattle.stair_rack.specs.declared.rack.Reply.{Reply}
use Rattle.stair_rack.specs.declared.rack.Reply.TheVariants as reply
use Rattle.stair_super.specs.Superblock.{mark_in}
use Rattle.stair_super.specs.declared.configuration.Configuration.{Configuration}
use Rattle.stair_super.specs.declared.mark.Mark.{Mark}
use Rattle.stair_super.specs.declared.mark.Mark.TheVariants as mark
use Rattle.stair_member.specs.Aims.{aimed, mark_for}
use Rattle.stair_member.specs.Establishing.{Did, Establishes, HasBegun, NotYet, refusal_in}
use Rattle.stair_member.specs.Membership.{IsMarkedFor, IsMembership, Membership, why_of}
use Rattle.stair_member.specs.declared.aim.EpochChange.TheVariants.{Promote}
use Rattle.stair_member.specs.declared.fault.FenceFault.{FenceFault}
use Rattle.stair_member.specs.declared.why.Why.{Why}
use Rattle.stair_member.specs.declared.why.Why.TheVariants as why
use Rattle.stair_invariant.specs.Effects.{Snapshot}
use Rattle.stair_invariant.specs.Session.{IsRebuiltIn}
use Rattle.stair_array.specs.Machine.{Progress, Refusal}
use Rattle.stair_array.specs.Mends.{Joined, Promotes, Unsynced}
use Rattle.stair_array.specs.MendingSteps.{WritesNext}
use Rattle.stair_array.specs.News.{HasFallen, StayDown}
use Rattle.stair_array.specs.declared.news.News.{News}
use Rattle.stair_array.proofs.PartsLemmas.{IsPart, MarkStays, part_join}
use Rattle.stair_array.proofs.PromotionLemmas.{rebuilt_here}
use Rattle.stair_array.proofs.ReadCourseLemmas.{loaded_part}
use Rattle.stair_array.proofs.RebuildPartLemmas.{chunk_falls, chunk_part, falls_part, sync_falls}

-- a slot that the array hasn't is Down
beyond : (m : Membership) → IsMembership m → (j : ℕ) → m.array.geometry.n ≤ j → mark_in m.array j ≡ mark.Down
beyond m rules j past =
    elim (cases_lt j 32) [
      | inl below ↦ rules.array.absent j past below
      | inr far ↦ let marks = rules.sizes.marks in get_or_past m.array.marks j mark.Down (omega (arith, far, marks))
    ]

-- so what is Down is, where it is of the slots that the array has
by_slots : (m last : Membership) → IsMembership last → last.array.geometry ≡ m.array.geometry
    → ((j : ℕ) → j < m.array.geometry.n → mark_in m.array j ≡ mark.Down → mark_in last.array j ≡ mark.Down)
    → StayDown m.array last.array
by_slots m last rules same each j down =
    elim (cases_lt j m.array.geometry.n) [
      | inl below ↦ each j below down
      | inr past ↦ beyond last rules j (subst (λ (g : Geometry). g.n ≤ j) (sym same) past)
    ]

-- SLOTS THAT ARE LEFT OUT

pub part_down : (more : ℕ) (x y : Snapshot) → IsPart more x y → StayDown x.member.array y.member.array
part_down more x y part = by_slots x.member y.member part.rules part.geometry (λ j below down. by j (part.marks j below) down)
  where
    by : (j : ℕ) → MarkStays x y j → mark_in x.member.array j ≡ mark.Down → mark_in y.member.array j ≡ mark.Down
    by j (MarkStays.Same same) down = same ∙ down
    by j (MarkStays.WasAway live rebuilt is) down = is
    by j (MarkStays.Went was is) down = is

-- A CHUNK

pub next_part : (j t : ℕ) (answer : Result Reply Refusal) (x z : Snapshot) → WritesNext j t answer x z → IsMembership x.member → IsPart 0 x z
next_part j t _ _ _ (WritesNext.Unread into refusal x y loads) rules = loaded_part t into _ x y loads rules
next_part j t _ _ _ (WritesNext.FellLoading into x y loads fell) rules = loaded_part t into _ x y loads rules
next_part j t _ _ _ (WritesNext.Fell into refusal x y z w loads rebuilt wrote drops) rules =
    let first = loaded_part t into _ x y loads rules in
    let here = rebuilt_here y.member j rebuilt in
    part_join 0 0 x y w first (falls_part j refusal y w (chunk_falls j t into refusal y z w wrote drops first.rules here) first.rules here)
next_part j t _ _ _ (WritesNext.Wrote into x y z loads rebuilt wrote) rules =
    let first = loaded_part t into _ x y loads rules in
    part_join 0 0 x y z first (chunk_part j t into reply.Done y z wrote first.rules)

-- A PROMOTION

away_down : (w : Why) (m : Mark) → IsMarkedFor w m → m ≡ mark.Down → mark_for w ≡ mark.Down
away_down why.Here m marked down = let never : mark.Live ≡ mark.Down = sym marked ∙ down in absurd (cc)
away_down why.Rebuilding m marked down = let never : mark.Rebuilding ≡ mark.Down = sym marked ∙ down in absurd (cc)
away_down w m marked down = refl

-- of a slot that is rebuilt: it isn't Down, and any other slot is marked as before
epoch_down : (slot : ℕ) (m last : Membership) (refusal : Option FenceFault) (old new : RackState)
    → Establishes (Promote slot) m last refusal old new → IsMembership m → IsRebuiltIn m slot → StayDown m.array last.array
epoch_down slot m last refusal old new e rules rebuilt =
    by_slots m last e.rules e.geometry (λ j below down. by e.began j below down)
  where
    other : (j : ℕ) → j < m.array.geometry.n → mark_in m.array j ≡ mark.Down → j ≢ slot
    other j below down same =
        let goes : why_of m j ≡ why.Rebuilding = ap (why_of m) same ∙ rebuilt.why in
        let marked : mark_in m.array j ≡ mark.Rebuilding = subst (λ (w : Why). IsMarkedFor w (mark_in m.array j)) goes (rules.marked j below) in
        let never : mark.Down ≡ mark.Rebuilding = sym down ∙ marked in
        cc

    by : HasBegun (Promote slot) e.gone m last → (j : ℕ) → j < m.array.geometry.n → mark_in m.array j ≡ mark.Down
        → mark_in last.array j ≡ mark.Down
    by (NotYet same whys) j below down = ap (λ (c : Configuration). mark_in c j) same ∙ down
    by (Did above named whys) j below down =
        elim (named.marks j below) [
          | inl as_aimed ↦
              let kept : aimed (Promote slot) j (why_of m j) ≡ why_of m j = cond-false _ _ _ (ne_eqb j slot (other j below down)) in
              as_aimed ∙ ap mark_for kept ∙ away_down (why_of m j) (mark_in m.array j) (rules.marked j below) down
          | inr dropped ↦ dropped.1
        ]

pub promotes_down : (j : ℕ) (answer : Result Progress Refusal) (x z : Snapshot) → Promotes j answer x z → IsMembership x.member
    → IsRebuiltIn x.member j → StayDown x.member.array z.member.array
promotes_down j _ _ _ (Unsynced refusal x y z syncs drops) rules rebuilt =
    let here = rebuilt_here x.member j rebuilt in
    part_down 0 x z (falls_part j refusal x z (sync_falls j refusal x y z syncs drops) rules here)
promotes_down j _ _ _ (Joined given x y z syncs joins) rules rebuilt =
    subst (λ (m : Membership). StayDown m.array z.member.array) syncs.member
    (epoch_down j y.member z.member (refusal_in given) y.told z.told joins.establishes
    (subst IsMembership (sym syncs.member) rules) (subst (λ (m : Membership). IsRebuiltIn m j) (sym syncs.member) rebuilt))

-- THE NEWS OF TWO CALLS

down_or : (m : Mark) → (m ≡ mark.Down) ⊎ (m ≢ mark.Down)
down_or mark.Down = inl refl
down_or mark.Live = inr (λ is. absurd (cc))
down_or mark.Rebuilding = inr (λ is. absurd (cc))

pub fallen_join : (a b c : Configuration) (was amid is : News) → StayDown a b → StayDown b c → HasFallen a b was.fenced amid.fenced
    → HasFallen b c amid.fenced is.fenced → HasFallen a c was.fenced is.fenced
fallen_join a b c was amid is first second early late j = (
  λ has.
      elim ((late j).0 has) [
        | inl had ↦
            elim ((early j).0 had) [
              | inl old ↦ inl old
              | inr fell ↦ inr (fell.0, (second j fell.1.0, fell.1.1))
            ]
        | inr fell ↦ inr (fell.0, (fell.1.0, λ down. fell.1.1 (first j down)))
      ],
  λ either.
      elim either [
        | inl old ↦ (late j).1 (inl ((early j).1 (inl old)))
        | inr fell ↦
            elim (down_or (mark_in b j)) [
              | inl down ↦ (late j).1 (inl ((early j).1 (inr (fell.0, (down, fell.1.1)))))
              | inr up ↦ (late j).1 (inr (fell.0, (fell.1.0, up)))
            ]
      ],
)
