-- What a session has when it establishes an epoch.
use Rattle.std.proofs.Common.{◌≡◌, ◌≢◌, ℕ, ◌-◌, ◌<◌, ◌≤◌, List, ◌⊎◌, inl, inr, sym, ap, ◌∙◌, subst, arith, Option, None, Some}
use Rattle.std.proofs.lemmas.Bool.{cases_lt}
use Rattle.stair_model.specs.Geometry.{Geometry}
use Rattle.stair_rack.specs.Answers.{IsHistory}
use Rattle.stair_rack.specs.Crash.{EachImage, image_now}
use Rattle.stair_rack.specs.History.{Happening}
use Rattle.stair_rack.specs.Offline.{IsAttached}
use Rattle.stair_rack.specs.Sector.{Cell, content}
use Rattle.stair_rack.proofs.CrashLemmas.{CrashMayLeave-now}
use Rattle.stair_rack.proofs.TidyLemmas.{history_tidy}
use Rattle.stair_super.specs.Superblock.{Superblock, mark_in}
use Rattle.stair_super.specs.declared.mark.Mark.TheVariants.{Down, Live, Rebuilding}
use Rattle.stair_member.specs.Aims.{admitted, mark_for}
use Rattle.stair_member.specs.Counting.{AllBut}
use Rattle.stair_member.specs.Current.{ByOutside, IsLost}
use Rattle.stair_member.specs.Membership.{IsHere, IsMembership, Membership, place_of, why_of}
use Rattle.stair_member.specs.Superblocks.{HoldsSuper, IsSuperOf}
use Rattle.stair_member.specs.declared.aim.EpochChange.{EpochChange}
use Rattle.stair_member.specs.declared.aim.EpochChange.TheVariants.{Promote}
use Rattle.stair_member.proofs.CountingLemmas.{all_but_mapped}
use Rattle.stair_member.proofs.EditionLemmas.{holds_copy}
use Rattle.stair_member.proofs.NewestLemmas.{places_whole, super_no_older}
use Rattle.stair_member.proofs.SuperLemmas.{super_at}
use Rattle.stair_state.specs.Holding.{CurrentMediumReserved, IsBorneSince, IsConsistentBy, IsConsistentSince, OfAdmitted}
use Rattle.stair_state.specs.State.{State}
use Rattle.stair_state.specs.Tolerance.{IsTolerated, IsToleratedAlone}
use Rattle.stair_state.proofs.HoldingLemmas.{current_since}
use Rattle.stair_state.proofs.OutsideLemmas.{tolerated_alone}
use Rattle.stair_invariant.specs.Returning.{HasOwnNewest, IsKnownWherever, current_media_of}
use Rattle.stair_invariant.specs.Session.{ArrayState, IsArray, own_super}
use Rattle.stair_invariant.proofs.ChangingLemmas.{live_here}
use Rattle.stair_invariant.proofs.OwnLaws.{own_drawn, own_formed}
use Rattle.stair_reinsert.specs.Beginning.{AreMeant, BeginsWherever, SaysContent}
use Rattle.stair_reinsert.specs.Behind.{IsKnownBehind}
use Rattle.stair_reinsert.specs.Given.{KnowsSuper}
use Rattle.stair_reinsert.proofs.KeptSince.{up_below}
use Rattle.stair_reinsert.proofs.StoodSince.{held_here, current_media_here}
use Rattle.stair_reinsert.proofs.SessionBehind.{left_reassembled}

-- THE SUPERBLOCK OF A SLOT

pub own_known : (m : Membership) (h : List Happening) (j : ℕ) → IsHistory h → IsMembership m → IsHere m j → IsAttached h j
    → HasOwnNewest m h j → KnowsSuper m h j
own_known m h j history rules here on is = record {
  there = (history_tidy history).attached j on;
  steady = is.own.settled_both;
  drawn = λ k s small holds. own_drawn m h j k s rules here is.own small holds;
  place = place_in;
  aside = λ s super first second. by s super (places_whole cell first second) (super_at super);
}
  where
    cell : ℕ → Cell
    cell = (image_now h j).cell

    place_in : place_of m j < 2
    place_in =
        let few : m.array.geometry.n ≤ 32 = rules.array.limits.devices.1 in
        let below : j < m.array.geometry.n = here.below in
        rules.places j (omega (arith, below, few))

    -- its own lies aside
    aside : ((k : ℕ) → k < 2 → ¬ IsLost ((image_now h j).cell k)) → HoldsSuper ((image_now h j).cell (1 - place_of m j)) (own_super m is.own.draw j)
    aside whole =
        elim is.own.own [
          | inl harmed ↦ absurd (whole (1 - place_of m j) (omega arith) (ByOutside (ap content harmed)))
          | inr stands ↦
              holds_copy ((image_now h j).cell (1 - place_of m j)) (record { array = m.array; draw = is.own.draw }) j
              (own_formed m is.own.draw j rules here is.own.reached is.own.seen) (ap content stands)
        ]

    lies_aside : (s : Superblock) → IsSuperOf ((image_now h j).cell) s → ((k : ℕ) → k < 2 → ¬ IsLost ((image_now h j).cell k))
        → (k : ℕ) → k < 2 → HoldsSuper ((image_now h j).cell k) s → HoldsSuper ((image_now h j).cell (1 - place_of m j)) s
    lies_aside s super whole k small holds =
        elim (cases_lt k (place_of m j)) [
          | inl less ↦ at_aside (omega (arith, less, place_in))
          | inr least ↦
              elim (cases_lt (place_of m j) k) [
                | inl more ↦ at_aside (omega (arith, more, small))
                | inr most ↦ at_next (omega (arith, least, most))
              ]
        ]
      where
        at_aside : k ≡ 1 - place_of m j → HoldsSuper ((image_now h j).cell (1 - place_of m j)) s
        at_aside same = subst (λ (l : ℕ). HoldsSuper ((image_now h j).cell l) s) same holds

        at_next : k ≡ place_of m j → HoldsSuper ((image_now h j).cell (1 - place_of m j)) s
        at_next same =
            elim (is.newest s (subst (λ (l : ℕ). HoldsSuper ((image_now h j).cell l) s) same holds)) [
              | inl one ↦ subst (λ (t : Superblock). HoldsSuper ((image_now h j).cell (1 - place_of m j)) t) (sym one) (aside whole)
              | inr older ↦
                  let no_older = super_no_older ((image_now h j).cell) s (own_super m is.own.draw j) (1 - place_of m j) (omega arith) super (aside whole) in
                  let draws : is.own.draw ≤ s.draw = no_older.draws in
                  elim older [
                    | inl less ↦ absurd (omega (arith, less, draws))
                    | inr tie ↦
                        let epochs : m.array.epoch ≤ s.array.epoch = no_older.epochs tie.0 in
                        let less : s.array.epoch < m.array.epoch = tie.1 in
                        absurd (omega (arith, epochs, less))
                  ]
            ]

    by : (s : Superblock) → IsSuperOf ((image_now h j).cell) s → ((k : ℕ) → k < 2 → ¬ IsLost ((image_now h j).cell k))
        → HoldsSuper ((image_now h j).cell 0) s ⊎ HoldsSuper ((image_now h j).cell 1) s → HoldsSuper ((image_now h j).cell (1 - place_of m j)) s
    by s super whole (inl holds) = lies_aside s super whole 0 (omega arith) holds
    by s super whole (inr holds) = lies_aside s super whole 1 (omega arith) holds

-- THE IMAGE NOW

-- A SESSION

module _ (s : State) (aim : EpochChange) (before : List Happening) (a : ArrayState) (h : List Happening) (history : IsHistory h) (array : IsArray a)
    (geometry : a.member.array.geometry ≡ s.geometry)
    (none_joins : admitted aim ≡ None) (none_promoted : (j : ℕ) → aim ≢ Promote j)
    (known : EachImage (IsKnownWherever None a.member (IsAttached h)) h)
    (is : IsConsistentSince s (current_media_of a.member) a.member.array.epoch h) (tolerated : IsTolerated s.geometry before h) where
  alone : IsToleratedAlone s.geometry (image_now h)
  alone = tolerated_alone s.geometry before h (image_now h) tolerated (CrashMayLeave-now h)

  it : IsConsistentBy s is.encodings (current_media_of a.member) a.member.array.epoch (image_now h)
  it = is.each (image_now h) (CrashMayLeave-now h)

  -- a medium bears the member's epoch, or a later one: so that is drawn
  bears_epoch : IsBorneSince s.geometry a.member.array.epoch (image_now h) alone.current
  bears_epoch =
      current_since s is.encodings (current_media_of a.member) a.member.array.epoch (image_now h) it (image_now h) (left_reassembled h history (image_now h) (CrashMayLeave-now h)) alone alone.current
      alone.is_current

  drawn_now : AllBut s.geometry.n s.geometry.m (λ j. CurrentMediumReserved s.geometry (current_media_of a.member) (image_now h) j
      × ((joined : ℕ) → current_media_of a.member j ≡ Some joined
      → OfAdmitted s.geometry (image_now h) joined (λ x. a.member.array.epoch ≤ x.draw) j))
  drawn_now =
      all_but_mapped {P = CurrentMediumReserved s.geometry (current_media_of a.member) (image_now h)}
      {Q = λ j. CurrentMediumReserved s.geometry (current_media_of a.member) (image_now h) j
      × ((joined : ℕ) → current_media_of a.member j ≡ Some joined
      → OfAdmitted s.geometry (image_now h) joined (λ x. a.member.array.epoch ≤ x.draw) j)}
      (λ j below reserved. (
        reserved,
        λ joined current_medium p medium x at super slot same number first second.
            let most : alone.current.array.epoch ≤ x.draw =
            reserved joined current_medium p medium x at super slot same number first second bears_epoch.slot bears_epoch.place alone.current bears_epoch.borne in
            let least : a.member.array.epoch ≤ alone.current.array.epoch = bears_epoch.since_then in
            omega (arith, most, least),
      )) it.reserved

  not_joining : {j : ℕ} → admitted aim ≡ Some j → ⊥
  not_joining joins = let never : None ≡ Some _ = sym none_joins ∙ joins in cc

  meant : AreMeant (current_media_of a.member) aim a.member
  meant = record {
    taken = λ j n taken current_medium. elim taken [ inl here ↦ (here, (held_here a.member j n current_medium).number) | inr joins ↦ absurd (not_joining joins.0) ];
    live = λ j marked.
        let below = up_below a.member.array j (record { rules = array.member.array; marks = array.member.sizes.marks })
        (λ down. let never : Live ≡ Down = sym marked ∙ down in cc) in
        current_media_here a.member j below (live_here (why_of a.member j) (sym (array.marks j below) ∙ marked));
    rebuilt = λ j n marked current_medium.
        let held = held_here a.member j n current_medium in
        let live : mark_in a.member.array j ≡ Live = array.marks j held.below ∙ ap mark_for held.here in
        let never : Rebuilding ≡ Live = sym marked ∙ live in
        absurd (cc);
    promoted = λ j promoted. absurd (none_promoted j promoted);
  }

  pub session_begins : (newest : (j : ℕ) → IsHere a.member j → IsAttached h j → HasOwnNewest a.member h j)
      → IsKnownBehind s is.encodings (current_media_of a.member) a.member.array.epoch aim a.member h → SaysContent s aim a.member
      → BeginsWherever s (current_media_of a.member) a.member.array.epoch aim a.member h
  session_begins newest behind says = record {
    history = history;
    member = array.member;
    geometry = geometry;
    is = is;
    recent = omega arith;
    known = λ image left. subst (λ (o : Option ℕ). IsKnownWherever o a.member (IsAttached h) image) (sym none_joins) (known image left);
    supers = λ j taken on.
        elim taken [
          | inl here ↦ own_known a.member h j history array.member here on (newest j here on)
          | inr joins ↦ absurd (not_joining joins.0)
        ];
    behind = behind;
    drawn =
        subst
        (λ (y : Geometry). AllBut y.n y.m (λ j. CurrentMediumReserved y (current_media_of a.member) (image_now h) j
        × ((joined : ℕ) → current_media_of a.member j ≡ Some joined
        → OfAdmitted y (image_now h) joined (λ x. a.member.array.epoch ≤ x.draw) j))) (sym geometry) drawn_now;
    meant = meant;
    says = says;
  }
