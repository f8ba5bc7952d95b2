-- While an epoch is established a loss of media only takes slots away.
use Rattle.std.proofs.Common.{◌≡◌, ◌≢◌, ℕ, ◌<◌, ◌≤◌, ◌⊎◌, inl, inr, refl, sym, ap, ◌∙◌, subst, arith, Some}
use Rattle.std.proofs.lemmas.Bool.{cases_eq, cond-true, cond-false, eq-eqb, ne_eqb}
use Rattle.stair_model.specs.Geometry.{Geometry}
use Rattle.stair_rack.specs.Media.{Image}
use Rattle.stair_super.specs.Superblock.{Superblock, joined_at, joined_in, mark_at, mark_in}
use Rattle.stair_super.specs.declared.configuration.Configuration.{Configuration}
use Rattle.stair_super.specs.declared.mark.Mark.TheVariants.{Live, Down}
use Rattle.stair_member.specs.Aims.{IsAimed, admitted, aimed, mark_for}
use Rattle.stair_member.specs.Counting.{AtMost}
use Rattle.stair_member.specs.Current.{IsCurrent, IsFailed, IsLive, IsLost, Serves}
use Rattle.stair_member.specs.Membership.{Membership, why_of}
use Rattle.stair_member.specs.Reserve.{Bears, HasReached, IsOrderly}
use Rattle.stair_member.specs.declared.aim.EpochChange.{EpochChange}
use Rattle.stair_member.specs.declared.aim.EpochChange.TheVariants as aims
use Rattle.stair_member.specs.declared.why.Why.{Why}
use Rattle.stair_member.specs.declared.why.Why.TheVariants.{Here, Rebuilding}
use Rattle.stair_member.proofs.CountingLemmas.{all_but_mapped, common}
use Rattle.stair_member.proofs.StandingLemmas.{others}
use Rattle.stair_member.proofs.SuperLemmas.{counts_bears, counts_limits}
use Rattle.stair_state.specs.Degraded.{IsDegraded}
use Rattle.stair_state.proofs.AgreeLemmas.{HasNewest, borne_upto, current_upto, has_newest, own_joined, own_mark}
use Rattle.stair_state.proofs.DegradedLemmas.{bears_before, counts_before, degraded_copies, orderly_before}
use Rattle.stair_state.proofs.FormLemmas.{same_kept}
use Rattle.stair_invariant.specs.Changing.{Coming, Earlier, IsChanging, IsSettled, Present}

-- MARKS

pub live_here : (w : Why) → mark_for w ≡ Live → w ≡ Here
live_here Here marked = refl
live_here w marked = absurd (cc)

-- a slot that is here stays so, if it isn't the one that is admitted
stays_here : (aim : EpochChange) (j : ℕ) → admitted aim ≢ Some j → aimed aim j Here ≡ Here
stays_here aims.Fence j other = refl
stays_here (aims.Stamp frozen label) j other = refl
stays_here (aims.Admit slot) j other =
    elim (cases_eq j slot) [
      | inl same ↦ absurd (other (ap (λ (k : ℕ). Some k) (sym same)))
      | inr not ↦ cond-false _ _ _ (ne_eqb j slot not)
    ]
stays_here (aims.Promote slot) j other =
    elim (cases_eq j slot) [
      | inl same ↦ cond-true _ _ _ (eq-eqb j slot same)
      | inr not ↦ cond-false _ _ _ (ne_eqb j slot not)
    ]

-- who is aimed to be here isn't the one that is admitted
aimed_here : (aim : EpochChange) (j : ℕ) (w : Why) → aimed aim j w ≡ Here → admitted aim ≢ Some j
aimed_here aims.Fence j w is same = cc
aimed_here (aims.Stamp frozen label) j w is same = cc
aimed_here (aims.Promote slot) j w is same = cc
aimed_here (aims.Admit slot) j w is same =
    let at : slot ≡ j = cc in
    let other : aimed (aims.Admit slot) j w ≡ Rebuilding = cond-true _ _ _ (eq-eqb j slot (sym at)) in
    let never : Here ≡ Rebuilding = sym is ∙ other in
    cc

-- LESS

-- A slot that is live in less of an image was so, where the current superblock marked it Live with the same joined number.
pub live_back : (g : Geometry) (more less : Image) (before after : Superblock) (j : ℕ) → IsDegraded more less → IsOrderly g more
    → IsCurrent g more before → IsLive g less after j → mark_at before j ≡ Live → joined_at after j ≡ joined_at before j → IsLive g more before j
live_back g more less before after j degraded orderly is_before live marked same =
    record { below = live.below; marked = marked; super = newest.super; counts = newest.counts; joined = joined }
  where
    borne : Bears g j ((more j).cell) live.super
    borne = bears_before (degraded_copies (degraded j)) (counts_bears g less j live.super live.counts)

    newest : HasNewest g more j live.super
    newest = has_newest g more j live.super orderly borne

    borne_newest : Bears g j ((more j).cell) newest.super
    borne_newest = counts_bears g more j newest.super newest.counts

    -- joined numbers never fall, so that of the medium is the slot's
    joined : newest.super.joined ≡ joined_at before j
    joined =
        let first : joined_at live.super j ≤ joined_at newest.super j =
        orderly.joined j j j live.super newest.super borne borne_newest newest.upto (own_mark g less j live.super live.counts)
        (own_mark g more j newest.super newest.counts) in
        let second : joined_at newest.super j ≤ joined_at before j =
        orderly.joined j before.slot j newest.super before borne_newest (counts_bears g more before.slot before is_before.counts)
        (current_upto g more before j newest.super is_before newest.counts) (own_mark g more j newest.super newest.counts)
        (λ down. let never : Live ≡ Down = sym marked ∙ down in cc) in
        let own : live.super.joined ≡ joined_at live.super j = own_joined g less j live.super live.counts in
        let of_after : live.super.joined ≡ joined_at after j = live.joined in
        let mine : newest.super.joined ≡ joined_at newest.super j = own_joined g more j newest.super newest.counts in
        omega arith

module _ (aim : EpochChange) (left_out : ℕ → Type 0) (m : Membership) where
  pub changing_less : (more less : Image) → IsDegraded more less → IsChanging aim left_out m more → IsChanging aim left_out m less
  changing_less more less degraded is = record {
    orderly = orderly_before m.array.geometry more less degraded is.orderly;
    names = λ j s bears. is.names j s (bears_before (degraded_copies (degraded j)) bears);
    reached =
        all_but_mapped {P = HasReached m.array.geometry more m.array.epoch} {Q = HasReached m.array.geometry less m.array.epoch}
        (λ j below before s counts first second.
        before s (counts_before {more = more} {less = less} (degraded_copies (degraded j)) first second counts) (kept j 0 first) (kept j 1 second))
        is.reached;
    bare = λ j out up for. is.bare j out up (record { super = for.super; bears = bears_before (degraded_copies (degraded j)) for.bears });
  }
    where
      kept : (j k : ℕ) → ¬ IsLost ((less j).cell k) → ¬ IsLost ((more j).cell k)
      kept j k whole lost = whole (subst IsLost (sym (same_kept (degraded_copies (degraded j) k) whole)) lost)

  -- THE CURRENT SUPERBLOCK

  -- no epoch before the member's is current
  pub none_earlier : {offline : ℕ → Type 0} (image : Image) (current : Superblock) → IsChanging aim left_out m image
      → IsCurrent m.array.geometry image current → AtMost m.array.geometry.m (IsFailed offline m.array.geometry image current)
      → m.array.epoch ≤ current.array.epoch
  none_earlier {offline} image current is is_current few =
      let limits = counts_limits m.array.geometry image current.slot current is_current.counts in
      let found =
      common {n = m.array.geometry.n} {m = m.array.geometry.m} {P = Serves offline m.array.geometry image current}
      {Q = HasReached m.array.geometry image m.array.epoch} limits.devices.1 limits.majority (others m.array.geometry image current few) is.reached in
      let serves : Serves offline m.array.geometry image current found.0 = found.2 in
      let s : Superblock = serves.live.super in
      let first : m.array.epoch ≤ s.array.epoch = found.3 s serves.live.counts (serves.places 0 (omega arith)) (serves.places 1 (omega arith)) in
      let second : s.array.epoch ≤ current.array.epoch = current_upto m.array.geometry image current found.0 s is_current serves.live.counts in
      omega arith

  -- it is of the member's epoch, or of a new one
  pub data IsNow (array : Configuration) : Type 0 where
    AsBefore : array ≡ m.array → IsNow array
    New : m.array.epoch < array.epoch → IsAimed aim left_out m array → IsNow array

  pub current_now : {offline : ℕ → Type 0} (image : Image) (current : Superblock) → IsChanging aim left_out m image
      → IsCurrent m.array.geometry image current → AtMost m.array.geometry.m (IsFailed offline m.array.geometry image current)
      → IsNow current.array
  current_now {offline} image current is is_current few =
      let least : m.array.epoch ≤ current.array.epoch = none_earlier {offline = offline} image current is is_current few in
      elim (is.names current.slot current (counts_bears m.array.geometry image current.slot current is_current.counts)) [
        | Earlier less ↦ absurd (omega arith)
        | Present same ↦ AsBefore same
        | Coming above aimed ↦ New above aimed
      ]

  -- SLOTS THAT ARE LIVE

  module _ (settled : IsSettled aim m) where
    -- a slot that is marked live now was here, or is aimed to be
    pub live_aimed : (array : Configuration) (j : ℕ) → j < m.array.geometry.n → IsNow array → mark_in array j ≡ Live
        → aimed aim j (why_of m j) ≡ Here
    live_aimed array j below (AsBefore same) marked =
        let was : mark_in m.array j ≡ Live = ap (λ (c : Configuration). mark_in c j) (sym same) ∙ marked in
        let here : why_of m j ≡ Here = live_here (why_of m j) (sym (settled.marks j below) ∙ was) in
        ap (aimed aim j) here ∙ stays_here aim j (settled.joining j here)
    live_aimed array j below (New above is) marked =
        elim (is.marks j below) [
          | inl of ↦ live_here (aimed aim j (why_of m j)) (sym of ∙ marked)
          | inr down ↦ let never : Live ≡ Down = sym marked ∙ down.1 in absurd (cc)
        ]

    joined_now : (array : Configuration) (j : ℕ) → j < m.array.geometry.n → IsNow array → mark_in array j ≡ Live → admitted aim ≢ Some j
        → joined_in array j ≡ joined_in m.array j
    joined_now array j below (AsBefore same) marked other = ap (λ (c : Configuration). joined_in c j) same
    joined_now array j below (New above is) marked other =
        is.joined j below (λ down. let never : Live ≡ Down = sym marked ∙ down in cc) other

    -- what is live by the one stays so by a later one, unless it was left out
    later_live : (a b : Configuration) (j : ℕ) → j < m.array.geometry.n → IsNow a → IsNow b → b.epoch ≤ a.epoch → mark_in b j ≡ Live
        → (mark_in a j ≡ Live) ⊎ left_out j
    later_live a b j below (AsBefore same) (AsBefore same') le marked =
        inl (ap (λ (c : Configuration). mark_in c j) (same ∙ sym same') ∙ marked)
    later_live a b j below (AsBefore same) (New above is) le marked =
        let epoch : a.epoch ≡ m.array.epoch = ap (λ (c : Configuration). c.epoch) same in absurd (omega arith)
    later_live a b j below (New above is) now le marked =
        let here : aimed aim j (why_of m j) ≡ Here = live_aimed b j below now marked in
        elim (is.marks j below) [
          | inl of ↦ inl (of ∙ ap mark_for here)
          | inr out ↦ inr out.0
        ]

    -- A loss of media only takes slots away.
    module _ (more less : Image) (a b : Superblock) (is : IsChanging aim left_out m more) (degraded : IsDegraded more less)
        (is_a : IsCurrent m.array.geometry more a) (is_b : IsCurrent m.array.geometry less b) (now_a : IsNow a.array) (now_b : IsNow b.array)
        (j : ℕ) (live : IsLive m.array.geometry less b j) where
      below : j < m.array.geometry.n
      below = live.below

      borne : Bears m.array.geometry j ((more j).cell) live.super
      borne = bears_before (degraded_copies (degraded j)) (counts_bears m.array.geometry less j live.super live.counts)

      upto : b.array.epoch ≤ a.array.epoch
      upto =
          borne_upto m.array.geometry more a b.slot b is.orderly is_a
          (bears_before (degraded_copies (degraded b.slot)) (counts_bears m.array.geometry less b.slot b is_b.counts))

      marked : mark_at a j ≡ Live
      marked =
          elim (later_live a.array b.array j below now_a now_b upto live.marked) [
            | inl still ↦ still
            | inr out ↦ absurd (is.bare j out (live_aimed b.array j below now_b live.marked) (record { super = live.super; bears = borne }))
          ]

      other : admitted aim ≢ Some j
      other = aimed_here aim j (why_of m j) (live_aimed b.array j below now_b live.marked)

      same_joined : joined_at b j ≡ joined_at a j
      same_joined = joined_now b.array j below now_b live.marked other ∙ sym (joined_now a.array j below now_a marked other)

      pub live_more : IsLive m.array.geometry more a j
      live_more = live_back m.array.geometry more less a b j degraded is.orderly is_a live marked same_joined

    pub shrinks : {offline offline' : ℕ → Type 0} (more less : Image) (a b : Superblock) (j : ℕ) → IsChanging aim left_out m more
        → IsDegraded more less → IsCurrent m.array.geometry more a → IsCurrent m.array.geometry less b
        → AtMost m.array.geometry.m (IsFailed offline m.array.geometry more a)
        → AtMost m.array.geometry.m (IsFailed offline' m.array.geometry less b)
        → IsLive m.array.geometry less b j → IsLive m.array.geometry more a j
    shrinks {offline} {offline'} more less a b j is degraded is_a is_b few_a few_b live =
        live_more more less a b is degraded is_a is_b (current_now {offline = offline} more a is is_a few_a)
        (current_now {offline = offline'} less b (changing_less more less degraded is) is_b few_b) j live
