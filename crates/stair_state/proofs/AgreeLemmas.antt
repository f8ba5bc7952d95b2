-- What the superblocks of an image tell: by the cells of the superblock places alone, by what its media bear, and by reasons.
use Rattle.std.proofs.Common.{◌≡◌, ◌≢◌, ℕ, ◌<◌, ◌≤◌, inl, inr, refl, sym, ap, ◌∙◌, subst, arith}
use Rattle.std.proofs.lemmas.Bool.{cases_eq}
use Rattle.stair_model.specs.Geometry.{Geometry, IsWithinLimits}
use Rattle.stair_model.proofs.SetLaws.{slot_count_member}
use Rattle.stair_rack.specs.Media.{Image}
use Rattle.stair_rack.specs.Sector.{Cell}
use Rattle.stair_super.specs.Superblock.{Superblock, joined_at, joined_in, mark_at, mark_in}
use Rattle.stair_super.specs.declared.configuration.Configuration.{Configuration}
use Rattle.stair_super.specs.declared.mark.Mark.{Mark}
use Rattle.stair_super.specs.declared.mark.Mark.TheVariants as mark
use Rattle.stair_member.specs.Current.{HasMark, IsCurrent, IsLive, IsRebuilding}
use Rattle.stair_member.specs.Membership.{IsHere, Membership, why_of}
use Rattle.stair_member.specs.Reasons.{IsReason, rank}
use Rattle.stair_member.specs.Reserve.{Bears, IsOrderly}
use Rattle.stair_member.specs.Superblocks.{Counts, CountsFor, HoldsSuper, Identifies}
use Rattle.stair_member.specs.declared.why.Why.{Why}
use Rattle.stair_member.specs.declared.why.Why.TheVariants.{Here, Gone, NoSuper, OtherArray, OtherSlot, MarkedDown, OtherJoined, Rebuilding}
use Rattle.stair_member.proofs.CountingLemmas.{more_mapped}
use Rattle.stair_member.proofs.DecisionLemmas.{counts_decided, super_decided}
use Rattle.stair_member.proofs.SuperLemmas.{counts_limits, one_super, slot_below, super_cells, super_formed, super_held}
use Rattle.stair_member.proofs.ReasonLemmas.{live_unless}
use Rattle.stair_member.proofs.EditionLemmas.{bears_below}

-- AGREEING IMAGES

-- the superblock places of slots below the bound hold the same
abbrev pub AgreeBelow : ℕ → Image → Image → Type 0
AgreeBelow bound a b = (j k : ℕ) → j < bound → k < 2 → (a j).cell k ≡ (b j).cell k

pub agree_back : (bound : ℕ) (a b : Image) → AgreeBelow bound a b → AgreeBelow bound b a
agree_back bound a b agree j k j_in k_in = sym (agree j k j_in k_in)

-- so what concerns an array of these slots is the same
module _ (g : Geometry) (bound : ℕ) (small : g.n ≤ bound) where
  pub counts_agree : (a b : Image) (j : ℕ) (s : Superblock) → AgreeBelow bound a b → Counts g a j s → Counts g b j s
  counts_agree a b j s agree counts =
      let below : j < g.n = slot_below g a j s counts in
      record {
        super = super_cells ((a j).cell) ((b j).cell) s (agree j 0 (omega arith) (omega arith)) (agree j 1 (omega arith) (omega arith)) counts.super;
        slot = counts.slot;
        identity = counts.identity;
      }

  pub bears_agree : (a b : Image) (j : ℕ) (s : Superblock) → AgreeBelow bound a b → Bears g j ((a j).cell) s → Bears g j ((b j).cell) s
  bears_agree a b j s agree bears =
      let below : j < g.n = bears_below g j ((a j).cell) s bears in
      record {
        place = bears.place;
        place_in = bears.place_in;
        holds = subst (λ (cell : Cell). HoldsSuper cell s) (agree j bears.place (omega arith) bears.place_in) bears.holds;
        slot = bears.slot;
        identity = bears.identity;
      }

  pub current_agree : (a b : Image) (current : Superblock) → AgreeBelow bound a b → IsCurrent g a current → IsCurrent g b current
  current_agree a b current agree is = record {
    counts = counts_agree a b current.slot current agree is.counts;
    newest = λ j s counts. is.newest j s (counts_agree b a j s (agree_back bound a b agree) counts);
  }

  pub mark_agree : {mark : Mark} (a b : Image) (current : Superblock) (j : ℕ) → AgreeBelow bound a b → HasMark g a current mark j
      → HasMark g b current mark j
  mark_agree a b current j agree has = record {
    below = has.below;
    marked = has.marked;
    super = has.super;
    counts = counts_agree a b j has.super agree has.counts;
    joined = has.joined;
  }

  pub identifies_agree : (a b : Image) → AgreeBelow bound a b → Identifies g a → Identifies g b
  identifies_agree a b agree stands =
      more_mapped {P = CountsFor g a} {Q = CountsFor g b}
      (λ j for. record { super = for.super; counts = counts_agree a b j for.super agree for.counts }) stands

-- an array that stands is within the limits
pub identifies_limits : (g : Geometry) (image : Image) → Identifies g image → IsWithinLimits g
identifies_limits g image stands =
    let some = slot_count_member stands.slots (omega (arith, stands.many)) in
    let for : CountsFor g image some.0 = stands.each some.0 some.2 in
    counts_limits g image some.0 for.super for.counts

-- a slot whose superblock counts elsewhere too has its mark there, by a superblock that names the same
pub mark_moved : {mark : Mark} (g : Geometry) (a b : Image) (before after : Superblock) (j : ℕ) → before.array ≡ after.array
    → ((s : Superblock) → Counts g a j s → Counts g b j s) → HasMark g a before mark j → HasMark g b after mark j
mark_moved g a b before after j same moves has = record {
  below = has.below;
  marked = sym (ap (λ (array : Configuration). mark_in array j) same) ∙ has.marked;
  super = has.super;
  counts = moves has.super has.counts;
  joined = has.joined ∙ ap (λ (array : Configuration). joined_in array j) same;
}

-- THE ORDER OF SUPERBLOCKS

-- none that counts has a greater epoch than the current one
pub current_upto : (g : Geometry) (image : Image) (current : Superblock) (j : ℕ) (s : Superblock) → IsCurrent g image current
    → Counts g image j s → s.array.epoch ≤ current.array.epoch
current_upto g image current j s is counts =
    elim (is.newest j s counts) [
      | inl less ↦ omega arith
      | inr tie ↦ let same : s.array.epoch ≡ current.array.epoch = tie.0 in omega arith
    ]

-- the medium's superblock counts, and its epoch isn't earlier
pub record HasNewest (g : Geometry) (image : Image) (j : ℕ) (s : Superblock) : Type 0 where
  pub super : Superblock
  pub counts : Counts g image j super
  pub upto : s.array.epoch ≤ super.array.epoch

pub has_newest : (g : Geometry) (image : Image) (j : ℕ) (s : Superblock) → IsOrderly g image → Bears g j ((image j).cell) s
    → HasNewest g image j s
has_newest g image j s orderly bears =
    elim (super_decided ((image j).cell)) [
      | inl some ↦
          let by = orderly.hidden j s some.0 bears some.1 in record { super = some.0; counts = by.0; upto = by.1 }
      | inr none ↦ absurd (none (record { place = bears.place; place_in = bears.place_in; super = s; holds = bears.holds }))
    ]

-- so none that is borne has a greater epoch than the current one
pub borne_upto : (g : Geometry) (image : Image) (current : Superblock) (j : ℕ) (s : Superblock) → IsOrderly g image → IsCurrent g image current
    → Bears g j ((image j).cell) s → s.array.epoch ≤ current.array.epoch
borne_upto g image current j s orderly is bears =
    let newest = has_newest g image j s orderly bears in
    let first : s.array.epoch ≤ newest.super.array.epoch = newest.upto in
    let second : newest.super.array.epoch ≤ current.array.epoch = current_upto g image current j newest.super is newest.counts in
    omega arith

-- what a superblock that counts says of its own slot
pub own_joined : (g : Geometry) (image : Image) (j : ℕ) (s : Superblock) → Counts g image j s → s.joined ≡ joined_at s j
own_joined g image j s counts =
    (super_formed ((image j).cell) s counts.super).rules.own ∙ ap (λ (i : ℕ). joined_at s i) counts.slot

pub own_mark : (g : Geometry) (image : Image) (j : ℕ) (s : Superblock) → Counts g image j s → mark_at s j ≢ mark.Down
own_mark g image j s counts =
    subst (λ (i : ℕ). mark_at s i ≢ mark.Down) counts.slot (super_formed ((image j).cell) s counts.super).rules.here

-- REASONS

-- the reason of a slot that takes part comes after all that speak of its medium
pub here_late : (m : Membership) (j : ℕ) → IsHere m j → rank OtherJoined < rank (why_of m j)
here_late m j here =
    elim here.why [
      | inl is ↦ subst (λ (why : Why). rank OtherJoined < rank why) (sym is) (omega arith)
      | inr is ↦ subst (λ (why : Why). rank OtherJoined < rank why) (sym is) (omega arith)
    ]

module _ (gone : ℕ → Type 0) (g : Geometry) (image : Image) (current : Superblock) (j : ℕ) where
  -- a slot counts where none of the reasons is one for which it doesn't
  here_counts : (why : Why) → rank OtherSlot < rank why → IsReason gone g image current j why → CountsFor g image j
  here_counts why late reason =
      elim (counts_decided g image j) [ inl counts ↦ counts | inr none ↦ absurd (none_counts none) ]
    where
      none_counts : ¬ CountsFor g image j → ⊥
      none_counts none =
          elim (super_decided ((image j).cell)) [
            | inl some ↦
                elim (cases_eq some.0.slot j) [
                  | inl slot ↦
                      reason.first OtherArray (omega (arith, late)) (
                        some.0,
                        some.1,
                        λ same. none (record { super = some.0; counts = record { super = some.1; slot = slot; identity = same } }),
                      )
                  | inr other ↦ reason.first OtherSlot late (some.0, some.1, other)
                ]
            | inr not ↦ reason.first NoSuper (omega (arith, late)) not
          ]

  -- and its medium is the one that the current superblock means
  pub here_marked : (why : Why) → j < g.n → rank OtherJoined < rank why → IsReason gone g image current j why
      → HasMark g image current (mark_at current j) j
  here_marked why below late reason = record {
    below = below;
    marked = refl;
    super = here.super;
    counts = here.counts;
    joined =
        elim (cases_eq here.super.joined (joined_at current j)) [
          | inl same ↦ same
          | inr other ↦ absurd (reason.first OtherJoined late (here.super, here.counts.super, other))
        ];
  }
    where
      here : CountsFor g image j
      here = here_counts why (omega (arith, late)) reason

  -- so a slot that is here is live
  pub here_live : j < g.n → IsReason gone g image current j Here → IsLive g image current j
  here_live below reason =
      subst (λ (m : Mark). HasMark g image current m j)
      (live_unless (mark_at current j) (reason.first MarkedDown (omega arith)) (reason.first Rebuilding (omega arith)))
      (here_marked Here below (omega arith) reason)

  -- and one that is rebuilt is so in the image
  pub here_rebuilding : j < g.n → IsReason gone g image current j Rebuilding → IsRebuilding g image current j
  here_rebuilding below reason =
      subst (λ (m : Mark). HasMark g image current m j) reason.applies (here_marked Rebuilding below (omega arith) reason)

  -- and the other way round, unless it was gone
  pub live_here : (why : Why) → ¬ gone j → IsLive g image current j → IsReason gone g image current j why → why ≡ Here
  live_here Here not_gone live reason = refl
  live_here Gone not_gone live reason = absurd (not_gone reason.applies)
  live_here NoSuper not_gone live reason =
      absurd (reason.applies (super_held ((image j).cell) live.super live.counts.super))
  live_here OtherArray not_gone live reason =
      absurd
      (reason.applies.2
      (ap (λ (s : Superblock). s.array.geometry) (one_super ((image j).cell) reason.applies.0 live.super reason.applies.1 live.counts.super)
      ∙ live.counts.identity))
  live_here OtherSlot not_gone live reason =
      absurd
      (reason.applies.2
      (ap (λ (s : Superblock). s.slot) (one_super ((image j).cell) reason.applies.0 live.super reason.applies.1 live.counts.super)
      ∙ live.counts.slot))
  live_here MarkedDown not_gone live reason =
      let both : mark.Live ≡ mark.Down = sym live.marked ∙ reason.applies in absurd (cc)
  live_here OtherJoined not_gone live reason =
      absurd
      (reason.applies.2
      (ap (λ (s : Superblock). s.joined) (one_super ((image j).cell) reason.applies.0 live.super reason.applies.1 live.counts.super)
      ∙ live.joined))
  live_here Rebuilding not_gone live reason =
      let both : mark.Live ≡ mark.Rebuilding = sym live.marked ∙ reason.applies in absurd (cc)
