-- Images that are alike: each slot has the same superblocks, and the same cells after its places. What the one represents, the other
-- represents.
use Rattle.std.proofs.Common.{◌≡◌, ℕ, ◌<◌, ◌≤◌, inl, inr, sym, ◌∙◌, subst, arith}
use Rattle.std.specs.Prelude.{◌↔◌, None}
use Rattle.stair_model.specs.Device.{cell_sector, gate_sector}
use Rattle.stair_model.specs.Geometry.{Geometry}
use Rattle.stair_rack.specs.Media.{Image}
use Rattle.stair_super.specs.Superblock.{Superblock}
use Rattle.stair_super.specs.declared.mark.Mark.{Mark}
use Rattle.stair_super.specs.declared.mark.Mark.TheVariants.{Live, Rebuilding}
use Rattle.stair_member.specs.Current.{HasMark, IsCurrent, IsFailed, IsLive, IsLost, LostPlace, NotLive, Offline, Serves}
use Rattle.stair_member.specs.Reserve.{MayStand}
use Rattle.stair_member.specs.Superblocks.{Counts, CountsFor, IsSuperOf}
use Rattle.stair_member.proofs.CountingLemmas.{more_mapped}
use Rattle.stair_member.proofs.StandingLemmas.{serves_not_failed}
use Rattle.stair_member.proofs.SuperLemmas.{one_current}
use Rattle.stair_state.specs.Forms.{HasGate}
use Rattle.stair_state.specs.Represents.{Encodings, ImageRepresents, IsLargeEnough}
use Rattle.stair_state.specs.State.{State}
use Rattle.stair_state.specs.Tolerance.{IsToleratedAlone}
use Rattle.stair_state.proofs.ExchangedLemmas.{serves_or_failed}
use Rattle.stair_state.proofs.FormLemmas.{represents_still}
use Rattle.stair_state.proofs.StillLemmas.{known_none}
use Rattle.stair_state.proofs.ToleranceLemmas.{journal_gate}

-- what of these two images is the same
pub record AreLike (x y : Image) : Type 0 where
  pub size : (j : ℕ) → (y j).size ≡ (x j).size
  pub supers : (j : ℕ) (s : Superblock) → IsSuperOf ((x j).cell) s ↔ IsSuperOf ((y j).cell) s
  pub behind : (j k : ℕ) → gate_sector ≤ k → (y j).cell k ≡ (x j).cell k

pub like_back : (x y : Image) → AreLike x y → AreLike y x
like_back x y like = record {
  size = λ j. sym (like.size j);
  supers = λ j s. ((like.supers j s).1, (like.supers j s).0);
  behind = λ j k from. sym (like.behind j k from);
}

module _ (x y : Image) (like : AreLike x y) (g : Geometry) where
  pub counts_like : (j : ℕ) (s : Superblock) → Counts g x j s → Counts g y j s
  counts_like j s counts = record { super = (like.supers j s).0 counts.super; slot = counts.slot; identity = counts.identity }

  pub mark_like : (current : Superblock) (mark : Mark) (j : ℕ) → HasMark g x current mark j → HasMark g y current mark j
  mark_like current mark j is =
      record { below = is.below; marked = is.marked; super = is.super; counts = counts_like j is.super is.counts; joined = is.joined }

pub current_like : (x y : Image) (like : AreLike x y) (g : Geometry) (current : Superblock) → IsCurrent g x current → IsCurrent g y current
current_like x y like g current is = record {
  counts = counts_like x y like g current.slot current is.counts;
  newest = λ j s counts. is.newest j s (counts_like y x (like_back x y like) g j s counts);
}

-- WHAT IT REPRESENTS

-- an image with the same slots, of which those that serve have their places
module _ (g : Geometry) (x y : Image) (like : AreLike x y) (alone : IsToleratedAlone g x)
    (whole : (j k : ℕ) → Serves (λ i. (x i).size ≡ None) g x alone.current j → k < 2 → ¬ IsLost ((y j).cell k))
    (others : (other : Geometry) → MayStand other y → other ≡ g) where
  still_serves : (j : ℕ) → Serves (λ i. (x i).size ≡ None) g x alone.current j → Serves (λ i. (y i).size ≡ None) g y alone.current j
  still_serves j serves = record {
    live = mark_like x y like g alone.current Live j serves.live;
    places = λ k lt. whole j k serves lt;
    online = λ out. serves.online (sym (like.size j) ∙ out);
  }

  still_failed : (j : ℕ) → IsFailed (λ i. (y i).size ≡ None) g y alone.current j → IsFailed (λ i. (x i).size ≡ None) g x alone.current j
  still_failed j failed =
      elim (serves_or_failed (λ i. (x i).size ≡ None) g x alone.current j (below failed) (known_none (x j).size)) [
        | inr is ↦ is
        | inl serves ↦ absurd (serves_not_failed g y alone.current j (still_serves j serves) failed)
      ]
    where
      below : IsFailed (λ i. (y i).size ≡ None) g y alone.current j → j < g.n
      below (NotLive lt not) = lt
      below (LostPlace k lt small lost) = lt
      below (Offline lt out) = lt

  pub tolerated_like : IsToleratedAlone g y
  tolerated_like = record {
    identity = record {
      stands =
          more_mapped {P = CountsFor g x} {Q = CountsFor g y}
          (λ j for. record { super = for.super; counts = counts_like x y like g j for.super for.counts }) alone.identity.stands;
      alone = λ other stands.
          alone.identity.alone other
          (more_mapped {P = CountsFor other y} {Q = CountsFor other x}
          (λ j for. record { super = for.super; counts = counts_like y x (like_back x y like) other j for.super for.counts }) stands);
    };
    others = others;
    current = alone.current;
    is_current = current_like x y like g alone.current alone.is_current;
    few = record {
      slots = alone.few.slots;
      formed = alone.few.formed;
      few = alone.few.few;
      within = λ j failed. alone.few.within j (still_failed j failed);
    };
    stripes = λ t lt.
        let stripe = alone.stripes t lt in
        record {
          erased = stripe.erased;
          covered = stripe.covered;
          has = λ i j i_in j_in which.
              stripe.has i j i_in j_in
              (elim which [
                | inl failed ↦ inl (still_failed j failed)
                | inr harmed ↦ inr (sym (like.behind j (cell_sector g t i) (omega arith)) ∙ harmed)
              ]);
        };
    journal_slot = alone.journal_slot;
    journal = record {
      serves = still_serves alone.journal_slot alone.journal.serves;
      whole = λ k from upto lost. alone.journal.whole k from upto (subst IsLost (like.behind alone.journal_slot k from) lost);
    };
  }

-- and what the one represents the other represents
pub represents_like : (s : State) (encodings : Encodings s) (x y : Image) → AreLike x y → IsToleratedAlone s.geometry x
    → ImageRepresents s encodings y
    → ImageRepresents s encodings x
represents_like s encodings x y like alone is = record {
  identity = alone.identity;
  current = is.current;
  is_current = current_like y x back s.geometry is.current is.is_current;
  full = λ j live. subst (IsLargeEnough s.geometry) (like.size j) (is.full j (mark_like x y like s.geometry is.current Live j live));
  form =
      represents_still s.geometry (IsLive s.geometry y is.current) (IsLive s.geometry x is.current) y x
      (λ j live. mark_like x y like s.geometry is.current Live j live)
      (record { each = λ j k on from. inl (sym (like.behind j k from)) }) encodings.old encodings.new gate is.form;
  rebuilding = λ j redo rebuilt opened.
      is.rebuilding j redo (mark_like x y like s.geometry is.current Rebuilding j rebuilt)
      (record { good = like.behind j gate_sector (omega arith) ∙ opened.good; formed = opened.formed });
  frozen = is.frozen;
  label = is.label;
}
  where
    back : AreLike y x
    back = like_back x y like

    same : alone.current ≡ is.current
    same = one_current s.geometry x alone.current is.current alone.is_current (current_like y x back s.geometry is.current is.is_current)

    gate : HasGate (IsLive s.geometry x is.current) x
    gate = record {
      slot = alone.journal_slot;
      among = subst (λ (c : Superblock). IsLive s.geometry x c alone.journal_slot) same alone.journal.serves.live;
      kept = journal_gate (λ j. (x j).size ≡ None) s.geometry x alone.current alone.journal_slot alone.journal;
    }
