-- What a slot was given its medium has, wherever it lies.
use Rattle.std.proofs.Common.{◌≡◌, ℕ, List, ◌⊎◌, inl, inr, refl, sym, ◌∙◌, subst}
use Rattle.std.specs.Prelude.{IsSome, not}
use Rattle.stair_model.specs.Slots.{Slots}
use Rattle.stair_rack.specs.Answers.{IsBesideAttach, IsNoAttach, Ran}
use Rattle.stair_rack.specs.History.{Happening, SlotCall, slot_state, stopped}
use Rattle.stair_rack.specs.Sector.{Cell, Damaged, Good, MayLeave, settled}
use Rattle.stair_rack.proofs.CrashLemmas.{settled_left}
use Rattle.stair_rack.proofs.MomentLemmas.{at_moment, ran_after, ran_before, ran_weakened}
use Rattle.stair_rack.proofs.OfflineLemmas.{and-true_left}
use Rattle.stair_super.specs.Spelling.{spelled}
use Rattle.stair_super.specs.Superblock.{Superblock}
use Rattle.stair_member.specs.Editions.{Edition, copy_of}
use Rattle.stair_member.specs.Epochs.{ASync, AWrite, HasDraw, HasGot, IsIssuing, IsOnDisk, WasGiven}
use Rattle.stair_state.specs.Reassembly.{InSlot}
use Rattle.stair_reinsert.specs.Following.{SurvivesDamage, Wherever, name_of}
use Rattle.stair_reinsert.specs.Given.{HasCopy}
use Rattle.stair_reinsert.proofs.NameLemmas.{attached_unpulled}
use Rattle.stair_reinsert.proofs.WhereverLemmas.{kept_left, own_wherever}

-- no call that establishes an epoch attaches a slot
issues_no_attach : (slots : Slots) (editions : List Edition) (j i : ℕ) (c : SlotCall) → IsIssuing slots editions i c → IsNoAttach j i c
issues_no_attach slots editions j i c (AWrite e k answer has among formed below is) at = subst IsBesideAttach (sym is) tt
issues_no_attach slots editions j i c (ASync answer has is) at = subst IsBesideAttach (sym is) tt

pub issuing_ran : {old h : List Happening} (slots : Slots) (editions : List Edition) (j : ℕ) → Ran (IsIssuing slots editions) old h
    → Ran (IsNoAttach j) old h
issuing_ran slots editions j ran =
    ran_weakened {allowed = IsIssuing slots editions} {more = IsNoAttach j} (λ i c is. issues_no_attach slots editions j i c is) ran

pub given_wherever : (slots : Slots) (editions : List Edition) (draw epoch : ℕ) (old h : List Happening) (j : ℕ) → IsSome (slot_state old j).size
    → Ran (IsIssuing slots editions) old h → WasGiven slots editions draw epoch old h j
    → Wherever h j (name_of old j InSlot) (HasCopy editions draw epoch j)
given_wherever slots editions draw epoch old h j some issued given =
    own_wherever j (HasCopy editions draw epoch j) survives {allowed = IsNoAttach j} {start = old} {from = got.moment} {h = h} some
    (ran_before ran got.is_one)
    (attached_unpulled j (ran_before ran got.is_one) (and-true_left (slot_state got.moment j).attached (not (stopped got.moment)) got.ready))
    (ran_after ran got.is_one)
    (λ x at same image left.
    copy image.cell
    (kept_left {P = λ s. s ≡ settled (Good (spelled block))} (λ cell. (cell ≡ Good (spelled block)) ⊎ (cell ≡ Damaged)) (slot_state old j).pulls
    has.place (slot_state x j) image (inr refl)
    (λ cell is may. inl (settled_left (Good (spelled block)) cell (subst (λ s. MayLeave s cell) is may))) same left
    (at_moment {P = λ y. IsOnDisk old y j has.place block} got.since at)))
  where
    has : HasDraw editions draw epoch old h j
    has = given.has

    got : HasGot old h j has.place (copy_of has.edition j)
    got = given.got

    block : Superblock
    block = copy_of has.edition j

    ran : Ran (IsNoAttach j) old h
    ran = issuing_ran slots editions j issued

    copy : (cell : ℕ → Cell) → (cell has.place ≡ Good (spelled block)) ⊎ (cell has.place ≡ Damaged) → HasCopy editions draw epoch j cell
    copy cell holds = record {
      edition = has.edition;
      among = has.among;
      formed = has.formed;
      draws = has.draws;
      reaches = has.reaches;
      place = has.place;
      place_in = has.place_in;
      holds = holds;
    }

    survives : SurvivesDamage (HasCopy editions draw epoch j)
    survives = record {
      harmed = λ was is copies c. record {
        edition = c.edition;
        among = c.among;
        formed = c.formed;
        draws = c.draws;
        reaches = c.reaches;
        place = c.place;
        place_in = c.place_in;
        holds =
            elim (copies c.place) [
              | inl same ↦ elim c.holds [ inl good ↦ inl (same ∙ good) | inr bad ↦ inr (same ∙ bad) ]
              | inr bad ↦ inr bad
            ];
      };
      blank = λ cell all. copy cell (inr (all has.place));
    }
