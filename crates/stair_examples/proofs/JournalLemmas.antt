-- Redos, gates and memberships of five devices.
use Rattle.std.proofs.Common.{◌≡◌, ℕ, ◌<◌, refl, sym, ap, arith}
use Rattle.std.proofs.lemmas.Bool.{false≢true}
use Rattle.std.proofs.lemmas.List.{get_or-replicate}
use Rattle.std.proofs.lemmas.List.Elements.{All-nil}
use Rattle.stair_model.specs.CellSet.{has_cell}
use Rattle.stair_model.specs.Slots.{no_slots}
use Rattle.stair_model.proofs.SetLaws.{HasCell-none}
use Rattle.stair_rack.specs.Sector.{Good, Torn}
use Rattle.stair_super.specs.Label.{IsPrintable}
use Rattle.stair_super.specs.Superblock.{mark_in}
use Rattle.stair_super.specs.declared.mark.Mark.TheVariants.{Down, Live}
use Rattle.stair_member.specs.Membership.{IsMarkedFor, IsMembership, why_of}
use Rattle.stair_member.specs.declared.why.Why.TheVariants.{Gone, Here}
use Rattle.stair_journal.specs.Gate.{IsOpenWith, ReadsClosed, open_gate}
use Rattle.stair_journal.specs.declared.redo.Redo.{Redo}
use Rattle.stair_journal.proofs.GateLemmas.{closed, once}
use Rattle.stair_array.proofs.NewArrayLemmas.{not_in_none}
use Rattle.stair_reinsert.specs.Misled.{five}
use Rattle.stair_reinsert_examples.specs.Refused.{whole_redo}
use Rattle.stair_reinsert_examples.proofs.FiveDevices.{five_limits}
use Rattle.stair_reinsert_examples.proofs.FiveSupers.{named}
use Rattle.stair_reinsert_examples.proofs.FiveSurvey.{five_cases, past_five}
use Rattle.stair_reinsert_examples.proofs.RefusedWrite.{redo_formed}
use Rattle.stair_examples.specs.Journals.{ExamplesOfGate, ExamplesOfIsRedo, ExamplesOfMembership, first_of_five, knowing, redo_of, slot_dropped}

-- REDOS AND GATES

pub redos : ExamplesOfIsRedo
redos = record {
  holds = redo_formed;
  fails = λ is. absurd (omega (arith, is.stripe_in));
  empty = λ is. HasCell-none no_slots not_in_none is.row is.slot is.some;
}

whole_open : IsOpenWith five (Good (open_gate five whole_redo)) whole_redo
whole_open = record { good = refl; formed = redo_formed }

torn_closed : ReadsClosed five Torn
torn_closed redo is = let bytes : Torn ≡ Good (open_gate five redo) = is.good in absurd (cc)

one_only : ¬ IsOpenWith five (Good (open_gate five whole_redo)) (redo_of 0 first_of_five)
one_only is =
    let same : whole_redo ≡ redo_of 0 first_of_five =
    once five (Good (open_gate five whole_redo)) whole_redo (redo_of 0 first_of_five) five_limits whole_open is in
    false≢true (sym (ap (λ (redo : Redo). has_cell redo.cells 0 1) same))

pub gates : ExamplesOfGate
gates = record { holds = whole_open; fails = closed five; cut = torn_closed; other = one_only }

-- MEMBERSHIPS

marked : (j : ℕ) → j < 5 → IsMarkedFor (why_of (knowing 2 Gone) j) (mark_in slot_dropped j)
marked =
    five_cases (λ j. j < 5 → IsMarkedFor (why_of (knowing 2 Gone) j) (mark_in slot_dropped j)) (λ b. refl) (λ b. refl) (λ b. refl) (λ b. refl) (λ b. tt)
    (λ j past b. absurd (omega (arith, past, b)))

known : IsMembership (knowing 2 Gone)
known = record {
  sizes = record {
    id = refl;
    drawn = omega arith;
    marks = refl;
    joins = refl;
    label = record { short = omega arith; printable = All-nil IsPrintable };
    whys = refl;
    places = refl;
  };
  array =
      named 2 Live Live Live Live Down 1 1 1 1 0 (omega arith) (omega arith, omega arith) (omega arith, omega arith) (omega arith, omega arith)
      (omega arith, omega arith) refl;
  known = omega arith;
  absent = λ j past small. past_five Here Here Here Here Gone Here j past;
  marked = marked;
  places = λ j small. omega (arith, get_or-replicate {A = ℕ} 32 j 0 0 small);
}

down_live : ¬ (Down ≡ Live)
down_live same = cc

pub memberships : ExamplesOfMembership
memberships = record {
  holds = known;
  fails = λ is. down_live (is.marked 4 (omega arith));
  undrawn = λ is. absurd (omega (arith, is.known));
}
