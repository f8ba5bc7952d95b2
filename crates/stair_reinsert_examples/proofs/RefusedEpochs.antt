-- An epoch that was raised without a draw, and a medium that was taken for live by its slot number alone.
use Rattle.std.proofs.Common.{◌≢◌, ℕ, inl, inr, refl, sym, ap, ◌∙◌, subst, arith}
use Rattle.std.proofs.lemmas.Bool.{cases_eq, cases_lt, cond-false, false≢true, lt-ltb, ne_eqb}
use Rattle.stair_super.specs.Superblock.{IsSuperblock, mark_in}
use Rattle.stair_super.specs.declared.configuration.Configuration.{Configuration}
use Rattle.stair_super.specs.declared.mark.Mark.TheVariants.{Down, Live}
use Rattle.stair_member.specs.Editions.{Edition, copy_of}
use Rattle.stair_state.specs.Blocks.{Codewords}
use Rattle.stair_state.specs.Reassembly.{InSlot, Outside}
use Rattle.stair_state.proofs.AloneLemmas.{IsImageTidy}
use Rattle.stair_reinsert.specs.Misled.{device_of, five}
use Rattle.stair_reinsert_examples.specs.Refused.{IsRefused, JoinsTwo, NamesTwo, first_pulled, misjoined, put_back, replaced, undrawn}
use Rattle.stair_reinsert_examples.proofs.FiveConsistent.{made_tidy}
use Rattle.stair_reinsert_examples.proofs.FiveDevices.{past_cell}
use Rattle.stair_reinsert_examples.proofs.FiveSupers.{named_super}
use Rattle.stair_reinsert_examples.proofs.RefusedLemmas.{IsTidyMedium, IsTidySlot, bears_copy, first_pulled_tidy, two_lists_refused, two_media_refused}

up : Live ≢ Down
up same = cc

pub device_tidy : (words : Codewords) (editions : ℕ → Edition) (j : ℕ) → IsTidyMedium (device_of words editions j)
device_tidy words editions j k beyond =
    elim (cases_lt k 9) [
      | inl small ↦ absurd (false≢true (sym beyond ∙ lt-ltb k 9 small))
      | inr past ↦ past_cell words editions j k past
    ]

-- WITHOUT A DRAW

first_super : IsSuperblock (copy_of (undrawn 0) 0)
first_super =
    named_super 5 Live Live Live Live Down 1 1 1 1 0 (omega arith) (omega arith, omega arith) (omega arith, omega arith) (omega arith, omega arith)
    (omega arith, omega arith) refl 5 0 (omega arith) (omega arith) (omega arith) up

other_super : IsSuperblock (copy_of (undrawn 1) 1)
other_super =
    named_super 5 Down Live Live Live Live 0 1 1 1 1 (omega arith) refl (omega arith, omega arith) (omega arith, omega arith)
    (omega arith, omega arith) (omega arith, omega arith) 5 1 (omega arith) (omega arith) (omega arith) up

module _ (words : Codewords) where
  pub names_two : NamesTwo five (first_pulled (device_of words undrawn))
  names_two = record {
    first = 0;
    first_place = Outside 0;
    is = copy_of (undrawn 0) 0;
    borne = record {
      medium = device_of words undrawn 0;
      is_one = refl;
      bears = bears_copy (device_of words undrawn 0) (undrawn 0) 0 first_super refl refl;
    };
    second = 1;
    second_place = InSlot;
    also = copy_of (undrawn 1) 1;
    borne_too = record {
      medium = device_of words undrawn 1;
      is_one = (refl, refl);
      bears = bears_copy (device_of words undrawn 1) (undrawn 1) 1 other_super refl refl;
    };
    one_epoch = refl;
    two_lists = λ same. up (ap (λ (c : Configuration). mark_in c 0) same);
  }

  pub undrawn_refused : IsRefused five (first_pulled (device_of words undrawn))
  undrawn_refused =
      two_lists_refused five (first_pulled (device_of words undrawn)) (first_pulled_tidy (device_of words undrawn) (device_tidy words undrawn)) names_two

-- BY ITS SLOT NUMBER

replaced_super : IsSuperblock (copy_of replaced 3)
replaced_super =
    named_super 7 Live Live Live Live Live 1 1 1 6 1 (omega arith) (omega arith, omega arith) (omega arith, omega arith) (omega arith, omega arith)
    (omega arith, omega arith) (omega arith, omega arith) 7 3 (omega arith) (omega arith) (omega arith) up

misjoined_super : IsSuperblock (copy_of (misjoined 3) 3)
misjoined_super =
    named_super 8 Live Live Live Live Live 1 1 1 6 1 (omega arith) (omega arith, omega arith) (omega arith, omega arith) (omega arith, omega arith)
    (omega arith, omega arith) (omega arith, omega arith) 8 3 (omega arith) (omega arith) (omega arith) up

module _ (before now : Codewords) where
  misjoined_tidy : IsImageTidy (put_back before now misjoined)
  misjoined_tidy j =
      elim (cases_eq j 3) [
        | inl same ↦ subst (λ (i : ℕ). IsTidySlot (put_back before now misjoined i)) (sym same) (device_tidy before misjoined 3)
        | inr other ↦ subst IsTidySlot (sym (cond-false _ _ _ (ne_eqb j 3 other))) (made_tidy now misjoined j)
      ]

  pub joins_two : JoinsTwo five (put_back before now misjoined)
  joins_two = record {
    slot = 3;
    first = InSlot;
    is = copy_of (misjoined 3) 3;
    borne = record {
      medium = device_of before misjoined 3;
      is_one = (refl, refl);
      bears = bears_copy (device_of before misjoined 3) (misjoined 3) 3 misjoined_super refl refl;
    };
    second = Outside 0;
    also = copy_of replaced 3;
    borne_too = record {
      medium = device_of now (λ k. replaced) 3;
      is_one = refl;
      bears = bears_copy (device_of now (λ k. replaced) 3) replaced 3 replaced_super refl refl;
    };
    one_joined = refl;
    two_media = λ same. cc;
  }

  pub misjoined_refused : IsRefused five (put_back before now misjoined)
  misjoined_refused = two_media_refused five (put_back before now misjoined) misjoined_tidy joins_two
