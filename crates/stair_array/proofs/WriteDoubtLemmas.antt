-- The redo of a write of blocks, whether media come back or not: the stripes that it leads between, what a crash leaves in the midst of it, and
-- how it ends.
use Rattle.std.proofs.Common.{◌≡◌, ℕ, ◌+◌, ◌*◌, ◌%◌, ◌<◌, ◌≤◌, List, refl, sym, ap, ◌∙◌, subst, arith, None, Some, Option, false, length, div-add-mod'}
use Rattle.std.specs.Prelude.{◌-◌, IsTrue}
use Rattle.std.proofs.lemmas.Nat.{div_below, mul-add-lt}
use Rattle.stair_model.specs.CellSet.{CellSet, HasCell}
use Rattle.stair_model.specs.Geometry.{Geometry, IsWithinLimits, block_count, data_cells}
use Rattle.stair_model.specs.Stripe.{Stripe, cell}
use Rattle.stair_rack.specs.Crash.{CrashMayLeave}
use Rattle.stair_rack.specs.History.{Happening}
use Rattle.stair_rack.specs.Media.{Image}
use Rattle.stair_rack.specs.Moments.{IsMoment}
use Rattle.stair_journal.specs.Redo.{IsRedo}
use Rattle.stair_journal.specs.declared.redo.Redo.{Redo}
use Rattle.stair_member.specs.Membership.{Membership}
use Rattle.stair_member.specs.declared.fault.FenceFault.{FenceFault}
use Rattle.stair_member.specs.declared.fault.FenceFault.TheVariants as fence
use Rattle.stair_member.specs.declared.why.Why.{Why}
use Rattle.stair_stripes.specs.Gathering.{IsCellOf}
use Rattle.stair_state.specs.Blocks.{AreEncodingsOf, AreOfOneStripe, Codewords, IsSetFrom, with_blocks, with_word}
use Rattle.stair_state.specs.Redoing.{AtRest, IsRedoing, Redoing}
use Rattle.stair_state.specs.State.{BlocksAre, Change, Content, changed_if}
use Rattle.stair_state.proofs.BlockLemmas.{set_all}
use Rattle.stair_invariant.specs.Effects.{Snapshot, Redoes}
use Rattle.stair_invariant.specs.Leading.{led_to}
use Rattle.stair_invariant.specs.Opening.{StaysArray}
use Rattle.stair_invariant.specs.Rebuilding.{Rebuild}
use Rattle.stair_invariant.specs.Returning.{Returning}
use Rattle.stair_invariant.proofs.Serving.{IsGoing, IsServing, LeadsRedos, StandsIn, StaysWithinToleranceTo, StandsAs}
use Rattle.stair_array.specs.Calls.{AreInPlace, AreSet}
use Rattle.stair_array.proofs.LoadingLemmas.{LiveStill, Serves, ServesOn}
use Rattle.stair_array.proofs.RedoDoubtLemmas as redo_doubt
use Rattle.stair_array.proofs.WritePartLemmas.{IsKnown}
use Rattle.stair_array.proofs.ReadPartLemmas.{array_with}
use Rattle.stair_array.proofs.WriteStripeLemmas.{IsWord, cells_of, redoing_of, set_exists}

-- WHAT IS WRITTEN

-- the blocks are in range, of one stripe, and may be written
pub record MayWrite (first : ℕ) (contents : List (List ℕ)) (m : Membership) : Type 0 where
  pub below : first < block_count m.array.geometry
  pub together : AreOfOneStripe m.array.geometry first (length contents)
  pub thawed : m.array.frozen ≡ false

-- the write, as a change
abbrev pub written : ℕ → List (List ℕ) → Option Change
written first contents = Some (BlocksAre first contents)

-- nothing is in doubt, or the write is
pub data MayDoubt (first : ℕ) (contents : List (List ℕ)) (m : Membership) : Option Change → Type 0 where
  Certain : MayDoubt first contents m None
  Doubtful : MayWrite first contents m → MayDoubt first contents m (Some (BlocksAre first contents))

-- An image represents the state, where the write may be in doubt.
pub record StandsSo (returning : Returning) (kept : Content) (first : ℕ) (contents : List (List ℕ)) (m : Membership) (image : Image) : Type 0 where
  pub doubt : Option Change
  pub may : MayDoubt first contents m doubt
  pub is : StandsIn returning m kept doubt image

module _ (first : ℕ) (contents : List (List ℕ)) (m : Membership) (t : ℕ) (cells : CellSet) (place : AreInPlace m.array first contents t cells) where
  pub may_write : MayWrite first contents m
  may_write = record { below = place.below; together = place.together; thawed = place.thawed }

  pub inside : (i j : ℕ) → HasCell cells i j → IsCellOf m.array.geometry i j
  inside i j has = ((place.change i j).0 has).0

  pub stripe_in : IsWithinLimits m.array.geometry → t < m.array.geometry.stripes
  stripe_in limits =
      let below = place.below in
      subst (λ (s : ℕ). s < m.array.geometry.stripes) (sym place.stripe)
      (div_below first (data_cells m.array.geometry) m.array.geometry.stripes limits.blocks (omega arith))

module _ (returning : Returning) (before : List Happening) (rebuild : Option Rebuild) (stopped_by : Option FenceFault) (words : Codewords)
    (kept : Content) (first : ℕ)
    (contents : List (List ℕ)) where
  -- the array serves on, and the cells of the write are known
  pub record IsReady (x : Snapshot) (t : ℕ) (cells : CellSet) (loaded : Stripe) (y : Snapshot) : Type 0 where
    pub serves : ServesOn returning before rebuild stopped_by words kept x y
    pub stays : StaysArray x.member y.member
    pub live : LiveStill x y
    pub known : IsKnown words t (length contents) cells loaded x

  -- the array serves the stripes with the blocks set
  pub record IsWritten (x : Snapshot) (z : Snapshot) : Type 0 where
    pub new : Codewords
    pub serves : IsServing returning before (led_to (array_with rebuild stopped_by x) z.member) new (changed_if (written first contents) kept)
        z.told.history
    pub stays : StaysArray x.member z.member

  module _ (redo : Redo) (loaded stripe : Stripe) (x y : Snapshot)
      (is : Serves returning before rebuild stopped_by words kept x x.told.history)
      (place : AreInPlace x.member.array first contents redo.stripe redo.cells)
      (formed : IsRedo x.member.array.geometry redo) (set : AreSet x.member.array.geometry redo.stripe first contents redo.cells loaded stripe)
      (ready : IsReady x redo.stripe redo.cells loaded y) where
    abbrev g : Geometry
    g = x.member.array.geometry

    limits : IsWithinLimits x.member.array.geometry
    limits = is.is_open.array.member.array.limits

    word : IsWord x.member.array.geometry (words redo.stripe)
    word = let e = is.of.encodings.each redo.stripe formed.stripe_in in record { of = e.of; formed = e.formed; codeword = e.codeword }

    -- the blocks are those of data cell first % u on
    number : first ≡ redo.stripe * data_cells x.member.array.geometry + first % data_cells x.member.array.geometry
    number =
        sym
        (ap (λ (s : ℕ). s * data_cells x.member.array.geometry + first % data_cells x.member.array.geometry) place.stripe
        ∙ div-add-mod' first (data_cells x.member.array.geometry))

    fits : first + length contents ≤ block_count x.member.array.geometry
    fits =
        let some = place.together.some in
        let within = place.together.within in
        let d : ℕ = first % data_cells x.member.array.geometry + (length contents - 1) in
        let last =
        mul-add-lt redo.stripe (data_cells x.member.array.geometry) d x.member.array.geometry.stripes formed.stripe_in (omega arith) in
        let at = number in omega arith

    pub after : (after : Stripe) × IsSetFrom x.member.array.geometry redo.stripe first contents (words redo.stripe) after
    after =
        set_exists x.member.array.geometry limits redo.stripe (first % data_cells x.member.array.geometry) first contents (words redo.stripe) number
        place.together.within place.sectors word.of word.formed

    -- from these stripes to those with the blocks set
    abbrev pub new_words : Codewords
    new_words = with_word words redo.stripe after.0

    abbrev r : Redoing
    r = record { geometry = x.member.array.geometry; redo = redo; old = words; new = new_words }

    new_are : AreEncodingsOf x.member.array.geometry (with_blocks kept.blocks first contents) new_words
    new_are = set_all x.member.array.geometry kept.blocks words first redo.stripe contents after.0 limits is.of.encodings fits after.1

    redoing : IsRedoing r
    redoing = redoing_of x.member.array.geometry limits redo words after.0 first contents formed place.change word after.1

    cells_so : (i c : ℕ) → HasCell redo.cells i c → cell stripe i c ≡ cell (new_words redo.stripe) i c
    cells_so = cells_of x.member.array.geometry limits redo words after.0 first contents loaded stripe word set ready.known after.1

    pub doing : redo_doubt.Begins returning before rebuild stopped_by words new_words kept (written first contents) redo stripe x y
    doing = record {
      array = is.is_open.array;
      serves = ready.serves;
      stays = ready.stays;
      redoing = redoing;
      cells = cells_so;
      becomes = record {
        old_are = is.of.encodings;
        new_are = new_are;
        frozen = is.of.frozen;
        label = is.of.label;
        frozen_new = refl;
        label_new = refl;
      };
    }

    module _ (redos : LeadsRedos returning) where
      -- done
      pub done : (z : Snapshot) → Redoes x.member.array.geometry redo stripe AtRest None y z → IsTrue z.told.honest
          → IsGoing returning x.member.array.geometry before z.told.history → IsWritten x z
      done z run honest on =
          let ends = redo_doubt.done returning before rebuild stopped_by words new_words kept
          (written first contents) redo stripe redos x y doing z run honest on in
          record { new = new_words; serves = ends.0; stays = ends.1 }

      -- what a crash leaves at a moment of it
      pub redo_stands : (refusal : Option FenceFault) (z : Snapshot) → Redoes x.member.array.geometry redo stripe AtRest refusal y z
          → IsTrue z.told.honest → (c : List Happening) → IsMoment y.told.history c z.told.history
          → StaysWithinToleranceTo returning x.member.array.geometry before c → (image : Image) → CrashMayLeave c image
          → StandsSo returning kept first contents x.member image
      redo_stands refusal z run honest c at calm image left = record {
        doubt = written first contents;
        may = Doubtful (may_write first contents x.member redo.stripe redo.cells place);
        is =
            redo_doubt.redo_stands returning before rebuild stopped_by words new_words kept
            (written first contents) redo stripe redos x y doing refusal z run
            honest c at calm image left;
      }

      -- refused
      pub stops : (fault : FenceFault) (z : Snapshot) → Redoes x.member.array.geometry redo stripe AtRest (Some fault) y z → IsTrue z.told.honest
          → StaysWithinToleranceTo returning x.member.array.geometry before z.told.history
          → StandsAs returning x.member kept (written first contents) z.told.history
      stops fault z run honest calm =
          redo_doubt.stops returning before rebuild stopped_by words new_words kept
          (written first contents) redo stripe redos x y doing fault z run honest calm

      -- not for want of slots
      pub enough : (whys : List Why) (refusal : Option FenceFault) (z : Snapshot) → Redoes x.member.array.geometry redo stripe AtRest refusal y z
          → refusal ≡ Some (fence.TooFew whys) → IsTrue z.told.honest → StaysWithinToleranceTo returning x.member.array.geometry before z.told.history → ⊥
      enough whys refusal z run few honest calm =
          redo_doubt.enough returning before rebuild stopped_by words new_words kept
          (written first contents) redo stripe redos x y doing whys refusal z run few
          honest calm
