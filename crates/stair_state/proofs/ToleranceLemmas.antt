-- What tolerance gives where fewer slots are offline, and what coverage gives.
use Rattle.std.proofs.Common.{◌≡◌, ℕ, ◌<◌, ◌⊎◌, inl, inr, arith}
use Rattle.stair_model.specs.CellSet.{CellSet, HasCell}
use Rattle.stair_model.specs.Coverage.{IsCovered}
use Rattle.stair_model.specs.Device.{cell_sector, gate_sector}
use Rattle.stair_model.specs.Geometry.{Geometry}
use Rattle.stair_model.proofs.RestLaws.{subset_covered}
use Rattle.stair_rack.specs.Media.{Image}
use Rattle.stair_rack.specs.Sector.{Damaged}
use Rattle.stair_super.specs.Superblock.{Superblock}
use Rattle.stair_member.specs.Current.{IsFailed, NotLive, LostPlace, Offline, IsLost}
use Rattle.stair_state.specs.Tolerance.{HasJournal, IsStripeCovered, IsWithinTolerance}

-- FEWER SLOTS OFFLINE

module _ {fewer more : ℕ → Type 0} {g : Geometry} {image : Image} (within : (j : ℕ) → fewer j → more j) where
  pub failed_more : {current : Superblock} {j : ℕ} → IsFailed fewer g image current j → IsFailed more g image current j
  failed_more (NotLive below none) = NotLive below none
  failed_more (LostPlace k below place lost) = LostPlace k below place lost
  failed_more {j = j} (Offline below out) = Offline below (within j out)

  -- what is tolerated is so where fewer are
  pub tolerated_fewer : IsWithinTolerance more g image → IsWithinTolerance fewer g image
  tolerated_fewer tolerated = record {
    identity = tolerated.identity;
    others = tolerated.others;
    current = tolerated.current;
    is_current = tolerated.is_current;
    few = record {
      slots = tolerated.few.slots;
      formed = tolerated.few.formed;
      few = tolerated.few.few;
      within = λ j failed. tolerated.few.within j (failed_more failed);
    };
    stripes = λ t t_in. stripe t (tolerated.stripes t t_in);
    journal_slot = tolerated.journal_slot;
    journal = record {
      serves = record {
        live = tolerated.journal.serves.live;
        places = tolerated.journal.serves.places;
        online = λ out. tolerated.journal.serves.online (within tolerated.journal_slot out);
      };
      whole = tolerated.journal.whole;
    };
  }
    where
      erased_more : (i j t : ℕ) → IsFailed fewer g image tolerated.current j ⊎ ((image j).cell (cell_sector g t i) ≡ Damaged)
          → IsFailed more g image tolerated.current j ⊎ ((image j).cell (cell_sector g t i) ≡ Damaged)
      erased_more i j t (inl failed) = inl (failed_more failed)
      erased_more i j t (inr harmed) = inr harmed

      stripe : (t : ℕ) → IsStripeCovered more g image tolerated.current t → IsStripeCovered fewer g image tolerated.current t
      stripe t covered = record {
        erased = covered.erased;
        covered = covered.covered;
        has = λ i j i_in j_in out. covered.has i j i_in j_in (erased_more i j t out);
      }

-- COVERAGE

-- a pattern whose cells all lie on failed slots or are damaged is covered
pub exactly_covered : (offline : ℕ → Type 0) (g : Geometry) (image : Image) (current : Superblock) (t : ℕ) (erased : CellSet)
    → IsStripeCovered offline g image current t
    → ((i j : ℕ) → HasCell erased i j → (i < g.r) × (j < g.n)
    × (IsFailed offline g image current j ⊎ ((image j).cell (cell_sector g t i) ≡ Damaged))) → IsCovered g erased
exactly_covered offline g image current t erased covered exactly =
    subset_covered g erased covered.erased
    (λ i j has. let out = exactly i j has in covered.has i j out.0 out.1 out.2) covered.covered

-- the gate of a slot that has the journal isn't lost
pub journal_gate : (offline : ℕ → Type 0) (g : Geometry) (image : Image) (current : Superblock) (j : ℕ)
    → HasJournal offline g image current j → ¬ IsLost ((image j).cell gate_sector)
journal_gate offline g image current j journal = journal.whole gate_sector (omega arith) (omega arith)
