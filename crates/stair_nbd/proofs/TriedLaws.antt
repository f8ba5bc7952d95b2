-- A step that a program tries: if it was done, the program continues with its result; all refusals lead to the same
-- program.
use Rattle.std.proofs.Common.{◌≡◌, ◌∙◌, ℕ, List, Ok, Err, Result, refl, subst, sym}
use Rattle.std.specs.Prelude.{⊤}
use Rattle.std.specs.Result.{IsErrAnd}
use Rattle.stair_model.specs.Geometry.{Geometry}
use Rattle.stair_array.specs.Arrays.{answer_as, blocks_of, outcome}
use Rattle.stair_array.specs.Faults.{refusal_for}
use Rattle.stair_array.specs.Machine.{Answer, GivenBy, ReadBlock, Refusal, Step, WriteBlocks}
use Rattle.stair_array.specs.Promise.{Opened, Phase}
use Rattle.stair_array.specs.declared.fault.ArrayFault.{ArrayFault}
use Rattle.stair_command.specs.Comes.{ExecutesOnDevices}
use Rattle.stair_command.specs.Devices.{DeviceView, Devices}
use Rattle.stair_command.specs.Kept.{HasMember}
use Rattle.stair_command.specs.Program.{Program}
use Rattle.stair_command.specs.Steps.{Takes}
use Rattle.stair_command.specs.Trace.{Stepped}
use Rattle.stair_command.proofs.ComesLaws.{comes_by}
use Rattle.stair_command.proofs.TakenLaws.{taken_geometry}
use Rattle.stair_nbd.specs.Client.{tries}
use Rattle.stair_nbd.specs.Sessions.{after_steps}

-- a session has an open array, of this geometry
abbrev pub IsOpen : Phase → Type 0
IsOpen (Opened array) = ⊤
IsOpen _ = ⊥

abbrev pub HasGeometry : Geometry → Phase → Type 0
HasGeometry g (Opened array) = array.member.array.geometry ≡ g
HasGeometry g _ = ⊥

-- after a refusal that was handed on
pub after_refused : (Q : ArrayFault → Type 0) (result : Result (Unit {0}) ArrayFault) (refused done : Program) → IsErrAnd result Q
    → after_steps result refused done ≡ refused
after_refused Q (Ok ok) refused done is = absurd is
after_refused Q (Err why) refused done is = refl

module _ {R W : Type 0} (view : DeviceView R W) (x y : Devices R W) where
  -- the geometry stays over a step
  pub geometry_stays : (step : Step) (answer : Answer step) → Takes view step answer x y → IsOpen y.session → (g : Geometry) → HasGeometry g x.session
      → HasGeometry g y.session
  geometry_stays step answer takes opened g has = by x.session y.session refl refl opened has
    where
      by : (s t : Phase) → x.session ≡ s → y.session ≡ t → IsOpen t → HasGeometry g s → HasGeometry g t
      by (Opened a) (Opened b) was is opened has =
          taken_geometry view step answer x y a.member b.member takes (subst (λ (s : Phase). HasMember s a.member) (sym was) refl)
          (subst (λ (s : Phase). HasMember s b.member) (sym is) refl)
          ∙ has
      by (Opened a) t was is opened has = absurd opened
      by s t was is opened has = absurd has

  module _ (refused : Program) where
    -- a step was done
    pub comes_done : (step : Step) (given : GivenBy step) (k : GivenBy step → Program) → Takes view step (Ok given) x y
        → ExecutesOnDevices view (tries step refused k) (k given) x y
    comes_done step given k takes =
        comes_by view (Stepped step (Ok given) takes.events takes.left) (tries step refused k) (k given) x y tt (Ok given, refl, refl) takes.works

    -- or refused
    pub comes_refused : (step : Step) (refusal : Refusal) (k : GivenBy step → Program) → Takes view step (Err refusal) x y
        → ExecutesOnDevices view (tries step refused k) refused x y
    comes_refused step refusal k takes =
        comes_by view (Stepped step (Err refusal) takes.events takes.left) (tries step refused k) refused x y tt (Err refusal, refl, refl) takes.works

    module _ (result : Result (Unit {0}) ArrayFault) where
      -- a block was read
      pub comes_read : (block : ℕ) (bytes : List ℕ) (k : List ℕ → Program) {ok : Unit {0}} → result ≡ Ok ok
          → Takes view (ReadBlock block) (answer_as bytes result) x y → ExecutesOnDevices view (tries (ReadBlock block) refused k) (k bytes) x y
      comes_read block bytes k done takes =
          comes_done (ReadBlock block) bytes k (subst (λ (r : Result (Unit {0}) ArrayFault). Takes view (ReadBlock block) (answer_as bytes r) x y) done takes)

      -- or not
      pub comes_unread : (block : ℕ) (bytes : List ℕ) (k : List ℕ → Program) {why : ArrayFault} → result ≡ Err why
          → Takes view (ReadBlock block) (answer_as bytes result) x y → ExecutesOnDevices view (tries (ReadBlock block) refused k) refused x y
      comes_unread block bytes k {why} err takes =
          comes_refused (ReadBlock block) (refusal_for why) k
          (subst (λ (r : Result (Unit {0}) ArrayFault). Takes view (ReadBlock block) (answer_as bytes r) x y) err takes)

      -- blocks were written
      pub comes_written : (block : ℕ) (bytes : List ℕ) (k : Unit {0} → Program) {ok : Unit {0}} → result ≡ Ok ok
          → Takes view (WriteBlocks block (blocks_of bytes)) (outcome result) x y
          → ExecutesOnDevices view (tries (WriteBlocks block (blocks_of bytes)) refused k) (k ok) x y
      comes_written block bytes k {ok} done takes =
          comes_done (WriteBlocks block (blocks_of bytes)) ok k
          (subst (λ (r : Result (Unit {0}) ArrayFault). Takes view (WriteBlocks block (blocks_of bytes)) (outcome r) x y) done takes)

      -- or not
      pub comes_unwritten : (block : ℕ) (bytes : List ℕ) (k : Unit {0} → Program) {why : ArrayFault} → result ≡ Err why
          → Takes view (WriteBlocks block (blocks_of bytes)) (outcome result) x y
          → ExecutesOnDevices view (tries (WriteBlocks block (blocks_of bytes)) refused k) refused x y
      comes_unwritten block bytes k {why} err takes =
          comes_refused (WriteBlocks block (blocks_of bytes)) (refusal_for why) k
          (subst (λ (r : Result (Unit {0}) ArrayFault). Takes view (WriteBlocks block (blocks_of bytes)) (outcome r) x y) err takes)

      -- a refusal was handed on
      pub comes_after : (Q : ArrayFault → Type 0) (program done : Program) → IsErrAnd result Q → ExecutesOnDevices view program refused x y
          → ExecutesOnDevices view program (after_steps result refused done) x y
      comes_after Q program done is comes =
          subst (λ (rest : Program). ExecutesOnDevices view program rest x y) (sym (after_refused Q result refused done is)) comes
