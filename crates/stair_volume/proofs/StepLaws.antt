-- Steps of an array, up to a refusal.
use Rattle.std.proofs.Common.{◌≡◌, ◌∙◌, ◌/◌, ℕ, arith, List, [], ◌∷◌, Ok, Err, Result, length, refl, subst, sym, ap}
use Rattle.std.proofs.lemmas.List.{take_all}
use Rattle.std.specs.Simd.{first_chunks}
use Rattle.std.specs.Prelude.{⊤}
use Rattle.std.specs.Result.{IsErrAnd}
use Rattle.stair_model.specs.Geometry.{Geometry}
use Rattle.stair_model.specs.Stripe.{SECTOR}
use Rattle.stair_array.specs.Arrays.{answer_as, blocks_of, outcome}
use Rattle.stair_array.specs.Faults.{refusal_for}
use Rattle.stair_array.specs.Machine.{Answer, ReadBlock, Step, WriteBlocks}
use Rattle.stair_array.specs.Promise.{Opened, Phase}
use Rattle.stair_array.specs.declared.fault.ArrayFault.{ArrayFault}
use Rattle.stair_command.specs.Comes.{ExecutesOnDevices}
use Rattle.stair_command.specs.Devices.{DeviceView, Devices}
use Rattle.stair_command.specs.Kept.{HasMember}
use Rattle.stair_command.specs.Program.{Program, take_step}
use Rattle.stair_command.specs.Steps.{Takes}
use Rattle.stair_command.proofs.ComesLaws.{comes_refusal, comes_step}
use Rattle.stair_command.proofs.TakenLaws.{taken_geometry}
use Rattle.stair_volume.specs.Parts.{after_steps}

-- a session has an open array, of this geometry
abbrev pub IsOpen : Phase → Type 0
IsOpen (Opened array) = ⊤
IsOpen _ = ⊥

abbrev pub HasGeometry : Geometry → Phase → Type 0
HasGeometry g (Opened array) = array.member.array.geometry ≡ g
HasGeometry g _ = ⊥

-- a block's bytes are one block
pub one_block : (bytes : List ℕ) → length bytes ≡ SECTOR → blocks_of bytes ≡ bytes ∷ []
one_block bytes long =
    ap (λ (n : ℕ). first_chunks SECTOR (n / SECTOR) bytes) long ∙ ap (λ (block : List ℕ). block ∷ []) (take_all SECTOR bytes (omega (arith, long)))

-- a refusal that was handed on
pub handed_on : (slots : ℕ) (given result : Result (Unit {0}) ArrayFault) (why : ArrayFault) (rest other : Program) → given ≡ Err why
    → IsErrAnd result (λ f. f ≡ why) → after_steps slots given rest ≡ after_steps slots result other
handed_on slots given (Ok ok) why rest other was is = absurd is
handed_on slots given (Err f) why rest other was is =
    ap (λ (r : Result (Unit {0}) ArrayFault). after_steps slots r rest) was ∙ ap (λ (f : ArrayFault). after_steps slots (Err f) rest) (sym is)

module _ {R W : Type 0} (view : DeviceView R W) {x y : Devices R W} where
  -- the geometry stays over a step
  pub geometry_stays : (step : Step) (answer : Answer step) → Takes view step answer x y → IsOpen y.session → (g : Geometry) → HasGeometry g x.session
      → HasGeometry g y.session
  geometry_stays step answer takes opened g has = by x.session y.session refl refl opened has
    where
      by : (s t : Phase) → x.session ≡ s → y.session ≡ t → IsOpen t → HasGeometry g s → HasGeometry g t
      by (Opened a) (Opened b) was is opened has =
          taken_geometry view step answer x y a.member b.member takes (subst (λ (s : Phase). HasMember s a.member) (sym was) refl)
          (subst (λ (s : Phase). HasMember s b.member) (sym is) refl)
          ∙ has
      by (Opened a) t was is opened has = absurd opened
      by s t was is opened has = absurd has

  -- blocks are written, or not
  pub comes_write : (slots first : ℕ) (contents : List (List ℕ)) (result : Result (Unit {0}) ArrayFault) (rest : Program)
      → Takes view (WriteBlocks first contents) (outcome result) x y
      → ExecutesOnDevices view (take_step slots (WriteBlocks first contents) (λ ok. rest)) (after_steps slots result rest) x y
  comes_write slots first contents (Ok ok) rest takes = comes_step view slots (WriteBlocks first contents) ok (λ ok. rest) x y takes
  comes_write slots first contents (Err why) rest takes = comes_refusal view slots (WriteBlocks first contents) (refusal_for why) (λ ok. rest) x y takes

  -- a block is
  pub comes_block : (slots block : ℕ) (bytes other : List ℕ) (result : Result (Unit {0}) ArrayFault) (rest : Program) → length bytes ≡ SECTOR → bytes ≡ other
      → Takes view (WriteBlocks block (blocks_of bytes)) (outcome result) x y
      → ExecutesOnDevices view (take_step slots (WriteBlocks block (other ∷ [])) (λ ok. rest)) (after_steps slots result rest) x y
  comes_block slots block bytes other result rest long same takes =
      subst (λ (contents : List (List ℕ)). ExecutesOnDevices view (take_step slots (WriteBlocks block contents) (λ ok. rest)) (after_steps slots result rest) x y)
      (one_block bytes long ∙ ap (λ (b : List ℕ). b ∷ []) same) (comes_write slots block (blocks_of bytes) result rest takes)

  -- a block is read, or not
  pub comes_read : (slots block : ℕ) (bytes : List ℕ) (result : Result (Unit {0}) ArrayFault) (k : List ℕ → Program)
      → Takes view (ReadBlock block) (answer_as bytes result) x y
      → ExecutesOnDevices view (take_step slots (ReadBlock block) k) (after_steps slots result (k bytes)) x y
  comes_read slots block bytes (Ok ok) k takes = comes_step view slots (ReadBlock block) bytes k x y takes
  comes_read slots block bytes (Err why) k takes = comes_refusal view slots (ReadBlock block) (refusal_for why) k x y takes

  -- it ends so where its refusal is handed on
  pub comes_handed : {program : Program} (slots : ℕ) (rest : Program) (given result : Result (Unit {0}) ArrayFault) (why : ArrayFault) (other : Program) → given ≡ Err why
      → IsErrAnd result (λ f. f ≡ why) → ExecutesOnDevices view program (after_steps slots given rest) x y → ExecutesOnDevices view program (after_steps slots result other) x y
  comes_handed {program} slots rest given result why other was is comes =
      subst (λ (p : Program). ExecutesOnDevices view program p x y) (handed_on slots given result why rest other was is) comes
