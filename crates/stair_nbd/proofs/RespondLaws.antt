-- The result of a request: nothing if it is refused, otherwise what its blocks give or take.
use Rattle.std.proofs.Common.{◌≡◌, ◌∙◌, ℕ, List, [], ap, ap₂, drop, subst, sym, take}
use Rattle.std.specs.Prelude.{Bool, ◌||◌, false, true}
use Rattle.stair_model.specs.Geometry.{Geometry}
use Rattle.stair_command.specs.Comes.{ExecutesOnDevices}
use Rattle.stair_command.specs.Devices.{DeviceView, Devices}
use Rattle.stair_command.specs.Program.{Program, if_so}
use Rattle.stair_command.proofs.ComesLaws.{comes_none}
use Rattle.stair_nbd.specs.Client.{Comes, first_block, is_past, is_too_long, reads_for, reads_on, responds, size_of, skipped, touched, writes_blocks, writes_on}
use Rattle.stair_nbd.specs.Sessions.{data_of}
use Rattle.stair_nbd.specs.declared.reply.Reply.{Reply}
use Rattle.stair_nbd.specs.declared.wire.Command.{Command}
use Rattle.stair_nbd.specs.declared.wire.ReplyError.{ReplyError}
use Rattle.stair_nbd.specs.declared.wire.ReplyError.TheVariants as error
use Rattle.stair_nbd.specs.declared.wire.Request.{Request}

-- a reply of no bytes
pub no_data : (reply : Reply) (buffer : List ℕ) (why : ReplyError) (k : Comes) → reply.error ≡ why → reply.length ≡ 0
    → k reply.error (data_of reply buffer) ≡ k why []
no_data reply buffer why k is none = ap₂ k is (ap (λ (n : ℕ). take n (drop reply.start buffer)) none)

-- a request is refused where it has too many bytes, or ends past the array
pub refused_by : (long past : Bool) → long ≡ false → past ≡ true → (long || past) ≡ true
refused_by long past short is = ap₂ (λ (a b : Bool). a || b) short is

-- and isn't where it does neither
pub allowed_by : (long past : Bool) → long ≡ false → past ≡ false → (long || past) ≡ false
allowed_by long past short inside = ap₂ (λ (a b : Bool). a || b) short inside

module _ {R W : Type 0} (view : DeviceView R W) (g : Geometry) (q : Request) where
  -- blocks are written whose numbers and bytes are those of a request
  pub writes_touched : (h : Geometry) (turns block left : ℕ) (here blocks : List ℕ) (refused done rest : Program) (y z : Devices R W) → h ≡ g
      → turns ≡ touched (skipped q) q.length → block ≡ first_block q → left ≡ touched (skipped q) q.length → here ≡ blocks
      → ExecutesOnDevices view (writes_on h turns block left here refused done) rest y z
      → ExecutesOnDevices view (writes_on g (touched (skipped q) q.length) (first_block q) (touched (skipped q) q.length) blocks refused done) rest y z
  writes_touched h turns block left here blocks refused done rest y z geometry many first all same =
      subst (λ (program : Program). ExecutesOnDevices view program rest y z) (λ i. writes_on (geometry i) (many i) (first i) (all i) (same i) refused done)

module _ {R W : Type 0} (view : DeviceView R W) (g : Geometry) (q : Request) (x : Devices R W) where
  -- ---- reading

  module _ (k : Comes) where
    -- its blocks, where it isn't refused
    abbrev reads_blocks : Program
    reads_blocks = reads_on (first_block q) (touched (skipped q) q.length) [] (k error.Io []) (λ bytes. k error.None (take q.length (drop (skipped q) bytes)))

    -- it has too many bytes, or ends past the array
    pub read_invalid : (rest : Program) → (is_too_long q || is_past (size_of g) q) ≡ true → rest ≡ k error.Invalid [] → ExecutesOnDevices view (reads_for g q k) rest x x
    read_invalid rest is same =
        subst (λ (program : Program). ExecutesOnDevices view program rest x x) (sym (ap (λ (b : Bool). if_so b (k error.Invalid []) reads_blocks) is ∙ sym same))
        (comes_none view rest x)

    -- or its blocks are read, and its bytes are among theirs
    pub reads_within : (first count : ℕ) (into bytes : List ℕ) (y : Devices R W) → (is_too_long q || is_past (size_of g) q) ≡ false → first ≡ first_block q
        → count ≡ touched (skipped q) q.length → bytes ≡ take q.length (drop (skipped q) into)
        → ExecutesOnDevices view (reads_on first count [] (k error.Io []) (λ bytes. k error.None (take q.length (drop (skipped q) bytes))))
        (k error.None (take q.length (drop (skipped q) into))) x y
        → ExecutesOnDevices view (reads_for g q k) (k error.None bytes) x y
    reads_within first count into bytes y is at many same comes =
        subst (λ (b : List ℕ). ExecutesOnDevices view (reads_for g q k) (k error.None b) x y) (sym same)
        (subst (λ (program : Program). ExecutesOnDevices view program (k error.None (take q.length (drop (skipped q) into))) x y)
        (sym (ap (λ (b : Bool). if_so b (k error.Invalid []) reads_blocks) is))
        (subst (λ (program : Program). ExecutesOnDevices view program (k error.None (take q.length (drop (skipped q) into))) x y)
        (ap₂ (λ (f n : ℕ). reads_on f n [] (k error.Io []) (λ bytes. k error.None (take q.length (drop (skipped q) bytes)))) at many) comes))

  -- ---- writing

  -- around bytes that are the same
  pub writes_same : (bytes others : List ℕ) (refused done rest : Program) (y : Devices R W) → others ≡ bytes
      → ExecutesOnDevices view (writes_blocks g q others refused done) rest x y → ExecutesOnDevices view (writes_blocks g q bytes refused done) rest x y
  writes_same bytes others refused done rest y same = subst (λ (b : List ℕ). ExecutesOnDevices view (writes_blocks g q b refused done) rest x y) same

  -- ---- other requests

  -- nothing is done for a request of such a command
  pub nothing_done : (bytes : List ℕ) (k : Comes) (command : Command) (why : ReplyError) (rest : Program) → q.command ≡ command
      → responds g q bytes k command ≡ k why [] → rest ≡ k why [] → ExecutesOnDevices view (responds g q bytes k q.command) rest x x
  nothing_done bytes k command why rest is nothing same =
      subst (λ (program : Program). ExecutesOnDevices view program rest x x) (sym (ap (responds g q bytes k) is ∙ nothing ∙ sym same)) (comes_none view rest x)
