-- Why a slot of an array isn't here.
use Rattle.std.specs.Prelude.{◌≡◌, ◌≢◌, ◌<◌, ℕ, List, codes, ⊤}
use Rattle.stair_model.specs.Geometry.{Geometry}
use Rattle.stair_rack.specs.Media.{Image}
use Rattle.stair_super.specs.Superblock.{Superblock, joined_at, mark_at}
use Rattle.stair_super.specs.declared.mark.Mark.TheVariants as mark
use Rattle.stair_member.specs.Superblocks.{HasSuper, IsSuperOf}
use Rattle.stair_member.specs.declared.why.Why.{Why}
use Rattle.stair_member.specs.declared.why.Why.TheVariants.{Here, Gone, NoSuper, OtherArray, OtherSlot, MarkedDown, OtherJoined, Rebuilding}

-- whether the reason is one of slot j, where these slots were gone
abbrev pub Applies : (ℕ → Type 0) → Geometry → Image → Superblock → ℕ → Why → Type 0
Applies gone g image current j Gone = gone j
Applies gone g image current j NoSuper = ¬ HasSuper ((image j).cell)
Applies gone g image current j OtherArray =
    (s : Superblock) × IsSuperOf ((image j).cell) s × (s.array.geometry ≢ g)
Applies gone g image current j OtherSlot =
    (s : Superblock) × IsSuperOf ((image j).cell) s × (s.slot ≢ j)
Applies gone g image current j MarkedDown = mark_at current j ≡ mark.Down
Applies gone g image current j OtherJoined =
    (s : Superblock) × IsSuperOf ((image j).cell) s × (s.joined ≢ joined_at current j)
Applies gone g image current j Rebuilding = mark_at current j ≡ mark.Rebuilding
Applies gone g image current j Here = ⊤

-- the order in which they are looked for
abbrev pub rank : Why → ℕ
rank Gone = 0
rank NoSuper = 1
rank OtherArray = 2
rank OtherSlot = 3
rank MarkedDown = 4
rank OtherJoined = 5
rank Rebuilding = 6
rank Here = 7

-- the first that applies
pub record IsReason (gone : ℕ → Type 0) (g : Geometry) (image : Image) (current : Superblock)
    (j : ℕ) (why : Why) : Type 0 where
  pub applies : Applies gone g image current j why
  pub first : (other : Why) → rank other < rank why → ¬ Applies gone g image current j other

abbrev pub words_of : Why → List ℕ
words_of Here = codes "here"
words_of Gone = codes "gone"
words_of NoSuper = codes "no superblock"
words_of OtherArray = codes "other array"
words_of OtherSlot = codes "other slot"
words_of MarkedDown = codes "marked down"
words_of OtherJoined = codes "other joined"
words_of Rebuilding = codes "rebuilding"
