-- The stages of a redo, part by part of a device: what each stage says of a part, and what its phase writes there.
use Rattle.std.proofs.Common.{◌≡◌, ℕ, ◌<◌, ◌≤◌, List, ◌⊎◌, inl, inr, refl, sym, ap, ◌∙◌, subst, arith, Some}
use Rattle.std.specs.Prelude.{⊤}
use Rattle.std.proofs.lemmas.Bool.{cases_Bool, cases_eq, false≢true}
use Rattle.stair_model.specs.CellSet.{has_cell, HasCell}
use Rattle.stair_model.specs.Device.{DevicePart, Superblock, Gate, Body, Chunk, IsOnDevice, cell_sector, gate_sector, sector_of}
use Rattle.stair_model.specs.Geometry.{sectors_needed}
use Rattle.stair_model.specs.Stripe.{cell}
use Rattle.stair_model.proofs.DeviceLaws.{part_once, sector_in_range}
use Rattle.stair_model.proofs.FirstLaws.{IsKnown}
use Rattle.stair_rack.specs.Answers.{is_good}
use Rattle.stair_rack.specs.History.{Happening}
use Rattle.stair_rack.specs.Media.{Image}
use Rattle.stair_rack.specs.Offline.{ButForOutside}
use Rattle.stair_rack.specs.Sector.{Cell, Good, Damaged, Torn, TornOverDamage, Leaves, Sector, torn}
use Rattle.stair_member.specs.Current.{ByOutside}
use Rattle.stair_journal.specs.Body.{IsOrDamaged, Harmed, Holds}
use Rattle.stair_journal.specs.Gate.{IsOpenWith, closed_gate, open_gate}
use Rattle.stair_journal.specs.declared.redo.Redo.{Redo}
use Rattle.stair_journal.proofs.GateLemmas.{closed, once}
use Rattle.stair_journal.proofs.WritesLemmas.{body_writes_cell, body_writes_is, gate_writes_is, gate_writes_there}
use Rattle.stair_stripes.specs.Placing.{cell_writes}
use Rattle.stair_stripes.proofs.PlacingLemmas.{cell_writes_cell, cell_writes_is}
use Rattle.stair_state.specs.Forms.{IsInRedo}
use Rattle.stair_state.specs.Redoing.{AtRest, BodyHas, ChunkHas, Done, GateHas, InPlace, IsIn, IsLeftIn, IsOpenWithNoOther, IsRedoing, Placing, Redoing, Stage, Uncommitted, next, writes_in}
use Rattle.stair_state.proofs.FormLemmas.{good_kept, good_whole}

-- ONE CELL

-- a cut write leaves no bytes
pub torn_bytes : (cell : Cell) (bytes : List ℕ) → torn cell ≡ Good bytes → ⊥
torn_bytes (Good under) bytes same = false≢true (ap is_good same)
torn_bytes Damaged bytes same = false≢true (ap is_good same)
torn_bytes Torn bytes same = false≢true (ap is_good same)
torn_bytes TornOverDamage bytes same = false≢true (ap is_good same)

pub in_redo_known : (redo : Redo) (t i k : ℕ) → IsKnown (IsInRedo redo t i k)
in_redo_known redo t i k =
    elim (cases_eq t redo.stripe) [
      | inl same ↦
          elim (cases_Bool (has_cell redo.cells i k)) [
            | inl has ↦ inl (record { stripe = same; has = has })
            | inr none ↦ inr (λ is. false≢true (sym none ∙ is.has))
          ]
      | inr other ↦ inr (λ is. other is.stripe)
    ]

module _ (a : Redoing) where
  -- PARTS

  -- the parts of slot j's device that the stages speak of
  abbrev pub Concerns : ℕ → DevicePart → Type 0
  Concerns j (Superblock place) = ⊥
  Concerns j Gate = ⊤
  Concerns j (Body i c) = HasCell a.redo.cells i c
  Concerns j (Chunk t i) = (j < a.geometry.n) × (t < a.geometry.stripes) × (i < a.geometry.r)

  -- what a crash may leave of this part of slot j
  abbrev pub PartHas : Stage → ℕ → DevicePart → Cell → Type 0
  PartHas stage j (Superblock place) sector = ⊤
  PartHas stage j Gate sector = GateHas a stage sector
  PartHas stage j (Body i c) sector = BodyHas a stage i c sector
  PartHas stage j (Chunk t i) sector = ChunkHas a stage t i j sector

  -- of its sector, and of what lies under the sector's unsynced writes
  abbrev pub PartLeaves : Stage → ℕ → DevicePart → Sector → Type 0
  PartLeaves stage j part = Leaves (PartHas stage j part) (PartHas stage j part)

  -- the part is in this stage, but for what the outside did since `start`
  abbrev pub PartIn : Stage → List Happening → ℕ → DevicePart → List Happening → Type 0
  PartIn stage start j part h = ButForOutside start h j (sector_of a.geometry part) (PartLeaves stage j part)

  -- and so is all of slot j
  pub record SlotIn (stage : Stage) (start h : List Happening) (j : ℕ) : Type 0 where
    pub each : (part : DevicePart) → Concerns j part → PartIn stage start j part h

  pub slot_in : (stage : Stage) (live : ℕ → Type 0) (start h : List Happening) → IsIn a stage live start h
      → (j : ℕ) → live j → SlotIn stage start h j
  slot_in stage live start h is j on = record { each = by_part }
    where
      by_part : (part : DevicePart) → Concerns j part → PartIn stage start j part h
      by_part (Superblock place) never = absurd never
      by_part Gate concerned = is.gates j on
      by_part (Body i c) has = is.bodies j i c on has
      by_part (Chunk t i) within = is.chunks j t i on within.0 within.1 within.2

  pub is_in : (stage : Stage) (live : ℕ → Type 0) (start h : List Happening) → ((j : ℕ) → live j → SlotIn stage start h j)
      → IsIn a stage live start h
  is_in stage live start h each = record {
    gates = λ j on. (each j on).each Gate tt;
    bodies = λ j i c on has. (each j on).each (Body i c) has;
    chunks = λ j t i on slot stripe row. (each j on).each (Chunk t i) (slot, stripe, row);
  }

  -- and this is left of slot j in an image
  abbrev pub LeftIn : Stage → Image → ℕ → Type 0
  LeftIn stage image j = (part : DevicePart) → Concerns j part → PartHas stage j part ((image j).cell (sector_of a.geometry part))

  pub left_in : (stage : Stage) (live : ℕ → Type 0) (image : Image) → IsLeftIn a stage live image → (j : ℕ) → live j → LeftIn stage image j
  left_in stage live image left j on (Superblock place) never = absurd never
  left_in stage live image left j on Gate concerned = left.gates j on
  left_in stage live image left j on (Body i c) has = left.bodies j i c on has
  left_in stage live image left j on (Chunk t i) within = left.chunks j t i on within.0 within.1 within.2

  pub is_left_in : (stage : Stage) (live : ℕ → Type 0) (image : Image) → ((j : ℕ) → live j → LeftIn stage image j)
      → IsLeftIn a stage live image
  is_left_in stage live image each = record {
    gates = λ j on. each j on Gate tt;
    bodies = λ j i c on has. each j on (Body i c) has;
    chunks = λ j t i on slot stripe row. each j on (Chunk t i) (slot, stripe, row);
  }

  pub on_device : IsRedoing a → (j : ℕ) (part : DevicePart) → Concerns j part → IsOnDevice a.geometry part
  on_device redoing j (Superblock place) never = absurd never
  on_device redoing j Gate concerned = tt
  on_device redoing j (Body i c) has = redoing.formed.inside i c has
  on_device redoing j (Chunk t i) within = (within.1, within.2)

  pub from_gate_on : (j : ℕ) (part : DevicePart) → Concerns j part → gate_sector ≤ sector_of a.geometry part
  from_gate_on j (Superblock place) never = absurd never
  from_gate_on j Gate concerned = omega arith
  from_gate_on j (Body i c) has = omega arith
  from_gate_on j (Chunk t i) within = omega arith

  -- DAMAGE

  gate_damage : (stage : Stage) → GateHas a stage Damaged
  gate_damage AtRest = λ redo opened. good_whole opened.good refl
  gate_damage Uncommitted = λ other opened. absurd (good_whole opened.good refl)
  gate_damage Placing = inr (ByOutside refl)
  gate_damage InPlace = λ other opened. absurd (good_whole opened.good refl)
  gate_damage Done = λ redo opened. good_whole opened.good refl

  body_damage : (stage : Stage) (i c : ℕ) → BodyHas a stage i c Damaged
  body_damage AtRest i c = tt
  body_damage Uncommitted i c = Harmed refl
  body_damage Placing i c = Harmed refl
  body_damage InPlace i c = Harmed refl
  body_damage Done i c = tt

  chunk_damage : (stage : Stage) (t i j : ℕ) → ChunkHas a stage t i j Damaged
  chunk_damage AtRest t i j = Harmed refl
  chunk_damage Uncommitted t i j = Harmed refl
  chunk_damage Placing t i j = inr (Harmed refl)
  chunk_damage InPlace t i j = Harmed refl
  chunk_damage Done t i j = Harmed refl

  pub part_damage : (stage : Stage) (j : ℕ) (part : DevicePart) → PartHas stage j part Damaged
  part_damage stage j (Superblock place) = tt
  part_damage stage j Gate = gate_damage stage
  part_damage stage j (Body i c) = body_damage stage i c
  part_damage stage j (Chunk t i) = chunk_damage stage t i j

  -- WHAT A PHASE WRITES

  -- sector k of slot j is that of a part, of which the stage allows these bytes, and what a cut write leaves
  pub record WritesPart (stage : Stage) (j k : ℕ) (bytes : List ℕ) : Type 0 where
    pub part : DevicePart
    pub concerns : Concerns j part
    pub at : sector_of a.geometry part ≡ k
    pub has : PartHas stage j part (Good bytes)
    pub cut : (under : Cell) → PartHas stage j part (torn under)

  open_alone : IsRedoing a → IsOpenWithNoOther a (Good (open_gate a.geometry a.redo))
  open_alone redoing other opened =
      let gate : Cell = Good (open_gate a.geometry a.redo) in
      let here : IsOpenWith a.geometry gate a.redo = record { good = refl; formed = redoing.formed } in
      once a.geometry gate other a.redo redoing.limits opened here

  closed_alone : IsOpenWithNoOther a (Good closed_gate)
  closed_alone other opened = absurd (closed a.geometry other opened)

  torn_alone : (under : Cell) → IsOpenWithNoOther a (torn under)
  torn_alone under other opened = absurd (torn_bytes under (open_gate a.geometry other) opened.good)

  -- it writes to parts that the stages speak of alone
  pub part_written : IsRedoing a → (stage : Stage) (j k : ℕ) (bytes : List ℕ) → writes_in a stage j k ≡ Some bytes → WritesPart stage j k bytes
  part_written redoing AtRest j k bytes is =
      let w = body_writes_is a.geometry a.redo (a.new a.redo.stripe) j k bytes is in
      record { part = Body w.row w.chunk; concerns = w.has; at = sym w.at; has = tt; cut = λ under. tt }
  part_written redoing Uncommitted j k bytes is =
      let w = gate_writes_is (open_gate a.geometry a.redo) j k bytes is in
      record {
        part = Gate;
        concerns = tt;
        at = sym w.at;
        has = subst (λ (x : List ℕ). IsOpenWithNoOther a (Good x)) (sym w.is) (open_alone redoing);
        cut = torn_alone;
      }
  part_written redoing Placing j k bytes is =
      let w = cell_writes_is a.geometry a.redo (a.new a.redo.stripe) j k bytes is in
      let inside = redoing.formed.inside w.row j w.has in
      record {
        part = Chunk a.redo.stripe w.row;
        concerns = (inside.1, redoing.formed.stripe_in, inside.0);
        at = sym w.at;
        has = inl (record { stripe = refl; has = w.has });
        cut = λ under. inl (record { stripe = refl; has = w.has });
      }
  part_written redoing InPlace j k bytes is =
      let w = gate_writes_is closed_gate j k bytes is in
      record {
        part = Gate;
        concerns = tt;
        at = sym w.at;
        has = subst (λ (x : List ℕ). IsOpenWithNoOther a (Good x)) (sym w.is) closed_alone;
        cut = torn_alone;
      }
  part_written redoing Done j k bytes is = absurd (cc)

  -- which all lie on the device
  pub written_in_range : IsRedoing a → (stage : Stage) (j k : ℕ) (bytes : List ℕ) → writes_in a stage j k ≡ Some bytes → k < sectors_needed a.geometry
  written_in_range redoing stage j k bytes is =
      let w = part_written redoing stage j k bytes is in
      subst (λ (x : ℕ). x < sectors_needed a.geometry) w.at
      (sector_in_range a.geometry w.part redoing.limits (on_device redoing j w.part w.concerns))

  -- and none is a superblock place
  pub written_from_gate : IsRedoing a → (stage : Stage) (j k : ℕ) (bytes : List ℕ) → writes_in a stage j k ≡ Some bytes → gate_sector ≤ k
  written_from_gate redoing stage j k bytes is =
      let w = part_written redoing stage j k bytes is in
      subst (λ (x : ℕ). gate_sector ≤ x) w.at (from_gate_on j w.part w.concerns)

  -- the part that is written is this one
  pub same_part : IsRedoing a → (stage : Stage) (j : ℕ) (part : DevicePart) (bytes : List ℕ) → Concerns j part
      → (w : WritesPart stage j (sector_of a.geometry part) bytes) → w.part ≡ part
  same_part redoing stage j part bytes concerns w =
      part_once a.geometry w.part part (on_device redoing j w.part w.concerns) (on_device redoing j part concerns) w.at

  -- THE END OF A PHASE

  -- A part is written with bytes that the next stage allows, or that allows whatever the part holds.
  pub data Ends (stage : Stage) (j : ℕ) (part : DevicePart) : Type 0 where
    Written : (bytes : List ℕ) → writes_in a stage j (sector_of a.geometry part) ≡ Some bytes → PartHas (next stage) j part (Good bytes)
        → Ends stage j part
    Same : ((sector : Cell) → PartHas stage j part sector → PartHas (next stage) j part sector) → Ends stage j part

  pub open_or_lost_alone : IsRedoing a → (gate : Cell) → GateHas a Placing gate → IsOpenWithNoOther a gate
  open_or_lost_alone redoing gate (inl opened) other also = once a.geometry gate other a.redo redoing.limits also opened
  open_or_lost_alone redoing gate (inr lost) other also = absurd (good_kept also.good lost)

  gate_ends : IsRedoing a → (stage : Stage) (j : ℕ) → Ends stage j Gate
  gate_ends redoing AtRest j = Same (λ gate shut other opened. absurd (shut other opened))
  gate_ends redoing Uncommitted j =
      let gate = open_gate a.geometry a.redo in
      Written gate (gate_writes_there gate j) (inl (record { good = refl; formed = redoing.formed }))
  gate_ends redoing Placing j = Same (open_or_lost_alone redoing)
  gate_ends redoing InPlace j = Written closed_gate (gate_writes_there closed_gate j) (closed a.geometry)
  gate_ends redoing Done j = Same (λ gate shut. shut)

  body_ends : IsRedoing a → (stage : Stage) (j i c : ℕ) → HasCell a.redo.cells i c → Ends stage j (Body i c)
  body_ends redoing AtRest j i c has =
      let inside = redoing.formed.inside i c has in
      let stripe = a.new a.redo.stripe in
      Written (cell stripe i c) (body_writes_cell a.geometry a.redo stripe j i c inside.1 has) (Holds refl)
  body_ends redoing Uncommitted j i c has = Same (λ sector holds. holds)
  body_ends redoing Placing j i c has = Same (λ sector holds. holds)
  body_ends redoing InPlace j i c has = Same (λ sector holds. tt)
  body_ends redoing Done j i c has = Same (λ sector holds. holds)

  -- a cell that isn't the redo's is the same in the old stripes and the new ones
  beside_redo : (t i j : ℕ) (sector : Cell) → IsInRedo a.redo t i j ⊎ (cell (a.new t) i j ≡ cell (a.old t) i j)
      → IsOrDamaged (cell (a.old t) i j) sector → ChunkHas a Placing t i j sector
  beside_redo t i j sector (inl has) holds = inl has
  beside_redo t i j sector (inr same) holds = inr (subst (λ (bytes : List ℕ). IsOrDamaged bytes sector) (sym same) holds)

  placed_there : (t i j : ℕ) → IsInRedo a.redo t i j → Ends Placing j (Chunk t i)
  placed_there t i j has =
      let written = cell_writes_cell a.geometry a.redo (a.new a.redo.stripe) j i has.has in
      Written (cell (a.new t) i j)
      (subst (λ (x : ℕ). cell_writes a.geometry a.redo (a.new a.redo.stripe) j (cell_sector a.geometry x i) ≡ Some (cell (a.new x) i j))
      (sym has.stripe) written) (Holds refl)

  placed_before : (t i j : ℕ) → ¬ IsInRedo a.redo t i j → Ends Placing j (Chunk t i)
  placed_before t i j beside = Same (λ sector holds. elim holds [ inl has ↦ absurd (beside has) | inr there ↦ there ])

  chunk_ends : IsRedoing a → (stage : Stage) (j t i : ℕ) → Concerns j (Chunk t i) → Ends stage j (Chunk t i)
  chunk_ends redoing AtRest j t i within = Same (λ sector holds. holds)
  chunk_ends redoing Uncommitted j t i within =
      Same (λ sector holds. beside_redo t i j sector (redoing.same t i j within.1 within.2 within.0) holds)
  chunk_ends redoing Placing j t i within =
      elim (in_redo_known a.redo t i j) [ inl has ↦ placed_there t i j has | inr beside ↦ placed_before t i j beside ]
  chunk_ends redoing InPlace j t i within = Same (λ sector holds. holds)
  chunk_ends redoing Done j t i within = Same (λ sector holds. holds)

  pub part_ends : IsRedoing a → (stage : Stage) (j : ℕ) (part : DevicePart) → Concerns j part → Ends stage j part
  part_ends redoing stage j (Superblock place) never = absurd never
  part_ends redoing stage j Gate concerned = gate_ends redoing stage j
  part_ends redoing stage j (Body i c) has = body_ends redoing stage j i c has
  part_ends redoing stage j (Chunk t i) within = chunk_ends redoing stage j t i within
