-- What `stripe` answers for blocks, and the steps that it takes.
use Rattle.std.specs.Prelude.{◌≡◌, ℕ, ◌+◌, ◌<◌, List, [], length, slice_index_or, All}
use Rattle.std.specs.List.{concat}
use Rattle.stair_model.specs.Cell.{Data, cell_at}
use Rattle.stair_model.specs.Encoding.{IsEncodingOf}
use Rattle.stair_model.specs.Geometry.{Geometry, data_cells}
use Rattle.stair_model.specs.Stripe.{Stripe, IsSector, cell}
use Rattle.stair_codec.specs.Choice.{IsChosen, IsCostOf}
use Rattle.stair_codec.specs.declared.choice.By.{By}
use Rattle.stair_codec.specs.declared.choice.By.TheVariants as by
use Rattle.stair_codec.specs.declared.choice.Encoder.{Encoder}
use Rattle.stair_conf.specs.declared.job.Method.{Method}
use Rattle.stair_conf.specs.declared.job.Method.TheVariants.{Standard, Up, Down, Fewest}
use Rattle.stair_status.specs.declared.status.Status.{Status}
use Rattle.stair_status.specs.declared.status.Status.TheVariants.{Done}

-- the blocks of a stripe, which have these bytes one after the other
pub record HasBlocks (g : Geometry) (blocks : List (List ℕ)) (bytes : List ℕ) : Type 0 where
  pub count : length blocks ≡ data_cells g
  pub sectors : All IsSector blocks
  pub same_bytes : concat blocks ≡ bytes

-- the status and the output for these blocks
abbrev pub JudgesBlocks : Geometry → List (List ℕ) → Status → List ℕ → Type 0
JudgesBlocks g blocks Done output = (stripe : Stripe) × IsEncodingOf g blocks stripe
    × (output ≡ concat stripe.cells)
JudgesBlocks g blocks _ output = ⊥

-- the first `count` data cells of the stripe hold their blocks
abbrev pub HoldsBlocks : Geometry → ℕ → List (List ℕ) → Stripe → Type 0
HoldsBlocks g count blocks stripe =
    (i j d : ℕ) → i < g.r → j < g.n → d < count → cell_at g i j ≡ Data d →
    cell stripe i j ≡ slice_index_or blocks d []

-- the encoder that a method asks for
abbrev pub by_of : Method → By
by_of Standard = by.Standard
by_of Up = by.Upstairs
by_of Down = by.Downstairs
by_of Fewest = by.Fewest

-- the encoder that the method asks for takes so many steps
pub record IsCostOfMethod (method : Method) (g : Geometry) (cost : ℕ) : Type 0 where
  pub encoder : Encoder
  pub chosen : IsChosen (by_of method) g encoder
  pub is_cost : IsCostOf encoder g cost

-- the counter rose by the steps of the encoder that the method asks for
abbrev pub TakesSteps : Method → Geometry → ℕ → ℕ → Type 0
TakesSteps method g old new = (cost : ℕ) × IsCostOfMethod method g cost × (new ≡ old + cost)
