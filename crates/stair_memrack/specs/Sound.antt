-- What the fields of a rack in memory keep.
use Rattle.std.specs.Prelude.{◌≡◌, ℕ, ◌+◌, ◌^◌, false, [], count_by, ◌<◌, ◌≤◌, true, length, reverse, slice_index, vec_capacity}
use Rattle.stair_rack.specs.Answers.{IsHistory}
use Rattle.stair_memrack.specs.declared.rack.MemRack.TheInside.{Inside}
use Rattle.stair_memrack.specs.Record.{MemRackState, history_of}
use Rattle.stair_memrack.specs.Place.{has_found}
use Rattle.stair_memrack.specs.Shelf.{IsShelfOf, HasRoom, AreBlanks, acts_from}

abbrev pub state_of : Inside → MemRackState
state_of r = record {
  made = r.made.items;
  script = r.script.items;
  room = r.room;
  calls = reverse r.log.items;
  spent = r.spent;
  late = reverse r.late.items;
  bads = r.bads;
  gones = r.gones.items;
  reads = r.reads;
}

-- the record and the counts
pub record IsSoundRecord (s : MemRackState) (capacity : ℕ) : Type 0 where
  pub within : length s.calls ≤ s.room
  pub room_fits : s.room < 2 ^ 32
  -- it has memory for all calls
  pub memory : s.room ≤ capacity
  pub spent_only : s.spent ≡ true → length s.calls ≡ s.room
  pub late_only : s.spent ≡ false → s.late ≡ []
  pub reads_within : s.reads ≤ length s.calls
  pub counts : length s.gones ≡ 32
  pub bads_fit : s.bads < 2 ^ 64
  pub gones_fit : (j : ℕ) → slice_index s.gones j < 2 ^ 64

pub record IsSound (r : Inside) : Type 0 where
  pub record_is : IsSoundRecord (state_of r) (vec_capacity r.log)
  pub began : IsHistory (history_of (state_of r))
  -- the slots stand as they do after the history
  pub shelf : IsShelfOf r.places.items r.stopped (history_of (state_of r))
  -- there is memory for an attach of each slot that keeps what one found before
  pub late_memory : 32 ≤ vec_capacity r.late
  pub late_fits : length (state_of r).late + count_by has_found r.places.items ≤ 32
  -- there is memory for the acts that are still to come
  pub room_left : HasRoom r.places.items (acts_from (length (state_of r).calls) r.script.items)
  pub blanks_left : AreBlanks (length (state_of r).calls) 0 r.script.items r.blanks.items
