-- The slot that is asked gives the sector, or none does so far.
use Rattle.std.proofs.Common.{◌≡◌, arith}
use Rattle.stair_rack.specs.Told.{told}
use Rattle.stair_journal.specs.Reads.{asking}
use Rattle.stair_journal.proofs.AskLemmas.{asks_more, gives, gives_reads, none_more}
use Rattle.stair_journal.proofs.body.find.Goals as goal

pub returns-in-Here-clause-asks : goal.returns-in-Here-clause-asks
returns-in-Here-clause-asks g c =
    asks_more c.args.live c.args.sector c.loop-slot.slot c.args.gone.now c.loop-slot.gone c.ask.new.gone
    (told g.R.Rack c.args.rack.now)
    (told g.R.Rack c.loop-slot.rack)
    (told g.R.Rack c.ask.new.rack)
    (g.R.Rack.reads c.args.rack.now) (g.R.Rack.reads c.loop-slot.rack) (g.R.Rack.reads c.ask.new.rack) c.loop-slot.invariant c.in-Here.ensures.asks
    c.in-Here.ensures.formed c.in-Here.ensures.reads

pub returns-in-Here-clause-does : goal.returns-in-Here-clause-does
returns-in-Here-clause-does g c =
    gives c.args.live c.args.sector c.loop-slot.slot c.args.gone.now c.loop-slot.gone c.ask.new.gone
    (told g.R.Rack c.args.rack.now)
    (told g.R.Rack c.loop-slot.rack)
    (told g.R.Rack c.ask.new.rack)
    (g.R.Rack.reads c.args.rack.now) (g.R.Rack.reads c.loop-slot.rack) (g.R.Rack.reads c.ask.new.rack) c.loop-slot.invariant c.in-Here.ensures.asks
    c.in-Here.ensures.formed c.in-Here.ensures.reads c.ask.new.bytes c.in-Here.ensures.does.0 c.in-Here.ensures.does.1

pub returns-in-Here-clause-reads : goal.returns-in-Here-clause-reads
returns-in-Here-clause-reads g c =
    gives_reads c.args.live c.args.sector c.loop-slot.slot c.args.gone.now c.loop-slot.gone c.ask.new.gone
    (told g.R.Rack c.args.rack.now)
    (told g.R.Rack c.loop-slot.rack)
    (told g.R.Rack c.ask.new.rack)
    (g.R.Rack.reads c.args.rack.now) (g.R.Rack.reads c.loop-slot.rack) (g.R.Rack.reads c.ask.new.rack) c.loop-slot.invariant c.in-Here.ensures.asks
    c.in-Here.ensures.formed c.in-Here.ensures.reads c.loop-slot-test.true

pub loop-slot-preserved : goal.loop-slot-preserved
loop-slot-preserved g c =
    none_more c.args.live c.args.sector c.loop-slot.slot c.args.gone.now c.loop-slot.gone c.ask.new.gone
    (told g.R.Rack c.args.rack.now)
    (told g.R.Rack c.loop-slot.rack)
    (told g.R.Rack c.ask.new.rack)
    (g.R.Rack.reads c.args.rack.now) (g.R.Rack.reads c.loop-slot.rack) (g.R.Rack.reads c.ask.new.rack) c.loop-slot.invariant
    c.in-Nowhere.ensures.asks c.in-Nowhere.ensures.formed c.in-Nowhere.ensures.reads c.in-Nowhere.ensures.does c.in-Nowhere.ensures.in_turn

pub returns-in-Here-clause-in_turn : goal.returns-in-Here-clause-in_turn
returns-in-Here-clause-in_turn g c honest = record {
  slot = c.loop-slot.slot;
  mid = asking c.loop-slot.gone (g.R.Rack.history c.loop-slot.rack);
  lower = c.loop-slot.invariant.in_turn honest;
  read = c.in-Here.ensures.in_turn honest;
}

pub returns-clause-in_turn : goal.returns-clause-in_turn
returns-clause-in_turn g c honest =
    let all : c.loop-slot.slot ≡ 32 = omega arith in
    let asked = rw all at c.loop-slot.invariant in
    asked.in_turn honest
