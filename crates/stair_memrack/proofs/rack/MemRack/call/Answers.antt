-- Where the record is spent the slot refuses. Else the acts before the call are done, the slot answers, and the call is recorded.
use Rattle.std.proofs.Common.{◌≡◌, ◌<◌, ◌≤◌, ◌∙◌, ℕ, Bool, true, List, [], ◌∷◌, ◌++◌, length, refl, sym, ap, subst, arith}
use Rattle.std.specs.Prelude.{if◌then◌else◌, vec_len, vec_capacity}
use Rattle.stair_rack.specs.Sector.{Good, content}
use Rattle.stair_rack.specs.History.{SlotState, slot_state}
use Rattle.stair_rack.specs.Answers.{IsAnswered}
use Rattle.stair_rack.specs.declared.rack.Got.TheVariants as got
use Rattle.stair_memrack.specs.declared.record.Call.{Call}
use Rattle.stair_memrack.specs.Place.{asks_to_let_go}
use Rattle.stair_memrack.specs.Record.{MemRackState, slot_call, IsAnswerTo, moment, history_of, after_call}
use Rattle.stair_memrack.specs.Sound.{state_of}
use Rattle.stair_memrack.proofs.RecordLemmas.{after_read}
use Rattle.stair_memrack.proofs.ClauseLemmas.{one_call, sound_old, began_old, spent_room, late_room, refused_of, spent_after, recorded_after, acted, next_of, pending_fits, read_bytes, answer_asked, refusal_not_good, IsSound-spent, IsSound-recorded}
use Rattle.stair_memrack.proofs.rack.MemRack.call.Goals as goal

pub tell-requires : goal.tell-requires
tell-requires c =
    let r = c.self.inside in
    let full : r.room ≤ vec_len r.log = omega arith in
    λ is.
    let room : length r.late.items < vec_capacity r.late =
    late_room r c.args.slot c.index_mut-place.result.now c.requires c.self.invariant (spent_room r full) c.index_mut-place.ensures.value c.args.ask.now
    (sym c.asks_to_let_go-lets_go.ensures ∙ is) in
    omega (arith, r.late.ok.0)

pub invariant_of-self : goal.invariant_of-self
invariant_of-self c =
    let r = c.self.inside in
    let full : r.room ≤ vec_len r.log = omega arith in
    let told : c.tell.new.late.items ≡ (if asks_to_let_go c.args.ask.now c.index_mut-place.result.now then r.late.items ++ c.args.slot ∷ []
    else r.late.items) =
    c.tell.ensures.does ∙ ap (λ (t : Bool). if t then r.late.items ++ c.args.slot ∷ [] else r.late.items) c.asks_to_let_go-lets_go.ensures in
    let refused = refused_of r c.args.slot c.index_mut-place.result.now c.requires c.self.invariant (spent_room r full) c.index_mut-place.ensures.value
    c.args.ask.now c.answer-refusal.new.self c.answer-refusal.result c.tell.new.late.items c.answer-refusal.ensures.answer c.answer-refusal.ensures.after told in
    IsSound-spent r _ c.args.slot c.answer-refusal.result c.self.invariant
    (spent_after r c.args.slot c.answer-refusal.result c.tell.new.late.items _ _ full refused.late_is c.count.ensures.bads c.count.ensures.gones) (spent_room r full) refl
    c.tell.ensures.memory refl refl refused

pub returns-then-len-self : goal.returns-then-len-self
returns-then-len-self c =
    let r = c.self.inside in
    let old : MemRackState = c.args.self.now in
    let j : ℕ = c.args.slot in
    let call : Call = c.answer-refusal.result in
    let full : r.room ≤ vec_len r.log = omega arith in
    let told : c.tell.new.late.items ≡ (if asks_to_let_go c.args.ask.now c.index_mut-place.result.now then r.late.items ++ c.args.slot ∷ []
    else r.late.items) =
    c.tell.ensures.does ∙ ap (λ (t : Bool). if t then r.late.items ++ c.args.slot ∷ [] else r.late.items) c.asks_to_let_go-lets_go.ensures in
    let refused = refused_of r c.args.slot c.index_mut-place.result.now c.requires c.self.invariant (spent_room r full) c.index_mut-place.ensures.value
    c.args.ask.now c.answer-refusal.new.self c.answer-refusal.result c.tell.new.late.items c.answer-refusal.ensures.answer c.answer-refusal.ensures.after told in
    let is =
    spent_after r j call c.tell.new.late.items _ _ full refused.late_is c.count.ensures.bads c.count.ensures.gones ∙ ap (after_call j call) c.self.view_is in
    let answered : IsAnswered (moment old) j (slot_call call) =
    subst (λ (s : MemRackState). IsAnswered (moment s) j (slot_call call)) c.self.view_is refused.answered in
    record {
      asked = subst (IsAnswerTo c.args.ask.now) (sym c.answer-refusal.ensures.answer) (answer_asked true c.args.ask.now c.index_mut-place.result.now);
      one = one_call old _ _ j call c.requires (sound_old r old c.self.view_is c.self.invariant) (began_old r old c.self.view_is c.self.invariant) answered is;
      good = λ k good. absurd (refusal_not_good c.args.ask.now c.index_mut-place.result.now k (sym c.answer-refusal.ensures.answer ∙ good));
      unread = c.answer-refusal.ensures.unread;
    }

pub answer-call-requires : goal.answer-call-requires
answer-call-requires c =
    let r = c.self.inside in
    let less : vec_len r.log < r.room = omega arith in
    let acts = acted r c.len-2.result c.act_before.new.places.items c.act_before.new.stopped c.act_before.new.blanks.items c.self.invariant c.len-2.ensures less
    c.act_before.ensures.shelf c.act_before.ensures.room c.act_before.ensures.blanks in
    λ running k.
    pending_fits r c.act_before.new.places.items c.act_before.new.stopped c.act_before.new.blanks.items c.args.slot k c.index_mut.result.now c.requires
    c.self.invariant less acts c.index_mut.ensures.value

pub invariant_of-self-2 : goal.invariant_of-self-2
invariant_of-self-2 c =
    let r = c.self.inside in
    let j : ℕ = c.args.slot in
    let call : Call = c.answer-call.result in
    let less : vec_len r.log < r.room = omega arith in
    let acts = acted r c.len-2.result c.act_before.new.places.items c.act_before.new.stopped c.act_before.new.blanks.items c.self.invariant c.len-2.ensures less
    c.act_before.ensures.shelf c.act_before.ensures.room c.act_before.ensures.blanks in
    let next = next_of (state_of r) c.act_before.new.places.items c.act_before.new.stopped c.act_before.new.blanks.items j c.index_mut.result.now c.requires
    acts c.index_mut.ensures.value c.args.ask.now c.answer-call.new.self call c.answer-call.ensures.answer c.answer-call.ensures.after in
    IsSound-recorded r _ j call c.self.invariant less
    (recorded_after r j call _ _ _ _ less c.push_reserved.ensures.items c.count-2.ensures.bads c.count-2.ensures.gones c.reads_after-self-inside.ensures)
    c.push_reserved.ensures.capacity refl next

pub returns : goal.returns
returns c =
    let r = c.self.inside in
    let j : ℕ = c.args.slot in
    let call : Call = c.answer-call.result in
    let less : vec_len r.log < r.room = omega arith in
    let acts = acted r c.len-2.result c.act_before.new.places.items c.act_before.new.stopped c.act_before.new.blanks.items c.self.invariant c.len-2.ensures less
    c.act_before.ensures.shelf c.act_before.ensures.room c.act_before.ensures.blanks in
    let next = next_of (state_of r) c.act_before.new.places.items c.act_before.new.stopped c.act_before.new.blanks.items j c.index_mut.result.now c.requires
    acts c.index_mut.ensures.value c.args.ask.now c.answer-call.new.self call c.answer-call.ensures.answer c.answer-call.ensures.after in
    let old : MemRackState = c.args.self.now in
    let sound = sound_old r old c.self.view_is c.self.invariant in
    let is =
    recorded_after r j call _ _ _ _ less c.push_reserved.ensures.items c.count-2.ensures.bads c.count-2.ensures.gones c.reads_after-self-inside.ensures
    ∙ ap (after_call j call) c.self.view_is in
    let answered : IsAnswered (moment old) j (slot_call call) =
    subst (λ (s : MemRackState). IsAnswered (moment s) j (slot_call call)) c.self.view_is next.called.answered in
    let bytes : List ℕ = c.answer-call.new.into in
    record {
      asked = subst (IsAnswerTo c.args.ask.now) (sym c.answer-call.ensures.answer) (answer_asked c.act_before.new.stopped c.args.ask.now c.index_mut.result.now);
      one = one_call old _ _ j call c.requires sound (began_old r old c.self.view_is c.self.invariant) answered is;
      good = λ k good.
          subst (λ (s : MemRackState). content ((slot_state (history_of s) j).sector k) ≡ Good bytes) (sym (is ∙ ap (λ (d : Call). after_call j d old) good))
          (subst (λ (b : SlotState). content (b.sector k) ≡ Good bytes) (sym (after_read old j k got.Good sound.spent_only))
          (subst (λ (s : MemRackState). content ((slot_state (moment s) j).sector k) ≡ Good bytes) c.self.view_is
          (read_bytes (state_of r) c.act_before.new.places.items c.act_before.new.stopped c.act_before.new.blanks.items j c.index_mut.result.now c.requires acts
          c.index_mut.ensures.value k bytes (c.answer-call.ensures.good k good))));
      unread = c.answer-call.ensures.unread;
    }
