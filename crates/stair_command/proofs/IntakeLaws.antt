-- Bytes that were taken and counted, piece by piece.
use Rattle.std.proofs.Common.{◌≡◌, ℕ, ◌+◌, ◌<◌, ◌≤◌, le_refl, Bool, true, false, inl, inr, List, [], ◌∷◌, ◌++◌, None, Some, IfSome, Result, Ok, Err, length, refl, sym, ap, ap₂, ◌∙◌, subst, arith, length-append, add-zero}
use Rattle.std.specs.Prelude.{Option, IfErr, OnOk, IsTrue}
use Rattle.std.specs.Result.{IsErrAnd}
use Rattle.std.specs.Io.KnownBytes.{Consumes, IsAtEnd, Keeps}
use Rattle.std.proofs.KnownBytes.{Consumes-kept, Consumes-nil, Consumes-trans, Consumes-whole}
use Rattle.std.proofs.lemmas.Bool.{cases_lt}
use Rattle.stair_rack.specs.Count.{Rose, kept-Rose}
use Rattle.stair_command.specs.declared.intake.Intake.{Intake}
use Rattle.stair_command.specs.declared.fault.Fault.{Fault}
use Rattle.stair_command.specs.declared.fault.Fault.TheVariants as fault
use Rattle.stair_command.specs.Executes.{Gives}
use Rattle.stair_command.specs.Outside.{SourceView}
use Rattle.stair_status.specs.declared.status.Status.TheVariants.{Input, InputFault}
use Rattle.stair_command.specs.Program.{Over, take_exactly}
use Rattle.stair_command.specs.Trace.{AreEnough, Took, TookLast, TakeFailed}
use Rattle.stair_command.specs.Taking.{CutsShort, GoesOn, PieceIsCut, TakesBytes, TakesWhole, TookSoFar, intake_of}

-- exactly as many as were asked for
pub are_all : (n : ℕ) (bytes : List ℕ) → length bytes ≡ n → AreEnough n n bytes
are_all n bytes long = record { enough = omega (arith, long); within = omega (arith, long) }

-- a fact of the error that was handed on
pub if_err_of : {T E : Type 0} (r : Result T E) (e : E) (P : E → Type 0) → IsErrAnd r (λ y. y ≡ e) → P e → IfErr r P
if_err_of (Ok x) e P is fact = tt
if_err_of (Err y) e P is fact = subst P (sym is) fact

-- all that was told after these bytes was taken, so all that was told
all-later : (a b : Option (List ℕ)) (xs ys : List ℕ) → Consumes a b xs → IfSome b (λ all. ys ≡ all) → IfSome a (λ all. xs ++ ys ≡ all)
all-later None b xs ys gives all = tt
all-later (Some x) None xs ys gives all = absurd gives
all-later (Some x) (Some y) xs ys gives all = ap (λ l. xs ++ l) all ∙ sym gives

-- a test that isn't true
not_true : (b : Bool) → (IsTrue b → ⊥) → b ≡ false
not_true true fails = absurd (fails refl)
not_true false fails = refl

module _ {S : Type 0} (view : SourceView S) where
  -- one take that gave these bytes
  pub Gives-take : (bytes : List ℕ) (a b : S) → Consumes (view.left a) (view.left b) bytes → view.faults a ≤ view.faults b
      → (IsTrue (view.ended a) → ⊥) → (IsTrue (view.ended b) → ⊥) → Gives view (Took bytes) a b
  Gives-take bytes a b consumed count before after = (consumed, not_true (view.ended a) before, not_true (view.ended b) after, count)

  -- one take that failed
  pub Gives-fault : (bytes : List ℕ) (a b : S) → Consumes (view.left a) (view.left b) bytes → view.faults a ≤ view.faults b
      → (IsTrue (view.ended a) → ⊥) → (IsTrue (view.ended b) → ⊥) → Rose (view.faults a) (view.faults b) → Gives view (TakeFailed bytes) a b
  Gives-fault bytes a b consumed count before after rose =
      (consumed, not_true (view.ended a) before, not_true (view.ended b) after, count, rose)

  pub TookSoFar-none : (a : S) → TookSoFar view [] a a
  TookSoFar-none a = record {
    consumed = Consumes-nil (view.left a);
    count = le_refl (view.faults a);
    running = λ some. absurd (omega (arith, some));
    fresh = λ none. refl;
  }

  pub TookSoFar-took : (bytes : List ℕ) (a b : S) → Gives view (Took bytes) a b → TookSoFar view bytes a b
  TookSoFar-took bytes a b gives = record {
    consumed = gives.0;
    count = gives.3;
    running = λ some. (gives.1, gives.2);
    fresh = λ none. gives.2 ∙ sym gives.1;
  }

  -- these bytes, and then those
  pub TookSoFar-more : (xs ys : List ℕ) (a b c : S) → TookSoFar view xs a b → TookSoFar view ys b c → TookSoFar view (xs ++ ys) a c
  TookSoFar-more xs ys a b c before more = record {
    consumed = Consumes-trans (view.left a) (view.left b) (view.left c) xs ys before.consumed more.consumed;
    count = omega (arith, before.count, more.count);
    running = λ some. (
      elim (cases_lt 0 (length xs)) as (λ _. view.ended a ≡ false) [
        | inl any ↦ (before.running any).0
        | inr none ↦
            sym (before.fresh (omega (arith, none))) ∙ (more.running (omega (arith, some, none, length-append xs ys))).0
      ],
      elim (cases_lt 0 (length ys)) as (λ _. view.ended c ≡ false) [
        | inl any ↦ (more.running any).1
        | inr none ↦
            more.fresh (omega (arith, none)) ∙ (before.running (omega (arith, some, none, length-append xs ys))).1
      ],
    );
    fresh = λ none. more.fresh (omega (arith, none, length-append xs ys)) ∙ before.fresh (omega (arith, none, length-append xs ys));
  }

  -- all of it
  pub Gives-took : (bytes : List ℕ) (a b : S) → 0 < length bytes → TookSoFar view bytes a b → Gives view (Took bytes) a b
  Gives-took bytes a b some took = (took.consumed, (took.running some).0, (took.running some).1, took.count)

  -- after these bytes the source ended
  pub Gives-last : (xs ys : List ℕ) (a b c : S) → TookSoFar view xs a b → Gives view (TookLast ys) b c → Gives view (TookLast (xs ++ ys)) a c
  Gives-last xs ys a b c before last = (
    Consumes-trans (view.left a) (view.left b) (view.left c) xs ys before.consumed last.0,
    all-later (view.left a) (view.left b) xs ys before.consumed last.1,
    last.2,
    omega (arith, before.count, last.3),
  )

  -- after these bytes the source failed
  pub Gives-failed : (xs ys : List ℕ) (a b c : S) → TookSoFar view xs a b → Gives view (TakeFailed ys) b c → Gives view (TakeFailed (xs ++ ys)) a c
  Gives-failed xs ys a b c before failed = (
    Consumes-trans (view.left a) (view.left b) (view.left c) xs ys before.consumed failed.0,
    elim (cases_lt 0 (length xs)) as (λ _. view.ended a ≡ false) [
      | inl any ↦ (before.running any).0
      | inr none ↦ sym (before.fresh (omega (arith, none))) ∙ failed.1
    ],
    failed.2,
    omega (arith, before.count, failed.3),
    kept-Rose (view.faults a) (view.faults b) (view.faults c) before.count failed.3 failed.4,
  )

  -- after these bytes the source was at its end
  pub Gives-ended : (bytes : List ℕ) (a b c : S) → TookSoFar view bytes a b → IsAtEnd (view.left b) → Keeps (view.left b) (view.left c)
      → view.faults b ≤ view.faults c → IsTrue (view.ended c) → Gives view (TookLast bytes) a c
  Gives-ended bytes a b c before at_end kept count ended = (
    Consumes-kept (view.left a) (view.left b) (view.left c) bytes before.consumed kept,
    Consumes-whole (view.left a) (view.left b) bytes (λ all. bytes ≡ all) before.consumed at_end refl,
    ended,
    omega (arith, before.count, count),
  )

  -- after these bytes a take failed
  pub Gives-unfinished : (bytes : List ℕ) (a b c : S) → TookSoFar view bytes a b → Keeps (view.left b) (view.left c)
      → view.faults b ≤ view.faults c → (IsTrue (view.ended b) → ⊥) → (IsTrue (view.ended c) → ⊥) → Rose (view.faults b) (view.faults c)
      → Gives view (TakeFailed bytes) a c
  Gives-unfinished bytes a b c before kept count running after rose = (
    Consumes-kept (view.left a) (view.left b) (view.left c) bytes before.consumed kept,
    elim (cases_lt 0 (length bytes)) as (λ _. view.ended a ≡ false) [
      | inl any ↦ (before.running any).0
      | inr none ↦ sym (before.fresh (omega (arith, none))) ∙ not_true (view.ended b) running
    ],
    not_true (view.ended c) after,
    omega (arith, before.count, count),
    kept-Rose (view.faults a) (view.faults b) (view.faults c) before.count count rose,
  )

  pub TakesBytes-none : (intake : Intake) (a : S) → TakesBytes view intake intake [] a a
  TakesBytes-none intake a = record {
    taken = TookSoFar-none a;
    counted =
        let took : intake.took ≡ intake.took + length {A = ℕ} [] = sym (add-zero intake.took) in
        λ i. record { needed = intake.needed; took = took i };
  }

  -- these bytes were taken and counted, and then those
  pub TakesBytes-more : (first mid last : Intake) (xs ys : List ℕ) (a b c : S)
      → TakesBytes view first mid xs a b → TakesBytes view mid last ys b c → TakesBytes view first last (xs ++ ys) a c
  TakesBytes-more first mid last xs ys a b c before more = record {
    taken = TookSoFar-more xs ys a b c before.taken more.taken;
    counted =
        let mid_took : mid.took ≡ first.took + length xs = ap (λ (k : Intake). k.took) before.counted in
        let last_took : last.took ≡ mid.took + length ys = ap (λ (k : Intake). k.took) more.counted in
        let took : last.took ≡ first.took + length (xs ++ ys) = omega (arith, length-append xs ys, mid_took, last_took) in
        let needed : last.needed ≡ first.needed = ap (λ (k : Intake). k.needed) more.counted ∙ ap (λ (k : Intake). k.needed) before.counted in
        λ i. record { needed = needed i; took = took i };
  }

  -- a piece that was cut short after these bytes cuts the whole short
  pub CutsShort-later : (first mid : Intake) (xs : List ℕ) (a b c : S) (fault : Fault)
      → TakesBytes view first mid xs a b → CutsShort view mid b c fault → CutsShort view first a c fault
  CutsShort-later first mid xs a b c (fault.Length needed took) before cut =
      let ys = cut.1.0 in
      let mid_took : mid.took ≡ first.took + length xs = ap (λ (k : Intake). k.took) before.counted in
      let took_is : took ≡ first.took + length (xs ++ ys) = omega (arith, cut.1.1, mid_took, length-append xs ys) in (
        cut.0 ∙ ap (λ (k : Intake). k.needed) before.counted,
        (xs ++ ys, took_is, cut.1.2, Gives-last xs ys a b c before.taken cut.1.3),
      )
  CutsShort-later first mid xs a b c fault.Input before cut =
      let ys = cut.0 in
      let mid_took : mid.took ≡ first.took + length xs = ap (λ (k : Intake). k.took) before.counted in
      let mid_needed : mid.needed ≡ first.needed = ap (λ (k : Intake). k.needed) before.counted in
      let few : first.took + length (xs ++ ys) < first.needed = omega (arith, cut.1, mid_took, mid_needed, length-append xs ys) in
      (xs ++ ys, few, Gives-failed xs ys a b c before.taken cut.2)
  CutsShort-later first mid xs a b c _ before cut = absurd cut

  -- a piece of so many bytes at least, which are needed, came in part
  pub piece_cuts : (least : ℕ) (intake : Intake) (a b : S) (fault : Fault) → intake.took + least ≤ intake.needed
      → PieceIsCut view least intake a b fault → CutsShort view intake a b fault
  piece_cuts least intake a b (fault.Length needed took) room cut =
      (cut.0, (cut.1.0, cut.1.1, omega (arith, cut.0, cut.1.1, cut.1.2, room), cut.1.3))
  piece_cuts least intake a b fault.Input room cut = (cut.0, omega (arith, cut.1, room), cut.2)
  piece_cuts least intake a b _ room cut = absurd cut

-- all the bytes that are needed were taken
pub all_counted : {S : Type 0} (view : SourceView S) (first last : Intake) (xs : List ℕ) (needed : ℕ) (a b : S) → first ≡ intake_of needed → length xs ≡ needed
    → TakesBytes view first last xs a b → (last.took ≡ last.needed) × (last.needed ≡ needed)
all_counted view first last xs needed a b none long taken =
    let took : last.took ≡ first.took + length xs = ap (λ (k : Intake). k.took) taken.counted in
    let needs : last.needed ≡ first.needed = ap (λ (k : Intake). k.needed) taken.counted in
    let first_took : first.took ≡ 0 = ap (λ (k : Intake). k.took) none in
    let first_needs : first.needed ≡ needed = ap (λ (k : Intake). k.needed) none in
    (omega (arith, long, took, needs, first_took, first_needs), needs ∙ first_needs)

-- Of a whole input: what each taker of an input says.
module _ {S T : Type 0} (view : SourceView S) (needed : ℕ) (IsInput : T → List ℕ → Type 0) where
  -- it ended or failed within the bytes that are needed
  pub whole_cut : (a b : S) (fault : Fault) → CutsShort view (intake_of needed) a b fault → TakesWhole view needed (Err fault) IsInput a b
  whole_cut a b (fault.Length wanted took) cut =
      let bytes = cut.1.0 in
      let took_is : took ≡ length bytes = omega (arith, cut.1.1) in
      record {
        bytes = [];
        is_input = tt;
        trace = TookLast bytes ∷ [];
        takes_only = tt;
        follows = λ k. (Over (Input needed (length bytes)), (omega (arith, cut.0, cut.1.2, took_is), refl), ap₂ (λ (n t : ℕ). Over (Input n t)) cut.0 took_is);
        gives = (b, cut.1.3, refl);
      }
  whole_cut a b fault.Input cut = record {
    bytes = [];
    is_input = tt;
    trace = TakeFailed cut.0 ∷ [];
    takes_only = tt;
    follows = λ k. (Over InputFault, (omega (arith, cut.1), refl), refl);
    gives = (b, cut.2, refl);
  }
  whole_cut a b _ cut = absurd cut

  -- the end was seen after them
  pub whole_ended : (bytes : List ℕ) (a b c : S) (x : T) → 0 < needed → length bytes ≡ needed → TookSoFar view bytes a b → Gives view (TookLast []) b c
      → IsInput x bytes → TakesWhole view needed (Ok x) IsInput a c
  whole_ended bytes a b c x some long took last is = record {
    bytes = bytes;
    is_input = is;
    trace = Took bytes ∷ TookLast [] ∷ [];
    takes_only = tt;
    follows = λ k. (
      take_exactly 1 (λ more. Over (Input needed (needed + 1))) (λ none. k bytes),
      (are_all needed bytes long, refl),
      (k bytes, (omega arith, refl), refl),
    );
    gives = (b, Gives-took view bytes a b (omega (arith, some, long)) took, (c, last, refl));
  }

  -- it was not
  pub whole_goes_on : (bytes : List ℕ) (a b c : S) (fault : Fault) (looked : ℕ) → looked ≡ needed → 0 < needed → length bytes ≡ needed
      → TookSoFar view bytes a b → GoesOn view looked b c fault → TakesWhole view needed (Err fault) IsInput a c
  whole_goes_on bytes a b c (fault.Length wanted count) looked same some long took more = record {
    bytes = [];
    is_input = tt;
    trace = Took bytes ∷ Took more.2.0 ∷ [];
    takes_only = tt;
    follows = λ k. (
      take_exactly 1 (λ more. Over (Input needed (needed + 1))) (λ none. k bytes),
      (are_all needed bytes long, refl),
      (Over (Input needed (needed + 1)), (are_all 1 more.2.0 more.2.1, refl), ap₂ (λ (n t : ℕ). Over (Input n t)) (more.0 ∙ same) (more.1 ∙ ap (λ (n : ℕ). n + 1) same)),
    );
    gives = (b, Gives-took view bytes a b (omega (arith, some, long)) took, (c, more.2.2, refl));
  }
  whole_goes_on bytes a b c fault.Input looked same some long took more = record {
    bytes = [];
    is_input = tt;
    trace = Took bytes ∷ TakeFailed [] ∷ [];
    takes_only = tt;
    follows = λ k. (
      take_exactly 1 (λ more. Over (Input needed (needed + 1))) (λ none. k bytes),
      (are_all needed bytes long, refl),
      (Over InputFault, (omega arith, refl), refl),
    );
    gives = (b, Gives-took view bytes a b (omega (arith, some, long)) took, (c, more, refl));
  }
  whole_goes_on bytes a b c _ looked same some long took more = absurd more

  -- either, where the result is that of looking for it
  pub whole_end : (bytes : List ℕ) (a b c : S) (r : Result T Fault) (looked : ℕ) → looked ≡ needed → 0 < needed → length bytes ≡ needed
      → TookSoFar view bytes a b → OnOk r (Gives view (TookLast []) b c) → IfErr r (GoesOn view looked b c) → ((x : T) → IsInput x bytes) → TakesWhole view needed r IsInput a c
  whole_end bytes a b c (Ok x) looked same some long took ended more is = whole_ended bytes a b c x some long took ended (is x)
  whole_end bytes a b c (Err fault) looked same some long took ended more is = whole_goes_on bytes a b c fault looked same some long took more

-- what is said where the error was handed on
pub whole_handed_on : {S T : Type 0} (view : SourceView S) (needed : ℕ) (IsInput : T → List ℕ → Type 0) (a b : S) (r : Result T Fault) (fault : Fault)
    → IsErrAnd r (λ y. y ≡ fault) → TakesWhole view needed (Err fault) IsInput a b → TakesWhole view needed r IsInput a b
whole_handed_on view needed IsInput a b (Ok x) fault is whole = absurd is
whole_handed_on view needed IsInput a b (Err y) fault is whole = subst (λ (k : Fault). TakesWhole view needed (Err k) IsInput a b) (sym is) whole
