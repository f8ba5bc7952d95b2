-- What is put piece by piece.
use Rattle.std.proofs.Common.{◌≡◌, ℕ, Bool, true, false, Result, Ok, Err, List, [], ◌∷◌, ◌++◌, sym, ap, ◌∙◌, subst, arith, length-append, append_assoc}
use Rattle.std.specs.Prelude.{IsErr}
use Rattle.std.proofs.KnownBytes.{Appends-trans}
use Rattle.stair_rack.specs.Count.{kept-Rose}
use Rattle.stair_command.specs.Executes.{Holds}
use Rattle.stair_command.specs.Outside.{SinkView}
use Rattle.stair_command.specs.Trace.{HasPut, IsPart, PutFailed}
use Rattle.stair_command.specs.Streams.{PutsAll}
use Rattle.stair_command.proofs.StreamLaws.{PutsAll-err}

-- a part of the bytes was put, and then the sink failed
abbrev pub PutsPart : {K : Type 0} → SinkView K → List ℕ → K → K → Type 0
PutsPart view bytes old new = (part : List ℕ) × IsPart part bytes × Holds view (PutFailed part) old new

-- a part of the front is a part of all
IsPart-front : (part xs ys : List ℕ) → IsPart part xs → IsPart part (xs ++ ys)
IsPart-front part xs ys in_xs =
    let rest = in_xs.0 in (
      rest ++ ys,
      ap (λ bytes. bytes ++ ys) in_xs.1 ∙ append_assoc part rest ys,
      omega (arith, in_xs.2, length-append rest ys),
    )

-- the front, and a part of what is after it
IsPart-behind : (part xs ys : List ℕ) → IsPart part ys → IsPart (xs ++ part) (xs ++ ys)
IsPart-behind part xs ys in_ys =
    let rest = in_ys.0 in
    (rest, ap (λ bytes. xs ++ bytes) in_ys.1 ∙ sym (append_assoc xs part rest), in_ys.2)

module _ {K T E : Type 0} (view : SinkView K) where
  -- a piece, and what is after it
  pub puts_then : (r : Result T E) (xs ys : List ℕ) (a b c : K) → Holds view (HasPut xs) a b → PutsAll view r ys b c → PutsAll view r (xs ++ ys) a c
  puts_then (Ok x) xs ys a b c first then =
      (Appends-trans (view.held a) (view.held b) (view.held c) xs ys first.0 then.0, omega (arith, first.1, then.1))
  puts_then (Err e) xs ys a b c first then =
      let part = then.0 in
      let put = then.2 in (
        xs ++ part,
        IsPart-behind part xs ys then.1,
        (
          Appends-trans (view.held a) (view.held b) (view.held c) xs part first.0 put.0,
          omega (arith, first.1, put.1),
          kept-Rose _ _ _ first.1 put.1 put.2,
        ),
      )

  -- a part of the first piece, and the fault is handed on
  pub puts_first : (r : Result T E) (xs ys : List ℕ) (a b : K) → IsErr r → PutsPart view xs a b → PutsAll view r (xs ++ ys) a b
  puts_first r xs ys a b is puts = PutsAll-err view r puts.0 (xs ++ ys) a b is (IsPart-front puts.0 xs ys puts.1) puts.2

  -- a part of one more piece, and the fault is handed on
  pub puts_more_part : (r : Result T E) (before piece behind all : List ℕ) (a b c : K) → IsErr r → (before ++ piece) ++ behind ≡ all
      → Holds view (HasPut before) a b → PutsPart view piece b c → PutsAll view r all a c
  puts_more_part r before piece behind all a b c is whole first then =
      subst (λ (bytes : List ℕ). PutsAll view r bytes a c) (sym (append_assoc before piece behind) ∙ whole)
      (puts_then r before (piece ++ behind) a b c first (puts_first r piece behind b c is then))

-- one more piece
pub puts_more : {K : Type 0} (view : SinkView K) (before piece : List ℕ) (a b c : K) → Holds view (HasPut before) a b → Holds view (HasPut piece) b c
    → Holds view (HasPut (before ++ piece)) a c
puts_more view before piece a b c first then =
    (Appends-trans (view.held a) (view.held b) (view.held c) before piece first.0 then.0, omega (arith, first.1, then.1))
