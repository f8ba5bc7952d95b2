-- What is taken and put, piece by piece.
use Rattle.std.proofs.Common.{◌≡◌, ℕ, ◌+◌, ◌≤◌, Result, Ok, Err, List, ◌++◌, length, take, ap, ap₂, ◌∙◌, le_refl}
use Rattle.std.proofs.lemmas.List.{take-append-le, length-take-le}
use Rattle.std.proofs.lemmas.Slice.{take-put_mid_below}
use Rattle.std.specs.Prelude.{IsErr}
use Rattle.stair_command.specs.Executes.{Holds}
use Rattle.stair_command.specs.Outside.{SinkView}
use Rattle.stair_command.specs.Trace.{IsPart, PutFailed}
use Rattle.stair_command.specs.Streams.{PutsAll}
use borrow.Rule.Slice.PartMut.{put_mid, post_of}
use lib.Seq.{drop_at, take-add}

-- the bytes at the front of a piece, and the next ones after them
pub take-put_mid_more : (filled k size : ℕ) (xs ys : List ℕ) → filled ≤ length xs → k ≤ length ys
    → take (filled + k) (put_mid filled size xs ys) ≡ take filled xs ++ take k ys
take-put_mid_more filled k size xs ys in_xs in_ys =
    take-add filled k (put_mid filled size xs ys)
    ∙ ap₂ (λ (a b : List ℕ). a ++ b) (take-put_mid_below filled size xs ys filled (le_refl filled) in_xs)
    (ap (take k) (drop_at (take filled xs) (ys ++ post_of filled size xs) filled (length-take-le filled xs in_xs))
    ∙ take-append-le k ys (post_of filled size xs) in_ys)

-- a part was put where the error is handed on
pub PutsAll-err : {K T E : Type 0} (view : SinkView K) (r : Result T E) (part bytes : List ℕ) (a b : K) → IsErr r → IsPart part bytes
    → Holds view (PutFailed part) a b → PutsAll view r bytes a b
PutsAll-err view (Ok x) part bytes a b is in_bytes holds = cc
PutsAll-err view (Err y) part bytes a b is in_bytes holds = (part, in_bytes, holds)
